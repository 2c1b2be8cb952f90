-- What is known of a file with its section headers (our profile).
use Rattle.std.specs.Prelude.{◌≡◌, ℕ, true, ◌+◌, ◌*◌, ◌<◌, ◌≤◌, ◌^◌, length, Option}
use Rattle.oc_elf.specs.{declared.class.ElfClass.{ElfClass}, declared.ehdr.Ehdr.{Ehdr}, declared.shdr.Shdr.{Shdr}, Classes.{is_big, word_of}}
use Rattle.oc_elf.specs.{Ehdr.{ehdr_in, ehdr_size}, Shdr.{shdr_size}, Sections.{shndx_number}, Frames.{FileFrame, framed, count_by}}

-- the headers begin where the file header says, and end in the file
pub record IsLaid (f : FileFrame) (start : ℕ) (shndx : Option ℕ) : Type 0 where
  pub is : f ≡ framed f.class f.file
  pub start_is : start ≡ (ehdr_in (word_of f.class) f.file).e_shoff
  pub shndx_is : shndx ≡ shndx_number f.class f.headers
  pub few : length f.headers < 2 ^ 21
  pub ends : start + shdr_size (word_of f.class) * length f.headers ≤ length f.file
  pub small : length f.file ≤ 67108864

-- its headers are those of its file, and there are few
pub record IsFrame (f : FileFrame) : Type 0 where
  pub is : f ≡ framed f.class f.file
  pub few : length f.headers < 2 ^ 21
  pub small : length f.file ≤ 67108864

-- the file header is present, and the section headers lie in a file of so many bytes
pub record HasHeader (w : ElfClass) (size : ℕ) (h : Ehdr) (zero : Shdr) : Type 0 where
  pub there : ehdr_size (word_of w) ≤ size
  pub first : is_big w ≡ true → h.e_shoff + shdr_size (word_of w) ≤ size
  pub lies : h.e_shoff + shdr_size (word_of w) * count_by w h zero ≤ size
