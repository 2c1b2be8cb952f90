-- The first bytes of a canonical file tell its format.
use Rattle.std.proofs.Common.{◌≡◌, ℕ, ◌≤◌, Bool, true, false, cond, not, ◌&&◌, ◌||◌, eqb, nat_le, List, length, Some, refl, ◌∙◌, ap, arith}
use Rattle.oc_base.specs.{declared.format.Word.{Word}, declared.format.Word.TheVariants.{W32, W64}}
use Rattle.oc_base.specs.{declared.format.Format.TheVariants.{Elf32, Elf64, Omf, BigElf32, BigElf64}, Numbers.{bytes_of_number}}
use Rattle.oc_neutral.specs.{KindRules.{begins}, Objects.{Object}}
use Rattle.oc_convert.specs.Identified.{identified, elf32_bytes, elf64_bytes, is_big_elf32, is_big_elf64}
use Rattle.oc_elf.specs.{declared.class.ElfClass.{ElfClass}, declared.class.ElfClass.TheVariants.{Class32, Class64, Big32, Big64}}
use Rattle.oc_elf.specs.{declared.constants.TheConstants.{SHN_XINDEX}, declared.ehdr.Ehdr.{Ehdr}, Classes.{format_of, is_big, word_of}}
use Rattle.oc_elf.specs.Ehdr.{ehdr_in, ehdr_size}
use Rattle.oc_elf.specs.Structures as elf
use Rattle.oc_elf_file.specs.Layout as elf_layout
use Rattle.oc_elf_file.specs.Canonical as elf_canonical
use Rattle.oc_elf_file.specs.Canonical.{file_header, elf_file}
use Rattle.oc_elf_file.proofs.{CodedLaws.{IsForElf}, CodableLaws.{has_numbers}, FrameLaws.{header_read}}
use Rattle.oc_elf_file.proofs.HeaderNumbers.{header_inside, some_table, big_number, plain_number, plain_names}
use Rattle.oc_coff.specs.declared.form.CoffForm.{CoffForm}
use Rattle.oc_coff.specs.declared.form.CoffForm.TheVariants as form
use Rattle.oc_coff.specs.Forms as coff_forms
use Rattle.oc_coff.specs.FileHeader as coff
use Rattle.oc_coff_file.specs.Layout as coff_layout
use Rattle.oc_coff_file.specs.Canonical as coff_canonical
use Rattle.oc_coff_file.specs.Canonical.{coff_file}
use Rattle.oc_macho.specs.MachHeader.{mach_format}
use Rattle.oc_macho.specs.Structures as mach
use Rattle.oc_macho_file.specs.Layout as mach_layout
use Rattle.oc_macho_file.specs.Canonical as mach_canonical
use Rattle.oc_macho_file.specs.Canonical.{mach_file}
use Rattle.oc_omf.specs.Bytes as omf
use Rattle.oc_omf_file.specs.Outputs as omf_outputs
use Rattle.oc_omf_file.specs.Canonical.{omf_file}
use Rattle.oc_macho_file.proofs.StructureLaws.{high_test}

-- ... ELF: the file header says where its numbers stand

-- the numbers of the section headers stand in the first of them, by this file header of a file of so many bytes
abbrev stand_elsewhere : ElfClass → ℕ → Ehdr → Bool
stand_elsewhere class size h = nat_le (ehdr_size (word_of class)) size && not (eqb h.e_shoff 0) && (eqb h.e_shnum 0 || eqb h.e_shstrndx SHN_XINDEX)

none_stands : (a b : Bool) → (a && b && false) ≡ false
none_stands a b = grind arith

module _ (class : ElfClass) (n : Object) (is : IsForElf class n) where
  abbrev file : List ℕ
  file = elf_file class n

  abbrev header : Ehdr
  header = file_header class n

  elsewhere_is : stand_elsewhere class (length file) (ehdr_in (word_of class) file) ≡ stand_elsewhere class (length file) header
  elsewhere_is = ap (stand_elsewhere class (length file)) (header_read class n (has_numbers class n is))

  few_here : is_big class ≡ false → stand_elsewhere class (length file) (ehdr_in (word_of class) file) ≡ false
  few_here plain =
      elsewhere_is
      ∙ ap (λ b. nat_le (ehdr_size (word_of class)) (length file) && not (eqb header.e_shoff 0) && (b || eqb header.e_shstrndx SHN_XINDEX)) (plain_number class n is plain)
      ∙ ap (λ b. nat_le (ehdr_size (word_of class)) (length file) && not (eqb header.e_shoff 0) && b) (plain_names class n is plain)
      ∙ none_stands (nat_le (ehdr_size (word_of class)) (length file)) (not (eqb header.e_shoff 0))

  many_elsewhere : is_big class ≡ true → stand_elsewhere class (length file) (ehdr_in (word_of class) file) ≡ true
  many_elsewhere big =
      elsewhere_is
      ∙ ap (λ b. b && not (eqb header.e_shoff 0) && (eqb header.e_shnum 0 || eqb header.e_shstrndx SHN_XINDEX)) (high_test (ehdr_size (word_of class)) (length file) (header_inside class n))
      ∙ ap (λ b. not b && (eqb header.e_shnum 0 || eqb header.e_shstrndx SHN_XINDEX)) (some_table class n)
      ∙ ap (λ (count : ℕ). eqb count 0 || eqb header.e_shstrndx SHN_XINDEX) (big_number class n big)

-- what a header of ELF is looked at for
elsewhere_32 : (file : List ℕ) → is_big_elf32 file ≡ stand_elsewhere Class32 (length file) (ehdr_in W32 file)
unfolding ehdr_in
elsewhere_32 file = refl

elsewhere_64 : (file : List ℕ) → is_big_elf64 file ≡ stand_elsewhere Class64 (length file) (ehdr_in W64 file)
unfolding ehdr_in
elsewhere_64 file = refl

big_elsewhere_32 : (file : List ℕ) → is_big_elf32 file ≡ stand_elsewhere Big32 (length file) (ehdr_in W32 file)
unfolding ehdr_in
big_elsewhere_32 file = refl

big_elsewhere_64 : (file : List ℕ) → is_big_elf64 file ≡ stand_elsewhere Big64 (length file) (ehdr_in W64 file)
unfolding ehdr_in
big_elsewhere_64 file = refl

picked : {X : Type 0} (b : Bool) (x y : X) → b ≡ true → cond b x y ≡ x
picked b x y e = ap (λ c. cond c x y) e

passed : {X : Type 0} (b : Bool) (x y : X) → b ≡ false → cond b x y ≡ y
passed b x y e = ap (λ c. cond c x y) e

-- the format by that
identified_32 : (file : List ℕ) (big : Bool) → begins file elf32_bytes ≡ true → is_big_elf32 file ≡ big → identified file ≡ Some (cond big BigElf32 Elf32)
unfolding identified
identified_32 file big first told = picked _ _ _ first ∙ ap (λ b. Some (cond b BigElf32 Elf32)) told

identified_64 : (file : List ℕ) (big : Bool) → begins file elf32_bytes ≡ false → begins file elf64_bytes ≡ true → is_big_elf64 file ≡ big → identified file ≡ Some (cond big BigElf64 Elf64)
unfolding identified
identified_64 file big other first told = passed _ _ _ other ∙ picked _ _ _ first ∙ ap (λ b. Some (cond b BigElf64 Elf64)) told

-- the first bytes
first_32 : (n : Object) → (begins (elf_file Class32 n) elf32_bytes ≡ true) × (begins (elf_file Big32 n) elf32_bytes ≡ true)
unfolding elf_file elf_layout.parts_of elf_canonical.part_bytes elf.ehdr_bytes elf_canonical.file_header bytes_of_number
first_32 n = (refl, refl)

first_64 : (n : Object) → ((begins (elf_file Class64 n) elf32_bytes ≡ false) × (begins (elf_file Class64 n) elf64_bytes ≡ true)) × ((begins (elf_file Big64 n) elf32_bytes ≡ false) × (begins (elf_file Big64 n) elf64_bytes ≡ true))
unfolding elf_file elf_layout.parts_of elf_canonical.part_bytes elf.ehdr_bytes elf_canonical.file_header bytes_of_number
first_64 n = ((refl, refl), (refl, refl))

pub elf_known : (class : ElfClass) (n : Object) → IsForElf class n → identified (elf_file class n) ≡ Some (format_of class)
elf_known Class32 n is = identified_32 (elf_file Class32 n) false (first_32 n).0 (elsewhere_32 (elf_file Class32 n) ∙ few_here Class32 n is refl)
elf_known Class64 n is = let first = (first_64 n).0 in identified_64 (elf_file Class64 n) false first.0 first.1 (elsewhere_64 (elf_file Class64 n) ∙ few_here Class64 n is refl)
elf_known Big32 n is = identified_32 (elf_file Big32 n) true (first_32 n).1 (big_elsewhere_32 (elf_file Big32 n) ∙ many_elsewhere Big32 n is refl)
elf_known Big64 n is = let first = (first_64 n).1 in identified_64 (elf_file Big64 n) true first.0 first.1 (big_elsewhere_64 (elf_file Big64 n) ∙ many_elsewhere Big64 n is refl)

-- ... the others: by the numbers that they begin with

pub coff_known : (f : CoffForm) (n : Object) → identified (coff_file f n) ≡ Some (coff_forms.format_of f)
unfolding identified coff_file coff_layout.parts_of coff_canonical.part_bytes coff.file_header_bytes coff_canonical.file_header bytes_of_number
coff_known form.Usual32 n = refl
coff_known form.Usual64 n = refl
coff_known form.Big32 n = refl
coff_known form.Big64 n = refl

pub mach_known : (w : Word) (n : Object) → identified (mach_file w n) ≡ Some (mach_format w)
unfolding identified mach_file mach_layout.parts_of mach_canonical.part_bytes mach.mach_header_bytes mach_canonical.file_header bytes_of_number
mach_known w n = grind arith

pub omf_known : (n : Object) → identified (omf_file n) ≡ Some Omf
unfolding identified omf_file omf_outputs.outputs_of omf.entry_bytes bytes_of_number
omf_known n = refl
