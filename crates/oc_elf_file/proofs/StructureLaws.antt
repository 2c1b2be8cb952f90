-- The structures of both words are read back where their bytes stand.
use Rattle.std.proofs.Common.{◌≡◌, ℕ, ◌+◌, ◌*◌, ◌/◌, ◌%◌, ◌<◌, List, length, refl, sym, arith}
use Rattle.oc_base.specs.{declared.format.Word.{Word}, declared.format.Word.TheVariants.{W32, W64}}
use Rattle.oc_base.proofs.NumberLaws.{length-bytes_of_number}
use Rattle.oc_elf.specs.{declared.class.ElfClass.{ElfClass}, Classes.{word_of}, declared.ehdr.Ehdr.{Ehdr}, declared.shdr.Shdr.{Shdr}, declared.sym.Sym.{Sym}}
use Rattle.oc_elf.specs.{declared.rel.Rel.{Rel}, Ehdr.{ehdr_in, ehdr_size}, Shdr.{shdr_in, shdr_size}, Sym.{signed_index, sym_in, sym_size}}
use Rattle.oc_elf.specs.{Tables.{with_index}, Rel.{rel_in, rel_size}}
use Rattle.oc_elf.specs.Structures.{ehdr_numbers, ehdr_bytes, shdr_numbers, shdr_bytes, stored_index, extended_index, index_bytes, sym_row, sym_numbers, sym_bytes, rel_numbers, rel_bytes}
use Rattle.oc_shelf.specs.{Writing.Packed.{packed}, Writing.Parts.{Stands}}
use Rattle.oc_shelf.proofs.WritingLaws.PackedLemmas.{Fit, length-packed, number_in}

-- ... their sizes

pub length-ehdr_bytes : (word : Word) (h : Ehdr) → length (ehdr_bytes word h) ≡ ehdr_size word
unfolding ehdr_bytes
length-ehdr_bytes W32 h = length-packed (ehdr_numbers W32 h)
length-ehdr_bytes W64 h = length-packed (ehdr_numbers W64 h)

pub length-shdr_bytes : (word : Word) (s : Shdr) → length (shdr_bytes word s) ≡ shdr_size word
unfolding shdr_bytes
length-shdr_bytes W32 s = length-packed (shdr_numbers W32 s)
length-shdr_bytes W64 s = length-packed (shdr_numbers W64 s)

length-sym_row : (word : Word) (s : Sym) (index : ℕ) → length (packed (sym_row word s index)) ≡ sym_size word
length-sym_row W32 s index = length-packed (sym_row W32 s index)
length-sym_row W64 s index = length-packed (sym_row W64 s index)

pub length-sym_bytes : (class : ElfClass) (s : Sym) → length (sym_bytes class s) ≡ sym_size (word_of class)
unfolding sym_bytes
length-sym_bytes class s = length-sym_row (word_of class) s (stored_index class s.st_shndx)

pub length-index_bytes : (s : Sym) → length (index_bytes s) ≡ 4
unfolding index_bytes
length-index_bytes s = length-bytes_of_number 4 (extended_index s.st_shndx)

pub length-rel_bytes : (word : Word) (r : Rel) → length (rel_bytes word r) ≡ rel_size word
unfolding rel_bytes
length-rel_bytes W32 r = length-packed (rel_numbers W32 r)
length-rel_bytes W64 r = length-packed (rel_numbers W64 r)

-- ... they are read

pub ehdr_stands : (word : Word) (file : List ℕ) (h : Ehdr) → Stands file 0 (ehdr_bytes word h) → Fit (ehdr_numbers word h) → ehdr_in word file ≡ h
unfolding ehdr_in ehdr_bytes
ehdr_stands W32 file h s fit = rw (
  number_in file 0 (ehdr_numbers W32 h) 5 5 s fit (omega arith) refl,
  number_in file 0 (ehdr_numbers W32 h) 6 6 s fit (omega arith) refl,
  number_in file 0 (ehdr_numbers W32 h) 8 16 s fit (omega arith) refl,
  number_in file 0 (ehdr_numbers W32 h) 9 18 s fit (omega arith) refl,
  number_in file 0 (ehdr_numbers W32 h) 10 20 s fit (omega arith) refl,
  number_in file 0 (ehdr_numbers W32 h) 13 32 s fit (omega arith) refl,
  number_in file 0 (ehdr_numbers W32 h) 15 40 s fit (omega arith) refl,
  number_in file 0 (ehdr_numbers W32 h) 18 46 s fit (omega arith) refl,
  number_in file 0 (ehdr_numbers W32 h) 19 48 s fit (omega arith) refl,
  number_in file 0 (ehdr_numbers W32 h) 20 50 s fit (omega arith) refl,
) refl
ehdr_stands W64 file h s fit = rw (
  number_in file 0 (ehdr_numbers W64 h) 5 5 s fit (omega arith) refl,
  number_in file 0 (ehdr_numbers W64 h) 6 6 s fit (omega arith) refl,
  number_in file 0 (ehdr_numbers W64 h) 8 16 s fit (omega arith) refl,
  number_in file 0 (ehdr_numbers W64 h) 9 18 s fit (omega arith) refl,
  number_in file 0 (ehdr_numbers W64 h) 10 20 s fit (omega arith) refl,
  number_in file 0 (ehdr_numbers W64 h) 13 40 s fit (omega arith) refl,
  number_in file 0 (ehdr_numbers W64 h) 15 52 s fit (omega arith) refl,
  number_in file 0 (ehdr_numbers W64 h) 18 58 s fit (omega arith) refl,
  number_in file 0 (ehdr_numbers W64 h) 19 60 s fit (omega arith) refl,
  number_in file 0 (ehdr_numbers W64 h) 20 62 s fit (omega arith) refl,
) refl

first : (at : ℕ) → at ≡ at + 0
first at = omega arith

pub shdr_stands : (word : Word) (file : List ℕ) (at : ℕ) (h : Shdr) → Stands file at (shdr_bytes word h) → Fit (shdr_numbers word h) → shdr_in word file at ≡ h
unfolding shdr_in shdr_bytes
shdr_stands W32 file at h s fit = rw (
  number_in file at (shdr_numbers W32 h) 0 at s fit (omega arith) (first at),
  number_in file at (shdr_numbers W32 h) 1 (at + 4) s fit (omega arith) refl,
  number_in file at (shdr_numbers W32 h) 2 (at + 8) s fit (omega arith) refl,
  number_in file at (shdr_numbers W32 h) 4 (at + 16) s fit (omega arith) refl,
  number_in file at (shdr_numbers W32 h) 5 (at + 20) s fit (omega arith) refl,
  number_in file at (shdr_numbers W32 h) 6 (at + 24) s fit (omega arith) refl,
  number_in file at (shdr_numbers W32 h) 7 (at + 28) s fit (omega arith) refl,
  number_in file at (shdr_numbers W32 h) 8 (at + 32) s fit (omega arith) refl,
  number_in file at (shdr_numbers W32 h) 9 (at + 36) s fit (omega arith) refl,
) refl
shdr_stands W64 file at h s fit = rw (
  number_in file at (shdr_numbers W64 h) 0 at s fit (omega arith) (first at),
  number_in file at (shdr_numbers W64 h) 1 (at + 4) s fit (omega arith) refl,
  number_in file at (shdr_numbers W64 h) 2 (at + 8) s fit (omega arith) refl,
  number_in file at (shdr_numbers W64 h) 4 (at + 24) s fit (omega arith) refl,
  number_in file at (shdr_numbers W64 h) 5 (at + 32) s fit (omega arith) refl,
  number_in file at (shdr_numbers W64 h) 6 (at + 40) s fit (omega arith) refl,
  number_in file at (shdr_numbers W64 h) 7 (at + 44) s fit (omega arith) refl,
  number_in file at (shdr_numbers W64 h) 8 (at + 48) s fit (omega arith) refl,
  number_in file at (shdr_numbers W64 h) 9 (at + 56) s fit (omega arith) refl,
) refl

-- an entry as it stands in the symbol table
abbrev pub stored_sym : ElfClass → Sym → Sym
stored_sym class y = with_index y (signed_index (stored_index class y.st_shndx))

sym_row_stands : (word : Word) (file : List ℕ) (at : ℕ) (y : Sym) (index : ℕ) → Stands file at (packed (sym_row word y index)) → Fit (sym_row word y index) → sym_in word file at ≡ with_index y (signed_index index)
unfolding sym_in
sym_row_stands W32 file at y index s fit = rw (
  number_in file at (sym_row W32 y index) 0 at s fit (omega arith) (first at),
  number_in file at (sym_row W32 y index) 1 (at + 4) s fit (omega arith) refl,
  number_in file at (sym_row W32 y index) 2 (at + 8) s fit (omega arith) refl,
  number_in file at (sym_row W32 y index) 3 (at + 12) s fit (omega arith) refl,
  number_in file at (sym_row W32 y index) 4 (at + 13) s fit (omega arith) refl,
  number_in file at (sym_row W32 y index) 5 (at + 14) s fit (omega arith) refl,
) refl
sym_row_stands W64 file at y index s fit = rw (
  number_in file at (sym_row W64 y index) 0 at s fit (omega arith) (first at),
  number_in file at (sym_row W64 y index) 1 (at + 4) s fit (omega arith) refl,
  number_in file at (sym_row W64 y index) 2 (at + 5) s fit (omega arith) refl,
  number_in file at (sym_row W64 y index) 3 (at + 6) s fit (omega arith) refl,
  number_in file at (sym_row W64 y index) 4 (at + 8) s fit (omega arith) refl,
  number_in file at (sym_row W64 y index) 5 (at + 16) s fit (omega arith) refl,
) refl

pub sym_stands : (class : ElfClass) (file : List ℕ) (at : ℕ) (y : Sym) → Stands file at (sym_bytes class y) → Fit (sym_numbers class y) → sym_in (word_of class) file at ≡ stored_sym class y
unfolding sym_bytes
sym_stands class file at y s fit = sym_row_stands (word_of class) file at y (stored_index class y.st_shndx) s fit

-- an entry fits: in ELF32 its type has one byte, and it has no addend
abbrev pub FitsRel : Word → Rel → Type 0
FitsRel W32 r = Fit (rel_numbers W32 r) × (r.r_type < 256) × (r.r_addend ≡ 0)
FitsRel W64 r = Fit (rel_numbers W64 r)

pub rel_stands : (word : Word) (file : List ℕ) (at : ℕ) (r : Rel) → Stands file at (rel_bytes word r) → FitsRel word r → rel_in word file at ≡ r
unfolding rel_in rel_bytes
rel_stands W32 file at r s fit =
    let low : r.r_type < 256 = fit.1 in
    let high : (256 * r.r_sym + r.r_type) / 256 ≡ r.r_sym = omega (arith, low) in
    let rest : (256 * r.r_sym + r.r_type) % 256 ≡ r.r_type = omega (arith, low) in
    rw (
      number_in file at (rel_numbers W32 r) 0 at s fit.0 (omega arith) (first at),
      number_in file at (rel_numbers W32 r) 1 (at + 4) s fit.0 (omega arith) refl,
      high,
      rest,
      sym fit.2,
    ) refl
rel_stands W64 file at r s fit = rw (
  number_in file at (rel_numbers W64 r) 0 at s fit (omega arith) (first at),
  number_in file at (rel_numbers W64 r) 1 (at + 8) s fit (omega arith) refl,
  number_in file at (rel_numbers W64 r) 2 (at + 12) s fit (omega arith) refl,
  number_in file at (rel_numbers W64 r) 3 (at + 16) s fit (omega arith) refl,
) refl
