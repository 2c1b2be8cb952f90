-- Structures read back from their bytes, behind other bytes.
use Rattle.std.proofs.Common.{◌≡◌, ℕ, ◌+◌, ◌*◌, ◌%◌, ◌<◌, ◌≤◌, ◌^◌, cond, List, [], ◌∷◌, ◌++◌, length, take, drop, refl, sym, ◌∙◌, ap, arith}
use Rattle.std.proofs.Math.Seq.{drop-append-add}
use Rattle.oc_base.proofs.NumberLaws.{number_at-shift}
use Rattle.oc_coff.specs.{declared.file_header.FileHeader.{FileHeader}, declared.section_header.SectionHeader.{SectionHeader}}
use Rattle.oc_coff.specs.{declared.symbol.SymbolEntry.{SymbolEntry}, declared.section_aux.SectionAux.{SectionAux}, declared.weak_aux.WeakAux.{WeakAux}}
use Rattle.oc_coff.specs.{declared.relocation.Relocation.{Relocation}, declared.form.Shape.{Shape}, declared.form.Shape.TheVariants.{Usual, Big}}
use Rattle.oc_coff.specs.{Forms.{header_size, symbol_size}, FileHeader.{file_header_of, file_header_bytes, file_header_numbers}}
use Rattle.oc_coff.specs.{SectionHeader.{section_header_at, section_header_bytes}, SymbolEntry.{symbol_at, symbol_bytes, symbol_numbers, signed_number}}
use Rattle.oc_coff.specs.{SectionAux.{section_aux_at, section_aux_bytes, section_aux_numbers}, WeakAux.{weak_aux_at, weak_aux_bytes, weak_aux_numbers}}
use Rattle.oc_coff.specs.Relocation.{relocation_at, relocation_bytes}
use Rattle.std.proofs.lemmas.Bool.{lt-ltb}
use Rattle.oc_shelf.proofs.WritingLaws.PackedLemmas.{Fit, length-packed, number_at-packed}
use Rattle.oc_coff_file.proofs.PaddedLemmas.{length-named, name_at-named, number_at-named}

-- a file header has so many bytes
pub length-file_header_bytes : (z : Shape) (h : FileHeader) → length (file_header_bytes z h) ≡ header_size z
unfolding file_header_bytes
length-file_header_bytes Usual h = length-packed (file_header_numbers Usual h)
length-file_header_bytes Big h = length-packed (file_header_numbers Big h)

-- what a shape has no room for is 0
abbrev pub IsShaped : Shape → FileHeader → Type 0
IsShaped Usual h = h.Version ≡ 0
IsShaped Big h = (h.SizeOfOptionalHeader ≡ 0) × (h.Characteristics ≡ 0)

-- a file header reads back
pub file_header_of-bytes : (z : Shape) (h : FileHeader) (rest : List ℕ) → IsShaped z h → Fit (file_header_numbers z h) → file_header_of z (file_header_bytes z h ++ rest) ≡ h
unfolding file_header_of file_header_bytes
file_header_of-bytes Usual h rest none fit =
    let ns : List (ℕ × ℕ) = file_header_numbers Usual h in
    rw (
      number_at-packed ns 0 0 rest fit (omega arith) refl,
      number_at-packed ns 1 2 rest fit (omega arith) refl,
      number_at-packed ns 2 4 rest fit (omega arith) refl,
      number_at-packed ns 3 8 rest fit (omega arith) refl,
      number_at-packed ns 4 12 rest fit (omega arith) refl,
      number_at-packed ns 5 16 rest fit (omega arith) refl,
      number_at-packed ns 6 18 rest fit (omega arith) refl,
    ) (ap (λ v. record {
      Machine = h.Machine;
      NumberOfSections = h.NumberOfSections;
      TimeDateStamp = h.TimeDateStamp;
      PointerToSymbolTable = h.PointerToSymbolTable;
      NumberOfSymbols = h.NumberOfSymbols;
      SizeOfOptionalHeader = h.SizeOfOptionalHeader;
      Characteristics = h.Characteristics;
      Version = v;
    }) (sym none))
file_header_of-bytes Big h rest none fit =
    let ns : List (ℕ × ℕ) = file_header_numbers Big h in
    rw (
      number_at-packed ns 3 6 rest fit (omega arith) refl,
      number_at-packed ns 13 44 rest fit (omega arith) refl,
      number_at-packed ns 4 8 rest fit (omega arith) refl,
      number_at-packed ns 14 48 rest fit (omega arith) refl,
      number_at-packed ns 15 52 rest fit (omega arith) refl,
      number_at-packed ns 2 4 rest fit (omega arith) refl,
    ) (ap (λ (v : ℕ × ℕ). record {
      Machine = h.Machine;
      NumberOfSections = h.NumberOfSections;
      TimeDateStamp = h.TimeDateStamp;
      PointerToSymbolTable = h.PointerToSymbolTable;
      NumberOfSymbols = h.NumberOfSymbols;
      SizeOfOptionalHeader = v.0;
      Characteristics = v.1;
      Version = h.Version;
    }) (sym (ap (λ a. (a, h.Characteristics)) none.0 ∙ ap (λ b. (0, b)) none.1)))

-- eight bytes past a front
name_at-shift : (front ys : List ℕ) (at j : ℕ) → at ≡ length front + j → take 8 (drop at (front ++ ys)) ≡ take 8 (drop j ys)
name_at-shift front ys at j e = ap (λ k. take 8 (drop k (front ++ ys))) e ∙ ap (λ bytes. take 8 bytes) (drop-append-add front ys j)

-- the numbers of a section header
abbrev pub section_header_numbers : SectionHeader → List (ℕ × ℕ)
section_header_numbers h = (4, h.VirtualSize) ∷ (4, h.VirtualAddress) ∷ (4, h.SizeOfRawData) ∷ (4, h.PointerToRawData)
    ∷ (4, h.PointerToRelocations) ∷ (4, h.PointerToLinenumbers) ∷ (2, h.NumberOfRelocations) ∷ (2, h.NumberOfLinenumbers) ∷ (4, h.Characteristics) ∷ []

-- a section header has 40 bytes
pub length-section_header_bytes : (h : SectionHeader) → length h.Name ≡ 8 → length (section_header_bytes h) ≡ 40
unfolding section_header_bytes
length-section_header_bytes h eight = length-named h.Name (section_header_numbers h) eight

-- a section header reads back
pub section_header_at-bytes : (h : SectionHeader) (rest : List ℕ) → length h.Name ≡ 8 → Fit (section_header_numbers h) → section_header_at (section_header_bytes h ++ rest) 0 ≡ h
unfolding section_header_at section_header_bytes
section_header_at-bytes h rest eight fit =
    let ns : List (ℕ × ℕ) = section_header_numbers h in
    rw (
      name_at-named h.Name ns rest eight,
      number_at-named h.Name ns 0 8 rest eight fit (omega arith) refl,
      number_at-named h.Name ns 1 12 rest eight fit (omega arith) refl,
      number_at-named h.Name ns 2 16 rest eight fit (omega arith) refl,
      number_at-named h.Name ns 3 20 rest eight fit (omega arith) refl,
      number_at-named h.Name ns 4 24 rest eight fit (omega arith) refl,
      number_at-named h.Name ns 5 28 rest eight fit (omega arith) refl,
      number_at-named h.Name ns 6 32 rest eight fit (omega arith) refl,
      number_at-named h.Name ns 7 34 rest eight fit (omega arith) refl,
      number_at-named h.Name ns 8 36 rest eight fit (omega arith) refl,
    ) refl

-- a section header past a front
pub section_header_at-shift : (front ys : List ℕ) (at j : ℕ) → at ≡ length front + j → section_header_at (front ++ ys) at ≡ section_header_at ys j
unfolding section_header_at
section_header_at-shift front ys at j e = rw (
  name_at-shift front ys at j e,
  number_at-shift front ys (at + 8) (j + 8) 4 (omega (arith, e)),
  number_at-shift front ys (at + 12) (j + 12) 4 (omega (arith, e)),
  number_at-shift front ys (at + 16) (j + 16) 4 (omega (arith, e)),
  number_at-shift front ys (at + 20) (j + 20) 4 (omega (arith, e)),
  number_at-shift front ys (at + 24) (j + 24) 4 (omega (arith, e)),
  number_at-shift front ys (at + 28) (j + 28) 4 (omega (arith, e)),
  number_at-shift front ys (at + 32) (j + 32) 2 (omega (arith, e)),
  number_at-shift front ys (at + 34) (j + 34) 2 (omega (arith, e)),
  number_at-shift front ys (at + 36) (j + 36) 4 (omega (arith, e)),
) refl

-- a symbol table entry has so many bytes
pub length-symbol_bytes : (z : Shape) (s : SymbolEntry) → length s.Name ≡ 8 → length (symbol_bytes z s) ≡ symbol_size z
unfolding symbol_bytes
length-symbol_bytes Usual s eight = length-named s.Name (symbol_numbers Usual s) eight
length-symbol_bytes Big s eight = length-named s.Name (symbol_numbers Big s) eight

-- a section number that the shape has room for
abbrev pub IsSectionNumber : Shape → ℕ → Type 0
IsSectionNumber Usual n = signed_number (n % 2 ^ 16) ≡ n
IsSectionNumber Big n = Unit {0}

-- the numbers of an entry fit their widths
abbrev pub FitSymbol : Shape → SymbolEntry → Type 0
FitSymbol z s = Fit (symbol_numbers z s) × IsSectionNumber z s.SectionNumber

-- a symbol table entry reads back
pub symbol_at-bytes : (z : Shape) (s : SymbolEntry) (rest : List ℕ) → length s.Name ≡ 8 → FitSymbol z s → symbol_at z (symbol_bytes z s ++ rest) 0 ≡ s
unfolding symbol_at symbol_bytes
symbol_at-bytes Usual s rest eight fits =
    let ns : List (ℕ × ℕ) = symbol_numbers Usual s in
    let fit = fits.0 in
    rw (
      name_at-named s.Name ns rest eight,
      number_at-named s.Name ns 0 8 rest eight fit (omega arith) refl,
      number_at-named s.Name ns 1 12 rest eight fit (omega arith) refl,
      number_at-named s.Name ns 2 14 rest eight fit (omega arith) refl,
      number_at-named s.Name ns 3 16 rest eight fit (omega arith) refl,
      number_at-named s.Name ns 4 17 rest eight fit (omega arith) refl,
    ) (ap (λ k. record {
      Name = s.Name;
      Value = s.Value;
      SectionNumber = k;
      «Type» = s.Type;
      StorageClass = s.StorageClass;
      NumberOfAuxSymbols = s.NumberOfAuxSymbols;
    }) fits.1)
symbol_at-bytes Big s rest eight fits =
    let ns : List (ℕ × ℕ) = symbol_numbers Big s in
    let fit = fits.0 in
    rw (
      name_at-named s.Name ns rest eight,
      number_at-named s.Name ns 0 8 rest eight fit (omega arith) refl,
      number_at-named s.Name ns 1 12 rest eight fit (omega arith) refl,
      number_at-named s.Name ns 2 16 rest eight fit (omega arith) refl,
      number_at-named s.Name ns 3 18 rest eight fit (omega arith) refl,
      number_at-named s.Name ns 4 19 rest eight fit (omega arith) refl,
    ) refl

-- a section's auxiliary entry has so many bytes
pub length-section_aux_bytes : (z : Shape) (a : SectionAux) → length (section_aux_bytes z a) ≡ symbol_size z
unfolding section_aux_bytes
length-section_aux_bytes Usual a = length-packed (section_aux_numbers Usual a)
length-section_aux_bytes Big a = length-packed (section_aux_numbers Big a)

-- a section's auxiliary entry reads back
pub section_aux_at-bytes : (z : Shape) (a : SectionAux) (rest : List ℕ) → Fit (section_aux_numbers z a) → section_aux_at z (section_aux_bytes z a ++ rest) 0 ≡ a
unfolding section_aux_at section_aux_bytes
section_aux_at-bytes Usual a rest fit =
    let ns : List (ℕ × ℕ) = section_aux_numbers Usual a in
    rw (
      number_at-packed ns 0 0 rest fit (omega arith) refl,
      number_at-packed ns 1 4 rest fit (omega arith) refl,
      number_at-packed ns 2 6 rest fit (omega arith) refl,
      number_at-packed ns 3 8 rest fit (omega arith) refl,
      number_at-packed ns 4 12 rest fit (omega arith) refl,
      number_at-packed ns 5 14 rest fit (omega arith) refl,
    ) refl
section_aux_at-bytes Big a rest fit =
    let ns : List (ℕ × ℕ) = section_aux_numbers Big a in
    rw (
      number_at-packed ns 0 0 rest fit (omega arith) refl,
      number_at-packed ns 1 4 rest fit (omega arith) refl,
      number_at-packed ns 2 6 rest fit (omega arith) refl,
      number_at-packed ns 3 8 rest fit (omega arith) refl,
      number_at-packed ns 4 12 rest fit (omega arith) refl,
      number_at-packed ns 7 16 rest fit (omega arith) refl,
      number_at-packed ns 5 14 rest fit (omega arith) refl,
    ) (ap (λ k. record {
      Length = a.Length;
      NumberOfRelocations = a.NumberOfRelocations;
      NumberOfLinenumbers = a.NumberOfLinenumbers;
      CheckSum = a.CheckSum;
      Number = k;
      Selection = a.Selection;
    }) (omega arith))

-- a weak external's auxiliary entry has so many bytes
pub length-weak_aux_bytes : (z : Shape) (a : WeakAux) → length (weak_aux_bytes z a) ≡ symbol_size z
unfolding weak_aux_bytes
length-weak_aux_bytes Usual a = length-packed (weak_aux_numbers Usual a)
length-weak_aux_bytes Big a = length-packed (weak_aux_numbers Big a)

-- a weak external's auxiliary entry reads back
pub weak_aux_at-bytes : (z : Shape) (a : WeakAux) (rest : List ℕ) → Fit (weak_aux_numbers z a) → weak_aux_at (weak_aux_bytes z a ++ rest) 0 ≡ a
unfolding weak_aux_at weak_aux_bytes
weak_aux_at-bytes Usual a rest fit =
    let ns : List (ℕ × ℕ) = weak_aux_numbers Usual a in
    rw (
      number_at-packed ns 0 0 rest fit (omega arith) refl,
      number_at-packed ns 1 4 rest fit (omega arith) refl,
    ) refl
weak_aux_at-bytes Big a rest fit =
    let ns : List (ℕ × ℕ) = weak_aux_numbers Big a in
    rw (
      number_at-packed ns 0 0 rest fit (omega arith) refl,
      number_at-packed ns 1 4 rest fit (omega arith) refl,
    ) refl

-- the numbers of a relocation entry
abbrev pub relocation_numbers : Relocation → List (ℕ × ℕ)
relocation_numbers r = (4, r.VirtualAddress) ∷ (4, r.SymbolTableIndex) ∷ (2, r.Type) ∷ []

-- a relocation entry has 10 bytes
pub length-relocation_bytes : (r : Relocation) → length (relocation_bytes r) ≡ 10
unfolding relocation_bytes
length-relocation_bytes r = length-packed (relocation_numbers r)

-- a relocation entry reads back
pub relocation_at-bytes : (r : Relocation) (rest : List ℕ) → Fit (relocation_numbers r) → relocation_at (relocation_bytes r ++ rest) 0 ≡ r
unfolding relocation_at relocation_bytes
relocation_at-bytes r rest fit =
    let ns : List (ℕ × ℕ) = relocation_numbers r in
    rw (
      number_at-packed ns 0 0 rest fit (omega arith) refl,
      number_at-packed ns 1 4 rest fit (omega arith) refl,
      number_at-packed ns 2 8 rest fit (omega arith) refl,
    ) refl

-- a relocation entry past a front
pub relocation_at-shift : (front ys : List ℕ) (at j : ℕ) → at ≡ length front + j → relocation_at (front ++ ys) at ≡ relocation_at ys j
unfolding relocation_at
relocation_at-shift front ys at j e = rw (
  number_at-shift front ys at j 4 e,
  number_at-shift front ys (at + 4) (j + 4) 4 (omega (arith, e)),
  number_at-shift front ys (at + 8) (j + 8) 2 (omega (arith, e)),
) refl

-- ... which numbers fit

-- the least and the greatest sizes of a shape
pub header_least : (z : Shape) → 20 ≤ header_size z
header_least z = grind arith

pub header_most : (z : Shape) → header_size z ≤ 56
header_most z = grind arith

pub symbols_most : (z : Shape) (m : ℕ) → symbol_size z * m ≤ 20 * m
symbols_most z m = grind arith

-- a section number of 32 bits that the shape has room for
abbrev pub IsNumber : Shape → ℕ → Type 0
IsNumber z n = (n < 2 ^ 32) × IsSectionNumber z n

pub low_number : (z : Shape) (n : ℕ) → n < 65280 → IsNumber z n
low_number Usual n low =
    let whole : n % 2 ^ 16 ≡ n = omega (arith, low) in
    (omega (arith, low), ap signed_number whole ∙ ap (λ b. cond b n (n + 0xFFFF0000)) (lt-ltb n 65280 low))
low_number Big n low = (omega (arith, low), tt)

pub absolute_number : (z : Shape) → IsNumber z 0xFFFFFFFF
absolute_number z = grind arith

-- the number of another section
abbrev pub IsOther : Shape → ℕ → Type 0
IsOther Usual n = n < 2 ^ 16
IsOther Big n = n < 2 ^ 32

pub low_other : (z : Shape) (n : ℕ) → n < 2 ^ 16 → IsOther z n
low_other z n low = grind arith

pub fit_symbol : (z : Shape) (s : SymbolEntry) → s.Value < 2 ^ 32 → IsNumber z s.SectionNumber → s.Type < 2 ^ 16 → s.StorageClass < 2 ^ 8 → s.NumberOfAuxSymbols < 2 ^ 8 → FitSymbol z s
fit_symbol Usual s value number type class auxiliary = ((omega (arith, value), (omega arith, (omega (arith, type), (omega (arith, class), (omega (arith, auxiliary), tt))))), number.1)
fit_symbol Big s value number type class auxiliary =
    let low = number.0 in
    ((omega (arith, value), (omega (arith, low), (omega (arith, type), (omega (arith, class), (omega (arith, auxiliary), tt))))), tt)

pub fit_section_aux : (z : Shape) (a : SectionAux) → a.Length < 2 ^ 32 → a.NumberOfRelocations < 2 ^ 16 → a.NumberOfLinenumbers < 2 ^ 16 → a.CheckSum < 2 ^ 32 → IsOther z a.Number → a.Selection < 2 ^ 8
    → Fit (section_aux_numbers z a)
fit_section_aux Usual a long count lines sum number selection =
    (omega (arith, long), (omega (arith, count), (omega (arith, lines), (omega (arith, sum), (omega (arith, number), (omega (arith, selection), (omega arith, tt)))))))
fit_section_aux Big a long count lines sum number selection =
    (omega (arith, long), (omega (arith, count), (omega (arith, lines), (omega (arith, sum), (omega arith, (omega (arith, selection), (omega arith, (omega (arith, number), (omega arith, tt)))))))))

pub fit_weak_aux : (z : Shape) (a : WeakAux) → a.TagIndex < 2 ^ 32 → a.Characteristics < 2 ^ 32 → Fit (weak_aux_numbers z a)
fit_weak_aux Usual a tag flags = (omega (arith, tag), (omega (arith, flags), (omega arith, tt)))
fit_weak_aux Big a tag flags = (omega (arith, tag), (omega (arith, flags), (omega arith, tt)))

-- how many sections a header can count
abbrev pub IsCounted : Shape → ℕ → Type 0
IsCounted Usual n = n < 2 ^ 16
IsCounted Big n = n < 2 ^ 32

pub fit_file_header : (z : Shape) (h : FileHeader) → h.Machine < 2 ^ 16 → IsCounted z h.NumberOfSections → h.TimeDateStamp < 2 ^ 32 → h.PointerToSymbolTable < 2 ^ 32 → h.NumberOfSymbols < 2 ^ 32
    → h.SizeOfOptionalHeader < 2 ^ 16 → h.Characteristics < 2 ^ 16 → h.Version < 2 ^ 16 → Fit (file_header_numbers z h)
fit_file_header Usual h machine sections time pointer symbols optional flags version =
    (omega (arith, machine), (omega (arith, sections), (omega (arith, time), (omega (arith, pointer), (omega (arith, symbols), (omega (arith, optional), (omega (arith, flags), tt)))))))
fit_file_header Big h machine sections time pointer symbols optional flags version = (
  omega arith,
  (
    omega arith,
    (
      omega (arith, version),
      (
        omega (arith, machine),
        (
          omega (arith, time),
          (
            omega arith,
            (
              omega arith,
              (
                omega arith,
                (
                  omega arith,
                  (
                    omega arith,
                    (
                      omega arith,
                      (
                        omega arith,
                        (
                          omega arith,
                          (omega (arith, sections), (omega (arith, pointer), (omega (arith, symbols), tt))),
                        ),
                      ),
                    ),
                  ),
                ),
              ),
            ),
          ),
        ),
      ),
    ),
  ),
)
