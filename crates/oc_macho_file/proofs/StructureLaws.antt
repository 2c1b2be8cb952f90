-- The structures of both words are read back where their bytes stand.
use Rattle.std.proofs.Common.{◌≡◌, ℕ, ◌+◌, ◌*◌, ◌/◌, ◌%◌, ◌^◌, ◌<◌, ◌≤◌, true, false, cond, List, [], ◌∷◌, ◌++◌, length, take, drop, replicate, refl, sym, ◌∙◌, ap, arith, length-append}
use Rattle.std.specs.Prelude.{nat_le, nat_eq}
use Rattle.std.proofs.lemmas.{List.{length-take-le}, Bool.Decides.{nat_tests}}
use Rattle.oc_base.specs.{declared.format.Word.{Word}, declared.format.Word.TheVariants.{W32, W64}, Numbers.{number_at}}
use Rattle.oc_shelf.specs.{Writing.Packed.{packed}, Writing.Parts.{Stands}}
use Rattle.oc_shelf.proofs.WritingLaws.PackedLemmas.{Fit, widths, length-packed, number_in}
use Rattle.oc_shelf.proofs.WritingLaws.StandingLemmas.{stands_front, stands_back, stands_take}
use Rattle.oc_macho.specs.{declared.mach_header.MachHeader.{MachHeader}, declared.section_header.SectionHeader.{SectionHeader}}
use Rattle.oc_macho.specs.{declared.symtab_command.SymtabCommand.{SymtabCommand}, declared.nlist.Nlist.{Nlist}, declared.relocation_info.Reference.{Reference}}
use Rattle.oc_macho.specs.{declared.relocation_info.Reference.TheVariants.{Symbol, Section, Address}, declared.relocation_info.RelocationInfo.{RelocationInfo}}
use Rattle.oc_macho.specs.{MachHeader.{mach_header_size, mach_header_of}, SectionHeader.{section_header_size, section_header_at}}
use Rattle.oc_macho.specs.{SymtabCommand.{symtab_command_at}, Nlist.{nlist_size, nlist_at}}
use Rattle.oc_macho.specs.RelocationInfo.{scattered_of, reference_of, relocation_info_of, relocation_info_at}
use Rattle.oc_macho.specs.Structures.{padded, mach_header_numbers, mach_header_bytes, symtab_numbers, symtab_bytes, section_numbers, section_bytes, nlist_numbers, nlist_bytes, first_word, plain_word, second_word, relocation_bytes}

-- ... their sizes

-- a padded name has 16 bytes
pub length-padded : (name : List ℕ) → length (padded name) ≡ 16
length-padded name = length-take-le 16 (name ++ replicate 16 0) (rw (length-append name (replicate 16 0)) (omega arith))

pub length-mach_header_bytes : (w : Word) (h : MachHeader) → length (mach_header_bytes w h) ≡ mach_header_size w
unfolding mach_header_bytes
length-mach_header_bytes W32 h = length-packed (mach_header_numbers W32 h)
length-mach_header_bytes W64 h = length-packed (mach_header_numbers W64 h)

pub length-symtab_bytes : (c : SymtabCommand) → length (symtab_bytes c) ≡ 24
unfolding symtab_bytes
length-symtab_bytes c = length-packed (symtab_numbers c)

pub length-section_bytes : (w : Word) (h : SectionHeader) → length h.sectname ≡ 16 → length h.segname ≡ 16 → length (section_bytes w h) ≡ section_header_size w
unfolding section_bytes
length-section_bytes w h a b =
    length-append h.sectname (h.segname ++ packed (section_numbers w h))
    ∙ ap (λ k. length h.sectname + k) (length-append h.segname (packed (section_numbers w h)))
    ∙ ap (λ k. length h.sectname + (length h.segname + k)) (length-packed (section_numbers w h))
    ∙ by w (length h.sectname) (length h.segname) a b
  where
    by : (w : Word) (x y : ℕ) → x ≡ 16 → y ≡ 16 → x + (y + widths (section_numbers w h)) ≡ section_header_size w
    by w x y a b = grind arith

pub length-nlist_bytes : (w : Word) (s : Nlist) → length (nlist_bytes w s) ≡ nlist_size w
unfolding nlist_bytes
length-nlist_bytes W32 s = length-packed (nlist_numbers W32 s)
length-nlist_bytes W64 s = length-packed (nlist_numbers W64 s)

pub length-relocation_bytes : (e : RelocationInfo) → length (relocation_bytes e) ≡ 8
unfolding relocation_bytes
length-relocation_bytes e = length-packed ((4, first_word e e.refers) ∷ (4, second_word e e.refers) ∷ [])

-- ... they are read

pub mach_header_stands : (w : Word) (file : List ℕ) (h : MachHeader) → Stands file 0 (mach_header_bytes w h) → Fit (mach_header_numbers w h) → mach_header_of file ≡ h
unfolding mach_header_of mach_header_bytes
mach_header_stands W32 file h s fit = rw (
  number_in file 0 (mach_header_numbers W32 h) 0 0 s fit (omega arith) refl,
  number_in file 0 (mach_header_numbers W32 h) 1 4 s fit (omega arith) refl,
  number_in file 0 (mach_header_numbers W32 h) 2 8 s fit (omega arith) refl,
  number_in file 0 (mach_header_numbers W32 h) 3 12 s fit (omega arith) refl,
  number_in file 0 (mach_header_numbers W32 h) 4 16 s fit (omega arith) refl,
  number_in file 0 (mach_header_numbers W32 h) 5 20 s fit (omega arith) refl,
  number_in file 0 (mach_header_numbers W32 h) 6 24 s fit (omega arith) refl,
) refl
mach_header_stands W64 file h s fit = rw (
  number_in file 0 (mach_header_numbers W64 h) 0 0 s fit (omega arith) refl,
  number_in file 0 (mach_header_numbers W64 h) 1 4 s fit (omega arith) refl,
  number_in file 0 (mach_header_numbers W64 h) 2 8 s fit (omega arith) refl,
  number_in file 0 (mach_header_numbers W64 h) 3 12 s fit (omega arith) refl,
  number_in file 0 (mach_header_numbers W64 h) 4 16 s fit (omega arith) refl,
  number_in file 0 (mach_header_numbers W64 h) 5 20 s fit (omega arith) refl,
  number_in file 0 (mach_header_numbers W64 h) 6 24 s fit (omega arith) refl,
) refl

pub symtab_stands : (file : List ℕ) (at : ℕ) (c : SymtabCommand) → Stands file at (symtab_bytes c) → Fit (symtab_numbers c) → symtab_command_at file at ≡ c
unfolding symtab_command_at symtab_bytes
symtab_stands file at c s fit = rw (
  number_in file at (symtab_numbers c) 2 (at + 8) s fit (omega arith) refl,
  number_in file at (symtab_numbers c) 3 (at + 12) s fit (omega arith) refl,
  number_in file at (symtab_numbers c) 4 (at + 16) s fit (omega arith) refl,
  number_in file at (symtab_numbers c) 5 (at + 20) s fit (omega arith) refl,
) refl

pub nlist_stands : (w : Word) (file : List ℕ) (at : ℕ) (s : Nlist) → Stands file at (nlist_bytes w s) → Fit (nlist_numbers w s) → nlist_at w file at ≡ s
unfolding nlist_at nlist_bytes
nlist_stands W32 file at s stands fit = rw (
  number_in file at (nlist_numbers W32 s) 0 at stands fit (omega arith) (omega arith),
  number_in file at (nlist_numbers W32 s) 1 (at + 4) stands fit (omega arith) refl,
  number_in file at (nlist_numbers W32 s) 2 (at + 5) stands fit (omega arith) refl,
  number_in file at (nlist_numbers W32 s) 3 (at + 6) stands fit (omega arith) refl,
  number_in file at (nlist_numbers W32 s) 4 (at + 8) stands fit (omega arith) refl,
) refl
nlist_stands W64 file at s stands fit = rw (
  number_in file at (nlist_numbers W64 s) 0 at stands fit (omega arith) (omega arith),
  number_in file at (nlist_numbers W64 s) 1 (at + 4) stands fit (omega arith) refl,
  number_in file at (nlist_numbers W64 s) 2 (at + 5) stands fit (omega arith) refl,
  number_in file at (nlist_numbers W64 s) 3 (at + 6) stands fit (omega arith) refl,
  number_in file at (nlist_numbers W64 s) 4 (at + 8) stands fit (omega arith) refl,
) refl

pub section_stands : (w : Word) (file : List ℕ) (at : ℕ) (h : SectionHeader) → Stands file at (section_bytes w h) → length h.sectname ≡ 16 → length h.segname ≡ 16 → Fit (section_numbers w h)
    → section_header_at w file at ≡ h
unfolding section_header_at section_bytes
section_stands w file at h stands a b fit = by w fit (stands_back file h.segname (packed (section_numbers w h)) (at + 16) (at + 32) behind (omega (arith, b)))
  where
    behind : Stands file (at + 16) (h.segname ++ packed (section_numbers w h))
    behind = stands_back file h.sectname (h.segname ++ packed (section_numbers w h)) at (at + 16) stands (omega (arith, a))

    first : take 16 (drop at file) ≡ h.sectname
    first = stands_take file h.sectname at 16 (stands_front file h.sectname (h.segname ++ packed (section_numbers w h)) at stands) (sym a)

    second : take 16 (drop (at + 16) file) ≡ h.segname
    second = stands_take file h.segname (at + 16) 16 (stands_front file h.segname (packed (section_numbers w h)) (at + 16) behind) (sym b)

    by : (w : Word) → Fit (section_numbers w h) → Stands file (at + 32) (packed (section_numbers w h)) → section_header_at w file at ≡ h
    by W32 fit there = rw (
      first,
      second,
      number_in file (at + 32) (section_numbers W32 h) 0 (at + 32) there fit (omega arith) (omega arith),
      number_in file (at + 32) (section_numbers W32 h) 1 (at + 36) there fit (omega arith) (omega arith),
      number_in file (at + 32) (section_numbers W32 h) 2 (at + 40) there fit (omega arith) (omega arith),
      number_in file (at + 32) (section_numbers W32 h) 3 (at + 44) there fit (omega arith) (omega arith),
      number_in file (at + 32) (section_numbers W32 h) 4 (at + 48) there fit (omega arith) (omega arith),
      number_in file (at + 32) (section_numbers W32 h) 5 (at + 52) there fit (omega arith) (omega arith),
      number_in file (at + 32) (section_numbers W32 h) 6 (at + 56) there fit (omega arith) (omega arith),
    ) refl
    by W64 fit there = rw (
      first,
      second,
      number_in file (at + 32) (section_numbers W64 h) 0 (at + 32) there fit (omega arith) (omega arith),
      number_in file (at + 32) (section_numbers W64 h) 1 (at + 40) there fit (omega arith) (omega arith),
      number_in file (at + 32) (section_numbers W64 h) 2 (at + 48) there fit (omega arith) (omega arith),
      number_in file (at + 32) (section_numbers W64 h) 3 (at + 52) there fit (omega arith) (omega arith),
      number_in file (at + 32) (section_numbers W64 h) 4 (at + 56) there fit (omega arith) (omega arith),
      number_in file (at + 32) (section_numbers W64 h) 5 (at + 60) there fit (omega arith) (omega arith),
      number_in file (at + 32) (section_numbers W64 h) 6 (at + 64) there fit (omega arith) (omega arith),
    ) refl

-- ... relocation entries

-- the parts of a word fit their bits
pub record AreBits (number pcrel len type : ℕ) : Type 0 where
  pub low : number < 2 ^ 24
  pub flag : pcrel < 2
  pub few : len < 4
  pub small : type < 16

-- the parts of an entry, by what it refers to
abbrev pub FitsWords : RelocationInfo → Reference → Type 0
FitsWords e (Symbol j) = AreBits j e.r_pcrel e.r_length e.r_type × (e.r_address < 2 ^ 31)
FitsWords e (Section k) = AreBits k e.r_pcrel e.r_length e.r_type × (e.r_address < 2 ^ 31)
FitsWords e (Address v) = AreBits e.r_address e.r_pcrel e.r_length e.r_type × (v < 2 ^ 32)

abbrev pub FitsInfo : RelocationInfo → Type 0
FitsInfo e = FitsWords e e.refers

-- an entry of those words
abbrev plain : ℕ → ℕ → ℕ → ℕ → Reference → RelocationInfo
plain at pcrel len type refers = record { r_address = at; r_pcrel = pcrel; r_length = len; r_type = type; refers = refers }

low_test : (a b : ℕ) → b < a → nat_le a b ≡ false
low_test a b l = grind (arith, nat_tests, l)

pub high_test : (a b : ℕ) → a ≤ b → nat_le a b ≡ true
high_test a b l = grind (arith, nat_tests, l)

plain_back : (at number pcrel len extern type : ℕ) → AreBits number pcrel len type → extern < 2 → at < 2 ^ 31
    → relocation_info_of at (number + pcrel * 2 ^ 24 + len * 2 ^ 25 + extern * 2 ^ 27 + type * 2 ^ 28)
    ≡ plain at pcrel len type (cond (nat_eq extern 1) (Symbol number) (Section number))
unfolding relocation_info_of reference_of
plain_back at number pcrel len extern type bits x low =
    let a = bits.low in let b = bits.flag in let c = bits.few in
    let top : nat_le 2147483648 at ≡ false = low_test 2147483648 at low in
    let e1 : (number + pcrel * 2 ^ 24 + len * 2 ^ 25 + extern * 2 ^ 27 + type * 2 ^ 28) % 2 ^ 24 ≡ number = omega (arith, a) in
    let e2 : (number + pcrel * 2 ^ 24 + len * 2 ^ 25 + extern * 2 ^ 27 + type * 2 ^ 28) / 2 ^ 24 % 2 ≡ pcrel = omega (arith, a, b) in
    let e3 : (number + pcrel * 2 ^ 24 + len * 2 ^ 25 + extern * 2 ^ 27 + type * 2 ^ 28) / 2 ^ 25 % 4 ≡ len = omega (arith, a, b, c) in
    let e4 : (number + pcrel * 2 ^ 24 + len * 2 ^ 25 + extern * 2 ^ 27 + type * 2 ^ 28) / 2 ^ 27 % 2 ≡ extern = omega (arith, a, b, c, x) in
    let e5 : (number + pcrel * 2 ^ 24 + len * 2 ^ 25 + extern * 2 ^ 27 + type * 2 ^ 28) / 2 ^ 28 ≡ type = omega (arith, a, b, c, x) in
    rw (top, e2, e3, e5, e4, e1) refl

scattered_back : (at number pcrel len type : ℕ) → AreBits at pcrel len type
    → relocation_info_of (at + type * 2 ^ 24 + len * 2 ^ 28 + pcrel * 2 ^ 30 + 2147483648) number ≡ plain at pcrel len type (Address number)
unfolding relocation_info_of scattered_of
scattered_back at number pcrel len type bits =
    let a = bits.low in let b = bits.flag in let c = bits.few in let d = bits.small in
    let top : nat_le 2147483648 (at + type * 2 ^ 24 + len * 2 ^ 28 + pcrel * 2 ^ 30 + 2147483648) ≡ true = high_test 2147483648 (at + type * 2 ^ 24 + len * 2 ^ 28 + pcrel * 2 ^ 30 + 2147483648) (omega arith) in
    let e1 : (at + type * 2 ^ 24 + len * 2 ^ 28 + pcrel * 2 ^ 30 + 2147483648) % 2 ^ 24 ≡ at = omega (arith, a) in
    let e2 : (at + type * 2 ^ 24 + len * 2 ^ 28 + pcrel * 2 ^ 30 + 2147483648) / 2 ^ 30 % 2 ≡ pcrel = omega (arith, a, b, c, d) in
    let e3 : (at + type * 2 ^ 24 + len * 2 ^ 28 + pcrel * 2 ^ 30 + 2147483648) / 2 ^ 28 % 4 ≡ len = omega (arith, a, c, d) in
    let e4 : (at + type * 2 ^ 24 + len * 2 ^ 28 + pcrel * 2 ^ 30 + 2147483648) / 2 ^ 24 % 16 ≡ type = omega (arith, a, d) in
    rw (top, e1, e2, e3, e4) refl

-- an entry is read where it stands
two_words : (file : List ℕ) (at a b : ℕ) → Stands file at (packed ((4, a) ∷ (4, b) ∷ [])) → a < 2 ^ 32 → b < 2 ^ 32 → relocation_info_at file at ≡ relocation_info_of a b
unfolding relocation_info_at
two_words file at a b stands low high =
    ap (λ k. relocation_info_of k (number_at file (at + 4) 4)) (number_in file at ((4, a) ∷ (4, b) ∷ []) 0 at stands (low, (high, tt)) (omega arith) (omega arith))
    ∙ ap (relocation_info_of a) (number_in file at ((4, a) ∷ (4, b) ∷ []) 1 (at + 4) stands (low, (high, tt)) (omega arith) refl)

pub relocation_stands : (file : List ℕ) (at : ℕ) (e : RelocationInfo) → Stands file at (relocation_bytes e) → FitsInfo e → relocation_info_at file at ≡ e
unfolding relocation_bytes
relocation_stands file at e stands fits = by e.refers stands fits
  where
    by : (r : Reference) → Stands file at (packed ((4, first_word e r) ∷ (4, second_word e r) ∷ [])) → FitsWords e r → relocation_info_at file at ≡ plain e.r_address e.r_pcrel e.r_length e.r_type r
    by (Symbol j) stands f =
        let a = f.0.low in let b = f.0.flag in let c = f.0.few in let d = f.0.small in let n = f.1 in
        two_words file at e.r_address (plain_word e j 1) stands (omega (arith, n)) (omega (arith, a, b, c, d))
        ∙ plain_back e.r_address j e.r_pcrel e.r_length 1 e.r_type f.0 (omega arith) n
    by (Section k) stands f =
        let a = f.0.low in let b = f.0.flag in let c = f.0.few in let d = f.0.small in let n = f.1 in
        two_words file at e.r_address (plain_word e k 0) stands (omega (arith, n)) (omega (arith, a, b, c, d))
        ∙ plain_back e.r_address k e.r_pcrel e.r_length 0 e.r_type f.0 (omega arith) n
    by (Address v) stands f =
        let a = f.0.low in let b = f.0.flag in let c = f.0.few in let d = f.0.small in let n = f.1 in
        two_words file at (first_word e (Address v)) v stands (omega (arith, a, b, c, d)) (omega (arith, n))
        ∙ scattered_back e.r_address v e.r_pcrel e.r_length e.r_type f.0
