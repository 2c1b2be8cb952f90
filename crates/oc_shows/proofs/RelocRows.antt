-- The relocation tables, row by row (i386 and x86-64 psABI, "Relocation Types"; PE/COFF, "Type Indicators";
-- Mach-O reference, "Relocation Data Structures"; TIS OMF 1.1, "FIXUPP").
-- The numbers are written out again from the standards, in the order of the numbers; the checks that the standards leave open are our profile.
use Rattle.std.proofs.Common.{◌≡◌, ℕ, zero, suc, ◌+◌, Bool, true, false, List, [], ◌∷◌, Option, Some, None, refl}
use Rattle.std.specs.{Prelude.{map, is_some, ◌&&◌, not, ℤ, pos, negsuc, neg_ℤ, nat_eq, if◌then◌else◌}, List.{filter, flat_map}, Option.{option_map}}
use Rattle.oc_base.specs.{Numbers.{number_at}, declared.format.Format.{Format}, declared.format.Word.{Word}, declared.format.Word.TheVariants.{W32, W64}}
use Rattle.oc_base.specs.declared.format.Format.TheVariants.{Elf32, Elf64, Coff32, Coff64, Mac32, Mac64, Omf}
use Rattle.oc_linking.specs.{declared.terms.Width.{Width}, declared.terms.Width.TheVariants.{One, Two, Four, Eight}, declared.terms.Check.{Check}}
use Rattle.oc_linking.specs.{declared.terms.Check.TheVariants.{Wrap, Signed, Unsigned, Either}, declared.terms.Hint.{Hint}}
use Rattle.oc_linking.specs.{declared.terms.Hint.TheVariants.{Plain, Call}, declared.terms.Base.{Base}}
use Rattle.oc_linking.specs.declared.terms.Base.TheVariants.{Address, Slot, GotBase, HomeNumber}
use Rattle.oc_algebra.specs.Fields.{extended}
use Rattle.oc_neutral.specs.Rows.{Row, Taken, TakesZero, TakesPlace, TakesGotBase, TakesImageBase, TakesHome, TakesSection, shift_of, same_width, same_check, same_base, same_taken, same_hint}
use Rattle.oc_neutral.specs.{Mach.Relocs.{MachRow, length_of, mach_entries, entry_among}, Omf.Relocs.{fixup_row, ByFlat, ByTarget, BySelf}}
use Rattle.oc_neutral.specs.{RelocTables.{rows_of, row_of}, Shifts.{Symbolic, Sectional, entry_shift, subtractor_shift, sectdiff_shift, fixup_shift}}
use Rattle.oc_shows.specs.RowFields.{number_in}

-- a row, with all its columns: number, second number, width, check, base, what is taken, hint, bytes behind the place, whether it is written
abbrev is : ℕ → Option ℕ → Width → Check → Base → Taken → Hint → ℕ → Bool → Row
is number second width check base taken hint behind canonical =
    record { number = number; second = second; width = width; check = check; base = base; taken = taken; hint = hint; behind = behind; canonical = canonical }

-- a row of one entry
abbrev one : ℕ → Width → Check → Base → Taken → Hint → ℕ → Bool → Option Row
one number width check base taken hint behind canonical = Some (is number None width check base taken hint behind canonical)

-- so many numbers from one on
abbrev numbers : ℕ → ℕ → List ℕ
numbers from zero = []
numbers from (suc n) = from ∷ numbers (from + 1) n

-- the numbers up to 255 that have a row
abbrev known : Format → List ℕ
known format = filter (λ k. is_some (row_of format k)) (numbers 0 256)

-- the rows of those numbers
abbrev read : Format → List (Option Row)
read format = map (row_of format) (known format)

-- no row for R_386_NONE
known-elf32 : known Elf32 ≡ 1 ∷ 2 ∷ 3 ∷ 4 ∷ 9 ∷ 10 ∷ 20 ∷ 21 ∷ 22 ∷ 23 ∷ 43 ∷ []
known-elf32 = refl

-- all four-byte fields wrap
read-elf32 : read Elf32 ≡
    one 1 Four Wrap Address TakesZero Plain 0 true
    ∷ one 2 Four Wrap Address TakesPlace Plain 0 true
    ∷ one 3 Four Wrap Slot TakesGotBase Plain 0 true
    ∷ one 4 Four Wrap Address TakesPlace Call 0 true
    ∷ one 9 Four Wrap Address TakesGotBase Plain 0 true
    ∷ one 10 Four Wrap GotBase TakesPlace Plain 0 true
    ∷ one 20 Two Either Address TakesZero Plain 0 true
    ∷ one 21 Two Signed Address TakesPlace Plain 0 true
    ∷ one 22 One Either Address TakesZero Plain 0 true
    ∷ one 23 One Signed Address TakesPlace Plain 0 true
    ∷ one 43 Four Wrap Slot TakesGotBase Plain 0 false
    ∷ []
read-elf32 = refl

-- no row for R_X86_64_NONE, R_X86_64_GOT32 (3) and the others outside the profile
known-elf64 : known Elf64 ≡ 1 ∷ 2 ∷ 4 ∷ 9 ∷ 10 ∷ 11 ∷ 12 ∷ 13 ∷ 14 ∷ 15 ∷ 24 ∷ 25 ∷ 26 ∷ 41 ∷ 42 ∷ []
known-elf64 = refl

-- R_X86_64_32 is Unsigned, R_X86_64_32S Signed
read-elf64 : read Elf64 ≡
    one 1 Eight Wrap Address TakesZero Plain 0 true
    ∷ one 2 Four Signed Address TakesPlace Plain 0 true
    ∷ one 4 Four Signed Address TakesPlace Call 0 true
    ∷ one 9 Four Signed Slot TakesPlace Plain 0 true
    ∷ one 10 Four Unsigned Address TakesZero Plain 0 true
    ∷ one 11 Four Signed Address TakesZero Plain 0 true
    ∷ one 12 Two Either Address TakesZero Plain 0 true
    ∷ one 13 Two Signed Address TakesPlace Plain 0 true
    ∷ one 14 One Either Address TakesZero Plain 0 true
    ∷ one 15 One Signed Address TakesPlace Plain 0 true
    ∷ one 24 Eight Wrap Address TakesPlace Plain 0 true
    ∷ one 25 Eight Wrap Address TakesGotBase Plain 0 true
    ∷ one 26 Four Signed GotBase TakesPlace Plain 0 true
    ∷ one 41 Four Signed Slot TakesPlace Plain 0 false
    ∷ one 42 Four Signed Slot TakesPlace Plain 0 false
    ∷ []
read-elf64 = refl

-- no row for IMAGE_REL_I386_ABSOLUTE, DIR16 (1) and REL16 (2)
known-coff32 : known Coff32 ≡ 6 ∷ 7 ∷ 10 ∷ 11 ∷ 20 ∷ []
known-coff32 = refl

-- REL32 counts from the end of the field
read-coff32 : read Coff32 ≡
    one 6 Four Wrap Address TakesZero Plain 0 true
    ∷ one 7 Four Wrap Address TakesImageBase Plain 0 true
    ∷ one 10 Two Wrap HomeNumber TakesZero Plain 0 true
    ∷ one 11 Four Wrap Address TakesHome Plain 0 true
    ∷ one 20 Four Wrap Address TakesPlace Plain 4 true
    ∷ []
read-coff32 = refl

-- no row for IMAGE_REL_AMD64_ABSOLUTE
known-coff64 : known Coff64 ≡ 1 ∷ 2 ∷ 3 ∷ 4 ∷ 5 ∷ 6 ∷ 7 ∷ 8 ∷ 9 ∷ 10 ∷ 11 ∷ []
known-coff64 = refl

-- REL32_n counts from n bytes behind the end of the field
read-coff64 : read Coff64 ≡
    one 1 Eight Wrap Address TakesZero Plain 0 true
    ∷ one 2 Four Unsigned Address TakesZero Plain 0 true
    ∷ one 3 Four Unsigned Address TakesImageBase Plain 0 true
    ∷ one 4 Four Signed Address TakesPlace Plain 4 true
    ∷ one 5 Four Signed Address TakesPlace Plain 5 false
    ∷ one 6 Four Signed Address TakesPlace Plain 6 false
    ∷ one 7 Four Signed Address TakesPlace Plain 7 false
    ∷ one 8 Four Signed Address TakesPlace Plain 8 false
    ∷ one 9 Four Signed Address TakesPlace Plain 9 false
    ∷ one 10 Two Wrap HomeNumber TakesZero Plain 0 true
    ∷ one 11 Four Unsigned Address TakesHome Plain 0 true
    ∷ []
read-coff64 = refl

-- the addend of a REL32_n is the field less 4 + n
shifts-coff64 : map (λ k. option_map shift_of (row_of Coff64 k)) (numbers 4 6) ≡
    Some (neg_ℤ (pos 4)) ∷ Some (neg_ℤ (pos 5)) ∷ Some (neg_ℤ (pos 6)) ∷ Some (neg_ℤ (pos 7)) ∷ Some (neg_ℤ (pos 8)) ∷ Some (neg_ℤ (pos 9)) ∷ []
shifts-coff64 = refl

-- the three fixups
read-omf : map fixup_row (ByFlat ∷ ByTarget ∷ BySelf ∷ []) ≡
    is 0 None Four Wrap Address TakesZero Plain 0 true
    ∷ is 1 None Four Wrap Address TakesHome Plain 0 true
    ∷ is 2 None Four Wrap Address TakesPlace Plain 4 true
    ∷ []
read-omf = refl

-- they are the table
rows-omf : map (λ r. r.number) (rows_of Omf) ≡ 0 ∷ 1 ∷ 2 ∷ []
rows-omf = refl

-- a self-relative fixup with displacement 10: the addend is the field and 6
shift-omf : fixup_shift (fixup_row BySelf) 10 ≡ pos 6
shift-omf = refl

-- a type number with an r_pcrel and an r_length
record Key : Type 0 where
  number : ℕ
  pcrel : ℕ
  len : ℕ

-- all type numbers of four bits, with each r_pcrel and r_length
abbrev keys : List Key
keys = flat_map (λ k. flat_map (λ p. map (λ l. record { number = k; pcrel = p; len = l }) (numbers 0 4)) (numbers 0 2)) (numbers 0 16)

-- the entry of a key
abbrev entry_at : Word → Key → Option MachRow
entry_at w key = entry_among (mach_entries w) key.number key.pcrel key.len

-- the keys that have an entry
abbrev known_keys : Word → List Key
known_keys w = filter (λ key. is_some (entry_at w key)) keys

-- a key
abbrev key : ℕ → ℕ → ℕ → Key
key k p l = record { number = k; pcrel = p; len = l }

-- an entry, with all its columns: r_pcrel; whether it may name a symbol, a section, and be scattered; whether it always takes a move
abbrev entry : ℕ → Bool → Bool → Bool → Bool → Row → Option MachRow
entry pcrel by_symbol by_section by_address by_move r =
    Some (record { row = r; pcrel = pcrel; by_symbol = by_symbol; by_section = by_section; by_address = by_address; by_move = by_move })

-- UNSIGNED and SUBTRACTOR of four and eight bytes, all others self-relative and of four bytes
keys-mac64 : known_keys W64 ≡
    key 0 0 2 ∷ key 0 0 3 ∷ key 1 1 2 ∷ key 2 1 2 ∷ key 3 1 2 ∷ key 4 1 2 ∷ key 5 0 2 ∷ key 5 0 3 ∷ key 6 1 2 ∷ key 7 1 2 ∷ key 8 1 2 ∷ []
keys-mac64 = refl

-- SIGNED_1, SIGNED_2 and SIGNED_4 count from the end of the field as SIGNED does
read-mac64 : map (entry_at W64) (known_keys W64) ≡
    entry 0 true true false false (is 0 None Four Unsigned Address TakesZero Plain 0 true)
    ∷ entry 0 true true false false (is 0 None Eight Wrap Address TakesZero Plain 0 true)
    ∷ entry 1 true true false false (is 1 None Four Signed Address TakesPlace Plain 4 true)
    ∷ entry 1 true true false false (is 2 None Four Signed Address TakesPlace Call 4 true)
    ∷ entry 1 true false false false (is 3 None Four Signed Slot TakesPlace Plain 4 false)
    ∷ entry 1 true false false false (is 4 None Four Signed Slot TakesPlace Plain 4 true)
    ∷ entry 0 true false false false (is 5 (Some 0) Four Signed Address TakesSection Plain 0 true)
    ∷ entry 0 true false false false (is 5 (Some 0) Eight Wrap Address TakesSection Plain 0 true)
    ∷ entry 1 true true false false (is 6 None Four Signed Address TakesPlace Plain 4 false)
    ∷ entry 1 true true false false (is 7 None Four Signed Address TakesPlace Plain 4 false)
    ∷ entry 1 true true false false (is 8 None Four Signed Address TakesPlace Plain 4 false)
    ∷ []
read-mac64 = refl

-- all of four bytes; a PAIR has no row of its own
keys-mac32 : known_keys W32 ≡ key 0 0 2 ∷ key 0 1 2 ∷ key 2 0 2 ∷ key 4 0 2 ∷ []
keys-mac32 = refl

-- LOCAL_SECTDIFF is written, SECTDIFF read only
read-mac32 : map (entry_at W32) (known_keys W32) ≡
    entry 0 true true true false (is 0 None Four Wrap Address TakesZero Plain 0 true)
    ∷ entry 1 true true true true (is 0 None Four Wrap Address TakesPlace Plain 0 true)
    ∷ entry 0 false false true false (is 2 (Some 1) Four Wrap Address TakesSection Plain 0 false)
    ∷ entry 0 false false true false (is 4 (Some 1) Four Wrap Address TakesSection Plain 0 true)
    ∷ []
read-mac32 = refl

-- the shift of an entry whose field has address 0x11, which names a symbol, and which names a section at 0x100
abbrev shifts : Word → Key → List (Option ℤ)
shifts w k = map (λ said. option_map (λ m. entry_shift m said 0x11) (entry_at w k)) (Symbolic ∷ Sectional 0x100 ∷ [])

-- UNSIGNED: S + F; F and the move, which is the placed address less 0x100
shifts-unsigned : shifts W64 (key 0 0 3) ≡ Some (pos 0) ∷ Some (neg_ℤ (pos 0x100)) ∷ []
shifts-unsigned = refl

-- SIGNED: S + F - (P + 4); F and the move of the section, less the move of its own, which is P less 0x11: 0x11 - 0x100 = -0xEF
shifts-signed : shifts W64 (key 1 1 2) ≡ Some (neg_ℤ (pos 4)) ∷ Some (neg_ℤ (pos 0xEF)) ∷ []
shifts-signed = refl

-- VANILLA
shifts-vanilla : shifts W32 (key 0 0 2) ≡ Some (pos 0) ∷ Some (neg_ℤ (pos 0x100)) ∷ []
shifts-vanilla = refl

-- VANILLA, self-relative: the field of -4 is written 0xFFFFFFEB, which is -4 - 0x11
shifts-relative : shifts W32 (key 0 1 2) ≡ Some (pos 0x11) ∷ Some (neg_ℤ (pos 0xEF)) ∷ []
shifts-relative = refl

-- SUBTRACTOR of a symbol at offset 8: S + F - S1 is S + F less the section's start, less 8
shift-subtractor : subtractor_shift Symbolic 8 ≡ neg_ℤ (pos 8)
shift-subtractor = refl

-- the same, where the UNSIGNED names a section at 0x100
shift-subtractor-section : subtractor_shift (Sectional 0x100) 8 ≡ neg_ℤ (pos 0x108)
shift-subtractor-section = refl

-- SECTDIFF of a section at 0x20, its PAIR in one at 0x100: both moves
shift-sectdiff : sectdiff_shift 0x20 0x100 ≡ pos 0xE0
shift-sectdiff = refl

-- ... what holds of every table

-- two rows are of one form and hint
abbrev alike : Row → Row → Bool
alike r q = same_width r.width q.width && same_check r.check q.check && same_base r.base q.base && same_taken r.taken q.taken && same_hint r.hint q.hint

-- the written rows that are alike to a row
abbrev written_alike : Format → Row → List ℕ
written_alike format r = map (λ q. q.number) (filter (λ q. q.canonical && alike r q) (rows_of format))

-- a list of one
abbrev is_one : List ℕ → Bool
is_one [] = false
is_one (x ∷ []) = true
is_one (x ∷ y ∷ xs) = false

-- the rows that do not have exactly one written row
abbrev unwritten : Format → List Row
unwritten format = filter (λ r. not (is_one (written_alike format r))) (rows_of format)

-- whatever is read is written in one way
written-once : map (λ format. unwritten format) (Elf32 ∷ Elf64 ∷ Coff32 ∷ Coff64 ∷ Mac32 ∷ Mac64 ∷ Omf ∷ []) ≡ [] ∷ [] ∷ [] ∷ [] ∷ [] ∷ [] ∷ [] ∷ []
written-once = refl

-- each row is found by its own number: no number stands twice
found-again : map (λ format. map (λ r. row_of format r.number) (rows_of format)) (Elf32 ∷ Elf64 ∷ Coff32 ∷ Coff64 ∷ Omf ∷ []) ≡
    map (λ format. map Some (rows_of format)) (Elf32 ∷ Elf64 ∷ Coff32 ∷ Coff64 ∷ Omf ∷ [])
found-again = refl

-- the entry with the number, r_pcrel and r_length of an entry
abbrev again : Word → MachRow → Option MachRow
again w m = entry_among (mach_entries w) m.row.number m.pcrel (length_of m.row.width)

-- in Mach-O r_pcrel and r_length belong to the number
entries-found-again : map (λ w. map (again w) (mach_entries w)) (W32 ∷ W64 ∷ []) ≡ map (λ w. map Some (mach_entries w)) (W32 ∷ W64 ∷ [])
entries-found-again = refl

-- r_pcrel is 1 exactly where the field's place is taken
abbrev is_marked : MachRow → Bool
is_marked m = nat_eq m.pcrel (if same_taken m.row.taken TakesPlace then 1 else 0)

-- in all entries
marked : map (λ w. filter (λ m. not (is_marked m)) (mach_entries w)) (W32 ∷ W64 ∷ []) ≡ [] ∷ [] ∷ []
marked = refl

-- the numbers that the bytes FE FF 00 00 are in fields of R_386_8, R_386_16 and R_386_32
number_in-rows : map (λ type. option_map (λ row. number_in row (0xFE ∷ 0xFF ∷ 0 ∷ 0 ∷ []) 0) (row_of Elf32 type)) (22 ∷ 20 ∷ 1 ∷ [])
    ≡ Some (negsuc 1) ∷ Some (negsuc 1) ∷ Some (pos 0xFFFE) ∷ []
unfolding extended number_at
number_in-rows = refl
