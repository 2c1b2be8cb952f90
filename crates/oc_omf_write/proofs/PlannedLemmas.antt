-- What is planned is the canonical file, entry by entry.
use Rattle.std.proofs.Common.{◌≡◌, ℕ, suc, ◌+◌, Bool, true, false, cond, ◌&&◌, nat_eq, nat_le, nat_lt, List, [], ◌∷◌, ◌++◌, length, map, filter, Some, refl, sym, ◌∙◌, ap, arith}
use Rattle.std.specs.{Prelude.{slice_get, flat_map, fold, codes}, List.{enumerate_from}}
use Rattle.std.proofs.lemmas.{List.{length-map}, List.FromFn.{length-enumerate_from}, Option.{get_or_from_slice_get}}
use Rattle.oc_chains.specs.{declared.field.Field.{Field}, Lists.{list_of}}
use Rattle.oc_neutral.specs.{declared.section.Section.{Section}, declared.reloc.Reloc.{Reloc}, declared.reloc.Target.{Target}, Constants.{with_contents}}
use Rattle.oc_neutral.specs.{Objects.{Object}, Rows.{Row}}
use Rattle.oc_neutral.specs.declared.reloc.Target.TheVariants as target
use Rattle.oc_shelf.proofs.WritingLaws.MemberLemmas.{member_enumerated, member_map, map-map}
use Rattle.oc_omf_file.specs.{Fixups.{raw_of, field_fixup, row_by, target_method, written_reloc}, Names.{class_of, with_name, names_of}}
use Rattle.oc_omf_file.specs.{Outputs.{piece_outputs, data_outputs}, Pieces.{fields_between, offsets_of, pieces_of, pieces_upto}}
use Rattle.oc_omf_file.specs.Outputs as output
use Rattle.oc_omf_file.proofs.SmallLaws.{length-raw}
use Rattle.oc_omf_write.specs.{declared.entries.Entry.{Entry}, declared.fixups.Fixup.{Fixup}, Entries.{entry_for}, Names.{names_for, given_for}}
use Rattle.oc_omf_write.specs.{Numbers.{AreNumbers}, Pieces.{places_of, piece_entries, section_entries, fixups_at, data_entries}, Raws.{addend_in, sections_in}}
use Rattle.oc_omf_write.specs.Written.{between, fixup_bytes_of, fixup_with, method_by, HasIndex, fixups_in}
use Rattle.oc_omf_write.specs.declared.entries.Entry.TheVariants as entry
use Rattle.oc_plans.specs.Numbered.{with_numbers, section_with_numbers}
use Rattle.oc_omf_write.specs.Written as written
use Rattle.oc_plans.proofs.Turns.{map_append}

-- ... sections

-- sections keep their names and kinds
given_same : (n : Object) (k : ℕ) (ss : List Section) → given_for (map (section_with_numbers (addend_in n) n.relocs) (enumerate_from k ss)) ≡ given_for ss
given_same n k [] = refl
given_same n k (s ∷ ss) = ap (λ xs. s.name ∷ class_of s ∷ xs) (given_same n (k + 1) ss)

-- the names of the sections are those of the object
pub names_same : (n : Object) → names_for (sections_in n) ≡ names_of n
unfolding names_of
names_same n = ap (λ xs. fold with_name [] ([] ∷ codes "FLAT" ∷ xs)) (given_same n 0 n.sections)

-- the section at a position, with the numbers in its fields
pub section_is : (n : Object) (k : ℕ) (s : Section) → slice_get n.sections k ≡ Some s → slice_get (sections_in n) k ≡ Some (with_contents (raw_of n k s) s)
unfolding raw_of
section_is n k s here = member_map (section_with_numbers (addend_in n) n.relocs) (enumerate_from 0 n.sections) k (k, s) (member_enumerated 0 n.sections k s here ∙ ap (λ j. Some (j, s)) (omega arith))

-- ... fixups

filter-map : {X Y : Type 0} (test : Y → Bool) (f : X → Y) (xs : List X) → filter test (map f xs) ≡ map f (filter (λ x. test (f x)) xs)
filter-map test f [] = refl
filter-map test f (x ∷ xs) = by (test (f x)) (filter-map test f xs)
  where
    by : (b : Bool) → filter test (map f xs) ≡ map f (filter (λ x. test (f x)) xs) → cond b (f x ∷ filter test (map f xs)) (filter test (map f xs)) ≡ map f (cond b (x ∷ filter (λ x. test (f x)) xs) (filter (λ x. test (f x)) xs))
    by true e = ap (λ ys. f x ∷ ys) e
    by false e = e

-- the fixups between two offsets are those of the fields there
pub between_fields : (n : Object) (numbers : List ℕ) (k from to : ℕ) → between from to (written.fixups_of numbers n k) ≡ map (fixup_with numbers n) (fields_between n k from to)
between_fields n numbers k from to = filter-map (λ (f : Fixup). nat_le from f.at && nat_lt f.at to) (fixup_with numbers n) (list_of n.relocs k)

-- they stand where the fields do
pub places_are : (n : Object) (numbers : List ℕ) (k : ℕ) → places_of (written.fixups_of numbers n k) ≡ offsets_of n k
places_are n numbers k = map-map (λ (f : Fixup). f.at) (fixup_with numbers n) (list_of n.relocs k)

-- the method of a target by the numbers of symbols
pub method_is : (n : Object) (numbers : List ℕ) → AreNumbers n numbers → (t : Target) → HasIndex numbers t → method_by numbers t ≡ target_method n t
method_is n numbers are (target.Section k) has = refl
method_is n numbers are (target.Symbol k) has =
    let low = has.0 in
    let counted = are.counted in
    ap (λ m. record { number = 2; index = m + 1 }) (are.each k (omega (arith, low, counted)))

-- the bytes of a field's fixup
pub fixup_is : (n : Object) (numbers : List ℕ) → AreNumbers n numbers → (from : ℕ) (x : Field Reloc) (row : Row) → row_by x.item ≡ Some row → HasIndex numbers (written_reloc n x.item).target
    → fixup_bytes_of from (fixup_with numbers n x) ≡ field_fixup n from x
fixup_is n numbers are from x row e has = rw (method_is n numbers are (written_reloc n x.item).target has, e) refl

-- the bytes of the fixups of fields
pub fixups_are : (n : Object) (numbers : List ℕ) (from : ℕ) (xs : List (Field Reloc)) → ((j : ℕ) (x : Field Reloc) → slice_get xs j ≡ Some x → fixup_bytes_of from (fixup_with numbers n x) ≡ field_fixup n from x)
    → flat_map (fixup_bytes_of from) (map (fixup_with numbers n) xs) ≡ flat_map (field_fixup n from) xs
fixups_are n numbers from [] each = refl
fixups_are n numbers from (x ∷ xs) each =
    ap (λ b. b ++ flat_map (fixup_bytes_of from) (map (fixup_with numbers n) xs)) (each 0 x refl)
    ∙ ap (λ b. field_fixup n from x ++ b) (fixups_are n numbers from xs (λ j y h. each (suc j) y h))

-- the fixups of the section at a position
pub fixups_there : (n : Object) (numbers : List ℕ) (k : ℕ) (s : Section) → slice_get n.sections k ≡ Some s → fixups_at (fixups_in numbers n) k ≡ written.fixups_of numbers n k
fixups_there n numbers k s here =
    get_or_from_slice_get (fixups_in numbers n) k (written.fixups_of numbers n k) []
    (member_map (λ (x : ℕ × Section). written.fixups_of numbers n x.0) (enumerate_from 0 n.sections) k (k, s) (member_enumerated 0 n.sections k s here ∙ ap (λ j. Some (j, s)) (omega arith)))

-- there are fixups of each section
pub fixups_counted : (n : Object) (numbers : List ℕ) → length (fixups_in numbers n) ≡ length n.sections
fixups_counted n numbers = length-map (enumerate_from 0 n.sections) (λ (x : ℕ × Section). written.fixups_of numbers n x.0) ∙ length-enumerate_from 0 n.sections

-- ... pieces

-- the entries of a piece
piece_is : (n : Object) (numbers : List ℕ) (k : ℕ) (s : Section) (x : ℕ × ℕ) → piece_entries k (written.fixups_of numbers n k) x ≡ map entry_for (piece_outputs n k s x)
piece_is n numbers k s x =
    let long : length (between x.0 x.1 (written.fixups_of numbers n k)) ≡ length (fields_between n k x.0 x.1)
    = ap length (between_fields n numbers k x.0 x.1) ∙ length-map (fields_between n k x.0 x.1) (fixup_with numbers n) in
    ap (λ m. entry.Data k x.0 x.1 ∷ cond (nat_eq m 0) [] (entry.Fixups k x.0 x.1 ∷ [])) long ∙ by (nat_eq (length (fields_between n k x.0 x.1)) 0)
  where
    by : (b : Bool) → (entry.Data k x.0 x.1 ∷ cond b [] (entry.Fixups k x.0 x.1 ∷ [])) ≡ map entry_for (output.Data k s x.0 x.1 ∷ cond b [] (output.Fixups k s x.0 x.1 ∷ []))
    by true = refl
    by false = refl

pieces_are : (n : Object) (numbers : List ℕ) (k : ℕ) (s : Section) (xs : List (ℕ × ℕ)) → flat_map (piece_entries k (written.fixups_of numbers n k)) xs ≡ map entry_for (flat_map (piece_outputs n k s) xs)
pieces_are n numbers k s [] = refl
pieces_are n numbers k s (x ∷ xs) =
    ap (λ es. es ++ flat_map (piece_entries k (written.fixups_of numbers n k)) xs) (piece_is n numbers k s x)
    ∙ ap (λ es. map entry_for (piece_outputs n k s x) ++ es) (pieces_are n numbers k s xs)
    ∙ sym (map_append entry_for (piece_outputs n k s x) (flat_map (piece_outputs n k s) xs))

-- the entries of a section
section_entries_are : (n : Object) (numbers : List ℕ) (k : ℕ) (s : Section) → section_entries k (written.fixups_of numbers n k) (length s.bytes) ≡ map entry_for (data_outputs n (k, s))
unfolding pieces_of
section_entries_are n numbers k s =
    ap (λ os. flat_map (piece_entries k (written.fixups_of numbers n k)) (pieces_upto (length s.bytes) os (length s.bytes) 0)) (places_are n numbers k)
    ∙ pieces_are n numbers k s (pieces_upto (length s.bytes) (offsets_of n k) (length s.bytes) 0)

-- a section with its numbers is as long
numbers_long : (n : Object) (k : ℕ) (s : Section) → length (with_numbers (addend_in n k) (list_of n.relocs k) s).bytes ≡ length s.bytes
unfolding raw_of
numbers_long n k s = length-raw n k s

-- the entries of all sections
data_from : (n : Object) (numbers : List ℕ) (k : ℕ) (ss : List Section) → ((j : ℕ) (s : Section) → slice_get ss j ≡ Some s → slice_get n.sections (k + j) ≡ Some s)
    → flat_map (λ (x : ℕ × Section). section_entries x.0 (fixups_at (fixups_in numbers n) x.0) (length x.1.bytes)) (enumerate_from k (map (section_with_numbers (addend_in n) n.relocs) (enumerate_from k ss)))
    ≡ map entry_for (flat_map (data_outputs n) (enumerate_from k ss))
data_from n numbers k [] there = refl
data_from n numbers k (s ∷ ss) there =
    let rest : List Entry
    = flat_map (λ (x : ℕ × Section). section_entries x.0 (fixups_at (fixups_in numbers n) x.0) (length x.1.bytes)) (enumerate_from (k + 1) (map (section_with_numbers (addend_in n) n.relocs) (enumerate_from (k + 1) ss))) in
    let own : slice_get n.sections k ≡ Some s = ap (slice_get n.sections) (omega arith) ∙ there 0 s refl in
    let long : length (with_numbers (addend_in n k) (list_of n.relocs k) s).bytes ≡ length s.bytes = numbers_long n k s in
    ap (λ fs. section_entries k fs (length (with_numbers (addend_in n k) (list_of n.relocs k) s).bytes) ++ rest) (fixups_there n numbers k s own)
    ∙ ap (λ m. section_entries k (written.fixups_of numbers n k) m ++ rest) long
    ∙ ap (λ es. es ++ rest) (section_entries_are n numbers k s)
    ∙ ap (λ es. map entry_for (data_outputs n (k, s)) ++ es) (data_from n numbers (k + 1) ss (λ j x h. ap (slice_get n.sections) (omega arith) ∙ there (suc j) x h))
    ∙ sym (map_append entry_for (data_outputs n (k, s)) (flat_map (data_outputs n) (enumerate_from (k + 1) ss)))

pub data_are : (n : Object) (numbers : List ℕ) → data_entries (fixups_in numbers n) (sections_in n) ≡ map entry_for (flat_map (data_outputs n) (enumerate_from 0 n.sections))
data_are n numbers = data_from n numbers 0 n.sections (λ j s h. ap (slice_get n.sections) (omega arith) ∙ h)
