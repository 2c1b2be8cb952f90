-- Fields whose relocations are ready to be added.
use Rattle.std.proofs.Common.{◌≡◌, ℕ, ◌+◌, ◌<◌, ◌≤◌, false, cond, List, [], get_or, length, take, Option, None, Some, sym, ◌∙◌, ap, subst, arith}
use Rattle.std.specs.{Prelude.{slice_get, Vec}, Global.{Global}, List.Sorted.{IsPermutation}, Option.{option_map_or}}
use Rattle.std.proofs.lemmas.Option.{slice_get_within}
use Rattle.oc_base.specs.{declared.format.Word.TheVariants.{W32}, Numbers.{number_at}}
use Rattle.oc_linking.specs.FirstFault.{first_fault}
use Rattle.oc_neutral.specs.{declared.reloc.Reloc.{Reloc}, Building.{Draft, is_zero}, Omf.Relocs.{fixup_row}}
use Rattle.oc_shows.specs.{Built.{HasAdded}, RowValues.{row_reloc}}
use Rattle.oc_omf.specs.{declared.structures.Segment.{Segment}, Entries.{Entry, entries_in}, Fields.{fixups_in}, HeaderFaults.{IsModule}}
use Rattle.oc_omf.specs.{Sections.{contents_of, segment_kind, segment_size}, SymbolFaults.{symbol_stages}, Symbols.{symbols_in}, Tables.{tables_of}}
use Rattle.oc_omf.specs.Targets.{meaning_of}
use Rattle.oc_omf_read.specs.{declared.fields.FixupField.{FixupField}, declared.fixes.FixupContext.{FixupContext}, Adding.{IsReady}, Aims.{meaning_seen}}
use Rattle.oc_omf_read.specs.{Built.{started}, Contents.{AreStored, items_at}, Fields.{fields_of, given_with}, Fixing.{added_by, framed_as}, Given.{given_at}}
use Rattle.oc_omf_read.specs.Declarations.{declarations_in}
use Rattle.oc_omf_read.proofs.{ContentLemmas.{indexed_is}, CountLemmas.{few_declarations}, HearLemmas.{few_symbols}, SymbolLemmas.{as_many as as_many_symbols}}
use Rattle.oc_omf_read.proofs.{FixLemmas.{field_number, reloc_as}, AddedFields.{IsInside, all_done, field_inside, field_taken}}
use Rattle.oc_shows.proofs.AddedLaws.{IsTaken}

-- ... contents

-- what stands in a field
pub number_is : (entries : List Entry) (vectors : List (Vec ℕ Global)) → AreStored (tables_of entries) (tables_of entries) vectors → (s at : ℕ) (g : Segment) → slice_get (tables_of entries).segments s ≡ Some g → is_zero (segment_kind (tables_of entries) (s + 1) g) ≡ false
    → number_at (items_at vectors s) at 4 ≡ field_number (meaning_of entries) s at
unfolding meaning_of
number_is entries vectors are s at g there stored =
    ap (λ (xs : List ℕ). number_at xs at 4) (are.each s g there ∙ ap (λ b. cond b [] (contents_of (tables_of entries) (s + 1) (segment_size g))) stored)
    ∙ ap (λ (n : ℕ). number_at (contents_of (tables_of entries) (s + 1) n) at 4) (sym (ap (λ (o : Option Segment). option_map_or segment_size o 0) (indexed_is (tables_of entries).segments s ∙ there)))

pub long_enough : (entries : List Entry) (vectors : List (Vec ℕ Global)) → AreStored (tables_of entries) (tables_of entries) vectors → (s : ℕ) (g : Segment) → slice_get (tables_of entries).segments s ≡ Some g → is_zero (segment_kind (tables_of entries) (s + 1) g) ≡ false
    → length (items_at vectors s) ≡ segment_size g
long_enough entries vectors are s g there stored = are.sizes s g there ∙ ap (λ b. cond b 0 (segment_size g)) stored

-- ... as it is ready

pub few_symbols_in : (file : List ℕ) → IsModule file → first_fault (symbol_stages (entries_in file)) ≡ None → length (symbols_in (entries_in file)) ≤ 4294967295
few_symbols_in file head symbols =
    let many = as_many_symbols (entries_in file) symbols in
    let told = few_declarations file in
    let few = few_symbols (declarations_in (entries_in file)) in
    let small = head.small in
    omega (arith, many, told, few, small)

module _ (s : FixupContext) (vectors : List (Vec ℕ Global)) (ready : IsReady s vectors) (fields : List FixupField) (are : IsPermutation (fields_of (meaning_seen s) s.keep (fixups_in (entries_in s.omf.now))) fields)
    (j : ℕ) (e : FixupField) (below : j < length fields) where
  abbrev there : IsInside s.omf.now ready.bytes s.keep ready.sections ready.symbols ready.relocs (few_symbols_in s.omf.now ready.head ready.symbols) (get_or fields j e).section (get_or fields j e).at
  there = field_inside s.omf.now ready.bytes s.keep ready.sections ready.symbols ready.relocs (few_symbols_in s.omf.now ready.head ready.symbols) ready.start fields are j e below

  pub ready_section : (get_or fields j e).section < length vectors
  ready_section =
      let low = slice_get_within (tables_of (entries_in s.omf.now)).segments (get_or fields j e).section there.segment there.there in
      let long = ready.contents.long in
      omega (arith, low, long)

  pub ready_inside : (get_or fields j e).at + 4 ≤ length (items_at vectors (get_or fields j e).section)
  ready_inside =
      let inside = there.inside in
      let long = long_enough (entries_in s.omf.now) vectors ready.contents (get_or fields j e).section there.segment there.there there.stored in
      omega (arith, inside, long)

  -- its relocation is added
  pub ready_taken : (d : Draft) → HasAdded (started s.omf.now) d (given_with (entries_in s.omf.now) s.keep (take j fields)) → (number : ℕ) (r : Reloc) → number ≡ number_at (items_at vectors (get_or fields j e).section) (get_or fields j e).at 4
      → ((x : ℕ) → r ≡ row_reloc W32 (fixup_row (framed_as (get_or fields j e).fix.framed)) x (added_by (get_or fields j e).fix number) (get_or fields j e).fix.target)
      → IsTaken (started s.omf.now) d (get_or fields j e).section (get_or fields j e).at r (given_with (entries_in s.omf.now) s.keep (take (j + 1) fields))
  ready_taken d has number r read made =
      let k = field_taken s.omf.now ready.bytes s.keep ready.sections ready.symbols ready.relocs (few_symbols_in s.omf.now ready.head ready.symbols) ready.start fields are j e below d has in
      let f : FixupField = get_or fields j e in
      let same : reloc_as (meaning_seen s) f.section f.at f.fix ≡ r =
      ap (λ (n : ℕ). row_reloc W32 (fixup_row (framed_as f.fix.framed)) f.section (added_by f.fix n) f.fix.target) (sym (read ∙ number_is (entries_in s.omf.now) vectors ready.contents f.section f.at there.segment there.there there.stored))
      ∙ sym (made f.section) in
      subst (λ (q : Reloc). IsTaken (started s.omf.now) d f.section f.at q (given_with (entries_in s.omf.now) s.keep (take (j + 1) fields))) same k

  -- the same of a field that is the one there
  pub taken_as : (f : FixupField) → f ≡ get_or fields j e → (d : Draft) → HasAdded (started s.omf.now) d (given_with (entries_in s.omf.now) s.keep (take j fields)) → (number : ℕ) (r : Reloc) → number ≡ number_at (items_at vectors f.section) f.at 4
      → ((x : ℕ) → r ≡ row_reloc W32 (fixup_row (framed_as f.fix.framed)) x (added_by f.fix number) f.fix.target)
      → IsTaken (started s.omf.now) d f.section f.at r (given_with (entries_in s.omf.now) s.keep (take (j + 1) fields))
  taken_as f is d has number r read made =
      subst (λ (g : FixupField). IsTaken (started s.omf.now) d g.section g.at r (given_with (entries_in s.omf.now) s.keep (take (j + 1) fields))) (sym is)
      (ready_taken d has number r (subst (λ (g : FixupField). number ≡ number_at (items_at vectors g.section) g.at 4) is read)
      (subst (λ (g : FixupField). (x : ℕ) → r ≡ row_reloc W32 (fixup_row (framed_as g.fix.framed)) x (added_by g.fix number) g.fix.target) is made))

pub ready_done : (s : FixupContext) (vectors : List (Vec ℕ Global)) (ready : IsReady s vectors) (fields : List FixupField) → IsPermutation (fields_of (meaning_seen s) s.keep (fixups_in (entries_in s.omf.now))) fields → (n : ℕ) → n ≡ length fields → (x at : ℕ)
    → given_with (entries_in s.omf.now) s.keep (take n fields) x at ≡ given_at (entries_in s.omf.now) s.keep x at
ready_done s vectors ready fields are n all x at = all_done s.omf.now ready.bytes s.keep ready.sections ready.symbols ready.relocs (few_symbols_in s.omf.now ready.head ready.symbols) ready.start fields are n all x at
