-- A module has fewer mentions of symbols than bytes.
use Rattle.std.proofs.Common.{◌≡◌, ℕ, zero, suc, ◌+◌, ◌-◌, ◌≤◌, Bool, true, false, cond, List, [], ◌∷◌, length, map, drop, min, None, Some, Ok, Err, refl, ◌∙◌, ap, arith, length-append, length-take, length-drop}
use Rattle.std.specs.{Prelude.{flat_map, nat_lt, Result}, Option.{option_map_or}}
use Rattle.std.proofs.lemmas.List.{length-map}
use Rattle.oc_omf_records.specs.{declared.records.Entry.{Entry as Record}, NextEntry.{end_of_entry, entry_of}}
use Rattle.oc_omf.specs.{declared.cut.Cut.{Cut}, declared.structures.PublicBase.{PublicBase}, Cursor.{Reading, Read, and_more, each_read, each_upto}}
use Rattle.oc_omf.specs.Structures.{External, base_read, communal_read, external_read, public_read}
use Rattle.oc_omf.specs.Entries.{Entry, all_read, entries_in, is_last, is_wide, next_place, places_in, places_upto, said_at}
use Rattle.oc_omf.proofs.PlaceLemmas.{next_inside}
use Rattle.oc_omf_read.specs.{declared.class.EntryClass.{EntryClass}, Classes.{class_of}, Defined.{said}}
use Rattle.oc_omf_read.specs.Declarations.{of_external, of_public, publics_behind, public_declarations, declarations_by, declarations_in}
use Rattle.oc_omf_read.specs.declared.class.EntryClass.TheVariants as class
use Rattle.oc_omf_read.proofs.DefinedLemmas.{said_by_class}
use Rattle.oc_omf_read.proofs.DeclarationLemmas.{communals_are, externals_are, local_externals_are, local_publics_are, publics_are}

-- ... one entry

read_few : {X : Type 0} (ss : List (Read X)) → length (all_read ss) ≤ length ss
read_few [] = omega arith
read_few {X} (s ∷ ss) = by s.part (read_few ss)
  where
    by : (r : Result X Cut) → length (all_read ss) ≤ length ss → length (all_read (record { at = s.at; part = r } ∷ ss)) ≤ suc (length ss)
    by r low = grind arith

upto_few : {X : Type 0} (n : ℕ) (read : List ℕ → ℕ → Reading X) (b : List ℕ) (at : ℕ) → length (each_upto n read b at) ≤ n
upto_few zero read b at = omega arith
upto_few {X} (suc n) read b at = by (nat_lt at (length b)) (read b at) (λ p. upto_few n read b p)
  where
    by : (c : Bool) (r : Reading X) → ((p : ℕ) → length (each_upto n read b p) ≤ n) → length (cond c (and_more at r (each_upto n read b)) []) ≤ suc n
    by c r low = grind arith

each_few : {X : Type 0} (read : List ℕ → ℕ → Reading X) (b : List ℕ) (at : ℕ) → length (all_read (each_read read b at)) ≤ length b
unfolding each_read
each_few read b at = let few = upto_few (length b) read b at in let less = read_few (each_upto (length b) read b at) in omega (arith, few, less)

publics_few : (wide local : Bool) (b : List ℕ) → length (public_declarations wide local b) ≤ length b
publics_few wide local b = by (base_read b 0)
  where
    by : (r : Reading PublicBase) → length (map of_public (all_read (publics_behind wide local b r))) ≤ length b
    by (Ok r) = let few = each_few (public_read wide local r.0.segment) b r.1 in let same = length-map (all_read (each_read (public_read wide local r.0.segment) b r.1)) of_public in omega (arith, few, same)
    by (Err c) = omega arith

externals_few : (read : List ℕ → ℕ → Reading External) (b : List ℕ) → length (map of_external (all_read (each_read read b 0))) ≤ length b
externals_few read b = let few = each_few read b 0 in let same = length-map (all_read (each_read read b 0)) of_external in omega (arith, few, same)

told_few : (r : Record) (k : EntryClass) → class_of r.kind ≡ k → length (declarations_by (said r)) ≤ length r.contents
told_few r class.Publics is = let same = ap length (publics_are r is) in let few = publics_few (is_wide r.kind) false r.contents in omega (arith, same, few)
told_few r class.LocalPublics is = let same = ap length (local_publics_are r is) in let few = publics_few (is_wide r.kind) true r.contents in omega (arith, same, few)
told_few r class.Externals is = let same = ap length (externals_are r is) in let few = externals_few (external_read false) r.contents in omega (arith, same, few)
told_few r class.LocalExternals is = let same = ap length (local_externals_are r is) in let few = externals_few (external_read true) r.contents in omega (arith, same, few)
told_few r class.Communals is = let same = ap length (communals_are r is) in let few = externals_few communal_read r.contents in omega (arith, same, few)
told_few r class.Names is = let same = ap (λ (e : Entry). length (declarations_by e)) (said_by_class r class.Names is) in omega (arith, same)
told_few r class.Segment is = let same = ap (λ (e : Entry). length (declarations_by e)) (said_by_class r class.Segment is) in omega (arith, same)
told_few r class.Group is = let same = ap (λ (e : Entry). length (declarations_by e)) (said_by_class r class.Group is) in omega (arith, same)
told_few r class.Plain is = let same = ap (λ (e : Entry). length (declarations_by e)) (said_by_class r class.Plain is) in omega (arith, same)
told_few r class.Iterated is = let same = ap (λ (e : Entry). length (declarations_by e)) (said_by_class r class.Iterated is) in omega (arith, same)
told_few r class.Fixups is = let same = ap (λ (e : Entry). length (declarations_by e)) (said_by_class r class.Fixups is) in omega (arith, same)
told_few r class.Nothing is = let same = ap (λ (e : Entry). length (declarations_by e)) (said_by_class r class.Nothing is) in omega (arith, same)

-- ... all entries

contents_long : (file : List ℕ) (at : ℕ) → length (entry_of file at).contents ≡ min (end_of_entry file at - 1 - (at + 3)) (length file - (at + 3))
contents_long file at = length-take (end_of_entry file at - 1 - (at + 3)) (drop (at + 3) file) ∙ ap (min (end_of_entry file at - 1 - (at + 3))) (length-drop (at + 3) file)

next_is : (file : List ℕ) (at q : ℕ) → next_place file at ≡ Some q → end_of_entry file at ≡ q
next_is file at q e = by (is_last file at) e
  where
    by : (b : Bool) → cond b None (Some (end_of_entry file at)) ≡ Some q → end_of_entry file at ≡ q
    by b e = grind arith

places_few : (n : ℕ) (file : List ℕ) (at : ℕ) → at ≤ length file → length (flat_map declarations_by (map (said_at file) (places_upto n file at))) + at ≤ length file
places_few zero file at low = omega (arith, low)
places_few (suc n) file at low = elim (next_place file at) as (λ o. next_place file at ≡ o → length (flat_map declarations_by (map (said_at file) (at ∷ option_map_or (places_upto n file) o []))) + at ≤ length file) [
  | None ↦ λ e.
      let one = told_few (entry_of file at) (class_of (entry_of file at).kind) refl in
      let long = contents_long file at in
      let sum = length-append (declarations_by (said_at file at)) [] in
      omega (arith, one, long, sum, low)
  | Some q ↦ λ e.
      let one = told_few (entry_of file at) (class_of (entry_of file at).kind) refl in
      let long = contents_long file at in
      let inside = next_inside file at q e in
      let is = next_is file at q e in
      let rest = places_few n file q inside.1 in
      let sum = length-append (declarations_by (said_at file at)) (flat_map declarations_by (map (said_at file) (places_upto n file q))) in
      omega (arith, one, long, inside.0, is, rest, sum)
] refl

pub few_declarations : (file : List ℕ) → length (declarations_in (entries_in file)) ≤ length file
unfolding declarations_in entries_in places_in
few_declarations file = let few = places_few (length file + 1) file 0 (omega arith) in omega (arith, few)
