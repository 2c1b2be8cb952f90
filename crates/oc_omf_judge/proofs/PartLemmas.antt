-- Threads and fixups that follow one another, each judged behind those before it.
use Rattle.std.proofs.Common.{◌≡◌, ℕ, ◌+◌, ◌<◌, ◌≤◌, Bool, List, [], ◌∷◌, ◌++◌, length, take, Option, Some, None, Ok, Err, refl, sym, ◌∙◌, ap, subst, arith, append-nil, append_assoc}
use Rattle.std.specs.{Prelude.{flat_map, slice_get}, List.{enumerate_from}}
use Rattle.std.proofs.lemmas.Grind.{flat_map-append}
use Rattle.oc_base.specs.{declared.code.Code.TheVariants.{BadTable}, declared.fault.Fault.{Fault}, declared.stop.Stop.{Stop}, Stops.{IsStop}}
use Rattle.oc_base.specs.declared.stop.Stop.TheVariants as stop
use Rattle.oc_linking.specs.{Numbers.{first_upto, or_else}, FirstFault.{first_broken, first_fault, stage_fault}}
use Rattle.oc_neutral.proofs.FieldLists.{take_here}
use Rattle.oc_neutral.specs.TargetSections.{each_of}
use Rattle.oc_shelf.proofs.{WritingLaws.MemberLemmas.{member_enumerated}, ReadingLaws.StageLemmas.{first_upto-head, first_upto-same}}
use Rattle.oc_omf.specs.{declared.constants.TheConstants.{ENTRY_HEAD}, declared.cut.Cut.{Cut}, declared.structures.Subrecord.{Subrecord}}
use Rattle.oc_omf.specs.{Structures.{subrecord_read}, Entries.{Entry, in_file}, Tables.{Tables, tables_of}}
use Rattle.oc_omf.specs.Fixups.{PlacedSubrecord, subrecords_by, subrecords_upto}
use Rattle.oc_omf.specs.RelocationFaults.{relocation_conditions, relocation_stage, relocation_stages}
use Rattle.oc_omf.proofs.EachLemmas.{each_cut, each_end, each_from, each_more}
use Rattle.oc_omf_judge.proofs.{SymbolStages.{staged, verdict_at}, SubrecordLemmas.{subrecord_goes}}
use Rattle.oc_omf_judge.specs.{declared.reached.Reached.{Reached}, declared.whole.Whole.{Whole}}
use Rattle.oc_omf_judge.specs.{Reached.{IsReached, judged_behind, placed_at, placed_in, relocation_fault}, Whole.{entries, meaning}}

-- ... a walk along the subrecords of an entry

module _ (w : Whole) (index place : ℕ) (wide : Bool) (b : List ℕ) (before : Tables) (start : List PlacedSubrecord) where
  -- the subrecords from a place on
  abbrev pub left_at : ℕ → List PlacedSubrecord
  left_at at = placed_in index before (in_file place (each_from (subrecord_read wide) b at))

  -- the one at a place, by what is read of it
  abbrev pub part_at : ℕ → Subrecord → PlacedSubrecord
  part_at at x = placed_at before (index, place + ENTRY_HEAD + at) (Ok x)

  -- those before a place are taken up, and those from there on have the first fault of all
  abbrev pub Walk : ℕ → Reached → Type 0
  Walk at now =
      (earlier : List PlacedSubrecord) × IsReached w before earlier now × (judged_behind w start (left_at 0) ≡ judged_behind w earlier (left_at at)) × (start ++ left_at 0 ≡ earlier ++ left_at at)

  pub walk_begin : (now : Reached) → IsReached w before start now → Walk 0 now
  walk_begin now is = (start, is, refl, refl)

  module _ (at : ℕ) (now : Reached) (walk : Walk at now) where
    here : at < length b → (x : Subrecord) (q : ℕ) → subrecord_read wide b at ≡ Ok (x, q) → left_at at ≡ part_at at x ∷ left_at q
    here low x q e = ap (λ rs. placed_in index before (in_file place rs)) (each_more (subrecord_read wide) b (subrecord_goes wide b) at low x q e)

    pub walk_more : (new : Reached) (x : Subrecord) (q : ℕ) → at < length b → subrecord_read wide b at ≡ Ok (x, q)
        → first_broken (relocation_conditions (meaning w) w.keep walk.0 (part_at at x)) ≡ None → IsReached w before (walk.0 ++ part_at at x ∷ []) new → Walk q new
    walk_more new x q low e clean is = (
      walk.0 ++ part_at at x ∷ [],
      is,
      walk.2 ∙ ap (judged_behind w walk.0) (here low x q e) ∙ ap (λ o. or_else o (judged_behind w (walk.0 ++ part_at at x ∷ []) (left_at q))) clean,
      walk.3 ∙ ap (λ xs. walk.0 ++ xs) (here low x q e) ∙ sym (append_assoc walk.0 (part_at at x ∷ []) (left_at q)),
    )

    pub walk_stop : (x : Subrecord) (q : ℕ) (s : Stop) → at < length b → subrecord_read wide b at ≡ Ok (x, q)
        → IsStop (first_broken (relocation_conditions (meaning w) w.keep walk.0 (part_at at x))) s → IsStop (judged_behind w start (left_at 0)) s
    walk_stop x q s low e is = subst (λ o. IsStop o s) (sym (walk.2 ∙ ap (judged_behind w walk.0) (here low x q e))) (first s is)
      where
        first : (s : Stop) → IsStop (first_broken (relocation_conditions (meaning w) w.keep walk.0 (part_at at x))) s
            → IsStop (or_else (first_broken (relocation_conditions (meaning w) w.keep walk.0 (part_at at x))) (judged_behind w (walk.0 ++ part_at at x ∷ []) (left_at q))) s
        first (stop.Refused f) i = ap (λ o. or_else o (judged_behind w (walk.0 ++ part_at at x ∷ []) (left_at q))) i
        first stop.NoMemory i = tt

    pub walk_cut : (c : Cut) → at < length b → subrecord_read wide b at ≡ Err c → judged_behind w start (left_at 0) ≡ Some (relocation_fault (index, place + ENTRY_HEAD + at) BadTable)
    unfolding relocation_conditions
    walk_cut c low e = walk.2 ∙ ap (λ rs. judged_behind w walk.0 (placed_in index before (in_file place rs))) (each_cut (subrecord_read wide) b (subrecord_goes wide b) at low c e)

    pub walk_end : length b ≤ at → (judged_behind w start (left_at 0) ≡ None) × IsReached w before (start ++ left_at 0) now
    walk_end high =
        let none = each_end (subrecord_read wide) b at high in (
          walk.2 ∙ ap (λ rs. judged_behind w walk.0 (placed_in index before (in_file place rs))) none,
          subst (λ xs. IsReached w before xs now) (sym (walk.3 ∙ ap (λ rs. walk.0 ++ placed_in index before (in_file place rs)) none ∙ append-nil walk.0)) walk.1,
        )

-- ... the stages

-- the subrecords of an entry as a stage
from_front : (w : Whole) (xs earlier : List PlacedSubrecord)
    → first_upto (λ j. first_broken (each_of (relocation_conditions (meaning w) w.keep (earlier ++ take j xs)) xs j)) (length xs) ≡ judged_behind w earlier xs
from_front w [] earlier = refl
from_front w (x ∷ xs) earlier =
    first_upto-head (λ j. first_broken (each_of (relocation_conditions (meaning w) w.keep (earlier ++ take j (x ∷ xs))) (x ∷ xs) j)) (length xs)
    ∙ ap (λ e. or_else (first_broken (relocation_conditions (meaning w) w.keep e x)) (first_upto (λ j. first_broken (each_of (relocation_conditions (meaning w) w.keep (earlier ++ (x ∷ take j xs))) xs j)) (length xs))) (append-nil earlier)
    ∙ ap (or_else (first_broken (relocation_conditions (meaning w) w.keep earlier x)))
    (first_upto-same (λ j. first_broken (each_of (relocation_conditions (meaning w) w.keep (earlier ++ (x ∷ take j xs))) xs j))
    (λ j. first_broken (each_of (relocation_conditions (meaning w) w.keep ((earlier ++ x ∷ []) ++ take j xs)) xs j)) (length xs)
    (λ j low. ap (λ e. first_broken (each_of (relocation_conditions (meaning w) w.keep e) xs j)) (sym (append_assoc earlier (x ∷ []) (take j xs))))
    ∙ from_front w xs (earlier ++ x ∷ []))

-- the first fault of the threads and fixups of the entry at a position
abbrev pub relocations_at : Whole → ℕ → Option Fault
relocations_at w = verdict_at (relocation_stage (entries w) w.keep) (entries w)

pub relocations_first : (w : Whole) → first_fault (relocation_stages (entries w) w.keep) ≡ first_upto (relocations_at w) (length (entries w))
relocations_first w = staged (relocation_stage (entries w) w.keep) (entries w)

pub relocations_here : (w : Whole) (i : ℕ) (e : Entry) → slice_get (entries w) i ≡ Some e
    → relocations_at w i ≡ judged_behind w (subrecords_upto (entries w) i) (placed_in i (tables_of (take i (entries w))) e.subrecords)
relocations_here w i e here =
    ap (λ (o : Option Entry). elim o as (λ _. Option Fault) [ Some x ↦ stage_fault (relocation_stage (entries w) w.keep (i, x)) | None ↦ None ]) here
    ∙ from_front w (placed_in i (tables_of (take i (entries w))) e.subrecords) (subrecords_upto (entries w) i)

-- the subrecords of one entry more
pub placed_more : (w : Whole) (i : ℕ) (e : Entry) → slice_get (entries w) i ≡ Some e
    → subrecords_upto (entries w) (i + 1) ≡ subrecords_upto (entries w) i ++ placed_in i (tables_of (take i (entries w))) e.subrecords
unfolding subrecords_upto
placed_more w i e here =
    ap (flat_map (subrecords_by (entries w))) (take_here (enumerate_from 0 (entries w)) i (0 + i, e) (member_enumerated 0 (entries w) i e here))
    ∙ flat_map-append (subrecords_by (entries w)) (take i (enumerate_from 0 (entries w))) ((0 + i, e) ∷ [])
    ∙ ap (λ xs. subrecords_upto (entries w) i ++ xs) (append-nil (subrecords_by (entries w) (0 + i, e)))
    ∙ let same : 0 + i ≡ i = omega arith in ap (λ (k : ℕ). subrecords_upto (entries w) i ++ subrecords_by (entries w) (k, e)) same
