-- One thread or fixup more, behind what a reader keeps.
use Rattle.std.proofs.Common.{◌≡◌, ℕ, ◌+◌, ◌<◌, Bool, true, false, cond, List, [], ◌∷◌, ◌++◌, Option, None, Some, Ok, refl, sym, ◌∙◌, ap, subst, arith}
use Rattle.std.specs.{Prelude.{◌||◌, if◌then◌else◌, nat_eq, not, slice_get}, List.{list_any}}
use Rattle.std.specs.Option.{is_some, option_and_then, option_map, option_map_or, unwrap_or}
use Rattle.std.proofs.lemmas.Option.{get_or_from_slice_get, none-some, slice_get_within}
use Rattle.oc_base.specs.{declared.code.Code.TheVariants.{BadOffset, BadTarget, Overlap, RelocKind, TargetKind}, declared.fault.Fault.{Fault}}
use Rattle.oc_base.specs.{declared.stop.Stop.{Stop}, Stops.{IsStop}}
use Rattle.oc_base.specs.declared.stop.Stop.TheVariants as stop
use Rattle.oc_linking.specs.{Numbers.{or_else}, FirstFault.{Condition, first_broken}}
use Rattle.oc_shelf.proofs.WritingLaws.MemberLemmas.{of_map}
use Rattle.oc_omf_records.specs.Blocks.{copies_of, moved, size_of}
use Rattle.oc_omf_records.proofs.CopyLemmas.{IsWithin, copies_of-within}
use Rattle.oc_omf.specs.{declared.constants.TheConstants.{OFFSET_32}, declared.structures.Datum.{Datum}, declared.structures.Fixup.{Fixup}}
use Rattle.oc_omf.specs.{declared.structures.Thread.{Thread}, declared.threads.Threads.{Threads}, Structures.{Piece}, Tables.{Tables, is_there}}
use Rattle.oc_omf.specs.{Sections.{blocks_in}, Fixups.{Fixed, PlacedSubrecord, copies_for, fixed_in, fixed_of, is_inside, last_of, meet, method_of}}
use Rattle.oc_omf.specs.{Fields.{aim_of}, Known.{AreInForce, IsThreadTaken}, Targets.{meaning_of}}
use Rattle.oc_omf.specs.RelocationFaults.{fixup_conditions, is_datum_there, relocation_conditions}
use Rattle.oc_omf.specs.declared.structures.Datum.TheVariants as datum
use Rattle.oc_omf.specs.declared.structures.Subrecord.TheVariants as subrecord
use Rattle.oc_omf.specs.RelocationFaults as faults
use Rattle.oc_omf_judge.proofs.{StateLaws.{force_stays, force_thread}, FixedLemmas.{fixed_more}, RowLemmas.{row_is}}
use Rattle.oc_omf_judge.proofs.StartLemmas.{begins_among, free_meets, met_meets, starts_more, starts_stay}
use Rattle.oc_omf_judge.specs.{declared.reached.Reached.{Reached}, declared.starts.Starts.{Starts}, declared.whole.Whole.{Whole}, Counts.{AreCounts}}
use Rattle.oc_omf_judge.specs.{Fixups.{AreFieldsStopped, AreFieldsTaken, names_fault}, Lying.{IsLow, Lying, base, copies_in, lying_of}}
use Rattle.oc_omf_judge.specs.{Reached.{IsReached, IsSame, base_in, last_in, placed_at, relocation_fault}, Rows.{has_row}}
use Rattle.oc_omf_judge.specs.{Starts.{AreStarts, IsLowField, IsMet, is_among, is_start, starts_at}, Threads.{method_by}}
use Rattle.oc_omf_judge.specs.Whole.{IsWhole, is_judged, is_judged_in, meaning, tables}

-- ... what indexes name

pub method_is : (earlier : List PlacedSubrecord) (threads : Threads) (frame : Bool) (d : Datum) → AreInForce earlier threads → method_by threads frame d ≡ method_of earlier frame d
method_is earlier threads frame (datum.Explicit x) are = refl
method_is earlier threads frame (datum.Thread number) are = are frame number

-- the same is kept
pub reached_same : (w : Whole) (before : Tables) (earlier : List PlacedSubrecord) (old new : Reached) → IsReached w before earlier old → IsSame old new → IsReached w before earlier new
reached_same w before earlier old new is same = record {
  counts_are = subst (AreCounts before) (sym same.counts) is.counts_are;
  last_is = is.last_is ∙ sym same.last;
  threads_are = subst (AreInForce earlier) (sym same.threads) is.threads_are;
  starts_are = subst (AreStarts w (fixed_in earlier)) (sym same.starts) is.starts_are;
}

-- ... a thread

module _ (w : Whole) (before : Tables) (earlier : List PlacedSubrecord) (old : Reached) (is : IsReached w before earlier old) (at : ℕ × ℕ) where
  -- it names an index that is there, or not
  pub thread_verdict : (x : Thread) → first_broken (relocation_conditions (meaning w) w.keep earlier (placed_at before at (Ok (subrecord.Thread x)))) ≡ cond (is_there before x.method) None (Some (relocation_fault at BadTarget))
  unfolding relocation_conditions
  thread_verdict x = by (is_there before x.method)
    where
      by : (b : Bool) → cond (not b) (Some (relocation_fault at BadTarget)) None ≡ cond b None (Some (relocation_fault at BadTarget))
      by true = refl
      by false = refl

  -- it is in force
  pub thread_taken : (x : Thread) (new : Reached) → new.counts ≡ old.counts → last_in new ≡ last_in old → new.starts ≡ old.starts → IsThreadTaken old.threads x new.threads
      → IsReached w before (earlier ++ placed_at before at (Ok (subrecord.Thread x)) ∷ []) new
  thread_taken x new c l s taken = record {
    counts_are = subst (AreCounts before) (sym c) is.counts_are;
    last_is = is.last_is ∙ sym l;
    threads_are = force_thread earlier (placed_at before at (Ok (subrecord.Thread x))) x old.threads new.threads refl is.threads_are taken;
    starts_are = subst (λ fixed. AreStarts w fixed new.starts) (sym (fixed_more earlier (placed_at before at (Ok (subrecord.Thread x)))) ∙ refl) (subst (λ (s : Starts). AreStarts w (fixed_in earlier ++ []) s) (sym s) (subst (λ fixed. AreStarts w fixed old.starts) (sym (right (fixed_in earlier))) is.starts_are));
  }
    where
      right : (xs : List Fixed) → xs ++ [] ≡ xs
      right [] = refl
      right (y ∷ xs) = ap (λ ys. y ∷ ys) (right xs)

  -- ... a fixup

  module _ (f : Fixup) where
    -- the fixup, and as a subrecord
    abbrev x : Fixed
    x = fixed_of earlier before f

    abbrev part : PlacedSubrecord
    part = placed_at before at (Ok (subrecord.Fixup f))

    segment_is : option_map (λ (d : Lying). d.segment) (last_in old) ≡ option_map (λ (d : Piece). d.segment) x.piece
    segment_is = ap (option_map (λ (d : Lying). d.segment)) (sym is.last_is) ∙ by (last_of before.pieces)
      where
        by : (o : Option Piece) → option_map (λ (d : Lying). d.segment) (option_map lying_of o) ≡ option_map (λ (d : Piece). d.segment) o
        by None = refl
        by (Some d) = refl

    -- its section is kept
    pub judged_is : is_judged w x ≡ is_judged_in w (option_map (λ (d : Lying). d.segment) (last_in old))
    judged_is = by x.piece ∙ ap (is_judged_in w) (sym segment_is)
      where
        by : (o : Option Piece) → option_map_or (faults.is_kept (tables w) w.keep) o true ≡ is_judged_in w (option_map (λ (d : Piece). d.segment) o)
        by None = refl
        by (Some d) = refl

    pub copies_are : copies_for x ≡ copies_in (last_in old) f.offset
    copies_are = by (last_of before.pieces) ∙ ap (λ o. copies_in o f.offset) is.last_is
      where
        by : (o : Option Piece) → option_and_then (λ (d : Piece). copies_of (blocks_in d.blocks) f.offset) o ≡ copies_in (option_map lying_of o) f.offset
        by None = refl
        by (Some d) = refl

    -- its fields lie in a section that is small enough, where the data do
    low_field : ((d : Lying) → last_in old ≡ Some d → IsLow d) → IsLowField x
    low_field low = by x.piece refl
      where
        within : (d : Piece) → IsLow (lying_of d) → (o : Option (List ℕ)) → IsWithin (size_of (blocks_in d.blocks)) o → (j p : ℕ) → slice_get (moved d.offset (unwrap_or o [])) j ≡ Some p → p < 2147483648
        within d l None in_size j p here = absurd (none-some p here)
        within d l (Some ps) in_size j p here =
            let m = of_map (λ q. d.offset + q) ps j p here in
            let inside : m.0 < size_of (blocks_in d.blocks) = subst (λ (q : ℕ). q < size_of (blocks_in d.blocks)) (get_or_from_slice_get ps j m.0 m.0 m.1) (in_size j m.0 (slice_get_within ps j m.0 m.1)) in
            let top = l.low (omega (arith, inside)) in
            let same = m.2 in
            omega (arith, inside, top, same)

        offsets : Option Piece → List ℕ
        offsets o = option_map_or (λ (d : Piece). moved d.offset (unwrap_or (option_and_then (λ (d : Piece). copies_of (blocks_in d.blocks) f.offset) o) [])) o []

        by : (o : Option Piece) → last_of before.pieces ≡ o → IsLowField x
        by None e = λ j p here. absurd (none-some p (ap (λ o. slice_get (offsets o) j) (sym e) ∙ here))
        by (Some d) e = λ j p here.
            within d (low (lying_of d) (sym is.last_is ∙ ap (option_map lying_of) e)) (copies_of (blocks_in d.blocks) f.offset) (copies_of-within (blocks_in d.blocks) f.offset) j p (ap (λ o. slice_get (offsets o) j) (sym e) ∙ here)

    -- of another type
    pub kind_stops : nat_eq f.location OFFSET_32 ≡ false → first_broken (fixup_conditions (meaning w) (fixed_in earlier) part x) ≡ Some (relocation_fault at RelocKind)
    unfolding fixup_conditions
    kind_stops e = ap (λ b. cond (not b) (Some (relocation_fault at RelocKind)) (first_broken rest)) e
      where
        rest : List Condition
        rest = (not (is_inside x), faults.relocation_fault part BadOffset)
            ∷ (not (is_datum_there before f.target x.target), faults.relocation_fault part BadTarget)
            ∷ (not (is_datum_there before f.frame x.frame), faults.relocation_fault part BadTarget)
            ∷ (not (faults.has_row (meaning w) x (aim_of (meaning w) x)), faults.relocation_fault part TargetKind)
            ∷ (list_any (meet x) (fixed_in earlier), faults.relocation_fault part Overlap)
            ∷ []

    -- past the data
    pub offset_stops : nat_eq f.location OFFSET_32 ≡ true → copies_in (last_in old) f.offset ≡ None → first_broken (fixup_conditions (meaning w) (fixed_in earlier) part x) ≡ Some (relocation_fault at BadOffset)
    unfolding fixup_conditions
    offset_stops e none = let outside : is_inside x ≡ false = ap is_some (copies_are ∙ none) in rw (e, outside) refl

    -- what it names, and then whether it meets another
    abbrev names_kept : Option Fault
    names_kept = names_fault w before (option_map (λ (d : Lying). d.segment) (last_in old)) at f (method_by old.threads false f.target) (method_by old.threads true f.frame)

    pub names_judged : IsWhole w → nat_eq f.location OFFSET_32 ≡ true → (ps : List ℕ) → copies_in (last_in old) f.offset ≡ Some ps
        → first_broken (fixup_conditions (meaning w) (fixed_in earlier) part x) ≡ or_else names_kept (cond (list_any (meet x) (fixed_in earlier)) (Some (relocation_fault at Overlap)) None)
    unfolding fixup_conditions
    names_judged whole e ps some =
        let inside : is_inside x ≡ true = ap is_some (copies_are ∙ some) in
        rw (e, inside) (chain (is_datum_there before f.target x.target) (is_datum_there before f.frame x.frame) (faults.has_row (meaning w) x (aim_of (meaning w) x)) (list_any (meet x) (fixed_in earlier))
        ∙ ap (λ o. or_else o (cond (list_any (meet x) (fixed_in earlier)) (Some (relocation_fault at Overlap)) None)) (sym kept))
      where
        of_three : Bool → Bool → Bool → Option Fault
        of_three a b c = if a then (if b then (if c then None else Some (relocation_fault at TargetKind)) else Some (relocation_fault at BadTarget)) else Some (relocation_fault at BadTarget)

        chain : (a b c m : Bool) → first_broken ((not a, relocation_fault at BadTarget) ∷ (not b, relocation_fault at BadTarget) ∷ (not c, relocation_fault at TargetKind) ∷ (m, relocation_fault at Overlap) ∷ [])
            ≡ or_else (of_three a b c) (cond m (Some (relocation_fault at Overlap)) None)
        chain false b c m = refl
        chain true false c m = refl
        chain true true false m = refl
        chain true true true true = refl
        chain true true true false = refl

        target_is : method_by old.threads false f.target ≡ x.target
        target_is = method_is earlier old.threads false f.target is.threads_are

        frame_is : method_by old.threads true f.frame ≡ x.frame
        frame_is = method_is earlier old.threads true f.frame is.threads_are

        row : has_row w (option_map (λ (d : Lying). d.segment) (last_in old)) f.segment_relative (method_by old.threads false f.target) (method_by old.threads true f.frame) ≡ faults.has_row (meaning w) x (aim_of (meaning w) x)
        row =
            ap (λ g. has_row w g f.segment_relative (method_by old.threads false f.target) (method_by old.threads true f.frame)) segment_is
            ∙ ap (λ o. has_row w (option_map (λ (d : Piece). d.segment) x.piece) f.segment_relative o (method_by old.threads true f.frame)) target_is
            ∙ ap (λ o. has_row w (option_map (λ (d : Piece). d.segment) x.piece) f.segment_relative x.target o) frame_is
            ∙ row_is w whole x

        kept : names_kept ≡ of_three (is_datum_there before f.target x.target) (is_datum_there before f.frame x.frame) (faults.has_row (meaning w) x (aim_of (meaning w) x))
        kept =
            ap (λ a. of_three a (is_datum_there before f.frame (method_by old.threads true f.frame)) (has_row w (option_map (λ (d : Lying). d.segment) (last_in old)) f.segment_relative (method_by old.threads false f.target) (method_by old.threads true f.frame)))
            (ap (is_datum_there before f.target) target_is)
            ∙ ap (λ b. of_three (is_datum_there before f.target x.target) b (has_row w (option_map (λ (d : Lying). d.segment) (last_in old)) f.segment_relative (method_by old.threads false f.target) (method_by old.threads true f.frame)))
            (ap (is_datum_there before f.frame) frame_is)
            ∙ ap (of_three (is_datum_there before f.target x.target) (is_datum_there before f.frame x.frame)) row

    -- the data that it is in
    data_there : (ps : List ℕ) → copies_in (last_in old) f.offset ≡ Some ps → (d : Piece) × (x.piece ≡ Some d) × (base_in old ≡ base (lying_of d))
    data_there ps some = by (last_of before.pieces) refl
      where
        by : (o : Option Piece) → last_of before.pieces ≡ o → (d : Piece) × (x.piece ≡ Some d) × (base_in old ≡ base (lying_of d))
        by None e = absurd (none-some ps (ap (λ o. copies_in (option_map lying_of o) f.offset) (sym e) ∙ ap (λ o. copies_in o f.offset) is.last_is ∙ some))
        by (Some d) e = (d, e, ap (λ o. option_map_or base o 0) (sym is.last_is) ∙ ap (λ o. option_map_or base (option_map lying_of o) 0) e)

    -- a field of it meets another
    pub overlap_stops : ((d : Lying) → last_in old ≡ Some d → IsLow d) → (ps : List ℕ) → copies_in (last_in old) f.offset ≡ Some ps → IsMet old.starts (base_in old) ps → list_any (meet x) (fixed_in earlier) ≡ true
    overlap_stops low ps some met =
        let d = data_there ps some in
        met_meets w (fixed_in earlier) old.starts is.starts_are x d.0 ps d.1 (copies_are ∙ some) (low_field low) (subst (λ (b : ℕ). IsMet old.starts b ps) d.2 met)

    -- none does, and they are taken up
    pub fields_free : ((d : Lying) → last_in old ≡ Some d → IsLow d) → (ps : List ℕ) → copies_in (last_in old) f.offset ≡ Some ps → is_judged w x ≡ true → (new : Reached) → AreFieldsTaken old ps new → list_any (meet x) (fixed_in earlier) ≡ false
    fields_free low ps some judged new taken =
        let d = data_there ps some in
        free_meets w (fixed_in earlier) old.starts is.starts_are x d.0 ps d.1 (copies_are ∙ some) (low_field low) judged (λ met. taken.free (subst (λ (b : ℕ). IsMet old.starts b ps) (sym d.2) met))

    threads_stay : (threads : Threads) → threads ≡ old.threads → AreInForce (earlier ++ part ∷ []) threads
    threads_stay threads e = subst (AreInForce (earlier ++ part ∷ [])) (sym e) (force_stays earlier part old.threads (λ frame number. refl) is.threads_are)

    pub fixup_taken : ((d : Lying) → last_in old ≡ Some d → IsLow d) → (ps : List ℕ) → copies_in (last_in old) f.offset ≡ Some ps → is_judged w x ≡ true → (new : Reached) → AreFieldsTaken old ps new → IsReached w before (earlier ++ part ∷ []) new
    fixup_taken low ps some judged new taken = record {
      counts_are = subst (AreCounts before) (sym taken.counts) is.counts_are;
      last_is = is.last_is ∙ sym taken.last;
      threads_are = threads_stay new.threads taken.threads;
      starts_are = subst (λ fixed. AreStarts w fixed new.starts) (sym (fixed_more earlier part))
          (starts_more w (fixed_in earlier) old.starts new.starts x is.starts_are (low_field low) begins);
    }
      where
        begins : (k : ℕ) → is_start new.starts k ≡ (is_start old.starts k || starts_at w k x)
        begins k =
            let d = data_there ps some in
            taken.starts k ∙ ap (λ (b : ℕ). is_start old.starts k || is_among b ps k) d.2
            ∙ ap (λ b. is_start old.starts k || b) (sym (begins_among w (fixed_in earlier) old.starts is.starts_are x d.0 ps d.1 (copies_are ∙ some) (low_field low) judged k))

    -- one whose section is not kept
    pub fixup_passed : ((d : Lying) → last_in old ≡ Some d → IsLow d) → is_judged w x ≡ false → IsReached w before (earlier ++ part ∷ []) old
    fixup_passed low other = record {
      counts_are = is.counts_are;
      last_is = is.last_is;
      threads_are = threads_stay old.threads refl;
      starts_are = subst (λ fixed. AreStarts w fixed old.starts) (sym (fixed_more earlier part)) (starts_stay w (fixed_in earlier) old.starts x is.starts_are (low_field low) other);
    }

    -- the conditions on it, by whether its section is kept
    pub part_judged : is_judged w x ≡ true → first_broken (relocation_conditions (meaning w) w.keep earlier part) ≡ first_broken (fixup_conditions (meaning w) (fixed_in earlier) part x)
    unfolding relocation_conditions meaning_of
    part_judged e = ap (λ b. first_broken (cond b (fixup_conditions (meaning w) (fixed_in earlier) part x) [])) e

    pub part_passed : is_judged w x ≡ false → first_broken (relocation_conditions (meaning w) w.keep earlier part) ≡ None
    unfolding relocation_conditions meaning_of
    part_passed e = ap (λ b. first_broken (cond b (fixup_conditions (meaning w) (fixed_in earlier) part x) [])) e

-- where a field meets another, and nothing is wrong before that
pub stopped_by : (old : Reached) (at : ℕ × ℕ) (ps : List ℕ) (s : Stop) (meets : Bool) → AreFieldsStopped old at ps s → (IsMet old.starts (base_in old) ps → meets ≡ true) → IsStop (cond meets (Some (relocation_fault at Overlap)) None) s
stopped_by old at ps (stop.Refused f) meets stopped met = ap (λ b. cond b (Some (relocation_fault at Overlap)) None) (met stopped.1) ∙ ap (λ (x : Fault). Some x) (sym stopped.0)
stopped_by old at ps stop.NoMemory meets stopped met = tt
