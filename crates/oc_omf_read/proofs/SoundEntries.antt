-- What entries without a fault of the stage of sections define.
use Rattle.std.proofs.Common.{◌≡◌, ℕ, ◌+◌, ◌≤◌, true, false, List, [], ◌∷◌, ◌++◌, length, None, Some, Ok, Err, sym, ◌∙◌, arith}
use Rattle.std.specs.{Prelude.{flat_map, nat_eq, slice_get, Result}, List.{AllByRecursion, sum_by}}
use Rattle.std.proofs.lemmas.{Bool.Decides.{nat_tests}, Option.{none-some, slice_get_within}, Bool.{not-false}}
use Rattle.oc_base.specs.{declared.fault.Fault.{Fault}, declared.code.Code.TheVariants.{BadTable}}
use Rattle.oc_linking.specs.FirstFault.{Condition, fault_of, first_broken, stage_fault}
use Rattle.oc_shelf.proofs.ReadingLaws.StageLemmas.{all_hold, clean_at, clean_both}
use Rattle.oc_omf.specs.{declared.cut.Cut.{Cut}, declared.structures.Segment.{Segment}, Cursor.{Read}, Structures.{Piece}}
use Rattle.oc_omf.specs.{Entries.{Entry, all_read, entries_in}, Sections.{align_code, piece_size, segment_size, size_at}}
use Rattle.oc_omf.specs.SectionFaults.{conditions_on, end_conditions, form_conditions, group_conditions, name_conditions, own_fault, piece_conditions, section_conditions, section_stage, segment_conditions, size_conditions, whole_conditions}
use Rattle.oc_omf.specs.Tables.{is_indexed}
use Rattle.oc_omf.specs.Tables as all
use Rattle.oc_omf.proofs.EntryLemmas.{conditions_at}
use Rattle.oc_omf_read.proofs.DefinedLemmas.{tables_upto}
use Rattle.oc_linking.proofs.Testing.{not_below}

-- structures without a fault are read, and each meets its conditions
read_clean : {X : Type 0} (cut : Fault) (conditions : X → List Condition) (ss : List (Read X)) → first_broken (flat_map (whole_conditions cut conditions) ss) ≡ None
    → AllByRecursion (λ (x : X). first_broken (conditions x) ≡ None) (all_read ss)
read_clean cut conditions [] clean = tt
read_clean {X} cut conditions (s ∷ ss) clean = by s.part (read_clean cut conditions ss) clean
  where
    by : (r : Result X Cut) → (first_broken (flat_map (whole_conditions cut conditions) ss) ≡ None → AllByRecursion (λ (x : X). first_broken (conditions x) ≡ None) (all_read ss))
        → first_broken (whole_conditions cut conditions (record { at = s.at; part = r }) ++ flat_map (whole_conditions cut conditions) ss) ≡ None
        → AllByRecursion (λ (x : X). first_broken (conditions x) ≡ None) (all_read (record { at = s.at; part = r } ∷ ss))
    by (Ok x) rest clean = let both = clean_both (conditions x) (flat_map (whole_conditions cut conditions) ss) clean in (both.0, rest both.1)
    by (Err c) rest clean = absurd (none-some cut (sym clean))

-- what an entry has that has no fault, behind those that define that
pub record IsSound (before : all.Tables) (x : ℕ × ℕ) (e : Entry) : Type 0 where
  pub segments : AllByRecursion (λ (s : Segment). first_broken (segment_conditions before x s) ≡ None) (all_read e.segments)
  pub pieces : AllByRecursion (λ (d : Piece). first_broken (piece_conditions before x d) ≡ None) (all_read e.pieces)
  pub ends : first_broken (end_conditions before x e.ends) ≡ None

sound_by : (before : all.Tables) (x : ℕ × ℕ) (e : Entry) → first_broken (conditions_on before x e) ≡ None → IsSound before x e
unfolding conditions_on
sound_by before x e clean =
    let segments : List Condition = flat_map (whole_conditions (own_fault x BadTable) (segment_conditions before x)) e.segments in
    let groups : List Condition = flat_map (whole_conditions (own_fault x BadTable) (group_conditions (length before.names) (length before.segments) x)) e.groups in
    let pieces : List Condition = flat_map (whole_conditions (own_fault x BadTable) (piece_conditions before x)) e.pieces in
    let ends : List Condition = end_conditions before x e.ends in
    let a = clean_both (name_conditions x e.names) (segments ++ (groups ++ (pieces ++ ends))) clean in
    let b = clean_both segments (groups ++ (pieces ++ ends)) a.1 in
    let c = clean_both groups (pieces ++ ends) b.1 in
    let d = clean_both pieces ends c.1 in
    record {
      segments = read_clean (own_fault x BadTable) (segment_conditions before x) e.segments b.0;
      pieces = read_clean (own_fault x BadTable) (piece_conditions before x) e.pieces d.0;
      ends = d.1;
    }

-- ... structures

-- a segment that has no fault
pub record IsSoundSegment (s : Segment) (sizes : ℕ) : Type 0 where
  pub aligned : (1 ≤ align_code s) × (align_code s ≤ 5)
  pub small : segment_size s ≤ 2147483647
  pub few : sizes + segment_size s ≤ 2147483648

some_of : (a : ℕ) → nat_eq a 0 ≡ false → 1 ≤ a
some_of a e = grind (arith, nat_tests)

pub segment_sound : (before : all.Tables) (x : ℕ × ℕ) (s : Segment) → first_broken (segment_conditions before x s) ≡ None → IsSoundSegment s (sum_by segment_size before.segments)
unfolding form_conditions size_conditions
segment_sound before x s clean =
    let a = clean_both (form_conditions (length before.names) x s) (size_conditions (sum_by segment_size before.segments) x s) clean in
    let form = all_hold (form_conditions (length before.names) x s) a.0 in
    let size = all_hold (size_conditions (sum_by segment_size before.segments) x s) a.1 in
    record {
      aligned = (some_of (align_code s) form.1.1.0, not_below 5 (align_code s) form.1.1.1.0);
      small = not_below 2147483647 (segment_size s) size.0;
      few = not_below 2147483648 (sum_by segment_size before.segments + segment_size s) size.1.0;
    }

-- data that have no fault lie in a segment that is there
pub record IsSoundPiece (before : all.Tables) (d : Piece) : Type 0 where
  pub there : is_indexed before.segments d.segment ≡ true
  pub inside : d.offset + piece_size d ≤ size_at before d.segment

pub piece_sound : (before : all.Tables) (x : ℕ × ℕ) (d : Piece) → first_broken (piece_conditions before x d) ≡ None → IsSoundPiece before d
unfolding piece_conditions
piece_sound before x d clean =
    let holds = all_hold (piece_conditions before x d) clean in
    record {
      there = not-false (is_indexed before.segments d.segment) holds.1.0;
      inside = not_below (size_at before d.segment) (d.offset + piece_size d) holds.1.1.1.0;
    }

-- ... a file

module _ (file : List ℕ) (clean : stage_fault (section_stage (entries_in file)) ≡ None) where
  pub entry_sound : (i : ℕ) (e : Entry) → slice_get (entries_in file) i ≡ Some e → IsSound (tables_upto file i) (i, e.place) e
  entry_sound i e here =
      sound_by (tables_upto file i) (i, e.place) e
      (sym (conditions_at (section_conditions (tables_upto file i)) (entries_in file) i e here)
      ∙ clean_at (fault_of (section_stage (entries_in file))) (length (entries_in file)) i clean (slice_get_within (entries_in file) i e here))
