-- Data of a module without a fault of sections lie in their segments.
use Rattle.std.proofs.Common.{◌≡◌, ℕ, ◌+◌, ◌-◌, ◌≤◌, List, length, Some, ◌∙◌, ap, arith, length-append, true, None, ◌∷◌, []}
use Rattle.std.specs.{Prelude.{◌&&◌, nat_le, slice_get}, List.{AllByRecursion}}
use Rattle.std.proofs.lemmas.{Bool.{eq-eqb}, Bool.Decides.{nat_tests}}
use Rattle.oc_linking.specs.FirstFault.{first_broken, stage_fault}
use Rattle.oc_omf.specs.{declared.structures.Segment.{Segment}, Entries.{Entry, all_read, entries_in}, SectionFaults.{piece_conditions, section_stage}}
use Rattle.oc_omf.specs.{Sections.{piece_size, segment_size}, Structures.{Piece}, Tables.{is_indexed, tables_of}}
use Rattle.oc_omf.specs.Tables as all
use Rattle.oc_omf_read.proofs.{BuildLemmas.{segment_there}, ContentLemmas.{Fits, good_segment, piece_fits, segments_front}, DefinedLemmas.{tables_upto}}
use Rattle.oc_omf_read.proofs.SoundEntries.{entry_sound, piece_sound}

-- data that lie in a segment which is there
pub record IsPlacedPiece (t : all.Tables) (d : Piece) : Type 0 where
  pub segment : Segment
  pub there : slice_get t.segments (d.segment - 1) ≡ Some segment
  pub first : 1 ≤ d.segment
  pub inside : d.offset + piece_size d ≤ segment_size segment
  pub small : segment_size segment ≤ 2147483647

module _ (file : List ℕ) (clean : stage_fault (section_stage (entries_in file)) ≡ None) (i : ℕ) (e : Entry) (here : slice_get (entries_in file) i ≡ Some e) where
  abbrev t : all.Tables
  t = tables_of (entries_in file)

  placed_by : (d : Piece) → first_broken (piece_conditions (tables_upto file i) (i, e.place) d) ≡ None → ((k : ℕ) (s : Segment) → slice_get t.segments k ≡ Some s → Fits (segment_size s) k d) → IsPlacedPiece t d
  placed_by d good fits =
      let sound = piece_sound (tables_upto file i) (i, e.place) d good in
      let bounds = within d.segment (length (tables_upto file i).segments) sound.there in
      let front = segments_front file i in
      let long = ap length front.1 ∙ length-append (tables_upto file i).segments front.0 in
      let s = segment_there t.segments (d.segment - 1) (omega (arith, bounds.0, bounds.1, long)) in
      let one : d.segment ≡ d.segment - 1 + 1 = omega (arith, bounds.0) in
      record {
        segment = s.0;
        there = s.1;
        first = bounds.0;
        inside = (fits (d.segment - 1) s.0 s.1 (eq-eqb d.segment (d.segment - 1 + 1) one)).0;
        small = (good_segment file clean (d.segment - 1) s.0 s.1).1.small;
      }
    where
      within : (a n : ℕ) → (nat_le 1 a && nat_le a n) ≡ true → (1 ≤ a) × (a ≤ n)
      within a n e = (grind (arith, nat_tests), grind (arith, nat_tests))

  each_placed : (ds : List Piece) → AllByRecursion (λ (d : Piece). first_broken (piece_conditions (tables_upto file i) (i, e.place) d) ≡ None) ds
      → ((k : ℕ) (s : Segment) → slice_get t.segments k ≡ Some s → AllByRecursion (Fits (segment_size s) k) ds) → AllByRecursion (IsPlacedPiece t) ds
  each_placed [] good fits = tt
  each_placed (d ∷ ds) good fits = (placed_by d good.0 (λ k s there. (fits k s there).0), each_placed ds good.1 (λ k s there. (fits k s there).1))

  -- the data of an entry
  pub pieces_placed : AllByRecursion (IsPlacedPiece t) (all_read e.pieces)
  pieces_placed = each_placed (all_read e.pieces) (entry_sound file clean i e here).pieces (λ k s there. piece_fits file clean i e here k s there)
