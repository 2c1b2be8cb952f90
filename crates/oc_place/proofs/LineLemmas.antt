-- What the lines of a text note, line by line.
use Rattle.std.proofs.Common.{◌≡◌, ℕ, ◌+◌, ◌<◌, List, [], ◌∷◌, length, Result, Ok, Err, refl, sym, ◌∙◌, ap, subst, arith}
use Rattle.std.specs.List.{slice_split}
use Rattle.oc_place.specs.{declared.fault.PlaceCode.TheVariants.{BadLine}, declared.fault.PlaceFault.{PlaceFault}, Faults.{AreAsMany, IsBadOf, IsFor}}
use Rattle.oc_place.specs.{Footprints.{Footprint}, Written.{Notes, Bad, at_line, with_rest, is_newline, notes_from, with_line, then_by}}
use Rattle.oc_neutral.specs.Objects.{Object}
use Rattle.oc_place.specs.declared.fault.PlaceFault.TheVariants as fault
use Rattle.oc_place.proofs.SplitLemmas.{split_some}

module _ (footprint : Footprint) where
  -- a piece with others after it is a line
  pub line_more : (line : ℕ) (notes : Notes) (piece rest : List ℕ)
      → notes_from footprint line notes (piece ∷ slice_split is_newline rest)
      ≡ then_by (at_line line (with_line footprint notes piece)) (λ more. notes_from footprint (line + 1) more (slice_split is_newline rest))
  line_more line notes piece rest =
      let m = split_some is_newline rest in
      let P : List (List ℕ) → Type 0
      = λ pieces. notes_from footprint line notes (piece ∷ pieces) ≡ then_by (at_line line (with_line footprint notes piece)) (λ more. notes_from footprint (line + 1) more pieces) in
      subst P (sym m.2) refl

  -- a line that is at no fault
  pub line_well : (line : ℕ) (notes more : Notes) (piece rest : List ℕ) → with_line footprint notes piece ≡ Ok more
      → notes_from footprint line notes (piece ∷ slice_split is_newline rest) ≡ notes_from footprint (line + 1) more (slice_split is_newline rest)
  line_well line notes more piece rest is =
      line_more line notes piece rest ∙ ap (λ r. then_by (at_line line r) (λ more. notes_from footprint (line + 1) more (slice_split is_newline rest))) is

  -- one that is at fault
  pub line_badly : (line : ℕ) (notes : Notes) (piece rest : List ℕ) (bad : Bad) → at_line line (with_line footprint notes piece) ≡ Err bad
      → notes_from footprint line notes (piece ∷ slice_split is_newline rest) ≡ Err bad
  line_badly line notes piece rest bad is =
      line_more line notes piece rest ∙ ap (λ r. then_by r (λ more. notes_from footprint (line + 1) more (slice_split is_newline rest))) is

module _ (footprint : Footprint) (line : ℕ) (notes : Notes) (piece rest : List ℕ) (pieces : List (List ℕ)) (is : pieces ≡ piece ∷ slice_split is_newline rest) (whole : Result Notes Bad)
    (so_far : notes_from footprint line notes pieces ≡ whole) where
  -- a turn of the loop over lines
  pub turn_well : (more : Notes) → with_line footprint notes piece ≡ Ok more → notes_from footprint (line + 1) more (slice_split is_newline rest) ≡ whole
  turn_well more well = sym (line_well footprint line notes more piece rest well) ∙ sym (ap (notes_from footprint line notes) is) ∙ so_far

  -- one that ends it
  pub turn_badly : (f : PlaceFault) → IsBadOf (at_line line (with_line footprint notes piece)) f → IsBadOf whole f
  turn_badly (fault.Bad l code) bad = sym so_far ∙ ap (notes_from footprint line notes) is ∙ line_badly footprint line notes piece rest (record { line = l; code = code }) bad
  turn_badly fault.NoMemory bad = tt

-- the notes are of as many things
pub still_for : (n : Object) (before after : Notes) → AreAsMany before after → IsFor n before → IsFor n after
still_for n before after same is = record { spots = same.spots ∙ is.spots; dropped = same.dropped ∙ is.dropped; given = same.given ∙ is.given }
