-- The names of the sections that are left.
use Rattle.std.proofs.Common.{◌≡◌, ℕ, ◌+◌, ◌<◌, List, [], ◌∷◌, map, length, Some, ap}
use Rattle.std.specs.{Prelude.{drop, slice_get, slice_index_or, None}, List.{enumerate_from}}
use Rattle.std.proofs.lemmas.Option.{slice_get-get_or}
use Rattle.oc_linking.specs.declared.terms.Kind.TheVariants.{Code}
use Rattle.oc_base.specs.declared.format.Format.{Format}
use Rattle.oc_neutral.specs.{declared.section.Section.{Section}, Objects.{Object}, Relocated.{is_relocated}, HomeNames.{wanted_name}}
use Rattle.oc_neutral.proofs.FieldLists.{drop_here}

-- what sections from position k on are to be called, where these are those sections
abbrev pub wanted_in : Format → Object → ℕ → List Section → List (List ℕ)
wanted_in target n k sections = map (λ (row : ℕ × Section). wanted_name target (is_relocated target n row.0) row.1) (enumerate_from k sections)

-- what the sections from position k on are to be called
abbrev pub wanted_from : Format → Object → ℕ → List (List ℕ)
wanted_from target n k = wanted_in target n k (drop k n.sections)

-- the next
pub wanted_step : (target : Format) (n : Object) (k : ℕ) (s : Section) → slice_get n.sections k ≡ Some s
    → wanted_from target n k ≡ wanted_name target (is_relocated target n k) s ∷ wanted_from target n (k + 1)
wanted_step target n k s here = ap (wanted_in target n k) (drop_here n.sections k s here)

-- a section below their number is there
pub has_section : (n : Object) (k : ℕ) → k < length n.sections → (s : Section) × (slice_get n.sections k ≡ Some s)
has_section n k l = (slice_index_or n.sections k none, slice_get-get_or n.sections k none l)
  where
    none : Section
    none = record { name = []; kind = Code; align = 1; size = 0; bytes = []; tag = 0; number = 0; group = None }
