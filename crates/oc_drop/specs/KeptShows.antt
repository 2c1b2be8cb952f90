-- When an object shows the kept fields of a file (our profile).
use Rattle.std.specs.Prelude.{◌≡◌, ℕ, Bool, true, false, List, map, Some, Ok}
use Rattle.oc_linking.specs.{declared.terms.Keep.{Keep}, declared.terms.Patch.{Patch}, Keeping.{carried_of, kept_of}, Placing.{Placement}, Values.{Valuation}}
use Rattle.oc_linking.specs.Images.{Patches, overlays, overflows}
use Rattle.oc_linking.specs.Linking as linking
use Rattle.oc_linking.specs.Shows as shown
use Rattle.oc_neutral.specs.{declared.symbol.Symbol.{Symbol}, Objects.{Object}, Invariants.{IsObject}, Faces.{contents_of}, Dialects.{Dialect, is_folded}}
use Rattle.oc_neutral.specs.Without.{symbols_stay}
use Rattle.oc_shows.specs.Shows.{patches_of, IsTrueToFixed, Shows}
use Rattle.oc_drop.specs.Dropping.{dropped}

-- the symbols that do not lie in a dropped section
abbrev pub left_symbols : List Bool → List Symbol → List Symbol
left_symbols stay symbols = kept_of (symbols_stay stay symbols) symbols

-- the fields of the kept sections of a file with their residues, at one placement of these and one valuation
abbrev pub kept_patches : Dialect → List ℕ → Keep → Placement → Valuation → Patches
kept_patches f b keep p v = linking.patches_of (linking.flags_in f.rules b keep) (f.rules.fields b keep) (linking.spread_in f.rules b keep p) v

-- the kept fields of the file have the residues of the object, at one placement and valuation
pub record ShowsKept (f : Dialect) (b : List ℕ) (keep : Keep) (folded : ℕ → ℕ → Bool) (n : Object) (p : Placement) (v : Valuation) : Type 0 where
  -- no two fields of the file meet
  pub apart : (s : ℕ) → shown.Apart (kept_patches f b keep p v s)
  -- what is folded fits
  pub fit : (s at : ℕ) (q : Patch) → folded s at ≡ true → kept_patches f b keep p v s at ≡ Some q → overflows f.rules.word q ≡ false
  -- the contents are the file's, with the constants in the folded fields, and zeros under the others
  pub contents : map contents_of n.sections ≡ overlays (shown.unders folded (kept_patches f b keep p v)) 0 (linking.contents_in f.rules b keep)
  -- the fields are the others, with the file's widths, checks and residues
  pub patches : (s at : ℕ) → patches_of n p v s at ≡ shown.lives folded (kept_patches f b keep p v) s at

-- what is left of an object that showed a file shows its kept fields, of which those are folded that the reader folded
abbrev pub DroppedShowsKept : Type 0
DroppedShowsKept = (f : Dialect) (b : List ℕ) (keep : Keep) (n m : Object) → IsObject n → Shows f b keep n → dropped keep n ≡ Ok m
    → (p : Placement) (v : Valuation) → IsTrueToFixed f.rules.word (f.rules.symbols b keep) (linking.spread_in f.rules b keep p) v
    → ShowsKept f b keep (λ s at. is_folded f b keep (carried_of (linking.flags_in f.rules b keep) s) at) m p v
