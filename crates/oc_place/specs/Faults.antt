-- The fault of a placement (our profile).
use Rattle.std.specs.Prelude.{◌≡◌, length, Option, Some, None, Result, Err, MatchResult}
use Rattle.oc_neutral.specs.Objects.{Object}
use Rattle.oc_place.specs.{declared.fault.PlaceFault.{PlaceFault}, Written.{Notes, Bad}}
use Rattle.oc_place.specs.declared.fault.PlaceFault.TheVariants as fault

-- the fault is the one of the result; lack of memory needs no cause
abbrev pub IsBadOf : {X : Type 0} → Result X Bad → PlaceFault → Type 0
IsBadOf r (fault.Bad line code) = r ≡ Err (record { line = line; code = code })
IsBadOf r fault.NoMemory = Unit {0}

-- the fault is that one, of those that may be
abbrev pub IsFaultIn : Option Bad → PlaceFault → Type 0
IsFaultIn bad (fault.Bad line code) = bad ≡ Some (record { line = line; code = code })
IsFaultIn bad fault.NoMemory = ⊥

-- notes of as many sections, groups and symbols
pub record AreAsMany (before after : Notes) : Type 0 where
  pub spots : length after.spots ≡ length before.spots
  pub dropped : length after.dropped ≡ length before.dropped
  pub given : length after.given ≡ length before.given

-- the notes are of as many sections, groups and symbols as the object has
pub record IsFor (n : Object) (notes : Notes) : Type 0 where
  pub spots : length notes.spots ≡ length n.sections
  pub dropped : length notes.dropped ≡ length n.groups
  pub given : length notes.given ≡ length n.symbols

-- there is no fault, or it is this one
abbrev pub IsFirst : {X : Type 0} → Result X PlaceFault → Option Bad → Type 0
IsFirst r bad = MatchResult r (λ _. bad ≡ None) (IsFaultIn bad)
