-- Laws of dropping (our profile).
use Rattle.std.specs.Prelude.{◌≡◌, ℕ, ◌<◌, Bool, true, List, length, slice_get, get_or, Some, Ok}
use Rattle.oc_linking.specs.{declared.terms.Keep.{Keep}, Keeping.{keeps}}
use Rattle.oc_neutral.specs.{declared.section.Section.{Section}, Objects.{Object}, Invariants.{IsObject}, Without.{new_position, positions_from}}
use Rattle.oc_drop.specs.Dropping.{dropped}

-- the table of new positions has that of each
abbrev pub PositionsAreNew : Type 0
PositionsAreNew = (stay : List Bool) (k : ℕ) → k < length stay → get_or (positions_from 0 stay) k 0 ≡ new_position stay k

-- every section of the object is of a kind that is kept
abbrev pub AllAreKept : Keep → Object → Type 0
AllAreKept keep n = (k : ℕ) (s : Section) → slice_get n.sections k ≡ Some s → keeps keep s.kind ≡ true

-- where every section is kept, the object stays as it is
abbrev pub NothingIsDropped : Type 0
NothingIsDropped = (keep : Keep) (n : Object) → IsObject n → AllAreKept keep n → dropped keep n ≡ Ok n
