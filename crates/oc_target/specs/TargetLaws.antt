-- Laws of objects that are ready for a target (our profile).
use Rattle.std.specs.Prelude.{◌≡◌}
use Rattle.oc_base.specs.{declared.format.Format.{Format}, Formats.{word_for}}
use Rattle.oc_neutral.specs.{Objects.{Object}, Invariants.{IsObject}}
use Rattle.oc_target.specs.{Fitted.{IsFit, IsFitted}, Fitting.{fit_of}}
use Rattle.oc_shows.specs.{Seen.{seen}, Written.{LooksAlike}}

-- what an object is in a target with words of its size is what fitting makes of it
abbrev pub FitIsComputed : Type 0
FitIsComputed = (target : Format) (n m : Object) → word_for target ≡ word_for n.format → IsObject n → IsObject m → IsFit target n m → m ≡ fit_of target n

-- what a reader shows of an object that was ready for a format, and was written, is an object
abbrev pub SeenIsObject : Type 0
SeenIsObject = (target : Format) (n : Object) → IsFitted target n → IsObject (seen n)

-- and linking sees the same of it as of the object that was written
abbrev pub SeenLooksAlike : Type 0
SeenLooksAlike = (target : Format) (n : Object) → IsFitted target n → LooksAlike (seen n) n
