-- What a dialect has from its format, and what the files of a writer have (our profile).
use Rattle.std.specs.Prelude.{ℕ, List}
use Rattle.oc_neutral.specs.{Objects.{Object}, Dialects.{Dialect, IsDialect}}
use Rattle.oc_target.specs.Fitted.{IsFitted}
use Rattle.oc_shows.specs.Written.{IsWritten}

-- the dialect is one, and the file of every object that is ready for its format has what it is to have
pub record WritesCanonical (g : Dialect) (canonical : Object → List ℕ) : Type 0 where
  pub dialect : IsDialect g
  pub written : (n : Object) → IsFitted g.format n → IsWritten g n (canonical n)
