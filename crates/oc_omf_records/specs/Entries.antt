-- Entries of an object module (TIS OMF 1.1, "Record Format").
use Rattle.std.specs.Prelude.{ℕ, List}

-- the bytes of a module, and the place that a reader of its entries has reached
pub record Reached : Type 0 where
  pub bytes : List ℕ
  pub place : ℕ
