-- Which symbols are signatures of groups that have no key of their own (our profile).
use Rattle.std.specs.Prelude.{◌≡◌, ℕ, ◌<◌, List, length, slice_index_or, is_some, Option, None}
use Rattle.oc_elf.specs.{Frames.{FileFrame}, SymbolRules.{is_bad_signature}, Tables.{symbol_count}}

-- a slot for each symbol, filled where it is such a signature among the first n headers
pub record AreMarks (f : FileFrame) (n : ℕ) (marks : List (Option ℕ)) : Type 0 where
  pub long : length marks ≡ symbol_count f
  pub each : (k : ℕ) → k < symbol_count f → is_some (slice_index_or marks k None) ≡ is_bad_signature f n k
