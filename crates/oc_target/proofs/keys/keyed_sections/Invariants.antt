use Rattle.std.proofs.Common.{◌≡◌, ℕ, ◌<◌, false, length}
use Rattle.std.specs.{Prelude.{slice_index_or, take}, List.{list_any}}
use Rattle.oc_neutral.specs.KeySymbols.{is_key_at}
use Rattle.oc_target.proofs.keys.keyed_sections.Given as goal

-- the sections in which one of the symbols before is a key symbol are marked
abbrev pub invariant-loop-k : goal.invariant-loop-k
invariant-loop-k l =
    (length l.keyed.items ≡ length l.neutral.sections)
    × ((k : ℕ) → k < length l.neutral.sections → slice_index_or l.keyed.items k false ≡ list_any (is_key_at l.neutral k) (take l.k l.neutral.symbols))
