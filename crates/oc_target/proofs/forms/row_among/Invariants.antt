use Rattle.std.proofs.Common.{◌≡◌, find, map}
use Rattle.std.specs.Prelude.{drop}
use Rattle.oc_neutral.specs.Spelling as spelling
use Rattle.oc_target.specs.Tables.{meant, meant_taken}
use Rattle.oc_target.proofs.forms.row_among.Given as goal

-- the row is not among those before
abbrev pub invariant-loop-row : goal.invariant-loop-row
invariant-loop-row l =
    find (spelling.is_written l.fn.form l.fn.hint (meant_taken l.fn.taken)) (map meant l.fn.table)
    ≡ find (spelling.is_written l.fn.form l.fn.hint (meant_taken l.fn.taken)) (map meant (drop l.row-index l.fn.table))
