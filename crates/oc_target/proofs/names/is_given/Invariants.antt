use Rattle.std.proofs.Common.{◌≡◌}
use Rattle.std.specs.Prelude.{drop}
use Rattle.oc_base.specs.Strings.{is_given}
use Rattle.oc_target.proofs.names.is_given.Given as goal

-- the name is not among those before
abbrev pub invariant-loop-given : goal.invariant-loop-given
invariant-loop-given l = is_given l.fn.names l.fn.name ≡ is_given (drop l.given-index l.fn.names) l.fn.name
