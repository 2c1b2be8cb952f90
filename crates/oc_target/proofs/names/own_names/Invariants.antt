use Rattle.std.proofs.Common.{◌≡◌, map, ◌++◌}
use Rattle.std.specs.Prelude.{drop}
use Rattle.oc_neutral.specs.declared.section.Section.{Section}
use Rattle.oc_target.proofs.names.own_names.Given as goal

-- the names so far, and those that are left
abbrev pub invariant-loop-k : goal.invariant-loop-k
invariant-loop-k l = l.names.items ++ map (λ (s : Section). s.name) (drop l.k l.neutral.sections) ≡ map (λ (s : Section). s.name) l.neutral.sections
