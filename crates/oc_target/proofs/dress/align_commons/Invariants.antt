use Rattle.std.proofs.Common.{◌≡◌}
use Rattle.oc_target.specs.Fitted.{fitted_symbol}
use Rattle.oc_neutral.proofs.Partly.{partly}
use Rattle.oc_target.proofs.dress.align_commons.Given as goal

-- the symbols so far have the target's alignments
abbrev pub invariant-loop-k : goal.invariant-loop-k
invariant-loop-k l = l.neutral ≡ record {
  format = l.initial.neutral.format;
  groups = l.initial.neutral.groups;
  sections = l.initial.neutral.sections;
  symbols = partly (λ x. fitted_symbol l.target x.1) 0 l.k l.initial.neutral.symbols;
  relocs = l.initial.neutral.relocs;
}
