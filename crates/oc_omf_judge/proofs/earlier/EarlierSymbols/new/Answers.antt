-- Nothing stood before.
use Rattle.std.proofs.Common.{rules}
use Rattle.oc_omf.specs.Tables.{tables_of}
use Rattle.oc_omf_judge.proofs.earlier.EarlierSymbols.new.Goals as goal

pub returns : goal.returns
unfolding tables_of
returns c = record {
  segments_are = c.new.ensures.items;
  groups_are = search rules;
  locals_are = λ name. search rules;
  globals_are = λ name. search rules;
  communals_are = λ name d. search rules;
  externals_are = search rules;
}
