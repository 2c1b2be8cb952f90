-- No entry so far has a fault, and what is kept is what they define.
use Rattle.std.proofs.Common.{◌≡◌, None}
use Rattle.oc_linking.specs.{Numbers.{first_upto}, FirstFault.{fault_of}}
use Rattle.oc_omf.specs.{Entries.{entries_in}, SectionFaults.{section_stage}}
use Rattle.oc_omf_judge.specs.Defined.{IsDefined, before_in}
use Rattle.oc_omf_judge.proofs.sections.check_sections.Given as goal

abbrev pub invariant-loop-i : goal.invariant-loop-i
invariant-loop-i l = record {
  clean : first_upto (fault_of (section_stage (entries_in l.omf))) l.i ≡ None;
  defined : IsDefined (before_in l.omf l.i) l.defined;
}
