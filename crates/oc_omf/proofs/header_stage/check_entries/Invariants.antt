use Rattle.std.proofs.Common.{◌≡◌, None, take}
use Rattle.oc_linking.specs.{Numbers.{first_upto}, FirstFault.{fault_of}}
use Rattle.oc_omf.specs.{Entries.{places_in}, HeaderFaults.{header_stage, is_begun}}
use Rattle.oc_omf.proofs.header_stage.check_entries.Given as goal

-- no entry so far has a fault
abbrev pub invariant-loop-i : goal.invariant-loop-i
invariant-loop-i l = record {
  clean : first_upto (fault_of (header_stage l.file)) l.i ≡ None;
  begun : l.begun ≡ is_begun l.file (take l.i (places_in l.file));
}
