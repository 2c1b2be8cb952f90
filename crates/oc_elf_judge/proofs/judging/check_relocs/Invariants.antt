-- The relocations of the sections so far have no fault.
use Rattle.std.proofs.Common.{◌≡◌, None}
use Rattle.oc_linking.specs.{FirstFault.{stage_fault}, Numbers.{first_upto}}
use Rattle.oc_elf.specs.RelocRules.{reloc_stage}
use Rattle.oc_elf_judge.proofs.judging.check_relocs.Given as goal

abbrev pub invariant-loop-i : goal.invariant-loop-i
invariant-loop-i l = first_upto (λ i. stage_fault (reloc_stage l.frame l.keep i)) l.i ≡ None
