-- The fault of a file is that of its header, or of what stands behind.
use Rattle.oc_coff.specs.{Files.{CoffFile}, HeaderFaults.{header_stage}, Rules.{fault_by, stages_of}}
use Rattle.std.proofs.Common.{◌≡◌, Option, None, Some, ap}
use Rattle.oc_base.specs.{declared.format.Word.{Word}, declared.fault.Fault.{Fault}}
use Rattle.oc_linking.specs.{declared.terms.Keep.{Keep}, FirstFault.{first_fault, stage_fault}, Numbers.{or_else}}
use Rattle.oc_coff_judge.specs.Relocs.{rest_stages}

module _ (w : Word) (file : CoffFile) (keep : Keep) where
  pub header_stops : (fault : Fault) → stage_fault (header_stage file.shape file.bytes) ≡ Some fault → fault_by w file.shape file.bytes keep ≡ Some fault
  unfolding fault_by stages_of
  header_stops fault is = ap (λ (o : Option Fault). or_else o (first_fault (rest_stages w file keep))) is

  pub header_clean : stage_fault (header_stage file.shape file.bytes) ≡ None → fault_by w file.shape file.bytes keep ≡ first_fault (rest_stages w file keep)
  unfolding fault_by stages_of
  header_clean clean = ap (λ (o : Option Fault). or_else o (first_fault (rest_stages w file keep))) clean
