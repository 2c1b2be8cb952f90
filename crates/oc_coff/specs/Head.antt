-- What is known of a file whose header has no fault (PE/COFF, "COFF File Header"; our profile).
use Rattle.oc_coff.specs.{Files.{CoffFile}, HeaderFaults.{header_stage}}
use Rattle.std.specs.Prelude.{◌≡◌, ◌≤◌, length, None}
use Rattle.oc_linking.specs.FirstFault.{stage_fault}

-- the header of a file has no fault, and the file is small
pub record IsHeaded (file : CoffFile) : Type 0 where
  pub clean : stage_fault (header_stage file.shape file.bytes) ≡ None
  pub small : length file.bytes ≤ 67108864
