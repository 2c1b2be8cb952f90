-- What is known while the relocations of a module without faults are added (our profile).
use Rattle.std.specs.{Prelude.{◌≡◌, ℕ, List, None, Vec}, Global.{Global}}
use Rattle.oc_linking.specs.FirstFault.{first_fault, stage_fault}
use Rattle.oc_shows.specs.Built.{IsStarted}
use Rattle.oc_neutral.specs.Invariants.{AreBytes}
use Rattle.oc_omf.specs.{Entries.{entries_in}, HeaderFaults.{IsModule}, RelocationFaults.{relocation_stages}, Rules.{omf_dialect}}
use Rattle.oc_omf.specs.{SectionFaults.{section_stage}, SymbolFaults.{symbol_stages}, Tables.{tables_of}}
use Rattle.oc_omf_read.specs.{declared.fixes.FixupContext.{FixupContext}, Built.{started}, Contents.{AreStored}}

-- the stages have no fault, the vectors have the bytes of segments, and what is built before the relocations is what the module starts with
pub record IsReady (s : FixupContext) (vectors : List (Vec ℕ Global)) : Type 0 where
  pub bytes : AreBytes s.omf.now
  pub head : IsModule s.omf.now
  pub sections : stage_fault (section_stage (entries_in s.omf.now)) ≡ None
  pub symbols : first_fault (symbol_stages (entries_in s.omf.now)) ≡ None
  pub relocs : first_fault (relocation_stages (entries_in s.omf.now) s.keep) ≡ None
  pub contents : AreStored (tables_of (entries_in s.omf.now)) (tables_of (entries_in s.omf.now)) vectors
  pub start : IsStarted omf_dialect s.omf.now s.keep (started s.omf.now)
