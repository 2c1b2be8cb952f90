-- What is known while the relocations of a file without faults are added (our profile).
use Rattle.std.specs.Prelude.{◌≡◌, ℕ, List, length, Option, None}
use Rattle.oc_base.specs.declared.format.Word.{Word}
use Rattle.oc_linking.specs.{declared.terms.Keep.{Keep}, FirstFault.{first_fault, stage_fault}}
use Rattle.oc_shows.specs.Built.{IsStarted}
use Rattle.oc_neutral.specs.Invariants.{AreBytes}
use Rattle.oc_shelf.specs.Reading.Slots.{AreSlots}
use Rattle.oc_macho.specs.{Tables.{Tables, tables_of}, SectionFaults.{section_stage}, SymbolFaults.{symbol_stage}, RelocationFaults.{relocation_stages}}
use Rattle.oc_macho.specs.Rules.{mach_dialect}
use Rattle.oc_macho_read.specs.Built.{started, symbol_position}

-- the stages after the header have no fault
pub record IsClean (t : Tables) (keep : Keep) : Type 0 where
  pub sections : stage_fault (section_stage t) ≡ None
  pub symbols : stage_fault (symbol_stage t) ≡ None
  pub relocs : first_fault (relocation_stages t keep) ≡ None

-- the tables are those of a file without faults, the positions are those of its symbols, and what is built before the relocations is what it starts with
pub record IsReady (t : Tables) (keep : Keep) (positions : List (Option ℕ)) : Type 0 where
  pub word : Word
  pub file : List ℕ
  pub tables : t ≡ tables_of word file
  pub bytes : AreBytes file
  pub clean : IsClean t keep
  pub positions_are : AreSlots (symbol_position t keep) (length t.symbols) positions
  pub start : IsStarted (mach_dialect word) file keep (started t keep)
