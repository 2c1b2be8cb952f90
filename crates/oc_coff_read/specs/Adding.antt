-- What is known while the relocations of a file without faults are added (our profile).
use Rattle.oc_coff.specs.{Files.{CoffFile, tables_in}, Entries.{entries_in}, RelocationFaults.{relocation_stage}, Rules.{dialect_by}}
use Rattle.oc_coff.specs.{SectionFaults.{section_stage}, Sections.{carried_in}, SymbolFaults.{symbol_stage}}
use Rattle.std.specs.Prelude.{◌≡◌, ℕ, true, List, length, take, slice_get, Option, Some, None}
use Rattle.oc_base.specs.declared.format.Word.{Word}
use Rattle.oc_linking.specs.{declared.terms.Keep.{Keep}, declared.terms.Kind.{Kind}, FirstFault.{stage_fault}}
use Rattle.oc_neutral.specs.Building.{Draft}
use Rattle.oc_shows.specs.Built.{HasAdded, IsStarted}
use Rattle.oc_shelf.specs.{declared.reading.order.PlacedEntry.{PlacedEntry}, Reading.Collected.{collected}, Reading.Slots.{AreSlots}}
use Rattle.oc_coff_judge.specs.{declared.relocs.RelocTable.{RelocTable}, Found.{ArePositions}, Led.{carried_at}, Relocs.{IsTable}, Tagged.{symbol_position}}
use Rattle.oc_coff_read.specs.{Built.{symboled}, Given.{given_before, given_with}}

-- what is built before the relocations
abbrev pub started : Word → CoffFile → Draft
started w file = symboled w (tables_in file) (length (entries_in (tables_in file)))

-- the stages have no fault, the positions are those of the file, and what is built before the relocations is what the file starts with
pub record IsReady (w : Word) (file : CoffFile) (keep : Keep) (sections symbols : List (Option ℕ)) : Type 0 where
  pub sections_clean : stage_fault (section_stage file.bytes (tables_in file)) ≡ None
  pub symbols_clean : stage_fault (symbol_stage (tables_in file)) ≡ None
  pub relocs_clean : stage_fault (relocation_stage w (tables_in file) keep) ≡ None
  pub sections_are : ArePositions file sections
  pub symbols_are : AreSlots (symbol_position (tables_in file)) (length (tables_in file).entries) symbols
  pub start : IsStarted (dialect_by w file.shape) file.bytes keep (started w file)

-- section i, counted from 0, is carried, and is at position p; this is its kind, this its table, and these its bytes, where they are in the
-- file
pub record IsPlace (file : CoffFile) (i p : ℕ) (kind : Kind) (table : RelocTable) (contents : List ℕ) : Type 0 where
  pub table_is : IsTable file i table
  pub kind_is : kind ≡ table_is.of.section.kind
  pub there : slice_get (carried_in (tables_in file)) p ≡ Some table_is.of
  pub bytes_are : table_is.of.stored ≡ true → contents ≡ table_is.of.section.contents
  pub long : table_is.of.stored ≡ true → length contents ≡ table_is.of.section.size

-- the relocations of the carried sections before position p are added, and those of the first j of these entries of the section there
abbrev pub AreAddedUpto : Word → CoffFile → Keep → ℕ → ℕ → List PlacedEntry → Draft → Type 0
AreAddedUpto w file keep p j entries d = HasAdded (started w file) d (given_with w (tables_in file) keep p (take j entries))

-- the relocations of the carried sections before position p are added
abbrev pub AreAddedBefore : Word → CoffFile → Keep → ℕ → Draft → Type 0
AreAddedBefore w file keep p d = HasAdded (started w file) d (given_before w (tables_in file) keep p)

-- the relocations of the first i sections are added, of which p are carried
pub record HasBefore (w : Word) (file : CoffFile) (keep : Keep) (i p : ℕ) (d : Draft) : Type 0 where
  pub position : p ≡ length (collected (carried_at (tables_in file)) i)
  pub added : AreAddedBefore w file keep p d
