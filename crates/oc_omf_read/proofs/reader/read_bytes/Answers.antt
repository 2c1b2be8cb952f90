-- A module without a fault has none of any stage.
use Rattle.std.proofs.Common.{◌≡◌, ℕ, List, sym, subst}
use Rattle.std.specs.Prelude.{None}
use Rattle.oc_linking.specs.FirstFault.{first_fault, stage_fault}
use Rattle.oc_omf.specs.{Entries.{entries_in}, RelocationFaults.{relocation_stages}, SectionFaults.{section_stage}, SymbolFaults.{symbol_stages}}
use Rattle.oc_omf_read.proofs.WholeFile.{stages_clean}
use Rattle.oc_omf_read.proofs.reader.read_bytes.Goals as goal

pub object_of-requires-clause-sections : goal.object_of-requires-clause-sections
object_of-requires-clause-sections c =
    subst (λ (file : List ℕ). stage_fault (section_stage (entries_in file)) ≡ None) (sym c.in_ok-found.ensures.module) (stages_clean c.args.bytes.now c.args.keep.now c.in_ok-found.ensures.well_formed).sections

pub object_of-requires-clause-symbols : goal.object_of-requires-clause-symbols
object_of-requires-clause-symbols c =
    subst (λ (file : List ℕ). first_fault (symbol_stages (entries_in file)) ≡ None) (sym c.in_ok-found.ensures.module) (stages_clean c.args.bytes.now c.args.keep.now c.in_ok-found.ensures.well_formed).symbols

pub object_of-requires-clause-relocs : goal.object_of-requires-clause-relocs
object_of-requires-clause-relocs c =
    subst (λ (file : List ℕ). first_fault (relocation_stages (entries_in file) c.args.keep.now) ≡ None) (sym c.in_ok-found.ensures.module) (stages_clean c.args.bytes.now c.args.keep.now c.in_ok-found.ensures.well_formed).relocs
