-- OMF, as one record of functions of a file's bytes (TIS OMF 1.1; our profile).
use Rattle.std.specs.Prelude.{ℕ, List, ◌∷◌, ◌++◌, Option}
use Rattle.oc_base.specs.{declared.format.Word.TheVariants.{W32}, declared.format.Format.TheVariants.{Omf}, declared.fault.Fault.{Fault}}
use Rattle.oc_linking.specs.{declared.terms.Keep.{Keep}, FirstFault.{Stage, first_fault}, Rules.{Rules}}
use Rattle.oc_neutral.specs.{Alignments.{output_align, common_align}, Dialects.{Dialect, IsDialect}}
use Rattle.oc_omf.specs.{Entries.{Entry, entries_in}, Tables.{tables_of}, Sections.{sections_in}, Symbols.{symbols_in}, Fields.{fields_in}}
use Rattle.oc_omf.specs.{HeaderFaults.{header_stage}, SectionFaults.{section_stage}, SymbolFaults.{symbol_stages}, RelocationFaults.{relocation_stages}}

-- what is judged of a file, stage by stage
unfoldable pub stages_of : List ℕ → List Entry → Keep → List Stage
stages_of file entries keep = header_stage file ∷ section_stage entries ∷ symbol_stages entries ++ relocation_stages entries keep

-- the first fault of a file
unfoldable pub fault_of : List ℕ → Keep → Option Fault
fault_of file keep = first_fault (stages_of file (entries_in file) keep)

-- the rules of OMF
abbrev pub omf_rules : Rules
omf_rules = record {
  word = W32;
  fault = fault_of;
  sections = λ file. sections_in (tables_of (entries_in file));
  symbols = λ file keep. symbols_in (entries_in file);
  fields = λ file keep. fields_in (entries_in file);
  output_align = output_align Omf;
  common_align = common_align Omf;
}

-- OMF, as converting knows it
abbrev pub omf_dialect : Dialect
omf_dialect = record { format = Omf; rules = omf_rules }

-- it has the word and the alignments that are given for its format
abbrev pub OmfIsDialect : Type 0
OmfIsDialect = IsDialect omf_dialect
