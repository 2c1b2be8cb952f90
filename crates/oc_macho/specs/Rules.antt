-- Mach-O, as one record of functions of a file's bytes (Mach-O reference; our profile).
use Rattle.std.specs.Prelude.{ℕ, List, ◌∷◌, Option}
use Rattle.oc_base.specs.{declared.format.Word.{Word}, declared.fault.Fault.{Fault}}
use Rattle.oc_linking.specs.{declared.terms.Keep.{Keep}, FirstFault.{Stage, first_fault}, Parts.{Symbol}, Rules.{Rules}}
use Rattle.oc_neutral.specs.{Alignments.{output_align, common_align}, Dialects.{Dialect}}
use Rattle.oc_macho.specs.{MachHeader.{mach_format}, Tables.{Tables, tables_of}, Sections.{sections_in}, Symbols.{symbols_by}, Entries.{is_pinned}}
use Rattle.oc_macho.specs.{Fields.{fields_in}, HeaderFaults.{header_stage}, SectionFaults.{section_stage}, SymbolFaults.{symbol_stage}}
use Rattle.oc_macho.specs.RelocationFaults.{relocation_stages}

-- what is judged after the header
abbrev pub rest_stages : Tables → Keep → List Stage
rest_stages t keep = section_stage t ∷ symbol_stage t ∷ relocation_stages t keep

-- the first fault of a file
unfoldable pub fault_of : Word → List ℕ → Keep → Option Fault
fault_of w file keep = first_fault (header_stage w file ∷ rest_stages (tables_of w file) keep)

-- the symbols; which are pinned depends on what is kept
unfoldable pub symbols_in : Tables → Keep → List Symbol
symbols_in t keep = symbols_by t (is_pinned t keep)

-- the rules of Mach-O for a word
abbrev pub mach_rules : Word → Rules
mach_rules w = record {
  word = w;
  fault = fault_of w;
  sections = λ file. sections_in (tables_of w file);
  symbols = λ file keep. symbols_in (tables_of w file) keep;
  fields = λ file keep. fields_in (tables_of w file);
  output_align = output_align (mach_format w);
  common_align = common_align (mach_format w);
}

-- Mach-O, as converting knows it
abbrev pub mach_dialect : Word → Dialect
mach_dialect w = record { format = mach_format w; rules = mach_rules w }
