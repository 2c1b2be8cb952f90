-- COFF, as one record of functions of a file's bytes (PE/COFF; our profile).
use Rattle.std.specs.Prelude.{ℕ, List, [], ◌∷◌, Option}
use Rattle.oc_base.specs.{declared.format.Word.{Word}, declared.fault.Fault.{Fault}}
use Rattle.oc_coff.specs.{declared.form.CoffForm.{CoffForm}, declared.form.Shape.{Shape}, Tables.{Tables, tables_of}, Sections.{sections_in}}
use Rattle.oc_coff.specs.{Symbols.{symbols_in}, Forms.{format_by, shape_of, word_of}, Fields.{fields_in}, HeaderFaults.{header_stage}}
use Rattle.oc_coff.specs.{SectionFaults.{section_stage}, SymbolFaults.{symbol_stage}, RelocationFaults.{relocation_stage}}
use Rattle.oc_linking.specs.{declared.terms.Keep.{Keep}, FirstFault.{Stage, first_fault}, Rules.{Rules}}
use Rattle.oc_neutral.specs.{Alignments.{output_align, common_align}, Dialects.{Dialect, IsDialect}}

-- what is judged of a file of that shape, stage by stage
unfoldable pub stages_of : Word → Shape → List ℕ → Tables → Keep → List Stage
stages_of w z file t keep = header_stage z file ∷ section_stage file t ∷ symbol_stage t ∷ relocation_stage w t keep ∷ []

-- the first fault of a file of that shape
unfoldable pub fault_by : Word → Shape → List ℕ → Keep → Option Fault
fault_by w z file keep = first_fault (stages_of w z file (tables_of z file) keep)

-- the rules of COFF for a word and a shape
abbrev pub rules_by : Word → Shape → Rules
rules_by w z = record {
  word = w;
  fault = fault_by w z;
  sections = λ file. sections_in (tables_of z file);
  symbols = λ file keep. symbols_in (tables_of z file);
  fields = λ file keep. fields_in w (tables_of z file);
  output_align = output_align (format_by w z);
  common_align = common_align (format_by w z);
}

-- COFF of that shape, as converting knows it
abbrev pub dialect_by : Word → Shape → Dialect
dialect_by w z = record { format = format_by w z; rules = rules_by w z }

-- the first fault of a file in a form
abbrev pub fault_of : CoffForm → List ℕ → Keep → Option Fault
fault_of f = fault_by (word_of f) (shape_of f)

-- the rules of a form
abbrev pub coff_rules : CoffForm → Rules
coff_rules f = rules_by (word_of f) (shape_of f)

-- a form, as converting knows it
abbrev pub coff_dialect : CoffForm → Dialect
coff_dialect f = dialect_by (word_of f) (shape_of f)

-- it has the words and alignments of the formats
abbrev pub CoffIsDialect : Type 0
CoffIsDialect = (w : Word) (z : Shape) → IsDialect (dialect_by w z)
