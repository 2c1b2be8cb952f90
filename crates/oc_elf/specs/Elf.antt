-- ELF for i386 and for x86-64, each as one record of functions of a file's bytes (gABI; i386 and x86-64 psABI; our profile).
use Rattle.std.specs.Prelude.{ℕ, refl, List, ◌∷◌, ◌++◌, Option}
use Rattle.oc_base.specs.declared.fault.Fault.{Fault}
use Rattle.oc_linking.specs.{declared.terms.Keep.{Keep}, FirstFault.{Stage, first_fault}, Rules.{Rules}}
use Rattle.oc_neutral.specs.{Alignments.{output_align, common_align}, Dialects.{Dialect, IsDialect}}
use Rattle.oc_elf.specs.{declared.class.ElfClass.{ElfClass}, declared.class.ElfClass.TheVariants.{Class32, Class64, Big32, Big64}, Classes.{word_of, format_of}}
use Rattle.oc_elf.specs.{Frames.{FileFrame, framed}, Headers.{header_stages}, CarriedSections.{sections_of}, SectionRules.{section_stage}}
use Rattle.oc_elf.specs.{CarriedSymbols.{symbols_of}, SymbolRules.{symbol_stage}, RelocRules.{reloc_stages}, Fields.{field_at}}

-- the stages of reading after the file header, in their order
abbrev pub rest_stages : FileFrame → Keep → List Stage
rest_stages f keep = section_stage f ∷ symbol_stage f ∷ reloc_stages f keep

-- all stages
abbrev pub stages_of : ElfClass → List ℕ → Keep → List Stage
stages_of class file keep = header_stages class file ++ rest_stages (framed class file) keep

-- the first fault of a file
unfoldable pub fault_in : ElfClass → List ℕ → Keep → Option Fault
fault_in class file keep = first_fault (stages_of class file keep)

-- the rules of a class
abbrev pub elf_rules : ElfClass → Rules
elf_rules class = record {
  word = word_of class;
  fault = fault_in class;
  sections = λ file. sections_of (framed class file);
  symbols = λ file keep. symbols_of (framed class file);
  fields = λ file keep. field_at (framed class file);
  output_align = output_align (format_of class);
  common_align = common_align (format_of class);
}

-- its format with its rules
abbrev pub elf_dialect : ElfClass → Dialect
elf_dialect class = record { format = format_of class; rules = elf_rules class }

-- its word and its alignments are those of its format
pub elf_is_dialect : (class : ElfClass) → IsDialect (elf_dialect class)
elf_is_dialect Class32 = record { word = refl; output_align = λ align. refl; common_align = λ size align. refl }
elf_is_dialect Class64 = record { word = refl; output_align = λ align. refl; common_align = λ size align. refl }
elf_is_dialect Big32 = record { word = refl; output_align = λ align. refl; common_align = λ size align. refl }
elf_is_dialect Big64 = record { word = refl; output_align = λ align. refl; common_align = λ size align. refl }
