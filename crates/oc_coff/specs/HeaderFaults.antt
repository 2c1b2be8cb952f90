-- What a file header must meet (PE/COFF, "COFF File Header" and "COFF String Table"; our profile).
use Rattle.std.specs.Prelude.{ℕ, ◌+◌, ◌*◌, Bool, not, ◌&&◌, nat_eq, nat_lt, List, [], ◌∷◌, length}
use Rattle.oc_base.specs.{declared.code.Code.{Code}, declared.code.Code.TheVariants.{Short, NotRelocatable, BadHeader}}
use Rattle.oc_base.specs.{declared.fault.Phase.TheVariants.{Header}, declared.fault.Fault.{Fault}}
use Rattle.oc_linking.specs.FirstFault.{Condition, Stage}
use Rattle.oc_neutral.specs.declared.coff.TheConstants.{STRINGS_HEAD}
use Rattle.oc_coff.specs.{declared.constants.TheConstants.{BIG_VERSION}, declared.section_header.TheConstants.{SECTION_HEADER_SIZE}}
use Rattle.oc_coff.specs.{declared.file_header.FileHeader.{FileHeader}, declared.form.Shape.{Shape}, declared.form.Shape.TheVariants.{Usual, Big}}
use Rattle.oc_coff.specs.{Forms.{header_size, symbol_size}, FileHeader.{file_header_of}, Tables.{strings_place, strings_size, has_strings}}

-- a fault of the header, or of what it places
abbrev pub header_fault : ℕ → Code → Fault
header_fault place code = record { phase = Header; index = 0; code = code; place = place }

-- a range passes the end of the file
abbrev pub passes_end : List ℕ → ℕ → ℕ → Bool
passes_end file at n = nat_lt (length file) (at + n)

-- the header is not that of an object: it has an optional header, or a version before the first of objects of many sections
abbrev pub foreign_condition : Shape → FileHeader → Condition
foreign_condition Usual h = (not (nat_eq h.SizeOfOptionalHeader 0), header_fault 0 NotRelocatable)
foreign_condition Big h = (nat_lt h.Version BIG_VERSION, header_fault 0 BadHeader)

-- the conditions on a file with that header
unfoldable pub header_conditions : Shape → List ℕ → FileHeader → List Condition
header_conditions shape file h =
    (passes_end file 0 (header_size shape), header_fault 0 Short)
    ∷ foreign_condition shape h
    ∷ (nat_eq h.PointerToSymbolTable 0 && not (nat_eq h.NumberOfSymbols 0), header_fault 0 BadHeader)
    ∷ (passes_end file (header_size shape) (SECTION_HEADER_SIZE * h.NumberOfSections), header_fault (header_size shape) Short)
    ∷ (not (nat_eq h.PointerToSymbolTable 0) && passes_end file h.PointerToSymbolTable (symbol_size shape * h.NumberOfSymbols), header_fault h.PointerToSymbolTable Short)
    ∷ (has_strings shape file h && passes_end file (strings_place shape h) STRINGS_HEAD, header_fault (strings_place shape h) Short)
    ∷ (has_strings shape file h && nat_lt (strings_size shape file h) STRINGS_HEAD, header_fault 0 BadHeader)
    ∷ (has_strings shape file h && passes_end file (strings_place shape h) (strings_size shape file h), header_fault (strings_place shape h) Short)
    ∷ []

-- the header
abbrev pub header_stage : Shape → List ℕ → Stage
header_stage shape file = record { count = 1; conditions = λ i. header_conditions shape file (file_header_of shape file) }
