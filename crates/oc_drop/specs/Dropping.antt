-- Sections that are not kept are dropped from an object, and Locals with them (our profile).
use Rattle.std.specs.Prelude.{ℕ, Bool, not, ◌&&◌, if◌then◌else◌, List, map, Option, Some, None, Result}
use Rattle.oc_base.specs.{declared.code.Code.TheVariants.{SymbolInDropped, RelocToDropped}, declared.fault.Fault.{Fault}}
use Rattle.oc_linking.specs.{declared.terms.Keep.{Keep}, Keeping.{keeps}, Parts.{is_local}, Numbers.{or_else}}
use Rattle.oc_chains.specs.declared.field.Field.{Field}
use Rattle.oc_neutral.specs.{declared.section.Section.{Section}, declared.symbol.Symbol.{Symbol}, declared.reloc.Reloc.{Reloc}, Objects.{Object}}
use Rattle.oc_neutral.specs.Without.{is_dropped, lies_in_dropped, refers_to_dropped, without_of}
use Rattle.oc_drop.specs.Steps.{first_in, unless, symbol_fault, field_fault, fault_in, first_field}

-- ... what stays

-- of each section, whether it stays
abbrev pub sections_stay : Keep → List Section → List Bool
sections_stay keep sections = map (λ (s : Section). keeps keep s.kind) sections

-- of each section of an object
abbrev pub stays : Keep → Object → List Bool
stays keep n = sections_stay keep n.sections

-- the object without the sections that are not kept
abbrev pub left : Keep → Object → Object
left keep n = without_of (stays keep n) n

-- ... why dropping is refused

-- a nonlocal symbol lies in a dropped section
abbrev pub dropped_symbol : List Bool → Symbol → Option Fault
dropped_symbol stay s = if not (is_local s.binding) && lies_in_dropped stay s then Some (symbol_fault SymbolInDropped s) else None

-- a field of a section that stays refers to a dropped one
abbrev pub dropped_reference : List Bool → ℕ → Section → Field Reloc → Option Fault
dropped_reference stay k s x =
    if not (is_dropped stay k) && refers_to_dropped stay x.item then Some (field_fault RelocToDropped s x) else None

-- the first such field of the section at a position
abbrev pub section_fault : List Bool → Object → ℕ → Option Fault
section_fault stay n = fault_in (dropped_reference stay) n

-- the first refusal: by symbols, then by fields
abbrev pub dropping_fault : List Bool → Object → Option Fault
dropping_fault stay n = or_else (first_in (dropped_symbol stay) n.symbols) (first_field (dropped_reference stay) n)

-- ... all together

-- the object without the sections that are not kept, or the first refusal
abbrev pub dropped : Keep → Object → Result Object Fault
dropped keep n = unless (dropping_fault (stays keep n) n) (left keep n)
