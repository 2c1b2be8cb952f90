-- What the sections of a file must meet (PE/COFF, "Section Table" and "COMDAT Sections"; our profile).
use Rattle.std.specs.Prelude.{ℕ, ◌+◌, ◌-◌, ◌*◌, Bool, not, ◌&&◌, ◌||◌, nat_eq, nat_lt, nat_le, if◌then◌else◌, is_none, List, [], ◌∷◌, ◌++◌, length, slice_get, Option, false}
use Rattle.std.specs.{List.{enumerate_from}, Option.{option_map_or, is_some}}
use Rattle.oc_base.specs.declared.code.Code.{Code}
use Rattle.oc_base.specs.declared.code.Code.TheVariants.{BadName, Group, SectionKind, BadAlign, BadTable, Short, LimitSection, LimitSum, LimitBytes}
use Rattle.oc_base.specs.{declared.fault.Phase.TheVariants.{Section}, declared.fault.Fault.{Fault}, Numbers.{number_at}}
use Rattle.oc_linking.specs.{declared.terms.Kind.{Kind}, declared.terms.Kind.TheVariants.{Zero}, FirstFault.{Condition, Stage}}
use Rattle.oc_neutral.specs.{KindRules.{has, same_kind}, TargetSections.{each_of}, declared.coff.TheConstants.{IMAGE_SCN_CNT_UNINITIALIZED_DATA}}
use Rattle.oc_shelf.specs.Reading.Sums.{sum_upto, passes}
use Rattle.oc_coff.specs.declared.constants.TheConstants.{IMAGE_COMDAT_SELECT_NODUPLICATES, IMAGE_COMDAT_SELECT_ANY, IMAGE_COMDAT_SELECT_ASSOCIATIVE}
use Rattle.oc_coff.specs.{declared.section_header.TheConstants.{SECTION_HEADER_SIZE}, declared.relocation.TheConstants.{RELOCATION_SIZE}}
use Rattle.oc_coff.specs.{declared.section_header.SectionHeader.{SectionHeader}, declared.section_aux.SectionAux.{SectionAux}, Forms.{header_size}}
use Rattle.oc_coff.specs.{Tables.{SectionTable, Tables, is_overflowed}, Names.{section_name}, Entries.{entries_in}}
use Rattle.oc_coff.specs.{Comdat.{is_comdat, definition_in, selects, key_symbol}, Sections.{align_bits, kind_in, is_stored}, HeaderFaults.{passes_end}}

-- a section with its number
abbrev pub Numbered : Type 0
Numbered = ℕ × SectionTable

-- the place of its header
abbrev pub header_place : Tables → Numbered → ℕ
header_place t x = header_size t.shape + SECTION_HEADER_SIZE * (x.0 - 1)

-- a fault of it
abbrev pub section_fault : Numbered → ℕ → Code → Fault
section_fault x place code = record { phase = Section; index = x.0; code = code; place = place }

-- ... copies

-- what a section's own symbol says of its copies is known
abbrev pub is_known : Option SectionAux → Bool
is_known d = selects IMAGE_COMDAT_SELECT_NODUPLICATES d || selects IMAGE_COMDAT_SELECT_ANY d || selects IMAGE_COMDAT_SELECT_ASSOCIATIVE d

-- the section with which it is kept is another one of the file
abbrev pub names_another : Tables → ℕ → Option SectionAux → Bool
names_another t k d = option_map_or (λ (a : SectionAux). nat_le 1 a.Number && nat_le a.Number (length t.sections) && not (nat_eq a.Number k)) d false

-- and is itself kept with another
abbrev pub follows_follower : Tables → Option SectionAux → Bool
follows_follower t d = option_map_or (λ (a : SectionAux). selects IMAGE_COMDAT_SELECT_ASSOCIATIVE (definition_in t a.Number)) d false

-- the conditions on a section of which there are copies, with this definition
abbrev pub copy_conditions : Tables → Numbered → Option SectionAux → List Condition
copy_conditions t x d =
    (not (is_known d), section_fault x (header_place t x) Group)
    ∷ (selects IMAGE_COMDAT_SELECT_ASSOCIATIVE d && not (names_another t x.0 d), section_fault x (header_place t x) BadTable)
    ∷ (selects IMAGE_COMDAT_SELECT_ASSOCIATIVE d && follows_follower t d, section_fault x (header_place t x) Group)
    ∷ (selects IMAGE_COMDAT_SELECT_ANY d && is_none (key_symbol (entries_in t) x.0), section_fault x (header_place t x) Group)
    ∷ []

-- ... bytes and relocations

-- the conditions on the bytes of a section
abbrev pub raw_conditions : List ℕ → Tables → Numbered → SectionHeader → List Condition
raw_conditions file t x h =
    (not (has h.Characteristics IMAGE_SCN_CNT_UNINITIALIZED_DATA) && not (nat_eq h.SizeOfRawData 0) && nat_eq h.PointerToRawData 0, section_fault x (header_place t x) BadTable)
    ∷ (is_stored (kind_in t.strings h) h && passes_end file h.PointerToRawData h.SizeOfRawData, section_fault x h.PointerToRawData Short)
    ∷ []

-- the conditions on its relocation table; the first entry may hold the count
abbrev pub table_conditions : List ℕ → Tables → Numbered → SectionHeader → List Condition
table_conditions file t x h =
    if is_overflowed h
    then (passes_end file h.PointerToRelocations RELOCATION_SIZE, section_fault x h.PointerToRelocations Short)
    ∷ (nat_eq (number_at file h.PointerToRelocations 4) 0, section_fault x (header_place t x) BadTable)
    ∷ (passes_end file h.PointerToRelocations (RELOCATION_SIZE * number_at file h.PointerToRelocations 4), section_fault x h.PointerToRelocations Short)
    ∷ []
    else (passes_end file h.PointerToRelocations (RELOCATION_SIZE * h.NumberOfRelocations), section_fault x h.PointerToRelocations Short) ∷ []

-- ... limits, which are on sections that are carried

-- the bytes that a section takes, where it is carried; 0 where it is not
abbrev pub carried_size : Tables → SectionTable → ℕ
carried_size t x = if is_some (kind_in t.strings x.header) then x.header.SizeOfRawData else 0

-- and those that are stored: none where its kind is Zero
abbrev pub carried_bytes : Tables → SectionTable → ℕ
carried_bytes t x = option_map_or (λ (kind : Kind). if same_kind Zero kind then 0 else x.header.SizeOfRawData) (kind_in t.strings x.header) 0

-- of section i
abbrev pub worth_by : (SectionTable → ℕ) → Tables → ℕ → ℕ
worth_by worth t i = option_map_or worth (slice_get t.sections i) 0

-- the limits with section i
abbrev pub limit_conditions : Tables → ℕ → Numbered → List Condition
limit_conditions t i x =
    (nat_lt 2147483647 (carried_size t x.1), section_fault x (carried_size t x.1) LimitSection)
    ∷ (passes (worth_by (carried_size t) t) 2147483648 i, section_fault x (sum_upto (worth_by (carried_size t) t) (i + 1)) LimitSum)
    ∷ (passes (worth_by (carried_bytes t) t) 67108864 i, section_fault x (sum_upto (worth_by (carried_bytes t) t) (i + 1)) LimitBytes)
    ∷ []

-- ... a section

-- the conditions on section i
unfoldable pub section_conditions : List ℕ → Tables → ℕ → Numbered → List Condition
section_conditions file t i x =
    (is_none (section_name t.strings x.1.header.Name), section_fault x (header_place t x) BadName)
    ∷ (if is_comdat x.1.header then copy_conditions t x (definition_in t x.0) else [])
    ++ ((not (nat_eq x.1.header.VirtualAddress 0), section_fault x (header_place t x) SectionKind)
    ∷ (nat_eq (align_bits x.1.header.Characteristics) 15, section_fault x (header_place t x) BadAlign)
    ∷ raw_conditions file t x x.1.header
    ++ (table_conditions file t x x.1.header
    ++ (if is_some (kind_in t.strings x.1.header) then limit_conditions t i x else [])))

-- the sections in their order
abbrev pub section_stage : List ℕ → Tables → Stage
section_stage file t = record { count = length t.sections; conditions = λ i. each_of (section_conditions file t i) (enumerate_from 1 t.sections) i }
