-- What the sections of a file must meet (Mach-O reference, "section"; our profile).
use Rattle.std.specs.{Prelude.{ℕ, ◌+◌, ◌*◌, Bool, not, ◌&&◌, ◌||◌, nat_lt, if◌then◌else◌, List, [], ◌∷◌, ◌++◌, length, slice_get}, List.{list_any}}
use Rattle.std.specs.Option.{option_map_or}
use Rattle.oc_base.specs.declared.code.Code.{Code}
use Rattle.oc_base.specs.declared.code.Code.TheVariants.{AlignRange, SectionKind, BadTable, Short, LimitSection, LimitSum, LimitBytes}
use Rattle.oc_base.specs.{declared.fault.Phase.TheVariants.{Section}, declared.fault.Fault.{Fault}}
use Rattle.oc_linking.specs.{declared.terms.Kind.TheVariants.{Zero}, FirstFault.{Condition, Stage}, Numbers.{modulus}}
use Rattle.oc_neutral.specs.{KindRules.{same_kind}, Mach.Kinds.{is_comma, is_read_type}}
use Rattle.oc_shelf.specs.Reading.Sums.{sum_upto}
use Rattle.oc_macho.specs.{declared.constants.TheConstants.{MOST_ALIGN_EXPONENT}, declared.relocation_info.TheConstants.{RELOCATION_INFO_SIZE}}
use Rattle.oc_macho.specs.{declared.section_header.SectionHeader.{SectionHeader}, SectionHeader.{section_header_size}, Tables.{SectionTable, Tables}}
use Rattle.oc_macho.specs.{Sections.{segment_name, kind_of, is_zerofill}, HeaderFaults.{passes_end}}

-- a fault of section i, counted from 0
abbrev pub section_fault : ℕ → ℕ → Code → Fault
section_fault i place code = record { phase = Section; index = i + 1; code = code; place = place }

-- where its header lies
abbrev pub header_place : Tables → ℕ → ℕ
header_place t i = t.headers_at + section_header_size t.word * i

-- its segment has a comma in its name, or it is of a type that is not read
abbrev pub is_odd : SectionHeader → Bool
is_odd h = list_any is_comma (segment_name h) || not (is_read_type h.flags)

-- what a section places passes the end of the file: its bytes, or its relocation entries
abbrev pub place_conditions : Tables → ℕ → SectionHeader → List Condition
place_conditions t i h =
    (not (is_zerofill h) && passes_end t.file_size h.offset h.size, section_fault i h.offset Short)
    ∷ (passes_end t.file_size h.reloff (RELOCATION_INFO_SIZE * h.nreloc), section_fault i h.reloff Short)
    ∷ []

-- the conditions on a header
unfoldable pub own_conditions : Tables → ℕ → SectionHeader → List Condition
own_conditions t i h =
    (nat_lt MOST_ALIGN_EXPONENT h.align, section_fault i (header_place t i) AlignRange)
    ∷ (is_odd h, section_fault i (header_place t i) SectionKind)
    ∷ (nat_lt (modulus t.word) (h.addr + h.size), section_fault i (header_place t i) BadTable)
    ∷ place_conditions t i h

-- ... limits

-- the bytes that a section takes, and those that it stores: none where its kind is Zero
abbrev pub stored_of : SectionHeader → ℕ
stored_of h = if same_kind (kind_of h) Zero then 0 else h.size

-- the value for section i, counted from 0
abbrev pub worth_by : (SectionHeader → ℕ) → Tables → ℕ → ℕ
worth_by worth t i = option_map_or (λ (x : SectionTable). worth x.header) (slice_get t.sections i) 0

abbrev pub size_at : Tables → ℕ → ℕ
size_at = worth_by (λ h. h.size)

abbrev pub stored_at : Tables → ℕ → ℕ
stored_at = worth_by stored_of

-- the limits on a section, and on all up to and with it
unfoldable pub limit_conditions : Tables → ℕ → SectionHeader → List Condition
limit_conditions t i h =
    (nat_lt 2147483647 h.size, section_fault i h.size LimitSection)
    ∷ (nat_lt 2147483648 (sum_upto (size_at t) i + h.size), section_fault i (sum_upto (size_at t) i + h.size) LimitSum)
    ∷ (nat_lt 67108864 (sum_upto (stored_at t) i + stored_of h), section_fault i (sum_upto (stored_at t) i + stored_of h) LimitBytes)
    ∷ []

-- the conditions on section i, counted from 0
unfoldable pub section_conditions : Tables → ℕ → SectionTable → List Condition
section_conditions t i x = own_conditions t i x.header ++ limit_conditions t i x.header

-- the stage of sections
abbrev pub section_stage : Tables → Stage
section_stage t = record { count = length t.sections; conditions = λ i. option_map_or (section_conditions t i) (slice_get t.sections i) [] }
