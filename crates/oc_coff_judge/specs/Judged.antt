-- What is computed of a file while it is judged (PE/COFF; our profile).
use Rattle.oc_coff.specs.{Files.{CoffFile, tables_in}, declared.section_header.SectionHeader.{SectionHeader}, declared.symbol.SymbolEntry.{SymbolEntry}}
use Rattle.oc_coff.specs.{Tables.{Tables}, Entries.{Entry, has_section}, Comdat.{definition_in, is_comdat, symbols_of}, Names.{section_name}}
use Rattle.oc_coff.specs.SectionFaults.{Numbered, carried_bytes, carried_size, copy_conditions, header_place, section_fault, section_stage, worth_by}
use Rattle.oc_coff.specs.Sections.{align_bits}
use Rattle.std.specs.Prelude.{◌≡◌, ℕ, ◌+◌, ◌≤◌, Bool, not, ◌&&◌, nat_eq, nat_le, nat_lt, if◌then◌else◌, is_none, List, [], ◌∷◌, length, map, slice_get, slice_index_or, slice_set, Option, Some, None}
use Rattle.std.specs.Option.{is_some, option_map, option_map_or}
use Rattle.oc_base.specs.{declared.code.Code.{Code}, declared.code.Code.TheVariants.{BadAlign, BadName, LimitSection, LimitSum, LimitBytes, SectionKind}}
use Rattle.oc_base.specs.{declared.fault.Phase.TheVariants.{Section}, declared.fault.Fault.{Fault}}
use Rattle.oc_linking.specs.{FirstFault.{Condition, fault_of}, declared.terms.Kind.{Kind}, declared.terms.Kind.TheVariants.{Zero}}
use Rattle.oc_neutral.specs.KindRules.{same_kind}
use Rattle.oc_shelf.specs.Reading.Sums.{sum_upto}
use Rattle.oc_coff_judge.specs.Numbered.{entry_by}

-- ... the first symbols of sections

-- the symbol has a section that exists
abbrev pub is_owner : Tables → SymbolEntry → Bool
is_owner t s = has_section s && nat_le s.SectionNumber (length t.sections)

-- the first symbols, once entry j is seen
abbrev pub firsts_with : Tables → SymbolEntry → ℕ → List (Option ℕ) → List (Option ℕ)
firsts_with t s j firsts = if is_owner t s && is_none (slice_index_or firsts s.SectionNumber None) then slice_set firsts s.SectionNumber (Some j) else firsts

-- the second symbols, once entry j is seen
abbrev pub seconds_with : Tables → SymbolEntry → ℕ → List (Option ℕ) → List (Option ℕ) → List (Option ℕ)
seconds_with t s j firsts seconds =
    if is_owner t s && not (is_none (slice_index_or firsts s.SectionNumber None)) && is_none (slice_index_or seconds s.SectionNumber None)
    then slice_set seconds s.SectionNumber (Some j) else seconds

-- symbol i of section number k among the symbols of these numbers
abbrev pub owner_among : CoffFile → List ℕ → ℕ → ℕ → Option ℕ
owner_among file numbers i k = option_map (λ (e : Entry). e.number) (slice_get (symbols_of (map (entry_by file) numbers) k) i)

-- ... limits

-- a fault of section i, counted from 0
abbrev pub section_fault_at : ℕ → ℕ → Code → Fault
section_fault_at i place code = record { phase = Section; index = i + 1; code = code; place = place }

-- the limits on section i, counted from 0, by its size and the sums with it
abbrev pub limits_by : ℕ → ℕ → ℕ → ℕ → List Condition
limits_by i size sizes bytes =
    (nat_lt 2147483647 size, section_fault_at i size LimitSection)
    ∷ (nat_lt 2147483648 sizes, section_fault_at i sizes LimitSum)
    ∷ (nat_lt 67108864 bytes, section_fault_at i bytes LimitBytes)
    ∷ []

-- what a section of that kind takes, where it is carried, and what it stores
abbrev pub size_by : Option Kind → SectionHeader → ℕ
size_by kind h = if is_some kind then h.SizeOfRawData else 0

abbrev pub stored_by : Option Kind → SectionHeader → ℕ
stored_by kind h = option_map_or (λ (k : Kind). if same_kind Zero k then 0 else h.SizeOfRawData) kind 0

-- the sums of the first i sections, which keep the limits
pub record AreSums (t : Tables) (i sizes bytes : ℕ) : Type 0 where
  pub sizes_are : sizes ≡ sum_upto (worth_by (carried_size t) t) i
  pub bytes_are : bytes ≡ sum_upto (worth_by (carried_bytes t) t) i
  pub sizes_few : sizes ≤ 2147483648
  pub bytes_few : bytes ≤ 67108864

-- ... the conditions on a section, part by part

-- its name
abbrev pub name_of_header : Tables → SectionHeader → Option (List ℕ)
name_of_header t h = section_name t.strings h.Name

abbrev pub names_of : Tables → Numbered → SectionHeader → List Condition
names_of t x h = (is_none (name_of_header t h), section_fault x (header_place t x) BadName) ∷ []

abbrev pub copies_of : Tables → Numbered → SectionHeader → List Condition
copies_of t x h = if is_comdat h then copy_conditions t x (definition_in t x.0) else []

abbrev pub forms_of : Tables → Numbered → SectionHeader → List Condition
forms_of t x h = (not (nat_eq h.VirtualAddress 0), section_fault x (header_place t x) SectionKind) ∷ (nat_eq (align_bits h.Characteristics) 15, section_fault x (header_place t x) BadAlign) ∷ []

-- the fault of section i, counted from 0
abbrev pub section_fault_of : CoffFile → ℕ → Option Fault
section_fault_of file i = fault_of (section_stage file.bytes (tables_in file)) i
