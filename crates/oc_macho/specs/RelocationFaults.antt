-- What the relocation entries of kept sections must meet (Mach-O reference, "Relocation Data Structures"; our profile).
use Rattle.std.specs.Prelude.{ℕ, ◌+◌, ◌*◌, ◌^◌, Bool, false, not, ◌&&◌, ◌||◌, nat_eq, nat_lt, if◌then◌else◌, is_none, ℤ, pos, ◌+ℤ◌, ◌-ℤ◌, List, [], ◌∷◌, ◌++◌, length, map, slice_get, Option}
use Rattle.std.specs.{List.{range_with_len}, Option.{option_map, option_map_or}}
use Rattle.oc_base.specs.{declared.format.Word.{Word}, declared.format.Word.TheVariants.{W32, W64}, declared.code.Code.{Code}}
use Rattle.oc_base.specs.declared.code.Code.TheVariants.{RelocKind, BadPair, BadOffset, BadTarget, TargetKind, Overlap, FoldTooWide}
use Rattle.oc_base.specs.{declared.fault.Phase.TheVariants.{Relocation}, declared.fault.Fault.{Fault}}
use Rattle.oc_linking.specs.{declared.terms.Keep.{Keep}, Fits.{fits}, FirstFault.{Condition, Stage}}
use Rattle.oc_algebra.specs.Residues.{residue_of}
use Rattle.oc_neutral.specs.{Normal.{Place}, Dialects.{is_difference}}
use Rattle.oc_shelf.specs.{Reading.Firsts.{any_upto}, Reading.Spans.{meets}}
use Rattle.oc_macho.specs.{declared.relocation_info.TheConstants.{RELOCATION_INFO_SIZE}, declared.relocation_info.RelocationInfo.{RelocationInfo}}
use Rattle.oc_macho.specs.{declared.section_header.SectionHeader.{SectionHeader}, declared.entries.Item.{Item}, Tables.{SectionTable, Tables}}
use Rattle.oc_macho.specs.{Sections.{is_zerofill, is_kept}, Entries.{row_for, is_first, is_second, is_known_second, item_at, target_entry, taken_reference}}
use Rattle.oc_macho.specs.{Aims.{Aim}, Referents.{referent_in, is_nothing, reads_slot, cannot_be_target, cannot_be_taken}}
use Rattle.oc_macho.specs.Fields.{FieldParts, field_parts_by, added_by, number_of, field_of}

-- a fault of a field of section i, counted from 0: the place is that of its first entry
abbrev pub relocation_fault : ℕ → SectionTable → ℕ → Code → Fault
relocation_fault i x k code = record { phase = Relocation; index = i + 1; code = code; place = x.header.reloff + RELOCATION_INFO_SIZE * k }

-- ... pairs

-- an entry is the second of a pair, and no first comes before it
abbrev pub is_lone_second : Word → RelocationInfo → Bool
is_lone_second W32 e = is_second W32 e && is_known_second W32 e
is_lone_second W64 e = false

-- an entry has the type of a second, and lacks what else a second has
abbrev pub is_odd_second : Word → RelocationInfo → Bool
is_odd_second w e = is_second w e && not (is_known_second w e)

-- one of the entries is of no known kind
unfoldable pub is_unknown : Word → Item → Bool
is_unknown w i = is_none (row_for w i.first) && not (is_lone_second w i.first) || option_map_or (is_odd_second w) i.second false

-- the two entries of a pair are at different addresses, where that counts
abbrev pub are_apart : Word → RelocationInfo → RelocationInfo → Bool
are_apart W32 e x = false
are_apart W64 e x = not (nat_eq e.r_address x.r_address)

-- two entries are a pair
abbrev pub are_pair : Word → RelocationInfo → RelocationInfo → Bool
are_pair w e x = is_second w x && nat_eq e.r_length x.r_length && not (are_apart w e x)

-- an entry that must be one of a pair is not
unfoldable pub is_no_pair : Word → Item → Bool
is_no_pair w i = is_lone_second w i.first || is_first w i.first && not (option_map_or (are_pair w i.first) i.second false)

-- ... bytes

-- where the field begins, and where it ends
abbrev pub span_of : Item → ℕ × ℕ
span_of i = (i.first.r_address, i.first.r_address + 2 ^ i.first.r_length)

-- the same of the field that begins with entry k of a section
abbrev pub span_at : Tables → SectionTable → ℕ → Option (ℕ × ℕ)
span_at t x k = option_map span_of (item_at t.word x.relocs k)

-- the field meets one that begins with one of the first n entries
abbrev pub meets_upto : Tables → SectionTable → ℕ → Item → Bool
meets_upto t x n i = any_upto (λ k. option_map_or (meets (span_of i)) (span_at t x k) false) n

-- how many bytes of the file are a section's
abbrev pub stored_size : SectionHeader → ℕ
stored_size h = if is_zerofill h then 0 else h.size

-- the field lies not in bytes of the file that are the section's
abbrev pub is_outside : SectionHeader → Item → Bool
is_outside h i = is_zerofill h || nat_lt h.size (span_of i).1

-- ... targets

-- an entry refers to nothing, or what is taken does
unfoldable pub refers_to_nothing : Tables → Item → Bool
refers_to_nothing t i =
    is_nothing (referent_in t (target_entry t.word i).refers) || option_map_or (λ r. is_nothing (referent_in t r)) (taken_reference t.word i) false

-- an entry refers to what no such field can refer to
unfoldable pub refers_wrongly : Tables → Item → Bool
refers_wrongly t i =
    cannot_be_target (reads_slot (row_for t.word i.first)) (referent_in t (target_entry t.word i).refers)
    || option_map_or (λ r. cannot_be_taken (referent_in t r)) (taken_reference t.word i) false

-- ... differences

-- how far a thing is beyond the start of its section
abbrev pub beyond : Aim → ℕ
beyond a = option_map_or (λ (place : Place). place.1) a.place 0

-- the value of a difference of one section, which no placement changes
abbrev pub constant_of : Tables → ℕ → SectionTable → ℕ → FieldParts → Aim → ℤ
constant_of t s c at x a = added_by t s at (number_of c at x) x +ℤ (pos (beyond x.target) -ℤ pos (beyond a))

-- a field is the address of a section less that of the same section, and its constant does not fit
abbrev pub folds_too_wide : Tables → ℕ → SectionTable → ℕ → FieldParts → Bool
folds_too_wide t s c at x =
    is_difference (field_of t s at c x)
    && option_map_or (λ a. not (fits t.word x.row.row.width x.row.row.check (residue_of t.word (constant_of t s c at x a)))) x.taken false

-- ... the conditions on the field of section i that begins with entry k

-- by the types of its entries and by its place
unfoldable pub form_conditions : Tables → ℕ → SectionTable → ℕ → Item → List Condition
form_conditions t i x k item =
    (is_unknown t.word item, relocation_fault i x k RelocKind)
    ∷ (is_no_pair t.word item, relocation_fault i x k BadPair)
    ∷ (is_outside x.header item, relocation_fault i x k BadOffset)
    ∷ []

-- by what it refers to
unfoldable pub target_conditions : Tables → ℕ → SectionTable → ℕ → Item → List Condition
target_conditions t i x k item =
    (refers_to_nothing t item, relocation_fault i x k BadTarget) ∷ (refers_wrongly t item, relocation_fault i x k TargetKind) ∷ []

-- the field of entries folds too wide
unfoldable pub is_too_wide : Tables → ℕ → SectionTable → Item → Bool
is_too_wide t i x item = option_map_or (folds_too_wide t i x item.first.r_address) (field_parts_by t item) false

-- by the fields before, and by its value
abbrev pub last_conditions : Tables → ℕ → SectionTable → ℕ → Item → List Condition
last_conditions t i x k item = (meets_upto t x k item, relocation_fault i x k Overlap) ∷ (is_too_wide t i x item, relocation_fault i x k FoldTooWide) ∷ []

-- all of them
abbrev pub item_conditions : Tables → ℕ → SectionTable → ℕ → Item → List Condition
item_conditions t i x k item = form_conditions t i x k item ++ (target_conditions t i x k item ++ last_conditions t i x k item)

-- the conditions on entry k of a section: on the field that begins with it, if one does
unfoldable pub entry_conditions : Tables → ℕ → SectionTable → ℕ → List Condition
entry_conditions t i x k = option_map_or (item_conditions t i x k) (item_at t.word x.relocs k) []

-- the entries of a section in their order
abbrev pub entry_stage : Tables → ℕ → SectionTable → Stage
entry_stage t i x = record { count = length x.relocs; conditions = entry_conditions t i x }

-- no structures
abbrev pub no_stage : Stage
no_stage = record { count = 0; conditions = λ k. [] }

-- the entries of section i, counted from 0, where it is kept
abbrev pub relocation_stage : Tables → Keep → ℕ → Stage
relocation_stage t keep i = option_map_or (λ x. if is_kept keep x then entry_stage t i x else no_stage) (slice_get t.sections i) no_stage

-- those of all sections
abbrev pub relocation_stages : Tables → Keep → List Stage
relocation_stages t keep = map (relocation_stage t keep) (range_with_len 0 (length t.sections))
