-- Conditions on relocation entries (i386 and x86-64 psABI, "Relocation Types"; our profile).
use Rattle.std.specs.Prelude.{ℕ, ◌+◌, Bool, false, not, ◌&&◌, ◌||◌, nat_eq, nat_lt, nat_le, is_some, is_none, if◌then◌else◌, List, [], ◌∷◌, ◌++◌, length, map, Option, Some, None}
use Rattle.std.specs.{List.{range_with_len}, Option.{option_map_or}}
use Rattle.oc_base.specs.{declared.code.Code.{Code}, declared.code.Code.TheVariants.{RelocKind, BadOffset, BadTarget, TargetKind, Overlap}}
use Rattle.oc_base.specs.{declared.fault.Fault.{Fault}, declared.fault.Phase.TheVariants.{Relocation}}
use Rattle.oc_linking.specs.{declared.terms.Keep.{Keep}, declared.terms.Base.TheVariants.{Address}, Keeping.{keeps}}
use Rattle.oc_linking.specs.FirstFault.{Condition, Stage, first_broken}
use Rattle.oc_neutral.specs.{declared.elf.TheConstants.{SHT_NOBITS}, Rows.{Row, same_base}}
use Rattle.oc_shelf.specs.{Reading.Firsts.{any_upto}, Reading.Spans.{meets}}
use Rattle.oc_elf.specs.{declared.shdr.Shdr.{Shdr}, declared.rel.Rel.{Rel}, Frames.{FileFrame, header_at}, Sections.{is_type, is_carried, kind_of}}
use Rattle.oc_elf.specs.{Tables.{symbol_count, entry_of, reloc_count, reloc_place, reloc_of}, Entries.{is_local_entry, is_section_symbol}}
use Rattle.oc_elf.specs.{CarriedSymbols.{symbol_of, home_of}, Fields.{is_idle, row_for, width_of}}

-- a fault of an entry of the relocation table of section i
abbrev pub reloc_fault : Code → ℕ → ℕ → Fault
reloc_fault code i place = record { phase = Relocation; index = i; code = code; place = place }

-- section i is carried and kept
abbrev pub is_kept_section : FileFrame → Keep → ℕ → Bool
is_kept_section f keep i = is_carried (header_at f.headers i) && keeps keep (kind_of f (header_at f.headers i))

-- how many bytes of the file are a section's
abbrev pub stored_size : Shdr → ℕ
stored_size s = if is_type SHT_NOBITS s then 0 else s.sh_size

-- the field lies in bytes of the file that are its section's
abbrev pub lies_within : FileFrame → Shdr → Rel → Bool
lies_within f s r = not (is_type SHT_NOBITS s) && nat_le (r.r_offset + width_of f r) s.sh_size

-- symbol j can be named: it is the first, carried, or a section's own
unfoldable pub is_nameable : FileFrame → ℕ → Bool
is_nameable f j = nat_lt j (symbol_count f) && (nat_eq j 0 || is_some (symbol_of f j) || is_section_symbol (entry_of f j))

-- the value of its type begins with the address of the target
abbrev pub takes_address : FileFrame → Rel → Bool
takes_address f r = option_map_or (λ (row : Row). same_base row.base Address) (row_for f r) false

-- its symbol can be the target of an entry: it is not the first, and where it is LOCAL, it lies in a carried section and its address is taken
unfoldable pub is_target_for : FileFrame → Rel → Bool
is_target_for f r =
    not (nat_eq r.r_sym 0) && (not (is_local_entry (entry_of f r.r_sym)) || is_some (home_of f (entry_of f r.r_sym)) && takes_address f r)

-- the bytes of the field of an entry, from the first to the place after the last
abbrev pub bytes_for : FileFrame → Rel → ℕ × ℕ
bytes_for f r = (r.r_offset, r.r_offset + width_of f r)

-- those of entry j of the relocation table of section i, where it is not idle
abbrev pub span_of : FileFrame → ℕ → ℕ → Option (ℕ × ℕ)
span_of f i j = if is_idle (reloc_of f i j) then None else Some (bytes_for f (reloc_of f i j))

-- the field of an entry has bytes in common with that of one of the first n entries
abbrev pub meets_upto : FileFrame → ℕ → ℕ → Rel → Bool
meets_upto f i n r = any_upto (λ j. option_map_or (meets (bytes_for f r)) (span_of f i j) false) n

-- the conditions that an entry meets by itself
unfoldable pub own_conditions : FileFrame → ℕ → ℕ → Rel → List Condition
own_conditions f i place r =
    (is_none (row_for f r), reloc_fault RelocKind i place)
    ∷ (not (lies_within f (header_at f.headers i) r), reloc_fault BadOffset i place)
    ∷ (not (is_nameable f r.r_sym), reloc_fault BadTarget i place)
    ∷ (not (is_target_for f r), reloc_fault TargetKind i place)
    ∷ []

-- the conditions on an entry that is not idle; no row takes a section, so that no constant comes about
unfoldable pub rel_conditions : FileFrame → ℕ → ℕ → ℕ → Rel → List Condition
rel_conditions f i k place r = own_conditions f i place r ++ ((meets_upto f i k r, reloc_fault Overlap i place) ∷ [])

-- the conditions on entry k of the relocation table of section i
unfoldable pub reloc_conditions : FileFrame → ℕ → ℕ → List Condition
reloc_conditions f i k = if is_idle (reloc_of f i k) then [] else rel_conditions f i k (reloc_place f i k) (reloc_of f i k)

-- its fault
abbrev pub entry_fault : FileFrame → ℕ → ℕ → Option Fault
entry_fault f i k = first_broken (reloc_conditions f i k)

-- the stage of the relocations of section i: none where it is not kept
abbrev pub reloc_stage : FileFrame → Keep → ℕ → Stage
reloc_stage f keep i = record { count = if is_kept_section f keep i then reloc_count f i else 0; conditions = reloc_conditions f i }

-- those of all sections
abbrev pub reloc_stages : FileFrame → Keep → List Stage
reloc_stages f keep = map (reloc_stage f keep) (range_with_len 0 (length f.headers))
