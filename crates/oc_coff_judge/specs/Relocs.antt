-- Relocation entries, section by section (PE/COFF, "COFF Relocations"; our profile).
use Rattle.oc_coff.specs.{Files.{CoffFile, tables_in}, declared.relocation.Relocation.{Relocation}, declared.relocation.TheConstants.{RELOCATION_SIZE}}
use Rattle.oc_coff.specs.{Relocation.{relocation_at}, Tables.{Tables}, Sections.{Carried}, Forms.{coff_format}}
use Rattle.oc_coff.specs.{RelocationFaults.{judged_from, needs_home, relocation_conditions, relocation_stage}, SectionFaults.{section_stage}}
use Rattle.oc_coff.specs.SymbolFaults.{symbol_stage}
use Rattle.std.specs.Prelude.{◌≡◌, ℕ, ◌+◌, ◌*◌, ◌≤◌, Bool, true, false, not, ◌||◌, nat_lt, is_none, if◌then◌else◌, List, [], ◌∷◌, length, Option, Some, None}
use Rattle.std.specs.Option.{option_and_then, option_map, option_map_or}
use Rattle.oc_base.specs.{declared.format.Word.{Word}, declared.code.Code.{Code}, declared.code.Code.TheVariants.{RelocKind, BadOffset, BadTarget, TargetKind}}
use Rattle.oc_base.specs.declared.fault.Fault.{Fault}
use Rattle.oc_base.specs.declared.fault.Phase.TheVariants as phase
use Rattle.oc_linking.specs.{declared.terms.Keep.{Keep}, Keeping.{keeps}, Fits.{bytes_of}, FirstFault.{Condition, Stage, first_broken}, Numbers.{first_upto}}
use Rattle.oc_neutral.specs.{RelocTables.{row_of}, Rows.{Row}, TargetSections.{each_of}}
use Rattle.oc_shelf.specs.{Reading.Firsts.{any_upto}, Reading.Rows.{rows}, Reading.Bitmaps.{AreBytesOf, room}, Reading.Spans.{meets}}
use Rattle.oc_coff_judge.specs.{declared.aims.AimKind.{AimKind}, declared.aims.AimKind.TheVariants.{Nothing, Home, Homeless}, declared.relocs.RelocTable.{RelocTable}}
use Rattle.oc_coff_judge.specs.Led.{carried_at}

-- ... by the rules

-- the fault of entry k of a section
abbrev pub fault_in : Word → Tables → ℕ → Carried → Option Fault
fault_in w t k c = first_broken (each_of (relocation_conditions w t) (judged_from c c.relocs_at [] c.relocs) k)

-- that of section i, counted from 0, where it is carried
abbrev pub entry_fault : Word → Tables → ℕ → ℕ → Option Fault
entry_fault w t i k = option_and_then (fault_in w t k) (carried_at t i)

-- the first fault of the entries of a section, where it is kept
abbrev pub faults_in : Word → Tables → Keep → Carried → Option Fault
faults_in w t keep c = if keeps keep c.section.kind then first_upto (λ k. fault_in w t k c) (length c.relocs) else None

-- that of section i, counted from 0, where it is carried
abbrev pub relocs_fault : Word → Tables → Keep → ℕ → Option Fault
relocs_fault w t keep i = option_and_then (faults_in w t keep) (carried_at t i)

-- ... by the table of a section

-- the table of section i, counted from 0, which is carried
pub record IsTable (file : CoffFile) (i : ℕ) (table : RelocTable) : Type 0 where
  pub of : Carried
  pub here : carried_at (tables_in file) i ≡ Some of
  pub number : of.section.number ≡ i + 1
  pub size : table.size ≡ of.section.size
  pub stored : table.stored ≡ of.stored
  pub place : table.place ≡ of.relocs_at
  pub entries : of.relocs ≡ rows relocation_at RELOCATION_SIZE file.bytes table.place table.count
  pub lies : table.place + RELOCATION_SIZE * table.count ≤ length file.bytes
  pub small : length file.bytes ≤ 67108864

-- entry k, and where it lies
abbrev pub reloc_place : RelocTable → ℕ → ℕ
reloc_place table k = table.place + RELOCATION_SIZE * k

unfoldable pub reloc_of : CoffFile → RelocTable → ℕ → Relocation
reloc_of file table k = relocation_at file.bytes (reloc_place table k)

-- the row of its type
abbrev pub row_for : Word → Relocation → Option Row
row_for w r = row_of (coff_format w) r.Type

-- how many bytes its field has; 0 where its type has no row
abbrev pub width_of : Word → Relocation → ℕ
width_of w r = option_map_or (λ (row : Row). bytes_of row.width) (row_for w r) 0

-- its value has to do with the home of its target
abbrev pub takes_home : Word → Relocation → Bool
takes_home w r = option_map_or needs_home (row_for w r) false

-- how many bytes of the file are a section's
abbrev pub stored_size : RelocTable → ℕ
stored_size table = if table.stored then table.size else 0

-- its field passes the bytes of its section that are in the file
abbrev pub passes_bytes : Word → RelocTable → Relocation → Bool
passes_bytes w table r = not table.stored || nat_lt table.size (r.VirtualAddress + width_of w r)

-- a fault of an entry of section i, counted from 0
abbrev pub reloc_fault : Code → ℕ → ℕ → Fault
reloc_fault code i place = record { phase = phase.Relocation; index = i + 1; code = code; place = place }

-- no field can have what a symbol stands for, or none that takes the home
abbrev pub is_wrong : Bool → AimKind → Bool
is_wrong home Nothing = true
is_wrong home Home = false
is_wrong home Homeless = home

-- the conditions that an entry at a place meets by itself, where its symbol stands for that
unfoldable pub own_conditions : Word → ℕ → RelocTable → ℕ → Relocation → Option AimKind → List Condition
own_conditions w i table place r aim =
    (is_none (row_for w r), reloc_fault RelocKind i place)
    ∷ (passes_bytes w table r, reloc_fault BadOffset i place)
    ∷ (is_none aim, reloc_fault BadTarget i place)
    ∷ (option_map_or (is_wrong (takes_home w r)) aim false, reloc_fault TargetKind i place)
    ∷ []

-- the bytes of the field of an entry, from the first to the place after the last
abbrev pub bytes_for : Word → Relocation → ℕ × ℕ
bytes_for w r = (r.VirtualAddress, r.VirtualAddress + width_of w r)

-- those of entry k, where its type has a row
abbrev pub span_of : Word → CoffFile → RelocTable → ℕ → Option (ℕ × ℕ)
span_of w file table k = option_map (λ (row : Row). bytes_for w (reloc_of file table k)) (row_for w (reloc_of file table k))

-- the field of an entry has bytes in common with that of one of the first n entries
abbrev pub meets_upto : Word → CoffFile → RelocTable → ℕ → Relocation → Bool
meets_upto w file table n r = any_upto (λ j. option_map_or (meets (bytes_for w r)) (span_of w file table j) false) n

-- the bytes taken are those of the fields of the first n entries, and there is room for all of the section
pub record AreTaken (w : Word) (file : CoffFile) (table : RelocTable) (n : ℕ) (words : List ℕ) : Type 0 where
  pub fields : AreBytesOf (span_of w file table) n words
  pub room : stored_size table ≤ room words

-- ... all that comes after the file header

abbrev pub rest_stages : Word → CoffFile → Keep → List Stage
rest_stages w file keep = section_stage file.bytes (tables_in file) ∷ symbol_stage (tables_in file) ∷ relocation_stage w (tables_in file) keep ∷ []
