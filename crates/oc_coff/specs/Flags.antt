-- What headers say of a section and of the file besides names and places (PE/COFF, "Section Flags", "COFF Relocations" and "Machine Types").
use Rattle.std.specs.{Prelude.{ℕ, ◌+◌, ◌*◌, ◌^◌, Bool, nat_eq, nat_lt, if◌then◌else◌, List, ◌∷◌, length}, Option.{option_map_or, unwrap_or}}
use Rattle.oc_base.specs.{declared.format.Word.{Word}, declared.format.Word.TheVariants.{W32, W64}}
use Rattle.oc_linking.specs.Numbers.{first_from}
use Rattle.oc_neutral.specs.declared.section.Section.{Section}
use Rattle.oc_neutral.specs.declared.coff.TheConstants.{IMAGE_SCN_ALIGN_1BYTES, IMAGE_SCN_LNK_COMDAT, IMAGE_SCN_LNK_NRELOC_OVFL, ALIGN_BITS}
use Rattle.oc_coff.specs.declared.constants.TheConstants.{BIG_VERSION, IMAGE_FILE_MACHINE_I386, IMAGE_FILE_MACHINE_AMD64, IMAGE_REL_I386_ABSOLUTE, OVERFLOWED_COUNT}
use Rattle.oc_coff.specs.{declared.form.Shape.{Shape}, declared.form.Shape.TheVariants.{Usual, Big}, declared.relocation.Relocation.{Relocation}}

-- the machine of a word
abbrev pub machine_of : Word → ℕ
machine_of W32 = IMAGE_FILE_MACHINE_I386
machine_of W64 = IMAGE_FILE_MACHINE_AMD64

-- the version of a shape
abbrev pub version_of : Shape → ℕ
version_of Usual = 0
version_of Big = BIG_VERSION

-- a pointer to a part of that many bytes: 0 where it has none
abbrev pub pointer_to : ℕ → ℕ → ℕ
pointer_to place size = if nat_eq size 0 then 0 else place

-- a section has more relocations than its header can count
abbrev pub is_crowded : List Relocation → Bool
is_crowded relocs = nat_lt OVERFLOWED_COUNT (length relocs)

-- the entry that holds the count of entries, itself included
abbrev pub count_entry : List Relocation → Relocation
count_entry relocs = record { VirtualAddress = length relocs + 1; SymbolTableIndex = 0; «Type» = IMAGE_REL_I386_ABSOLUTE }

-- its relocation entries
abbrev pub with_count : List Relocation → List Relocation
with_count relocs = if is_crowded relocs then count_entry relocs ∷ relocs else relocs

-- the alignment in the flags: n + 1 for 2^n
unfoldable pub align_field : ℕ → ℕ
align_field align = unwrap_or (first_from (λ k. nat_eq align (2 ^ k)) 0 (ALIGN_BITS + 1)) 0 + 1

-- the characteristics of a section
abbrev pub section_flags : Section → List Relocation → ℕ
section_flags s relocs =
    s.tag + align_field s.align * IMAGE_SCN_ALIGN_1BYTES + option_map_or (λ g. IMAGE_SCN_LNK_COMDAT) s.group 0 + (if is_crowded relocs then IMAGE_SCN_LNK_NRELOC_OVFL else 0)
