-- What hints say of sections (docs/INTEROPERABILITY.md; our profile).
use Rattle.std.specs.Prelude.{ℕ, ◌+◌, ◌*◌, ◌%◌, ◌^◌, Bool, true, false, not, ◌&&◌, ◌||◌, nat_le, nat_lt, if◌then◌else◌, List, length}
use Rattle.oc_base.specs.{declared.format.Format.{Format}, Numbers.{number_at}}
use Rattle.oc_linking.specs.{declared.terms.Kind.{Kind}, declared.terms.Kind.TheVariants.{Code, ReadOnly, Data, Zero, Init, Fini, Debug, Exception, Note}}
use Rattle.oc_neutral.specs.{declared.section.Section.{Section}, KindRules.{has, same_kind}}
use Rattle.oc_hints.specs.{declared.key.SectionKey.{SectionKey}, Case.{Case, crosses, is_coff, is_elf, is_mach, is_wide, source_of}}
use Rattle.oc_hints.specs.Names.{has_alignments, has_orders, is_coff_start_up, is_directives, is_elf_start_up, is_mach_start_up}
use Rattle.oc_hints.specs.declared.key.SectionKey.TheVariants as key

-- ... what the format says of a section

-- a part of the program that is no table for unwinding
abbrev pub is_loaded : Kind → Bool
is_loaded Code = true
is_loaded ReadOnly = true
is_loaded Data = true
is_loaded Zero = true
is_loaded Init = true
is_loaded Fini = true
is_loaded Debug = false
is_loaded Exception = false
is_loaded Note = false

-- data with bytes
abbrev pub is_data : Kind → Bool
is_data kind = same_kind kind ReadOnly || same_kind kind Data

-- functions for start-up or shut-down, by the section's name in a format
abbrev pub is_start_up : Format → List ℕ → Bool
is_start_up format name =
    (is_elf format && is_elf_start_up name) || (is_coff format && is_coff_start_up name) || (is_mach format && is_mach_start_up name)

-- a number of a file, or 0 where the file is shorter
abbrev pub number_or_0 : List ℕ → ℕ → ℕ → ℕ
number_or_0 file at width = if nat_le (at + width) (length file) then number_at file at width else 0

-- the flags of a section of ELF by its number, from its section header (gABI, "ELF Header", "Section Header")
abbrev pub elf_flags : Bool → List ℕ → ℕ → ℕ
elf_flags wide file number =
    if wide then number_or_0 file (number_or_0 file 40 8 + 64 * number + 8) 8 else number_or_0 file (number_or_0 file 32 4 + 40 * number + 8) 4

-- a flag of ELF, of which the object knows nothing
abbrev pub has_flag : Case → ℕ → ℕ → Bool
has_flag x number flag = has (elf_flags (is_wide (source_of x)) x.file number) flag

-- code of ELF that may be written: SHF_WRITE in the tag (gABI, "Section Header")
abbrev pub is_elf_writable : ℕ → Bool
is_elf_writable tag = has (tag % 8) 1

-- the same of COFF: IMAGE_SCN_MEM_WRITE (PE/COFF, "Section Flags")
abbrev pub is_coff_writable : ℕ → Bool
is_coff_writable tag = has tag 0x80000000

-- code of a format that may be written
abbrev pub is_writable : Format → ℕ → Bool
is_writable format tag = (is_elf format && is_elf_writable tag) || (is_coff format && is_coff_writable tag)

-- a section of COFF of which no flag says that it may be executed, read or written, the three highest
abbrev pub has_no_rights : ℕ → Bool
has_no_rights tag = nat_lt tag 0x20000000

-- ... the conversion

-- the conversion is one that the key is about
abbrev pub concerns_sections : SectionKey → Case → Bool
concerns_sections key.StartUpLost x = crosses x
concerns_sections key.ShutDownNotRun x = crosses x && is_coff x.to
concerns_sections key.WritableCode x = crosses x
concerns_sections key.NoRights x = crosses x && is_coff (source_of x)
concerns_sections key.CommonAlignments x = crosses x && is_coff (source_of x)
concerns_sections key.DirectivesLost x = crosses x && is_coff (source_of x)
concerns_sections key.KeptSection x = is_elf (source_of x)
concerns_sections key.ExcludedSection x = is_elf (source_of x)

-- ... the section

-- the key is about a section
abbrev pub section_meets : SectionKey → Case → Section → Bool
section_meets key.StartUpLost x s = is_data s.kind && nat_lt 0 s.size && is_start_up (source_of x) s.name
section_meets key.ShutDownNotRun x s = same_kind s.kind Fini
section_meets key.WritableCode x s = same_kind s.kind Code && is_writable (source_of x) s.tag
section_meets key.NoRights x s = is_loaded s.kind && nat_lt 0 s.size && has_no_rights s.tag && not (is_directives s.name)
section_meets key.CommonAlignments x s = is_directives s.name && has_alignments s.bytes
section_meets key.DirectivesLost x s = is_directives s.name && has_orders s.bytes
section_meets key.KeptSection x s = is_loaded s.kind && has_flag x s.number (2 ^ 21)
section_meets key.ExcludedSection x s = is_loaded s.kind && has_flag x s.number (2 ^ 31)

-- the sections that the key is about: those of the file where it is about directives, and else those of the output
abbrev pub sections_for : SectionKey → Case → List Section
sections_for key.StartUpLost x = x.output.sections
sections_for key.ShutDownNotRun x = x.output.sections
sections_for key.WritableCode x = x.output.sections
sections_for key.NoRights x = x.output.sections
sections_for key.CommonAlignments x = x.input.sections
sections_for key.DirectivesLost x = x.input.sections
sections_for key.KeptSection x = x.output.sections
sections_for key.ExcludedSection x = x.output.sections
