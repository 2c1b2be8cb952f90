-- What a file header and the load commands must meet (Mach-O reference, "mach_header" and "load_command"; our profile).
use Rattle.std.specs.Prelude.{ℕ, ◌+◌, ◌*◌, ◌%◌, Bool, not, ◌||◌, nat_eq, nat_lt, if◌then◌else◌, List, [], ◌∷◌, ◌++◌, length, Option, Some, None, true}
use Rattle.std.specs.Option.{option_map_or}
use Rattle.oc_base.specs.{declared.format.Word.{Word}, declared.code.Code.{Code}, declared.code.Code.TheVariants.{Short, NotRelocatable, BadHeader}}
use Rattle.oc_base.specs.{declared.fault.Phase.TheVariants.{Header}, declared.fault.Fault.{Fault}}
use Rattle.oc_linking.specs.FirstFault.{Condition, Stage}
use Rattle.oc_shelf.specs.{Reading.Firsts.{any_upto}, Reading.Sums.{sum_upto}}
use Rattle.oc_macho.specs.declared.constants.TheConstants.{MH_OBJECT, LC_SYMTAB, LC_DYSYMTAB}
use Rattle.oc_macho.specs.declared.load_command.TheConstants.{LOAD_COMMAND_SIZE, DYSYMTAB_COMMAND_SIZE}
use Rattle.oc_macho.specs.{declared.symtab_command.TheConstants.{SYMTAB_COMMAND_SIZE}, declared.symtab_command.SymtabCommand.{SymtabCommand}}
use Rattle.oc_macho.specs.{MachHeader.{mach_header_of, mach_header_size, cpu_type}, LoadCommand.{load_command_at}}
use Rattle.oc_macho.specs.{SegmentCommand.{segment_number, foreign_number, segment_command_size, segment_command_at}, SectionHeader.{section_header_size}}
use Rattle.oc_macho.specs.{Nlist.{nlist_size}, Tables.{command_count, command_place, is_command, symtab_of}}

-- a fault of the header, or of what it places
abbrev pub header_fault : ℕ → Code → Fault
header_fault place code = record { phase = Header; index = 0; code = code; place = place }

-- a range passes the end of a file of that size
abbrev pub passes_end : ℕ → ℕ → ℕ → Bool
passes_end size at n = nat_lt size (at + n)

-- where the load commands end
abbrev pub commands_end : Word → List ℕ → ℕ
commands_end w file = mach_header_size w + (mach_header_of file).sizeofcmds

-- ... load commands

-- the command at a place does not lie before the end of the commands, or its size is below 8 or no multiple of 4
abbrev pub is_misplaced : Word → List ℕ → ℕ → Bool
is_misplaced w file at =
    passes_end (commands_end w file) at LOAD_COMMAND_SIZE || nat_lt (load_command_at file at).cmdsize LOAD_COMMAND_SIZE
    || not (nat_eq ((load_command_at file at).cmdsize % 4) 0) || passes_end (commands_end w file) at (load_command_at file at).cmdsize

-- the size of the segment at a place, with its section headers
abbrev pub whole_segment : Word → List ℕ → ℕ → ℕ
whole_segment w file at = segment_command_size w + section_header_size w * (segment_command_at w file at).nsects

-- how many bytes a command of that number has at least, at a place; none where no file of this word has it
unfoldable pub least_size : Word → List ℕ → ℕ → ℕ → Option ℕ
least_size w file at cmd =
    if nat_eq cmd (foreign_number w) then None
    else (if nat_eq cmd (segment_number w) then Some (whole_segment w file at)
    else (if nat_eq cmd LC_SYMTAB then Some SYMTAB_COMMAND_SIZE
    else (if nat_eq cmd LC_DYSYMTAB then Some DYSYMTAB_COMMAND_SIZE else Some LOAD_COMMAND_SIZE)))

-- the command at a place is too short for what it holds, or is a segment of the other word
abbrev pub is_short : Word → List ℕ → ℕ → Bool
is_short w file at = option_map_or (nat_lt (load_command_at file at).cmdsize) (least_size w file at (load_command_at file at).cmd) true

-- the command at a place breaks a rule
unfoldable pub is_bad : Word → List ℕ → ℕ → Bool
is_bad w file at = is_misplaced w file at || is_short w file at

-- one of the first n commands does
abbrev pub any_bad : Word → List ℕ → ℕ → Bool
any_bad w file n = any_upto (λ i. is_bad w file (command_place w file i)) n

-- how many of the first n commands are of a kind
abbrev pub count_upto : Word → List ℕ → ℕ → ℕ → ℕ
count_upto w file cmd n = sum_upto (λ i. if is_command w file cmd i then 1 else 0) n

-- there are more commands than have room, or one of them breaks a rule, or not just one places symbols and strings
abbrev pub has_bad_commands : Word → List ℕ → Bool
has_bad_commands w file =
    nat_lt (mach_header_of file).sizeofcmds (LOAD_COMMAND_SIZE * command_count file) || any_bad w file (command_count file)
    || not (nat_eq (count_upto w file LC_SYMTAB (command_count file)) 1)

-- ... the file

-- it is for another processor, or no object
abbrev pub is_no_object : Word → List ℕ → Bool
is_no_object w file = not (nat_eq (mach_header_of file).cputype (cpu_type w)) || not (nat_eq (mach_header_of file).filetype MH_OBJECT)

-- the conditions on symbols and strings that are present
abbrev pub symtab_conditions : Word → ℕ → SymtabCommand → List Condition
symtab_conditions w size c =
    (passes_end size c.symoff (nlist_size w * c.nsyms), header_fault c.symoff Short)
    ∷ (passes_end size c.stroff c.strsize, header_fault c.stroff Short)
    ∷ []

-- the conditions on the header and the commands
abbrev pub command_conditions : Word → List ℕ → List Condition
command_conditions w file =
    (passes_end (length file) 0 (mach_header_size w), header_fault 0 Short)
    ∷ (is_no_object w file, header_fault 0 NotRelocatable)
    ∷ (passes_end (length file) (mach_header_size w) (mach_header_of file).sizeofcmds, header_fault (mach_header_size w) Short)
    ∷ (has_bad_commands w file, header_fault 0 BadHeader)
    ∷ (nat_lt 1 (count_upto w file (segment_number w) (command_count file)), header_fault 0 NotRelocatable)
    ∷ []

-- the conditions on a file
unfoldable pub header_conditions : Word → List ℕ → List Condition
header_conditions w file = command_conditions w file ++ option_map_or (symtab_conditions w (length file)) (symtab_of w file) []

-- the stage of the header
abbrev pub header_stage : Word → List ℕ → Stage
header_stage w file = record { count = 1; conditions = λ i. header_conditions w file }
