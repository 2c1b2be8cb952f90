-- What a file has whose header and commands have no fault.
use Rattle.std.proofs.Common.{◌≡◌, ℕ, zero, suc, ◌+◌, ◌*◌, ◌<◌, ◌≤◌, Bool, true, false, cond, List, [], length, map, take, drop, Option, None, Some, refl, sym, ◌∙◌, ap, subst, arith}
use Rattle.std.specs.{Prelude.{◌||◌, nat_lt}, Option.{option_map, option_map_or}}
use Rattle.std.proofs.lemmas.{Bool.{eqb-true, or_parts, not-false}, Bool.Decides.{nat_tests}, Option.{none-some, same_Some}}
use Rattle.oc_base.specs.{declared.format.Word.{Word}, declared.format.Word.TheVariants.{W32, W64}}
use Rattle.oc_linking.specs.{Numbers.{or_else}, FirstFault.{first_broken, stage_fault}}
use Rattle.oc_linking.proofs.{FirstFaultLaws.{first_upto_none}, Upto.{first_upto_from}}
use Rattle.oc_shelf.specs.Reading.Rows.{rows}
use Rattle.oc_shelf.proofs.{ReadingLaws.FirstsLemmas.{any_false}, ReadingLaws.StageLemmas.{all_hold, first_broken-append}}
use Rattle.oc_macho.specs.{declared.constants.TheConstants.{LC_SYMTAB}, declared.symtab_command.SymtabCommand.{SymtabCommand}, LoadCommand.{load_command_at}}
use Rattle.oc_macho.specs.{MachHeader.{mach_header_of}, SegmentCommand.{segment_command_at, segment_number}}
use Rattle.oc_macho.specs.{SectionHeader.{section_header_at, section_header_size}, Nlist.{nlist_size}, SymtabCommand.{symtab_command_at}}
use Rattle.oc_macho.specs.Tables.{command_count, command_place, first_command, headers_place, is_command, section_table, sections_by, segment_place, symtab_of, symtab_place, tables_of}
use Rattle.oc_macho.specs.HeaderFaults.{any_bad, command_conditions, commands_end, count_upto, header_conditions, header_stage, is_bad, is_misplaced, is_short, least_size, passes_end, symtab_conditions, whole_segment}
use Rattle.oc_macho.specs.Framed.{EndsTexts, IsFrame}

-- ... the stage

-- the fault of the header is one of the commands, or of what they place
pub header_broken : (w : Word) (file : List ℕ) → stage_fault (header_stage w file)
    ≡ or_else (first_broken (command_conditions w file)) (first_broken (option_map_or (symtab_conditions w (length file)) (symtab_of w file) []))
unfolding header_conditions
header_broken w file = first_broken-append (command_conditions w file) (option_map_or (symtab_conditions w (length file)) (symtab_of w file) [])

-- ... commands

-- the commands break no rule, lie in the file, and one of them places symbols and strings
pub record AreGood (w : Word) (file : List ℕ) : Type 0 where
  pub good : any_bad w file (command_count file) ≡ false
  pub lie : commands_end w file ≤ length file
  pub one : count_upto w file LC_SYMTAB (command_count file) ≡ 1

pub are_good : (w : Word) (file : List ℕ) → first_broken (command_conditions w file) ≡ None → AreGood w file
are_good w file clean =
    let holds = all_hold (command_conditions w file) clean in
    let bad = or_parts (nat_lt (mach_header_of file).sizeofcmds (8 * command_count file) || any_bad w file (command_count file)) _ holds.1.1.1.0 in
    record {
      good = (or_parts (nat_lt (mach_header_of file).sizeofcmds (8 * command_count file)) _ bad.0).1;
      lie = within (length file) (commands_end w file) holds.1.1.0;
      one = eqb-true (count_upto w file LC_SYMTAB (command_count file)) 1 (not-false _ bad.1);
    }
  where
    within : (a b : ℕ) → nat_lt a b ≡ false → b ≤ a
    within a b e = grind (arith, nat_tests)

-- a command that is found is of its kind, and breaks no rule
record IsFirst (w : Word) (file : List ℕ) (cmd at : ℕ) : Type 0 where
  kind : (load_command_at file at).cmd ≡ cmd
  good : is_bad w file at ≡ false

found_first : (w : Word) (file : List ℕ) (cmd n at : ℕ) → any_bad w file n ≡ false → first_command w file cmd n ≡ Some at → IsFirst w file cmd at
found_first w file cmd n at good e =
    let m = first_upto_from (λ i. cond (is_command w file cmd i) (Some (command_place w file i)) None) n at e in
    by m.0 m.1 (is_command w file cmd m.0) refl m.2
  where
    by : (i : ℕ) → i < n → (b : Bool) → is_command w file cmd i ≡ b → cond b (Some (command_place w file i)) None ≡ Some at → IsFirst w file cmd at
    by i low true is same =
        subst (IsFirst w file cmd) (same_Some (command_place w file i) at same)
        (record { kind = eqb-true (load_command_at file (command_place w file i)).cmd cmd is; good = any_false (λ j. is_bad w file (command_place w file j)) n i good low })
    by i low false is same = absurd (none-some at same)

-- a command that breaks no rule lies in the file, and has room for what it holds
room : (w : Word) (file : List ℕ) (at least : ℕ) → AreGood w file → is_bad w file at ≡ false → least_size w file at (load_command_at file at).cmd ≡ Some least → at + least ≤ length file
unfolding is_bad
room w file at least are good size =
    let parts = or_parts (is_misplaced w file at) (is_short w file at) good in
    let inside = (or_parts _ (passes_end (commands_end w file) at (load_command_at file at).cmdsize) parts.0).1 in
    let long : nat_lt (load_command_at file at).cmdsize least ≡ false = sym (ap (λ (o : Option ℕ). option_map_or (nat_lt (load_command_at file at).cmdsize) o true) size) ∙ parts.1 in
    let lie = are.lie in
    fits (commands_end w file) (length file) at (load_command_at file at).cmdsize least inside long lie
  where
    fits : (end size at cmdsize least : ℕ) → nat_lt end (at + cmdsize) ≡ false → nat_lt cmdsize least ≡ false → end ≤ size → at + least ≤ size
    fits end size at cmdsize least inside long lie = grind (arith, nat_tests)

symtab_least : (w : Word) (file : List ℕ) (at : ℕ) → least_size w file at LC_SYMTAB ≡ Some 24
unfolding least_size
symtab_least W32 file at = refl
symtab_least W64 file at = refl

segment_least : (w : Word) (file : List ℕ) (at : ℕ) → least_size w file at (segment_number w) ≡ Some (whole_segment w file at)
unfolding least_size
segment_least W32 file at = refl
segment_least W64 file at = refl

-- the command that places symbols and strings lies in the file
pub symtab_lies : (w : Word) (file : List ℕ) (at : ℕ) → first_broken (command_conditions w file) ≡ None → symtab_place w file ≡ Some at → at + 24 ≤ length file
symtab_lies w file at clean e =
    let are = are_good w file clean in
    let first = found_first w file LC_SYMTAB (command_count file) at are.good e in
    room w file at 24 are first.good (ap (least_size w file at) first.kind ∙ symtab_least w file at)

-- and so does the segment, with its section headers
pub segment_lies : (w : Word) (file : List ℕ) (at : ℕ) → first_broken (command_conditions w file) ≡ None → segment_place w file ≡ Some at → at + whole_segment w file at ≤ length file
segment_lies w file at clean e =
    let are = are_good w file clean in
    let first = found_first w file (segment_number w) (command_count file) at are.good e in
    room w file at (whole_segment w file at) are first.good (ap (least_size w file at) first.kind ∙ segment_least w file at)

-- there is a command that places symbols and strings
none_counted : (w : Word) (file : List ℕ) (cmd n : ℕ) → first_command w file cmd n ≡ None → count_upto w file cmd n ≡ 0
none_counted w file cmd zero none = refl
none_counted w file cmd (suc n) none =
    let rest = none_counted w file cmd n (before (first_command w file cmd n) _ none) in
    by (is_command w file cmd n) refl rest
  where
    before : (a b : Option ℕ) → or_else a b ≡ None → a ≡ None
    before None b e = refl
    before (Some x) b e = e

    by : (b : Bool) → is_command w file cmd n ≡ b → count_upto w file cmd n ≡ 0 → count_upto w file cmd n + cond (is_command w file cmd n) 1 0 ≡ 0
    by true is rest =
        let item = first_upto_none (λ i. cond (is_command w file cmd i) (Some (command_place w file i)) None) (suc n) none n (omega arith) in
        absurd (none-some (command_place w file n) (sym item ∙ ap (λ (b : Bool). cond b (Some (command_place w file n)) None) is))
    by false is rest = rw (rest, is) refl

pub symtab_there : (w : Word) (file : List ℕ) → first_broken (command_conditions w file) ≡ None → symtab_of w file ≡ None → ⊥
symtab_there w file clean none =
    let are = are_good w file clean in
    let zero_is = none_counted w file LC_SYMTAB (command_count file) (unmapped (symtab_place w file) none) in
    let one = are.one in
    omega (arith, zero_is, one)
  where
    unmapped : (o : Option ℕ) → option_map (symtab_command_at file) o ≡ None → o ≡ None
    unmapped None e = refl
    unmapped (Some x) e = absurd (none-some (symtab_command_at file x) (sym e))

-- ... the frame

within : (a b : ℕ) → nat_lt a b ≡ false → b ≤ a
within a b e = grind (arith, nat_tests)

-- what the reader holds of the sections, by where the segment is
headers_lie : (w : Word) (file : List ℕ) → first_broken (command_conditions w file) ≡ None → (o : Option ℕ) → segment_place w file ≡ o
    → option_map_or (headers_place w) o 0 + section_header_size w * option_map_or (λ at. (segment_command_at w file at).nsects) o 0 ≤ length file
headers_lie w file clean None is = let none : section_header_size w * 0 ≡ 0 = grind arith in omega (arith, none)
headers_lie w file clean (Some at) is = let lies = segment_lies w file at clean is in omega (arith, lies)

sections_are : (w : Word) (file : List ℕ) (o : Option ℕ) → option_map_or (sections_by w file) o []
    ≡ map (section_table file) (rows (section_header_at w) (section_header_size w) file (option_map_or (headers_place w) o 0) (option_map_or (λ at. (segment_command_at w file at).nsects) o 0))
sections_are w file None = refl
sections_are w file (Some at) = refl

pub framed : (w : Word) (file : List ℕ) (headers_at nsects : ℕ) (c : SymtabCommand) (strings : List ℕ) (text_end : ℕ) → length file ≤ 67108864 → first_broken (command_conditions w file) ≡ None
    → headers_at ≡ option_map_or (headers_place w) (segment_place w file) 0 → nsects ≡ option_map_or (λ at. (segment_command_at w file at).nsects) (segment_place w file) 0
    → symtab_of w file ≡ Some c → first_broken (symtab_conditions w (length file) c) ≡ None → strings ≡ take c.strsize (drop c.stroff file) → EndsTexts strings text_end
    → IsFrame w file headers_at nsects c.symoff c.nsyms strings text_end
unfolding tables_of
framed w file headers_at nsects c strings text_end small clean at count symtab symbols are texts =
    let holds = all_hold (symtab_conditions w (length file) c) symbols in
    record {
      small = small;
      headers_lie = rw (at, count) (headers_lie w file clean (segment_place w file) refl);
      symbols_lie = within (length file) (c.symoff + nlist_size w * c.nsyms) holds.0;
      headers_are_at = sym at;
      sections_are = rw (at, count) (sections_are w file (segment_place w file));
      symbols_are_at = rw symtab refl;
      symbols_are = rw symtab refl;
      strings_are = rw symtab (sym are);
      texts_end = texts;
    }

-- the strings lie in the file
pub strings_lie : (w : Word) (file : List ℕ) (c : SymtabCommand) → first_broken (symtab_conditions w (length file) c) ≡ None → c.stroff + c.strsize ≤ length file
strings_lie w file c symbols = within (length file) (c.stroff + c.strsize) (all_hold (symtab_conditions w (length file) c) symbols).1.0
