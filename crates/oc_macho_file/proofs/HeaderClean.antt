-- The header and the load commands of a canonical file are well formed.
use Rattle.std.proofs.Common.{◌≡◌, ℕ, ◌+◌, ◌*◌, ◌%◌, ◌≤◌, true, false, not, ◌||◌, cond, List, [], length, Some, refl, sym, ◌∙◌, ap, subst, arith}
use Rattle.std.specs.{Prelude.{nat_lt, nat_eq, flat_map}, Option.{option_map_or}}
use Rattle.std.proofs.lemmas.Bool.Decides.{nat_tests}
use Rattle.oc_base.specs.declared.format.Word.{Word}
use Rattle.oc_base.proofs.NumberLaws.{length-table}
use Rattle.oc_neutral.specs.Objects.{Object}
use Rattle.oc_shelf.specs.Writing.Packed.{packed}
use Rattle.oc_shelf.proofs.{ReadingLaws.StageLemmas.{Unbroken, IsUnbroken, unbroken_append}, WritingLaws.StandingLemmas.{stands_inside}}
use Rattle.oc_macho.specs.{declared.constants.TheConstants.{LC_SYMTAB, LC_DYSYMTAB}, declared.load_command.LoadCommand.{LoadCommand}}
use Rattle.oc_macho.specs.{declared.mach_header.MachHeader.{MachHeader}, MachHeader.{mach_header_size, mach_header_of, cpu_type}, LoadCommand.{load_command_at}}
use Rattle.oc_macho.specs.{SegmentCommand.{segment_number, segment_command_size}, SectionHeader.{section_header_size}, Nlist.{nlist_size}}
use Rattle.oc_macho.specs.Tables.{command_count, command_place, symtab_of}
use Rattle.oc_macho.specs.HeaderFaults.{commands_end, is_misplaced, whole_segment, least_size, is_short, is_bad, any_bad, count_upto, has_bad_commands, is_no_object, symtab_conditions, command_conditions, header_conditions, header_stage}
use Rattle.oc_macho.specs.Structures.{mach_header_bytes, nlist_bytes}
use Rattle.oc_macho_file.specs.{Lines.{lines_of}, Layout.{segment_length, string_table, part_where, is_symbol_table, is_string_table}, Symbols.{line_entry}}
use Rattle.oc_macho_file.specs.Canonical.{file_header, symtab_command, dysymtab_numbers, mach_file}
use Rattle.oc_macho_file.proofs.StructureLaws.{length-mach_header_bytes, length-nlist_bytes}
use Rattle.oc_macho_file.proofs.PartLaws.{symtab_at, dysymtab_size, stands_file_header, stands_dysymtab, stands_symbols, stands_strings}
use Rattle.oc_macho_file.proofs.TableLaws.{IsCodable, segment_is, symtab_is, dysymtab_is, header_read, count_read, second_place, third_place, symtab_read, dysymtab_read, first_is, second_is, third_is, symtab_command_read, nsects_read}

-- a range that lies in the file
pub within_file : (size end : ℕ) → end ≤ size → nat_lt size end ≡ false
within_file size end l = grind (arith, nat_tests, l)

-- the least size of each command that is written
least_segment : (w : Word) (file : List ℕ) (at : ℕ) → least_size w file at (segment_number w) ≡ Some (whole_segment w file at)
unfolding least_size
least_segment w file at = grind arith

least_symtab : (w : Word) (file : List ℕ) (at : ℕ) → least_size w file at LC_SYMTAB ≡ Some 24
unfolding least_size
least_symtab w file at = grind arith

least_dysymtab : (w : Word) (file : List ℕ) (at : ℕ) → least_size w file at LC_DYSYMTAB ≡ Some 80
unfolding least_size
least_dysymtab w file at = grind arith

module _ (w : Word) (n : Object) (fits : IsCodable w n) where
  abbrev file : List ℕ
  file = mach_file w n

  abbrev L : ℕ
  L = segment_length w n

  abbrev H : ℕ
  H = mach_header_size w

  sizes_read : (mach_header_of file).sizeofcmds ≡ L + 24 + 80
  unfolding file_header
  sizes_read = ap (λ (h : MachHeader). h.sizeofcmds) (header_read w n fits)

  end_is : commands_end w file ≡ H + (L + 24 + 80)
  end_is = ap (λ m. H + m) sizes_read

  header_inside : H ≤ length file
  header_inside =
      let inside = stands_inside file (mach_header_bytes w (file_header w n)) 0 (stands_file_header w n) in
      let size = length-mach_header_bytes w (file_header w n) in
      omega (arith, inside, size)

  commands_inside : H + (L + 24 + 80) ≤ length file
  commands_inside =
      let inside = stands_inside file (packed (dysymtab_numbers w n)) (symtab_at w n + 24) (stands_dysymtab w n) in
      let size = dysymtab_size w n in
      by H (segment_command_size w + section_header_size w * length n.sections) inside size
    where
      by : (a b : ℕ) → a + b + 24 + length (packed (dysymtab_numbers w n)) ≤ length file → length (packed (dysymtab_numbers w n)) ≡ 80 → a + (b + 24 + 80) ≤ length file
      by a b inside size = omega (arith, inside, size)

  -- ... one command

  four : (at : ℕ) (c : LoadCommand) → at + 8 ≤ H + (L + 24 + 80) → 8 ≤ c.cmdsize → c.cmdsize % 4 ≡ 0 → at + c.cmdsize ≤ H + (L + 24 + 80) → load_command_at file at ≡ c → is_misplaced w file at ≡ false
  four at c room big even inside is =
      ap (λ (d : LoadCommand). nat_lt (commands_end w file) (at + 8) || nat_lt d.cmdsize 8 || not (nat_eq (d.cmdsize % 4) 0) || nat_lt (commands_end w file) (at + d.cmdsize)) is
      ∙ ap (λ e. nat_lt e (at + 8) || nat_lt c.cmdsize 8 || not (nat_eq (c.cmdsize % 4) 0) || nat_lt e (at + c.cmdsize)) end_is
      ∙ ap (λ b. b || nat_lt c.cmdsize 8 || not (nat_eq (c.cmdsize % 4) 0) || nat_lt (H + (L + 24 + 80)) (at + c.cmdsize)) (within_file (H + (L + 24 + 80)) (at + 8) room)
      ∙ ap (λ b. b || not (nat_eq (c.cmdsize % 4) 0) || nat_lt (H + (L + 24 + 80)) (at + c.cmdsize)) (within_file c.cmdsize 8 big)
      ∙ ap (λ r. not (nat_eq r 0) || nat_lt (H + (L + 24 + 80)) (at + c.cmdsize)) even
      ∙ within_file (H + (L + 24 + 80)) (at + c.cmdsize) inside

  bad_by : (at : ℕ) → is_misplaced w file at ≡ false → is_short w file at ≡ false → is_bad w file at ≡ false
  unfolding is_bad
  bad_by at a b = ap (λ x. x || is_short w file at) a ∙ b

  segment_even : (w : Word) (k : ℕ) → (segment_command_size w + section_header_size w * k) % 4 ≡ 0
  segment_even w k = grind arith

  segment_big : (w : Word) (k : ℕ) → 8 ≤ segment_command_size w + section_header_size w * k
  segment_big w k = grind arith

  first_good : is_bad w file (command_place w file 0) ≡ false
  first_good =
      let big = segment_big w (length n.sections) in
      bad_by H (four H (segment_is w n) (omega (arith, big)) big (segment_even w (length n.sections)) (omega arith) (first_is w n fits))
      (ap (λ (c : LoadCommand). option_map_or (nat_lt c.cmdsize) (least_size w file H c.cmd) true) (first_is w n fits) ∙ ap (λ o. option_map_or (nat_lt L) o true) (least_segment w file H) ∙ ap (λ m. nat_lt L (segment_command_size w + section_header_size w * m)) (nsects_read w n fits) ∙ within_file L L (omega arith))

  second_good : is_bad w file (command_place w file 1) ≡ false
  second_good =
      ap (is_bad w file) (second_place w n fits)
      ∙ bad_by (symtab_at w n) (four (symtab_at w n) symtab_is (omega arith) (omega arith) refl (omega arith) (symtab_read w n fits))
      (ap (λ (c : LoadCommand). option_map_or (nat_lt c.cmdsize) (least_size w file (symtab_at w n) c.cmd) true) (symtab_read w n fits) ∙ ap (λ o. option_map_or (nat_lt 24) o true) (least_symtab w file (symtab_at w n)))

  third_good : is_bad w file (command_place w file 2) ≡ false
  third_good =
      ap (is_bad w file) (third_place w n fits)
      ∙ bad_by (symtab_at w n + 24) (four (symtab_at w n + 24) dysymtab_is (omega arith) (omega arith) refl (omega arith) (dysymtab_read w n fits))
      (ap (λ (c : LoadCommand). option_map_or (nat_lt c.cmdsize) (least_size w file (symtab_at w n + 24) c.cmd) true) (dysymtab_read w n fits) ∙ ap (λ o. option_map_or (nat_lt 80) o true) (least_dysymtab w file (symtab_at w n + 24)))

  none_bad : any_bad w file (command_count file) ≡ false
  none_bad =
      ap (any_bad w file) (count_read w n fits)
      ∙ ap (λ b. false || b || is_bad w file (command_place w file 1) || is_bad w file (command_place w file 2)) first_good
      ∙ ap (λ b. b || is_bad w file (command_place w file 2)) second_good
      ∙ third_good

  -- ... the kinds of the commands

  abbrev count_by : ℕ → LoadCommand → LoadCommand → LoadCommand → ℕ
  count_by cmd a b c = 0 + cond (nat_eq a.cmd cmd) 1 0 + cond (nat_eq b.cmd cmd) 1 0 + cond (nat_eq c.cmd cmd) 1 0

  counted : (cmd : ℕ) → count_upto w file cmd (command_count file) ≡ count_by cmd (segment_is w n) symtab_is dysymtab_is
  counted cmd =
      ap (count_upto w file cmd) (count_read w n fits)
      ∙ ap (λ a. count_by cmd a (load_command_at file (command_place w file 1)) (load_command_at file (command_place w file 2))) (first_is w n fits)
      ∙ ap (λ b. count_by cmd (segment_is w n) b (load_command_at file (command_place w file 2))) (second_is w n fits)
      ∙ ap (count_by cmd (segment_is w n) symtab_is) (third_is w n fits)

  one_table : count_upto w file LC_SYMTAB (command_count file) ≡ 1
  one_table = counted LC_SYMTAB ∙ by w
    where
      by : (v : Word) → 0 + cond (nat_eq (segment_number v) 2) 1 0 + cond (nat_eq 2 2) 1 0 + cond (nat_eq 11 2) 1 0 ≡ 1
      by v = grind arith

  one_segment : count_upto w file (segment_number w) (command_count file) ≡ 1
  one_segment = counted (segment_number w) ∙ by w
    where
      by : (v : Word) → 0 + cond (nat_eq (segment_number v) (segment_number v)) 1 0 + cond (nat_eq 2 (segment_number v)) 1 0 + cond (nat_eq 11 (segment_number v)) 1 0 ≡ 1
      by v = grind arith

  good_commands : has_bad_commands w file ≡ false
  good_commands =
      ap (λ m. nat_lt m (8 * command_count file) || any_bad w file (command_count file) || not (nat_eq (count_upto w file LC_SYMTAB (command_count file)) 1)) sizes_read
      ∙ ap (λ c. nat_lt (L + 24 + 80) (8 * c) || any_bad w file (command_count file) || not (nat_eq (count_upto w file LC_SYMTAB (command_count file)) 1)) (count_read w n fits)
      ∙ ap (λ b. b || any_bad w file (command_count file) || not (nat_eq (count_upto w file LC_SYMTAB (command_count file)) 1)) (within_file (L + 24 + 80) 24 (omega arith))
      ∙ ap (λ b. b || not (nat_eq (count_upto w file LC_SYMTAB (command_count file)) 1)) none_bad
      ∙ ap (λ m. not (nat_eq m 1)) one_table

  an_object : is_no_object w file ≡ false
  unfolding file_header
  an_object = ap (λ (h : MachHeader). not (nat_eq h.cputype (cpu_type w)) || not (nat_eq h.filetype 1)) (header_read w n fits) ∙ by w
    where
      by : (v : Word) → (not (nat_eq (cpu_type v) (cpu_type v)) || not (nat_eq 1 1)) ≡ false
      by v = grind arith

  symbols_inside : part_where w n is_symbol_table + nlist_size w * length (lines_of w n) ≤ length file
  symbols_inside =
      let inside = stands_inside file (flat_map (λ line. nlist_bytes w (line_entry w n line)) (lines_of w n)) (part_where w n is_symbol_table) (stands_symbols w n) in
      let size = length-table (λ line. nlist_bytes w (line_entry w n line)) (nlist_size w) (lines_of w n) (λ line. length-nlist_bytes w (line_entry w n line)) in
      by (part_where w n is_symbol_table) (length (flat_map (λ line. nlist_bytes w (line_entry w n line)) (lines_of w n))) (nlist_size w * length (lines_of w n)) inside size
    where
      by : (at a b : ℕ) → at + a ≤ length file → a ≡ b → at + b ≤ length file
      by at a b inside size = omega (arith, inside, size)

  strings_inside : part_where w n is_string_table + length (string_table w n) ≤ length file
  strings_inside = stands_inside file (string_table w n) (part_where w n is_string_table) (stands_strings w n)

  table_clean : Unbroken (symtab_conditions w (length file) (symtab_command w n))
  unfolding symtab_command
  table_clean = (
    within_file (length file) (part_where w n is_symbol_table + nlist_size w * length (lines_of w n)) symbols_inside,
    (within_file (length file) (part_where w n is_string_table + length (string_table w n)) strings_inside, tt),
  )

  pub header_clean : IsUnbroken (header_stage w file)
  unfolding header_conditions
  header_clean i l =
      let inside = header_inside in
      unbroken_append (command_conditions w file) (option_map_or (symtab_conditions w (length file)) (symtab_of w file) []) (
        within_file (length file) (0 + H) (omega (arith, inside)),
        (
          an_object,
          (
            ap (λ m. nat_lt (length file) (H + m)) sizes_read ∙ within_file (length file) (H + (L + 24 + 80)) commands_inside,
            (
              good_commands,
              (ap (nat_lt 1) one_segment, tt),
            ),
          ),
        ),
      )
      (subst (λ o. Unbroken (option_map_or (symtab_conditions w (length file)) o [])) (sym (symtab_command_read w n fits)) table_clean)
