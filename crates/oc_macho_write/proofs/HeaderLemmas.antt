-- What headers need of an object that is ready for Mach-O.
use Rattle.std.proofs.Common.{◌≡◌, ℕ, ◌-◌, ◌^◌, ◌<◌, List, length, replicate, Some, ◌∙◌, ap, arith}
use Rattle.std.specs.Prelude.{slice_get, flat_map}
use Rattle.std.proofs.lemmas.List.{length-append}
use Rattle.oc_base.specs.declared.format.Word.{Word}
use Rattle.oc_neutral.specs.{declared.section.Section.{Section}, Mach.Kinds.{segment_of, section_of}, Objects.{Object}}
use Rattle.oc_shelf.specs.Writing.Parts.{aligned}
use Rattle.oc_shelf.proofs.WritingLaws.StandingLemmas.{stands_inside}
use Rattle.oc_macho.specs.{MachHeader.{address_size, cpu_type}, declared.constants.TheConstants.{MH_OBJECT}, declared.mach_header.MachHeader.{MachHeader}}
use Rattle.oc_macho.specs.{declared.section_header.SectionHeader.{SectionHeader}, declared.symtab_command.SymtabCommand.{SymtabCommand}}
use Rattle.oc_macho.specs.{Structures.{magic_of, padded, relocation_bytes}, declared.constants.TheConstants.{COMMAND_COUNT, CPU_SUBTYPE_ALL}}
use Rattle.oc_macho_file.specs.Canonical.{file_header, mach_file, pointer_to, section_header, symtab_command}
use Rattle.oc_macho_file.specs.Layout.{commands_length, is_raw, is_relocs, is_string_table, is_symbol_table, line_names, part_where, relocs_of, string_table, strings_of}
use Rattle.oc_macho_file.specs.{Lines.{lines_of}, Symbols.{exponent_of}, Addresses.{address_of}}
use Rattle.oc_macho_file.proofs.{CodedLaws.{IsForMach}, CountLaws.{few_lines}, FileSize.{small_file}, HeaderFits.{headers_fit, symtab_fits}}
use Rattle.oc_macho_file.proofs.PartLaws.{stands_relocs}
use Rattle.oc_macho_write.proofs.BodyLemmas.{filled_long}

module _ (w : Word) (n : Object) (is : IsForMach w n) where
  -- ... a section

  module _ (k : ℕ) (s : Section) (here : slice_get n.sections k ≡ Some s) where
    pub raw_low : part_where w n (is_raw k) < 2 ^ 32
    unfolding section_header
    raw_low = let fit = (headers_fit w n is (small_file w n is) k s here).1.1.0 in omega (arith, fit)

    pub relocs_low : part_where w n (is_relocs k) < 2 ^ 32
    relocs_low =
        let inside = stands_inside (mach_file w n) (flat_map relocation_bytes (relocs_of w n k)) (part_where w n (is_relocs k)) (stands_relocs w n k s here) in
        let small = small_file w n is in
        omega (arith, inside, small)

    pub count_low : length (relocs_of w n k) < 2 ^ 32
    unfolding section_header
    count_low = let fit = (headers_fit w n is (small_file w n is) k s here).1.1.1.1.1.0 in omega (arith, fit)

  -- ... the symbols and the strings

  pub symbols_low : part_where w n is_symbol_table < 2 ^ 32
  unfolding symtab_command
  symbols_low = let fit = (symtab_fits w n is (small_file w n is) (few_lines w n is)).1.1.0 in omega (arith, fit)

  pub strings_low : part_where w n is_string_table < 2 ^ 32
  unfolding symtab_command
  strings_low = let fit = (symtab_fits w n is (small_file w n is) (few_lines w n is)).1.1.1.1.0 in omega (arith, fit)

  pub table_low : length (string_table w n) < 2 ^ 32
  unfolding symtab_command
  table_low = let fit = (symtab_fits w n is (small_file w n is) (few_lines w n is)).1.1.1.1.1.0 in omega (arith, fit)

  -- the string table has a multiple of an address's bytes
  pub table_long : length (string_table w n) ≡ aligned (address_size w) (length (strings_of (line_names w n)))
  unfolding string_table
  table_long = filled_long (address_size w) (strings_of (line_names w n))

  pub text_low : length (strings_of (line_names w n)) < 2 ^ 32
  unfolding string_table
  text_low =
      let text : List ℕ = strings_of (line_names w n) in
      let all = length-append text (replicate (aligned (address_size w) (length text) - length text) 0) in
      let low = table_low in
      omega (arith, all, low)

-- ... headers, field by field

pub file_header_is : (w : Word) (n : Object) (magic cputype sizeofcmds : ℕ) → magic ≡ magic_of w → cputype ≡ cpu_type w → sizeofcmds ≡ commands_length w n
    → record { magic = magic; cputype = cputype; cpusubtype = CPU_SUBTYPE_ALL; filetype = MH_OBJECT; ncmds = COMMAND_COUNT; sizeofcmds = sizeofcmds; flags = 0 } ≡ file_header w n
unfolding file_header
file_header_is w n magic cputype sizeofcmds a b c =
    let made : ℕ → ℕ → ℕ → MachHeader = λ i j k. record { magic = i; cputype = j; cpusubtype = CPU_SUBTYPE_ALL; filetype = MH_OBJECT; ncmds = COMMAND_COUNT; sizeofcmds = k; flags = 0 } in
    ap (λ i. made i cputype sizeofcmds) a ∙ ap (λ j. made (magic_of w) j sizeofcmds) b ∙ ap (λ k. made (magic_of w) (cpu_type w) k) c

-- the header of a section, by what it is made of
abbrev pub header_by : Section → List ℕ → List ℕ → ℕ → ℕ → ℕ → ℕ → ℕ → ℕ → SectionHeader
header_by s sectname segname addr size offset align reloff nreloc = record {
  sectname = sectname;
  segname = segname;
  addr = addr;
  size = size;
  offset = offset;
  align = align;
  reloff = reloff;
  nreloc = nreloc;
  flags = s.tag;
}

pub section_header_is : (w : Word) (n : Object) (k : ℕ) (s : Section) (sectname segname : List ℕ) (addr size offset align reloff nreloc : ℕ)
    → sectname ≡ padded (section_of s.name) → segname ≡ padded (segment_of s.name) → addr ≡ address_of n k → size ≡ s.size → offset ≡ part_where w n (is_raw k) → align ≡ exponent_of s.align
    → reloff ≡ pointer_to (part_where w n (is_relocs k)) (length (relocs_of w n k)) → nreloc ≡ length (relocs_of w n k)
    → header_by s sectname segname addr size offset align reloff nreloc ≡ section_header w n (k, s)
unfolding section_header
section_header_is w n k s sectname segname addr size offset align reloff nreloc a b c d e f g h =
    let sect : List ℕ = padded (section_of s.name) in
    let segment : List ℕ = padded (segment_of s.name) in
    let at : ℕ = address_of n k in
    let raw : ℕ = part_where w n (is_raw k) in
    let exponent : ℕ = exponent_of s.align in
    let table : ℕ = pointer_to (part_where w n (is_relocs k)) (length (relocs_of w n k)) in
    ap (λ x. header_by s x segname addr size offset align reloff nreloc) a
    ∙ ap (λ x. header_by s sect x addr size offset align reloff nreloc) b
    ∙ ap (λ x. header_by s sect segment x size offset align reloff nreloc) c
    ∙ ap (λ x. header_by s sect segment at x offset align reloff nreloc) d
    ∙ ap (λ x. header_by s sect segment at s.size x align reloff nreloc) e
    ∙ ap (λ x. header_by s sect segment at s.size raw x reloff nreloc) f
    ∙ ap (λ x. header_by s sect segment at s.size raw exponent x nreloc) g
    ∙ ap (λ x. header_by s sect segment at s.size raw exponent table x) h

pub symtab_is : (w : Word) (n : Object) (symoff nsyms stroff strsize : ℕ) → symoff ≡ part_where w n is_symbol_table → nsyms ≡ length (lines_of w n)
    → stroff ≡ part_where w n is_string_table → strsize ≡ length (string_table w n) → record { symoff = symoff; nsyms = nsyms; stroff = stroff; strsize = strsize } ≡ symtab_command w n
unfolding symtab_command
symtab_is w n symoff nsyms stroff strsize a b c d =
    let made : ℕ → ℕ → ℕ → ℕ → SymtabCommand = λ i j k l. record { symoff = i; nsyms = j; stroff = k; strsize = l } in
    ap (λ i. made i nsyms stroff strsize) a ∙ ap (λ j. made (part_where w n is_symbol_table) j stroff strsize) b
    ∙ ap (λ k. made (part_where w n is_symbol_table) (length (lines_of w n)) k strsize) c
    ∙ ap (λ l. made (part_where w n is_symbol_table) (length (lines_of w n)) (part_where w n is_string_table) l) d
