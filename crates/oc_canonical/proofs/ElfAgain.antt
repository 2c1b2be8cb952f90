-- The canonical ELF file of what is seen of an object is that of the object.
use Rattle.std.proofs.Common.{◌≡◌, ℕ, ◌*◌, Bool, true, false, cond, not, eqb, ◌&&◌, List, [], ◌∷◌, ◌++◌, length, map, Option, Some, None, refl, sym, ◌∙◌, ap, append-nil, arith}
use mathlib.Core.Path.{fun_ext}
use Rattle.std.specs.{Prelude.{slice_get, filter, filter_map, flat_map, replicate, bytes_eq}, List.{enumerate_from}}
use Rattle.std.specs.{Option.{option_map, option_map_or, option_and_then}, Cmp.{first_so}}
use Rattle.std.proofs.lemmas.{Bool.{true≢false, not_from_false}, List.{length-map}}
use Rattle.oc_base.specs.{declared.format.Word.TheVariants.{W32, W64}, declared.format.Format.TheVariants.{Elf32}, declared.format.Word.{Word}}
use Rattle.oc_linking.specs.{declared.terms.Mark.{Mark}, declared.terms.Value.{Value}, declared.terms.Fallback.{Fallback}, declared.terms.Binding.{Binding}}
use Rattle.oc_linking.specs.{declared.terms.Binding.TheVariants.{Weak}, declared.terms.Patch.{Patch}, Images.{overlay}, Parts.{is_local}}
use Rattle.oc_linking.specs.declared.terms.Value.TheVariants as value
use Rattle.oc_linking.specs.declared.terms.Fallback.TheVariants as fallback
use Rattle.oc_algebra.specs.{Fields.{to_field_of}, Residues.{residue_of}}
use Rattle.oc_chains.specs.declared.field.Field as chains
use Rattle.oc_chains.specs.Lists.{list_of}
use Rattle.oc_neutral.specs.{declared.group.Group.{Group}, declared.section.Section.{Section}, declared.symbol.Symbol.{Symbol}, declared.reloc.Reloc.{Reloc}}
use Rattle.oc_neutral.specs.{declared.reloc.Target.{Target}, Objects.{Object, reloc_at}, Families.{is_many}, KeySymbols.{global_place}, Normal.{Place}}
use Rattle.oc_neutral.specs.{Rows.{Row, shift_of}, Spelling.{written_row}, WrittenSymbols.{is_written, is_written_as}}
use Rattle.oc_neutral.specs.declared.reloc.Target.TheVariants as target
use Rattle.oc_shows.specs.Manners.{elf_manner, elf_mark, elf_size}
use Rattle.oc_shows.specs.Seen.{place_at, new_position, seen, seen_section, seen_symbol, seen_binding, seen_field, seen_reloc, seen_target}
use Rattle.oc_shows.specs.SymbolLines.{silent, one, elf_lines, local_lines, is_outer, needs_signature}
use Rattle.oc_target.specs.Meets.{IsSteadyAt}
use Rattle.oc_shows.specs.SymbolLines as table
use Rattle.oc_target.proofs.{MeetsRelocs.{normal_of}, SeenReady.{IsReady, elf_ready}}
use Rattle.oc_shows.proofs.{SeenAlike.{relocs_same, seen_local}, SeenLines.{IsShown}, FoundLaws.{found_in}}
use Rattle.oc_shelf.specs.Writing.Parts.{Laid, laid, behind, aligned, joined, place_where}
use Rattle.oc_shelf.proofs.WritingLaws.MemberLemmas.{map-map, map-alike, member_map, filter_map-map, filter_map-results}
use Rattle.oc_elf.specs.declared.class.ElfClass.{ElfClass}
use Rattle.oc_elf.specs.{declared.constants.TheConstants.{ELFDATA2LSB, EV_CURRENT, ET_REL, GRP_COMDAT, GRP_ENTRY_SIZE, SHNDX_SIZE}, declared.ehdr.Ehdr.{Ehdr}}
use Rattle.oc_elf.specs.{declared.shdr.Shdr.{Shdr}, declared.sym.Sym.{Sym}, declared.rel.Rel.{Rel}, Classes.{format_of, machine_of, is_big, word_of}}
use Rattle.oc_elf.specs.{Ehdr.{ehdr_size}, Shdr.{shdr_size, null_shdr}, Sym.{sym_size}, Rel.{rel_size}, Structures.{sym_bytes, index_bytes, rel_bytes}}
use Rattle.oc_elf_file.specs.Heads.{Head, NullHead, GroupHead, SectionHead, RelocHead, SymtabHead, ShndxHead, StrtabHead, ShstrtabHead, placed_sections, group_head, section_head, reloc_head, group_heads, section_heads, reloc_heads, table_heads_by, table_heads, heads_of, head_size, numbered_heads, head_where, is_group_head, is_section_head, is_symtab_head, is_strtab_head, is_shstrtab_head, group_number, section_number, head_name}
use Rattle.oc_elf_file.specs.Lines.{Line, NullLine, SectionLine, SignatureLine, LocalLine, OuterLine, section_lines, signature_lines, lines_where, inner_lines, outer_lines, lines_of, line_size, numbered_lines, is_section_line, is_signature_line, own_number, symbol_number, signature_number, line_name}
use Rattle.oc_elf_file.specs.Groups.{is_member_head, member_number, group_words, group_bytes}
use Rattle.oc_elf_file.specs.Bodies.{number_or, field_number, field_patch, field_patches, raw_of, target_number, type_of, addend_of, rel_of, rels_of}
use Rattle.oc_elf_file.specs.Layout.{Part, FileHead, Body, HeadTable, parts_of, is_named, head_names, line_names, strings_of, body_size, part_size, part_align, part_begin, laid_parts, is_head_table}
use Rattle.oc_elf_file.specs.Headers.{shdr_of, part_header, made_headers, extended_names, zero_shdr, with_first, stored_headers}
use Rattle.oc_elf_file.specs.Symbols.{offset_in, ValueFields, value_fields_at, value_fields_elsewhere, value_fields_by, value_fields_for, value_fields_of, bind_by, type_by, st_info_by, other_by, symbol_entry, line_entry}
use Rattle.oc_elf_file.specs.Canonical.{shown_count, shown_names, file_header, body_bytes, part_bytes, elf_file}
use Rattle.oc_elf_file.proofs.{CodedLaws.{IsForElf}, LineLaws.{IsLineAt, line_at, symbol_found, one_outer}}
use Rattle.oc_elf_file.proofs.SeenLaws.{shown, again, again_is, are_shown, seen_there}
use Rattle.oc_canonical.proofs.MapLemmas.{enumerate_map, filter-append, filter-within, filter-apart, filter-same, flat_map-mapped, lists_map, map_append, laid_as, laid_map, place_map, joined_map}
use Rattle.oc_canonical.proofs.SeenSymbols.{shown_ones, gathered, ones_gathered, gathered_append, gathered_replicate, gathered_silent, gathered_where, number_in, moved, all_moved, any_same}
use Rattle.oc_linking.proofs.LawProofs.{not-true}

-- every Local is written
written : (class : ElfClass) (name : List ℕ) (b : Binding) → (is_local b && is_written_as (format_of class) name b) ≡ is_local b
written class name b = grind arith

-- ... what a symbol says

size_same : (n : Object) (shown : List (ℕ × ℕ)) (b : Binding) (size : ℕ) → elf_size (seen_binding elf_manner n shown b) (elf_size b size) ≡ elf_size b size
size_same n shown b size = grind arith

bind_same : (n : Object) (shown : List (ℕ × ℕ)) (b : Binding) → bind_by (seen_binding elf_manner n shown b) ≡ bind_by b
bind_same n shown b = grind arith

mark_same : (n : Object) (shown : List (ℕ × ℕ)) (b : Binding) (mark : Mark) → elf_mark (seen_binding elf_manner n shown b) (elf_mark b mark) ≡ elf_mark b mark
mark_same n shown b mark = grind arith

-- an entry of the symbol table
abbrev entry_as : ℕ → ValueFields → ℕ → ℕ → ℕ → Sym
entry_as name stood size info other = record { st_name = name; st_value = stood.st_value; st_size = size; st_info = info; st_other = other; st_shndx = stood.st_shndx }

-- a section header
abbrev header_as : ℕ → ℕ → ℕ → ℕ → ℕ → ℕ → ℕ → ℕ → ℕ → Shdr
header_as type flags at align size_of name size link info = record {
  sh_name = name;
  sh_type = type;
  sh_flags = flags;
  sh_offset = at;
  sh_size = size;
  sh_link = link;
  sh_info = info;
  sh_addralign = align;
  sh_entsize = size_of;
}

header_same : (type flags at align size_of a a' b b' c c' d d' : ℕ) → a ≡ a' → b ≡ b' → c ≡ c' → d ≡ d'
    → header_as type flags at align size_of a b c d ≡ header_as type flags at align size_of a' b' c' d'
header_same type flags at align size_of a a' b b' c c' d d' e f g h =
    ap (λ x. header_as type flags at align size_of x b c d) e
    ∙ ap (λ x. header_as type flags at align size_of a' x c d) f
    ∙ ap (λ x. header_as type flags at align size_of a' b' x d) g
    ∙ ap (λ x. header_as type flags at align size_of a' b' c' x) h

-- an entry of a relocation table
abbrev rel_as : ℕ → ℕ → ℕ → ℕ → Rel
rel_as at number type addend = record { r_offset = at; r_sym = number; r_type = type; r_addend = addend }

module _ (class : ElfClass) (n : Object) (is : IsForElf class n) where
  abbrev shows : IsShown n (shown n)
  shows = are_shown class n is.format

  -- the object that is seen
  abbrev a : Object
  a = again n

  abbrev placed_symbols : List (ℕ × Symbol)
  placed_symbols = enumerate_from 0 n.symbols

  abbrev move : ℕ × Symbol → ℕ × Symbol
  move = moved elf_manner n (shown n) shows

  ready : IsReady elf_manner n
  ready = elf_ready (format_of class) n is.object is.meets

  -- ... symbols: Locals are shown first, and then the others

  abbrev kept : Symbol → Bool
  kept s = is_local s.binding && is_written n.format s

  ones_are : shown_ones n (shown n) ≡ filter (λ (x : ℕ × Symbol). kept x.1) placed_symbols ++ filter (λ (x : ℕ × Symbol). is_outer x.1.binding) placed_symbols
  ones_are =
      let signed : List Group = filter (needs_signature n.symbols) n.groups in
      let outer : List table.Line = table.lines_of is_outer n in
      ones_gathered n 0 (elf_lines n)
      ∙ gathered_append n (replicate (length n.sections) (silent 1)) (map (λ (g : Group). silent 1) signed ++ (local_lines n ++ outer))
      ∙ ap (λ xs. xs ++ gathered n (map (λ (g : Group). silent 1) signed ++ (local_lines n ++ outer))) (gathered_replicate n (length n.sections) 1)
      ∙ gathered_append n (map (λ (g : Group). silent 1) signed) (local_lines n ++ outer)
      ∙ ap (λ xs. xs ++ gathered n (local_lines n ++ outer)) (gathered_silent n (λ (g : Group). 1) signed)
      ∙ gathered_append n (local_lines n) outer
      ∙ ap (λ xs. xs ++ gathered n outer) (gathered_where n kept one)
      ∙ ap (λ xs. filter (λ (x : ℕ × Symbol). kept x.1) placed_symbols ++ xs) (gathered_where n (λ s. is_outer s.binding) one)

  kept_is : (s : Symbol) → kept s ≡ is_local s.binding
  kept_is s = ap (λ f. is_local s.binding && is_written f s) is.format ∙ written class s.name s.binding

  locals_all : filter (λ (x : ℕ × Symbol). is_local x.1.binding) (shown_ones n (shown n)) ≡ filter (λ (x : ℕ × Symbol). is_local x.1.binding) placed_symbols
  locals_all =
      let test : ℕ × Symbol → Bool = λ x. is_local x.1.binding in
      let first : ℕ × Symbol → Bool = λ x. kept x.1 in
      let second : ℕ × Symbol → Bool = λ x. is_outer x.1.binding in
      ap (filter test) ones_are
      ∙ filter-append test (filter first placed_symbols) (filter second placed_symbols)
      ∙ ap (λ xs. xs ++ filter test (filter second placed_symbols)) (filter-within test first placed_symbols (λ x e. kept_is x.1 ∙ e))
      ∙ ap (λ xs. filter test placed_symbols ++ xs) (filter-apart test second placed_symbols (λ x e. not-true (is_local x.1.binding) e))
      ∙ append-nil (filter test placed_symbols)

  -- of a test that no Local passes
  module _ (test : Symbol → Bool) (out : (s : Symbol) → test s ≡ true → is_local s.binding ≡ false) where
    fails_kept : (s : Symbol) → kept s ≡ true → test s ≡ false
    fails_kept s e = by (test s) refl
      where
        by : (b : Bool) → test s ≡ b → b ≡ false
        by b t = grind arith

    outers_all : filter (λ (x : ℕ × Symbol). test x.1) (shown_ones n (shown n)) ≡ filter (λ (x : ℕ × Symbol). test x.1) placed_symbols
    outers_all =
        let passes : ℕ × Symbol → Bool = λ x. test x.1 in
        let first : ℕ × Symbol → Bool = λ x. kept x.1 in
        let second : ℕ × Symbol → Bool = λ x. is_outer x.1.binding in
        ap (filter passes) ones_are
        ∙ filter-append passes (filter first placed_symbols) (filter second placed_symbols)
        ∙ ap (λ xs. xs ++ filter passes (filter second placed_symbols)) (filter-apart passes first placed_symbols (λ x e. fails_kept x.1 e))
        ∙ filter-within passes second placed_symbols (λ x e. not_from_false (is_local x.1.binding) (out x.1 e))

  local_same : (k number : ℕ) (s : Symbol) → slice_get n.symbols k ≡ Some s → is_local (seen_symbol elf_manner n (shown n) number s).binding ≡ is_local s.binding
  local_same k number s here = seen_local elf_manner n (shown n) shows s.binding

  locals_moved : filter (λ (x : ℕ × Symbol). is_local x.1.binding) (enumerate_from 0 a.symbols) ≡ map move (filter (λ (x : ℕ × Symbol). is_local x.1.binding) placed_symbols)
  locals_moved = all_moved elf_manner n (shown n) shows (λ s. is_local s.binding) (λ s. is_local s.binding) local_same locals_all

  outers_moved : filter (λ (x : ℕ × Symbol). not (is_local x.1.binding)) (enumerate_from 0 a.symbols) ≡ map move (filter (λ (x : ℕ × Symbol). not (is_local x.1.binding)) placed_symbols)
  outers_moved = all_moved elf_manner n (shown n) shows (λ s. not (is_local s.binding)) (λ s. not (is_local s.binding)) (λ k number s here. ap not (local_same k number s here))
      (outers_all (λ s. not (is_local s.binding)) (λ s e. not-true (is_local s.binding) e))

  pub signature_same : (g : Group) → needs_signature a.symbols g ≡ needs_signature n.symbols g
  signature_same g =
      ap not (any_same elf_manner n (shown n) shows (λ s. not (is_local s.binding) && bytes_eq s.name g.key) (λ s. not (is_local s.binding) && bytes_eq s.name g.key)
      (λ k number s here. ap (λ b. not b && bytes_eq s.name g.key) (local_same k number s here))
      (outers_all (λ s. not (is_local s.binding) && bytes_eq s.name g.key) (λ s e. not-true (is_local s.binding) (first_so (not (is_local s.binding)) (bytes_eq s.name g.key) e))))

  -- ... lines

  -- a line, as it is written of what is seen
  abbrev pub line_again : Line → Line
  line_again NullLine = NullLine
  line_again (SectionLine k s) = SectionLine k (seen_section elf_manner n (k, s))
  line_again (SignatureLine k g) = SignatureLine k g
  line_again (LocalLine k s) = LocalLine (move (k, s)).0 (move (k, s)).1
  line_again (OuterLine k s) = OuterLine (move (k, s)).0 (move (k, s)).1

  where_again : (line : ℕ → Symbol → Line) → ((k : ℕ) (s : Symbol) → line (move (k, s)).0 (move (k, s)).1 ≡ line_again (line k s)) → (test : Symbol → Bool)
      → filter (λ (x : ℕ × Symbol). test x.1) (enumerate_from 0 a.symbols) ≡ map move (filter (λ (x : ℕ × Symbol). test x.1) placed_symbols)
      → lines_where line test a ≡ map line_again (lines_where line test n)
  where_again line same test moves =
      let passed : List (ℕ × Symbol) = filter (λ (x : ℕ × Symbol). test x.1) placed_symbols in
      ap (map (λ (x : ℕ × Symbol). line x.0 x.1)) moves
      ∙ map-map (λ (x : ℕ × Symbol). line x.0 x.1) move passed
      ∙ map-alike (λ (x : ℕ × Symbol). line (move x).0 (move x).1) (λ (x : ℕ × Symbol). line_again (line x.0 x.1)) passed (λ k x h. same x.0 x.1)
      ∙ sym (map-map line_again (λ (x : ℕ × Symbol). line x.0 x.1) passed)

  sections_again : section_lines a ≡ map line_again (section_lines n)
  sections_again =
      ap (map (λ (x : ℕ × Section). SectionLine x.0 x.1)) (enumerate_map (seen_section elf_manner n) 0 n.sections)
      ∙ map-map (λ (x : ℕ × Section). SectionLine x.0 x.1) (λ (x : ℕ × Section). (x.0, seen_section elf_manner n x)) (enumerate_from 0 n.sections)
      ∙ sym (map-map line_again (λ (x : ℕ × Section). SectionLine x.0 x.1) (enumerate_from 0 n.sections))

  signatures_again : signature_lines a ≡ map line_again (signature_lines n)
  signatures_again =
      ap (map (λ (x : ℕ × Group). SignatureLine x.0 x.1))
      (filter-same (λ (x : ℕ × Group). needs_signature a.symbols x.1) (λ (x : ℕ × Group). needs_signature n.symbols x.1) (enumerate_from 0 n.groups) (λ x. signature_same x.1))
      ∙ sym (map-map line_again (λ (x : ℕ × Group). SignatureLine x.0 x.1) (filter (λ (x : ℕ × Group). needs_signature n.symbols x.1) (enumerate_from 0 n.groups)))

  inner_again : inner_lines a ≡ map line_again (inner_lines n)
  inner_again =
      let xs : List Line = section_lines n in
      let ys : List Line = signature_lines n in
      let zs : List Line = lines_where LocalLine (λ s. is_local s.binding) n in
      ap (λ ls. NullLine ∷ ls) (
      ap (λ ls. ls ++ (signature_lines a ++ lines_where LocalLine (λ s. is_local s.binding) a)) sections_again
      ∙ ap (λ ls. map line_again xs ++ (ls ++ lines_where LocalLine (λ s. is_local s.binding) a)) signatures_again
      ∙ ap (λ ls. map line_again xs ++ (map line_again ys ++ ls)) (where_again LocalLine (λ k s. refl) (λ s. is_local s.binding) locals_moved)
      ∙ ap (λ ls. map line_again xs ++ ls) (sym (map_append line_again ys zs))
      ∙ sym (map_append line_again xs (ys ++ zs)))

  lines_again : lines_of a ≡ map line_again (lines_of n)
  unfolding lines_of
  lines_again =
      ap (λ ls. ls ++ outer_lines a) inner_again
      ∙ ap (λ ls. map line_again (inner_lines n) ++ ls) (where_again OuterLine (λ k s. refl) (λ s. not (is_local s.binding)) outers_moved)
      ∙ sym (map_append line_again (inner_lines n) (outer_lines n))

  numbered_lines_again : numbered_lines a ≡ map (laid_as line_again) (numbered_lines n)
  numbered_lines_again = ap (laid behind line_size 0) lines_again ∙ laid_map line_again behind behind line_size line_size 0 (lines_of n) (λ k x h p. refl) (λ k x h. refl)

  -- ... numbers of symbols

  own_number_again : (k : ℕ) → own_number (numbered_lines a) k ≡ own_number (numbered_lines n) k
  own_number_again k = ap (place_where (is_section_line k)) numbered_lines_again ∙ place_map line_again (is_section_line k) (is_section_line k) (numbered_lines n) same
    where
      same : (x : Line) → is_section_line k (line_again x) ≡ is_section_line k x
      same x = grind arith

  signature_number_again : (k : ℕ) (g : Group) → signature_number (numbered_lines a) k g ≡ signature_number (numbered_lines n) k g
  signature_number_again k g = ap (place_where (is_signature_line k g.key)) numbered_lines_again ∙ place_map line_again (is_signature_line k g.key) (is_signature_line k g.key) (numbered_lines n) same
    where
      same : (x : Line) → is_signature_line k g.key (line_again x) ≡ is_signature_line k g.key x
      same x = grind arith

  symbol_number_again : (k : ℕ) (s : Symbol) → slice_get n.symbols k ≡ Some s → is_local s.binding ≡ false
      → symbol_number (numbered_lines a) (new_position (shown n) k) ≡ symbol_number (numbered_lines n) k
  symbol_number_again k s here outer =
      let p : ℕ = new_position (shown n) k in
      let j : ℕ = symbol_number (numbered_lines n) k in
      let t : Symbol = seen_symbol elf_manner n (shown n) j s in
      let there : slice_get a.symbols p ≡ Some t = seen_there class n is.format k s here outer in
      let found = symbol_found a p t there (seen_local elf_manner n (shown n) shows s.binding ∙ outer) in
      let moved_line : slice_get (lines_of a) j ≡ Some (line_again (OuterLine k s))
      = ap (λ ls. slice_get ls j) lines_again ∙ member_map line_again (lines_of n) j (OuterLine k s) (symbol_found n k s here outer) in
      one_outer a class is.format p (symbol_number (numbered_lines a) p) j t (move (k, s)).1 found moved_line

  -- ... section headers

  fields_again : (k : ℕ) → list_of a.relocs k ≡ map (seen_field elf_manner n (shown n)) (list_of n.relocs k)
  fields_again k = lists_map (seen_field elf_manner n (shown n)) n.relocs k

  count_again : (k : ℕ) → length (list_of a.relocs k) ≡ length (list_of n.relocs k)
  count_again k = ap length (fields_again k) ∙ length-map (list_of n.relocs k) (seen_field elf_manner n (shown n))

  abbrev pub head_again : Head → Head
  head_again NullHead = NullHead
  head_again (GroupHead k g) = GroupHead k g
  head_again (SectionHead k s) = SectionHead k (seen_section elf_manner n (k, s))
  head_again (RelocHead k s) = RelocHead k (seen_section elf_manner n (k, s))
  head_again SymtabHead = SymtabHead
  head_again ShndxHead = ShndxHead
  head_again StrtabHead = StrtabHead
  head_again ShstrtabHead = ShstrtabHead

  abbrev again_at : ℕ × Section → ℕ × Section
  again_at x = (x.0, seen_section elf_manner n x)

  sections_placed : placed_sections a ≡ map again_at (placed_sections n)
  sections_placed = enumerate_map (seen_section elf_manner n) 0 n.sections

  reloc_head_again : (x : ℕ × Section) → reloc_head a (again_at x) ≡ option_map head_again (reloc_head n x)
  reloc_head_again x =
      ap (λ (c : ℕ). cond (eqb c 0) None (Some (RelocHead x.0 (seen_section elf_manner n x)))) (count_again x.0) ∙ by (eqb (length (list_of n.relocs x.0)) 0)
    where
      by : (b : Bool) → cond b None (Some (RelocHead x.0 (seen_section elf_manner n x))) ≡ option_map head_again (cond b None (Some (RelocHead x.0 x.1)))
      by b = grind arith

  tables_again : (many : Bool) → table_heads_by many ≡ map head_again (table_heads_by many)
  tables_again many = grind arith

  heads_again : heads_of a ≡ map head_again (heads_of n)
  unfolding heads_of
  heads_again =
      let gs : List Head = group_heads n in
      let ss : List Head = section_heads n in
      let rs : List Head = reloc_heads n in
      let groups : group_heads a ≡ map head_again gs = sym (map-map head_again group_head (enumerate_from 0 n.groups)) in
      let sections : section_heads a ≡ map head_again ss
      = ap (map section_head) sections_placed ∙ map-map section_head again_at (placed_sections n) ∙ sym (map-map head_again section_head (placed_sections n)) in
      let relocs : reloc_heads a ≡ map head_again rs
      = ap (filter_map (reloc_head a)) sections_placed
      ∙ filter_map-map (reloc_head a) again_at (placed_sections n)
      ∙ filter_map-results (λ x. reloc_head a (again_at x)) (reloc_head n) head_again (placed_sections n) (λ k x h. reloc_head_again x) in
      let ts : List Head = table_heads n in
      ap (λ hs. NullHead ∷ hs) (
      ap (λ hs. hs ++ (section_heads a ++ (reloc_heads a ++ table_heads a))) groups
      ∙ ap (λ hs. map head_again gs ++ (hs ++ (reloc_heads a ++ table_heads a))) sections
      ∙ ap (λ hs. map head_again gs ++ (map head_again ss ++ (hs ++ table_heads a))) relocs
      ∙ ap (λ hs. map head_again gs ++ (map head_again ss ++ (map head_again rs ++ hs))) (tables_again (is_many n.format))
      ∙ ap (λ hs. map head_again gs ++ (map head_again ss ++ hs)) (sym (map_append head_again rs ts))
      ∙ ap (λ hs. map head_again gs ++ hs) (sym (map_append head_again ss (rs ++ ts)))
      ∙ sym (map_append head_again gs (ss ++ (rs ++ ts))))

  numbered_heads_again : numbered_heads a ≡ map (laid_as head_again) (numbered_heads n)
  numbered_heads_again = ap (laid behind head_size 0) heads_again ∙ laid_map head_again behind behind head_size head_size 0 (heads_of n) (λ k x h p. refl) (λ k x h. refl)

  head_where_again : (test : Head → Bool) → ((h : Head) → test (head_again h) ≡ test h) → head_where a test ≡ head_where n test
  head_where_again test same = ap (place_where test) numbered_heads_again ∙ place_map head_again test test (numbered_heads n) same

  section_number_again : (k : ℕ) → section_number a k ≡ section_number n k
  section_number_again k = head_where_again (is_section_head k) same
    where
      same : (h : Head) → is_section_head k (head_again h) ≡ is_section_head k h
      same h = grind arith

  group_number_again : (k : ℕ) → group_number a k ≡ group_number n k
  group_number_again k = head_where_again (is_group_head k) same
    where
      same : (h : Head) → is_group_head k (head_again h) ≡ is_group_head k h
      same h = grind arith

  symtab_again : head_where a is_symtab_head ≡ head_where n is_symtab_head
  symtab_again = head_where_again is_symtab_head same
    where
      same : (h : Head) → is_symtab_head (head_again h) ≡ is_symtab_head h
      same h = grind arith

  strtab_again : head_where a is_strtab_head ≡ head_where n is_strtab_head
  strtab_again = head_where_again is_strtab_head same
    where
      same : (h : Head) → is_strtab_head (head_again h) ≡ is_strtab_head h
      same h = grind arith

  shstrtab_again : head_where a is_shstrtab_head ≡ head_where n is_shstrtab_head
  shstrtab_again = head_where_again is_shstrtab_head same
    where
      same : (h : Head) → is_shstrtab_head (head_again h) ≡ is_shstrtab_head h
      same h = grind arith

  -- ... names

  line_names_again : line_names a ≡ line_names n
  unfolding line_names
  line_names_again =
      ap (λ ls. filter is_named (map line_name ls)) lines_again
      ∙ ap (filter is_named) (map-map line_name line_again (lines_of n) ∙ map-alike (λ x. line_name (line_again x)) line_name (lines_of n) (λ k x h. same x))
    where
      same : (x : Line) → line_name (line_again x) ≡ line_name x
      same x = grind arith

  head_name_again : (h : Head) → head_name class (head_again h) ≡ head_name class h
  head_name_again h = grind arith

  head_names_again : head_names class a ≡ head_names class n
  unfolding head_names
  head_names_again =
      ap (λ hs. filter is_named (map (head_name class) hs)) heads_again
      ∙ ap (filter is_named) (map-map (head_name class) head_again (heads_of n) ∙ map-alike (λ h. head_name class (head_again h)) (head_name class) (heads_of n) (λ k h e. head_name_again h))

  -- ... entries of the symbol table

  stood_at_again : (k offset : ℕ) → value_fields_at a k offset ≡ value_fields_at n k offset
  stood_at_again k offset = ap (λ (number : ℕ). stood offset number) (section_number_again k)
    where
      stood : ℕ → ℕ → ValueFields
      stood at number = record { st_value = at; st_shndx = number }

  value_again : (v : Value) → value_fields_by a v ≡ value_fields_by n v
  value_again (value.Place k offset) = stood_at_again k offset
  value_again (value.Absolute x) = refl

  fallback_again : (f : Fallback) → ((k : ℕ) → f ≡ fallback.Name k → IsSteadyAt n k) → value_fields_of a (seen_binding elf_manner n (shown n) (Weak f)) ≡ value_fields_for n f
  fallback_again (fallback.Place k offset) steady = stood_at_again k offset
  fallback_again fallback.Zero steady = refl
  fallback_again (fallback.Name k) steady =
      let st : IsSteadyAt n k = steady k refl in
      let at : place_at n k ≡ Some st.place = ap (option_and_then (λ (s : Symbol). global_place s.binding)) st.there ∙ st.placed in
      ap (λ o. value_fields_for a (option_map_or (λ (place : Place). fallback.Place place.0 place.1) o (fallback.Name (new_position (shown n) k)))) at
      ∙ stood_at_again st.place.0 st.place.1
      ∙ sym (ap (λ o. option_map_or (λ (place : Place). value_fields_at n place.0 place.1) o value_fields_elsewhere) at)

  binding_again : (b : Binding) → ((k : ℕ) → b ≡ Weak (fallback.Name k) → IsSteadyAt n k) → value_fields_of a (seen_binding elf_manner n (shown n) b) ≡ value_fields_of n b
  binding_again b steady = grind (arith, value_again, fallback_again)

  symbol_again : (k number : ℕ) (s : Symbol) → slice_get n.symbols k ≡ Some s → symbol_entry a (seen_symbol elf_manner n (shown n) number s) ≡ symbol_entry n s
  symbol_again k number s here =
      let b : Binding = s.binding in
      let c : Binding = seen_binding elf_manner n (shown n) b in
      let info : ℕ = st_info_by (bind_by b) (type_by (elf_mark b s.mark)) in
      ap (λ (x : ℕ). entry_as x (value_fields_of a c) (elf_size c (elf_size b s.size)) (st_info_by (bind_by c) (type_by (elf_mark c (elf_mark b s.mark)))) (other_by s.vis)) (ap (λ names. offset_in names s.name) line_names_again)
      ∙ ap (λ x. entry_as (offset_in (line_names n) s.name) x (elf_size c (elf_size b s.size)) (st_info_by (bind_by c) (type_by (elf_mark c (elf_mark b s.mark)))) (other_by s.vis))
      (binding_again b (λ j e. (is.meets.symbols k s here).steady j e))
      ∙ ap (λ (x : ℕ). entry_as (offset_in (line_names n) s.name) (value_fields_of n b) x (st_info_by (bind_by c) (type_by (elf_mark c (elf_mark b s.mark)))) (other_by s.vis)) (size_same n (shown n) b s.size)
      ∙ ap (λ (x : ℕ). entry_as (offset_in (line_names n) s.name) (value_fields_of n b) (elf_size b s.size) (st_info_by x (type_by (elf_mark c (elf_mark b s.mark)))) (other_by s.vis)) (bind_same n (shown n) b)
      ∙ ap (λ x. entry_as (offset_in (line_names n) s.name) (value_fields_of n b) (elf_size b s.size) (st_info_by (bind_by b) (type_by x)) (other_by s.vis)) (mark_same n (shown n) b s.mark)

  abbrev stood_in : ℕ → ValueFields
  stood_in number = record { st_value = 0; st_shndx = number }

  entry_of : (i : ℕ) (x : Line) → IsLineAt n i x → line_entry a (line_again x) ≡ line_entry n x
  unfolding line_entry
  entry_of i NullLine at = refl
  entry_of i (SectionLine k s) at = ap (λ (number : ℕ). entry_as 0 (stood_in number) 0 (st_info_by 0 3) 0) (section_number_again k)
  entry_of i (SignatureLine k g) at =
      ap (λ (name : ℕ). entry_as name (stood_in (group_number a k)) 0 (st_info_by 0 0) 0) (ap (λ names. offset_in names g.key) line_names_again)
      ∙ ap (λ (number : ℕ). entry_as (offset_in (line_names n) g.key) (stood_in number) 0 (st_info_by 0 0) 0) (group_number_again k)
  entry_of i (LocalLine k s) at = symbol_again k (number_in elf_manner n (shown n) shows k) s at.0
  entry_of i (OuterLine k s) at = symbol_again k (number_in elf_manner n (shown n) shows k) s at.0

  entry_again : (i : ℕ) (x : Line) → slice_get (lines_of n) i ≡ Some x → line_entry a (line_again x) ≡ line_entry n x
  entry_again i x here = entry_of i x (line_at n i x here)

  symbols_again : flat_map (λ (line : Line). sym_bytes class (line_entry a line)) (lines_of a) ≡ flat_map (λ (line : Line). sym_bytes class (line_entry n line)) (lines_of n)
  symbols_again =
      ap (flat_map (λ (line : Line). sym_bytes class (line_entry a line))) lines_again
      ∙ flat_map-mapped line_again (λ (line : Line). sym_bytes class (line_entry n line)) (λ (line : Line). sym_bytes class (line_entry a line)) (lines_of n)
      (λ k x h. ap (sym_bytes class) (entry_again k x h))

  indexes_again : flat_map (λ (line : Line). index_bytes (line_entry a line)) (lines_of a) ≡ flat_map (λ (line : Line). index_bytes (line_entry n line)) (lines_of n)
  indexes_again =
      ap (flat_map (λ (line : Line). index_bytes (line_entry a line))) lines_again
      ∙ flat_map-mapped line_again (λ (line : Line). index_bytes (line_entry n line)) (λ (line : Line). index_bytes (line_entry a line)) (lines_of n)
      (λ k x h. ap index_bytes (entry_again k x h))

  -- ... relocations

  -- what is seen of a relocation has the addend
  module _ (k at : ℕ) (r : Reloc) (here : reloc_at n k at ≡ Some r) where
    reduced : (seen_reloc elf_manner n (shown n) r).addend ≡ r.addend
    reduced = (normal_of n is.object k at r here).reduced

    target_again : (t : Target) → r.target ≡ t → target_number (numbered_lines a) (seen_target (shown n) t) ≡ target_number (numbered_lines n) t
    target_again (target.Section j) own = own_number_again j
    target_again (target.Symbol j) own = let y = ready.targets k at r j here own in symbol_number_again j y.0 y.1 y.2

    type_again : type_of class (seen_reloc elf_manner n (shown n) r) ≡ type_of class r
    unfolding type_of
    type_again = refl

    addend_again : (word : Word) → addend_of word (seen_reloc elf_manner n (shown n) r) ≡ addend_of word r
    addend_again W32 = refl
    addend_again W64 = ap (residue_of W64) reduced

    patch_again : field_patch (seen_reloc elf_manner n (shown n) r) ≡ field_patch r
    unfolding field_number
    patch_again = ap (λ x. patch (option_map_or (λ (row : Row). number_or (to_field_of W32 r.form.width (shift_of row) x)) (written_row Elf32 r.form r.hint) 0)) reduced
      where
        patch : ℕ → Patch
        patch number = record { width = r.form.width; check = r.form.check; residue = number }

  rel_again : (k : ℕ) (x : chains.Field Reloc) → reloc_at n k x.at ≡ Some x.item → rel_of class (numbered_lines a) (seen_field elf_manner n (shown n) x) ≡ rel_of class (numbered_lines n) x
  rel_again k x here =
      let r : Reloc = x.item in
      let q : Reloc = seen_reloc elf_manner n (shown n) r in
      ap (λ (number : ℕ). rel_as x.at number (type_of class q) (addend_of (word_of class) q)) (target_again k x.at r here r.target refl)
      ∙ ap (λ (type : ℕ). rel_as x.at (target_number (numbered_lines n) r.target) type (addend_of (word_of class) q)) (type_again k x.at r here)
      ∙ ap (λ (addend : ℕ). rel_as x.at (target_number (numbered_lines n) r.target) (type_of class r) addend) (addend_again k x.at r here (word_of class))

  rels_again : (k : ℕ) → rels_of class (numbered_lines a) a k ≡ rels_of class (numbered_lines n) n k
  unfolding rels_of
  rels_again k =
      let xs : List (chains.Field Reloc) = list_of n.relocs k in
      ap (map (rel_of class (numbered_lines a))) (fields_again k)
      ∙ map-map (rel_of class (numbered_lines a)) (seen_field elf_manner n (shown n)) xs
      ∙ map-alike (λ x. rel_of class (numbered_lines a) (seen_field elf_manner n (shown n) x)) (rel_of class (numbered_lines n)) xs
      (λ i x h. rel_again k x (found_in 0 xs (is.object.built.fields.apart k) i x h).1)

  patches_again : (k at : ℕ) → field_patches a k at ≡ field_patches n k at
  patches_again k at = ap (option_map field_patch) (relocs_same elf_manner n (shown n) shows n.relocs k at) ∙ by (reloc_at n k at) refl
    where
      by : (o : Option Reloc) → reloc_at n k at ≡ o → option_map field_patch (option_map (seen_reloc elf_manner n (shown n)) o) ≡ option_map field_patch o
      by None e = refl
      by (Some r) e = ap Some (patch_again k at r e)

  raw_again : (word : Word) (k : ℕ) (s : Section) → raw_of word a k (seen_section elf_manner n (k, s)) ≡ raw_of word n k s
  unfolding raw_of
  raw_again W32 k s = ap (λ o. overlay o 0 s.bytes) (fun_ext (λ at. patches_again k at))
  raw_again W64 k s = refl

  -- ... groups

  words_again : (g : ℕ) → group_words a g ≡ group_words n g
  unfolding group_words
  words_again g =
      ap (λ xs. GRP_COMDAT ∷ xs) (
      ap (filter_map (member_number g)) numbered_heads_again
      ∙ filter_map-map (member_number g) (laid_as head_again) (numbered_heads n)
      ∙ ap (λ f. filter_map f (numbered_heads n)) (fun_ext (λ (l : Laid Head). ap (λ b. cond b (Some l.at) None) (same l.part))))
    where
      same : (h : Head) → is_member_head g (head_again h) ≡ is_member_head g h
      same h = grind arith

  -- ... parts

  body_size_again : (h : Head) → body_size class a (head_again h) ≡ body_size class n h
  body_size_again NullHead = refl
  body_size_again (GroupHead k g) = ap (λ words. GRP_ENTRY_SIZE * length words) (words_again k)
  body_size_again (SectionHead k s) = refl
  body_size_again (RelocHead k s) = ap (λ count. rel_size (word_of class) * count) (count_again k)
  body_size_again SymtabHead = ap (λ count. sym_size (word_of class) * count) (ap length lines_again ∙ length-map (lines_of n) line_again)
  body_size_again ShndxHead = ap (λ count. SHNDX_SIZE * count) (ap length lines_again ∙ length-map (lines_of n) line_again)
  body_size_again StrtabHead = ap (λ names. length (strings_of names)) line_names_again
  body_size_again ShstrtabHead = ap (λ names. length (strings_of names)) head_names_again

  abbrev pub part_again : Part → Part
  part_again FileHead = FileHead
  part_again (Body h) = Body (head_again h)
  part_again HeadTable = HeadTable

  align_again : (x : Part) → part_align class (part_again x) ≡ part_align class x
  align_again x = grind arith

  size_again : (x : Part) → part_size class a (part_again x) ≡ part_size class n x
  size_again x = grind (arith, body_size_again, heads_again, length-map)

  parts_again : parts_of a ≡ map part_again (parts_of n)
  unfolding parts_of
  parts_again =
      ap (λ xs. FileHead ∷ xs) (
      ap (λ hs. map Body hs ++ HeadTable ∷ []) heads_again
      ∙ ap (λ xs. xs ++ HeadTable ∷ []) (map-map Body head_again (heads_of n) ∙ sym (map-map part_again Body (heads_of n)))
      ∙ sym (map_append part_again (map Body (heads_of n)) (HeadTable ∷ [])))

  laid_again : laid_parts class a ≡ map (laid_as part_again) (laid_parts class n)
  laid_again =
      ap (laid (part_begin class) (part_size class a) 0) parts_again
      ∙ laid_map part_again (part_begin class) (part_begin class) (part_size class n) (part_size class a) 0 (parts_of n)
      (λ k x h p. ap (λ align. aligned align p) (align_again x)) (λ k x h. size_again x)

  -- ... section headers

  shdr_again : (at : ℕ) (h : Head) → shdr_of class a at (head_again h) ≡ shdr_of class n at h
  unfolding shdr_of
  shdr_again at NullHead = refl
  shdr_again at (GroupHead k g) =
      header_same _ _ at _ _ _ _ _ _ _ _ _ _ (ap (λ names. offset_in names (head_name class (GroupHead k g))) head_names_again) (body_size_again (GroupHead k g)) symtab_again (signature_number_again k g)
  shdr_again at (SectionHead k s) =
      header_same _ _ at _ _ _ _ _ _ _ _ _ _ (ap (λ names. offset_in names s.name) head_names_again) refl refl refl
  shdr_again at (RelocHead k s) =
      header_same _ _ at _ _ _ _ _ _ _ _ _ _ (ap (λ names. offset_in names (head_name class (RelocHead k s))) head_names_again) (body_size_again (RelocHead k s)) symtab_again (section_number_again k)
  shdr_again at SymtabHead =
      header_same _ _ at _ _ _ _ _ _ _ _ _ _ (ap (λ names. offset_in names (head_name class SymtabHead)) head_names_again) (body_size_again SymtabHead) strtab_again (ap length inner_again ∙ length-map (inner_lines n) line_again)
  shdr_again at ShndxHead =
      header_same _ _ at _ _ _ _ _ _ _ _ _ _ (ap (λ names. offset_in names (head_name class ShndxHead)) head_names_again) (body_size_again ShndxHead) symtab_again refl
  shdr_again at StrtabHead =
      header_same _ _ at _ _ _ _ _ _ _ _ _ _ (ap (λ names. offset_in names (head_name class StrtabHead)) head_names_again) (body_size_again StrtabHead) refl refl
  shdr_again at ShstrtabHead =
      header_same _ _ at _ _ _ _ _ _ _ _ _ _ (ap (λ names. offset_in names (head_name class ShstrtabHead)) head_names_again) (body_size_again ShstrtabHead) refl refl

  headers_again : made_headers class a ≡ made_headers class n
  unfolding made_headers
  headers_again =
      ap (filter_map (part_header class a)) laid_again
      ∙ filter_map-map (part_header class a) (laid_as part_again) (laid_parts class n)
      ∙ ap (λ f. filter_map f (laid_parts class n)) (fun_ext (λ (l : Laid Part). same l.at l.part))
    where
      same : (at : ℕ) (x : Part) → part_header class a (record { at = at; part = part_again x }) ≡ part_header class n (record { at = at; part = x })
      same at x = grind (arith, shdr_again)

  zero_again : zero_shdr class a ≡ zero_shdr class n
  zero_again =
      ap (λ (k : ℕ). zero k (head_where a is_shstrtab_head)) (ap length heads_again ∙ length-map (heads_of n) head_again) ∙ ap (λ (k : ℕ). zero (length (heads_of n)) k) shstrtab_again
    where
      zero : ℕ → ℕ → Shdr
      zero count names = cond {A = Shdr} (is_big class) (record null_shdr { sh_size = count; sh_link = extended_names names }) null_shdr

  stored_again : stored_headers class a ≡ stored_headers class n
  unfolding stored_headers
  stored_again = ap (λ s. with_first s (made_headers class a)) zero_again ∙ ap (with_first (zero_shdr class n)) headers_again

  table_again : place_where is_head_table (laid_parts class a) ≡ place_where is_head_table (laid_parts class n)
  table_again = ap (place_where is_head_table) laid_again ∙ place_map part_again is_head_table is_head_table (laid_parts class n) same
    where
      same : (x : Part) → is_head_table (part_again x) ≡ is_head_table x
      same x = grind arith

  file_header_again : file_header class a ≡ file_header class n
  unfolding file_header
  file_header_again =
      ap (λ (x : ℕ). ehdr x (length (heads_of a)) (head_where a is_shstrtab_head)) table_again
      ∙ ap (λ (x : ℕ). ehdr (place_where is_head_table (laid_parts class n)) x (head_where a is_shstrtab_head)) (ap length heads_again ∙ length-map (heads_of n) head_again)
      ∙ ap (λ (x : ℕ). ehdr (place_where is_head_table (laid_parts class n)) (length (heads_of n)) x) shstrtab_again
    where
      ehdr : ℕ → ℕ → ℕ → Ehdr
      ehdr shoff shnum shstrndx = record {
        ei_data = ELFDATA2LSB;
        ei_version = EV_CURRENT;
        e_type = ET_REL;
        e_machine = machine_of (word_of class);
        e_version = EV_CURRENT;
        e_shoff = shoff;
        e_ehsize = ehdr_size (word_of class);
        e_shentsize = shdr_size (word_of class);
        e_shnum = shown_count class shnum;
        e_shstrndx = shown_names class shstrndx;
      }

  -- ... the file

  body_again : (h : Head) → body_bytes class a (head_again h) ≡ body_bytes class n h
  body_again NullHead = refl
  body_again (GroupHead k g) = ap group_bytes (words_again k)
  body_again (SectionHead k s) = raw_again (word_of class) k s
  body_again (RelocHead k s) = ap (flat_map (rel_bytes (word_of class))) (rels_again k)
  body_again SymtabHead = symbols_again
  body_again ShndxHead = indexes_again
  body_again StrtabHead = ap strings_of line_names_again
  body_again ShstrtabHead = ap strings_of head_names_again

  bytes_again : (x : Part) → part_bytes class a (part_again x) ≡ part_bytes class n x
  unfolding part_bytes
  bytes_again x = grind (arith, file_header_again, body_again, stored_again)

  pub elf_file_again : elf_file class (seen n) ≡ elf_file class n
  unfolding elf_file
  elf_file_again =
      ap (λ m. joined (part_bytes class m) 0 (laid_parts class m)) (again_is class n is.format)
      ∙ ap (joined (part_bytes class a) 0) laid_again
      ∙ joined_map part_again (part_bytes class n) (part_bytes class a) 0 (laid_parts class n) (λ k l h. bytes_again l.part)
