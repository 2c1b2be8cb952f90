-- The parts of a canonical file: their sizes, and that they stand at their places.
use Rattle.std.proofs.Common.{◌≡◌, ℕ, zero, suc, ◌+◌, ◌-◌, ◌*◌, ◌%◌, ◌≤◌, Bool, true, false, not, List, ◌++◌, length, map, Some, refl, sym, ◌∙◌, ap, subst, inl, inr, arith}
use Rattle.std.specs.{Prelude.{slice_get, flat_map}, List.{enumerate_from}}
use Rattle.std.proofs.lemmas.{List.{length-map}, List.FromFn.{length-enumerate_from}, Bool.{true≢false, eqb-true, eq-eqb}, Option.{same_Some}}
use Rattle.oc_base.specs.{declared.format.Word.{Word}, declared.format.Word.TheVariants.{W32, W64}}
use Rattle.oc_base.proofs.NumberLaws.{length-table}
use Rattle.oc_linking.proofs.Overlay.{length-overlay}
use Rattle.oc_neutral.specs.{declared.section.Section.{Section}, Objects.{Object}}
use Rattle.oc_shelf.specs.{Writing.Packed.{packed}, Writing.Parts.{Stands, Laid, laid_end}}
use Rattle.oc_shelf.proofs.{WritingLaws.PackedLemmas.{length-packed}, WritingLaws.PartLemmas.{stands_where, stands_laid, length-joined}}
use Rattle.oc_shelf.proofs.WritingLaws.StandingLemmas.{stands_at, length-entries}
use Rattle.oc_shelf.proofs.WritingLaws.MemberLemmas.{member_first, member_second, member_enumerated, member_map, of_map, of_append, of_enumerated, of_filter, member_filter}
use Rattle.oc_macho.specs.{declared.section_header.SectionHeader.{SectionHeader}, MachHeader.{mach_header_size}, SegmentCommand.{segment_command_size}}
use Rattle.oc_macho.specs.{SectionHeader.{section_header_size}, Nlist.{nlist_size}}
use Rattle.oc_macho.specs.Structures.{mach_header_bytes, symtab_bytes, section_bytes, nlist_bytes, relocation_bytes}
use Rattle.oc_macho_file.specs.{Addresses.{Numbered, is_blank, stored_sections}, Lines.{lines_of}, Bodies.{field_patches, raw_of}}
use Rattle.oc_macho_file.specs.Layout.{Part, FileHead, SegmentHead, SectionHeads, SymtabHead, DysymtabHead, Raw, Relocs, SymbolTable, StringTable, raw_part, relocs_part, table_parts, parts_of, relocs_of, string_table, part_size, part_begin, laid_parts, part_where, is_raw, is_relocs, is_symbol_table, is_string_table}
use Rattle.oc_macho_file.specs.Symbols.{line_entry}
use Rattle.oc_macho_file.specs.Canonical.{file_header, segment_numbers, section_header, section_headers, symtab_command, dysymtab_numbers, part_bytes, mach_file}
use Rattle.oc_macho_file.proofs.StructureLaws.{length-padded, length-mach_header_bytes, length-symtab_bytes, length-section_bytes, length-nlist_bytes, length-relocation_bytes}

-- ... sizes

pub header_is_padded : (w : Word) (n : Object) (x : Numbered) → (length (section_header w n x).sectname ≡ 16) × (length (section_header w n x).segname ≡ 16)
unfolding section_header
header_is_padded w n x = (length-padded _, length-padded _)

segment_size : (w : Word) (n : Object) → length (packed (segment_numbers w n)) ≡ segment_command_size w
unfolding segment_numbers
segment_size W32 n = length-packed (segment_numbers W32 n)
segment_size W64 n = length-packed (segment_numbers W64 n)

pub dysymtab_size : (w : Word) (n : Object) → length (packed (dysymtab_numbers w n)) ≡ 80
unfolding dysymtab_numbers
dysymtab_size w n = length-packed (dysymtab_numbers w n)

pub length-raw : (w : Word) (n : Object) (k : ℕ) (s : Section) → length (raw_of w n k s) ≡ length s.bytes
unfolding raw_of
length-raw w n k s = length-overlay (field_patches w n k) 0 s.bytes

pub length-headers : (w : Word) (n : Object) → length (section_headers w n) ≡ length n.sections
length-headers w n = length-map (enumerate_from 0 n.sections) (section_header w n) ∙ length-enumerate_from 0 n.sections

-- each header has its size
pub header_sized : (w : Word) (n : Object) (k : ℕ) (h : SectionHeader) → slice_get (section_headers w n) k ≡ Some h → length (section_bytes w h) ≡ section_header_size w
header_sized w n k h here =
    let x = of_map (section_header w n) (enumerate_from 0 n.sections) k h here in
    let a = header_is_padded w n x.0 in
    subst (λ (g : SectionHeader). length (section_bytes w g) ≡ section_header_size w) x.2 (length-section_bytes w (section_header w n x.0) a.0 a.1)

pub part_sized : (w : Word) (n : Object) (part : Part) → length (part_bytes w n part) ≡ part_size w n part
unfolding part_bytes
part_sized w n FileHead = length-mach_header_bytes w (file_header w n)
part_sized w n SegmentHead = segment_size w n
part_sized w n SectionHeads = length-entries (section_bytes w) (section_header_size w) (section_headers w n) (header_sized w n) ∙ ap (λ m. section_header_size w * m) (length-headers w n)
part_sized w n SymtabHead = length-symtab_bytes (symtab_command w n)
part_sized w n DysymtabHead = dysymtab_size w n
part_sized w n (Raw k s) = length-raw w n k s
part_sized w n (Relocs k s) = length-table relocation_bytes 8 (relocs_of w n k) length-relocation_bytes
part_sized w n SymbolTable = length-table (λ line. nlist_bytes w (line_entry w n line)) (nlist_size w) (lines_of w n) (λ line. length-nlist_bytes w (line_entry w n line))
part_sized w n StringTable = refl

-- ... order

behind_gap : (at f more : ℕ) → at ≤ f + (at - f + more)
behind_gap at f more = omega arith

pub rises : (w : Word) (n : Object) (at : ℕ) (x : Part) → at ≤ part_begin w n at x
rises w n at x = grind arith

-- ... which parts are there

-- a part of a section is one of a section that is there
abbrev pub IsPartOf : Object → Part → Type 0
IsPartOf n FileHead = Unit {0}
IsPartOf n SegmentHead = Unit {0}
IsPartOf n SectionHeads = Unit {0}
IsPartOf n SymtabHead = Unit {0}
IsPartOf n DysymtabHead = Unit {0}
IsPartOf n (Raw k s) = slice_get n.sections k ≡ Some s
IsPartOf n (Relocs k s) = slice_get n.sections k ≡ Some s
IsPartOf n SymbolTable = Unit {0}
IsPartOf n StringTable = Unit {0}

numbered_there : (n : Object) (k : ℕ) (x : Numbered) → slice_get (enumerate_from 0 n.sections) k ≡ Some x → slice_get n.sections x.0 ≡ Some x.1
numbered_there n k x here = let y = of_enumerated 0 n.sections k x here in let e : k ≡ x.0 = omega (arith, y.0) in ap (slice_get n.sections) (sym e) ∙ y.1

abbrev behind_raw : Object → List Part
behind_raw n = map relocs_part (enumerate_from 0 n.sections) ++ table_parts

abbrev behind_heads : Object → List Part
behind_heads n = map raw_part (stored_sections n) ++ behind_raw n

tables_there : (n : Object) (k : ℕ) (x : Part) → slice_get table_parts k ≡ Some x → IsPartOf n x
tables_there n k x h = grind arith

behind_there : (n : Object) (k : ℕ) (x : Part) → slice_get (behind_heads n) k ≡ Some x → IsPartOf n x
behind_there n k x here = elim (of_append (map raw_part (stored_sections n)) (behind_raw n) k x here) [
  | inl g ↦
      let y = of_map raw_part (stored_sections n) k x g in
      let z = of_filter (λ (x : Numbered). not (is_blank x)) (enumerate_from 0 n.sections) k y.0 y.1 in
      subst (IsPartOf n) y.2 (numbered_there n z.0 y.0 z.1)
  | inr r ↦ elim (of_append (map relocs_part (enumerate_from 0 n.sections)) table_parts r.0 x r.2) [
    | inl g ↦
        let y = of_map relocs_part (enumerate_from 0 n.sections) r.0 x g in
        subst (IsPartOf n) y.2 (numbered_there n r.0 y.0 y.1)
    | inr q ↦ tables_there n q.0 x q.2
  ]
]

pub part_is_there : (n : Object) (k : ℕ) (x : Part) → slice_get (parts_of n) k ≡ Some x → IsPartOf n x
unfolding parts_of
part_is_there n zero x h = subst (IsPartOf n) (same_Some FileHead x h) tt
part_is_there n (suc zero) x h = subst (IsPartOf n) (same_Some SegmentHead x h) tt
part_is_there n (suc (suc zero)) x h = subst (IsPartOf n) (same_Some SectionHeads x h) tt
part_is_there n (suc (suc (suc zero))) x h = subst (IsPartOf n) (same_Some SymtabHead x h) tt
part_is_there n (suc (suc (suc (suc zero)))) x h = subst (IsPartOf n) (same_Some DysymtabHead x h) tt
part_is_there n (suc (suc (suc (suc (suc k))))) x h = behind_there n k x h

raw_is : (n : Object) (k : ℕ) (s : Section) → slice_get n.sections k ≡ Some s → (x : Part) → IsPartOf n x → is_raw k x ≡ true → x ≡ Raw k s
raw_is n k s here (Raw j t) is e =
    let same : j ≡ k = eqb-true j k e in
    ap (λ i. Raw i t) same ∙ ap (Raw k) (same_Some t s (sym is ∙ ap (slice_get n.sections) same ∙ here))
raw_is n k s here x is e = absurd (true≢false (sym e))

relocs_is : (n : Object) (k : ℕ) (s : Section) → slice_get n.sections k ≡ Some s → (x : Part) → IsPartOf n x → is_relocs k x ≡ true → x ≡ Relocs k s
relocs_is n k s here (Relocs j t) is e =
    let same : j ≡ k = eqb-true j k e in
    ap (λ i. Relocs i t) same ∙ ap (Relocs k) (same_Some t s (sym is ∙ ap (slice_get n.sections) same ∙ here))
relocs_is n k s here x is e = absurd (true≢false (sym e))

symbols_is : (x : Part) → is_symbol_table x ≡ true → x ≡ SymbolTable
symbols_is x e = grind arith

strings_is : (x : Part) → is_string_table x ≡ true → x ≡ StringTable
strings_is x e = grind arith

-- ... where they stand

module _ (w : Word) (n : Object) where
  pub stands_part : (k : ℕ) (l : Laid Part) → slice_get (laid_parts w n) k ≡ Some l → Stands (mach_file w n) l.at (part_bytes w n l.part)
  unfolding mach_file
  stands_part k l here =
      let e : l.at - 0 ≡ l.at = omega arith in
      stands_at (mach_file w n) (part_bytes w n l.part) (l.at - 0) l.at
      (stands_laid (part_begin w n) (part_size w n) (rises w n) (part_bytes w n) 0 (parts_of n) (λ j x h. part_sized w n x) k l here) e

  pub length-mach_file : length (mach_file w n) ≡ laid_end (part_begin w n) (part_size w n) 0 (parts_of n)
  unfolding mach_file
  length-mach_file = omega (arith, length-joined (part_begin w n) (part_size w n) (rises w n) (part_bytes w n) 0 (parts_of n) (λ j x h. part_sized w n x))

  there : (test : Part → Bool) (k : ℕ) (x : Part) → slice_get (parts_of n) k ≡ Some x → test x ≡ true → ((j : ℕ) (y : Part) → slice_get (parts_of n) j ≡ Some y → test y ≡ true → y ≡ x)
      → Stands (mach_file w n) (part_where w n test) (part_bytes w n x)
  unfolding mach_file
  there test k x here passes only = stands_where (part_begin w n) (part_size w n) (part_bytes w n) test (parts_of n) k x (rises w n) (λ j y h. part_sized w n y) here passes only

  -- the heads stand one behind another
  pub stands_file_header : Stands (mach_file w n) 0 (mach_header_bytes w (file_header w n))
  unfolding parts_of part_bytes
  stands_file_header = stands_part 0 (record { at = 0; part = FileHead }) refl

  pub stands_segment : Stands (mach_file w n) (mach_header_size w) (packed (segment_numbers w n))
  unfolding parts_of part_bytes
  stands_segment = stands_at (mach_file w n) (part_bytes w n SegmentHead) (0 + mach_header_size w) (mach_header_size w) (stands_part 1 (record { at = 0 + mach_header_size w; part = SegmentHead }) refl) (omega arith)

  pub stands_headers : Stands (mach_file w n) (mach_header_size w + segment_command_size w) (flat_map (section_bytes w) (section_headers w n))
  unfolding parts_of part_bytes
  stands_headers = stands_at (mach_file w n) (part_bytes w n SectionHeads) (0 + mach_header_size w + segment_command_size w) (mach_header_size w + segment_command_size w)
      (stands_part 2 (record { at = 0 + mach_header_size w + segment_command_size w; part = SectionHeads }) refl) (omega arith)

  -- the places of the two commands behind the segment
  abbrev pub symtab_at : ℕ
  symtab_at = mach_header_size w + (segment_command_size w + section_header_size w * length n.sections)

  place_behind : (a b c : ℕ) → 0 + a + b + c ≡ a + (b + c)
  place_behind a b c = omega arith

  pub stands_symtab : Stands (mach_file w n) symtab_at (symtab_bytes (symtab_command w n))
  unfolding parts_of part_bytes
  stands_symtab = stands_at (mach_file w n) (part_bytes w n SymtabHead) (0 + mach_header_size w + segment_command_size w + section_header_size w * length n.sections) symtab_at
      (stands_part 3 (record { at = 0 + mach_header_size w + segment_command_size w + section_header_size w * length n.sections; part = SymtabHead }) refl)
      (place_behind (mach_header_size w) (segment_command_size w) (section_header_size w * length n.sections))

  pub stands_dysymtab : Stands (mach_file w n) (symtab_at + 24) (packed (dysymtab_numbers w n))
  unfolding parts_of part_bytes
  stands_dysymtab = stands_at (mach_file w n) (part_bytes w n DysymtabHead) (0 + mach_header_size w + segment_command_size w + section_header_size w * length n.sections + 24) (symtab_at + 24)
      (stands_part 4 (record { at = 0 + mach_header_size w + segment_command_size w + section_header_size w * length n.sections + 24; part = DysymtabHead }) refl)
      (ap (λ k. k + 24) (place_behind (mach_header_size w) (segment_command_size w) (section_header_size w * length n.sections)))

  -- behind the five heads
  in_behind : (j : ℕ) (x : Part) → slice_get (behind_heads n) j ≡ Some x → slice_get (parts_of n) (suc (suc (suc (suc (suc j))))) ≡ Some x
  unfolding parts_of
  in_behind j x h = h

  -- a section that has bytes has a part
  pub record HasPart (x : Part) : Type 0 where
    pub index : ℕ
    pub here : slice_get (parts_of n) index ≡ Some x

  pub raw_there : (k : ℕ) (s : Section) → slice_get n.sections k ≡ Some s → is_blank (k, s) ≡ false → HasPart (Raw k s)
  raw_there k s here stored =
      let e : 0 + k ≡ k = omega arith in
      let m = member_filter (λ x. not (is_blank x)) (enumerate_from 0 n.sections) k (k, s) (member_enumerated 0 n.sections k s here ∙ ap (λ i. Some (i, s)) e) (ap not stored) in
      record {
        index = suc (suc (suc (suc (suc m.0))));
        here = in_behind m.0 (Raw k s) (member_first (map raw_part (stored_sections n)) (behind_raw n) m.0 (Raw k s) (member_map raw_part (stored_sections n) m.0 (k, s) m.1));
      }

  in_tables : (j : ℕ) (x : Part) → slice_get (behind_raw n) j ≡ Some x → HasPart x
  in_tables j x h = record {
    index = suc (suc (suc (suc (suc (length (map raw_part (stored_sections n)) + j)))));
    here = in_behind (length (map raw_part (stored_sections n)) + j) x (member_second (map raw_part (stored_sections n)) (behind_raw n) j x h);
  }

  pub relocs_there : (k : ℕ) (s : Section) → slice_get n.sections k ≡ Some s → HasPart (Relocs k s)
  relocs_there k s here =
      let e : 0 + k ≡ k = omega arith in
      in_tables k (Relocs k s) (member_first (map relocs_part (enumerate_from 0 n.sections)) table_parts k (Relocs k s)
      (member_map relocs_part (enumerate_from 0 n.sections) k (k, s) (member_enumerated 0 n.sections k s here ∙ ap (λ i. Some (i, s)) e)))

  pub symbols_there : HasPart SymbolTable
  symbols_there = in_tables _ SymbolTable (member_second (map relocs_part (enumerate_from 0 n.sections)) table_parts 0 SymbolTable refl)

  pub strings_there : HasPart StringTable
  strings_there = in_tables _ StringTable (member_second (map relocs_part (enumerate_from 0 n.sections)) table_parts 1 StringTable refl)

  pub stands_raw : (k : ℕ) (s : Section) → slice_get n.sections k ≡ Some s → is_blank (k, s) ≡ false → Stands (mach_file w n) (part_where w n (is_raw k)) (raw_of w n k s)
  unfolding part_bytes
  stands_raw k s here stored =
      let p = raw_there k s here stored in
      there (is_raw k) p.index (Raw k s) p.here (eq-eqb k k refl) (λ j y h t. raw_is n k s here y (part_is_there n j y h) t)

  pub stands_relocs : (k : ℕ) (s : Section) → slice_get n.sections k ≡ Some s → Stands (mach_file w n) (part_where w n (is_relocs k)) (flat_map relocation_bytes (relocs_of w n k))
  unfolding part_bytes
  stands_relocs k s here =
      let p = relocs_there k s here in
      there (is_relocs k) p.index (Relocs k s) p.here (eq-eqb k k refl) (λ j y h t. relocs_is n k s here y (part_is_there n j y h) t)

  pub stands_symbols : Stands (mach_file w n) (part_where w n is_symbol_table) (flat_map (λ line. nlist_bytes w (line_entry w n line)) (lines_of w n))
  unfolding part_bytes
  stands_symbols = there is_symbol_table symbols_there.index SymbolTable symbols_there.here refl (λ j y h t. symbols_is y t)

  pub stands_strings : Stands (mach_file w n) (part_where w n is_string_table) (string_table w n)
  unfolding part_bytes
  stands_strings = there is_string_table strings_there.index StringTable strings_there.here refl (λ j y h t. strings_is y t)
