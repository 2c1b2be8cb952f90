-- The parts of a canonical file: their sizes, and that they stand at their places.
use Rattle.oc_shows.specs.SymbolLines.{is_weak_with}
use Rattle.oc_coff.specs.{declared.form.Shape.{Shape}, Forms.{format_of, header_size, shape_of, symbol_size}, declared.form.CoffForm.{CoffForm}, Names.{padded}}
use Rattle.oc_coff.specs.{FileHeader.{file_header_bytes}, SymbolEntry.{symbol_bytes}, SectionAux.{section_aux_bytes}, SectionHeader.{section_header_bytes}}
use Rattle.oc_coff.specs.{Relocation.{relocation_bytes}, Flags.{with_count}}
use Rattle.std.proofs.Common.{◌≡◌, ℕ, zero, suc, ◌+◌, ◌-◌, ◌*◌, ◌≤◌, Bool, true, false, cond, List, [], ◌∷◌, ◌++◌, length, Some, refl, sym, ◌∙◌, ap, subst, arith, append-nil, length-append}
use Rattle.std.specs.{Prelude.{slice_get, flat_map, decimal}, List.{enumerate_from}}
use Rattle.std.proofs.lemmas.{List.{length-map}, List.FromFn.{length-enumerate_from}, Bool.{true≢false, eqb-true, eq-eqb}, Option.{none-some, same_Some}}
use Rattle.oc_base.specs.Numbers.{bytes_of_number}
use Rattle.oc_base.proofs.NumberLaws.{length-bytes_of_number, length-table}
use Rattle.oc_linking.specs.declared.terms.Binding.{Binding}
use Rattle.oc_linking.proofs.Overlay.{length-overlay}
use Rattle.oc_neutral.specs.{declared.section.Section.{Section}, Objects.{Object}, Coff.Strings.{is_long, is_tabled}}
use Rattle.oc_coff_file.proofs.PaddedLemmas.{length-padded}
use Rattle.oc_coff_file.proofs.StructureLaws.{length-file_header_bytes, length-section_header_bytes, length-symbol_bytes, length-section_aux_bytes, length-relocation_bytes, length-weak_aux_bytes, header_least}
use Rattle.oc_shelf.specs.Writing.Parts.{Stands, Laid, laid, laid_end, behind, joined, place_where}
use Rattle.oc_shelf.proofs.WritingLaws.StandingLemmas.{stands_whole, stands_first, stands_second, length-entries}
use Rattle.oc_shelf.proofs.WritingLaws.PartLemmas.{stands_where, place_past, laid_end_from, place_behind, joined_append, length-laid_rows, length-joined}
use Rattle.oc_shelf.proofs.WritingLaws.MemberLemmas.{member_first, member_enumerated, member_flat_map, each_append, each_flat_map, each_map, each_enumerated}
use Rattle.oc_coff_file.specs.Lines.{Line, SectionLine, LocalLine, DefaultLine, OuterLine, line_size, lines_of, numbered_lines, entry_count}
use Rattle.oc_coff_file.specs.Bodies.{field_patches, raw_of, relocs_of}
use Rattle.oc_coff_file.specs.Layout.{Part, FileHead, SectionHeads, Raw, Relocs, SymbolTable, StringTable, section_parts, parts_of, text_of, part_size, laid_parts, is_raw, is_relocs, is_symbol_table}
use Rattle.oc_coff_file.specs.Canonical.{symbol_field, section_field, header_at, headers_of, line_entry, section_aux, line_aux, outer_aux, line_rows, entry_rows, file_header, string_table, part_bytes, coff_file}
use Rattle.oc_target.specs.CoffMeets.{offset_of}

-- names have eight bytes
pub length-symbol_field : (w : CoffForm) (n : Object) (name : List ℕ) → length (symbol_field w n name) ≡ 8
unfolding symbol_field
length-symbol_field w n name = elim (is_long name) as (λ b. length (cond b (bytes_of_number 4 0 ++ bytes_of_number 4 (offset_of (format_of w) n name)) (padded name)) ≡ 8) [
  | true ↦ length-append (bytes_of_number 4 0) (bytes_of_number 4 (offset_of (format_of w) n name)) ∙ omega (arith, length-bytes_of_number 4 0, length-bytes_of_number 4 (offset_of (format_of w) n name))
  | false ↦ length-padded name
]

pub length-section_field : (w : CoffForm) (n : Object) (name : List ℕ) → length (section_field w n name) ≡ 8
unfolding section_field
length-section_field w n name = elim (is_tabled name) as (λ b. length (cond b (padded (47 ∷ decimal (offset_of (format_of w) n name))) (padded name)) ≡ 8) [
  | true ↦ length-padded (47 ∷ decimal (offset_of (format_of w) n name))
  | false ↦ length-padded name
]

-- each entry of the symbol table has the bytes of its shape
abbrev pub IsRow : Shape → List ℕ → Type 0
IsRow z row = length row ≡ symbol_size z

one_row : (z : Shape) (row : List ℕ) → IsRow z row → (k : ℕ) (x : List ℕ) → slice_get (row ∷ []) k ≡ Some x → IsRow z x
one_row z row is k x here = grind arith

outer_rows : (z : Shape) (lines : List (Laid Line)) (k : ℕ) (b : Binding) (j : ℕ) (x : List ℕ) → slice_get (outer_aux z lines k b) j ≡ Some x → IsRow z x
outer_rows z lines k b j x here = grind (arith, none-some, length-weak_aux_bytes)

aux_rows : (w : CoffForm) (n : Object) (line : Line) (j : ℕ) (x : List ℕ) → slice_get (line_aux w n line) j ≡ Some x → IsRow (shape_of w) x
aux_rows w n (SectionLine k s) j x here = one_row (shape_of w) (section_aux_bytes (shape_of w) (section_aux w n k s)) (length-section_aux_bytes (shape_of w) (section_aux w n k s)) j x here
aux_rows w n (LocalLine k s) j x here = absurd (none-some x here)
aux_rows w n (DefaultLine k s) j x here = absurd (none-some x here)
aux_rows w n (OuterLine k s) j x here = outer_rows (shape_of w) (numbered_lines w n) k s.binding j x here

pub field_is_eight : (w : CoffForm) (n : Object) (line : Line) → length (line_entry w n line).Name ≡ 8
field_is_eight w n line = grind (arith, length-symbol_field)

pub line_is_rows : (w : CoffForm) (n : Object) (line : Line) (j : ℕ) (x : List ℕ) → slice_get (line_rows w n line) j ≡ Some x → IsRow (shape_of w) x
unfolding line_rows
line_is_rows w n line zero x here = subst (IsRow (shape_of w)) (same_Some (symbol_bytes (shape_of w) (line_entry w n line)) x here) (length-symbol_bytes (shape_of w) (line_entry w n line) (field_is_eight w n line))
line_is_rows w n line (suc j) x here = aux_rows w n line j x here

-- a line has as many as its size
length-outer_aux : (z : Shape) (lines : List (Laid Line)) (k : ℕ) (b : Binding) → 1 + length (outer_aux z lines k b) ≡ cond (is_weak_with (λ f. true) b) 2 1
length-outer_aux z lines k b = grind arith

pub length-line_rows : (w : CoffForm) (n : Object) (line : Line) → length (line_rows w n line) ≡ line_size line
unfolding line_rows
length-line_rows w n line = grind arith

pub length-entry_rows : (w : CoffForm) (n : Object) → length (entry_rows w n) ≡ entry_count w n
length-entry_rows w n = omega (arith, length-laid_rows line_size (line_rows w n) 0 (lines_of w n) (λ k x h. length-line_rows w n x))

pub entries_are_rows : (w : CoffForm) (n : Object) (j : ℕ) (x : List ℕ) → slice_get (entry_rows w n) j ≡ Some x → IsRow (shape_of w) x
entries_are_rows w n = each_flat_map (IsRow (shape_of w)) (λ (l : Laid Line). line_rows w n l.part) (numbered_lines w n) (λ k l h. line_is_rows w n l.part)

-- the size of each part
pub header_is_eight : (w : CoffForm) (n : Object) (x : ℕ × Section) → length (header_at w n x).Name ≡ 8
unfolding header_at
header_is_eight w n x = length-section_field w n x.1.name

pub part_sized : (w : CoffForm) (n : Object) (part : Part) → length (part_bytes w n part) ≡ part_size w n part
unfolding part_bytes raw_of
part_sized w n FileHead = length-file_header_bytes (shape_of w) (file_header w n)
part_sized w n SectionHeads =
    length-entries section_header_bytes 40 (headers_of w n) (each_map (λ h. length (section_header_bytes h) ≡ 40) (header_at w n) (enumerate_from 0 n.sections)
    (λ k x h. length-section_header_bytes (header_at w n x) (header_is_eight w n x)))
    ∙ ap (λ m. 40 * m) (length-map (enumerate_from 0 n.sections) (header_at w n) ∙ length-enumerate_from 0 n.sections)
part_sized w n (Raw k s) = length-overlay (field_patches w n k) 0 s.bytes
part_sized w n (Relocs k s) = length-table relocation_bytes 10 (with_count (relocs_of w (numbered_lines w n) n k)) length-relocation_bytes
part_sized w n SymbolTable = length-entries (λ (row : List ℕ). row) (symbol_size (shape_of w)) (entry_rows w n) (entries_are_rows w n) ∙ ap (λ m. symbol_size (shape_of w) * m) (length-entry_rows w n)
part_sized w n StringTable = length-append (bytes_of_number 4 (4 + length (text_of w n))) (text_of w n) ∙ ap (λ m. m + length (text_of w n)) (length-bytes_of_number 4 (4 + length (text_of w n)))

-- ... places

-- a part of a section is one of a section that is there
abbrev pub IsPartOf : Object → Part → Type 0
IsPartOf n FileHead = Unit {0}
IsPartOf n SectionHeads = Unit {0}
IsPartOf n (Raw k s) = slice_get n.sections k ≡ Some s
IsPartOf n (Relocs k s) = slice_get n.sections k ≡ Some s
IsPartOf n SymbolTable = Unit {0}
IsPartOf n StringTable = Unit {0}

-- the parts before the symbol table
abbrev pub front_parts : Object → List Part
front_parts n = FileHead ∷ SectionHeads ∷ flat_map section_parts (enumerate_from 0 n.sections)

abbrev pub back_parts : List Part
back_parts = SymbolTable ∷ StringTable ∷ []

pub parts_split : (n : Object) → parts_of n ≡ front_parts n ++ back_parts
unfolding parts_of
parts_split n = refl

in_front : (n : Object) (k : ℕ) (x : Part) → slice_get (front_parts n) k ≡ Some x → IsPartOf n x
in_front n zero x here = subst (IsPartOf n) (same_Some FileHead x here) tt
in_front n (suc zero) x here = subst (IsPartOf n) (same_Some SectionHeads x here) tt
in_front n (suc (suc k)) x here = each_flat_map (IsPartOf n) section_parts (enumerate_from 0 n.sections) (each_enumerated (λ y. (k : ℕ) (z : Part) → slice_get (section_parts y) k ≡ Some z → IsPartOf n z) 0 n.sections own) k x here
  where
    own : (j : ℕ) (s : Section) → slice_get n.sections j ≡ Some s → (k : ℕ) (z : Part) → slice_get (section_parts (0 + j, s)) k ≡ Some z → IsPartOf n z
    own j s there k z h = grind arith

-- which are not the symbol table
in_front_no_table : (n : Object) (k : ℕ) (x : Part) → slice_get (front_parts n) k ≡ Some x → is_symbol_table x ≡ false
in_front_no_table n zero x here = ap is_symbol_table (sym (same_Some FileHead x here))
in_front_no_table n (suc zero) x here = ap is_symbol_table (sym (same_Some SectionHeads x here))
in_front_no_table n (suc (suc k)) x here = each_flat_map (λ z. is_symbol_table z ≡ false) section_parts (enumerate_from 0 n.sections) (λ j y h. own y) k x here
  where
    own : (y : ℕ × Section) (k : ℕ) (z : Part) → slice_get (section_parts y) k ≡ Some z → is_symbol_table z ≡ false
    own y k z h = grind arith

in_back : (n : Object) (k : ℕ) (x : Part) → slice_get back_parts k ≡ Some x → IsPartOf n x
in_back n k x here = grind arith

pub part_is_there : (n : Object) (k : ℕ) (x : Part) → slice_get (parts_of n) k ≡ Some x → IsPartOf n x
part_is_there n k x here = each_append (IsPartOf n) (front_parts n) back_parts (in_front n) (in_back n) k x (ap (λ xs. slice_get xs k) (sym (parts_split n)) ∙ here)

-- a part that is raw is the section's
raw_is : (n : Object) (k : ℕ) (s : Section) → slice_get n.sections k ≡ Some s → (x : Part) → IsPartOf n x → is_raw k x ≡ true → x ≡ Raw k s
raw_is n k s here FileHead is e = absurd (true≢false (sym e))
raw_is n k s here SectionHeads is e = absurd (true≢false (sym e))
raw_is n k s here (Raw j t) is e =
    let same : j ≡ k = eqb-true j k e in
    ap (λ i. Raw i t) same ∙ ap (Raw k) (same_Some t s (sym is ∙ ap (slice_get n.sections) same ∙ here))
raw_is n k s here (Relocs j t) is e = absurd (true≢false (sym e))
raw_is n k s here SymbolTable is e = absurd (true≢false (sym e))
raw_is n k s here StringTable is e = absurd (true≢false (sym e))

relocs_is : (n : Object) (k : ℕ) (s : Section) → slice_get n.sections k ≡ Some s → (x : Part) → IsPartOf n x → is_relocs k x ≡ true → x ≡ Relocs k s
relocs_is n k s here FileHead is e = absurd (true≢false (sym e))
relocs_is n k s here SectionHeads is e = absurd (true≢false (sym e))
relocs_is n k s here (Raw j t) is e = absurd (true≢false (sym e))
relocs_is n k s here (Relocs j t) is e =
    let same : j ≡ k = eqb-true j k e in
    ap (λ i. Relocs i t) same ∙ ap (Relocs k) (same_Some t s (sym is ∙ ap (slice_get n.sections) same ∙ here))
relocs_is n k s here SymbolTable is e = absurd (true≢false (sym e))
relocs_is n k s here StringTable is e = absurd (true≢false (sym e))

-- the parts of a section are there
member_part : (n : Object) (k j : ℕ) (s : Section) (x : Part) → slice_get n.sections k ≡ Some s → slice_get (section_parts (0 + k, s)) j ≡ Some x
    → (i : ℕ) × (slice_get (parts_of n) i ≡ Some x)
member_part n k j s x here there =
    let m = member_flat_map section_parts (enumerate_from 0 n.sections) k j (0 + k, s) x (member_enumerated 0 n.sections k s here) there in
    let front : slice_get (front_parts n) (suc (suc m.0)) ≡ Some x = m.1 in
    (suc (suc m.0), ap (λ xs. slice_get xs (suc (suc m.0))) (parts_split n) ∙ member_first (front_parts n) back_parts (suc (suc m.0)) x front)

rises : (at : ℕ) (x : Part) → at ≤ behind at x
rises at x = omega arith

-- the part is that one
abbrev is_head : Part → Bool
is_head FileHead = true
is_head SectionHeads = false
is_head (Raw k s) = false
is_head (Relocs k s) = false
is_head SymbolTable = false
is_head StringTable = false

-- a part that is found and is not the file header stands behind it
past_head : (w : CoffForm) (n : Object) (test : Part → Bool) (x : Part) (m : ℕ) → slice_get (parts_of n) m ≡ Some x → test x ≡ true → test FileHead ≡ false
    → ((j : ℕ) (y : Part) → slice_get (parts_of n) j ≡ Some y → test y ≡ true → y ≡ x) → 20 ≤ place_where test (laid_parts w n)
unfolding parts_of
past_head w n test x zero here passes fails one = absurd (true≢false (sym passes ∙ ap test (sym (same_Some FileHead x here)) ∙ fails))
past_head w n test x (suc m) here passes fails one =
    let past = place_past behind (part_size w n) test 0 FileHead (SectionHeads ∷ flat_map section_parts (enumerate_from 0 n.sections) ++ back_parts) m x rises fails here passes (λ j z h t. one (suc j) z h t) in
    let least = header_least (shape_of w) in
    omega (arith, past, least)

-- the bytes of a section are as many as it holds
pub length-raw : (w : CoffForm) (n : Object) (k : ℕ) (s : Section) → length (raw_of w n k s) ≡ length s.bytes
unfolding raw_of
length-raw w n k s = length-overlay (field_patches w n k) 0 s.bytes

-- the part is that one
abbrev is_heads : Part → Bool
is_heads FileHead = false
is_heads SectionHeads = true
is_heads (Raw k s) = false
is_heads (Relocs k s) = false
is_heads SymbolTable = false
is_heads StringTable = false

module _ (w : CoffForm) (n : Object) where
  sized : (j : ℕ) (y : Part) → slice_get (parts_of n) j ≡ Some y → length (part_bytes w n y) ≡ part_size w n y
  sized j y h = part_sized w n y

  pub stands_raw : (k : ℕ) (s : Section) → slice_get n.sections k ≡ Some s → Stands (coff_file w n) (place_where (is_raw k) (laid_parts w n)) (raw_of w n k s)
  unfolding coff_file part_bytes
  stands_raw k s here =
      let e : 0 + k ≡ k = omega arith in
      let m = member_part n k 0 s (Raw (0 + k) s) here refl in
      stands_where behind (part_size w n) (part_bytes w n) (is_raw k) (parts_of n) m.0 (Raw k s) rises sized
      (m.1 ∙ ap (λ i. Some (Raw i s)) e) (eq-eqb k k refl) (λ j y h t. raw_is n k s here y (part_is_there n j y h) t)

  pub stands_relocs : (k : ℕ) (s : Section) → slice_get n.sections k ≡ Some s
      → Stands (coff_file w n) (place_where (is_relocs k) (laid_parts w n)) (flat_map relocation_bytes (with_count (relocs_of w (numbered_lines w n) n k)))
  unfolding coff_file part_bytes
  stands_relocs k s here =
      let e : 0 + k ≡ k = omega arith in
      let m = member_part n k 1 s (Relocs (0 + k) s) here refl in
      stands_where behind (part_size w n) (part_bytes w n) (is_relocs k) (parts_of n) m.0 (Relocs k s) rises sized
      (m.1 ∙ ap (λ i. Some (Relocs i s)) e) (eq-eqb k k refl) (λ j y h t. relocs_is n k s here y (part_is_there n j y h) t)

  -- they stand behind the file header
  pub raw_past : (k : ℕ) (s : Section) → slice_get n.sections k ≡ Some s → 20 ≤ place_where (is_raw k) (laid_parts w n)
  raw_past k s here =
      let e : 0 + k ≡ k = omega arith in
      let m = member_part n k 0 s (Raw (0 + k) s) here refl in
      past_head w n (is_raw k) (Raw k s) m.0 (m.1 ∙ ap (λ i. Some (Raw i s)) e) (eq-eqb k k refl) refl (λ j y h t. raw_is n k s here y (part_is_there n j y h) t)

  -- where the symbol table begins
  abbrev pub table_place : ℕ
  table_place = laid_end behind (part_size w n) 0 (front_parts n)

  pub table_past : 20 ≤ table_place
  table_past =
      let least = header_least (shape_of w) in
      let behind_it = laid_end_from (part_size w n) (0 + header_size (shape_of w)) (SectionHeads ∷ flat_map section_parts (enumerate_from 0 n.sections)) in
      omega (arith, least, behind_it)

  pub table_place_is : place_where is_symbol_table (laid_parts w n) ≡ table_place
  table_place_is =
      ap (λ xs. place_where is_symbol_table (laid behind (part_size w n) 0 xs)) (parts_split n)
      ∙ place_behind behind (part_size w n) is_symbol_table 0 (front_parts n) back_parts (in_front_no_table n)

  -- the file is its front, the symbols and the strings
  front_bytes : List ℕ
  front_bytes = joined (part_bytes w n) 0 (laid behind (part_size w n) 0 (front_parts n))

  back_bytes : List ℕ
  back_bytes = joined (part_bytes w n) table_place (laid behind (part_size w n) table_place back_parts)

  file_split : coff_file w n ≡ front_bytes ++ back_bytes
  unfolding coff_file front_bytes back_bytes
  file_split =
      ap (λ xs. joined (part_bytes w n) 0 (laid behind (part_size w n) 0 xs)) (parts_split n)
      ∙ joined_append (part_bytes w n) (part_size w n) 0 (front_parts n) back_parts (λ k x h. part_sized w n x)

  length-front : length front_bytes ≡ table_place
  unfolding front_bytes
  length-front = let l = length-joined behind (part_size w n) rises (part_bytes w n) 0 (front_parts n) (λ k x h. part_sized w n x) in omega (arith, l)

  abbrev symbol_bytes_all : List ℕ
  symbol_bytes_all = flat_map (λ (row : List ℕ). row) (entry_rows w n)

  back_is : back_bytes ≡ symbol_bytes_all ++ string_table w n
  unfolding back_bytes part_bytes
  back_is =
      let size : length symbol_bytes_all ≡ symbol_size (shape_of w) * entry_count w n = part_sized w n SymbolTable in
      let none : table_place - table_place ≡ 0 = omega arith in
      let gone : table_place + symbol_size (shape_of w) * entry_count w n - (table_place + length symbol_bytes_all) ≡ 0 = omega (arith, size) in
      rw (none, gone) (ap (λ zs. symbol_bytes_all ++ zs) (simp append-nil))

  pub stands_symbols : Stands (coff_file w n) table_place symbol_bytes_all
  stands_symbols = subst (λ file. Stands file table_place symbol_bytes_all) (sym (file_split ∙ ap (λ zs. front_bytes ++ zs) back_is))
      (stands_second front_bytes (symbol_bytes_all ++ string_table w n) symbol_bytes_all 0 table_place (stands_first symbol_bytes_all (string_table w n)) (omega (arith, length-front)))

  pub stands_strings : Stands (coff_file w n) (table_place + symbol_size (shape_of w) * entry_count w n) (string_table w n)
  unfolding part_bytes
  stands_strings =
      let size : length symbol_bytes_all ≡ symbol_size (shape_of w) * entry_count w n = part_sized w n SymbolTable in
      subst (λ file. Stands file (table_place + symbol_size (shape_of w) * entry_count w n) (string_table w n)) (sym (file_split ∙ ap (λ zs. front_bytes ++ zs) back_is))
      (stands_second front_bytes (symbol_bytes_all ++ string_table w n) (string_table w n) (symbol_size (shape_of w) * entry_count w n) (table_place + symbol_size (shape_of w) * entry_count w n)
      (stands_second symbol_bytes_all (string_table w n) (string_table w n) 0 (symbol_size (shape_of w) * entry_count w n) (stands_whole (string_table w n)) (omega (arith, size))) (omega (arith, length-front)))

  -- the length of the file
  pub length-coff_file : length (coff_file w n) ≡ table_place + symbol_size (shape_of w) * entry_count w n + (4 + length (text_of w n))
  unfolding part_bytes
  length-coff_file =
      let size : length symbol_bytes_all ≡ symbol_size (shape_of w) * entry_count w n = part_sized w n SymbolTable in
      let strings : length (string_table w n) ≡ 4 + length (text_of w n) = part_sized w n StringTable in
      ap length (file_split ∙ ap (λ zs. front_bytes ++ zs) back_is)
      ∙ length-append front_bytes (symbol_bytes_all ++ string_table w n)
      ∙ ap (λ m. length front_bytes + m) (length-append symbol_bytes_all (string_table w n))
      ∙ omega (arith, size, strings, length-front)

  -- the headers
  pub stands_header : Stands (coff_file w n) 0 (file_header_bytes (shape_of w) (file_header w n))
  unfolding coff_file parts_of part_bytes
  stands_header = stands_where behind (part_size w n) (part_bytes w n) is_head (parts_of n) 0 FileHead rises sized refl refl only
    where
      only : (j : ℕ) (y : Part) → slice_get (parts_of n) j ≡ Some y → is_head y ≡ true → y ≡ FileHead
      only j y h e = grind arith

  pub stands_headers : Stands (coff_file w n) (header_size (shape_of w)) (flat_map section_header_bytes (headers_of w n))
  unfolding coff_file parts_of part_bytes
  stands_headers =
      let at : 0 + header_size (shape_of w) ≡ header_size (shape_of w) = omega arith in
      subst (λ place. Stands (coff_file w n) place (flat_map section_header_bytes (headers_of w n))) at
      (stands_where behind (part_size w n) (part_bytes w n) is_heads (parts_of n) 1 SectionHeads rises sized refl refl only)
    where
      only : (j : ℕ) (y : Part) → slice_get (parts_of n) j ≡ Some y → is_heads y ≡ true → y ≡ SectionHeads
      only j y h e = grind arith
