-- What a file has whose header has no fault.
use Rattle.oc_coff.specs.{declared.form.Shape.{Shape}, declared.form.Shape.TheVariants.{Usual, Big}, SymbolEntry.{symbol_at}}
use Rattle.oc_coff.specs.Tables.{slot_at, section_table, section_tables, entries_of, strings_place, strings_size, has_strings, tables_of}
use Rattle.oc_coff.specs.{Files.{CoffFile, slot_in, tables_in}, Forms.{symbol_size, header_size}, declared.file_header.FileHeader.{FileHeader}}
use Rattle.oc_coff.specs.{FileHeader.{file_header_of}, SectionHeader.{section_header_at}, HeaderFaults.{header_conditions}, Head.{IsHeaded}}
use Rattle.std.proofs.Common.{◌≡◌, ℕ, ◌+◌, ◌*◌, ◌<◌, ◌≤◌, ◌^◌, Bool, true, false, cond, eqb, List, [], length, take, drop, None, Some, refl, sym, ◌∙◌, ap, subst, arith}
use Rattle.std.specs.{Prelude.{not, ◌&&◌, nat_lt, slice_get}, Option.{option_map}}
use Rattle.std.proofs.lemmas.{Bool.{eqb-true, true≢false}, Bool.Decides.{nat_tests}, List.{length-map}, Option.{slice_get-map}}
use Rattle.oc_linking.specs.FirstFault.{first_broken}
use Rattle.oc_shelf.specs.Reading.Rows.{rows}
use Rattle.oc_shelf.proofs.{ReadingLaws.StageLemmas.{all_hold}, ReadingLaws.RowLemmas.{length-rows, row_at}}

-- the header is there, and what it places lies in the file
pub record HasTables (file : CoffFile) (h : FileHeader) : Type 0 where
  pub there : header_size file.shape ≤ length file.bytes
  pub sections : header_size file.shape + 40 * h.NumberOfSections ≤ length file.bytes
  pub symbols : h.PointerToSymbolTable + symbol_size file.shape * h.NumberOfSymbols ≤ length file.bytes
  pub strings : has_strings file.shape file.bytes h ≡ true → (strings_place file.shape h + 4 ≤ length file.bytes) × (strings_place file.shape h + strings_size file.shape file.bytes h ≤ length file.bytes)

within : (a b : ℕ) → nat_lt a b ≡ false → b ≤ a
within a b e = grind (arith, nat_tests)

after : (a b : Bool) → (a && b) ≡ false → a ≡ true → b ≡ false
after true b e h = e
after false b e h = absurd (true≢false (sym h))

symbols_lie : (m size p n : ℕ) → (eqb p 0 && not (eqb n 0)) ≡ false → (not (eqb p 0) && nat_lt size (p + m * n)) ≡ false → p + m * n ≤ size
symbols_lie m size p n a b = elim (eqb p 0) as (λ c. eqb p 0 ≡ c → (c && not (eqb n 0)) ≡ false → (not c && nat_lt size (p + m * n)) ≡ false → p + m * n ≤ size) [
  | true ↦ λ e a b. elim (eqb n 0) as (λ d. eqb n 0 ≡ d → not d ≡ false → p + m * n ≤ size) [
    | true ↦ λ f g. let zero_p : p ≡ 0 = eqb-true p 0 e in let zero_n : n ≡ 0 = eqb-true n 0 f in let none : m * n ≡ 0 = ap (λ k. m * k) zero_n ∙ omega arith in omega (arith, zero_p, none)
    | false ↦ λ f g. absurd (true≢false g)
  ] refl a
  | false ↦ λ e a b. within size (p + m * n) b
] refl a b

pub has_tables : (file : CoffFile) → first_broken (header_conditions file.shape file.bytes (file_header_of file.shape file.bytes)) ≡ None → HasTables file (file_header_of file.shape file.bytes)
unfolding header_conditions
has_tables file clean =
    let h : FileHeader = file_header_of file.shape file.bytes in
    let holds = all_hold (header_conditions file.shape file.bytes h) clean in
    let a = holds.0 in
    let d = holds.1.1.1.0 in
    let e = holds.1.1.1.1 in
    record {
      there = let l = within (length file.bytes) (0 + header_size file.shape) a in omega (arith, l);
      sections = within (length file.bytes) (header_size file.shape + 40 * h.NumberOfSections) d;
      symbols = symbols_lie (symbol_size file.shape) (length file.bytes) h.PointerToSymbolTable h.NumberOfSymbols holds.1.1.0 e.0;
      strings = λ has. (
        within (length file.bytes) (strings_place file.shape h + 4) (after (has_strings file.shape file.bytes h) _ e.1.0 has),
        within (length file.bytes) (strings_place file.shape h + strings_size file.shape file.bytes h) (after (has_strings file.shape file.bytes h) _ e.1.1.1.0 has),
      );
    }

pub headed : (file : CoffFile) → IsHeaded file → HasTables file (file_header_of file.shape file.bytes)
headed file is = has_tables file is.clean

-- ... the tables by their entries

pub length-sections : (file : CoffFile) → length (tables_in file).sections ≡ (file_header_of file.shape file.bytes).NumberOfSections
unfolding tables_of section_tables
length-sections file = length-map (rows section_header_at 40 file.bytes (header_size file.shape) (file_header_of file.shape file.bytes).NumberOfSections) (section_table file.bytes) ∙ length-rows section_header_at 40 file.bytes (header_size file.shape) (file_header_of file.shape file.bytes).NumberOfSections

pub section_there : (file : CoffFile) (i : ℕ) → i < length (tables_in file).sections → slice_get (tables_in file).sections i ≡ Some (section_table file.bytes (section_header_at file.bytes (header_size file.shape + 40 * i)))
unfolding tables_of section_tables
section_there file i low =
    let long = length-sections file in
    slice_get-map (section_table file.bytes) (rows section_header_at 40 file.bytes (header_size file.shape) (file_header_of file.shape file.bytes).NumberOfSections) i
    ∙ ap (option_map (section_table file.bytes)) (row_at section_header_at 40 file.bytes (header_size file.shape) (file_header_of file.shape file.bytes).NumberOfSections i (omega (arith, low, long)))

pub length-entries : (file : CoffFile) → IsHeaded file → length (tables_in file).entries ≡ (file_header_of file.shape file.bytes).NumberOfSymbols
unfolding tables_of entries_of header_conditions
length-entries file is =
    let h : FileHeader = file_header_of file.shape file.bytes in
    let holds = all_hold (header_conditions file.shape file.bytes h) is.clean in
    elim (eqb h.PointerToSymbolTable 0) as (λ b. (b && not (eqb h.NumberOfSymbols 0)) ≡ false → length (cond b [] (rows (slot_at file.shape) (symbol_size file.shape) file.bytes h.PointerToSymbolTable h.NumberOfSymbols)) ≡ h.NumberOfSymbols) [
      | true ↦ λ e. sym (eqb-true h.NumberOfSymbols 0 (not_not (eqb h.NumberOfSymbols 0) e))
      | false ↦ λ e. length-rows (slot_at file.shape) (symbol_size file.shape) file.bytes h.PointerToSymbolTable h.NumberOfSymbols
    ] holds.1.1.0
  where
    not_not : (b : Bool) → not b ≡ false → b ≡ true
    not_not true e = refl
    not_not false e = absurd (true≢false e)

pub entry_there : (file : CoffFile) → IsHeaded file → (j : ℕ) → j < length (tables_in file).entries → slice_get (tables_in file).entries j ≡ Some (slot_in file ((tables_in file).entries_at + symbol_size file.shape * j))
unfolding tables_of entries_of
entry_there file is j low =
    let h : FileHeader = file_header_of file.shape file.bytes in
    let long = length-entries file is in
    let inside : j < h.NumberOfSymbols = omega (arith, low, long) in
    elim (eqb h.PointerToSymbolTable 0) as (λ b. j < length (cond b [] (rows (slot_at file.shape) (symbol_size file.shape) file.bytes h.PointerToSymbolTable h.NumberOfSymbols))
    → slice_get (cond b [] (rows (slot_at file.shape) (symbol_size file.shape) file.bytes h.PointerToSymbolTable h.NumberOfSymbols)) j ≡ Some (slot_in file (h.PointerToSymbolTable + symbol_size file.shape * j))) [
      | true ↦ λ low. absurd (omega (arith, low))
      | false ↦ λ low. row_at (slot_at file.shape) (symbol_size file.shape) file.bytes h.PointerToSymbolTable h.NumberOfSymbols j inside
    ] low

pub entries_begin : (file : CoffFile) → (tables_in file).entries_at ≡ (file_header_of file.shape file.bytes).PointerToSymbolTable
unfolding tables_of
entries_begin file = refl

-- an entry lies in the file
pub entry_lies : (file : CoffFile) → IsHeaded file → (j : ℕ) → j < length (tables_in file).entries
    → (tables_in file).entries_at + symbol_size file.shape * j + symbol_size file.shape ≤ length file.bytes
entry_lies file is j low =
    let lies = (headed file is).symbols in
    let long = length-entries file is in
    let begin = entries_begin file in
    by file.shape (file_header_of file.shape file.bytes).NumberOfSymbols (file_header_of file.shape file.bytes).PointerToSymbolTable (tables_in file).entries_at begin lies (omega (arith, low, long))
  where
    by : (z : Shape) (n p q : ℕ) → q ≡ p → p + symbol_size z * n ≤ length file.bytes → j < n → q + symbol_size z * j + symbol_size z ≤ length file.bytes
    by Usual n p q e l m = omega (arith, e, l, m)
    by Big n p q e l m = omega (arith, e, l, m)

-- how many sections there are
pub few_sections : (file : CoffFile) → IsHeaded file → length (tables_in file).sections < 2 ^ 21
few_sections file is =
    let lies = (headed file is).sections in
    let long = length-sections file in
    let small = is.small in
    omega (arith, lies, long, small)

-- the string table lies in the file
pub strings_lie : (file : CoffFile) → IsHeaded file → (h : FileHeader) → h ≡ file_header_of file.shape file.bytes → has_strings file.shape file.bytes h ≡ true → (strings_place file.shape h + 4 ≤ length file.bytes) × (strings_place file.shape h + strings_size file.shape file.bytes h ≤ length file.bytes)
strings_lie file is h same has =
    subst (λ (x : FileHeader). has_strings file.shape file.bytes x ≡ true → (strings_place file.shape x + 4 ≤ length file.bytes) × (strings_place file.shape x + strings_size file.shape file.bytes x ≤ length file.bytes)) (sym same) (headed file is).strings has

-- an entry is not shorter than the usual one, and begins with its name
pub wide_entry : (z : Shape) → 18 ≤ symbol_size z
wide_entry Usual = omega arith
wide_entry Big = omega arith

pub name_begins : (z : Shape) (file : List ℕ) (at : ℕ) → (symbol_at z file at).Name ≡ take 8 (drop at file)
unfolding symbol_at
name_begins Usual file at = refl
name_begins Big file at = refl
