-- The symbols of a canonical file, with their numbers.
use Rattle.std.proofs.Common.{◌≡◌, ℕ, suc, ◌+◌, cond, eqb, List, [], ◌∷◌, ◌++◌, length, map, Option, Some, None, refl, sym, ◌∙◌, ap, arith, append-nil}
use Rattle.std.specs.Prelude.{slice_get, flat_map}
use Rattle.std.proofs.lemmas.List.{length-map}
use Rattle.oc_coff.specs.{declared.form.CoffForm.{CoffForm}, declared.form.Shape.{Shape}, Forms.{shape_of}, declared.symbol.SymbolEntry.{SymbolEntry}}
use Rattle.oc_coff.specs.{SymbolEntry.{symbol_bytes}, SectionAux.{section_aux_at, section_aux_bytes, section_aux_numbers}}
use Rattle.oc_coff.specs.{WeakAux.{weak_aux_at, weak_aux_bytes, weak_aux_numbers}, Tables.{Slot, slot_at}, Entries.{Entry, first_of, symbols_from, entries_in}}
use Rattle.oc_coff.specs.Values.{aux_by}
use Rattle.oc_linking.specs.{declared.terms.Binding.{Binding}, declared.terms.Binding.TheVariants.{Local, Global, Undefined, Common, Weak}}
use Rattle.oc_linking.specs.declared.terms.Fallback.{Fallback}
use Rattle.oc_neutral.specs.{declared.section.Section.{Section}, Objects.{Object}}
use Rattle.oc_shelf.specs.Writing.Parts.{Laid, laid, behind}
use Rattle.oc_shelf.proofs.WritingLaws.PackedLemmas.{Fit}
use Rattle.oc_coff_file.specs.Lines.{Line, SectionLine, LocalLine, DefaultLine, OuterLine, lines_of, line_size, numbered_lines}
use Rattle.oc_coff_file.specs.Canonical.{line_entry, section_aux, weak_aux, outer_aux, line_aux, line_rows}
use Rattle.oc_coff_file.proofs.{StructureLaws.{FitSymbol, section_aux_at-bytes, weak_aux_at-bytes}, PartLaws.{field_is_eight, length-line_rows}}
use Rattle.oc_coff_file.proofs.TableLaws.{read_row, symbol_whole, made_tables}

-- entries that are passed over
pub symbols_past : (i : ℕ) (xs ys : List Slot) → symbols_from i (length xs) (xs ++ ys) ≡ symbols_from (i + length xs) 0 ys
symbols_past i [] ys = let e : i ≡ i + 0 = omega arith in ap (λ k. symbols_from k 0 ys) e
symbols_past i (x ∷ xs) ys = let e : i + 1 + length xs ≡ i + suc (length xs) = omega arith in symbols_past (i + 1) xs ys ∙ ap (λ k. symbols_from k 0 ys) e

-- the auxiliary entry of a symbol that is not Local
abbrev pub outer_slot : Shape → List (Laid Line) → ℕ → Binding → Option Slot
outer_slot z lines k (Local v) = None
outer_slot z lines k (Global v) = None
outer_slot z lines k Undefined = None
outer_slot z lines k (Common size align) = None
outer_slot z lines k (Weak f) = Some (read_row z (weak_aux_bytes z (weak_aux lines k f)))

-- the auxiliary entry of a line
abbrev pub line_slot : CoffForm → Object → Line → Option Slot
line_slot w n (SectionLine k s) = Some (read_row (shape_of w) (section_aux_bytes (shape_of w) (section_aux w n k s)))
line_slot w n (LocalLine k s) = None
line_slot w n (DefaultLine k s) = None
line_slot w n (OuterLine k s) = outer_slot (shape_of w) (numbered_lines w n) k s.binding

-- a line with its number, as the file has it
abbrev pub made_entry : CoffForm → Object → Laid Line → Entry
made_entry w n l = record { number = l.at; symbol = line_entry w n l.part; aux = line_slot w n l.part }

map_append : {X Y : Type 0} (f : X → Y) (xs ys : List X) → map f (xs ++ ys) ≡ map f xs ++ map f ys
map_append f [] ys = refl
map_append f (x ∷ xs) ys = ap (λ zs. f x ∷ zs) (map_append f xs ys)

-- the numbers of the entries fit
pub record IsEntered (w : CoffForm) (n : Object) : Type 0 where
  pub lines : (k : ℕ) (line : Line) → slice_get (lines_of w n) k ≡ Some line → FitSymbol (shape_of w) (line_entry w n line)

module _ (w : CoffForm) (n : Object) where
  abbrev aux_slot : List (List ℕ) → List Slot → Option Slot
  aux_slot aux rest = cond (eqb (length aux) 0) None (first_of (map (read_row (shape_of w)) aux ++ rest))

  outer_read : (lines : List (Laid Line)) (k : ℕ) (b : Binding) (rest : List Slot) → aux_slot (outer_aux (shape_of w) lines k b) rest ≡ outer_slot (shape_of w) lines k b
  outer_read lines k b rest = grind arith

  line_read : (line : Line) (rest : List Slot) → aux_slot (line_aux w n line) rest ≡ line_slot w n line
  line_read line rest = grind arith

  outer_count : (lines : List (Laid Line)) (k : ℕ) (b : Binding) → aux_by b ≡ length (outer_aux (shape_of w) lines k b)
  outer_count lines k b = grind arith

  pub aux_count : (line : Line) → (line_entry w n line).NumberOfAuxSymbols ≡ length (line_aux w n line)
  aux_count line = grind arith

  pub sized_aux : (line : Line) → 1 + length (line_aux w n line) ≡ line_size line
  unfolding line_rows
  sized_aux line = let e = length-line_rows w n line in omega (arith, e)

  -- one line before others
  entry_step : (i : ℕ) (line : Line) (rest : List (List ℕ)) (es : List Entry) → FitSymbol (shape_of w) (line_entry w n line)
      → symbols_from (i + line_size line) 0 (map (read_row (shape_of w)) rest) ≡ es
      → symbols_from i 0 (map (read_row (shape_of w)) (line_rows w n line ++ rest)) ≡ made_entry w n (record { at = i; part = line }) ∷ es
  unfolding line_rows slot_at
  entry_step i line rest es fit later =
      let e : SymbolEntry = line_entry w n line in
      let aux : List Slot = map (read_row (shape_of w)) (line_aux w n line) in
      let behind_it : List Slot = map (read_row (shape_of w)) rest in
      let own : (read_row (shape_of w) (symbol_bytes (shape_of w) e)).symbol ≡ e = symbol_whole (shape_of w) e (field_is_eight w n line) fit in
      let many : length aux ≡ length (line_aux w n line) = length-map (line_aux w n line) (read_row (shape_of w)) in
      let next : i + 1 + length aux ≡ i + line_size line = omega (arith, many, sized_aux line) in
      let first : SymbolEntry → List Slot → List Entry = λ s zs. record { number = i; symbol = s; aux = cond (eqb s.NumberOfAuxSymbols 0) None (first_of zs) } ∷ symbols_from (i + 1) s.NumberOfAuxSymbols zs in
      ap (λ s. first s (map (read_row (shape_of w)) (line_aux w n line ++ rest))) own
      ∙ ap (first e) (map_append (read_row (shape_of w)) (line_aux w n line) rest)
      ∙ ap (λ c. record { number = i; symbol = e; aux = cond (eqb c 0) None (first_of (aux ++ behind_it)) } ∷ symbols_from (i + 1) c (aux ++ behind_it)) (aux_count line)
      ∙ ap (λ t. record { number = i; symbol = e; aux = t } ∷ symbols_from (i + 1) (length (line_aux w n line)) (aux ++ behind_it)) (line_read line behind_it)
      ∙ ap (λ es. made_entry w n (record { at = i; part = line }) ∷ es) (
      ap (λ c. symbols_from (i + 1) c (aux ++ behind_it)) (sym many) ∙ symbols_past (i + 1) aux behind_it ∙ ap (λ k. symbols_from k 0 behind_it) next ∙ later)

  -- the symbols of lines
  pub symbols_made : (i : ℕ) (lines : List Line) → ((k : ℕ) (line : Line) → slice_get lines k ≡ Some line → FitSymbol (shape_of w) (line_entry w n line))
      → symbols_from i 0 (map (read_row (shape_of w)) (flat_map (λ (l : Laid Line). line_rows w n l.part) (laid behind line_size i lines))) ≡ map (made_entry w n) (laid behind line_size i lines)
  symbols_made i [] fit = refl
  symbols_made i (line ∷ lines) fit =
      entry_step i line (flat_map (λ (l : Laid Line). line_rows w n l.part) (laid behind line_size (i + line_size line) lines)) (map (made_entry w n) (laid behind line_size (i + line_size line) lines))
      (fit 0 line refl) (symbols_made (i + line_size line) lines (λ k x h. fit (suc k) x h))

  pub entries_made : IsEntered w n → entries_in (made_tables w n) ≡ map (made_entry w n) (numbered_lines w n)
  unfolding entries_in made_tables
  entries_made is = symbols_made 0 (lines_of w n) is.lines

-- what auxiliary entries say
pub section_said : (w : CoffForm) (n : Object) (k : ℕ) (s : Section) → Fit (section_aux_numbers (shape_of w) (section_aux w n k s)) → (read_row (shape_of w) (section_aux_bytes (shape_of w) (section_aux w n k s))).section ≡ section_aux w n k s
unfolding slot_at
section_said w n k s fit = ap (λ zs. section_aux_at (shape_of w) zs 0) (sym (simp append-nil)) ∙ section_aux_at-bytes (shape_of w) (section_aux w n k s) [] fit

pub weak_said : (z : Shape) (lines : List (Laid Line)) (k : ℕ) (f : Fallback) → Fit (weak_aux_numbers z (weak_aux lines k f)) → (read_row z (weak_aux_bytes z (weak_aux lines k f))).weak ≡ weak_aux lines k f
unfolding slot_at
weak_said z lines k f fit = ap (λ zs. weak_aux_at zs 0) (sym (simp append-nil)) ∙ weak_aux_at-bytes z (weak_aux lines k f) [] fit
