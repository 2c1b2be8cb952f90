-- The lines of an object: what they are, where they are found, and that they are those by which symbols are seen.
use Rattle.std.proofs.Common.{◌≡◌, ℕ, zero, suc, ◌+◌, ◌≤◌, Bool, true, false, cond, not, ◌&&◌, List, [], ◌∷◌, ◌++◌, length, map, Option, Some, None, refl, sym, ◌∙◌, ap, subst, inl, inr, arith}
use Rattle.std.specs.{Prelude.{slice_get, nat_eq, filter, filter_map, flat_map}, List.{enumerate_from, cons_option}, Option.{option_map_or}}
use Rattle.std.proofs.lemmas.{Bool.{true≢false, eq-eqb, and_parts}, Option.{none-some, same_Some}}
use Rattle.oc_coff.specs.{declared.form.CoffForm.{CoffForm}, Forms.{format_of}}
use Rattle.oc_linking.specs.{declared.terms.Binding.{Binding}, Parts.{is_local}}
use Rattle.oc_neutral.specs.{declared.section.Section.{Section}, declared.symbol.Symbol.{Symbol}, Objects.{Object}, Normal.{Place}}
use Rattle.oc_neutral.specs.{KeySymbols.{global_place, is_key_at}, WrittenSymbols.{is_written}}
use Rattle.oc_shows.specs.SymbolLines.{silent, one, coff_entries, needs_default, is_weak_with, coff_section_lines, coff_lines}
use Rattle.oc_shows.proofs.SeenFamilies.{coff_table}
use Rattle.oc_shelf.specs.Writing.Parts.{Laid, behind}
use Rattle.oc_shelf.proofs.WritingLaws.PartLemmas.{IsFound, place_found, laid_part, laid_same}
use Rattle.oc_shelf.proofs.WritingLaws.MemberLemmas.{member_first, member_second, member_map, member_enumerated, member_flat_map, each_append, each_map, each_flat_map, each_enumerated, of_append, of_map, map-map, map-alike, keyed_once, member_filter}
use Rattle.oc_coff_file.specs.Lines.{Line, SectionLine, LocalLine, DefaultLine, OuterLine, placed_symbols, lines_where, section_lines, is_written_local, is_free, lines_of, line_size, numbered_lines, is_section_line, is_default_line, is_outer_line}
use Rattle.oc_shows.specs.SymbolLines as table

-- what a line stands for is there
abbrev pub IsLineOf : CoffForm → Object → Line → Type 0
IsLineOf w n (SectionLine k s) = slice_get n.sections k ≡ Some s
IsLineOf w n (LocalLine k s) = (slice_get n.symbols k ≡ Some s) × (is_local s.binding ≡ true) × (is_written (format_of w) s ≡ true)
IsLineOf w n (DefaultLine k s) = (slice_get n.symbols k ≡ Some s) × (needs_default s ≡ true)
IsLineOf w n (OuterLine k s) = (slice_get n.symbols k ≡ Some s) × (is_local s.binding ≡ false)

zero_behind : (k : ℕ) → 0 + k ≡ k
zero_behind k = omega arith

-- members of a filtered list
pub each_filter : {X : Type 0} (P : X → Type 0) (test : X → Bool) (xs : List X) → ((k : ℕ) (x : X) → slice_get xs k ≡ Some x → test x ≡ true → P x) → (k : ℕ) (x : X) → slice_get (filter test xs) k ≡ Some x → P x
each_filter P test [] each k x here = absurd (none-some x here)
each_filter {X} P test (y ∷ xs) each k x here = by (test y) (each 0 y refl) (λ j h. each_filter P test xs (λ i z e. each (suc i) z e) j x h) k here
  where
    by : (b : Bool) → (b ≡ true → P y) → ((j : ℕ) → slice_get (filter test xs) j ≡ Some x → P x) → (k : ℕ) → slice_get (cond b (y ∷ filter test xs) (filter test xs)) k ≡ Some x → P x
    by true own rest zero h = subst P (same_Some y x h) (own refl)
    by true own rest (suc k) h = rest k h
    by false own rest k h = rest k h

-- a line as seeing counts it
abbrev pub counted_line : Line → table.Line
counted_line (SectionLine k s) = silent 2
counted_line (LocalLine k s) = record { entries = 1; shows = Some k }
counted_line (DefaultLine k s) = silent 1
counted_line (OuterLine k s) = record { entries = coff_entries s; shows = Some k }

module _ (w : CoffForm) (n : Object) where
  -- ... what lines are

  in_symbols : (line : ℕ → Symbol → Line) (test : Symbol → Bool) → ((j : ℕ) (s : Symbol) → slice_get n.symbols j ≡ Some s → test s ≡ true → IsLineOf w n (line j s))
      → (k : ℕ) (x : Line) → slice_get (lines_where line test n) k ≡ Some x → IsLineOf w n x
  in_symbols line test each =
      each_map (IsLineOf w n) (λ (x : ℕ × Symbol). line x.0 x.1) (filter (λ (x : ℕ × Symbol). test x.1) (placed_symbols n))
      (each_filter (λ (x : ℕ × Symbol). IsLineOf w n (line x.0 x.1)) (λ (x : ℕ × Symbol). test x.1) (placed_symbols n)
      (each_enumerated (λ (x : ℕ × Symbol). test x.1 ≡ true → IsLineOf w n (line x.0 x.1)) 0 n.symbols (λ j s h passes.
      subst (λ i. IsLineOf w n (line i s)) (sym (zero_behind j)) (each j s h passes))))

  key_outer : (k : ℕ) (s : Symbol) → is_key_at n k s ≡ true → is_local s.binding ≡ false
  key_outer k s e = by s.binding (and_parts _ _ e).0
    where
      by : (b : Binding) → option_map_or (λ (place : Place). nat_eq place.0 k) (global_place b) false ≡ true → is_local b ≡ false
      by b e = grind arith

  free_outer : (s : Symbol) → is_free n s ≡ true → is_local s.binding ≡ false
  free_outer s e = by (is_local s.binding) (and_parts _ _ e).0
    where
      by : (b : Bool) → not b ≡ true → b ≡ false
      by b e = grind arith

  in_section : (j : ℕ) (s : Section) → slice_get n.sections j ≡ Some s → (k : ℕ) (x : Line) → slice_get (section_lines n (j, s)) k ≡ Some x → IsLineOf w n x
  in_section j s here zero x h = subst (IsLineOf w n) (same_Some (SectionLine j s) x h) here
  in_section j s here (suc k) x h = in_symbols OuterLine (is_key_at n j) (λ i t there key. (there, key_outer j t key)) k x h

  in_sections : (k : ℕ) (x : Line) → slice_get (flat_map (section_lines n) (enumerate_from 0 n.sections)) k ≡ Some x → IsLineOf w n x
  in_sections = each_flat_map (IsLineOf w n) (section_lines n) (enumerate_from 0 n.sections)
      (each_enumerated (λ y. (k : ℕ) (x : Line) → slice_get (section_lines n y) k ≡ Some x → IsLineOf w n x) 0 n.sections (λ j s h.
      subst (λ i. (k : ℕ) (x : Line) → slice_get (section_lines n (i, s)) k ≡ Some x → IsLineOf w n x) (sym (zero_behind j)) (in_section j s h)))

  abbrev first_lines : List Line
  first_lines = flat_map (section_lines n) (enumerate_from 0 n.sections)

  abbrev local_lines : List Line
  local_lines = lines_where LocalLine (is_written_local w) n

  abbrev default_lines : List Line
  default_lines = lines_where DefaultLine needs_default n

  abbrev free_lines : List Line
  free_lines = lines_where OuterLine (is_free n) n

  pub line_is_of : (k : ℕ) (x : Line) → slice_get (lines_of w n) k ≡ Some x → IsLineOf w n x
  unfolding lines_of
  line_is_of = each_append (IsLineOf w n) first_lines (local_lines ++ (default_lines ++ free_lines)) in_sections
      (each_append (IsLineOf w n) local_lines (default_lines ++ free_lines) (in_symbols LocalLine (is_written_local w) (λ j s h passes. let p = and_parts _ _ passes in (h, p.0, p.1)))
      (each_append (IsLineOf w n) default_lines free_lines (in_symbols DefaultLine needs_default (λ j s h passes. (h, passes)))
      (in_symbols OuterLine (is_free n) (λ j s h passes. (h, free_outer s passes)))))

  -- ... the lines by which symbols are seen

  counted_where : (line : ℕ → Symbol → Line) (entries : Symbol → ℕ) (test : Symbol → Bool)
      → ((k : ℕ) (s : Symbol) → test s ≡ true → counted_line (line k s) ≡ record { entries = entries s; shows = Some k })
      → map counted_line (lines_where line test n) ≡ table.lines_where test entries n.symbols
  counted_where line entries test same =
      let passed : List (ℕ × Symbol) = filter (λ (x : ℕ × Symbol). test x.1) (placed_symbols n) in
      map-map counted_line (λ (x : ℕ × Symbol). line x.0 x.1) passed
      ∙ map-alike (λ (x : ℕ × Symbol). counted_line (line x.0 x.1)) (λ (x : ℕ × Symbol). record { entries = entries x.1; shows = Some x.0 }) passed
      (each_filter (λ (x : ℕ × Symbol). counted_line (line x.0 x.1) ≡ record { entries = entries x.1; shows = Some x.0 }) (λ (x : ℕ × Symbol). test x.1) (placed_symbols n)
      (λ j x h passes. same x.0 x.1 passes))

  counted_defaults : map counted_line default_lines ≡ map (λ (s : Symbol). silent 1) (filter needs_default n.symbols)
  counted_defaults = by 0 n.symbols
    where
      by : (i : ℕ) (xs : List Symbol) → map counted_line (map (λ (x : ℕ × Symbol). DefaultLine x.0 x.1) (filter (λ (x : ℕ × Symbol). needs_default x.1) (enumerate_from i xs)))
          ≡ map (λ (s : Symbol). silent 1) (filter needs_default xs)
      by i [] = refl
      by i (s ∷ xs) = step (needs_default s) (by (i + 1) xs)
        where
          step : (b : Bool) → map counted_line (map (λ (x : ℕ × Symbol). DefaultLine x.0 x.1) (filter (λ (x : ℕ × Symbol). needs_default x.1) (enumerate_from (i + 1) xs))) ≡ map (λ (s : Symbol). silent 1) (filter needs_default xs)
              → map counted_line (map (λ (x : ℕ × Symbol). DefaultLine x.0 x.1) (cond b ((i, s) ∷ filter (λ (x : ℕ × Symbol). needs_default x.1) (enumerate_from (i + 1) xs)) (filter (λ (x : ℕ × Symbol). needs_default x.1) (enumerate_from (i + 1) xs))))
              ≡ map (λ (s : Symbol). silent 1) (cond b (s ∷ filter needs_default xs) (filter needs_default xs))
          step true e = ap (λ ls. silent 1 ∷ ls) e
          step false e = e

  map_append : {X Y : Type 0} (f : X → Y) (xs ys : List X) → map f (xs ++ ys) ≡ map f xs ++ map f ys
  map_append f [] ys = refl
  map_append f (x ∷ xs) ys = ap (λ zs. f x ∷ zs) (map_append f xs ys)

  counted_sections : (i : ℕ) (xs : List Section) → map counted_line (flat_map (section_lines n) (enumerate_from i xs)) ≡ flat_map (coff_section_lines n) (enumerate_from i xs)
  counted_sections i [] = refl
  counted_sections i (s ∷ xs) =
      map_append counted_line (section_lines n (i, s)) (flat_map (section_lines n) (enumerate_from (i + 1) xs))
      ∙ ap (λ ls. (silent 2 ∷ ls) ++ map counted_line (flat_map (section_lines n) (enumerate_from (i + 1) xs))) keys
      ∙ ap (λ ls. coff_section_lines n (i, s) ++ ls) (counted_sections (i + 1) xs)
    where
      single : (t : Symbol) → is_key_at n i t ≡ true → coff_entries t ≡ one t
      single t e = by t.binding (and_parts _ _ e).0
        where
          sized : Bool → ℕ
          sized b = cond b 2 1

          by : (b : Binding) → option_map_or (λ (place : Place). nat_eq place.0 i) (global_place b) false ≡ true → sized (is_weak_with (λ f. true) b) ≡ 1
          by b e = grind arith

      keys : map counted_line (lines_where OuterLine (is_key_at n i) n) ≡ table.lines_where (is_key_at n i) one n.symbols
      keys = counted_where OuterLine one (is_key_at n i) (λ k t e. ap (λ m. record { entries = m; shows = Some k }) (single t e))

  pub lines_counted : n.format ≡ format_of w → map counted_line (lines_of w n) ≡ coff_lines n
  unfolding lines_of
  lines_counted format =
      map_append counted_line first_lines (local_lines ++ (default_lines ++ free_lines))
      ∙ ap (λ ls. ls ++ map counted_line (local_lines ++ (default_lines ++ free_lines))) (counted_sections 0 n.sections)
      ∙ ap (λ ls. flat_map (coff_section_lines n) (enumerate_from 0 n.sections) ++ ls) (
      map_append counted_line local_lines (default_lines ++ free_lines)
      ∙ ap (λ ls. ls ++ map counted_line (default_lines ++ free_lines)) (
      counted_where LocalLine one (is_written_local w) (λ k s e. refl)
      ∙ ap (λ f. table.lines_where (λ s. is_local s.binding && is_written f s) one n.symbols) (sym format))
      ∙ ap (λ ls. table.local_lines n ++ ls) (
      map_append counted_line default_lines free_lines
      ∙ ap (λ ls. ls ++ map counted_line free_lines) counted_defaults
      ∙ ap (λ ls. map (λ (s : Symbol). silent 1) (filter needs_default n.symbols) ++ ls) (counted_where OuterLine coff_entries (is_free n) (λ k s e. refl))))

  -- ... lines that are there

  pub section_there : (k : ℕ) (s : Section) → slice_get n.sections k ≡ Some s → (i : ℕ) × (slice_get (lines_of w n) i ≡ Some (SectionLine k s))
  unfolding lines_of
  section_there k s here =
      let m = member_flat_map (section_lines n) (enumerate_from 0 n.sections) k 0 (0 + k, s) (SectionLine (0 + k) s) (member_enumerated 0 n.sections k s here) refl in
      (m.0, member_first first_lines (local_lines ++ (default_lines ++ free_lines)) m.0 (SectionLine k s) (m.1 ∙ ap (λ i. Some (SectionLine i s)) (zero_behind k)))

  where_there : (line : ℕ → Symbol → Line) (test : Symbol → Bool) (k : ℕ) (s : Symbol) → slice_get n.symbols k ≡ Some s → test s ≡ true → (i : ℕ) × (slice_get (lines_where line test n) i ≡ Some (line k s))
  where_there line test k s here passes =
      let m = member_filter (λ (x : ℕ × Symbol). test x.1) (placed_symbols n) k (0 + k, s) (member_enumerated 0 n.symbols k s here) passes in
      (m.0, member_map (λ (x : ℕ × Symbol). line x.0 x.1) (filter (λ (x : ℕ × Symbol). test x.1) (placed_symbols n)) m.0 (0 + k, s) m.1 ∙ ap (λ i. Some (line i s)) (zero_behind k))

  pub default_there : (k : ℕ) (s : Symbol) → slice_get n.symbols k ≡ Some s → needs_default s ≡ true → (i : ℕ) × (slice_get (lines_of w n) i ≡ Some (DefaultLine k s))
  unfolding lines_of
  default_there k s here needs =
      let m = where_there DefaultLine needs_default k s here needs in (
        length first_lines + (length local_lines + m.0),
        member_second first_lines (local_lines ++ (default_lines ++ free_lines)) (length local_lines + m.0) (DefaultLine k s)
            (member_second local_lines (default_lines ++ free_lines) m.0 (DefaultLine k s) (member_first default_lines free_lines m.0 (DefaultLine k s) m.1)),
      )

  -- a line that shows the symbol at a position
  shows_is : (k : ℕ) (s : Symbol) (x : Line) → slice_get n.symbols k ≡ Some s → is_local s.binding ≡ false → IsLineOf w n x → (counted_line x).shows ≡ Some k → x ≡ OuterLine k s
  shows_is k s (SectionLine j t) here outer is e = absurd (none-some k e)
  shows_is k s (LocalLine j t) here outer is e =
      let same : j ≡ k = same_Some j k e in
      let own : t ≡ s = same_Some t s (sym is.0 ∙ ap (slice_get n.symbols) same ∙ here) in
      absurd (true≢false (sym is.1 ∙ ap (λ (y : Symbol). is_local y.binding) own ∙ outer))
  shows_is k s (DefaultLine j t) here outer is e = absurd (none-some k e)
  shows_is k s (OuterLine j t) here outer is e =
      let same : j ≡ k = same_Some j k e in
      ap (λ i. OuterLine i t) same ∙ ap (OuterLine k) (same_Some t s (sym is.0 ∙ ap (slice_get n.symbols) same ∙ here))

  pub outer_there : n.format ≡ format_of w → (k : ℕ) (s : Symbol) → slice_get n.symbols k ≡ Some s → is_local s.binding ≡ false → (i : ℕ) × (slice_get (lines_of w n) i ≡ Some (OuterLine k s))
  outer_there format k s here outer =
      let t = (coff_table n).table.there k s here outer in
      let x = of_map counted_line (lines_of w n) t.0 t.1 (ap (λ ls. slice_get ls t.0) (lines_counted format) ∙ t.2) in
      (t.0, x.1 ∙ ap Some (shows_is k s x.0 here outer (line_is_of t.0 x.0 x.1) (ap (λ (l : table.Line). l.shows) x.2 ∙ t.3)))

  pub one_outer : n.format ≡ format_of w → (k i j : ℕ) (s t : Symbol) → slice_get (lines_of w n) i ≡ Some (OuterLine k s) → slice_get (lines_of w n) j ≡ Some (OuterLine k t) → i ≡ j
  one_outer format k i j s t here there =
      let counted : (a : ℕ) (y : Symbol) → slice_get (lines_of w n) a ≡ Some (OuterLine k y) → slice_get (coff_lines n) a ≡ Some (counted_line (OuterLine k y))
      = λ a y h. ap (λ ls. slice_get ls a) (sym (lines_counted format)) ∙ member_map counted_line (lines_of w n) a (OuterLine k y) h in
      (coff_table n).table.once i j (counted_line (OuterLine k s)) (counted_line (OuterLine k t)) k (counted i s here) (counted j t there) refl refl

  -- ... what tests find

  section_is : (k : ℕ) (s : Section) → slice_get n.sections k ≡ Some s → (x : Line) → IsLineOf w n x → is_section_line k x ≡ true → x ≡ SectionLine k s
  section_is k s here x is e = grind arith

  default_is : (k : ℕ) (s : Symbol) → slice_get n.symbols k ≡ Some s → (x : Line) → IsLineOf w n x → is_default_line k x ≡ true → x ≡ DefaultLine k s
  default_is k s here x is e = grind arith

  outer_is : (k : ℕ) (s : Symbol) → slice_get n.symbols k ≡ Some s → (x : Line) → IsLineOf w n x → is_outer_line k x ≡ true → x ≡ OuterLine k s
  outer_is k s here x is e = grind arith

  pub section_found : (k : ℕ) (s : Section) → slice_get n.sections k ≡ Some s → IsFound (numbered_lines w n) (is_section_line k) (SectionLine k s)
  section_found k s here = let m = section_there k s here in
      place_found behind line_size (is_section_line k) 0 (lines_of w n) m.0 (SectionLine k s) m.1 (eq-eqb k k refl) (λ j y h t. section_is k s here y (line_is_of j y h) t)

  pub default_found : (k : ℕ) (s : Symbol) → slice_get n.symbols k ≡ Some s → needs_default s ≡ true → IsFound (numbered_lines w n) (is_default_line k) (DefaultLine k s)
  default_found k s here needs = let m = default_there k s here needs in
      place_found behind line_size (is_default_line k) 0 (lines_of w n) m.0 (DefaultLine k s) m.1 (eq-eqb k k refl) (λ j y h t. default_is k s here y (line_is_of j y h) t)

  pub outer_found : n.format ≡ format_of w → (k : ℕ) (s : Symbol) → slice_get n.symbols k ≡ Some s → is_local s.binding ≡ false → IsFound (numbered_lines w n) (is_outer_line k) (OuterLine k s)
  outer_found format k s here outer = let m = outer_there format k s here outer in
      place_found behind line_size (is_outer_line k) 0 (lines_of w n) m.0 (OuterLine k s) m.1 (eq-eqb k k refl) (λ j y h t. outer_is k s here y (line_is_of j y h) t)

  -- ... lines with their numbers

  pub numbered_line : (i : ℕ) (l : Laid Line) → slice_get (numbered_lines w n) i ≡ Some l → slice_get (lines_of w n) i ≡ Some l.part
  numbered_line i l here = laid_part behind line_size (λ at x. omega arith) 0 (lines_of w n) i l here

  pub numbered_is_of : (i : ℕ) (l : Laid Line) → slice_get (numbered_lines w n) i ≡ Some l → IsLineOf w n l.part
  numbered_is_of i l here = line_is_of i l.part (numbered_line i l here)

  pub some_size : (x : Line) → 1 ≤ line_size x
  some_size x = grind arith

  pub one_number : (i j : ℕ) (l m : Laid Line) → slice_get (numbered_lines w n) i ≡ Some l → slice_get (numbered_lines w n) j ≡ Some m → l.at ≡ m.at → (i ≡ j) × (l ≡ m)
  one_number i j l m here there same = laid_same behind line_size 0 (lines_of w n) i j l m (λ p z. omega arith) some_size here there same

  -- ... the default of a symbol stands in the table once

  abbrev is_default : Line → Bool
  is_default (SectionLine k s) = false
  is_default (LocalLine k s) = false
  is_default (DefaultLine k s) = true
  is_default (OuterLine k s) = false

  no_default_where : (line : ℕ → Symbol → Line) (test : Symbol → Bool) → ((k : ℕ) (s : Symbol) → is_default (line k s) ≡ false)
      → (i : ℕ) (x : Line) → slice_get (lines_where line test n) i ≡ Some x → is_default x ≡ false
  no_default_where line test other =
      each_map (λ x. is_default x ≡ false) (λ (x : ℕ × Symbol). line x.0 x.1) (filter (λ (x : ℕ × Symbol). test x.1) (placed_symbols n)) (λ j x h. other x.0 x.1)

  no_default_first : (i : ℕ) (x : Line) → slice_get first_lines i ≡ Some x → is_default x ≡ false
  no_default_first = each_flat_map (λ x. is_default x ≡ false) (section_lines n) (enumerate_from 0 n.sections) (λ j y h. own y)
    where
      own : (y : ℕ × Section) (k : ℕ) (x : Line) → slice_get (section_lines n y) k ≡ Some x → is_default x ≡ false
      own y zero x h = ap is_default (sym (same_Some (SectionLine y.0 y.1) x h))
      own y (suc k) x h = no_default_where OuterLine (is_key_at n y.0) (λ k s. refl) k x h

  -- in which index a default stands
  default_index : (k i : ℕ) (s : Symbol) → slice_get (lines_of w n) i ≡ Some (DefaultLine k s)
      → (j : ℕ) × (i ≡ length first_lines + (length local_lines + j)) × (slice_get default_lines j ≡ Some (DefaultLine k s))
  unfolding lines_of
  default_index k i s here = elim (of_append first_lines (local_lines ++ (default_lines ++ free_lines)) i (DefaultLine k s) here) [
    | inl h ↦ absurd (true≢false (no_default_first i (DefaultLine k s) h))
    | inr r ↦ elim (of_append local_lines (default_lines ++ free_lines) r.0 (DefaultLine k s) r.2) [
      | inl h ↦ absurd (true≢false (no_default_where LocalLine (is_written_local w) (λ k s. refl) r.0 (DefaultLine k s) h))
      | inr q ↦ elim (of_append default_lines free_lines q.0 (DefaultLine k s) q.2) [
        | inl h ↦ let e = r.1 in let f = q.1 in (q.0, omega (arith, e, f), h)
        | inr p ↦ absurd (true≢false (no_default_where OuterLine (is_free n) (λ k s. refl) p.0 (DefaultLine k s) p.2))
      ]
    ]
  ]

  -- the position of the symbol of a default
  default_key : Line → ℕ
  default_key (SectionLine k s) = 0
  default_key (LocalLine k s) = 0
  default_key (DefaultLine k s) = k
  default_key (OuterLine k s) = 0

  abbrev default_of : ℕ × Symbol → Option Line
  default_of x = cond (needs_default x.1) (Some (DefaultLine x.0 x.1)) None

  defaults_are : default_lines ≡ filter_map default_of (placed_symbols n)
  defaults_are = by (placed_symbols n)
    where
      by : (xs : List (ℕ × Symbol)) → map (λ (x : ℕ × Symbol). DefaultLine x.0 x.1) (filter (λ (x : ℕ × Symbol). needs_default x.1) xs) ≡ filter_map default_of xs
      by [] = refl
      by (x ∷ xs) = step (needs_default x.1) (by xs)
        where
          step : (b : Bool) → map (λ (x : ℕ × Symbol). DefaultLine x.0 x.1) (filter (λ (x : ℕ × Symbol). needs_default x.1) xs) ≡ filter_map default_of xs
              → map (λ (x : ℕ × Symbol). DefaultLine x.0 x.1) (cond b (x ∷ filter (λ (x : ℕ × Symbol). needs_default x.1) xs) (filter (λ (x : ℕ × Symbol). needs_default x.1) xs))
              ≡ cons_option (cond b (Some (DefaultLine x.0 x.1)) None) (filter_map default_of xs)
          step true e = ap (λ ls. DefaultLine x.0 x.1 ∷ ls) e
          step false e = e

  default_keyed : (j : ℕ) (s : Symbol) (x : Line) → default_of (j, s) ≡ Some x → default_key x ≡ j
  unfolding default_key
  default_keyed j s x is = by (needs_default s) is
    where
      by : (b : Bool) → cond b (Some (DefaultLine j s)) None ≡ Some x → default_key x ≡ j
      by b is = grind arith

  pub one_default : (k i j : ℕ) (s t : Symbol) → slice_get (lines_of w n) i ≡ Some (DefaultLine k s) → slice_get (lines_of w n) j ≡ Some (DefaultLine k t) → i ≡ j
  unfolding default_key
  one_default k i j s t here there =
      let a = default_index k i s here in
      let b = default_index k j t there in
      let same : a.0 ≡ b.0 = keyed_once default_of default_key default_keyed 0 n.symbols a.0 b.0 (DefaultLine k s) (DefaultLine k t)
      (ap (λ ls. slice_get ls a.0) (sym defaults_are) ∙ a.2) (ap (λ ls. slice_get ls b.0) (sym defaults_are) ∙ b.2) refl in
      let e = a.1 in
      let f = b.1 in
      omega (arith, same, e, f)
