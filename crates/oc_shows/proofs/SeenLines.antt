-- The lines of a symbol table show each symbol once, with numbers that differ.
use Rattle.std.proofs.Common.{◌≡◌, ◌≢◌, ℕ, zero, suc, ◌+◌, ◌<◌, ◌≤◌, false, List, [], ◌∷◌, Option, Some, None, refl, sym, ◌∙◌, ap, arith}
use Rattle.std.specs.{Prelude.{slice_get}, Option.{option_map_or}}
use Rattle.std.proofs.lemmas.Option.{none-some, same_Some}
use Rattle.oc_linking.specs.Parts.{is_local}
use Rattle.oc_neutral.specs.{declared.symbol.Symbol.{Symbol}, Objects.{Object}}
use Rattle.oc_shows.specs.{SymbolLines.{Line}, Seen.{shown_from}}

-- the symbols that are shown are ones of the object, each once, with numbers that differ, and every nonlocal is among them
pub record IsShown (n : Object) (shown : List (ℕ × ℕ)) : Type 0 where
  pub valid : (i : ℕ) (x : ℕ × ℕ) → slice_get shown i ≡ Some x → (s : Symbol) × (slice_get n.symbols x.0 ≡ Some s)
  pub once : (i j : ℕ) (x y : ℕ × ℕ) → i < j → slice_get shown i ≡ Some x → slice_get shown j ≡ Some y → x.0 ≢ y.0
  pub numbers : (i j : ℕ) (x y : ℕ × ℕ) → i < j → slice_get shown i ≡ Some x → slice_get shown j ≡ Some y → x.1 ≢ y.1
  pub there : (k : ℕ) (s : Symbol) → slice_get n.symbols k ≡ Some s → is_local s.binding ≡ false → (i : ℕ) × (x : ℕ × ℕ) × (slice_get shown i ≡ Some x) × (x.0 ≡ k)

-- what the lines of a table meet: those that show a symbol have entries, each symbol is shown by one line, and each nonlocal by some
pub record IsTable (n : Object) (lines : List Line) : Type 0 where
  pub entries : (i : ℕ) (l : Line) (k : ℕ) → slice_get lines i ≡ Some l → l.shows ≡ Some k → 0 < l.entries
  pub valid : (i : ℕ) (l : Line) (k : ℕ) → slice_get lines i ≡ Some l → l.shows ≡ Some k → (s : Symbol) × (slice_get n.symbols k ≡ Some s)
  pub once : (i j : ℕ) (l h : Line) (k : ℕ) → slice_get lines i ≡ Some l → slice_get lines j ≡ Some h → l.shows ≡ Some k → h.shows ≡ Some k → i ≡ j
  pub there : (k : ℕ) (s : Symbol) → slice_get n.symbols k ≡ Some s → is_local s.binding ≡ false → (i : ℕ) × (l : Line) × (slice_get lines i ≡ Some l) × (l.shows ≡ Some k)

-- a symbol that is shown is shown by a line, and its number is not below the first
pub record IsShownBy (lines : List Line) (number : ℕ) (x : ℕ × ℕ) : Type 0 where
  pub line : ℕ
  pub one : Line
  pub here : slice_get lines line ≡ Some one
  pub shows : one.shows ≡ Some x.0
  pub above : number ≤ x.1

behind : (l : Line) (lines : List Line) (number : ℕ) (x : ℕ × ℕ) → IsShownBy lines (number + l.entries) x → IsShownBy (l ∷ lines) number x
behind l lines number x by = record { line = suc by.line; one = by.one; here = by.here; shows = by.shows; above = omega (arith, by.above) }

shown_by : (lines : List Line) (number i : ℕ) (x : ℕ × ℕ) → slice_get (shown_from number lines) i ≡ Some x → IsShownBy lines number x
shown_by [] number i x here = absurd (none-some x here)
shown_by (l ∷ lines) number i x here = by l.shows refl i here (λ j h. shown_by lines (number + l.entries) j x h)
  where
    by : (o : Option ℕ) → l.shows ≡ o → (i : ℕ) → slice_get (option_map_or (λ k. (k, number) ∷ shown_from (number + l.entries) lines) o (shown_from (number + l.entries) lines)) i ≡ Some x
        → ((j : ℕ) → slice_get (shown_from (number + l.entries) lines) j ≡ Some x → IsShownBy lines (number + l.entries) x) → IsShownBy (l ∷ lines) number x
    by None e i here later = behind l lines number x (later i here)
    by (Some k) e zero here later =
        let same : (k, number) ≡ x = same_Some (k, number) x here in
        record { line = 0; one = l; here = refl; shows = e ∙ ap (λ (y : ℕ × ℕ). Some y.0) same; above = omega (arith, ap (λ (y : ℕ × ℕ). y.1) same) }
    by (Some k) e (suc i) here later = behind l lines number x (later i here)

-- two that follow one another are shown by lines that do, and so do their numbers
pub record AreShownBy (lines : List Line) (x y : ℕ × ℕ) : Type 0 where
  pub first : ℕ
  pub second : ℕ
  pub before : first < second
  pub one : Line
  pub other : Line
  pub here : slice_get lines first ≡ Some one
  pub there : slice_get lines second ≡ Some other
  pub shows : one.shows ≡ Some x.0
  pub displays : other.shows ≡ Some y.0
  pub ascend : x.1 < y.1

both_behind : (l : Line) (lines : List Line) (x y : ℕ × ℕ) → AreShownBy lines x y → AreShownBy (l ∷ lines) x y
both_behind l lines x y are = record {
  first = suc are.first;
  second = suc are.second;
  before = omega (arith, are.before);
  one = are.one;
  other = are.other;
  here = are.here;
  there = are.there;
  shows = are.shows;
  displays = are.displays;
  ascend = are.ascend;
}

abbrev HaveEntries : List Line → Type 0
HaveEntries lines = (i : ℕ) (l : Line) (k : ℕ) → slice_get lines i ≡ Some l → l.shows ≡ Some k → 0 < l.entries

both_shown : (lines : List Line) → HaveEntries lines → (number i j : ℕ) (x y : ℕ × ℕ) → i < j → slice_get (shown_from number lines) i ≡ Some x → slice_get (shown_from number lines) j ≡ Some y → AreShownBy lines x y
both_shown [] have number i j x y before here there = absurd (none-some x here)
both_shown (l ∷ lines) have number i j x y before here there = by l.shows refl i j before here there (λ a b lt h g. both_shown lines (λ t u k. have (suc t) u k) (number + l.entries) a b x y lt h g)
  where
    by : (o : Option ℕ) → l.shows ≡ o → (i j : ℕ) → i < j → slice_get (option_map_or (λ k. (k, number) ∷ (shown_from (number + l.entries) lines)) o (shown_from (number + l.entries) lines)) i ≡ Some x → slice_get (option_map_or (λ k. (k, number) ∷ (shown_from (number + l.entries) lines)) o (shown_from (number + l.entries) lines)) j ≡ Some y
        → ((a b : ℕ) → a < b → slice_get (shown_from (number + l.entries) lines) a ≡ Some x → slice_get (shown_from (number + l.entries) lines) b ≡ Some y → AreShownBy lines x y) → AreShownBy (l ∷ lines) x y
    by None e i j lt here there later = both_behind l lines x y (later i j lt here there)
    by (Some k) e i zero lt here there later = absurd (omega (arith, lt))
    by (Some k) e zero (suc j) lt here there later =
        let same : (k, number) ≡ x = same_Some (k, number) x here in
        let last = shown_by lines (number + l.entries) j y there in
        let some : 0 < l.entries = have 0 l k refl e in
        record {
          first = 0;
          second = suc last.line;
          before = omega arith;
          one = l;
          other = last.one;
          here = refl;
          there = last.here;
          shows = e ∙ ap (λ (z : ℕ × ℕ). Some z.0) same;
          displays = last.shows;
          ascend = omega (arith, some, last.above, ap (λ (z : ℕ × ℕ). z.1) same);
        }
    by (Some k) e (suc i) (suc j) lt here there later = both_behind l lines x y (later i j (omega (arith, lt)) here there)

-- what a line shows is shown
line_shown : (lines : List Line) (number i k : ℕ) (l : Line) → slice_get lines i ≡ Some l → l.shows ≡ Some k → (j : ℕ) × (x : ℕ × ℕ) × (slice_get (shown_from number lines) j ≡ Some x) × (x.0 ≡ k)
line_shown [] number i k l here shows = absurd (none-some l here)
line_shown (h ∷ lines) number zero k l here shows =
    let e : h.shows ≡ Some k = ap (λ (u : Line). u.shows) (same_Some h l here) ∙ shows in
    (0, (k, number), ap (λ o. slice_get (option_map_or (λ q. (q, number) ∷ shown_from (number + h.entries) lines) o (shown_from (number + h.entries) lines)) 0) e, refl)
line_shown (h ∷ lines) number (suc i) k l here shows = by h.shows (line_shown lines (number + h.entries) i k l here shows)
  where
    by : (o : Option ℕ) → ((j : ℕ) × (x : ℕ × ℕ) × (slice_get (shown_from (number + h.entries) lines) j ≡ Some x) × (x.0 ≡ k))
        → (j : ℕ) × (x : ℕ × ℕ) × (slice_get (option_map_or (λ q. (q, number) ∷ shown_from (number + h.entries) lines) o (shown_from (number + h.entries) lines)) j ≡ Some x) × (x.0 ≡ k)
    by None m = m
    by (Some q) m = (suc m.0, m.1, m.2, m.3)

-- so a table shows its symbols
pub table_shows : (n : Object) (lines : List Line) → IsTable n lines → IsShown n (shown_from 0 lines)
table_shows n lines is = record {
  valid = λ i x here. let by = shown_by lines 0 i x here in is.valid by.line by.one x.0 by.here by.shows;
  once = λ i j x y before here there same.
      let are = both_shown lines is.entries 0 i j x y before here there in
      let one : are.first ≡ are.second = is.once are.first are.second are.one are.other x.0 are.here are.there are.shows (are.displays ∙ ap Some (sym same)) in
      omega (arith, one, are.before);
  numbers = λ i j x y before here there same. let are = both_shown lines is.entries 0 i j x y before here there in omega (arith, are.ascend, same);
  there = λ k s here outer. let l = is.there k s here outer in line_shown lines 0 l.0 k l.1 l.2 l.3;
}
