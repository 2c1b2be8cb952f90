-- The lines of the symbols that pass a test show these, each once; and lists of lines that show different symbols stand behind one another.
use Rattle.std.proofs.Common.{◌≡◌, ◌⊎◌, ℕ, zero, suc, ◌+◌, ◌*◌, ◌<◌, ◌≤◌, Bool, true, false, ◌||◌, cond, List, [], ◌∷◌, ◌++◌, length, map, replicate, Option, Some, None, refl, sym, ◌∙◌, ap, subst, inl, inr, arith}
use Rattle.std.specs.{Prelude.{slice_get, filter, count_by, sum_by}, List.{enumerate_from}}
use Rattle.std.proofs.lemmas.{Bool.{true≢false}, Option.{none-some, same_Some}, List.Sums.{sum_by-append, sum_by-cons}}
use Rattle.oc_linking.specs.Parts.{is_local}
use Rattle.oc_neutral.specs.{declared.symbol.Symbol.{Symbol}, Objects.{Object}}
use Rattle.oc_shows.specs.SymbolLines.{Line, silent, lines_where}
use Rattle.oc_shows.proofs.SeenLines.{IsTable}

-- something is shown for the line
abbrev pub is_shown : Option ℕ → Bool
is_shown None = false
is_shown (Some k) = true

abbrev pub shown_count : List Line → ℕ
shown_count lines = count_by (λ (l : Line). is_shown l.shows) lines

abbrev pub entry_count : List Line → ℕ
entry_count lines = sum_by (λ (l : Line). l.entries) lines

-- the lines show the symbols that pass a test, each once, with one or two entries, and have so many other entries
pub record IsPart (n : Object) (test : Symbol → Bool) (extra : ℕ) (lines : List Line) : Type 0 where
  pub shown : (i : ℕ) (l : Line) (k : ℕ) → slice_get lines i ≡ Some l → l.shows ≡ Some k → (s : Symbol) × (slice_get n.symbols k ≡ Some s) × (test s ≡ true) × (0 < l.entries)
  pub once : (i j : ℕ) (l h : Line) (k : ℕ) → slice_get lines i ≡ Some l → slice_get lines j ≡ Some h → l.shows ≡ Some k → h.shows ≡ Some k → i ≡ j
  pub there : (k : ℕ) (s : Symbol) → slice_get n.symbols k ≡ Some s → test s ≡ true → (i : ℕ) × (l : Line) × (slice_get lines i ≡ Some l) × (l.shows ≡ Some k)
  pub count : shown_count lines ≡ count_by test n.symbols
  pub sum : entry_count lines ≤ extra + 2 * count_by test n.symbols

-- a table whose lines show every nonlocal
pub part_table : (n : Object) (test : Symbol → Bool) (extra : ℕ) (lines : List Line) → IsPart n test extra lines → ((k : ℕ) (s : Symbol) → slice_get n.symbols k ≡ Some s → is_local s.binding ≡ false → test s ≡ true)
    → IsTable n lines
part_table n test extra lines is covers = record {
  entries = λ i l k here shows. (is.shown i l k here shows).3;
  valid = λ i l k here shows. let s = is.shown i l k here shows in (s.0, s.1);
  once = is.once;
  there = λ k s here outer. is.there k s here (covers k s here outer);
}

-- a larger number of other entries
pub part_more : (n : Object) (test : Symbol → Bool) (extra more : ℕ) (lines : List Line) → IsPart n test extra lines → extra ≤ more → IsPart n test more lines
part_more n test extra more lines is le = record { shown = is.shown; once = is.once; there = is.there; count = is.count; sum = let e = is.sum in omega (arith, e, le) }

-- ... lines in front for which nothing is shown

pub part_empty : (n : Object) → IsPart n (λ s. false) 0 []
part_empty n = record {
  shown = λ i l k here shows. absurd (none-some l here);
  once = λ i j l h k here there shows displays. absurd (none-some l here);
  there = λ k s here passes. absurd (true≢false (sym passes));
  count = none n.symbols;
  sum = omega arith;
}
  where
    none : (symbols : List Symbol) → 0 ≡ count_by (λ (s : Symbol). false) symbols
    none [] = refl
    none (s ∷ symbols) = let e = none symbols in omega (arith, e)

pub part_silent : (n : Object) (test : Symbol → Bool) (extra entries : ℕ) (lines : List Line) → IsPart n test extra lines → IsPart n test (entries + extra) (silent entries ∷ lines)
part_silent n test extra entries lines is = record {
  shown = shown;
  once = once;
  there = λ k s here passes. let l = is.there k s here passes in (suc l.0, l.1, l.2, l.3);
  count = let m : shown_count (silent entries ∷ lines) ≡ 0 + shown_count lines = sum_by-cons (λ (l : Line). cond (is_shown l.shows) 1 0) (silent entries) lines in let e = is.count in omega (arith, m, e);
  sum = let m : entry_count (silent entries ∷ lines) ≡ entries + entry_count lines = sum_by-cons (λ (l : Line). l.entries) (silent entries) lines in let e = is.sum in omega (arith, m, e);
}
  where
    shown : (i : ℕ) (l : Line) (k : ℕ) → slice_get (silent entries ∷ lines) i ≡ Some l → l.shows ≡ Some k → (s : Symbol) × (slice_get n.symbols k ≡ Some s) × (test s ≡ true) × (0 < l.entries)
    shown zero l k here shows = absurd (none-some k (ap (λ (x : Line). x.shows) (same_Some (silent entries) l here) ∙ shows))
    shown (suc i) l k here shows = is.shown i l k here shows

    once : (i j : ℕ) (l h : Line) (k : ℕ) → slice_get (silent entries ∷ lines) i ≡ Some l → slice_get (silent entries ∷ lines) j ≡ Some h → l.shows ≡ Some k → h.shows ≡ Some k → i ≡ j
    once zero j l h k here there shows displays = absurd (none-some k (ap (λ (x : Line). x.shows) (same_Some (silent entries) l here) ∙ shows))
    once (suc i) zero l h k here there shows displays = absurd (none-some k (ap (λ (x : Line). x.shows) (same_Some (silent entries) h there) ∙ displays))
    once (suc i) (suc j) l h k here there shows displays = ap suc (is.once i j l h k here there shows displays)

pub part_behind : {X : Type 0} (n : Object) (test : Symbol → Bool) (extra : ℕ) (lines : List Line) (xs : List X) → IsPart n test extra lines → IsPart n test (length xs + extra) (map (λ x. silent 1) xs ++ lines)
part_behind n test extra lines [] is = part_more n test extra (0 + extra) lines is (omega arith)
part_behind n test extra lines (x ∷ xs) is =
    part_more n test (1 + (length xs + extra)) (length (x ∷ xs) + extra) (silent 1 ∷ (map (λ y. silent 1) xs ++ lines))
    (part_silent n test (length xs + extra) 1 (map (λ y. silent 1) xs ++ lines) (part_behind n test extra lines xs is)) (omega arith)

pub part_repeated : (n : Object) (test : Symbol → Bool) (extra : ℕ) (lines : List Line) (k : ℕ) → IsPart n test extra lines → IsPart n test (k + extra) (replicate k (silent 1) ++ lines)
part_repeated n test extra lines zero is = part_more n test extra (0 + extra) lines is (omega arith)
part_repeated n test extra lines (suc k) is =
    part_more n test (1 + (k + extra)) (suc k + extra) (silent 1 ∷ (replicate k (silent 1) ++ lines))
    (part_silent n test (k + extra) 1 (replicate k (silent 1) ++ lines) (part_repeated n test extra lines k is)) (omega arith)

-- ... one list behind another

in_front : (xs ys : List Line) (i : ℕ) (l : Line) → slice_get xs i ≡ Some l → slice_get (xs ++ ys) i ≡ Some l
in_front [] ys i l here = absurd (none-some l here)
in_front (x ∷ xs) ys zero l here = here
in_front (x ∷ xs) ys (suc i) l here = in_front xs ys i l here

in_back : (xs ys : List Line) (j : ℕ) (l : Line) → slice_get ys j ≡ Some l → slice_get (xs ++ ys) (length xs + j) ≡ Some l
in_back [] ys j l here = let e : 0 + j ≡ j = omega arith in ap (slice_get ys) e ∙ here
in_back (x ∷ xs) ys j l here =
    let e : length (x ∷ xs) + j ≡ suc (length xs + j) = omega arith in
    ap (slice_get (x ∷ (xs ++ ys))) e ∙ in_back xs ys j l here

in_either : (xs ys : List Line) (i : ℕ) (l : Line) → slice_get (xs ++ ys) i ≡ Some l → (slice_get xs i ≡ Some l) ⊎ ((j : ℕ) × (slice_get ys j ≡ Some l) × (i ≡ length xs + j))
in_either [] ys i l here = inr (i, here, omega arith)
in_either (x ∷ xs) ys zero l here = inl here
in_either (x ∷ xs) ys (suc i) l here = elim (in_either xs ys i l here) [ inl front ↦ inl front | inr back ↦ inr (back.0, back.1, let e = back.2 in omega (arith, e)) ]

module _ (n : Object) (a b : Symbol → Bool) (p q : ℕ) (xs ys : List Line) (front : IsPart n a p xs) (back : IsPart n b q ys) (apart : (s : Symbol) → a s ≡ true → b s ≡ true → ⊥) where
  abbrev either : Symbol → Bool
  either s = a s || b s

  -- what one list shows, the other does not
  never_both : (i j k : ℕ) (l h : Line) → slice_get xs i ≡ Some l → slice_get ys j ≡ Some h → l.shows ≡ Some k → h.shows ≡ Some k → ⊥
  never_both i j k l h here there shows displays =
      let s = front.shown i l k here shows in
      let t = back.shown j h k there displays in
      apart s.0 s.2 (ap b (same_Some s.0 t.0 (sym s.1 ∙ t.1)) ∙ t.2)

  first : (x y : Bool) → x ≡ true → (x || y) ≡ true
  first x y e = grind arith

  second : (x y : Bool) → y ≡ true → (x || y) ≡ true
  second x y e = grind arith

  counted : (symbols : List Symbol) → count_by either symbols ≡ count_by a symbols + count_by b symbols
  counted [] = omega arith
  counted (s ∷ symbols) =
      let all : count_by either (s ∷ symbols) ≡ cond (a s || b s) 1 0 + count_by either symbols = sum_by-cons (λ x. cond (either x) 1 0) s symbols in
      let these : count_by a (s ∷ symbols) ≡ cond (a s) 1 0 + count_by a symbols = sum_by-cons (λ x. cond (a x) 1 0) s symbols in
      let those : count_by b (s ∷ symbols) ≡ cond (b s) 1 0 + count_by b symbols = sum_by-cons (λ x. cond (b x) 1 0) s symbols in
      let e = one (a s) (b s) refl refl in
      let f = counted symbols in
      omega (arith, all, these, those, e, f)
    where
      one : (x y : Bool) → a s ≡ x → b s ≡ y → cond (x || y) 1 0 ≡ cond x 1 0 + cond y 1 0
      one x y e f = grind arith

  shown : (i : ℕ) (l : Line) (k : ℕ) → slice_get (xs ++ ys) i ≡ Some l → l.shows ≡ Some k → (s : Symbol) × (slice_get n.symbols k ≡ Some s) × (either s ≡ true) × (0 < l.entries)
  shown i l k here shows = elim (in_either xs ys i l here) [
    | inl f ↦ let s = front.shown i l k f shows in (s.0, s.1, first (a s.0) (b s.0) s.2, s.3)
    | inr r ↦ let s = back.shown r.0 l k r.1 shows in (s.0, s.1, second (a s.0) (b s.0) s.2, s.3)
  ]

  once : (i j : ℕ) (l h : Line) (k : ℕ) → slice_get (xs ++ ys) i ≡ Some l → slice_get (xs ++ ys) j ≡ Some h → l.shows ≡ Some k → h.shows ≡ Some k → i ≡ j
  once i j l h k here there shows displays = elim (in_either xs ys i l here) [
    | inl f ↦ elim (in_either xs ys j h there) [ inl g ↦ front.once i j l h k f g shows displays | inr r ↦ absurd (never_both i r.0 k l h f r.1 shows displays) ]
    | inr r ↦ elim (in_either xs ys j h there) [
      | inl g ↦ absurd (never_both j r.0 k h l g r.1 displays shows)
      | inr t ↦ r.2 ∙ ap (λ x. length xs + x) (back.once r.0 t.0 l h k r.1 t.1 shows displays) ∙ sym t.2
    ]
  ]

  there : (k : ℕ) (s : Symbol) → slice_get n.symbols k ≡ Some s → either s ≡ true → (i : ℕ) × (l : Line) × (slice_get (xs ++ ys) i ≡ Some l) × (l.shows ≡ Some k)
  there k s here passes = by (a s) refl passes
    where
      by : (x : Bool) → a s ≡ x → (x || b s) ≡ true → (i : ℕ) × (l : Line) × (slice_get (xs ++ ys) i ≡ Some l) × (l.shows ≡ Some k)
      by true e either = let l = front.there k s here e in (l.0, l.1, in_front xs ys l.0 l.1 l.2, l.3)
      by false e either = let l = back.there k s here either in (length xs + l.0, l.1, in_back xs ys l.0 l.1 l.2, l.3)

  pub part_join : IsPart n (λ s. a s || b s) (p + q) (xs ++ ys)
  part_join = record {
    shown = shown;
    once = once;
    there = there;
    count = sum_by-append (λ (l : Line). cond (is_shown l.shows) 1 0) xs ys ∙ (let e = counted n.symbols in let f = front.count in let g = back.count in omega (arith, e, f, g));
    sum = let m = sum_by-append (λ (l : Line). l.entries) xs ys in let e = counted n.symbols in let f = front.sum in let g = back.sum in omega (arith, m, e, f, g);
  }

-- ... the lines of the symbols that pass a test

module _ (test : Symbol → Bool) (entries : Symbol → ℕ) (few : (s : Symbol) → (0 < entries s) × (entries s ≤ 2)) where
  abbrev line : ℕ × Symbol → Line
  line x = record { entries = entries x.1; shows = Some x.0 }

  abbrev passing : ℕ → List Symbol → List (ℕ × Symbol)
  passing i symbols = filter (λ (x : ℕ × Symbol). test x.1) (enumerate_from i symbols)

  -- the same of symbols that stand from position p on
  record IsFrom (p : ℕ) (symbols : List Symbol) (lines : List Line) : Type 0 where
    shown : (i : ℕ) (l : Line) (k : ℕ) → slice_get lines i ≡ Some l → l.shows ≡ Some k → (j : ℕ) × (s : Symbol) × (k ≡ p + j) × (slice_get symbols j ≡ Some s) × (test s ≡ true) × (0 < l.entries)
    once : (i j : ℕ) (l h : Line) (k : ℕ) → slice_get lines i ≡ Some l → slice_get lines j ≡ Some h → l.shows ≡ Some k → h.shows ≡ Some k → i ≡ j
    there : (j : ℕ) (s : Symbol) → slice_get symbols j ≡ Some s → test s ≡ true → (i : ℕ) × (l : Line) × (slice_get lines i ≡ Some l) × (l.shows ≡ Some (p + j))
    count : shown_count lines ≡ count_by test symbols
    sum : entry_count lines ≤ 2 * count_by test symbols

  module _ (p : ℕ) (s : Symbol) (symbols : List Symbol) (lines : List Line) (later : IsFrom (p + 1) symbols lines) where
    -- the next passes
    shown_next : (i : ℕ) (l : Line) (k : ℕ) → test s ≡ true → slice_get (line (p, s) ∷ lines) i ≡ Some l → l.shows ≡ Some k
        → (j : ℕ) × (t : Symbol) × (k ≡ p + j) × (slice_get (s ∷ symbols) j ≡ Some t) × (test t ≡ true) × (0 < l.entries)
    shown_next zero l k e here shows =
        let same : line (p, s) ≡ l = same_Some (line (p, s)) l here in
        let own : p ≡ k = same_Some p k (ap (λ (x : Line). x.shows) same ∙ shows) in
        (0, s, omega (arith, own), refl, e, subst (λ (x : Line). 0 < x.entries) same (few s).0)
    shown_next (suc i) l k e here shows = let t = later.shown i l k here shows in (suc t.0, t.1, (let o = t.2 in omega (arith, o)), t.3, t.4, t.5)

    behind : (j : ℕ) (l h : Line) (k : ℕ) → Some (line (p, s)) ≡ Some l → slice_get lines j ≡ Some h → l.shows ≡ Some k → h.shows ≡ Some k → ⊥
    behind j l h k here there shows displays =
        let own : p ≡ k = same_Some p k (ap (λ (x : Line). x.shows) (same_Some (line (p, s)) l here) ∙ shows) in
        let other = (later.shown j h k there displays).2 in
        omega (arith, own, other)

    once_next : (i j : ℕ) (l h : Line) (k : ℕ) → slice_get (line (p, s) ∷ lines) i ≡ Some l → slice_get (line (p, s) ∷ lines) j ≡ Some h → l.shows ≡ Some k → h.shows ≡ Some k → i ≡ j
    once_next zero zero l h k here there shows displays = refl
    once_next zero (suc j) l h k here there shows displays = absurd (behind j l h k here there shows displays)
    once_next (suc i) zero l h k here there shows displays = absurd (behind i h l k there here displays shows)
    once_next (suc i) (suc j) l h k here there shows displays = ap suc (later.once i j l h k here there shows displays)

    there_next : (j : ℕ) (t : Symbol) → slice_get (s ∷ symbols) j ≡ Some t → test t ≡ true → (i : ℕ) × (l : Line) × (slice_get (line (p, s) ∷ lines) i ≡ Some l) × (l.shows ≡ Some (p + j))
    there_next zero t here passes = (0, line (p, s), refl, ap Some (omega arith))
    there_next (suc j) t here passes = let l = later.there j t here passes in (suc l.0, l.1, l.2, l.3 ∙ ap Some (omega arith))

    -- or does not
    there_not : test s ≡ false → (j : ℕ) (t : Symbol) → slice_get (s ∷ symbols) j ≡ Some t → test t ≡ true → (i : ℕ) × (l : Line) × (slice_get lines i ≡ Some l) × (l.shows ≡ Some (p + j))
    there_not e j t here passes = grind arith

  counted_one : (s : Symbol) (symbols : List Symbol) (b : Bool) → test s ≡ b → count_by test (s ∷ symbols) ≡ cond b 1 0 + count_by test symbols
  counted_one s symbols b e = sum_by-cons (λ x. cond (test x) 1 0) s symbols ∙ ap (λ c. cond c 1 0 + count_by test symbols) e

  from_step : (p : ℕ) (s : Symbol) (symbols : List Symbol) (b : Bool) → test s ≡ b → IsFrom (p + 1) symbols (map line (passing (p + 1) symbols))
      → IsFrom p (s ∷ symbols) (map line (cond b ((p, s) ∷ passing (p + 1) symbols) (passing (p + 1) symbols)))
  from_step p s symbols true e later = record {
    shown = λ i l k here shows. shown_next p s symbols (map line (passing (p + 1) symbols)) later i l k e here shows;
    once = once_next p s symbols (map line (passing (p + 1) symbols)) later;
    there = there_next p s symbols (map line (passing (p + 1) symbols)) later;
    count =
        let m : shown_count (line (p, s) ∷ map line (passing (p + 1) symbols)) ≡ 1 + shown_count (map line (passing (p + 1) symbols)) = sum_by-cons (λ (l : Line). cond (is_shown l.shows) 1 0) (line (p, s)) (map line (passing (p + 1) symbols)) in
        let c = later.count in let o = counted_one s symbols true e in omega (arith, m, c, o);
    sum =
        let m : entry_count (line (p, s) ∷ map line (passing (p + 1) symbols)) ≡ entries s + entry_count (map line (passing (p + 1) symbols)) = sum_by-cons (λ (l : Line). l.entries) (line (p, s)) (map line (passing (p + 1) symbols)) in
        let c = later.sum in let o = counted_one s symbols true e in let f = (few s).1 in omega (arith, m, c, o, f);
  }
  from_step p s symbols false e later = record {
    shown = λ i l k here shows. let t = later.shown i l k here shows in (suc t.0, t.1, (let o = t.2 in omega (arith, o)), t.3, t.4, t.5);
    once = later.once;
    there = there_not p s symbols (map line (passing (p + 1) symbols)) later e;
    count = let c = later.count in let o = counted_one s symbols false e in omega (arith, c, o);
    sum = let c = later.sum in let o = counted_one s symbols false e in omega (arith, c, o);
  }

  from_all : (p : ℕ) (symbols : List Symbol) → IsFrom p symbols (map line (passing p symbols))
  from_all p [] = record {
    shown = λ i l k here shows. absurd (none-some l here);
    once = λ i j l h k here there shows displays. absurd (none-some l here);
    there = λ j s here passes. absurd (none-some s here);
    count = refl;
    sum = omega arith;
  }
  from_all p (s ∷ symbols) = from_step p s symbols (test s) refl (from_all (p + 1) symbols)

  pub part_where : (n : Object) → IsPart n test 0 (lines_where test entries n.symbols)
  part_where n =
      let is : IsFrom 0 n.symbols (lines_where test entries n.symbols) = from_all 0 n.symbols in
      record {
        shown = λ i l k here shows. let s = is.shown i l k here shows in (s.1, (let e : k ≡ s.0 = (let o = s.2 in omega (arith, o)) in ap (slice_get n.symbols) e ∙ s.3), s.4, s.5);
        once = is.once;
        there = λ k s here passes. let l = is.there k s here passes in (l.0, l.1, l.2, l.3 ∙ ap Some (omega arith));
        count = is.count;
        sum = let e = is.sum in omega (arith, e);
      }
