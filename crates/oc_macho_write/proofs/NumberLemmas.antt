-- The numbers of lines, as they are given one after another.
use Rattle.std.proofs.Common.{◌≡◌, ℕ, zero, suc, ◌+◌, ◌&&◌, ◌<◌, ◌≤◌, Bool, true, false, true≢false, cond, inl, inr, List, [], ◌∷◌, ◌++◌, length, take, Option, Some, None, refl, sym, ◌∙◌, ap, subst, arith}
use Rattle.std.specs.{Prelude.{slice_get, slice_index_or}, List.{enumerate_from, filter, range_with_len}, Option.{option_map}}
use Rattle.std.proofs.lemmas.{Bool.{eqb-true}, List.{take_all}, Option.{none-some, same_Some, slice_get_within}}
use Rattle.oc_base.specs.{declared.format.Word.{Word}, declared.format.Word.TheVariants.{W32, W64}}
use Rattle.oc_linking.specs.Parts.{is_local}
use Rattle.oc_neutral.specs.{declared.symbol.Symbol.{Symbol}, Mach.SectionSymbols.{needed_sections, needs_section_symbol}, Objects.{Object}}
use Rattle.oc_neutral.specs.WrittenSymbols.{is_written}
use Rattle.oc_shelf.specs.Writing.Parts.{Laid, laid, behind}
use Rattle.oc_shelf.proofs.WritingLaws.MemberLemmas.{of_append, of_map}
use Rattle.oc_macho_file.specs.Lines.{Line, OwnLine, LocalLine, OuterLine, lines_of, inner_lines, own_lines, local_lines, defined_lines, undefined_lines, lines_where, line_size, numbered_lines, is_own_line, is_symbol_line}
use Rattle.oc_macho_file.proofs.{LineLaws.{one_outer}, NameLaws.{needed_low}}
use Rattle.oc_macho_write.specs.{declared.lines.Line.{Line as Given}, declared.numbers.Numbers.{Numbers}, Numbers.{AreSized, CanGive, IsBlank, IsNumbered}}
use Rattle.oc_macho_write.specs.Lines.{line_in, IsNamed}
use Rattle.oc_macho_write.specs.declared.lines.Line.TheVariants as line
use Rattle.oc_plans.proofs.Turns.{length-laid}
use Rattle.oc_macho_write.proofs.LastWhere.{last_where, last_more, last_is, PassesOnce}

-- ... where lines stand

laid_one : (p : ℕ) (xs : List Line) (i : ℕ) (x : Line) → slice_get xs i ≡ Some x → slice_get (laid behind line_size p xs) i ≡ Some (record { at = p + i; part = x })
laid_one p [] i x here = absurd (none-some x here)
laid_one p (y ∷ xs) zero x here = let e : p ≡ p + 0 = omega arith in ap (λ z. Some (record { at = p; part = z })) (same_Some y x here) ∙ ap (λ q. Some (record { at = q; part = x })) e
laid_one p (y ∷ xs) (suc i) x here = let e : p + 1 + i ≡ p + suc i = omega arith in laid_one (p + 1) xs i x here ∙ ap (λ q. Some (record { at = q; part = x })) e

of_laid : (p : ℕ) (xs : List Line) (i : ℕ) (l : Laid Line) → slice_get (laid behind line_size p xs) i ≡ Some l → slice_get xs i ≡ Some l.part
of_laid p [] i l here = absurd (none-some l here)
of_laid p (y ∷ xs) zero l here = ap (λ (z : Laid Line). Some z.part) (same_Some (record { at = p; part = y }) l here)
of_laid p (y ∷ xs) (suc i) l here = of_laid (p + 1) xs i l here

-- ... a section has one line of its own

rising : (test : ℕ → Bool) (i m : ℕ) (a y : ℕ) → slice_get (filter test (range_with_len i m)) a ≡ Some y → i ≤ y
rising test i zero a y here = absurd (none-some y here)
rising test i (suc m) a y here = by (test i) (λ b h. rising test (i + 1) m b y h) a here
  where
    by : (c : Bool) → ((b : ℕ) → slice_get (filter test (range_with_len (i + 1) m)) b ≡ Some y → i + 1 ≤ y)
        → (a : ℕ) → slice_get (cond c (i ∷ filter test (range_with_len (i + 1) m)) (filter test (range_with_len (i + 1) m))) a ≡ Some y → i ≤ y
    by true rest zero h = let e : i ≡ y = same_Some i y h in omega (arith, e)
    by true rest (suc a) h = let l = rest a h in omega (arith, l)
    by false rest a h = let l = rest a h in omega (arith, l)

once : (test : ℕ → Bool) (i m : ℕ) (a b y : ℕ) → slice_get (filter test (range_with_len i m)) a ≡ Some y → slice_get (filter test (range_with_len i m)) b ≡ Some y → a ≡ b
once test i zero a b y here there = absurd (none-some y here)
once test i (suc m) a b y here there = by (test i) (λ c d h g. once test (i + 1) m c d y h g) a b here there
  where
    rest : List ℕ
    rest = filter test (range_with_len (i + 1) m)

    by : (c : Bool) → ((a b : ℕ) → slice_get rest a ≡ Some y → slice_get rest b ≡ Some y → a ≡ b)
        → (a b : ℕ) → slice_get (cond c (i ∷ rest) rest) a ≡ Some y → slice_get (cond c (i ∷ rest) rest) b ≡ Some y → a ≡ b
    by true tail zero zero h g = refl
    by true tail zero (suc b) h g = let e : i ≡ y = same_Some i y h in let l = rising test (i + 1) m b y g in absurd (omega (arith, e, l))
    by true tail (suc a) zero h g = let e : i ≡ y = same_Some i y g in let l = rising test (i + 1) m a y h in absurd (omega (arith, e, l))
    by true tail (suc a) (suc b) h g = ap suc (tail a b h g)
    by false tail a b h g = tail a b h g

-- the section of which a line is the own
abbrev owns : Line → Option ℕ
owns (OwnLine k) = Some k
owns (LocalLine k s) = None
owns (OuterLine k s) = None

module _ (w : Word) (n : Object) where
  none_of : (line : ℕ → Symbol → Line) (test : Symbol → Bool) → ((k : ℕ) (s : Symbol) → owns (line k s) ≡ None) → (i k : ℕ) → slice_get (lines_where line test n) i ≡ Some (OwnLine k) → ⊥
  none_of line test other i k here =
      let y = of_map (λ (x : ℕ × Symbol). line x.0 x.1) (filter (λ (x : ℕ × Symbol). test x.1) (enumerate_from 0 n.symbols)) i (OwnLine k) here in
      none-some k (sym (other y.0.0 y.0.1) ∙ ap owns y.2)

  -- it stands among the first
  own_place : (v : Word) (i k : ℕ) → slice_get (own_lines v n) i ≡ Some (OwnLine k) → slice_get (needed_sections n) i ≡ Some k
  own_place W32 i k here = absurd (none-some (OwnLine k) here)
  own_place W64 i k here = let y = of_map OwnLine (needed_sections n) i (OwnLine k) here in y.1 ∙ ap owns y.2

  first_place : (i k : ℕ) → slice_get (lines_of w n) i ≡ Some (OwnLine k) → slice_get (needed_sections n) i ≡ Some k
  unfolding lines_of
  first_place i k here = elim (of_append (inner_lines w n) (defined_lines n ++ undefined_lines n) i (OwnLine k) here) [
    | inl h ↦ elim (of_append (own_lines w n) (local_lines n) i (OwnLine k) h) [
      | inl a ↦ own_place w i k a
      | inr r ↦ absurd (none_of LocalLine (λ s. is_local s.binding && is_written n.format s) (λ k s. refl) r.0 k r.2)
    ]
    | inr r ↦ elim (of_append (defined_lines n) (undefined_lines n) r.0 (OwnLine k) r.2) [
      | inl a ↦ absurd (none_of OuterLine _ (λ k s. refl) r.0 k a)
      | inr q ↦ elim (of_append (lines_where OuterLine _ n) _ q.0 (OwnLine k) q.2) [
        | inl a ↦ absurd (none_of OuterLine _ (λ k s. refl) q.0 k a)
        | inr p ↦ elim (of_append (lines_where OuterLine _ n) (lines_where OuterLine _ n) p.0 (OwnLine k) p.2) [
          | inl a ↦ absurd (none_of OuterLine _ (λ k s. refl) p.0 k a)
          | inr o ↦ absurd (none_of OuterLine _ (λ k s. refl) o.0 k o.2)
        ]
      ]
    ]
  ]

  pub one_own : (k i j : ℕ) → slice_get (lines_of w n) i ≡ Some (OwnLine k) → slice_get (lines_of w n) j ≡ Some (OwnLine k) → i ≡ j
  unfolding needed_sections
  one_own k i j here there = once (needs_section_symbol n) 0 (length n.sections) i j k (first_place i k here) (first_place j k there)

  -- ... tables of numbers

  -- the first lines have their numbers
  pub record AreUpto (i : ℕ) (x : Numbers) : Type 0 where
    pub sized : AreSized n x
    pub owns : (k : ℕ) → k < length n.sections → slice_index_or x.owns.items k 0 ≡ last_where (is_own_line k) (take i (numbered_lines w n)) 0
    pub outers : (k : ℕ) → k < length n.symbols → slice_index_or x.outers.items k 0 ≡ last_where (is_symbol_line k) (take i (numbered_lines w n)) 0

  pub upto_none : (x : Numbers) → AreSized n x → IsBlank x → AreUpto 0 x
  upto_none x sized blank = record {
    sized = sized;
    owns = λ k low. blank.owns k (subst (λ m. k < m) (sym sized.owns) low);
    outers = λ k low. blank.outers k (subst (λ m. k < m) (sym sized.outers) low);
  }

  -- one line more
  pub upto_more : (i : ℕ) (x : Line) (old new : Numbers) → slice_get (lines_of w n) i ≡ Some x → AreUpto i old → AreSized n new
      → ((k : ℕ) → k < length old.owns.items → slice_index_or new.owns.items k 0 ≡ cond (is_own_line k x) i (slice_index_or old.owns.items k 0))
      → ((k : ℕ) → k < length old.outers.items → slice_index_or new.outers.items k 0 ≡ cond (is_symbol_line k x) i (slice_index_or old.outers.items k 0))
      → AreUpto (i + 1) new
  upto_more i x old new here upto sized o s =
      let stands : slice_get (numbered_lines w n) i ≡ Some (record { at = i; part = x }) = laid_one 0 (lines_of w n) i x here ∙ (let e : 0 + i ≡ i = omega arith in ap (λ q. Some (record { at = q; part = x })) e) in
      record {
        sized = sized;
        owns = λ k low. o k (subst (λ m. k < m) (sym upto.sized.owns) low) ∙ ap (cond (is_own_line k x) i) (upto.owns k low) ∙ sym (last_more (is_own_line k) (numbered_lines w n) i _ 0 stands);
        outers = λ k low. s k (subst (λ m. k < m) (sym upto.sized.outers) low) ∙ ap (cond (is_symbol_line k x) i) (upto.outers k low) ∙ sym (last_more (is_symbol_line k) (numbered_lines w n) i _ 0 stands);
      }

  own_is : (k : ℕ) (x : Line) → is_own_line k x ≡ true → x ≡ OwnLine k
  own_is k (OwnLine j) e = ap OwnLine (eqb-true j k e)
  own_is k (LocalLine j s) e = absurd (true≢false (sym e))
  own_is k (OuterLine j s) e = absurd (true≢false (sym e))

  outer_is : (k : ℕ) (x : Line) → is_symbol_line k x ≡ true → (s : Symbol) × (x ≡ OuterLine k s)
  outer_is k (OwnLine j) e = absurd (true≢false (sym e))
  outer_is k (LocalLine j s) e = absurd (true≢false (sym e))
  outer_is k (OuterLine j s) e = (s, ap (λ p. OuterLine p s) (eqb-true j k e))

  own_once : (k : ℕ) → PassesOnce (is_own_line k) (numbered_lines w n)
  own_once k i j a b h g p q =
      one_own k i j (of_laid 0 (lines_of w n) i a h ∙ ap (λ z. Some z) (own_is k a.part p)) (of_laid 0 (lines_of w n) j b g ∙ ap (λ z. Some z) (own_is k b.part q))

  outer_once : (k : ℕ) → PassesOnce (is_symbol_line k) (numbered_lines w n)
  outer_once k i j a b h g p q =
      let x = outer_is k a.part p in
      let y = outer_is k b.part q in
      one_outer w n k i j x.0 y.0 (of_laid 0 (lines_of w n) i a h ∙ ap (λ z. Some z) x.1) (of_laid 0 (lines_of w n) j b g ∙ ap (λ z. Some z) y.1)

  -- all lines
  pub upto_all : (i : ℕ) (x : Numbers) → length (numbered_lines w n) ≤ i → AreUpto i x → IsNumbered w n x
  upto_all i x past upto = record {
    sized = upto.sized;
    owns = λ k low. upto.owns k low ∙ ap (λ ls. last_where (is_own_line k) ls 0) (take_all i (numbered_lines w n) past) ∙ last_is (is_own_line k) (numbered_lines w n) 0 (own_once k);
    outers = λ k low. upto.outers k low ∙ ap (λ ls. last_where (is_symbol_line k) ls 0) (take_all i (numbered_lines w n) past) ∙ last_is (is_symbol_line k) (numbered_lines w n) 0 (outer_once k);
  }

  pub length-numbered : length (numbered_lines w n) ≡ length (lines_of w n)
  length-numbered = length-laid behind line_size 0 (lines_of w n)

  -- there is a place for the number of a line that is there
  pub can_give : (x : Numbers) (this : Given) → AreSized n x → (i : ℕ) (is : Line) → slice_get (lines_of w n) i ≡ Some is → line_in n this ≡ Some is → CanGive x this
  can_give x (line.Own k) sized i is here there =
      let own : slice_get (needed_sections n) i ≡ Some k = first_place i k (here ∙ sym there) in
      let low = needed_low n i k own in
      subst (λ m. k < m) (sym sized.owns) low
  can_give x (line.Local k) sized i is here there = tt
  can_give x (line.Outer k) sized i is here there = subst (λ m. k < m) (sym sized.outers) (within (slice_get n.symbols k) there refl)
    where
      within : (o : Option Symbol) → option_map (OuterLine k) o ≡ Some is → slice_get n.symbols k ≡ o → k < length n.symbols
      within None g e = absurd (none-some is g)
      within (Some s) g e = slice_get_within n.symbols k s e

  -- the section of an `l_section_k` is there
  pub own_named : (this : Given) (i : ℕ) (is : Line) → slice_get (lines_of w n) i ≡ Some is → line_in n this ≡ Some is → IsNamed n this
  own_named (line.Own k) i is here there = needed_low n i k (first_place i k (here ∙ sym there))
  own_named (line.Local k) i is here there = tt
  own_named (line.Outer k) i is here there = tt
