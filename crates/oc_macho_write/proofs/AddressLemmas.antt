-- Sections as they get their addresses: those with bytes in the file, and behind them those without.
use Rattle.std.proofs.Common.{◌≡◌, ℕ, suc, ◌+◌, ◌^◌, ◌<◌, ◌≤◌, Bool, true, false, true≢false, not, cond, nat_eq, List, [], ◌∷◌, ◌++◌, length, drop, set, get_or, Some, refl, sym, ◌∙◌, ap, arith}
use mathlib.Core.Bool.{beq}
use Rattle.std.specs.{Prelude.{slice_get, find}, List.{enumerate_from, filter}, Option.{option_map_or}}
use Rattle.std.proofs.lemmas.{Bool.{eqb-true, eq-eqb}, List.{drop_all, get_or-set_same, get_or-set_other, length-set}, Option.{same_Some, slice_get_within}}
use Rattle.oc_base.specs.declared.format.Word.{Word}
use Rattle.oc_neutral.specs.{declared.section.Section.{Section}, Objects.{Object}}
use Rattle.oc_neutral.proofs.{Positions.{there_at}, FieldLists.{drop_here}}
use Rattle.oc_shelf.specs.Writing.Parts.{Laid, laid, laid_end, aligned}
use Rattle.oc_macho_file.specs.Addresses.{Numbered, address_of, blank_sections, is_at, is_blank, memory_end, section_begin, size_of, stored_end, stored_sections}
use Rattle.oc_macho_file.proofs.{AddressLaws.{address_low, memory_low, section_rises}, CodedLaws.{IsForMach}}
use Rattle.oc_macho_write.specs.{Addresses.{is_of, place_or, those, those_end, those_laid}, Values.{AreAddresses}}
use Rattle.oc_shelf.proofs.WritingLaws.MemberLemmas.{of_enumerated, of_filter}

-- ... the place of what passes a test

module _ {X : Type 0} (test : X → Bool) where
  place_step : (l : Laid X) (ls : List (Laid X)) (d : ℕ) → place_or test (l ∷ ls) d ≡ cond (test l.part) l.at (place_or test ls d)
  place_step l ls d = by (test l.part)
    where
      by : (b : Bool) → option_map_or (λ (m : Laid X). m.at) (cond b (Some l) (find (λ (m : Laid X). test m.part) ls)) d ≡ cond b l.at (place_or test ls d)
      by true = refl
      by false = refl

  module _ (begin : ℕ → X → ℕ) (size : X → ℕ) where
    -- nothing passes
    none_placed : (at : ℕ) (xs : List X) (d : ℕ) → ((k : ℕ) (x : X) → slice_get xs k ≡ Some x → test x ≡ false) → place_or test (laid begin size at xs) d ≡ d
    none_placed at [] d none = refl
    none_placed at (x ∷ xs) d none =
        place_step (record { at = begin at x; part = x }) (laid begin size (begin at x + size x) xs) d
        ∙ ap (λ b. cond b (begin at x) (place_or test (laid begin size (begin at x + size x) xs) d)) (none 0 x refl)
        ∙ none_placed (begin at x + size x) xs d (λ k y h. none (suc k) y h)

    -- two lists that follow one another
    place_both : (at : ℕ) (xs ys : List X) (d : ℕ) → place_or test (laid begin size at (xs ++ ys)) d ≡ place_or test (laid begin size at xs) (place_or test (laid begin size (laid_end begin size at xs) ys) d)
    place_both at [] ys d = refl
    place_both at (x ∷ xs) ys d =
        place_step (record { at = begin at x; part = x }) (laid begin size (begin at x + size x) (xs ++ ys)) d
        ∙ ap (cond (test x) (begin at x)) (place_both (begin at x + size x) xs ys d)
        ∙ sym (place_step (record { at = begin at x; part = x }) (laid begin size (begin at x + size x) xs) (place_or test (laid begin size (laid_end begin size at (x ∷ xs)) ys) d))

end_both : {X : Type 0} (begin : ℕ → X → ℕ) (size : X → ℕ) (at : ℕ) (xs ys : List X) → laid_end begin size at (xs ++ ys) ≡ laid_end begin size (laid_end begin size at xs) ys
end_both begin size at [] ys = refl
end_both begin size at (x ∷ xs) ys = end_both begin size (begin at x + size x) xs ys

-- what is of the kind, as two answers tell it
pub own_kind : (blank : Bool) (x : Numbered) (b : Bool) → b ≡ is_blank x → beq b blank ≡ true → is_of blank x ≡ true
own_kind true x true told same = sym told
own_kind true x false told same = absurd (true≢false (sym same))
own_kind false x true told same = absurd (true≢false (sym same))
own_kind false x false told same = ap not (sym told)

pub other_kind : (blank : Bool) (x : Numbered) (b : Bool) → b ≡ is_blank x → beq b blank ≡ false → is_of blank x ≡ false
other_kind true x true told same = absurd (true≢false same)
other_kind true x false told same = sym told
other_kind false x true told same = ap not (sym told)
other_kind false x false told same = absurd (true≢false same)

-- what is laid ends no earlier than it begins
pub end_rises : (at : ℕ) (xs : List Numbered) → at ≤ laid_end section_begin size_of at xs
end_rises at [] = omega arith
end_rises at (x ∷ xs) = let r = section_rises at x in let e = end_rises (section_begin at x + size_of x) xs in omega (arith, r, e)

-- ... a loop over the sections

module _ (blank : Bool) (n : Object) where
  -- those from a position on
  abbrev left : ℕ → List Numbered
  left k = filter (is_of blank) (enumerate_from k (drop k n.sections))

  left_step : (k : ℕ) (s : Section) → slice_get n.sections k ≡ Some s → left k ≡ cond (is_of blank (k, s)) ((k, s) ∷ left (k + 1)) (left (k + 1))
  left_step k s here = ap (λ xs. filter (is_of blank) (enumerate_from k xs)) (drop_here n.sections k s here)

  -- they have other positions than those before
  left_behind : (k j i : ℕ) (x : Numbered) → j < k → slice_get (left k) i ≡ Some x → is_at j x ≡ false
  left_behind k j i x low here =
      let f = of_filter (is_of blank) (enumerate_from k (drop k n.sections)) i x here in
      let e = (of_enumerated k (drop k n.sections) f.0 x f.1).0 in
      by f.0 (is_at j x) refl e
    where
      by : (m : ℕ) (b : Bool) → is_at j x ≡ b → x.0 ≡ k + m → b ≡ false
      by m true t e = let same : x.0 ≡ j = eqb-true x.0 j t in absurd (omega (arith, same, e, low))
      by m false t e = refl

  -- addresses so far, of all before position k
  pub record IsLaying (at : ℕ) (old : List ℕ) (k : ℕ) (now : List ℕ) (stop : ℕ) : Type 0 where
    pub counted : length now ≡ length n.sections
    pub each : (j : ℕ) → j < length n.sections → place_or (is_at j) (laid section_begin size_of stop (left k)) (get_or now j 0) ≡ place_or (is_at j) (those_laid blank n at) (get_or old j 0)
    pub end : laid_end section_begin size_of stop (left k) ≡ those_end blank n at

  module _ (at : ℕ) (old : List ℕ) where
    pub laying_begun : length old ≡ length n.sections → IsLaying at old 0 old at
    laying_begun counted = record { counted = counted; each = λ j low. refl; end = refl }

    -- what is laid so far ends by the end of all
    pub laying_low : (k : ℕ) (now : List ℕ) (end : ℕ) → IsLaying at old k now end → end ≤ those_end blank n at
    laying_low k now end is = let up = end_rises end (left k) in let e = is.end in omega (arith, up, e)

    module _ (k : ℕ) (s : Section) (here : slice_get n.sections k ≡ Some s) (now : List ℕ) (end : ℕ) (is : IsLaying at old k now end) where
      -- one that is not of those
      pub laying_passed : is_of blank (k, s) ≡ false → IsLaying at old (k + 1) now end
      laying_passed other =
          let same : left (k + 1) ≡ left k = sym (left_step k s here ∙ ap (λ b. cond b ((k, s) ∷ left (k + 1)) (left (k + 1))) other) in
          record {
            counted = is.counted;
            each = λ j low. ap (λ xs. place_or (is_at j) (laid section_begin size_of end xs) (get_or now j 0)) same ∙ is.each j low;
            end = ap (laid_end section_begin size_of end) same ∙ is.end;
          }

      module _ (own : is_of blank (k, s) ≡ true) where
        first : left k ≡ (k, s) ∷ left (k + 1)
        first = left_step k s here ∙ ap (λ b. cond b ((k, s) ∷ left (k + 1)) (left (k + 1))) own

        abbrev begin : ℕ
        begin = aligned s.align end

        -- it ends by the end of all
        pub laying_room : begin + s.size ≤ those_end blank n at
        laying_room =
            let e = end_rises (begin + s.size) (left (k + 1)) in
            let same : laid_end section_begin size_of end ((k, s) ∷ left (k + 1)) ≡ those_end blank n at = ap (laid_end section_begin size_of end) (sym first) ∙ is.end in
            omega (arith, e, same)

        abbrev rest : List (Laid Numbered)
        rest = laid section_begin size_of (begin + s.size) (left (k + 1))

        k_low : k < length now
        k_low = let l = slice_get_within n.sections k s here in let e = is.counted in omega (arith, l, e)

        step : (j : ℕ) → place_or (is_at j) rest (get_or (set now k begin) j 0) ≡ cond (nat_eq k j) begin (place_or (is_at j) rest (get_or now j 0))
        step j = by (nat_eq k j) refl
          where
            by : (b : Bool) → nat_eq k j ≡ b → place_or (is_at j) rest (get_or (set now k begin) j 0) ≡ cond b begin (place_or (is_at j) rest (get_or now j 0))
            by true e =
                let same : k ≡ j = eqb-true k j e in
                none_placed (is_at j) section_begin size_of (begin + s.size) (left (k + 1)) (get_or (set now k begin) j 0) (λ i x h. left_behind (k + 1) j i x (omega (arith, same)) h)
                ∙ ap (λ i. get_or (set now k begin) i 0) (sym same) ∙ get_or-set_same now k begin 0 k_low
            by false e = ap (place_or (is_at j) rest) (get_or-set_other now k j begin 0 (λ same. true≢false (sym (eq-eqb k j (sym same)) ∙ e)))

        pub laying_more : (after : List ℕ) → after ≡ set now k begin → IsLaying at old (k + 1) after (begin + s.size)
        laying_more after becomes = record {
          counted = ap length becomes ∙ length-set now k begin ∙ is.counted;
          each = λ j low.
              ap (λ xs. place_or (is_at j) rest (get_or xs j 0)) becomes ∙ step j
              ∙ sym (place_step (is_at j) (record { at = begin; part = (k, s) }) rest (get_or now j 0))
              ∙ ap (λ xs. place_or (is_at j) (laid section_begin size_of end xs) (get_or now j 0)) (sym first) ∙ is.each j low;
          end = ap (laid_end section_begin size_of end) (sym first) ∙ is.end;
        }

    -- none is left
    pub laying_done : (k : ℕ) (now : List ℕ) (end : ℕ) → length n.sections ≤ k → IsLaying at old k now end
        → ((j : ℕ) → j < length n.sections → get_or now j 0 ≡ place_or (is_at j) (those_laid blank n at) (get_or old j 0)) × (end ≡ those_end blank n at)
    laying_done k now end past is =
        let none : left k ≡ [] = ap (λ xs. filter (is_of blank) (enumerate_from k xs)) (drop_all k n.sections past) in (
          λ j low. sym (ap (λ xs. place_or (is_at j) (laid section_begin size_of end xs) (get_or now j 0)) none) ∙ is.each j low,
          sym (ap (laid_end section_begin size_of end) none) ∙ is.end,
        )

-- ... all addresses

module _ (n : Object) where
  -- a section of the one kind is not among those of the other
  absent : (blank : Bool) (k : ℕ) (s : Section) → slice_get n.sections k ≡ Some s → is_of blank (k, s) ≡ false → (i : ℕ) (x : Numbered) → slice_get (those blank n) i ≡ Some x → is_at k x ≡ false
  absent blank k s here other i x h =
      let f = of_filter (is_of blank) (enumerate_from 0 n.sections) i x h in
      let e = of_enumerated 0 n.sections f.0 x f.1 in
      by f.0 (is_at k x) refl e.0 e.1 f.2
    where
      by : (m : ℕ) (b : Bool) → is_at k x ≡ b → x.0 ≡ 0 + m → slice_get n.sections m ≡ Some x.1 → is_of blank x ≡ true → b ≡ false
      by m true t at there own =
          let same : x.0 ≡ k = eqb-true x.0 k t in
          let place : m ≡ k = omega (arith, same, at) in
          absurd (true≢false (sym own ∙ ap (is_of blank) (ap (λ p. (p, x.1)) same ∙ ap (λ z. (k, z)) (same_Some x.1 s (sym there ∙ ap (slice_get n.sections) place ∙ here))) ∙ other))
      by m false t at there own = refl

  -- the address of a section, laid among those with bytes and then among those without
  address_laid : (k : ℕ) (s : Section) → slice_get n.sections k ≡ Some s
      → place_or (is_at k) (those_laid true n (stored_end n)) (place_or (is_at k) (those_laid false n 0) 0) ≡ address_of n k
  unfolding address_of
  address_laid k s here = by (is_blank (k, s)) refl
    where
      both : place_or (is_at k) (laid section_begin size_of 0 (stored_sections n ++ blank_sections n)) 0 ≡ place_or (is_at k) (those_laid false n 0) (place_or (is_at k) (those_laid true n (stored_end n)) 0)
      both = place_both (is_at k) section_begin size_of 0 (stored_sections n) (blank_sections n) 0

      by : (b : Bool) → is_blank (k, s) ≡ b → place_or (is_at k) (those_laid true n (stored_end n)) (place_or (is_at k) (those_laid false n 0) 0) ≡ address_of n k
      by true e =
          let none : (d : ℕ) → place_or (is_at k) (those_laid false n 0) d ≡ d = λ d. none_placed (is_at k) section_begin size_of 0 (those false n) d (absent false k s here (ap not e)) in
          ap (place_or (is_at k) (those_laid true n (stored_end n))) (none 0) ∙ sym (none (place_or (is_at k) (those_laid true n (stored_end n)) 0)) ∙ sym both
      by false e =
          let none : (d : ℕ) → place_or (is_at k) (those_laid true n (stored_end n)) d ≡ d = λ d. none_placed (is_at k) section_begin size_of (stored_end n) (those true n) d (absent true k s here e) in
          none (place_or (is_at k) (those_laid false n 0) 0) ∙ ap (place_or (is_at k) (those_laid false n 0)) (sym (none 0)) ∙ sym both

  pub memory_is : those_end true n (stored_end n) ≡ memory_end n
  memory_is = sym (end_both section_begin size_of 0 (stored_sections n) (blank_sections n))

module _ (w : Word) (n : Object) (is : IsForMach w n) where
  -- where they end
  pub ends_low : (those_end false n 0 < 2 ^ 48) × (those_end true n (stored_end n) < 2 ^ 48)
  ends_low =
      let all = memory_low w n is in
      let same = memory_is n in
      let up = end_rises (stored_end n) (those true n) in
      (omega (arith, all, same, up), omega (arith, all, same))

  pub addresses_are : (first items : List ℕ) → length items ≡ length n.sections
      → ((j : ℕ) → j < length n.sections → get_or first j 0 ≡ place_or (is_at j) (those_laid false n 0) 0)
      → ((j : ℕ) → j < length n.sections → get_or items j 0 ≡ place_or (is_at j) (those_laid true n (stored_end n)) (get_or first j 0)) → AreAddresses n items
  addresses_are first items counted one two = record {
    counted = counted;
    each = λ k low.
        let s = there_at n.sections k low in
        two k low ∙ ap (place_or (is_at k) (those_laid true n (stored_end n))) (one k low) ∙ address_laid n k s.0 s.1;
    small = λ k low.
        let s = there_at n.sections k low in
        let l = address_low w n is k s.0 s.1 in
        let m = memory_low w n is in
        omega (arith, l, m);
    few = (let f = is.meets.few in omega (arith, f));
  }
