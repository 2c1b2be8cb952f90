-- The addresses of an output's sections: where they are found, that sections do not overlap, and that all end below 2^32.
use Rattle.std.proofs.Common.{◌≡◌, ℕ, zero, suc, ◌+◌, ◌-◌, ◌*◌, ◌%◌, ◌≤◌, ◌⊎◌, inl, inr, Bool, true, false, not, cond, List, [], ◌∷◌, ◌++◌, length, Some, refl, sym, ◌∙◌, ap, subst, arith, length-append}
use Rattle.std.specs.{Prelude.{slice_get}, List.{enumerate_from, filter, sum_by}}
use Rattle.std.proofs.Math.Nat.{mod-le}
use Rattle.std.proofs.lemmas.{Bool.{eqb-true, eq-eqb, cases_lt}, List.FromFn.{length-enumerate_from}, List.Sums.{sum_by-cons, sum_by-append}}
use Rattle.std.proofs.lemmas.Option.{none-some, same_Some}
use Rattle.oc_base.specs.declared.format.Word.{Word}
use Rattle.oc_neutral.specs.{declared.section.Section.{Section}, Objects.{Object}}
use Rattle.oc_shelf.specs.Writing.Parts.{Laid, laid, laid_end, aligned}
use Rattle.oc_shelf.proofs.WritingLaws.MemberLemmas.{member_first, member_second, member_enumerated, of_append, of_enumerated, of_filter, member_filter}
use Rattle.oc_shelf.proofs.WritingLaws.PartLemmas.{IsFound, place_found, laid_after}
use Rattle.oc_macho_file.specs.Addresses.{Numbered, is_blank, stored_sections, blank_sections, section_begin, size_of, mapped, is_at, address_of, memory_end}
use Rattle.oc_macho_file.proofs.CodedLaws.{IsForMach, meets_section, power_low, align_some}

pub section_rises : (at : ℕ) (x : Numbered) → at ≤ section_begin at x
section_rises at x = omega arith

-- the sections in the order of their addresses
abbrev pub ordered : Object → List Numbered
ordered n = stored_sections n ++ blank_sections n

module _ (n : Object) where
  -- they are those of the object
  pub ordered_is : (i : ℕ) (x : Numbered) → slice_get (ordered n) i ≡ Some x → slice_get n.sections x.0 ≡ Some x.1
  ordered_is i x here = elim (of_append (stored_sections n) (blank_sections n) i x here) [
    | inl g ↦ one (λ y. not (is_blank y)) i g
    | inr r ↦ one is_blank r.0 r.2
  ]
    where
      one : (test : Numbered → Bool) (j : ℕ) → slice_get (filter test (enumerate_from 0 n.sections)) j ≡ Some x → slice_get n.sections x.0 ≡ Some x.1
      one test j h =
          let f = of_filter test (enumerate_from 0 n.sections) j x h in
          let y = of_enumerated 0 n.sections f.0 x f.1 in
          let e : f.0 ≡ x.0 = omega (arith, y.0) in
          ap (slice_get n.sections) (sym e) ∙ y.1

  pub ordered_there : (k : ℕ) (s : Section) → slice_get n.sections k ≡ Some s → (i : ℕ) × (slice_get (ordered n) i ≡ Some (k, s))
  ordered_there k s here = by (is_blank (k, s)) refl
    where
      numbered : slice_get (enumerate_from 0 n.sections) k ≡ Some (k, s)
      numbered = let e : 0 + k ≡ k = omega arith in member_enumerated 0 n.sections k s here ∙ ap (λ i. Some (i, s)) e

      by : (b : Bool) → is_blank (k, s) ≡ b → (i : ℕ) × (slice_get (ordered n) i ≡ Some (k, s))
      by true e =
          let m = member_filter is_blank (enumerate_from 0 n.sections) k (k, s) numbered e in
          (length (stored_sections n) + m.0, member_second (stored_sections n) (blank_sections n) m.0 (k, s) m.1)
      by false e =
          let m = member_filter (λ y. not (is_blank y)) (enumerate_from 0 n.sections) k (k, s) numbered (ap not e) in
          (m.0, member_first (stored_sections n) (blank_sections n) m.0 (k, s) m.1)

  -- where a section is mapped
  pub mapped_at : (k : ℕ) (s : Section) → slice_get n.sections k ≡ Some s → IsFound (mapped n) (is_at k) (k, s)
  mapped_at k s here =
      let i = ordered_there k s here in
      place_found section_begin size_of (is_at k) 0 (ordered n) i.0 (k, s) i.1 (eq-eqb k k refl)
      (λ j y h t. let same : y.0 ≡ k = eqb-true y.0 k t in ap (λ p. (p, y.1)) same ∙ ap (λ z. (k, z)) (same_Some y.1 s (sym (ordered_is j y h) ∙ ap (slice_get n.sections) same ∙ here)))

  pub address_is : (k : ℕ) (s : Section) (here : slice_get n.sections k ≡ Some s) → address_of n k ≡ (mapped_at k s here).one.at
  unfolding address_of
  address_is k s here = (mapped_at k s here).place

  -- of two sections one ends by where the other begins
  pub sections_apart : (j k : ℕ) (a b : Section) → slice_get n.sections j ≡ Some a → slice_get n.sections k ≡ Some b → (j ≡ k → ⊥)
      → (address_of n j + a.size ≤ address_of n k) ⊎ (address_of n k + b.size ≤ address_of n j)
  sections_apart j k a b here there differ =
      let f = mapped_at j a here in
      let g = mapped_at k b there in
      let one = address_is j a here in
      let two = address_is k b there in
      let first : size_of f.one.part ≡ a.size = ap size_of f.part in
      let second : size_of g.one.part ≡ b.size = ap size_of g.part in
      elim (cases_lt f.index g.index) [
        | inl before ↦ let l = laid_after section_begin size_of section_rises 0 (ordered n) f.index g.index f.one g.one before f.here g.here in inl (omega (arith, l, one, two, first))
        | inr le ↦ elim (cases_lt g.index f.index) [
          | inl behind ↦ let l = laid_after section_begin size_of section_rises 0 (ordered n) g.index f.index g.one f.one behind g.here f.here in inr (omega (arith, l, one, two, second))
          | inr ge ↦
              let same : f.index ≡ g.index = omega (arith, le, ge) in
              let laid_same : f.one ≡ g.one = same_Some f.one g.one (sym f.here ∙ ap (slice_get (mapped n)) same ∙ g.here) in
              absurd (differ (ap (λ (x : Numbered). x.0) (sym f.part ∙ ap (λ (l : Laid Numbered). l.part) laid_same ∙ g.part)))
        ]
      ]

-- ... ends

-- what is laid with gaps of at most so much ends in time
pub laid_low : {X : Type 0} (begin : ℕ → X → ℕ) (size : X → ℕ) (gap at : ℕ) (xs : List X) → ((k : ℕ) (x : X) → slice_get xs k ≡ Some x → (p : ℕ) → begin p x ≤ p + gap)
    → laid_end begin size at xs ≤ at + sum_by size xs + gap * length xs
laid_low begin size gap at [] near = omega arith
laid_low begin size gap at (x ∷ xs) near =
    let rest = laid_low begin size gap (begin at x + size x) xs (λ k y h. near (suc k) y h) in
    let own = near 0 x refl at in
    let sum = sum_by-cons size x xs in
    let more : gap * suc (length xs) ≡ gap + gap * length xs = grind arith in
    omega (arith, rest, own, sum, more)

-- each ends by the end
pub laid_inside : {X : Type 0} (begin : ℕ → X → ℕ) (size : X → ℕ) (at : ℕ) (xs : List X) → ((p : ℕ) (x : X) → p ≤ begin p x) → (k : ℕ) (l : Laid X) → slice_get (laid begin size at xs) k ≡ Some l
    → l.at + size l.part ≤ laid_end begin size at xs
laid_inside begin size at [] rises k l here = absurd (none-some l here)
laid_inside {X} begin size at (x ∷ xs) rises zero l here =
    subst (λ (y : Laid X). y.at + size y.part ≤ laid_end begin size (begin at x + size x) xs) (same_Some _ l here) (from (begin at x + size x) xs)
  where
    from : (p : ℕ) (ys : List X) → p ≤ laid_end begin size p ys
    from p [] = omega arith
    from p (y ∷ ys) = let r = rises p y in let rest = from (begin p y + size y) ys in omega (arith, r, rest)
laid_inside begin size at (x ∷ xs) rises (suc k) l here = laid_inside begin size (begin at x + size x) xs rises k l here

-- what two filters leave is all together
filters_sum : {X : Type 0} (size : X → ℕ) (test : X → Bool) (xs : List X) → sum_by size (filter (λ x. not (test x)) xs) + sum_by size (filter test xs) ≡ sum_by size xs
filters_sum size test [] = refl
filters_sum {X} size test (x ∷ xs) = by (test x) (filters_sum size test xs)
  where
    by : (b : Bool) → sum_by size (filter (λ x. not (test x)) xs) + sum_by size (filter test xs) ≡ sum_by size xs
        → sum_by size (cond (not b) (x ∷ filter (λ x. not (test x)) xs) (filter (λ x. not (test x)) xs)) + sum_by size (cond b (x ∷ filter test xs) (filter test xs)) ≡ sum_by size (x ∷ xs)
    by true rest = let a = sum_by-cons size x (filter test xs) in let b = sum_by-cons size x xs in omega (arith, rest, a, b)
    by false rest = let a = sum_by-cons size x (filter (λ x. not (test x)) xs) in let b = sum_by-cons size x xs in omega (arith, rest, a, b)

filters_length : {X : Type 0} (test : X → Bool) (xs : List X) → length (filter (λ x. not (test x)) xs) + length (filter test xs) ≡ length xs
filters_length test [] = refl
filters_length {X} test (x ∷ xs) = by (test x) (filters_length test xs)
  where
    by : (b : Bool) → length (filter (λ x. not (test x)) xs) + length (filter test xs) ≡ length xs
        → length (cond (not b) (x ∷ filter (λ x. not (test x)) xs) (filter (λ x. not (test x)) xs)) + length (cond b (x ∷ filter test xs) (filter test xs)) ≡ length (x ∷ xs)
    by true rest = omega (arith, rest)
    by false rest = omega (arith, rest)

numbered_sum : (size : Section → ℕ) (i : ℕ) (xs : List Section) → sum_by (λ (x : Numbered). size x.1) (enumerate_from i xs) ≡ sum_by size xs
numbered_sum size i [] = refl
numbered_sum size i (x ∷ xs) =
    let a = sum_by-cons (λ (x : Numbered). size x.1) (i, x) (enumerate_from (i + 1) xs) in
    let b = sum_by-cons size x xs in
    let rest = numbered_sum size (i + 1) xs in
    omega (arith, a, b, rest)

pub gap_low : (align p : ℕ) → 1 ≤ align → align ≤ 32768 → aligned align p ≤ p + 32768
gap_low align p some low = let l = mod-le (align - p % align) align in omega (arith, l, low, some)

module _ (w : Word) (n : Object) (is : IsForMach w n) where
  near : (i : ℕ) (x : Numbered) → slice_get (ordered n) i ≡ Some x → (p : ℕ) → section_begin p x ≤ p + 32768
  near i x here p =
      let m = meets_section w n is x.0 x.1 (ordered_is n i x here) in
      gap_low x.1.align p (align_some x.1.align m.align) (power_low x.1.align m.align)

  pub memory_low : memory_end n ≤ 2155839488
  memory_low =
      let l = laid_low section_begin size_of 32768 0 (ordered n) near in
      let parts = sum_by-append size_of (stored_sections n) (blank_sections n) in
      let sums = filters_sum size_of is_blank (enumerate_from 0 n.sections) in
      let sizes = numbered_sum (λ s. s.size) 0 n.sections in
      let count = length-append (stored_sections n) (blank_sections n) in
      let counts = filters_length is_blank (enumerate_from 0 n.sections) in
      let many = length-enumerate_from 0 n.sections in
      let few = is.meets.few in
      let sum = is.meets.bounds.sizes in
      omega (arith, l, parts, sums, sizes, count, counts, many, few, sum)

  -- each section ends by then
  pub address_low : (k : ℕ) (s : Section) → slice_get n.sections k ≡ Some s → address_of n k + s.size ≤ memory_end n
  address_low k s here =
      let f = mapped_at n k s here in
      let at = address_is n k s here in
      let size : size_of f.one.part ≡ s.size = ap size_of f.part in
      let l = laid_inside section_begin size_of 0 (ordered n) section_rises f.index f.one f.here in
      omega (arith, at, size, l)
