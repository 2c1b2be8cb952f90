-- The calls: that they follow one another, how many they are, and what holds of each.
use Rattle.std.proofs.Common.{◌≡◌, ℕ, zero, suc, ◌+◌, ◌*◌, ◌%◌, ◌<◌, ◌≤◌, min, List, [], ◌∷◌, ◌++◌, length, refl, ◌∙◌, ap, subst, arith, append_assoc, length-append}
use Rattle.std.specs.{Prelude.{flat_map}, List.{AllByRecursion, range_with_len}}
use Rattle.std.proofs.lemmas.{List.{append-nil}, Nat.{mod_below}}
use Rattle.oc_base.specs.declared.format.Word.{Word}
use Rattle.oc_chains.specs.{declared.field.Field.{Field}, Fields.{field, FollowFrom}}
use Rattle.oc_neutral.specs.declared.reloc.Reloc.{Reloc}
use Rattle.oc_made.specs.Functions.{call, calls_by, calls_of}

module _ (w : Word) (count : ℕ) where
  -- the calls of so many functions from one on
  abbrev pub calls_from : ℕ → ℕ → List (Field Reloc)
  calls_from a n = flat_map (calls_by w count) (range_with_len a n)

  -- the first call of a function, and the second
  abbrev pub first_call : ℕ → Field Reloc
  first_call i = field (16 * i + 1) 4 (call w ((5 * i + 1) % count))

  abbrev pub second_call : ℕ → Field Reloc
  second_call i = field (16 * i + 6) 4 (call w (count + i % 10))

  -- they follow one another, where what is behind follows
  follow_from : (a n p : ℕ) (tail : List (Field Reloc)) → p ≤ 16 * a → ((q : ℕ) → q ≤ 16 * (a + n) → FollowFrom q tail) → FollowFrom p (calls_from a n ++ tail)
  follow_from a zero p tail early rest = rest p (omega (arith, early))
  follow_from a (suc n) p tail early rest =
      (omega (arith, early), omega arith, (omega arith, omega arith, follow_from (a + 1) n (16 * a + 6 + 4) tail (omega arith) (λ q l. rest q (omega (arith, l)))))

  -- all of them
  pub calls_follow : count ≤ 100000 → FollowFrom 0 (calls_of w count)
  unfolding calls_of
  calls_follow few = subst (FollowFrom 0) (append-nil (calls_from 0 count)) (follow_from 0 count 0 [] (omega arith) (λ q l. omega (arith, l, few)))

  -- the first call of a function stands behind those of the functions before
  pub first_follows : (i : ℕ) → i < 100000 → FollowFrom 0 (calls_from 0 i ++ first_call i ∷ [])
  first_follows i low = follow_from 0 i 0 (first_call i ∷ []) (omega arith) (λ q l. (omega (arith, l), omega arith, omega (arith, low)))

  -- and the second behind it
  pub second_follows : (i : ℕ) → i < 100000 → FollowFrom 0 ((calls_from 0 i ++ first_call i ∷ []) ++ second_call i ∷ [])
  second_follows i low =
      rw append_assoc
      (follow_from 0 i 0 (first_call i ∷ second_call i ∷ []) (omega arith) (λ q l. (omega (arith, l), omega arith, (omega arith, omega arith, omega (arith, low)))))

  -- both make up those of the function
  more_from : (a n : ℕ) → calls_from a n ++ calls_by w count (a + n) ≡ calls_from a (suc n)
  more_from a zero = let z : a + 0 ≡ a = omega arith in ap (calls_by w count) z
  more_from a (suc n) =
      let e : a + suc n ≡ a + 1 + n = omega arith in
      ap (λ (xs : List (Field Reloc)). first_call a ∷ second_call a ∷ xs) (ap (λ m. calls_from (a + 1) n ++ calls_by w count m) e ∙ more_from (a + 1) n)

  pub calls_more : (i : ℕ) → (calls_from 0 i ++ first_call i ∷ []) ++ second_call i ∷ [] ≡ calls_from 0 (i + 1)
  calls_more i =
      let z : i ≡ 0 + i = omega arith in
      let e : suc i ≡ i + 1 = omega arith in
      rw append_assoc (ap (λ m. calls_from 0 i ++ calls_by w count m) z ∙ more_from 0 i ∙ ap (calls_from 0) e)

  -- two of each function
  length_from : (a n : ℕ) → length (calls_from a n) ≡ 2 * n
  length_from a zero = refl
  length_from a (suc n) = let e = length_from (a + 1) n in omega (arith, e)

  pub length-calls_of : length (calls_of w count) ≡ 2 * count
  unfolding calls_of
  length-calls_of = length_from 0 count

  -- the calls of the functions before are few
  pub few_before : (i : ℕ) → length (calls_from 0 i) ≡ 2 * i
  few_before i = length_from 0 i

  pub few_with_first : (i : ℕ) → length (calls_from 0 i ++ first_call i ∷ []) ≡ 2 * i + 1
  few_with_first i = let e = length_from 0 i in let f = length-append (calls_from 0 i) (first_call i ∷ []) in omega (arith, e, f)

  all_from : (P : Field Reloc → Type 0) (a n : ℕ) → ((i : ℕ) → i < a + n → P (first_call i) × P (second_call i)) → AllByRecursion P (calls_from a n)
  all_from P a zero each = tt
  all_from P a (suc n) each =
      let here = each a (omega arith) in
      (here.0, (here.1, all_from P (a + 1) n (λ i l. each i (omega (arith, l)))))

  -- what holds of both calls of each function holds of all
  pub all_calls : (P : Field Reloc → Type 0) → ((i : ℕ) → i < count → P (first_call i) × P (second_call i)) → AllByRecursion P (calls_of w count)
  unfolding calls_of
  all_calls P each = all_from P 0 count (λ i l. each i (omega (arith, l)))

-- the function that is called is one of them
pub callee_low : (count i : ℕ) → i < count → (5 * i + 1) % count < count
callee_low count i low = mod_below (5 * i + 1) count (omega (arith, low))

-- the symbol outside that is called is one of those
pub outsider_low : (count i : ℕ) → i < count → i % 10 < min count 10
outsider_low count i low = let a : i % 10 < 10 = omega arith in let b : i % 10 ≤ i = omega arith in omega (arith, a, b, low)
