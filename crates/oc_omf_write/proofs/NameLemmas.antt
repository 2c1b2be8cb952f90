-- Names that are added one after another, each once, and where they stand.
use Rattle.std.proofs.Common.{◌≡◌, ℕ, suc, ◌+◌, ◌≤◌, Bool, true, false, true≢false, cond, not, List, [], ◌∷◌, ◌++◌, length, drop, map, Some, None, refl, sym, ◌∙◌, ap, subst, arith}
use Rattle.std.specs.{Prelude.{slice_get, bytes_eq, fold, codes, ◌||◌}, List.{AllByRecursion, list_any, position_or_len}, Map.{update}}
use Rattle.std.proofs.lemmas.{List.{drop_all, length-map}, Option.{none-some}, Slice.Eq.{bytes_eq-Decides}}
use Rattle.oc_neutral.specs.declared.section.Section.{Section}
use Rattle.oc_omf_file.specs.Names.{class_of, with_name}
use Rattle.oc_omf_file.proofs.ListLemmas.{all_both}
use Rattle.oc_omf_write.specs.{declared.names.Name.{Name}, declared.names.Names.{Names}}
use Rattle.oc_omf_write.specs.Names.{text_by, IsNameOf, given_for, names_for, place_among, value_at, AreNames, AreUpto}
use Rattle.oc_plans.proofs.Turns.{map_append}
use Rattle.oc_neutral.proofs.FieldLists.{drop_here}

-- ... texts

other_bytes : (xs ys : List ℕ) → bytes_eq xs ys ≡ false → bytes_eq ys xs ≡ false
other_bytes xs ys differ = by (bytes_eq ys xs) refl
  where
    by : (b : Bool) → bytes_eq ys xs ≡ b → b ≡ false
    by true e = sym (sym differ ∙ (bytes_eq-Decides xs ys).1 (sym ((bytes_eq-Decides ys xs).0 e)))
    by false e = refl

-- one text more, which is not among them
any_last : (test : List ℕ → Bool) (xs : List (List ℕ)) (x : List ℕ) → list_any test (xs ++ x ∷ []) ≡ (list_any test xs || test x)
any_last test [] x = by (test x)
  where
    by : (b : Bool) → (b || false) ≡ b
    by true = refl
    by false = refl
any_last test (y ∷ xs) x = by (test y) (any_last test xs x)
  where
    by : (b : Bool) → list_any test (xs ++ x ∷ []) ≡ (list_any test xs || test x) → (b || list_any test (xs ++ x ∷ [])) ≡ ((b || list_any test xs) || test x)
    by true e = refl
    by false e = e

-- those that stood before stay where they are
position_stays : (test : List ℕ → Bool) (xs : List (List ℕ)) (x : List ℕ) → list_any test xs ≡ true → position_or_len test (xs ++ x ∷ []) ≡ position_or_len test xs
position_stays test [] x e = absurd (true≢false (sym e))
position_stays test (y ∷ xs) x e = by (test y) (position_stays test xs x) e
  where
    by : (b : Bool) → (list_any test xs ≡ true → position_or_len test (xs ++ x ∷ []) ≡ position_or_len test xs) → (b || list_any test xs) ≡ true
        → cond (not b) (1 + position_or_len test (xs ++ x ∷ [])) 0 ≡ cond (not b) (1 + position_or_len test xs) 0
    by true later e = refl
    by false later e = ap (λ k. 1 + k) (later e)

-- and the new one stands last
position_last : (test : List ℕ → Bool) (xs : List (List ℕ)) (x : List ℕ) → list_any test xs ≡ false → test x ≡ true → position_or_len test (xs ++ x ∷ []) ≡ length xs
position_last test [] x e is = ap (λ b. cond (not b) 1 0) is
position_last test (y ∷ xs) x e is = by (test y) (λ h. position_last test xs x h is) e
  where
    by : (b : Bool) → (list_any test xs ≡ false → position_or_len test (xs ++ x ∷ []) ≡ length xs) → (b || list_any test xs) ≡ false
        → cond (not b) (1 + position_or_len test (xs ++ x ∷ [])) 0 ≡ suc (length xs)
    by true later e = absurd (true≢false e)
    by false later e = let last = later e in omega (arith, last)

-- ... places

place_none : (done : List (List ℕ)) (text : List ℕ) → place_among done text ≡ None → list_any (bytes_eq text) done ≡ false
place_none done text e = by (list_any (bytes_eq text) done) e
  where
    by : (b : Bool) → cond b (Some (position_or_len (bytes_eq text) done)) None ≡ None → b ≡ false
    by true e = absurd (none-some (position_or_len (bytes_eq text) done) (sym e))
    by false e = refl

-- the places with one text more
place_more : (done : List (List ℕ)) (text other : List ℕ) → list_any (bytes_eq text) done ≡ false
    → cond (bytes_eq text other) (Some (length done)) (place_among done other) ≡ place_among (done ++ text ∷ []) other
place_more done text other new = by (bytes_eq text other) refl
  where
    old : (b : Bool) → list_any (bytes_eq other) done ≡ b → bytes_eq other text ≡ false → cond b (Some (position_or_len (bytes_eq other) done)) None ≡ place_among (done ++ text ∷ []) other
    old true e differ =
        ap Some (sym (position_stays (bytes_eq other) done text e))
        ∙ ap (λ b. cond b (Some (position_or_len (bytes_eq other) (done ++ text ∷ []))) None) (sym (any_last (bytes_eq other) done text ∙ ap (λ b. b || bytes_eq other text) e))
    old false e differ =
        ap (λ b. cond b (Some (position_or_len (bytes_eq other) (done ++ text ∷ []))) None)
        (sym (any_last (bytes_eq other) done text ∙ ap (λ b. b || bytes_eq other text) e ∙ differ))

    by : (b : Bool) → bytes_eq text other ≡ b → cond b (Some (length done)) (place_among done other) ≡ place_among (done ++ text ∷ []) other
    by true e =
        let same : text ≡ other = (bytes_eq-Decides text other).0 e in
        let none : list_any (bytes_eq other) done ≡ false = ap (λ (t : List ℕ). list_any (bytes_eq t) done) (sym same) ∙ new in
        let is : bytes_eq other text ≡ true = (bytes_eq-Decides other text).1 (sym same) in
        ap Some (sym (position_last (bytes_eq other) done text none is))
        ∙ ap (λ b. cond b (Some (position_or_len (bytes_eq other) (done ++ text ∷ []))) None)
        (sym (any_last (bytes_eq other) done text ∙ ap (λ b. b || bytes_eq other text) none ∙ is))
    by false e = old (list_any (bytes_eq other) done) refl (other_bytes text other e)

-- ... names

module _ (sections : List Section) where
  -- another is
  pub names_more : (done : List (List ℕ)) (old new : Names) (name : Name) (text : List ℕ) → value_at old.places text ≡ None → IsNameOf (length sections) name → text_by sections name ≡ text
      → new.list.items ≡ old.list.items ++ name ∷ []
      → ((other : List ℕ) → value_at new.places other ≡ update bytes_eq (value_at old.places) text (Some (length old.list.items)) other)
      → AreNames sections done old → AreNames sections (with_name done text) new
  names_more done old new name text none of is pushed updated are =
      let absent : list_any (bytes_eq text) done ≡ false = place_none done text (sym (are.places text) ∙ none) in
      let long : length old.list.items ≡ length done = sym (length-map old.list.items (text_by sections)) ∙ ap length are.texts in
      subst (λ (xs : List (List ℕ)). AreNames sections xs new) (ap (λ b. cond b done (done ++ text ∷ [])) (sym absent)) (record {
        texts = ap (map (text_by sections)) pushed ∙ map_append (text_by sections) old.list.items (name ∷ []) ∙ ap (λ xs. xs ++ text_by sections name ∷ []) are.texts ∙ ap (λ t. done ++ t ∷ []) is;
        places = λ other.
            updated other
            ∙ ap (λ o. cond (bytes_eq text other) (Some (length old.list.items)) o) (are.places other)
            ∙ ap (λ k. cond (bytes_eq text other) (Some k) (place_among done other)) long
            ∙ place_more done text other absent;
        of_sections = subst (AllByRecursion (IsNameOf (length sections))) (sym pushed) (all_both (IsNameOf (length sections)) old.list.items (name ∷ []) are.of_sections (of, tt));
      })

  pub upto_more : (k : ℕ) (s : Section) (old new : Names) (u : AreUpto sections k old) → slice_get sections k ≡ Some s → AreNames sections (with_name (with_name u.done s.name) (class_of s)) new → AreUpto sections (k + 1) new
  upto_more k s old new u here are = record {
    done = with_name (with_name u.done s.name) (class_of s);
    are = are;
    all = ap (λ (xs : List Section). fold with_name u.done (given_for xs)) (sym (drop_here sections k s here)) ∙ u.all;
  }

  pub upto_begun : (names : Names) → AreNames sections (with_name (with_name [] []) (codes "FLAT")) names → AreUpto sections 0 names
  upto_begun names are = record { done = with_name (with_name [] []) (codes "FLAT"); are = are; all = refl }

  pub upto_done : (k : ℕ) (names : Names) → length sections ≤ k → AreUpto sections k names → AreNames sections (names_for sections) names
  upto_done k names past u =
      let none : drop k sections ≡ [] = drop_all k sections past in
      subst (λ (xs : List (List ℕ)). AreNames sections xs names) (ap (λ (xs : List Section). fold with_name u.done (given_for xs)) (sym none) ∙ u.all) u.are
