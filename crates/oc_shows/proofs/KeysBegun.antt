-- The keys of the groups of an object are those of its sections, each where it begins.
use Rattle.std.proofs.Common.{◌≡◌, ◌≢◌, ℕ, ◌+◌, ◌<◌, ◌≤◌, true, false, cond, List, [], ◌∷◌, ◌++◌, length, map, get_or, Option, Some, None, inl, inr, refl, sym, ◌∙◌, ap, subst, arith}
use Rattle.std.specs.{Prelude.{bytes_eq}, List.{AllByRecursion, position_or_len}, Option.{option_map, option_and_then}}
use Rattle.std.proofs.lemmas.Bool.{cases_lt, eq-eqb, ne_eqb, false_from_ne_true}
use Rattle.std.proofs.lemmas.List.{length-map, length-append, append_assoc, get_or_append_left, get_or_default, get_or_at}
use Rattle.std.proofs.lemmas.{List.Folds.{list_any_at, list_any_none}, List.Sums.{position_or_len_is}, Option.{same_Some, slice_get-get_or, slice_get-map}}
use Rattle.std.proofs.lemmas.Slice.Eq.{bytes_eq-Decides}
use Rattle.oc_base.specs.Strings.{is_given}
use Rattle.oc_neutral.specs.{declared.group.Group.{Group}, Invariants.{IsMember, HaveKeys, AreBegun}, Faces.{key_of}}
use Rattle.oc_shows.specs.Computed.{keys_after}
use Rattle.oc_neutral.proofs.{GroupLemmas.{keys_of}, Positions.{there_at}}

-- the keys of groups
abbrev pub all_keys : List Group → List (List ℕ)
all_keys groups = map (λ (g : Group). g.key) groups

-- groups are their keys
pub groups-keys : (groups : List Group) → map (λ key. record { key = key }) (all_keys groups) ≡ groups
groups-keys [] = refl
groups-keys (g ∷ groups) = ap (λ gs. g ∷ gs) (groups-keys groups)

module _ (groups : List Group) (keys : HaveKeys groups) where
  -- the key at a position
  key_at : (g : ℕ) → g < length groups → (d : List ℕ) → key_of groups g ≡ Some (get_or (all_keys groups) g d)
  key_at g inside d =
      sym (slice_get-map (λ (x : Group). x.key) groups g) ∙ slice_get-get_or (all_keys groups) g d (let e = length-map groups (λ (x : Group). x.key) in omega (arith, e, inside))

  -- keys at different positions differ
  keys_differ : (i j : ℕ) (d : List ℕ) → i < j → j < length groups → get_or (all_keys groups) i d ≢ get_or (all_keys groups) j d
  keys_differ i j d before inside same =
      let a = there_at groups i (omega (arith, before, inside)) in
      let b = there_at groups j inside in
      let at_a : a.0.key ≡ get_or (all_keys groups) i d = same_Some a.0.key (get_or (all_keys groups) i d) (sym (ap (option_map (λ (x : Group). x.key)) a.1) ∙ key_at i (omega (arith, before, inside)) d) in
      let at_b : b.0.key ≡ get_or (all_keys groups) j d = same_Some b.0.key (get_or (all_keys groups) j d) (sym (ap (option_map (λ (x : Group). x.key)) b.1) ∙ key_at j inside d) in
      keys.differ i j a.0 b.0 before a.1 b.1 (at_a ∙ same ∙ sym at_b)

  -- the position of a key
  pub key_position : (g : ℕ) → g < length groups → option_map (λ key. position_or_len (bytes_eq key) (all_keys groups)) (key_of groups g) ≡ Some g
  key_position g inside =
      let key : List ℕ = get_or (all_keys groups) g [] in
      let long = length-map groups (λ (x : Group). x.key) in
      ap (option_map (λ key. position_or_len (bytes_eq key) (all_keys groups))) (key_at g inside [])
      ∙ ap Some (position_or_len_is (bytes_eq key) (all_keys groups) g [] (omega (arith, long, inside))
      (λ j l. false_from_ne_true (bytes_eq key (get_or (all_keys groups) j [])) (λ e. keys_differ j g [] l inside (sym ((bytes_eq-Decides key (get_or (all_keys groups) j [])).0 e))))
      (λ l. (bytes_eq-Decides key key).1 refl))

  pub member_position : (o : Option ℕ) → IsMember (length groups) o
      → option_map (λ key. position_or_len (bytes_eq key) (all_keys groups)) (option_and_then (key_of groups) o) ≡ o
  member_position None is = refl
  member_position (Some g) is = key_position g is

  -- a key that stands before is given
  given-before : (before left : List (List ℕ)) (g : ℕ) → all_keys groups ≡ before ++ left → g < length before → is_given before (get_or (all_keys groups) g []) ≡ true
  given-before before left g split l =
      let key : List ℕ = get_or (all_keys groups) g [] in
      let same : key ≡ get_or before g [] = ap (λ ks. get_or ks g []) split ∙ get_or_append_left before left [] g l in
      list_any_at (bytes_eq key) before g [] l ((bytes_eq-Decides key (get_or before g [])).1 same)

  -- one that stands behind is not
  given-behind : (before left : List (List ℕ)) (g : ℕ) → all_keys groups ≡ before ++ left → length before ≤ g → g < length groups → is_given before (get_or (all_keys groups) g []) ≡ false
  given-behind before left g split l inside =
      let key : List ℕ = get_or (all_keys groups) g [] in
      list_any_none (bytes_eq key) before (λ k d early.
      false_from_ne_true (bytes_eq key (get_or before k d)) (λ e. keys_differ k g [] (omega (arith, early, l)) inside
      (ap (λ ks. get_or ks k []) split ∙ get_or_append_left before left [] k early ∙ get_or_default before k [] d early ∙ sym ((bytes_eq-Decides key (get_or before k d)).0 e))))

  -- the keys that begin where these were begun
  pub keys-begun : (before left : List (List ℕ)) (xs : List (Option ℕ)) → all_keys groups ≡ before ++ left → AreBegun (length groups) (length before) xs
      → AllByRecursion (IsMember (length groups)) xs → keys_after before (keys_of groups xs) ≡ left
  keys-begun before left [] split begun members = none left (length-map groups (λ (x : Group). x.key)) split
    where
      none : (left : List (List ℕ)) → length (all_keys groups) ≡ length groups → all_keys groups ≡ before ++ left → [] ≡ left
      none [] long split = refl
      none (y ∷ left) long split = absurd (let e = length-append before (y ∷ left) in let f = ap length split in omega (arith, e, f, long, begun))
  keys-begun before left (None ∷ xs) split begun members = keys-begun before left xs split begun.1 members.1
  keys-begun before left (Some g ∷ xs) split begun members =
      let key : List ℕ = get_or (all_keys groups) g [] in
      let long = length-map groups (λ (x : Group). x.key) in
      ap (λ o. keys_after before (o ∷ keys_of groups xs)) (key_at g members.0 [])
      ∙ elim (cases_lt g (length before)) [
        | inl l ↦
            ap (λ t. cond t (keys_after before (keys_of groups xs)) (key ∷ keys_after (before ++ key ∷ []) (keys_of groups xs))) (given-before before left g split l)
            ∙ keys-begun before left xs split
            (subst (λ t. AreBegun (length groups) (cond t (length before + 1) (length before)) xs) (ne_eqb g (length before) (λ e. omega (arith, e, l))) begun.1) members.1
        | inr l ↦
            let here : g ≡ length before = let from = begun.0 in omega (arith, from, l) in
            let next = next_key before left g split here members.0 in
            ap (λ t. cond t (keys_after before (keys_of groups xs)) (key ∷ keys_after (before ++ key ∷ []) (keys_of groups xs))) (given-behind before left g split l members.0)
            ∙ ap (λ ks. key ∷ ks) (keys-begun (before ++ key ∷ []) next.0 xs (split ∙ ap (λ ks. before ++ ks) next.1 ∙ sym (append_assoc before (key ∷ []) next.0))
            (subst (λ k. AreBegun (length groups) k xs) (sym (length-append before (key ∷ []))) (subst (λ t. AreBegun (length groups) (cond t (length before + 1) (length before)) xs) (eq-eqb g (length before) here) begun.1)) members.1)
            ∙ sym next.1
      ]
    where
      -- the next key is the first that is left
      next_key : (before left : List (List ℕ)) (g : ℕ) → all_keys groups ≡ before ++ left → g ≡ length before → g < length groups
          → (rest : List (List ℕ)) × (left ≡ get_or (all_keys groups) g [] ∷ rest)
      next_key before [] g split here inside =
          absurd (let long = length-map groups (λ (x : Group). x.key) in let e : length (before ++ []) ≡ length before + 0 = length-append before [] in let f = ap length split in omega (arith, e, f, long, here, inside))
      next_key before (y ∷ left) g split here inside = (left, ap (λ key. key ∷ left) (sym (ap (λ ks. get_or ks g []) split ∙ get_or_at before y left [] g (sym here))))
