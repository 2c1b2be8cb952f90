-- Keys of groups that are edited twice: by the symbols before the second edits make some Local, and then by those after.
use Rattle.std.proofs.Common.{◌≡◌, ◌⊎◌, ℕ, Bool, true, false, not, ◌&&◌, ◌||◌, cond, bytes_eq, List, [], ◌∷◌, ◌++◌, map, Option, Some, None, inl, inr, refl, sym, ◌∙◌, ap, subst, arith}
use Rattle.std.specs.List.{AllByRecursion}
use Rattle.std.proofs.lemmas.{Bool.{true≢false}, Slice.Eq.{bytes_eq-Decides}}
use Rattle.oc_base.specs.declared.format.Format.{Format}
use Rattle.oc_linking.specs.Parts.{is_local}
use Rattle.oc_neutral.specs.{declared.group.Group.{Group}, declared.symbol.Symbol.{Symbol}, Building.{has_name}}
use Rattle.oc_neutral.proofs.Positions.{each_at}
use Rattle.oc_names.specs.{declared.edit.Edit.{Edit}, NewNames.{final_name, renamed_by}, Naming.{edited_group, groups_named, named}, Turns.{Leave, IsApart}}
use Rattle.oc_drop.specs.Steps.{first_in}
use Rattle.oc_names.proofs.NamedParts.{named_symbol}
use Rattle.oc_names.proofs.TurnsNames.{ArePlain, IsApartSymbol, final_same, kept_both, kept_first, named_kept, named_local, named_new, new_both, new_first}

-- ... symbols before the second edits make some Local, and after

-- the test of has_name
abbrev is_called : List ℕ → Symbol → Bool
is_called name s = not (is_local s.binding) && bytes_eq s.name name

module _ (second : List Edit) where
  -- of two symbols at one position: the later has the name of the earlier, is nonlocal only where that was, and just where it was if the second edits leave its name
  pub record IsLater (s t : Symbol) : Type 0 where
    pub name : t.name ≡ s.name
    pub fixed : is_local s.binding ≡ true → is_local t.binding ≡ true
    pub stays : Leave second s.name → is_local t.binding ≡ is_local s.binding

  abbrev pub AreLater : List Symbol → List Symbol → Type 0
  AreLater [] [] = Unit {0}
  AreLater (s ∷ xs) (t ∷ zs) = IsLater s t × AreLater xs zs
  AreLater [] (t ∷ zs) = ⊥
  AreLater (s ∷ xs) [] = ⊥

  -- a name that stands later stood before
  has_before : (xs zs : List Symbol) (key : List ℕ) → AreLater xs zs → has_name zs key ≡ true → has_name xs key ≡ true
  has_before [] [] key are has = has
  has_before [] (t ∷ zs) key are has = absurd are
  has_before (s ∷ xs) [] key are has = absurd are
  has_before (s ∷ xs) (t ∷ zs) key are has =
      by (is_local s.binding) (is_local t.binding) (bytes_eq s.name key) are.0.fixed
      (ap (λ name. not (is_local t.binding) && bytes_eq name key || has_name zs key) (sym are.0.name) ∙ has) (has_before xs zs key are.1)
    where
      by : (a b c : Bool) → (a ≡ true → b ≡ true) → (not b && c || has_name zs key) ≡ true → (has_name zs key ≡ true → has_name xs key ≡ true) → (not a && c || has_name xs key) ≡ true
      by a b c fixed h next = grind arith

  -- a name that the second edits leave stands later where it stood
  has_same : (xs zs : List Symbol) (key : List ℕ) → AreLater xs zs → Leave second key → has_name zs key ≡ has_name xs key
  has_same [] [] key are leave = refl
  has_same [] (t ∷ zs) key are leave = absurd are
  has_same (s ∷ xs) [] key are leave = absurd are
  has_same (s ∷ xs) (t ∷ zs) key are leave =
      ap (λ b. not (is_local t.binding) && bytes_eq t.name key || b) (has_same xs zs key are.1 leave)
      ∙ ap (λ name. not (is_local t.binding) && bytes_eq name key || has_name xs key) are.0.name
      ∙ by (bytes_eq s.name key) refl
    where
      none : (b c : Bool) → (not b && false || has_name xs key) ≡ (not c && false || has_name xs key)
      none b c = grind arith

      by : (hit : Bool) → bytes_eq s.name key ≡ hit → (not (is_local t.binding) && hit || has_name xs key) ≡ (not (is_local s.binding) && hit || has_name xs key)
      by false e = none (is_local t.binding) (is_local s.binding)
      by true e =
          let own : key ≡ s.name = sym ((bytes_eq-Decides s.name key).0 e) in
          ap (λ b. not b && true || has_name xs key) (are.0.stays (subst (Leave second) own leave))

module _ (from to : Format) (first : List Edit) (plain : ArePlain first) (second : List Edit) where
  abbrev name_of : Symbol → Symbol
  name_of s = named first from to s

  -- ... names that stand under the new names

  abbrev StoodOrLeft : List Symbol → List ℕ → Type 0
  StoodOrLeft zs key = (has_name zs key ≡ true) ⊎ Leave second key

  -- a name stands under the new names: it stood, or a symbol was renamed to it
  has_new : (zs : List Symbol) (key : List ℕ) → AllByRecursion (IsApartSymbol first second) zs → has_name (map name_of zs) key ≡ true → StoodOrLeft zs key
  has_new [] key apart has = absurd (true≢false (sym has))
  has_new (z ∷ zs) key apart has = by (is_local z.binding) (first_in (renamed_by z.name) first) refl refl (has_new zs key apart.1)
    where
      step : (b : Bool) → (b || has_name (map name_of zs) key) ≡ true → (has_name (map name_of zs) key ≡ true → StoodOrLeft zs key) → (b || has_name zs key ≡ true) ⊎ Leave second key
      step true h next = inl refl
      step false h next = next h

      later : (b : Bool) → StoodOrLeft zs key → (b || has_name zs key ≡ true) ⊎ Leave second key
      later b x = grind arith

      same : name_of z ≡ z → (has_name (map name_of zs) key ≡ true → StoodOrLeft zs key) → StoodOrLeft (z ∷ zs) key
      same e next = step (is_called key z) (ap (λ (s : Symbol). is_called key s || has_name (map name_of zs) key) (sym e) ∙ has) next

      given : (new : List ℕ) → Leave second new → (b : Bool) → bytes_eq new key ≡ b → (b || has_name (map name_of zs) key) ≡ true
          → (has_name (map name_of zs) key ≡ true → StoodOrLeft zs key) → StoodOrLeft (z ∷ zs) key
      given new leave true hit h next = inr (subst (Leave second) ((bytes_eq-Decides new key).0 hit) leave)
      given new leave false hit h next = later (is_called key z) (next h)

      by : (b : Bool) (o : Option (List ℕ)) → is_local z.binding ≡ b → first_in (renamed_by z.name) first ≡ o → (has_name (map name_of zs) key ≡ true → StoodOrLeft zs key) → StoodOrLeft (z ∷ zs) key
      by true o e is next = same (named_local from to first z e) next
      by false None e is next = same (named_kept from to first plain z is) next
      by false (Some new) e is next =
          given new (apart.0 e new is).1 (bytes_eq new key) refl
          (ap (λ b. not b && bytes_eq new key || has_name (map name_of zs) key) (sym e)
          ∙ ap (λ (s : Symbol). is_called key s || has_name (map name_of zs) key) (sym (named_new from to first plain z new e is)) ∙ has) next

  -- a name that the first edits leave, and that stood
  has_kept : (zs : List Symbol) (key : List ℕ) → first_in (renamed_by key) first ≡ None → has_name zs key ≡ true → has_name (map name_of zs) key ≡ true
  has_kept [] key none has = has
  has_kept (z ∷ zs) key none has = by (is_local z.binding) (bytes_eq z.name key) refl refl has (has_kept zs key none)
    where
      later : (b : Bool) → has_name (map name_of zs) key ≡ true → (b || has_name (map name_of zs) key) ≡ true
      later true e = refl
      later false e = e

      by : (b c : Bool) → is_local z.binding ≡ b → bytes_eq z.name key ≡ c → (not b && c || has_name zs key) ≡ true
          → (has_name zs key ≡ true → has_name (map name_of zs) key ≡ true) → (is_called key (name_of z) || has_name (map name_of zs) key) ≡ true
      by true c e hit h next = later (is_called key (name_of z)) (next h)
      by false false e hit h next = later (is_called key (name_of z)) (next h)
      by false true e hit h next =
          let own : z.name ≡ key = (bytes_eq-Decides z.name key).0 hit in
          ap (λ (s : Symbol). is_called key s || has_name (map name_of zs) key) (named_kept from to first plain z (ap (λ name. first_in (renamed_by name) first) own ∙ none))
          ∙ ap (λ b. not b && bytes_eq z.name key || has_name (map name_of zs) key) e
          ∙ ap (λ b. b || has_name (map name_of zs) key) hit

  -- ... keys of groups, which are edited by the symbols before the second edits make some Local, and after

  module _ (xs zs : List Symbol) (later : AreLater second xs zs) (before : AllByRecursion (IsApartSymbol first second) xs) (apart : AllByRecursion (IsApartSymbol first second) zs) where
    -- a name that stands is apart
    apart_key : (key : List ℕ) → has_name xs key ≡ true → IsApart first second key
    apart_key key has =
        let s = named_symbol xs key has in
        subst (IsApart first second) s.4 (each_at (IsApartSymbol first second) xs s.0 s.1 before s.2 s.3)

    abbrev key_of : List Edit → Bool → List ℕ → List ℕ
    key_of edits one key = cond one (final_name edits from to key) key

    -- a key that is final, whether it names a symbol or not
    settled_key : (one : Bool) (key : List ℕ) → Leave second key → key_of second one key ≡ key
    settled_key true key leave = final_same from to second key leave
    settled_key false key leave = refl

    -- a key that the first edits leave
    kept_key : (key : List ℕ) → (has_name zs key ≡ true → final_name (first ++ second) from to key ≡ final_name second from to key)
        → (has_name zs key ≡ true → has_name (map name_of zs) key ≡ true)
        → key_of (first ++ second) (has_name zs key) key ≡ key_of second (has_name (map name_of zs) key) key
    kept_key key both has = by (has_name zs key) (has_name (map name_of zs) key) refl refl both has
      where
        by : (a b : Bool) → has_name zs key ≡ a → has_name (map name_of zs) key ≡ b → (a ≡ true → final_name (first ++ second) from to key ≡ final_name second from to key) → (a ≡ true → b ≡ true)
            → key_of (first ++ second) a key ≡ key_of second b key
        by true true e f both has = both refl
        by true false e f both has = absurd (true≢false (sym (has refl)))
        by false false e f both has = refl
        by false true e f both has = from_new (has_new zs key apart f)
          where
            from_new : (has_name zs key ≡ true) ⊎ Leave second key → key ≡ final_name second from to key
            from_new (inl here) = absurd (true≢false (sym here ∙ e))
            from_new (inr leave) = sym (final_same from to second key leave)

    key_twice : (key : List ℕ)
        → key_of (first ++ second) (has_name zs key) key ≡ key_of second (has_name (map name_of zs) (key_of first (has_name xs key) key)) (key_of first (has_name xs key) key)
    key_twice key = by (has_name xs key) refl
      where
        Goal : List ℕ → Type 0
        Goal new = key_of (first ++ second) (has_name zs key) key ≡ key_of second (has_name (map name_of zs) new) new

        outer : (o : Option (List ℕ)) → first_in (renamed_by key) first ≡ o → has_name xs key ≡ true → Goal (final_name first from to key)
        outer None is has = subst Goal (sym (kept_first from to first plain key is)) (kept_key key (λ here. kept_both from to first plain second key is) (has_kept zs key is))
        outer (Some new) is has =
            let leave = apart_key key has new is in
            subst Goal (sym (new_first from to first plain key new is))
            (ap (λ b. key_of (first ++ second) b key) (has_same second xs zs key later leave.0 ∙ has)
            ∙ new_both from to first plain second key new is leave.0
            ∙ sym (settled_key (has_name (map name_of zs) new) new leave.1))

        by : (a : Bool) → has_name xs key ≡ a → Goal (key_of first a key)
        by true has = outer (first_in (renamed_by key) first) refl has
        by false has =
            let gone : has_name zs key ≡ true → ⊥ = λ here. true≢false (sym (has_before second xs zs key later here) ∙ has) in
            kept_key key (λ here. absurd (gone here)) (λ here. absurd (gone here))

    -- the keys are those of the second edits after the first
    pub groups_twice : (groups : List Group) → groups_named (first ++ second) from to zs groups ≡ groups_named second from to (map name_of zs) (groups_named first from to xs groups)
    groups_twice [] = refl
    groups_twice (g ∷ groups) =
        ap (λ key. record { key = key } ∷ groups_named (first ++ second) from to zs groups) (key_twice g.key)
        ∙ ap (λ gs. edited_group second from to (map name_of zs) (edited_group first from to xs g) ∷ gs) (groups_twice groups)
