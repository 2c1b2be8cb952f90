-- A map from names does not depend on the order of the symbols.
use Rattle.std.proofs.Common.{◌≡◌, ℕ, zero, suc, true, false, cond, List, [], ◌∷◌, Option, Some, None, refl, sym, ◌∙◌, ap}
use mathlib.Core.Path.{fun_ext}
use Rattle.std.specs.Prelude.{slice_get, bytes_eq}
use Rattle.std.proofs.lemmas.Option.{none-some, same_Some}
use Rattle.oc_linking.specs.{Numbers.{or_else}, Parts.{Symbol, by_name}}

-- each symbol of xs that gives something has one of its name in ys that gives the same
abbrev pub GivenIn : {X : Type 0} → (Symbol → Option X) → (Symbol → Option X) → List Symbol → List Symbol → Type 0
GivenIn {X} f g xs ys = (k : ℕ) (s : Symbol) (x : X) → slice_get xs k ≡ Some s → f s ≡ Some x
    → (j : ℕ) × (t : Symbol) × (slice_get ys j ≡ Some t) × ((name : List ℕ) → bytes_eq s.name name ≡ true → bytes_eq t.name name ≡ true) × (g t ≡ Some x)

-- symbols of one name that give something give the same
abbrev pub Single : {X : Type 0} → (Symbol → Option X) → List Symbol → Type 0
Single {X} f xs = (i j : ℕ) (s t : Symbol) (x y : X) (name : List ℕ) → slice_get xs i ≡ Some s → slice_get xs j ≡ Some t
    → bytes_eq s.name name ≡ true → bytes_eq t.name name ≡ true → f s ≡ Some x → f t ≡ Some y → x ≡ y

module _ {X : Type 0} (f : Symbol → Option X) where
  -- what a name gives is given by a symbol of the list
  pub found : (xs : List Symbol) (name : List ℕ) (x : X) → by_name f xs name ≡ Some x → (k : ℕ) × (s : Symbol) × (slice_get xs k ≡ Some s) × (bytes_eq s.name name ≡ true) × (f s ≡ Some x)
  found [] name x e = absurd (none-some x e)
  found (s ∷ xs) name x e =
      elim (bytes_eq s.name name) as (λ b. bytes_eq s.name name ≡ b → or_else (cond b (f s) None) (by_name f xs name) ≡ Some x
      → (k : ℕ) × (t : Symbol) × (slice_get (s ∷ xs) k ≡ Some t) × (bytes_eq t.name name ≡ true) × (f t ≡ Some x)) [
        | false ↦ λ h e. later (found xs name x e)
        | true ↦ λ h e. elim (f s) as (λ o. f s ≡ o → or_else o (by_name f xs name) ≡ Some x
            → (k : ℕ) × (t : Symbol) × (slice_get (s ∷ xs) k ≡ Some t) × (bytes_eq t.name name ≡ true) × (f t ≡ Some x)) [
              | None ↦ λ g e. later (found xs name x e)
              | Some y ↦ λ g e. (0, s, refl, h, g ∙ e)
            ] refl e
      ] refl e
    where
      later : ((k : ℕ) × (t : Symbol) × (slice_get xs k ≡ Some t) × (bytes_eq t.name name ≡ true) × (f t ≡ Some x)) → (k : ℕ) × (t : Symbol) × (slice_get (s ∷ xs) k ≡ Some t) × (bytes_eq t.name name ≡ true) × (f t ≡ Some x)
      later m = (suc m.0, m.1, m.2, m.3, m.4)

  -- a symbol of the list that gives something is not passed over
  pub not_none : (xs : List Symbol) (name : List ℕ) (k : ℕ) (s : Symbol) (x : X) → slice_get xs k ≡ Some s → bytes_eq s.name name ≡ true → f s ≡ Some x → (y : X) × (by_name f xs name ≡ Some y)
  not_none [] name k s x here same gives = absurd (none-some s here)
  not_none (t ∷ xs) name zero s x here same gives =
      let e : t ≡ s = same_Some t s here in (
        x,
        ap (λ (u : Symbol). or_else (cond (bytes_eq u.name name) (f u) None) (by_name f xs name)) e
            ∙ ap (λ b. or_else (cond b (f s) None) (by_name f xs name)) same
            ∙ ap (λ o. or_else o (by_name f xs name)) gives,
      )
  not_none (t ∷ xs) name (suc k) s x here same gives =
      let m = not_none xs name k s x here same gives in
      own (cond (bytes_eq t.name name) (f t) None) m.0 m.1
    where
      own : (o : Option X) (y : X) → by_name f xs name ≡ Some y → (z : X) × (or_else o (by_name f xs name) ≡ Some z)
      own None y e = (y, e)
      own (Some z) y e = (z, refl)

-- two lists give the same map, where each gives what the other gives
pub by_name_same : {X : Type 0} (f g : Symbol → Option X) (xs ys : List Symbol) → GivenIn f g xs ys → GivenIn g f ys xs → Single g ys → by_name f xs ≡ by_name g ys
by_name_same {X} f g xs ys into back single = fun_ext (λ name. own name (by_name f xs name) (by_name g ys name) refl refl)
  where
    own : (name : List ℕ) (a b : Option X) → by_name f xs name ≡ a → by_name g ys name ≡ b → by_name f xs name ≡ by_name g ys name
    own name None None p q = p ∙ sym q
    own name (Some x) None p q =
        let m = found f xs name x p in
        let i = into m.0 m.1 x m.2 m.4 in
        let r = not_none g ys name i.0 i.1 x i.2 (i.3 name m.3) i.4 in
        absurd (none-some r.0 (sym q ∙ r.1))
    own name None (Some y) p q =
        let m = found g ys name y q in
        let i = back m.0 m.1 y m.2 m.4 in
        let r = not_none f xs name i.0 i.1 y i.2 (i.3 name m.3) i.4 in
        absurd (none-some r.0 (sym p ∙ r.1))
    own name (Some x) (Some y) p q =
        let m = found f xs name x p in
        let i = into m.0 m.1 x m.2 m.4 in
        let n = found g ys name y q in
        p ∙ ap Some (single i.0 n.0 i.1 n.1 x y name i.2 n.2 (i.3 name m.3) n.3 i.4 n.4) ∙ sym q
