-- Laws of a finite map from names, all by what `get` answers at each name.
use Rattle.std.proofs.Common.{◌≡◌, refl, sym, ap, ◌∙◌, ℕ, List, Bool, true, false, cond, Option, None, Some}
use Rattle.std.specs.{Ordering.{eq_by_cmp, nat_cmp}, Cmp.Lexicographic.{slice_cmp, nat_list_cmp_total}}
use Rattle.std.specs.FinMap.{get, same_map, get-insert, get-remove, slice_cmp-IsAntisymmetric, nat_cmp-IsAntisymmetric}
use Rattle.std.proofs.lemmas.{Map.Views.{tells_apart}, Cmp.{eq_by_cmp_equiv}}
use Rattle.oc_outside.specs.Held.{NameMap, put}

-- whether two names are the same
abbrev pub same_name : List ℕ → List ℕ → Bool
same_name x y = eq_by_cmp (slice_cmp nat_cmp) x y

pub same_name-true : (x y : List ℕ) → same_name x y ≡ true → x ≡ y
same_name-true x y e = tells_apart (slice_cmp-IsAntisymmetric nat_cmp-IsAntisymmetric) x y e

pub same_name-refl : (x : List ℕ) → same_name x x ≡ true
same_name-refl x = (eq_by_cmp_equiv nat_list_cmp_total).refl x

over : {A : Type 0} → (b : Bool) (x y z : A) → cond b x (cond b y z) ≡ cond b x z
over true x y z = refl
over false x y z = refl

apart : {A : Type 0} → (b c : Bool) (x y z : A) → (b ≡ true → c ≡ true → x ≡ y) → cond b x (cond c y z) ≡ cond c y (cond b x z)
apart true true x y z e = e refl refl
apart true false x y z e = refl
apart false true x y z e = refl
apart false false x y z e = refl

back : {A : Type 0} → (b : Bool) (x z : A) → (b ≡ true → x ≡ z) → cond b x z ≡ z
back true x z e = e refl
back false x z e = refl

module _ {X : Type 0} where
  -- maps that answer alike are equal
  pub same_names : (m n : NameMap X) → ((q : List ℕ) → get m q ≡ get n q) → m ≡ n
  same_names m n e = same_map nat_list_cmp_total (slice_cmp-IsAntisymmetric nat_cmp-IsAntisymmetric) m n e

  pub get_put : (o : Option X) (k : List ℕ) (m : NameMap X) (q : List ℕ) → get (put o k m) q ≡ cond (same_name q k) o (get m q)
  get_put None k m q = get-remove nat_list_cmp_total m k q
  get_put (Some v) k m q = get-insert nat_list_cmp_total m k v q

  pub get_put_same : (o : Option X) (k : List ℕ) (m : NameMap X) → get (put o k m) k ≡ o
  get_put_same o k m = get_put o k m k ∙ ap (λ b. cond b o (get m k)) (same_name-refl k)

  -- the later of two values at one name stays
  pub put_over : (o p : Option X) (k : List ℕ) (m : NameMap X) → put o k (put p k m) ≡ put o k m
  put_over o p k m =
      same_names _ _ (λ q.
      get_put o k (put p k m) q
      ∙ ap (cond (same_name q k) o) (get_put p k m q)
      ∙ over (same_name q k) _ _ _
      ∙ sym (get_put o k m q))

  -- to put what is there changes nothing
  pub put_there : (o : Option X) (k : List ℕ) (m : NameMap X) → get m k ≡ o → put o k m ≡ m
  put_there o k m e =
      same_names _ _ (λ q.
      get_put o k m q ∙ back (same_name q k) _ _ (λ is. sym (ap (get m) (same_name-true q k is) ∙ e)))

  -- values at two names may be put in either order
  pub put_swapped : (o p : Option X) (j k : List ℕ) (m : NameMap X) → (j ≡ k → ⊥) → put o j (put p k m) ≡ put p k (put o j m)
  put_swapped o p j k m ne =
      same_names _ _ (λ q.
      get_put o j (put p k m) q
      ∙ ap (cond (same_name q j) o) (get_put p k m q)
      ∙ apart (same_name q j) (same_name q k) _ _ _
      (λ a b. absurd (ne (sym (same_name-true q j a) ∙ same_name-true q k b)))
      ∙ sym (get_put p k (put o j m) q ∙ ap (cond (same_name q k) p) (get_put o j m q)))

  -- a map is what it has at a name and what it has elsewhere
  pub put_joined : (o : Option X) (k : List ℕ) (m n : NameMap X) → get n k ≡ o → put None k n ≡ put None k m → n ≡ put o k m
  put_joined o k m n is rest = sym (put_there o k n is) ∙ sym (put_over o None k n) ∙ ap (put o k) rest ∙ put_over o None k m
