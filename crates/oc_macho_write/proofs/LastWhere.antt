-- Where the last thing stands that passes a test: the first, where no more than one passes.
use Rattle.std.proofs.Common.{◌≡◌, ℕ, zero, suc, ◌+◌, Bool, true, false, cond, List, [], ◌∷◌, take, Some, refl, ◌∙◌, ap, arith}
use Rattle.std.specs.{Prelude.{slice_get, find}, Option.{option_map_or}}
use Rattle.std.proofs.lemmas.Option.{none-some, same_Some}
use Rattle.oc_shelf.specs.Writing.Parts.{Laid}
use Rattle.oc_macho_write.specs.Addresses.{place_or}

abbrev pub last_where : {X : Type 0} → (X → Bool) → List (Laid X) → ℕ → ℕ
last_where test [] d = d
last_where test (l ∷ ls) d = last_where test ls (cond (test l.part) l.at d)

-- one thing more
pub last_more : {X : Type 0} (test : X → Bool) (ls : List (Laid X)) (k : ℕ) (l : Laid X) (d : ℕ) → slice_get ls k ≡ Some l
    → last_where test (take (k + 1) ls) d ≡ cond (test l.part) l.at (last_where test (take k ls) d)
last_more test [] k l d here = absurd (none-some l here)
last_more {X} test (x ∷ ls) zero l d here = ap (λ (z : Laid X). cond (test z.part) z.at d) (same_Some x l here)
last_more test (x ∷ ls) (suc k) l d here = let e : suc k + 1 ≡ suc (k + 1) = omega arith in ap (λ m. last_where test (take m (x ∷ ls)) d) e ∙ last_more test ls k l (cond (test x.part) x.at d) here

-- none passes
pub none_last : {X : Type 0} (test : X → Bool) (ls : List (Laid X)) (d : ℕ) → ((k : ℕ) (l : Laid X) → slice_get ls k ≡ Some l → test l.part ≡ false) → last_where test ls d ≡ d
none_last test [] d none = refl
none_last test (l ∷ ls) d none = ap (λ b. last_where test ls (cond b l.at d)) (none 0 l refl) ∙ none_last test ls d (λ k x h. none (suc k) x h)

-- no more than one passes
abbrev pub PassesOnce : {X : Type 0} → (X → Bool) → List (Laid X) → Type 0
PassesOnce {X} test ls = (i j : ℕ) (a b : Laid X) → slice_get ls i ≡ Some a → slice_get ls j ≡ Some b → test a.part ≡ true → test b.part ≡ true → i ≡ j

pub last_is : {X : Type 0} (test : X → Bool) (ls : List (Laid X)) (d : ℕ) → PassesOnce test ls → last_where test ls d ≡ place_or test ls d
last_is test [] d once = refl
last_is {X} test (l ∷ ls) d once = by (test l.part) refl (last_is test ls d (λ i j a b h g p q. let s = once (suc i) (suc j) a b h g p q in omega (arith, s)))
  where
    other : test l.part ≡ true → (c : Bool) (k : ℕ) (x : Laid X) → slice_get ls k ≡ Some x → test x.part ≡ c → c ≡ false
    other passes true k x h e = let same : 0 ≡ suc k = once 0 (suc k) l x refl h passes e in absurd (omega (arith, same))
    other passes false k x h e = refl

    by : (b : Bool) → test l.part ≡ b → last_where test ls d ≡ place_or test ls d → last_where test ls (cond b l.at d) ≡ option_map_or (λ (x : Laid X). x.at) (cond b (Some l) (find (λ (x : Laid X). test x.part) ls)) d
    by true passes rest = none_last test ls l.at (λ k x h. other passes (test x.part) k x h refl)
    by false fails rest = rest
