-- What files of all containers ask of an object: fields by offset, the numbers in them, places of symbols, names that stand once.
use Rattle.std.proofs.Common.{◌≡◌, ℕ, zero, suc, ◌+◌, ◌<◌, ◌≤◌, ◌%◌, Bool, true, false, cond, ℤ, List, [], ◌∷◌, length, get_or, Option, None, Some, Ok, refl, sym, ◌∙◌, ap, subst, arith, MatchResult}
use Rattle.std.specs.{Prelude.{bytes_eq, slice_get}, Option.{is_some, option_map, option_map_or, option_and_then}}
use Rattle.std.proofs.lemmas.{Bool.{eq-eqb, ne_eqb, true≢false}, Option.{none-some, same_Some}, Slice.Eq.{bytes_eq-Decides}}
use Rattle.oc_base.specs.declared.format.Word.{Word}
use Rattle.oc_linking.specs.{declared.terms.Binding.{Binding}, declared.terms.Less.{Less}, declared.terms.Width.{Width}, Fits.{span}}
use Rattle.oc_linking.specs.declared.terms.Less.TheVariants as less
use Rattle.oc_linking.specs.declared.terms.Value.TheVariants as value
use Rattle.oc_algebra.specs.{Fields.{from_field_of, to_field_of}, Promises.{Holds}, Residues.{reduced_number}}
use Rattle.oc_algebra.proofs.FieldLaws.{written_law}
use Rattle.oc_chains.specs.declared.field.Field as chains
use Rattle.oc_chains.specs.Fields.{FollowFrom, end_of}
use Rattle.oc_neutral.specs.{declared.reloc.Reloc.{Reloc}, Invariants.{HasOffset, IsBinding}, KeySymbols.{global_place}, Normal.{Place}}
use Rattle.oc_neutral.specs.{Objects.{Object, reloc_among}, Rows.{Taken, TakesSection, same_taken, taken_of}}
use Rattle.oc_strings.specs.{declared.repeats.Repeat.{Repeat}, Repeats.{NameList, name_at, place_of, repeat_at}}
use Rattle.oc_neutral.specs.Rows as rows
use Rattle.oc_shelf.proofs.ReadingLaws.StageLemmas.{upto_none}

-- ... fields by offset

pub empty_past : {X : Type 0} (xs : List (List X)) (k : ℕ) → length xs ≤ k → get_or xs k [] ≡ []
empty_past [] k l = refl
empty_past (x ∷ xs) zero l = absurd (omega (arith, l))
empty_past (x ∷ xs) (suc k) l = empty_past xs k (omega (arith, l))

-- a field of a list in order is found at its place
pub found_in : (p : ℕ) (xs : List (chains.Field Reloc)) → FollowFrom p xs → (i : ℕ) (x : chains.Field Reloc) → slice_get xs i ≡ Some x → (p ≤ x.at) × (reloc_among xs x.at ≡ Some x.item)
found_in p [] follow i x h = absurd (none-some x h)
found_in p (y ∷ xs) follow zero x h =
    let same : y ≡ x = same_Some y x h in
    let l = follow.0 in (
      subst (λ (z : chains.Field Reloc). p ≤ z.at) same l,
      subst (λ (z : chains.Field Reloc). reloc_among (y ∷ xs) z.at ≡ Some z.item) same (ap (λ b. cond b (Some y.item) (reloc_among xs y.at)) (eq-eqb y.at y.at refl)),
    )
found_in p (y ∷ xs) follow (suc i) x h =
    let rest = found_in (end_of y) xs follow.2 i x h in
    let low = rest.0 in
    let l = follow.0 in
    let wide = follow.1 in
    (omega (arith, low, l), ap (λ b. cond b (Some y.item) (reloc_among xs x.at)) (ne_eqb y.at x.at (omega (arith, low, wide))) ∙ rest.1)

-- ... what a field takes, and holds

pub less_back : (l : Less) (t : Taken) (k : ℕ) → t ≡ taken_of l → same_taken t TakesSection ≡ false → rows.less_of t k ≡ l
less_back l t k e lacks = grind arith

-- what a field holds is the addend
pub holds_addend : (w : Word) (k : Width) (shift a : ℤ) (F : ℕ) → to_field_of w k shift a ≡ Ok F → (F % span k ≡ F) × (from_field_of w k shift F ≡ reduced_number w a)
holds_addend w k shift a F e =
    let law = subst (λ o. MatchResult o (Holds w k shift a) (λ x. (g : ℕ) → Holds w k shift a g → ⊥)) e (written_law w k shift a) in
    (small k F law.0, law.1)
  where
    small : (k : Width) (F : ℕ) → F < span k → F % span k ≡ F
    small k F low = grind arith

-- ... places of symbols

-- where the Global at a position is
pub place_of_global : (n : Object) (b : Binding) (place : Place) → global_place b ≡ Some place → IsBinding n b → HasOffset n.sections place.0 place.1
place_of_global n b place e own = grind arith

-- ... names

-- a name that stands at no earlier position is no repeat
pub no_repeat : (names : NameList) (k : ℕ) → ((j : ℕ) (name : List ℕ) → j < k → name_at names k ≡ Some name → name_at names j ≡ Some name → ⊥) → is_some (repeat_at names k) ≡ false
no_repeat names k differ = by (name_at names k) refl
  where
    first : (name : List ℕ) → name_at names k ≡ Some name → place_of names k name ≡ None
    first name here = upto_none (λ j. cond (option_map_or (bytes_eq name) (name_at names j) false) (Some j) None) k (λ j low. each j low (name_at names j) refl)
      where
        each : (j : ℕ) → j < k → (o : Option (List ℕ)) → name_at names j ≡ o → cond (option_map_or (bytes_eq name) o false) (Some j) None ≡ None
        each j low None e = refl
        each j low (Some other) e = test (bytes_eq name other) refl
          where
            test : (b : Bool) → bytes_eq name other ≡ b → cond b (Some j) None ≡ None
            test true g = absurd (differ j name low here (e ∙ ap (λ (x : List ℕ). Some x) (sym ((bytes_eq-Decides name other).0 g))))
            test false g = refl

    by : (o : Option (List ℕ)) → name_at names k ≡ o → is_some (repeat_at names k) ≡ false
    by None e = ap (λ o. is_some {T = Repeat} (option_map (λ place. record { earlier = place; later = k }) (option_and_then (place_of names k) o))) e
    by (Some name) e =
        ap (λ o. is_some {T = Repeat} (option_map (λ place. record { earlier = place; later = k }) (option_and_then (place_of names k) o))) e
        ∙ ap (λ o. is_some {T = Repeat} (option_map (λ place. record { earlier = place; later = k }) o)) (first name e)
