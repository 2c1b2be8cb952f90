-- What is asked of the symbols of an object, by what CanFollow asks of the object that they come from.
use Rattle.std.proofs.Common.{◌≡◌, ◌≢◌, ℕ, Bool, true, false, List, [], ◌∷◌, length, map, Option, Some, None, Ok, inl, inr, refl, sym, ◌∙◌, ap, subst, arith}
use Rattle.std.specs.{Prelude.{slice_get}, List.{AllByRecursion}, Option.{option_map, option_and_then}}
use Rattle.std.proofs.lemmas.{Bool.{true≢false}, List.{length-map}, Option.{none-some, slice_get-map}}
use Rattle.oc_base.specs.declared.format.Format.{Format}
use Rattle.oc_linking.specs.declared.terms.Fallback.TheVariants as fallback
use Rattle.oc_linking.specs.{declared.terms.Binding.{Binding}, declared.terms.Keep.{Keep}, Parts.{is_local}}
use Rattle.oc_neutral.specs.{declared.symbol.Symbol.{Symbol}, Objects.{Object}, Normal.{Place, local_place, place_among}, Invariants.{IsObject}}
use Rattle.oc_neutral.specs.Without.{IsDetached, moved_binding, symbols_stay}
use Rattle.oc_neutral.specs.declared.reloc.Target.TheVariants as target
use Rattle.oc_neutral.proofs.{Mapped.{from_mapped, all_from}, LeftObject.{left_is_object}, LeftParts.{symbol_from}}
use Rattle.oc_names.specs.{declared.edit.Edit.{Edit}, declared.edit.Edit.TheVariants.{MakeLocal}}
use Rattle.oc_names.specs.{Rebinding.{after_words, after_words, bindings_of, fallback_fault, settled}, EditedFile.{after_all}, Turns.{CanFollow, IsApart}}
use Rattle.oc_drop.specs.{Steps.{first_in}, Dropping.{left, stays}}
use Rattle.oc_drop.proofs.{DroppedSections.{map_twice}, StepLaws.{unless_ok}}
use Rattle.oc_names.proofs.{EditSteps.{after}, TurnsNames.{IsApartSymbol}, TurnsKeys.{AreLater}}
use Rattle.oc_names.proofs.TurnsBindings.{after_bound, bound, bound_local, local_settled, own_bound, stands_for, stands_or_not}
use Rattle.oc_names.proofs.{TurnsWords.{MayPass, words_are, words_fault}, TurnsFallbacks.{all_later, place_kept}, TurnsFields.{KeepsPlaces}}

-- ... bindings that sections and symbols at other positions leave

local_moved : (stay flags : List Bool) (b : Binding) → is_local (moved_binding stay flags b) ≡ is_local b
local_moved stay flags b = grind arith

stands_moved : (stay flags : List Bool) (b : Binding) → stands_for (moved_binding stay flags b) ≡ stands_for b
stands_moved stay flags b = grind arith

-- what cannot come up was there
came_from : (b c : Bool) → (b ≡ false → c ≡ false) → c ≡ true → b ≡ true
came_from true c none is = refl
came_from false c none is = absurd (true≢false (sym is ∙ none refl))

stayed_off : (b c : Bool) → (b ≡ true → c ≡ true) → c ≡ false → b ≡ false
stayed_off true c still off = absurd (true≢false (sym (still refl) ∙ off))
stayed_off false c still off = refl

-- symbols that come later are apart where those before were
apart_later : (first second : List Edit) (xs zs : List Symbol) → AreLater second xs zs → AllByRecursion (IsApartSymbol first second) xs → AllByRecursion (IsApartSymbol first second) zs
apart_later first second [] [] are apart = tt
apart_later first second [] (z ∷ zs) are apart = absurd are
apart_later first second (x ∷ xs) [] are apart = absurd are
apart_later first second (x ∷ xs) (z ∷ zs) are apart = (
  (λ outer. subst (IsApart first second) (sym are.0.name) (apart.0 (stayed_off (is_local x.binding) (is_local z.binding) are.0.fixed outer))),
  apart_later first second xs zs are.1 apart.1,
)

-- symbols after the first words and after all, both with settled fallbacks
pub record AreTurned (first second : List Edit) (xs zs : List Symbol) : Type 0 where
  pub later : AreLater second xs zs
  pub before : AllByRecursion (IsApartSymbol first second) xs
  pub after : AllByRecursion (IsApartSymbol first second) zs
  pub places : KeepsPlaces xs zs

-- the object after dropping, and its symbols after the first words
module _ (keep : Keep) (first second : List Edit) (to : Format) (n : Object) (is : IsObject n) (can : CanFollow first second n) (clear : IsDetached (stays keep n) n)
    (ws : List Symbol) (words : after_words first (left keep n).symbols ≡ Ok ws) where
  abbrev from : Format
  from = n.format

  abbrev d : Object
  d = left keep n

  pub long : length n.sections ≡ length (stays keep n)
  long = sym (length-map n.sections _)

  pub d_is : IsObject d
  d_is = left_is_object (stays keep n) n is long clear

  words_first : map (after_all first) d.symbols ≡ ws
  words_first = (unless_ok (words_fault first d.symbols) (map (after_all first) d.symbols) ws (sym (words_are first d.symbols) ∙ words)).1

  -- a symbol after the first words is one of the object
  record Origin (t : Symbol) : Type 0 where
    k : ℕ
    s : Symbol
    here : slice_get n.symbols k ≡ Some s
    name : t.name ≡ s.name
    binding : t.binding ≡ bound first s.name (moved_binding (stays keep n) (symbols_stay (stays keep n) n.symbols) s.binding)

  origin : (j : ℕ) (t : Symbol) → slice_get ws j ≡ Some t → Origin t
  origin j t there =
      let u = from_mapped (after_all first) (slice_get d.symbols j) t (sym (slice_get-map (after_all first) d.symbols j) ∙ ap (λ ys. slice_get ys j) words_first ∙ there) in
      let v = symbol_from (stays keep n) n long clear j u.0 u.1 in
      let same = sym u.2 ∙ ap (after_all first) (sym v.5) ∙ after_bound first _ in
      record {
        k = v.0;
        s = v.1;
        here = v.2;
        name = ap (λ (s : Symbol). s.name) same;
        binding = ap (λ (s : Symbol). s.binding) same;
      }

  pub free : AllByRecursion (MayPass first second) ws
  free = all_from (MayPass first second) ws (λ j t there.
      let o = origin j t there in
      let moved : Binding = moved_binding (stays keep n) (symbols_stay (stays keep n) n.symbols) o.s.binding in
      record {
        apart = λ outer.
            let before : is_local moved ≡ false = stayed_off (is_local moved) (is_local t.binding) (λ e. ap is_local (o.binding ∙ bound_local first o.s.name moved e) ∙ e) outer in
            subst (IsApart first second) (sym o.name) (can.apart o.k o.s o.here (sym (local_moved (stays keep n) (symbols_stay (stays keep n) n.symbols) o.s.binding) ∙ before));
        standing = λ k stands.
            let before : stands_for moved ≡ true = came_from (stands_for moved) (stands_for t.binding) (λ e. ap stands_for o.binding ∙ own_bound first o.s.name moved e) (ap stands_for stands) in
            let named : stands_for o.s.binding ≡ true = sym (stands_moved (stays keep n) (symbols_stay (stays keep n) n.symbols) o.s.binding) ∙ before in
            elim (stands_or_not o.s.binding) [
              | inl j ↦ subst (λ name. AllByRecursion (λ edit. edit ≢ MakeLocal name) second) (sym o.name) (can.standing o.k j.0 o.s o.here j.1)
              | inr own ↦ absurd (true≢false (sym named ∙ own))
            ];
      })

  module _ (clean : first_in (fallback_fault (bindings_of ws)) ws ≡ None) where
    abbrev xs : List Symbol
    xs = after ws

    abbrev vs : List Symbol
    vs = map (after_all second) ws

    abbrev zs : List Symbol
    zs = after vs

    later : AreLater second xs zs
    later = all_later from to first can.plain second ws free clean ws

    apart_before : AllByRecursion (IsApartSymbol first second) xs
    apart_before = by ws free
      where
        by : (us : List Symbol) → AllByRecursion (MayPass first second) us → AllByRecursion (IsApartSymbol first second) (map (settled (bindings_of ws)) us)
        by [] all = tt
        by (u ∷ us) all = ((λ outer. all.0.apart (sym (local_settled (bindings_of ws) u.binding) ∙ outer)), by us all.1)

    keeps_places : KeepsPlaces xs zs
    unfolding place_among
    keeps_places (target.Section k) p here = here
    keeps_places (target.Symbol k) p here =
        let at : (f : Symbol → Symbol) → option_and_then (λ (s : Symbol). local_place s.binding) (slice_get (map f ws) k) ≡ place_of f (slice_get ws k) = λ f. ap (option_and_then (λ (s : Symbol). local_place s.binding)) (slice_get-map f ws k) in
        ap (λ ys. option_and_then (λ (s : Symbol). local_place s.binding) (slice_get ys k)) (map_twice (settled (bindings_of vs)) (after_all second) ws)
        ∙ at (λ u. settled (bindings_of vs) (after_all second u))
        ∙ by (slice_get ws k) (sym (at (settled (bindings_of ws))) ∙ here)
      where
        place_of : (Symbol → Symbol) → Option Symbol → Option Place
        place_of f o = option_and_then (λ (s : Symbol). local_place s.binding) (option_map f o)

        by : (o : Option Symbol) → place_of (settled (bindings_of ws)) o ≡ Some p → place_of (λ u. settled (bindings_of vs) (after_all second u)) o ≡ Some p
        by None e = absurd (none-some p e)
        by (Some u) e = place_kept from to first can.plain second ws free clean u p e

    pub turned : AreTurned first second xs zs
    turned = record { later = later; before = apart_before; after = apart_later first second xs zs later apart_before; places = keeps_places }
