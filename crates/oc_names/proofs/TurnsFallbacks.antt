-- Fallbacks that are settled before the second words and after them are settled as after all words at once.
use Rattle.std.proofs.Common.{◌≡◌, ℕ, Bool, true, false, cond, List, [], ◌∷◌, map, Option, Some, None, inl, inr, refl, sym, ◌∙◌, ap, subst}
use Rattle.std.specs.{Prelude.{slice_get}, List.{AllByRecursion}, Option.{option_map, option_map_or, option_and_then}}
use Rattle.std.proofs.lemmas.Option.{none-some, slice_get-map}
use Rattle.oc_base.specs.{declared.code.Code.TheVariants.{PinnedWeak, TargetKind}, declared.format.Format.{Format}}
use Rattle.oc_linking.specs.declared.terms.Value.TheVariants as value
use Rattle.oc_linking.specs.declared.terms.Fallback.TheVariants as fallback
use Rattle.oc_linking.specs.{declared.terms.Binding.{Binding}, declared.terms.Binding.TheVariants.{Local, Global, Undefined, Common, Weak}, Parts.{is_local}}
use Rattle.oc_neutral.specs.{declared.symbol.Symbol.{Symbol}, Normal.{Place, local_place}, Without.{with_binding}}
use Rattle.oc_names.specs.declared.edit.Edit.{Edit}
use Rattle.oc_names.specs.Rebinding.{after_fallbacks, bindings_of, fallback_binding, fallback_code, fallback_fault, placed_fallback, settled, settled_binding}
use Rattle.oc_names.specs.{NewNames.{final_name}, Naming.{named, with_name}, EditedFile.{after_all}}
use Rattle.oc_drop.specs.Steps.{first_in, symbol_fault, unless}
use Rattle.oc_neutral.proofs.{Positions.{each_weaker}, LeftObject.{all_both, all_map}}
use Rattle.oc_drop.proofs.{DroppedSections.{map_twice}, FirstLaws.{map_none, none_in}}
use Rattle.oc_names.proofs.{EditSteps.{after}, TurnsNames.{ArePlain}, TurnsSymbols.{first_alike, map_alike}, TurnsKeys.{AreLater, IsLater}}
use Rattle.oc_names.proofs.TurnsBindings.{after_bound, bound, bound_local, bound_off, bound_weak, local_settled, own_bound, own_free, own_settled, place_settled, stands_for, stands_or_not}
use Rattle.oc_names.proofs.TurnsWords.{MayPass, both}

module _ (from to : Format) (first : List Edit) (plain : ArePlain first) where
  abbrev name_of : Symbol → Symbol
  name_of s = named first from to s

  pub binding_named : (s : Symbol) → (name_of s).binding ≡ s.binding
  binding_named s = by (is_local s.binding)
    where
      by : (b : Bool) → (cond b s (with_name s (final_name first from to s.name))).binding ≡ s.binding
      by true = refl
      by false = refl

  -- a symbol is named as one with another binding, where both are Local or none is
  named_with : (s : Symbol) (b : Binding) → is_local b ≡ is_local s.binding → with_binding (name_of s) b ≡ name_of (with_binding s b)
  named_with s b same = by (is_local s.binding) ∙ ap (λ c. cond c (with_binding s b) (with_name (with_binding s b) (final_name first from to s.name))) (sym same)
    where
      by : (c : Bool) → with_binding (cond c s (with_name s (final_name first from to s.name))) b ≡ cond c (with_binding s b) (with_name (with_binding s b) (final_name first from to s.name))
      by true = refl
      by false = refl

  fault_named : (bindings : List Binding) (s : Symbol) → fallback_fault bindings (name_of s) ≡ fallback_fault bindings s
  fault_named bindings s = by (is_local s.binding)
    where
      by : (b : Bool) → fallback_fault bindings (cond b s (with_name s (final_name first from to s.name))) ≡ fallback_fault bindings s
      by true = refl
      by false = refl

  settled_named : (bindings : List Binding) (s : Symbol) → settled bindings (name_of s) ≡ name_of (settled bindings s)
  settled_named bindings s =
      ap (λ b. with_binding (name_of s) (settled_binding bindings b)) (binding_named s) ∙ named_with s (settled_binding bindings s.binding) (local_settled bindings s.binding)

  module _ (edits : List Edit) (xs : List Symbol) (free : AllByRecursion (MayPass first edits) xs) (clean : first_in (fallback_fault (bindings_of xs)) xs ≡ None) where
    abbrev before : List Binding
    before = bindings_of xs

    abbrev settled_name : Symbol → Symbol
    settled_name s = both from to first plain before s

    abbrev zs : List Symbol
    zs = map (after_all edits) xs

    abbrev new : List Symbol
    new = map settled_name zs

    abbrev after_zs : List Binding
    after_zs = bindings_of zs

    abbrev after_new : List Binding
    after_new = bindings_of new

    -- the binding of a symbol at a position, and what becomes of it
    binding_at : (f : Symbol → Symbol) (j : ℕ) → slice_get (bindings_of (map f xs)) j ≡ option_map (λ (u : Symbol). (f u).binding) (slice_get xs j)
    binding_at f j = ap (λ bs. slice_get bs j) (map_twice (λ (s : Symbol). s.binding) f xs) ∙ slice_get-map (λ (u : Symbol). (f u).binding) xs j

    abbrev became : Symbol → Binding
    became u = bound edits u.name u.binding

    before_at : (j : ℕ) (u : Symbol) → slice_get xs j ≡ Some u → slice_get before j ≡ Some u.binding
    before_at j u here = slice_get-map (λ (s : Symbol). s.binding) xs j ∙ ap (option_map (λ (s : Symbol). s.binding)) here

    zs_at : (j : ℕ) (u : Symbol) → slice_get xs j ≡ Some u → slice_get after_zs j ≡ Some (became u)
    zs_at j u here = binding_at (after_all edits) j ∙ ap (option_map (λ (u : Symbol). (after_all edits u).binding)) here ∙ ap (λ (s : Symbol). Some s.binding) (after_bound edits u)

    new_at : (j : ℕ) (u : Symbol) → slice_get xs j ≡ Some u → slice_get after_new j ≡ Some (settled_binding before (became u))
    new_at j u here =
        ap (λ (ys : List Symbol). slice_get (bindings_of ys) j) (map_twice settled_name (after_all edits) xs)
        ∙ binding_at (λ u. settled_name (after_all edits u)) j
        ∙ ap (option_map (λ (u : Symbol). (settled_name (after_all edits u)).binding)) here
        ∙ ap Some (binding_named (settled before (after_all edits u)) ∙ ap (λ (s : Symbol). settled_binding before s.binding) (after_bound edits u))

    none_at : (f : Symbol → Symbol) (j : ℕ) → slice_get xs j ≡ None → slice_get (bindings_of (map f xs)) j ≡ None
    none_at f j none = binding_at f j ∙ ap (option_map (λ (u : Symbol). (f u).binding)) none

    -- a binding after all words is settled among the symbols as it was among the settled ones
    record IsSame (c : Binding) : Type 0 where
      code : option_and_then fallback_code (fallback_binding after_new (settled_binding before c)) ≡ option_and_then fallback_code (fallback_binding after_zs c)
      settled : settled_binding after_new (settled_binding before c) ≡ settled_binding after_zs c

    same_own : (c : Binding) → stands_for c ≡ false → IsSame c
    same_own c own = record {
      code = ap (λ b. option_and_then fallback_code (fallback_binding after_new b)) (own_settled before c own)
          ∙ ap (option_and_then fallback_code) (own_free after_new c own ∙ sym (own_free after_zs c own));
      settled = ap (settled_binding after_new) (own_settled before c own) ∙ own_settled after_new c own ∙ sym (own_settled after_zs c own);
    }

    -- one that stands for the symbol at a position, which had no fault
    module _ (j : ℕ) where
      abbrev standing : Binding
      standing = Weak (fallback.Name j)

      abbrev placed : Option Binding → Binding
      placed o = option_map_or (placed_fallback standing) o standing

      -- where both lists have the same there
      same_at : (o : Option Binding) → placed (slice_get before j) ≡ standing → slice_get after_new j ≡ o → slice_get after_zs j ≡ o → IsSame standing
      same_at o own one two = record {
        code = ap (λ b. option_and_then fallback_code (fallback_binding after_new b)) own ∙ ap (option_and_then fallback_code) (one ∙ sym two);
        settled = ap (settled_binding after_new) own ∙ ap placed (one ∙ sym two);
      }

      same_strong : (v : Symbol) → slice_get xs j ≡ Some v → placed_fallback standing v.binding ≡ standing → stands_for v.binding ≡ false → IsSame standing
      same_strong v here own free =
          same_at (Some (became v)) (ap placed (before_at j v here) ∙ own)
          (new_at j v here ∙ ap Some (own_settled before (became v) (own_bound edits v.name v.binding free))) (zs_at j v here)

      same_place : (v : Symbol) (k offset : ℕ) → slice_get xs j ≡ Some v → v.binding ≡ Local (value.Place k offset) → IsSame standing
      same_place v k offset here is =
          let own : settled_binding before standing ≡ Weak (fallback.Place k offset) = ap placed (before_at j v here) ∙ ap (placed_fallback standing) is in
          let stays : slice_get after_zs j ≡ Some (Local (value.Place k offset)) = zs_at j v here ∙ ap Some (bound_local edits v.name v.binding (ap is_local is) ∙ is) in
          record {
            code = ap (λ b. option_and_then fallback_code (fallback_binding after_new b)) own ∙ sym (ap (option_and_then fallback_code) stays);
            settled = ap (settled_binding after_new) own ∙ sym (ap placed stays);
          }

      same_named : (o : Option Symbol) → slice_get xs j ≡ o → option_and_then fallback_code (slice_get before j) ≡ None → IsSame standing
      same_named None here code = same_at None (ap placed (slice_get-map (λ (s : Symbol). s.binding) xs j ∙ ap (option_map (λ (s : Symbol). s.binding)) here))
          (ap (λ (ys : List Symbol). slice_get (bindings_of ys) j) (map_twice settled_name (after_all edits) xs) ∙ none_at (λ u. settled_name (after_all edits u)) j here) (none_at (after_all edits) j here)
      same_named (Some v) here code = by v.binding refl (sym (ap (option_and_then fallback_code) (before_at j v here)) ∙ code)
        where
          strong : (b : Binding) → v.binding ≡ b → placed_fallback standing b ≡ standing → stands_for b ≡ false → IsSame standing
          strong b e own free = same_strong v here (ap (placed_fallback standing) e ∙ own) (ap stands_for e ∙ free)

          by : (b : Binding) → v.binding ≡ b → fallback_code b ≡ None → IsSame standing
          by (Local (value.Place k offset)) e none = same_place v k offset here e
          by (Local (value.Absolute n)) e none = absurd (none-some TargetKind (sym none))
          by (Weak f) e none = absurd (none-some PinnedWeak (sym none))
          by (Global v') e none = strong (Global v') e refl refl
          by Undefined e none = strong Undefined e refl refl
          by (Common size align) e none = strong (Common size align) e refl refl

    -- so of each symbol
    same_of : (u : Symbol) → MayPass first edits u → fallback_fault before u ≡ None → IsSame (became u)
    same_of u is none = elim (stands_or_not u.binding) [
      | inl named ↦
          let code : option_and_then fallback_code (slice_get before named.0) ≡ None = sym (ap (λ b. option_and_then fallback_code (fallback_binding before b)) named.1)
          ∙ map_none (λ code. symbol_fault code u) (option_and_then fallback_code (fallback_binding before u.binding)) none in
          let stays : Weak (fallback.Name named.0) ≡ became u = sym (ap (bound edits u.name) named.1 ∙ bound_weak edits u.name (fallback.Name named.0) (is.standing named.0 named.1)) in
          subst IsSame stays (same_named named.0 (slice_get xs named.0) refl code)
      | inr own ↦ same_own (became u) (own_bound edits u.name u.binding own)
    ]

    -- the fault and the settled symbol are those of the symbol after all words
    record Settles (t : Symbol) : Type 0 where
      fault : fallback_fault after_new (settled_name t) ≡ fallback_fault after_zs t
      symbol : settled after_new (settled_name t) ≡ name_of (settled after_zs t)

    settles : (u : Symbol) → MayPass first edits u → fallback_fault before u ≡ None → Settles (after_all edits u)
    settles u is none =
        let same : IsSame (after_all edits u).binding = subst IsSame (sym (ap (λ (s : Symbol). s.binding) (after_bound edits u))) (same_of u is none) in
        record {
          fault = fault_named after_new (settled before (after_all edits u)) ∙ ap (option_map (λ code. symbol_fault code (after_all edits u))) same.code;
          symbol = settled_named after_new (settled before (after_all edits u)) ∙ ap (λ b. name_of (with_binding (after_all edits u) b)) same.settled;
        }

    -- fallbacks that are settled again are settled as once
    pub fallbacks_again : after_fallbacks new ≡ unless (first_in (fallback_fault after_zs) zs) (map name_of (after zs))
    fallbacks_again =
        let settle : AllByRecursion (λ u. MayPass first edits u × (fallback_fault before u ≡ None)) xs = all_both (MayPass first edits) (λ u. fallback_fault before u ≡ None) xs free (none_in (fallback_fault before) xs clean) in
        let all : AllByRecursion Settles zs = all_map Settles (after_all edits) xs (each_weaker (λ u. MayPass first edits u × (fallback_fault before u ≡ None)) (λ u. Settles (after_all edits u)) (λ u h. settles u h.0 h.1) xs settle) in
        let faults = first_alike (fallback_fault after_new) settled_name (fallback_fault after_zs) zs (each_weaker Settles (λ t. fallback_fault after_new (settled_name t) ≡ fallback_fault after_zs t) (λ t s. s.fault) zs all) in
        let symbols = map_alike (settled after_new) settled_name (λ t. name_of (settled after_zs t)) zs
        (each_weaker Settles (λ t. settled after_new (settled_name t) ≡ name_of (settled after_zs t)) (λ t s. s.symbol) zs all) ∙ sym (map_twice name_of (settled after_zs) zs) in
        ap (λ o. unless o (map (settled after_new) new)) faults ∙ ap (unless (first_in (fallback_fault after_zs) zs)) symbols

    -- ... what stands at one position before and after

    later : (u : Symbol) → IsLater edits (settled before u) (settled after_zs (after_all edits u))
    later u = record {
      name = ap (λ (s : Symbol). s.name) (after_bound edits u);
      fixed = λ e.
          let own : is_local u.binding ≡ true = sym (local_settled before u.binding) ∙ e in
          local_after ∙ ap is_local (bound_local edits u.name u.binding own) ∙ own;
      stays = λ leave. local_after ∙ ap is_local (bound_off edits u.name u.binding leave) ∙ sym (local_settled before u.binding);
    }
      where
        local_after : is_local (settled_binding after_zs (after_all edits u).binding) ≡ is_local (became u)
        local_after = local_settled after_zs (after_all edits u).binding ∙ ap (λ (s : Symbol). is_local s.binding) (after_bound edits u)

    pub all_later : (us : List Symbol) → AreLater edits (map (settled before) us) (map (settled after_zs) (map (after_all edits) us))
    all_later [] = tt
    all_later (u ∷ us) = (later u, all_later us)

    -- the place of a Local stays
    pub place_kept : (u : Symbol) (p : Place) → local_place (settled before u).binding ≡ Some p → local_place (settled after_zs (after_all edits u)).binding ≡ Some p
    place_kept u p is = by u.binding refl (sym (place_settled before u.binding) ∙ is)
      where
        by : (b : Binding) → u.binding ≡ b → local_place b ≡ Some p → local_place (settled after_zs (after_all edits u)).binding ≡ Some p
        by (Local v) e own =
            place_settled after_zs (after_all edits u).binding ∙ ap (λ (s : Symbol). local_place s.binding) (after_bound edits u)
            ∙ ap local_place (bound_local edits u.name u.binding (ap is_local e) ∙ e) ∙ own
        by (Global v) e own = absurd (none-some p own)
        by Undefined e own = absurd (none-some p own)
        by (Common size align) e own = absurd (none-some p own)
        by (Weak f) e own = absurd (none-some p own)
