-- The position of a symbol that is no alias is found by its number.
use Rattle.std.proofs.Common.{◌≡◌, ℕ, zero, suc, ◌<◌, List, [], ◌∷◌, length, map, get_or, refl, sym, ◌∙◌, ap, arith}
use Rattle.std.specs.Prelude.{nat_eq}
use Rattle.std.proofs.lemmas.{Bool.{eq-eqb, ne_eqb}, List.{length-map}, List.Sums.{position_or_len_is}, Option.{slice_get_within}}
use Rattle.oc_linking.specs.{declared.terms.Fallback.{Fallback}, declared.terms.Binding.{Binding}}
use Rattle.oc_linking.specs.declared.terms.Binding.TheVariants.{Local, Global, Undefined, Common, Weak}
use Rattle.oc_linking.specs.declared.terms.Fallback.TheVariants as fallback
use Rattle.oc_linking.specs.Parts as parts
use Rattle.oc_neutral.specs.{declared.symbol.Symbol.{Symbol}, declared.reloc.Target.{Target}, Objects.{Object}}
use Rattle.oc_neutral.specs.Invariants.{IsOriginal, NamesOriginal, IsThere, IsFallback, IsBinding, IsSymbol}
use Rattle.oc_neutral.specs.Faces.{number_of, named_of, shown_fallback, shown_binding, shown_symbol, shown_symbols}
use Rattle.oc_neutral.specs.declared.reloc.Target.TheVariants as target
use Rattle.oc_shows.specs.Computed.{position_of, placed_fallback, placed_binding, computed_symbol, placed_target}
use Rattle.oc_neutral.proofs.Positions.{there_at}

-- the symbol at a position, as it is shown, has the number of that position
shown_number : (all symbols : List Symbol) (k : ℕ) (d : parts.Symbol) → k < length symbols → (get_or (map (shown_symbol all) symbols) k d).number ≡ number_of symbols k
shown_number all [] k d l = absurd (omega (arith, l))
shown_number all (s ∷ symbols) zero d l = refl
shown_number all (s ∷ symbols) (suc k) d l = shown_number all symbols k d (omega (arith, l))

module _ (n : Object) where
  -- the first symbol of the number of an original is that original
  pub position-original : (k : ℕ) → k < length n.symbols → IsOriginal n.symbols k → position_of (shown_symbols n) (number_of n.symbols k) ≡ k
  position-original k inside original =
      let d : parts.Symbol = shown_symbol n.symbols (there_at n.symbols k inside).0 in
      let long : length (shown_symbols n) ≡ length n.symbols = length-map n.symbols (shown_symbol n.symbols) in
      let same : (j : ℕ) → j < length n.symbols → (get_or (shown_symbols n) j d).number ≡ number_of n.symbols j = λ j l. shown_number n.symbols n.symbols j d l in
      position_or_len_is (λ (s : parts.Symbol). nat_eq s.number (number_of n.symbols k)) (shown_symbols n) k d (omega (arith, long, inside))
      (λ j l. ne_eqb (get_or (shown_symbols n) j d).number (number_of n.symbols k) (λ e. original j l (sym (same j (omega (arith, l, inside))) ∙ e)))
      (λ l. eq-eqb (get_or (shown_symbols n) k d).number (number_of n.symbols k) (same k inside))

  -- so a target is placed as it was
  pub target-placed : (t : Target) → IsThere n t → NamesOriginal n.symbols t → placed_target (shown_symbols n) (named_of n.symbols t) ≡ t
  target-placed (target.Section k) there original = refl
  target-placed (target.Symbol k) there original = ap target.Symbol (position-original k there original)

  -- and so a fallback
  fallback-placed : (f : Fallback) → IsFallback n f → placed_fallback (shown_symbols n) (shown_fallback n.symbols f) ≡ f
  fallback-placed (fallback.Place s offset) is = refl
  fallback-placed fallback.Zero is = refl
  fallback-placed (fallback.Name k) is = ap fallback.Name (position-original k (slice_get_within n.symbols k is.0 is.1) is.3)

  -- and a binding
  binding-placed : (b : Binding) → IsBinding n b → placed_binding (shown_symbols n) (shown_binding n.symbols b) ≡ b
  binding-placed (Local v) is = refl
  binding-placed (Global v) is = refl
  binding-placed Undefined is = refl
  binding-placed (Common size align) is = refl
  binding-placed (Weak f) is = ap Weak (fallback-placed f is)

  -- a symbol with another binding
  abbrev bound : Symbol → Binding → Symbol
  bound s b = record { name = s.name; binding = b; mark = s.mark; vis = s.vis; size = s.size; pinned = s.pinned; number = s.number }

  -- the symbols are computed from those that are shown
  pub symbol-computed : (s : Symbol) → IsSymbol n s → computed_symbol (shown_symbols n) (shown_symbol n.symbols s) ≡ s
  symbol-computed s is = ap (bound s) (binding-placed s.binding is.binding)
