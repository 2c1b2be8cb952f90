-- Symbols whose names are the four bytes of their positions.
use Rattle.std.proofs.Common.{◌≡◌, ◌∙◌, ℕ, ◌+◌, ◌<◌, ◌^◌, Bool, true, false, not, ◌&&◌, ◌||◌, List, [], ◌∷◌, ◌++◌, refl, sym, ap, arith, bytes_eq, w32, Ok, Result}
use Rattle.std.specs.{Int.{from_le_bytes, to_le_bytes}, List.{AllByRecursion}}
use Rattle.std.proofs.lemmas.{Nat.{from_le_bytes-to_le_bytes_4}, Slice.Eq.{bytes_eq-Decides}}
use Rattle.oc_linking.specs.Parts.{is_local}
use Rattle.oc_neutral.specs.{declared.fault.BuildFault.{BuildFault}, declared.symbol.Symbol.{Symbol}, Building.{Draft, has_name, symbol_added}}
use Rattle.oc_neutral.proofs.MoreSymbols.{symbol_taken, symboled}

-- each has the name of a number below k
abbrev pub AreNumbered : ℕ → List Symbol → Type 0
AreNumbered k symbols = AllByRecursion (λ (s : Symbol). (j : ℕ) × (j < k) × (s.name ≡ to_le_bytes w32 j)) symbols

-- one more
pub numbered_more : (k : ℕ) (symbols : List Symbol) (y : Symbol) → AreNumbered k symbols → y.name ≡ to_le_bytes w32 k → AreNumbered (k + 1) (symbols ++ y ∷ [])
numbered_more k [] y all is = ((k, omega arith, is), tt)
numbered_more k (s ∷ symbols) y all is = ((all.0.0, omega (arith, all.0.1), all.0.2), numbered_more k symbols y all.1 is)

-- the next name is new
pub numbered_new : (k : ℕ) (symbols : List Symbol) → k < 2 ^ 32 → AreNumbered k symbols → has_name symbols (to_le_bytes w32 k) ≡ false
numbered_new k [] small all = refl
numbered_new k (s ∷ symbols) small all = by (not (is_local s.binding)) (bytes_eq s.name (to_le_bytes w32 k)) refl (numbered_new k symbols small all.1)
  where
    other : s.name ≡ to_le_bytes w32 k → false ≡ true
    other e =
        let j : ℕ = all.0.0 in
        let low : j < k = all.0.1 in
        let same : to_le_bytes w32 j ≡ to_le_bytes w32 k = sym all.0.2 ∙ e in
        let equal : j ≡ k = sym (from_le_bytes-to_le_bytes_4 j (omega (arith, low, small))) ∙ ap (from_le_bytes w32) same ∙ from_le_bytes-to_le_bytes_4 k small in
        absurd (omega (arith, low, equal))

    by : (own same : Bool) → bytes_eq s.name (to_le_bytes w32 k) ≡ same → has_name symbols (to_le_bytes w32 k) ≡ false → (own && same || has_name symbols (to_le_bytes w32 k)) ≡ false
    by own true e none = absurd (clash (other ((bytes_eq-Decides s.name (to_le_bytes w32 k)).0 e)))
      where
        clash : ¬ false ≡ true
        clash p = cc
    by true false e none = none
    by false false e none = none

-- so the symbol is not refused
pub numbered_added : (d : Draft) (k : ℕ) (y : Symbol) → k < 2 ^ 32 → AreNumbered k d.object.symbols → y.name ≡ to_le_bytes w32 k → symbol_added d y ≡ Ok (symboled d y)
numbered_added d k y small all is = symbol_taken d y (ap (λ name. not (is_local y.binding) && has_name d.object.symbols name) is ∙ by (not (is_local y.binding)) (numbered_new k d.object.symbols small all))
  where
    by : (own : Bool) {t : Bool} → t ≡ false → (own && t) ≡ false
    by true e = e
    by false e = refl

-- what adding gives is one draft
pub same_draft : (r : Result Draft BuildFault) (d e : Draft) → r ≡ Ok d → r ≡ Ok e → d ≡ e
same_draft r d e ok now = cc
