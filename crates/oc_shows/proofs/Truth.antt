-- What the symbols of a file are worth, under any outside map, is true to its Locals and pinned symbols, where their numbers differ.
use Rattle.std.proofs.Common.{◌≡◌, ℕ, cond, List, Some, ◌∙◌, ap}
use Rattle.std.specs.{Prelude.{slice_get}, Option.{option_map, unwrap_or}}
use Rattle.oc_base.specs.declared.format.Word.{Word}
use Rattle.oc_linking.specs.{Numbers.{or_else}, Parts.{Symbol}, Placing.{Placement, Outside}, Values.{values, value_of, worthless, numbered, LeavesFixed}}
use Rattle.oc_linking.proofs.{Truth.{values_true}, Worth.{numbered-first}}
use Rattle.oc_shows.specs.Shows.{IsTrueToFixed, AreNumbered}

-- a symbol is found by its number
pub numbered-own : (symbols : List Symbol) → AreNumbered symbols → (k : ℕ) (s : Symbol) → slice_get symbols k ≡ Some s → numbered symbols s.number ≡ Some s
numbered-own symbols differ k s here = numbered-first symbols k s here (λ j t l there same. differ j k t s l there here same)

-- symbols that are as they were leave what is fixed
pub leaves-own : (symbols : List Symbol) → AreNumbered symbols → LeavesFixed symbols symbols
leaves-own symbols differ k s here fixed = (s, ap (λ o. or_else o o) (numbered-own symbols differ k s here), λ w p x own. own)

-- a symbol is worth its own value
pub values-own : (w : Word) (symbols : List Symbol) → AreNumbered symbols → (p : Placement) (e : Outside) (k : ℕ) (s : Symbol) → slice_get symbols k ≡ Some s
    → values w symbols symbols p e s.number ≡ value_of w p e symbols s
values-own w symbols differ p e k s here = ap (λ o. unwrap_or (option_map (value_of w p e symbols) (or_else o o)) worthless) (numbered-own symbols differ k s here)

-- Locals and pinned symbols have their own sites, and Locals no slots
pub values_fixed : (w : Word) (symbols : List Symbol) → AreNumbered symbols → (p : Placement) (e : Outside) → IsTrueToFixed w symbols p (values w symbols symbols p e)
values_fixed w symbols differ p e = record {
  sites = values_true w symbols symbols p e (leaves-own symbols differ);
  slots = λ k s here local. ap (λ v. v.slot) (values-own w symbols differ p e k s here) ∙ ap (λ b. cond b 0 (e.slot s.name)) local;
}
