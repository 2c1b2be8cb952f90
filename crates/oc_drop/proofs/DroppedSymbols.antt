-- Dropping leaves of the symbols of a file what it leaves of those of the object.
use Rattle.std.proofs.Common.{◌≡◌, ◌≢◌, ℕ, zero, suc, ◌<◌, Bool, true, false, not, ◌&&◌, List, [], ◌∷◌, length, map, get_or, Some, refl, sym, ◌∙◌, ap, subst, arith}
use Rattle.std.specs.{Prelude.{slice_get}, List.{AllByRecursion}, Option.{option_map_or}}
use Rattle.std.proofs.lemmas.{Bool.{true≢false, not-false}, Option.{slice_get_within}}
use Rattle.oc_linking.specs.{declared.terms.Value.{Value}, declared.terms.Fallback.{Fallback}, declared.terms.Binding.{Binding}}
use Rattle.oc_linking.specs.{declared.terms.Binding.TheVariants.{Local, Global, Undefined, Common, Weak}, Keeping.{carried_of, kept_of}, Parts.{is_local}}
use Rattle.oc_linking.specs.declared.terms.Value.TheVariants as value
use Rattle.oc_linking.specs.declared.terms.Fallback.TheVariants as fallback
use Rattle.oc_linking.specs.Raising.{raised_value, raised_fallback, raised_binding}
use Rattle.oc_neutral.specs.{declared.symbol.Symbol.{Symbol}, Objects.{Object}, Faces.{number_of, shown_fallback, shown_binding}}
use Rattle.oc_neutral.specs.Invariants.{HasOffset, IsValue, IsFallback, IsBinding, IsSymbol}
use Rattle.oc_neutral.specs.Without.{symbols_stay, is_dropped, value_section, binding_section, lies_in_dropped, new_position, moved_value, moved_fallback, moved_binding, with_binding, IsDetached}
use Rattle.oc_neutral.proofs.{Positions.{each_at, each_weaker}, KeptLists.{Stays, all_kept}}
use Rattle.oc_neutral.proofs.LeftParts.{flags, moved_symbol, left_object, symbol_there, strong_outer}
use Rattle.oc_drop.specs.KeptShows.{left_symbols}
use Rattle.oc_drop.proofs.Filed.{filed, all_filed, Names, AllNamed, AreSingle, numbers_of}

-- one that stays comes back to its position
pub carried_back : (stay : List Bool) (k : ℕ) → k < length stay → Stays stay k → carried_of stay (new_position stay k) ≡ k
carried_back [] k low is = absurd (omega (arith, low))
carried_back (true ∷ stay) zero low is = refl
carried_back (false ∷ stay) zero low is = absurd (true≢false (sym is))
carried_back (true ∷ stay) (suc k) low is = ap suc (carried_back stay k (omega (arith, low)) is)
carried_back (false ∷ stay) (suc k) low is = ap suc (carried_back stay k (omega (arith, low)) is)

-- a symbol whose fallback has its number
abbrev pub numbered : List Symbol → Symbol → Symbol
numbered symbols s = with_binding s (shown_binding symbols s.binding)

-- the section of a symbol is the same, whatever names its fallback
section_same : (symbols : List Symbol) (b : Binding) → binding_section (shown_binding symbols b) ≡ binding_section b
section_same symbols (Local v) = refl
section_same symbols (Global v) = refl
section_same symbols Undefined = refl
section_same symbols (Common size align) = refl
section_same symbols (Weak (fallback.Place k offset)) = refl
section_same symbols (Weak fallback.Zero) = refl
section_same symbols (Weak (fallback.Name k)) = refl

-- the numbers of those that stay differ, where all do
single_kept : (stay : List Bool) (xs : List ℕ) → AreSingle xs → AreSingle (kept_of stay xs)
single_kept stay [] single = tt
single_kept [] (x ∷ xs) single = single
single_kept (true ∷ stay) (x ∷ xs) single = (all_kept (λ m. x ≢ m) stay xs single.0, single_kept stay xs single.1)
single_kept (false ∷ stay) (x ∷ xs) single = single_kept stay xs single.1

module _ (stay : List Bool) (n : Object) (long : length n.sections ≡ length stay) (none : IsDetached stay n) where
  pub nonlocal-clear : (k : ℕ) (s : Symbol) → slice_get n.symbols k ≡ Some s → is_local s.binding ≡ false → lies_in_dropped stay s ≡ false
  nonlocal-clear k s here out =
      by (is_local s.binding) (lies_in_dropped stay s) out
      (each_at (λ (s : Symbol). (not (is_local s.binding) && lies_in_dropped stay s) ≡ false) n.symbols k s none.symbols here)
    where
      by : (a b : Bool) → a ≡ false → (not a && b) ≡ false → b ≡ false
      by true b out e = absurd (true≢false out)
      by false true out e = absurd (true≢false e)
      by false false out e = refl

  abbrev m : Object
  m = left_object stay n long none

  abbrev syms : List Bool
  syms = flags stay n long none

  place-back : (k offset : ℕ) → HasOffset n.sections k offset → is_dropped stay k ≡ false → carried_of stay (new_position stay k) ≡ k
  place-back k offset there clear = carried_back stay k (let l = slice_get_within n.sections k there.0 there.1 in omega (arith, l, long)) (not-false (get_or stay k true) clear)

  value-back : (v : Value) → IsValue n v → option_map_or (is_dropped stay) (value_section v) false ≡ false → raised_value stay (moved_value stay v) ≡ v
  value-back (value.Place k offset) there clear = ap (λ j. value.Place j offset) (place-back k offset there clear)
  value-back (value.Absolute i) there clear = refl

  number-back : (k : ℕ) (s : Symbol) → slice_get n.symbols k ≡ Some s → lies_in_dropped stay s ≡ false → number_of m.symbols (new_position syms k) ≡ number_of n.symbols k
  number-back k s here clear =
      ap (λ o. option_map_or (λ (s : Symbol). s.number) o 0) (symbol_there stay n long none k s here clear) ∙ sym (ap (λ o. option_map_or (λ (s : Symbol). s.number) o 0) here)

  fallback-back : (f : Fallback) → IsFallback n f → option_map_or (is_dropped stay) (binding_section (Weak f)) false ≡ false
      → raised_fallback stay (shown_fallback m.symbols (moved_fallback stay syms f)) ≡ shown_fallback n.symbols f
  fallback-back (fallback.Place k offset) there clear = ap (λ j. fallback.Place j offset) (place-back k offset there clear)
  fallback-back fallback.Zero there clear = refl
  fallback-back (fallback.Name k) there clear =
      ap (λ i. fallback.Name i) (number-back k there.0 there.1 (nonlocal-clear k there.0 there.1 (strong_outer there.0.binding there.2)))

  pub binding-back : (b : Binding) → IsBinding n b → option_map_or (is_dropped stay) (binding_section b) false ≡ false
      → raised_binding stay (shown_binding m.symbols (moved_binding stay syms b)) ≡ shown_binding n.symbols b
  binding-back (Local v) there clear = ap (λ u. Local u) (value-back v there clear)
  binding-back (Global v) there clear = ap (λ u. Global u) (value-back v there clear)
  binding-back Undefined there clear = refl
  binding-back (Common size align) there clear = refl
  binding-back (Weak f) there clear = ap (λ g. Weak g) (fallback-back f there clear)

  left-from : (rest : List Symbol) → AllByRecursion (IsSymbol n) rest
      → map (filed stay m.symbols) (map (moved_symbol stay n long none) (kept_of (symbols_stay stay rest) rest)) ≡ left_symbols stay (map (numbered n.symbols) rest)
  left-from [] fine = refl
  left-from (s ∷ rest) fine =
      by (lies_in_dropped stay s) (λ clear. binding-back s.binding fine.0.binding clear) (left-from rest fine.1)
      ∙ ap (λ o. kept_of (not (option_map_or (is_dropped stay) o false) ∷ symbols_stay stay (map (numbered n.symbols) rest)) (map (numbered n.symbols) (s ∷ rest))) (sym (section_same n.symbols s.binding))
    where
      by : (b : Bool) → (b ≡ false → raised_binding stay (shown_binding m.symbols (moved_binding stay syms s.binding)) ≡ shown_binding n.symbols s.binding)
          → map (filed stay m.symbols) (map (moved_symbol stay n long none) (kept_of (symbols_stay stay rest) rest)) ≡ left_symbols stay (map (numbered n.symbols) rest)
          → map (filed stay m.symbols) (map (moved_symbol stay n long none) (kept_of (not b ∷ symbols_stay stay rest) (s ∷ rest)))
          ≡ kept_of (not b ∷ symbols_stay stay (map (numbered n.symbols) rest)) (map (numbered n.symbols) (s ∷ rest))
      by true back more = more
      by false back more =
          ap (λ b. with_binding s b ∷ map (filed stay m.symbols) (map (moved_symbol stay n long none) (kept_of (symbols_stay stay rest) rest))) (back refl)
          ∙ ap (λ ys. numbered n.symbols s ∷ ys) more

  -- dropping leaves of the symbols of the file what it leaves of those of the object
  pub left-filed : AllByRecursion (IsSymbol n) n.symbols → all_filed stay m.symbols ≡ left_symbols stay (map (numbered n.symbols) n.symbols)
  left-filed fine = left-from n.symbols fine

  numbers-moved : (xs : List Symbol) (bs : List Bool) → numbers_of (map (moved_symbol stay n long none) (kept_of bs xs)) ≡ kept_of bs (numbers_of xs)
  numbers-moved [] bs = refl
  numbers-moved (x ∷ xs) [] = ap (λ ns. x.number ∷ ns) (all xs)
    where
      all : (ys : List Symbol) → numbers_of (map (moved_symbol stay n long none) ys) ≡ numbers_of ys
      all [] = refl
      all (y ∷ ys) = ap (λ ns. y.number ∷ ns) (all ys)
  numbers-moved (x ∷ xs) (true ∷ bs) = ap (λ ns. x.number ∷ ns) (numbers-moved xs bs)
  numbers-moved (x ∷ xs) (false ∷ bs) = numbers-moved xs bs

  -- their numbers differ
  pub single-left : AreSingle (numbers_of n.symbols) → AreSingle (numbers_of m.symbols)
  single-left single = subst (λ ns. AreSingle ns) (sym (numbers-moved n.symbols syms)) (single_kept syms (numbers_of n.symbols) single)

-- each fallback Name of an object is that of a symbol that is there
pub object_names : (n : Object) → AllByRecursion (IsSymbol n) n.symbols → AllNamed (length n.symbols) n.symbols
object_names n fine = each_weaker (IsSymbol n) (λ (s : Symbol). Names (length n.symbols) s.binding) (λ s is. by s.binding is.binding) n.symbols fine
  where
    by : (b : Binding) → IsBinding n b → Names (length n.symbols) b
    by (Weak (fallback.Name k)) is = slice_get_within n.symbols k is.0 is.1
    by (Weak (fallback.Place k offset)) is = tt
    by (Weak fallback.Zero) is = tt
    by (Local v) is = tt
    by (Global v) is = tt
    by Undefined is = tt
    by (Common size align) is = tt
