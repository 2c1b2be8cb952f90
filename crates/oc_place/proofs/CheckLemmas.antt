-- What is wrong with a section or a symbol of an object.
use Rattle.std.proofs.Common.{◌≡◌, ℕ, ◌+◌, ◌<◌, Bool, List, [], ◌∷◌, ◌++◌, length, get_or, suc, take, Option, Some, None, refl, sym, ◌∙◌, ap, arith}
use Rattle.std.specs.{Prelude.{slice_get, IfSome}, List.{enumerate_from}, Option.{option_map, option_and_then, unwrap_or}}
use Rattle.std.proofs.lemmas.{List.{length-map, take_more}, Option.{get_or_from_slice_get, slice_get-map, slice_get_within}}
use Rattle.oc_base.specs.Formats.{word_for}
use Rattle.oc_linking.specs.{declared.terms.Fallback.{Fallback}, declared.terms.Binding.{Binding}}
use Rattle.oc_linking.specs.declared.terms.Binding.TheVariants.{Local, Global, Undefined, Common, Weak}
use Rattle.oc_linking.specs.declared.terms.Fallback.TheVariants as fallback
use Rattle.oc_linking.specs.Parts as parts
use Rattle.oc_neutral.specs.{declared.section.Section.{Section}, declared.symbol.Symbol.{Symbol}, Objects.{Object}}
use Rattle.oc_neutral.specs.{Faces.{shown_binding, shown_symbol, shown_symbols}, Invariants.{IsAlign, IsBinding, IsMember, IsObject, IsSymbol, groups_of}}
use Rattle.oc_neutral.proofs.{Positions.{each_at, there_at}, Partly.{enumerated_at}}
use Rattle.oc_place.specs.{declared.spot.Spot.{Spot}, declared.spot.Outside.{Outside}, Faults.{IsFor}, Footprints.{Plot, Footprint, plot_of, footprint_of}}
use Rattle.oc_place.specs.Written.{Notes}
use Rattle.oc_place.specs.Placings.{IsCommonAligned, IsPlacingOf, at_position, given_code, given_for, group_at, is_lost, nothing_given, plot_code, placing_of, section_bad, spot_for, symbol_bad}

-- a group that is there, among as many
there : (count many : ℕ) (o : Option ℕ) → many ≡ count → IsMember count o → IfSome o (λ g. g < many)
there count many None same is = tt
there count many (Some g) same is = omega (arith, same, is)

module _ (n : Object) (fine : IsObject n) (k : ℕ) (s : Section) (here : slice_get n.sections k ≡ Some s) where
  -- the group of a section is there
  pub member : IsMember (length n.groups) s.group
  member = each_at (IsMember (length n.groups)) (groups_of n.sections) k s.group fine.built.members
      (slice_get-map (λ (x : Section). x.group) n.sections k ∙ ap (option_map (λ (x : Section). x.group)) here)

  pub group_there : (many : ℕ) → many ≡ length n.groups → IfSome s.group (λ g. g < many)
  group_there many same = there (length n.groups) many s.group same member

  -- its alignment is one
  pub aligned : IsAlign s.align
  aligned = each_at (λ (x : Section). IsAlign x.align) n.sections k s fine.complete.aligns here

  plot_here : slice_get (footprint_of n).sections k ≡ Some (plot_of s)
  plot_here = slice_get-map plot_of n.sections k ∙ ap (option_map plot_of) here

  -- the group at its position is its group
  pub group_is : group_at (footprint_of n).sections k ≡ s.group
  group_is = ap (option_and_then (λ (x : Plot). x.group)) plot_here

  -- what is wrong with the section at the position
  pub section_is : (notes : Notes) → section_bad (footprint_of n) notes k ≡ at_position k (plot_code (word_for n.format) notes k (plot_of s))
  section_is notes = ap (λ o. at_position k (option_and_then (plot_code (word_for n.format) notes k) o)) plot_here

  -- where it lies
  pub spot_is : (notes : Notes) → slice_get (placing_of (footprint_of n) notes).spots k ≡ Some (spot_for notes (k, plot_of s))
  spot_is notes = enumerated_at (spot_for notes) 0 k (footprint_of n).sections ∙ ap (option_map (λ (x : Plot). spot_for notes (0 + k, x))) plot_here ∙ let e : 0 + k ≡ k = omega arith in ap (λ j. Some (spot_for notes (j, plot_of s))) e

-- what is wrong does not depend on how fallbacks name symbols
code-shown : (symbols : List Symbol) (b : Binding) (lost : Bool) (spot : Option Spot) → given_code (shown_binding symbols b) lost spot ≡ given_code b lost spot
code-shown symbols (Local v) lost spot = refl
code-shown symbols (Global v) lost spot = refl
code-shown symbols Undefined lost spot = refl
code-shown symbols (Common size align) lost spot = refl
code-shown symbols (Weak f) lost spot = refl

lost-fallback : (footprint : Footprint) (notes : Notes) (symbols : List Symbol) (f : Fallback) → is_lost footprint notes (shown_binding symbols (Weak f)) ≡ is_lost footprint notes (Weak f)
lost-fallback footprint notes symbols (fallback.Place k offset) = refl
lost-fallback footprint notes symbols fallback.Zero = refl
lost-fallback footprint notes symbols (fallback.Name k) = refl

pub lost-shown : (footprint : Footprint) (notes : Notes) (symbols : List Symbol) (b : Binding) → is_lost footprint notes (shown_binding symbols b) ≡ is_lost footprint notes b
lost-shown footprint notes symbols (Local v) = refl
lost-shown footprint notes symbols (Global v) = refl
lost-shown footprint notes symbols Undefined = refl
lost-shown footprint notes symbols (Common size align) = refl
lost-shown footprint notes symbols (Weak f) = lost-fallback footprint notes symbols f

common_aligned : (n : Object) (b : Binding) → IsBinding n b → IsCommonAligned b
common_aligned n (Local v) is = tt
common_aligned n (Global v) is = tt
common_aligned n Undefined is = tt
common_aligned n (Common size align) is = is.1
common_aligned n (Weak f) is = tt

module _ (n : Object) (k : ℕ) (s : Symbol) (here : slice_get n.symbols k ≡ Some s) where
  -- a binding is one
  pub bound : IsObject n → IsBinding n s.binding
  bound fine = let is = each_at (IsSymbol n) n.symbols k s fine.complete.symbols here in is.binding

  pub common : IsObject n → IsCommonAligned s.binding
  common fine = common_aligned n s.binding (bound fine)

  -- what is wrong with the symbol at the position
  pub symbol_is : (notes : Notes)
      → symbol_bad (footprint_of n) notes k ≡ at_position k (given_code s.binding (is_lost (footprint_of n) notes s.binding) (unwrap_or (get_or notes.given k None) nothing_given).spot)
  symbol_is notes =
      let spot : Option Spot = (unwrap_or (get_or notes.given k None) nothing_given).spot in
      ap (λ (o : Option parts.Symbol). at_position k (option_and_then (λ (y : parts.Symbol). given_code y.binding (is_lost (footprint_of n) notes y.binding) spot) o))
      (slice_get-map (shown_symbol n.symbols) n.symbols k ∙ ap (option_map (shown_symbol n.symbols)) here)
      ∙ ap (at_position k) (code-shown n.symbols s.binding (is_lost (footprint_of n) notes (shown_binding n.symbols s.binding)) spot
      ∙ ap (λ lost. given_code s.binding lost spot) (lost-shown (footprint_of n) notes n.symbols s.binding))

-- what the outside gives a symbol
pub given_is : (n : Object) (notes : Notes) (k : ℕ) → k < length n.symbols → slice_get (placing_of (footprint_of n) notes).given k ≡ Some (unwrap_or (get_or notes.given k None) nothing_given)
given_is n notes k inside =
    let long = length-map n.symbols (shown_symbol n.symbols) in
    let x = there_at (shown_symbols n) k (omega (arith, inside, long)) in
    let e : 0 + k ≡ k = omega arith in
    enumerated_at (given_for notes) 0 k (shown_symbols n) ∙ ap (option_map (λ (y : parts.Symbol). given_for notes (0 + k, y))) x.1 ∙ ap (λ j. Some (unwrap_or (get_or notes.given j None) nothing_given)) e

-- one more of a list
pub one_more : {X : Type 0} (now after all : List X) (k : ℕ) (x : X) → after ≡ now ++ x ∷ [] → now ≡ take k all → slice_get all k ≡ Some x → after ≡ take (k + 1) all
one_more now after all k x pushed so_far here =
    pushed ∙ ap (λ xs. xs ++ x ∷ []) so_far ∙ sym (take_more all k x (slice_get_within all k x here) ∙ ap (λ y. take k all ++ y ∷ []) (get_or_from_slice_get all k x x here))

-- lists that are made have their lengths
pub placing-lengths : (n : Object) (notes : Notes) → IsFor n notes → IsPlacingOf n (placing_of (footprint_of n) notes)
placing-lengths n notes is = record {
  spots = length-map (enumerate_from 0 (footprint_of n).sections) (spot_for notes) ∙ length-enumerate 0 (footprint_of n).sections ∙ length-map n.sections plot_of;
  dropped = is.dropped;
  given = length-map (enumerate_from 0 (shown_symbols n)) (given_for notes) ∙ length-enumerate 0 (shown_symbols n) ∙ length-map n.symbols (shown_symbol n.symbols);
}
  where
    length-enumerate : {X : Type 0} (i : ℕ) (xs : List X) → length (enumerate_from i xs) ≡ length xs
    length-enumerate i [] = refl
    length-enumerate i (x ∷ xs) = ap suc (length-enumerate (i + 1) xs)

-- so has what is made of them
pub placing_so : (n : Object) (notes : Notes) (image got : ℕ) (spots : List Spot) (dropped : List Bool) (given : List Outside) → IsFor n notes → spots ≡ (placing_of (footprint_of n) notes).spots
    → dropped ≡ notes.dropped → given ≡ (placing_of (footprint_of n) notes).given → IsPlacingOf n (record { image = image; got = got; spots = spots; dropped = dropped; given = given })
placing_so n notes image got spots dropped given is a b c = let long = placing-lengths n notes is in record {
  spots = ap length a ∙ long.spots;
  dropped = ap length b ∙ long.dropped;
  given = ap length c ∙ long.given;
}
