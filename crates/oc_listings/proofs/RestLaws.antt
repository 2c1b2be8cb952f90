-- The residue of a relocation where all sections lie at 0.
use Rattle.std.proofs.Common.{◌≡◌, ℕ, ◌+◌, ◌-◌, ◌%◌, ◌<◌, arith, if◌then◌else◌, Some, None, refl, sym, ◌∙◌, ap, zero-add}
use Rattle.std.specs.{Prelude.{slice_get}, Option.{option_map, option_map_or, unwrap_or}}
use Rattle.std.proofs.lemmas.Option.{slice_get-map}
use Rattle.oc_base.specs.{declared.format.Word.{Word}, declared.format.Word.TheVariants.{W32, W64}}
use Rattle.oc_linking.specs.{declared.terms.Base.{Base}, declared.terms.Binding.{Binding}}
use Rattle.oc_linking.specs.{declared.terms.Binding.TheVariants.{Local, Global, Undefined, Common, Weak}, declared.terms.Fallback.{Fallback}}
use Rattle.oc_linking.specs.{declared.terms.Less.{Less}, declared.terms.Value.{Value}, Numbers.{minus, modulus, reduced}, Placing.{Site, nowhere, zeros}}
use Rattle.oc_linking.specs.Values.{Valued, Valuation, own_site, global_site, strong_site, fallback_site, site_of, numbered, values, worthless}
use Rattle.oc_linking.specs.declared.terms.Base.TheVariants as base
use Rattle.oc_linking.specs.declared.terms.Fallback.TheVariants as fallback
use Rattle.oc_linking.specs.declared.terms.Less.TheVariants as less
use Rattle.oc_linking.specs.declared.terms.Value.TheVariants as value
use Rattle.std.proofs.Math.Nat.{mod-lt}
use Rattle.oc_linking.specs.Parts as parts
use Rattle.oc_algebra.specs.Residues.{residue_of}
use Rattle.oc_neutral.specs.{declared.reloc.Reloc.{Reloc}, declared.reloc.Target.{Target}, declared.symbol.Symbol.{Symbol}, Objects.{Object}}
use Rattle.oc_neutral.specs.{Faces.{number_of, shown_binding, shown_fallback, shown_symbol, shown_symbols}, Invariants.{IsBinding, IsFallback}}
use Rattle.oc_neutral.specs.Worth.{base_of, less_of, residue_at, target_worth}
use Rattle.oc_neutral.specs.declared.reloc.Target.TheVariants as target
use Rattle.oc_shows.specs.Shows.{AreNumbered}
use Rattle.oc_shows.proofs.Truth.{numbered-own, values-own}
use Rattle.oc_listings.specs.Listings.{silent}
use Rattle.oc_listings.specs.ObjectListings.{own_number, strong_number, fallback_number, resting_number, target_number, base_number, less_number, resting_residue}

-- the site of an address that lies in no section of the image
abbrev pub at_address : ℕ → Site
at_address a = record { address = a; home = 0; home_number = 0 }

-- worth an address
abbrev pub worth_address : ℕ → Valued
worth_address a = record { site = at_address a; slot = 0 }

own-rests : (w : Word) (v : Value) → own_site w zeros v ≡ at_address (own_number w v)
own-rests w (value.Place k offset) = ap (λ a. at_address (reduced w a)) (zero-add offset)
own-rests w (value.Absolute x) = refl

global-rests : (w : Word) (v : Value) → global_site w zeros None v ≡ at_address (own_number w v)
global-rests w (value.Place k offset) = own-rests w (value.Place k offset)
global-rests w (value.Absolute x) = refl

module _ (w : Word) (n : Object) (differ : AreNumbered (shown_symbols n)) where
  -- what its symbols are worth
  abbrev pub resting : Valuation
  resting = values w (shown_symbols n) (shown_symbols n) zeros silent

  strong-rests : (b : Binding) → strong_site w zeros None (shown_binding n.symbols b) ≡ at_address (strong_number w b)
  strong-rests (Local v) = own-rests w v
  strong-rests (Global v) = global-rests w v
  strong-rests Undefined = refl
  strong-rests (Common size align) = refl
  strong-rests (Weak f) = refl

  -- a symbol, as it is shown
  shown_at : (k : ℕ) (s : Symbol) → slice_get n.symbols k ≡ Some s → slice_get (shown_symbols n) k ≡ Some (shown_symbol n.symbols s)
  shown_at k s here = slice_get-map (shown_symbol n.symbols) n.symbols k ∙ ap (option_map (shown_symbol n.symbols)) here

  -- it is found by its number
  pub found_by_number : (k : ℕ) (s : Symbol) → slice_get n.symbols k ≡ Some s → numbered (shown_symbols n) (number_of n.symbols k) ≡ Some (shown_symbol n.symbols s)
  found_by_number k s here =
      ap (λ o. numbered (shown_symbols n) (option_map_or (λ (t : Symbol). t.number) o 0)) here
      ∙ numbered-own (shown_symbols n) differ k (shown_symbol n.symbols s) (shown_at k s here)

  zero-reduced : reduced w 0 ≡ 0
  zero-reduced = by w
    where
      by : (x : Word) → reduced x 0 ≡ 0
      by W32 = refl
      by W64 = refl

  fallback-rests : (f : Fallback) → IsFallback n f → fallback_site w zeros silent (shown_symbols n) (shown_fallback n.symbols f) ≡ at_address (fallback_number w n.symbols f)
  fallback-rests (fallback.Place k offset) is = ap (λ a. at_address (reduced w a)) (zero-add offset)
  fallback-rests fallback.Zero is = ap at_address zero-reduced
  fallback-rests (fallback.Name k) is =
      ap (λ o. unwrap_or (option_map (λ (s : parts.Symbol). strong_site w zeros None s.binding) o) nowhere) (found_by_number k is.0 is.1)
      ∙ strong-rests is.0.binding
      ∙ ap (λ o. at_address (option_map_or (λ (s : Symbol). strong_number w s.binding) o 0)) (sym is.1)

  -- what a symbol is worth
  symbol-rests : (k : ℕ) (s : Symbol) → slice_get n.symbols k ≡ Some s → IsBinding n s.binding → resting s.number ≡ worth_address (resting_number w n.symbols s.binding)
  symbol-rests k s here is =
      values-own w (shown_symbols n) differ zeros silent k (shown_symbol n.symbols s) (shown_at k s here) ∙ by s.binding is
    where
      by : (b : Binding) → IsBinding n b
          → record { site = site_of w zeros silent (shown_symbols n) s.name (shown_binding n.symbols b); slot = if parts.is_local (shown_binding n.symbols b) then 0 else 0 }
          ≡ worth_address (resting_number w n.symbols b)
      by (Local v) is = ap (λ x. record { site = x; slot = 0 }) (own-rests w v)
      by (Global v) is = ap (λ x. record { site = x; slot = 0 }) (global-rests w v)
      by Undefined is = refl
      by (Common size align) is = refl
      by (Weak f) is = ap (λ x. record { site = x; slot = 0 }) (fallback-rests f is)

  -- what a target is worth
  target-rests : (t : Target) → ((k : ℕ) → t ≡ target.Symbol k → (s : Symbol) × (slice_get n.symbols k ≡ Some s) × IsBinding n s.binding)
      → target_worth n.symbols zeros resting t ≡ worth_address (target_number w n.symbols t)
  target-rests (target.Section k) there = refl
  target-rests (target.Symbol k) there =
      let s = there k refl in
      ap (λ o. unwrap_or (option_map (λ (x : Symbol). resting x.number) o) worthless) s.1
      ∙ symbol-rests k s.0 s.1 s.2
      ∙ ap (λ o. worth_address (option_map_or (λ (x : Symbol). resting_number w n.symbols x.binding) o 0)) (sym s.1)

  base-rests : (b : Base) (a : ℕ) → base_of zeros (worth_address a) b ≡ base_number b a
  base-rests base.Address a = refl
  base-rests base.Slot a = refl
  base-rests base.GotBase a = refl
  base-rests base.HomeNumber a = refl

  less-rests : (l : Less) (s offset a : ℕ) → less_of zeros s offset (worth_address a) l ≡ less_number l offset
  less-rests less.Zero s offset a = refl
  less-rests less.Place s offset a = zero-add offset
  less-rests less.GotBase s offset a = refl
  less-rests less.ImageBase s offset a = refl
  less-rests less.Home s offset a = refl
  less-rests (less.Section k) s offset a = refl

  -- the residue of a relocation
  pub residue-rests : (s offset : ℕ) (r : Reloc) → ((k : ℕ) → r.target ≡ target.Symbol k → (x : Symbol) × (slice_get n.symbols k ≡ Some x) × IsBinding n x.binding)
      → residue_at w n.symbols zeros resting s offset r ≡ resting_residue w n.symbols offset r
  unfolding residue_at
  residue-rests s offset r there =
      let a : ℕ = target_number w n.symbols r.target in
      ap (λ (t : Valued). minus w (base_of zeros t r.form.base + residue_of w r.addend) (less_of zeros s offset t r.form.less)) (target-rests r.target there)
      ∙ ap (λ x. minus w (x + residue_of w r.addend) (less_of zeros s offset (worth_address a) r.form.less)) (base-rests r.form.base a)
      ∙ ap (λ x. minus w (base_number r.form.base a + residue_of w r.addend) x) (less-rests r.form.less s offset a)

-- a difference is a residue
pub minus_below : (w : Word) (a b : ℕ) → minus w a b < modulus w
minus_below W32 a b = mod-lt (a + (modulus W32 - b % modulus W32)) (omega arith)
minus_below W64 a b = mod-lt (a + (modulus W64 - b % modulus W64)) (omega arith)
