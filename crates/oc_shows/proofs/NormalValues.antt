-- The normal form of a relocation has its value.
use Rattle.std.proofs.Common.{◌≡◌, ℕ, ◌+◌, ◌%◌, refl, sym, ◌∙◌, ap, Bool, true, false, cond, true≢false, List, slice_get, Option, Some, None, arith}
use Rattle.std.specs.{Prelude.{ℤ, pos, ◌+ℤ◌}, Option.{option_map, option_and_then, unwrap_or}}
use Rattle.std.proofs.lemmas.{Bool.{eqb-true}, Option.{none-some, same_Some}}
use Rattle.std.proofs.Math.Nat.{mod-mod}
use Rattle.oc_base.specs.declared.format.Word.{Word}
use Rattle.oc_linking.specs.declared.terms.Value.TheVariants as value
use Rattle.oc_linking.specs.{declared.terms.Binding.{Binding}, declared.terms.Binding.TheVariants.{Local, Global, Undefined, Common, Weak}}
use Rattle.oc_linking.specs.{Numbers.{modulus, minus, reduced}, Placing.{Placement, Site}, Values.{Valued, Valuation, worthless, place_site}}
use Rattle.oc_linking.specs.{declared.terms.Base.{Base}, declared.terms.Less.{Less}}
use Rattle.oc_linking.specs.declared.terms.Base.TheVariants as base
use Rattle.oc_linking.specs.declared.terms.Less.TheVariants as less
use Rattle.oc_algebra.specs.Residues.{residue_of, reduced_number}
use Rattle.oc_algebra.proofs.Laws.{residue_reduced, residue_moved, residue_small, minus-own, minus-self, minus-place}
use Rattle.oc_neutral.specs.{declared.symbol.Symbol.{Symbol}, declared.reloc.Target.{Target}, declared.reloc.Reloc.{Reloc}, declared.normal.Normal.{Normal}}
use Rattle.oc_neutral.specs.Normal.{Place, local_place, place_among, moved_addend, at_section, by_section, cancels, takes_section, by_place, folded, normal_of}
use Rattle.oc_neutral.specs.Worth.{target_worth, base_of, less_of, residue_at, IsTrueToLocals}
use Rattle.oc_neutral.specs.declared.reloc.Target.TheVariants as target
use Rattle.oc_neutral.specs.declared.normal.Normal.TheVariants as normal
use Rattle.oc_shows.specs.Laws.{KeepsValue}

-- what a Local at that place is worth
abbrev placed_worth : Word → Placement → Place → Valued
placed_worth w p place = record { site = place_site w p place.0 place.1; slot = 0 }

-- a residue is reduced once
reduced-reduced : (w : Word) (a : ℕ) → reduced w a % modulus w ≡ a % modulus w
reduced-reduced w a = mod-mod a (modulus w)

-- what a symbol is worth, by its parts
valued_is : (a : Valued) (x : Site) (n : ℕ) → a.site ≡ x → a.slot ≡ n → a ≡ record { site = x; slot = n }
valued_is a x n e f = rw (← e, ← f) refl

module _ (w : Word) (symbols : List Symbol) (p : Placement) (v : Valuation) (is_true : IsTrueToLocals w symbols p v) where
  -- a symbol whose binding is a Local with a place is worth what stands there
  symbol-worth : (k : ℕ) (x : Symbol) (b : Binding) (place : Place) → slice_get symbols k ≡ Some x → x.binding ≡ b → local_place b ≡ Some place → v x.number ≡ placed_worth w p place
  symbol-worth k x (Local (value.Place section offset)) place here is at =
      let same : (section, offset) ≡ place = same_Some _ place at in
      let site : (v x.number).site ≡ place_site w p section offset = is_true.sites k x _ here (rw is refl) (rw is refl) in
      let slot : (v x.number).slot ≡ 0 = is_true.slots k x here (rw is refl) in
      rw (← same) (valued_is (v x.number) _ 0 site slot)
  symbol-worth k x (Local (value.Absolute number)) place here is at = absurd (none-some place at)
  symbol-worth k x (Global own) place here is at = absurd (none-some place at)
  symbol-worth k x Undefined place here is at = absurd (none-some place at)
  symbol-worth k x (Common size align) place here is at = absurd (none-some place at)
  symbol-worth k x (Weak f) place here is at = absurd (none-some place at)

  -- a target that is a Local with a place is worth what stands there
  target-worth : (t : Target) (place : Place) → place_among symbols t ≡ Some place → target_worth symbols p v t ≡ placed_worth w p place
  unfolding place_among
  target-worth (target.Section k) place at = absurd (none-some place at)
  target-worth (target.Symbol k) place at = by (slice_get symbols k) refl at
    where
      by : (o : Option Symbol) → slice_get symbols k ≡ o → option_and_then (λ (s : Symbol). local_place s.binding) o ≡ Some place
          → unwrap_or (option_map (λ (s : Symbol). v s.number) o) worthless ≡ placed_worth w p place
      by None is at = absurd (none-some place at)
      by (Some x) is at = symbol-worth k x x.binding place is refl at

  -- against the section of that place the value is the same
  base-value : (b : Base) (place : Place) (a : ℤ) (l : ℕ)
      → minus w (base_of p (target_worth symbols p v (target.Section place.0)) b + residue_of w (reduced_number w (moved_addend b a place.1))) l
      ≡ minus w (base_of p (placed_worth w p place) b + residue_of w a) l
  base-value base.Address place a l =
      rw (residue_moved w a place.1)
      (minus-place w (p.site place.0).address (reduced w ((p.site place.0).address + place.1)) place.1 (residue_of w a) l (reduced-reduced w ((p.site place.0).address + place.1)))
  base-value base.Slot place a l = rw (residue_reduced w a) refl
  base-value base.GotBase place a l = rw (residue_reduced w a) refl
  base-value base.HomeNumber place a l = rw (residue_reduced w a) refl

  -- and what is taken is the same
  less-value : (s at : ℕ) (place : Place) (l : Less) → less_of p s at (target_worth symbols p v (target.Section place.0)) l ≡ less_of p s at (placed_worth w p place) l
  less-value s at place l = grind arith

  -- a relocation against a Local with a place has the value of the one against its section
  value-by_section : (s at : ℕ) (r : Reloc) → residue_at w symbols p v s at (by_section w symbols r) ≡ residue_at w symbols p v s at r
  unfolding by_section residue_at
  value-by_section s at r = by (place_among symbols r.target) refl
    where
      by : (o : Option Place) → place_among symbols r.target ≡ o → residue_at w symbols p v s at (at_section w r o) ≡ residue_at w symbols p v s at r
      by None is = rw (residue_reduced w r.addend) refl
      by (Some place) is =
          rw (target-worth r.target place is, less-value s at place r.form.less)
          (base-value r.form.base place r.addend (less_of p s at (placed_worth w p place) r.form.less))

  -- the address of a section less that of the same section is the addend
  value-cancels : (s at : ℕ) (b : Base) (t : Target) (l : Less) (a : ℤ) → cancels b t l ≡ true
      → residue_of w a ≡ minus w (base_of p (target_worth symbols p v t) b + residue_of w a) (less_of p s at (target_worth symbols p v t) l)
  value-cancels s at base.Address (target.Section k) (less.Section j) a e =
      rw (eqb-true k j e) (sym (minus-self w (p.site j).address (residue_of w a) (residue_small w a)))
  value-cancels s at base.Address (target.Section k) less.Zero a e = absurd (true≢false (sym e))
  value-cancels s at base.Address (target.Section k) less.Place a e = absurd (true≢false (sym e))
  value-cancels s at base.Address (target.Section k) less.GotBase a e = absurd (true≢false (sym e))
  value-cancels s at base.Address (target.Section k) less.ImageBase a e = absurd (true≢false (sym e))
  value-cancels s at base.Address (target.Section k) less.Home a e = absurd (true≢false (sym e))
  value-cancels s at base.Address (target.Symbol k) l a e = absurd (true≢false (sym e))
  value-cancels s at base.Slot t l a e = absurd (true≢false (sym e))
  value-cancels s at base.GotBase t l a e = absurd (true≢false (sym e))
  value-cancels s at base.HomeNumber t l a e = absurd (true≢false (sym e))

  -- less the address of the own section is less the place, where the offset is added
  value-placed : (s at b : ℕ) (t : Valued) (l : Less) (a : ℤ) → takes_section s l ≡ true
      → minus w (b + residue_of w (reduced_number w (a +ℤ pos at))) ((p.site s).address + at) ≡ minus w (b + residue_of w a) (less_of p s at t l)
  value-placed s at b t (less.Section k) a e = rw (eqb-true k s e, residue_moved w a at) (minus-own w b (residue_of w a) (p.site s).address at)
  value-placed s at b t less.Zero a e = absurd (true≢false (sym e))
  value-placed s at b t less.Place a e = absurd (true≢false (sym e))
  value-placed s at b t less.GotBase a e = absurd (true≢false (sym e))
  value-placed s at b t less.ImageBase a e = absurd (true≢false (sym e))
  value-placed s at b t less.Home a e = absurd (true≢false (sym e))

-- the value of what remains
abbrev pub value_of_normal : Word → List Symbol → Placement → Valuation → ℕ → ℕ → Normal → ℕ
value_of_normal w symbols p v s at (normal.Constant c) = residue_of w c
value_of_normal w symbols p v s at (normal.Kept q) = residue_at w symbols p v s at q

module _ (w : Word) (symbols : List Symbol) (p : Placement) (v : Valuation) (is_true : IsTrueToLocals w symbols p v) where
  value-folded : (s at : ℕ) (r : Reloc) → value_of_normal w symbols p v s at (folded w s at r) ≡ residue_at w symbols p v s at r
  unfolding folded residue_at
  value-folded s at r = by (cancels r.form.base r.target r.form.less) (takes_section s r.form.less) refl refl
    where
      by : (a b : Bool) → cancels r.form.base r.target r.form.less ≡ a → takes_section s r.form.less ≡ b
          → value_of_normal w symbols p v s at (cond a (normal.Constant r.addend) (cond b (normal.Kept (by_place w at r)) (normal.Kept r)))
          ≡ residue_at w symbols p v s at r
      by true b e f = value-cancels w symbols p v is_true s at r.form.base r.target r.form.less r.addend e
      by false true e f = value-placed w symbols p v is_true s at (base_of p (target_worth symbols p v r.target) r.form.base) (target_worth symbols p v r.target) r.form.less r.addend f
      by false false e f = refl

  -- the normal form has the value
  pub value-normal : (s at : ℕ) (r : Reloc) → value_of_normal w symbols p v s at (normal_of w symbols s at r) ≡ residue_at w symbols p v s at r
  value-normal s at r = value-folded s at (by_section w symbols r) ∙ value-by_section w symbols p v is_true s at r

-- so has what is kept
pub kept_value : (w : Word) (symbols : List Symbol) (p : Placement) (v : Valuation) → IsTrueToLocals w symbols p v → (s at : ℕ) (r q : Reloc)
    → normal_of w symbols s at r ≡ normal.Kept q → residue_at w symbols p v s at q ≡ residue_at w symbols p v s at r
kept_value w symbols p v is_true s at r q is = sym (ap (value_of_normal w symbols p v s at) is) ∙ value-normal w symbols p v is_true s at r

-- and a constant
pub constant_value : (w : Word) (symbols : List Symbol) (p : Placement) (v : Valuation) → IsTrueToLocals w symbols p v → (s at : ℕ) (r : Reloc) (c : ℤ)
    → normal_of w symbols s at r ≡ normal.Constant c → residue_of w c ≡ residue_at w symbols p v s at r
constant_value w symbols p v is_true s at r c is = sym (ap (value_of_normal w symbols p v s at) is) ∙ value-normal w symbols p v is_true s at r

-- the law
pub keeps_value : (w : Word) (symbols : List Symbol) (s at : ℕ) (r : Reloc) → KeepsValue w symbols s at r (normal_of w symbols s at r)
keeps_value w symbols s at r = by (normal_of w symbols s at r) (λ p v is_true. value-normal w symbols p v is_true s at r)
  where
    by : (n : Normal) → ((p : Placement) (v : Valuation) → IsTrueToLocals w symbols p v → value_of_normal w symbols p v s at n ≡ residue_at w symbols p v s at r)
        → KeepsValue w symbols s at r n
    by (normal.Constant c) same = same
    by (normal.Kept q) same = same
