-- What stands in the bytes of an object in a target are the constants of the relocations that the target stores as such.
use Rattle.std.proofs.Common.{◌≡◌, ℕ, ◌+◌, ◌≤◌, Bool, true, false, cond, List, Option, Some, None, refl, sym, ◌∙◌, ap, subst, arith}
use mathlib.Core.Path.{fun_ext}
use Rattle.std.specs.{Prelude.{ℤ, ◌&&◌, not, slice_get}, Option.{option_map, option_map_or, option_and_then}}
use Rattle.std.proofs.lemmas.Bool.{eqb-true, true≢false, and_parts}
use Rattle.oc_base.specs.{declared.format.Format.{Format}, declared.format.Word.{Word}, declared.format.Word.TheVariants.{W32, W64}, Formats.{word_for}}
use Rattle.oc_linking.specs.{declared.terms.Base.{Base}, declared.terms.Less.{Less}, declared.terms.Patch.{Patch}, Numbers.{minus}, Placing.{Placement, Site}}
use Rattle.oc_linking.specs.{Values.{Valuation, Valued}, Fits.{bytes_of}, Images.{overlay}, Linking.{patch_of}, Shows.{Apart, under_of, live_of, unders}}
use Rattle.oc_linking.specs.declared.terms.Base.TheVariants as base
use Rattle.oc_linking.specs.declared.terms.Less.TheVariants as less
use Rattle.oc_linking.proofs.Folding.{overlay_folded}
use Rattle.oc_algebra.specs.Residues.{residue_of}
use Rattle.oc_algebra.proofs.Laws.{residue_less}
use Rattle.oc_neutral.specs.{declared.section.Section.{Section}, declared.symbol.Symbol.{Symbol}, declared.reloc.Target.{Target}, declared.reloc.Reloc.{Reloc}}
use Rattle.oc_neutral.specs.{Objects.{Object, reloc_at}, Invariants.{IsObject}, Worth.{base_of, less_of, target_worth, residue_at}}
use Rattle.oc_neutral.specs.{Faces.{contents_of, field_of}, Families.{family_of}}
use Rattle.oc_neutral.specs.Mach.SelfReferences.{is_address, is_place, is_eight, is_long_distance, is_section, is_self_reference}
use Rattle.oc_neutral.specs.{Stored.{is_stored, stored_constant}, Constants.{constant_patch}}
use Rattle.oc_neutral.specs.declared.reloc.Target.TheVariants as aim
use Rattle.oc_shows.specs.Shows.{patches_of}
use Rattle.oc_target.specs.{Fitted.{is_stored_at}, Fitting.{constants}}
use Rattle.oc_shows.proofs.Blank.{section_blank}
use Rattle.oc_target.proofs.FitLinks.{object_apart}

-- a number that is added to and_parts sides of a difference counts for nothing
both_moved : (w : Word) (s x at : ℕ) → minus w (s + x) (s + at) ≡ minus w x at
both_moved W32 s x at = omega arith
both_moved W64 s x at = omega arith

-- the value of an address less a place in its section
distance : (w : Word) (p : Placement) (s at : ℕ) (t : Valued) (a : ℤ) (b : Base) (l : Less) → is_address b ≡ true → is_place l ≡ true → t.site ≡ p.site s
    → minus w (base_of p t b + residue_of w a) (less_of p s at t l) ≡ residue_of w (stored_constant at a)
distance w p s at t a base.Address less.Place is it same =
    ap (λ (x : Site). minus w (x.address + residue_of w a) ((p.site s).address + at)) same ∙ both_moved w (p.site s).address (residue_of w a) at ∙ sym (residue_less w a at)
distance w p s at t a b l is it same = cc

-- a target that is a section lies where it is placed
section_site : (symbols : List Symbol) (p : Placement) (v : Valuation) (s : ℕ) (t : Target) → is_section s t ≡ true → (target_worth symbols p v t).site ≡ p.site s
section_site symbols p v s (aim.Section k) is = ap p.site (eqb-true k s is)
section_site symbols p v s (aim.Symbol k) is = absurd (true≢false (sym is))

-- the value of a relocation that is stored is its constant
stored_residue : (target : Format) (n : Object) (p : Placement) (v : Valuation) (s at : ℕ) (r : Reloc) → is_stored target s r ≡ true
    → residue_at (word_for n.format) n.symbols p v s at r ≡ residue_of (word_for n.format) (stored_constant at r.addend)
unfolding residue_at
stored_residue target n p v s at r stored =
    let m = and_parts (family_of target).stores_own_start (is_self_reference s r) stored in
    let long = and_parts (is_long_distance r.form) (is_section s r.target) m.1 in
    let form = and_parts (is_address r.form.base && is_place r.form.less) (is_eight r.form.width) long.0 in
    let parts = and_parts (is_address r.form.base) (is_place r.form.less) form.0 in
    distance (word_for n.format) p s at (target_worth n.symbols p v r.target) r.addend r.form.base r.form.less parts.0 parts.1 (section_site n.symbols p v s r.target long.1)

-- what stands under all fields, under those that are not stored, and in those that are
under_both : (stored : Bool) (o : Option Patch) → under_of (not stored) (under_of stored o) ≡ under_of false o
under_both stored o = grind arith

-- those that are stored
live_stored : (stored : Bool) (o : Option Patch) → live_of (not stored) (under_of stored o) ≡ cond stored o None
live_stored stored o = grind arith

-- what stands under fields is as wide as they are
under_wide : (stored : Bool) (o : Option Patch) (q : Patch) → under_of stored o ≡ Some q → (p : Patch) × (o ≡ Some p) × (p.width ≡ q.width)
under_wide stored o q here = grind arith

module _ (target : Format) (n : Object) (is : IsObject n) (p : Placement) (v : Valuation) (s : ℕ) where
  -- what stands under the fields of section s
  abbrev under : ℕ → Option Patch
  under = unders (is_stored_at target n) (patches_of n p v) s

  -- no two of them meet
  under_apart : Apart under
  under_apart i j q r here there l =
      let a = under_wide (is_stored_at target n s i) (patches_of n p v s i) q here in
      let b = under_wide (is_stored_at target n s j) (patches_of n p v s j) r there in
      subst (λ w. i + bytes_of w ≤ j) a.2 (object_apart n is p v s i j a.0 b.0 a.1 b.1 l)

  -- the constants are those that the target stores
  constant_at : (at : ℕ) → cond (is_stored_at target n s at) (patches_of n p v s at) None ≡ constants target n s at
  unfolding is_stored_at
  constant_at at = by (reloc_at n s at)
    where
      by : (o : Option Reloc) → cond (option_map_or (is_stored target s) o false) (option_map (patch_of p v) (option_map (field_of n s at) o)) None ≡ option_and_then (constant_patch target (word_for n.format) s at) o
      by None = refl
      by (Some r) = elim (is_stored target s r) as (λ b. is_stored target s r ≡ b → cond b (Some (patch_of p v (field_of n s at r))) None
          ≡ cond b (Some (record { width = r.form.width; check = r.form.check; residue = residue_of (word_for n.format) (stored_constant at r.addend) })) None) [
            | true ↦ λ stored. ap (λ x. Some (record { width = r.form.width; check = r.form.check; residue = x })) (stored_residue target n p v s at r stored)
            | false ↦ λ stays. refl
          ] refl

  -- filling in and_parts is filling in the constants
  pub constants_fill : (x : Section) → slice_get n.sections s ≡ Some x → overlay under 0 (contents_of x) ≡ overlay (constants target n s) 0 (contents_of x)
  constants_fill x here =
      sym (overlay_folded under (λ at. not (is_stored_at target n s at)) under_apart 0 (contents_of x))
      ∙ ap (λ o. overlay (λ at. live_of (not (is_stored_at target n s at)) (under at)) 0 (overlay o 0 (contents_of x)))
      (fun_ext (λ at. under_both (is_stored_at target n s at) (patches_of n p v s at)))
      ∙ ap (overlay (λ at. live_of (not (is_stored_at target n s at)) (under at)) 0) (section_blank n is p v s x here)
      ∙ ap (λ o. overlay o 0 (contents_of x)) (fun_ext (λ at. live_stored (is_stored_at target n s at) (patches_of n p v s at) ∙ constant_at at))
