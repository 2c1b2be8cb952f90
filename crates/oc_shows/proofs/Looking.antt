-- What linking sees of a relocation that was brought to its normal form: what a reader's loop compares with the file.
use Rattle.std.proofs.Common.{◌≡◌, ℕ, refl, sym, ◌∙◌, ap, Bool, true, false, ◌&&◌, cond, eqb, true≢false, List, map, option_map, slice_get, Option, Some, None, arith}
use Rattle.std.specs.Prelude.{nat_eq, if◌then◌else◌, ℤ}
use Rattle.std.proofs.lemmas.{Bool.{eqb-true}, Option.{slice_get-map}}
use Rattle.oc_base.specs.{declared.format.Word.{Word}, Formats.{word_for}}
use Rattle.oc_linking.specs.{declared.terms.Patch.{Patch}, declared.terms.Binding.{Binding}, Placing.{Placement}, Values.{Valuation, fixed_site}, Fits.{fits}}
use Rattle.oc_linking.specs.{Linking.{patch_of}, declared.terms.Base.{Base}, declared.terms.Less.{Less}}
use Rattle.oc_linking.specs.Parts as parts
use Rattle.oc_linking.specs.declared.terms.Base.TheVariants as base
use Rattle.oc_algebra.specs.Folds.{low_of}
use Rattle.oc_neutral.specs.{declared.symbol.Symbol.{Symbol}, declared.reloc.Target.{Target}, declared.reloc.Reloc.{Reloc}, declared.normal.Normal.{Normal}}
use Rattle.oc_neutral.specs.{Objects.{Object, reloc_at}, Building.{Draft}, Normal.{place_among, cancels, normal_of}, Worth.{residue_at, IsTrueToLocals}}
use Rattle.oc_neutral.specs.{Faces.{shown_binding, shown_symbol, named_of, field_of}, Dialects.{Look, less_in, target_by}}
use Rattle.oc_neutral.specs.declared.reloc.Target.TheVariants as target
use Rattle.oc_neutral.specs.declared.normal.Normal.TheVariants as normal
use Rattle.oc_shows.specs.Shows.{patches_of, IsTrueToFixed}
use Rattle.oc_neutral.proofs.{NormalLemmas.{IsLeft, section_for, kept_left, is_constant, constant_is}, Added.{IsAdded, IsFitting, kept_of, number_left}}
use Rattle.oc_shows.proofs.NormalValues.{kept_value, constant_value}

-- a relocation is folded: its normal form is a constant
abbrev pub folds : List Symbol → Reloc → Bool
folds symbols r = cancels r.form.base (section_for (place_among symbols r.target) r.target) r.form.less

-- so says the name of the target too
pub cancels-symbol : (b : Base) (k : ℕ) (l : Less) → cancels b (target.Symbol k) l ≡ false
cancels-symbol b k l = grind arith

pub cancels-named : (symbols : List Symbol) (b : Base) (t : Target) (l : Less) → cancels b (target_by (named_of symbols t)) l ≡ cancels b t l
cancels-named symbols b t l = grind arith

-- the look that a relocation of section s has in its normal form
abbrev pub normal_look : List Symbol → ℕ → Reloc → Look
normal_look symbols s r = record {
  base = r.form.base;
  less = less_in s r.form.less;
  width = r.form.width;
  check = r.form.check;
  target = named_of symbols (section_for (place_among symbols r.target) r.target);
  hint = r.hint;
}

-- the patch of a relocation at an offset of section s
abbrev pub patch_at : Word → List Symbol → Placement → Valuation → ℕ → ℕ → Reloc → Patch
patch_at w symbols p v s at r = record { width = r.form.width; check = r.form.check; residue = residue_at w symbols p v s at r }

-- a valuation that is true to the fixed symbols of an object is true to its Locals
local_same : (symbols : List Symbol) (b : Binding) → parts.is_local (shown_binding symbols b) ≡ parts.is_local b
local_same symbols b = grind arith

pub site_same : (w : Word) (p : Placement) (symbols : List Symbol) (b : Binding) → fixed_site w p (shown_binding symbols b) ≡ fixed_site w p b
site_same w p symbols b = grind arith

pub true_to_locals : (w : Word) (symbols : List Symbol) (p : Placement) (v : Valuation) → IsTrueToFixed w (map (shown_symbol symbols) symbols) p v → IsTrueToLocals w symbols p v
true_to_locals w symbols p v is = record {
  sites = λ k s x here local own. is.sites k (shown_symbol symbols s) x (shown k s here)
      (rw (local_same symbols s.binding, local) refl) (site_same w p symbols s.binding ∙ own);
  slots = λ k s here local. is.slots k (shown_symbol symbols s) (shown k s here) (local_same symbols s.binding ∙ local);
}
  where
    shown : (k : ℕ) (s : Symbol) → slice_get symbols k ≡ Some s → slice_get (map (shown_symbol symbols) symbols) k ≡ Some (shown_symbol symbols s)
    shown k s here = slice_get-map (shown_symbol symbols) symbols k ∙ ap (option_map (shown_symbol symbols)) here

-- the look of a relocation among these symbols
abbrev pub look_among : List Symbol → Reloc → Look
look_among symbols q = record { base = q.form.base; less = q.form.less; width = q.form.width; check = q.form.check; target = named_of symbols q.target; hint = q.hint }

-- what is kept looks so
look-left : (w : Word) (symbols : List Symbol) (s : ℕ) (r q : Reloc) → IsLeft w symbols s r q → look_among symbols q ≡ normal_look symbols s r
look-left w symbols s r q left = rw (left.base, left.less, left.width, left.check, left.target, left.hint) refl

-- a normal form that is a constant, and one that is none
module _ (w : Word) (symbols : List Symbol) (s at : ℕ) (r : Reloc) where
  constant-folds : (c : ℤ) → normal_of w symbols s at r ≡ normal.Constant c → folds symbols r ≡ true
  constant-folds c is = sym (constant_is w symbols s at r) ∙ ap is_constant is

  kept-folds : (q : Reloc) → normal_of w symbols s at r ≡ normal.Kept q → folds symbols r ≡ false
  kept-folds q is = sym (constant_is w symbols s at r) ∙ ap is_constant is

  -- the look of what is kept
  pub look-normal : option_map (look_among symbols) (kept_of (normal_of w symbols s at r)) ≡ (if folds symbols r then None else Some (normal_look symbols s r))
  look-normal = by (normal_of w symbols s at r) refl
    where
      by : (n : Normal) → normal_of w symbols s at r ≡ n → option_map (look_among symbols) (kept_of n) ≡ (if folds symbols r then None else Some (normal_look symbols s r))
      by (normal.Constant c) is = rw (constant-folds c is) refl
      by (normal.Kept q) is = rw (kept-folds q is) (ap Some (look-left w symbols s r q (kept_left w symbols s at r q is)))

  module _ (p : Placement) (v : Valuation) (is_true : IsTrueToLocals w symbols p v) where
    -- its patch
    pub patch-normal : option_map (patch_at w symbols p v s at) (kept_of (normal_of w symbols s at r)) ≡ (if folds symbols r then None else Some (patch_at w symbols p v s at r))
    patch-normal = by (normal_of w symbols s at r) refl
      where
        by : (n : Normal) → normal_of w symbols s at r ≡ n → option_map (patch_at w symbols p v s at) (kept_of n) ≡ (if folds symbols r then None else Some (patch_at w symbols p v s at r))
        by (normal.Constant c) is = rw (constant-folds c is) refl
        by (normal.Kept q) is =
            let left : IsLeft w symbols s r q = kept_left w symbols s at r q is in
            rw (kept_value w symbols p v is_true s at r q is, kept-folds q is, left.width, left.check) refl

    -- and the number in the bytes
    pub number-normal : number_left w r.form.width (normal_of w symbols s at r) ≡ (if folds symbols r then low_of r.form.width (residue_at w symbols p v s at r) else 0)
    number-normal = by (normal_of w symbols s at r) refl
      where
        by : (n : Normal) → normal_of w symbols s at r ≡ n → number_left w r.form.width n ≡ (if folds symbols r then low_of r.form.width (residue_at w symbols p v s at r) else 0)
        by (normal.Constant c) is = rw (constant-folds c is) (ap (low_of r.form.width) (constant_value w symbols p v is_true s at r c is))
        by (normal.Kept q) is = rw (kept-folds q is) refl

    -- a constant fits
    pub fits-normal : IsFitting w r (normal_of w symbols s at r) → folds symbols r ≡ true → fits w r.form.width r.form.check (residue_at w symbols p v s at r) ≡ true
    fits-normal = by (normal_of w symbols s at r) refl
      where
        by : (n : Normal) → normal_of w symbols s at r ≡ n → IsFitting w r n → folds symbols r ≡ true → fits w r.form.width r.form.check (residue_at w symbols p v s at r) ≡ true
        by (normal.Constant c) is fit f = sym (ap (fits w r.form.width r.form.check) (constant_value w symbols p v is_true s at r c is)) ∙ fit
        by (normal.Kept q) is fit f = absurd (true≢false (sym f ∙ kept-folds q is))

-- the object with a relocation more, field by field
module _ (d : Draft) (s at : ℕ) (r : Reloc) (e : Draft) (is : IsAdded d s at r (normal_of (word_for d.object.format) d.object.symbols s at r) e) where
  module _ (p : Placement) (v : Valuation) (is_true : IsTrueToLocals (word_for d.object.format) d.object.symbols p v) where
    -- the fields with their residues
    pub patches-added : (t x : ℕ) → patches_of e.object p v t x
        ≡ (if nat_eq t s && nat_eq at x then (if folds d.object.symbols r then None else Some (patch_at (word_for d.object.format) d.object.symbols p v s at r)) else patches_of d.object p v t x)
    patches-added t x =
        patched e.object t x
        ∙ ap (λ f. option_map (patch_at (word_for f) e.object.symbols p v t x) (reloc_at e.object t x)) is.format
        ∙ ap (λ symbols. option_map (patch_at (word_for d.object.format) symbols p v t x) (reloc_at e.object t x)) is.symbols
        ∙ ap (option_map (patch_at (word_for d.object.format) d.object.symbols p v t x)) (is.relocs t x)
        ∙ by (eqb t s) (eqb at x) refl refl
      where
        patched : (n : Object) (t x : ℕ) → patches_of n p v t x ≡ option_map (patch_at (word_for n.format) n.symbols p v t x) (reloc_at n t x)
        patched n t x = of (reloc_at n t x)
          where
            of : (o : Option Reloc) → option_map (patch_of p v) (option_map (field_of n t x) o) ≡ option_map (patch_at (word_for n.format) n.symbols p v t x) o
            of o = grind arith

        stays : option_map (patch_at (word_for d.object.format) d.object.symbols p v t x) (reloc_at d.object t x) ≡ patches_of d.object p v t x
        stays = sym (patched d.object t x)

        by : (a b : Bool) → eqb t s ≡ a → eqb at x ≡ b
            → option_map (patch_at (word_for d.object.format) d.object.symbols p v t x) (cond (a && b) (kept_of (normal_of (word_for d.object.format) d.object.symbols s at r)) (reloc_at d.object t x))
            ≡ cond (a && b) (if folds d.object.symbols r then None else Some (patch_at (word_for d.object.format) d.object.symbols p v s at r)) (patches_of d.object p v t x)
        by false b f g = stays
        by true false f g = stays
        by true true f g = rw (eqb-true t s f, ← eqb-true at x g) (patch-normal (word_for d.object.format) d.object.symbols s at r p v is_true)
