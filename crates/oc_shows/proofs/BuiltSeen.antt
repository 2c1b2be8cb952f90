-- What is given of the fields of a file is what the object shows of them.
use Rattle.std.proofs.Common.{◌≡◌, ℕ, ◌+◌, ◌≤◌, ◌⊎◌, inl, inr, Bool, true, false, cond, List, map, Option, Some, None, refl, sym, ◌∙◌, ap, subst, arith}
use Rattle.std.specs.{Prelude.{not, if◌then◌else◌}, Option.{option_map, option_and_then, option_map_or}}
use Rattle.std.proofs.lemmas.Option.{none-some, same_Some}
use Rattle.oc_base.specs.{declared.format.Format.{Format}, declared.format.Word.{Word}, Formats.{word_for}}
use Rattle.oc_linking.specs.{declared.terms.Keep.{Keep}, declared.terms.Patch.{Patch}, Fits.{bytes_of, fits}, Images.{Patches, overflows}, Linking.{patch_of}}
use Rattle.oc_linking.specs.{Placing.{Placement}, Values.{Valuation}, Rules.{Field, Sectional}, Shows.{Apart, blank, lives, unders, under_of}}
use Rattle.oc_linking.specs.Parts as parts
use Rattle.oc_algebra.specs.Folds.{low_of}
use Rattle.oc_neutral.specs.{declared.symbol.Symbol.{Symbol}, declared.reloc.Reloc.{Reloc}, declared.reloc.Target.{Target}, Objects.{Object, reloc_at}}
use Rattle.oc_neutral.specs.{Normal.{Place, place_among}, Faces.{named_of, shown_symbol, field_of}, Worth.{IsTrueToLocals, residue_at}}
use Rattle.oc_neutral.specs.Dialects.{Dialect, Look, kept_fields, is_difference, is_folded, look_of, looks_in, patches_in}
use Rattle.oc_shows.specs.{Shows.{looks_of, patches_of, IsTrueToFixed}, Built.{RelocMap, IsFree, IsGiven, IsField, named_in}}
use Rattle.oc_neutral.proofs.{Added.{kept_of}, NormalLemmas.{section_for}}
use Rattle.oc_shows.proofs.Showing.{IsBase, IsShowing, left_in, normal_in}
use Rattle.oc_shows.proofs.Looking.{folds, normal_look, patch_at, look_among, look-normal, patch-normal, number-normal, fits-normal, cancels-named, true_to_locals}

-- what the target of a normal form names
pub named-left : (symbols : List Symbol) (t : Target) → named_of symbols (section_for (place_among symbols t) t) ≡ named_in symbols t
named-left symbols t = by (place_among symbols t)
  where
    by : (o : Option Place) → named_of symbols (section_for o t) ≡ option_map_or (λ (place : Place). Sectional place.0) o (named_of symbols t)
    by o = grind arith

-- a relocation that is a field is folded where the field is a difference, and has its look
module _ (f : Dialect) (b : List ℕ) (keep : Keep) (n : Object) (s at : ℕ) (r : Reloc) (x : Field) (is : IsField f b keep n s at r x) where
  named : named_of n.symbols (section_for (place_among n.symbols r.target) r.target) ≡ x.target
  named = named-left n.symbols r.target ∙ is.target

  pub folds-field : folds n.symbols r ≡ is_difference x
  folds-field =
      sym (cancels-named n.symbols r.form.base (section_for (place_among n.symbols r.target) r.target) r.form.less)
      ∙ rw (named, is.base, is.less) refl

  pub look-field : normal_look n.symbols s r ≡ look_of s x
  look-field = rw (named, is.base, is.less, is.width, is.check, is.hint) refl

-- the word of a draft that has a file's sections and symbols, and what is true to the fixed symbols of the file
module _ (f : Dialect) (b : List ℕ) (keep : Keep) (base : Object) (start : IsBase f b keep base) where
  pub word-started : f.rules.word ≡ word_for base.format
  word-started = start.word ∙ ap word_for (sym start.format)

  pub locals-fixed : (p : Placement) (v : Valuation) → IsTrueToFixed f.rules.word (f.rules.symbols b keep) p v → IsTrueToLocals (word_for base.format) base.symbols p v
  locals-fixed p v fixed = true_to_locals (word_for base.format) base.symbols p v
      (subst (λ (w : Word). IsTrueToFixed w (map (shown_symbol base.symbols) base.symbols) p v) word-started
      (subst (λ (ys : List parts.Symbol). IsTrueToFixed f.rules.word ys p v) (sym start.symbols) fixed))

-- the draft that has the file's sections and symbols, and one that holds what is given
module _ (f : Dialect) (b : List ℕ) (keep : Keep) (base n : Object) (given : RelocMap) (start : IsBase f b keep base) (has : IsShowing base n given)
    (all : (s at : ℕ) → IsFree f b keep given s at ⊎ IsGiven f b keep base given s at) where
  abbrev word : Word
  word = word_for base.format

  abbrev symbols : List Symbol
  symbols = base.symbols

  word_is : f.rules.word ≡ word_for base.format
  word_is = word-started f b keep base start

  locals : (p : Placement) (v : Valuation) → IsTrueToFixed f.rules.word (f.rules.symbols b keep) p v → IsTrueToLocals word symbols p v
  locals = locals-fixed f b keep base start

  -- nothing stands where nothing is given
  reloc-free : (s at : ℕ) → given s at ≡ None → reloc_at n s at ≡ None
  reloc-free s at none = has.relocs s at ∙ ap (option_and_then (λ r. kept_of (normal_in base s at r))) none

  reloc-given : (s at : ℕ) (r : Reloc) → given s at ≡ Some r → reloc_at n s at ≡ kept_of (normal_in base s at r)
  reloc-given s at r there = has.relocs s at ∙ ap (option_and_then (λ q. kept_of (normal_in base s at q))) there

  folded-free : (s at : ℕ) → kept_fields f b keep s at ≡ None → is_folded f b keep s at ≡ false
  unfolding is_folded
  folded-free s at none = rw none refl

  folded-given : (s at : ℕ) (x : Field) → kept_fields f b keep s at ≡ Some x → is_folded f b keep s at ≡ is_difference x
  unfolding is_folded
  folded-given s at x here = rw here refl

  pub looks-shown : (s at : ℕ) → looks_of n s at ≡ looks_in f b keep s at
  unfolding looks_in
  looks-shown s at = elim (all s at) [
    | inl free ↦ rw (folded-free s at free.field, free.field, reloc-free s at free.none) refl
    | inr is ↦
        ap (λ (ys : List Symbol). option_map (look_among ys) (reloc_at n s at)) has.symbols
        ∙ ap (option_map (look_among symbols)) (reloc-given s at is.reloc is.there)
        ∙ look-normal word symbols s at is.reloc
        ∙ ap (λ c. cond c None (Some (normal_look symbols s is.reloc))) (folds-field f b keep base s at is.reloc is.field is.is)
        ∙ ap (λ (l : Look). cond (is_difference is.field) None (Some l)) (look-field f b keep base s at is.reloc is.field is.is)
        ∙ sym (rw (folded-given s at is.field is.here, is.here) refl)
  ]

  module _ (p : Placement) (v : Valuation) (fixed : IsTrueToFixed f.rules.word (f.rules.symbols b keep) p v) where
    abbrev patched : Patches
    patched = patches_in f b keep p v

    abbrev under : Patches
    under = unders (is_folded f b keep) patched

    patched-free : (s at : ℕ) → kept_fields f b keep s at ≡ None → patched s at ≡ None
    unfolding patches_in
    patched-free s at none = rw none refl

    patched-given : (s at : ℕ) (x : Field) → kept_fields f b keep s at ≡ Some x → patched s at ≡ Some (patch_of p v x)
    unfolding patches_in
    patched-given s at x here = rw here refl

    -- the patch of a relocation is that of its field
    residue-given : (s at : ℕ) (is : IsGiven f b keep base given s at) → residue_at word symbols p v s at is.reloc ≡ is.field.residue p v
    residue-given s at is = subst (λ (w : Word). residue_at w symbols p v s at is.reloc ≡ is.field.residue p v) word_is (is.is.residue p v fixed)

    patch-given : (s at : ℕ) (is : IsGiven f b keep base given s at) → patch_at word symbols p v s at is.reloc ≡ patch_of p v is.field
    patch-given s at is = rw (residue-given s at is, is.is.width, is.is.check) refl

    pub patches-shown : (s at : ℕ) → patches_of n p v s at ≡ lives (is_folded f b keep) patched s at
    patches-shown s at = elim (all s at) [
      | inl free ↦ rw (folded-free s at free.field, patched-free s at free.field, reloc-free s at free.none) refl
      | inr is ↦
          of (reloc_at n s at)
          ∙ ap (λ (g : Format). option_map (patch_at (word_for g) n.symbols p v s at) (reloc_at n s at)) has.format
          ∙ ap (λ (ys : List Symbol). option_map (patch_at word ys p v s at) (reloc_at n s at)) has.symbols
          ∙ ap (option_map (patch_at word symbols p v s at)) (reloc-given s at is.reloc is.there)
          ∙ patch-normal word symbols s at is.reloc p v (locals p v fixed)
          ∙ ap (λ c. cond c None (Some (patch_at word symbols p v s at is.reloc))) (folds-field f b keep base s at is.reloc is.field is.is)
          ∙ ap (λ (q : Patch). cond (is_difference is.field) None (Some q)) (patch-given s at is)
          ∙ sym (rw (folded-given s at is.field is.here, patched-given s at is.field is.here) refl)
    ]
      where
        of : (o : Option Reloc) → option_map (patch_of p v) (option_map (field_of n s at) o) ≡ option_map (patch_at (word_for n.format) n.symbols p v s at) o
        of o = grind arith

    -- a patch is of a field that is given
    pub record IsOf (s at : ℕ) (q : Patch) : Type 0 where
      pub from : IsGiven f b keep base given s at
      pub patch : q ≡ patch_of p v from.field

    pub patch-from : (s at : ℕ) (q : Patch) → patched s at ≡ Some q → IsOf s at q
    patch-from s at q e = elim (all s at) [
      | inl free ↦ absurd (none-some q (sym (patched-free s at free.field) ∙ e))
      | inr is ↦ record { from = is; patch = same_Some q (patch_of p v is.field) (sym e ∙ patched-given s at is.field is.here) }
    ]

    pub patches-apart : (s : ℕ) → Apart (patched s)
    patches-apart s i j q r here there low =
        let first = patch-from s i q here in
        let second = patch-from s j r there in
        let width : q.width ≡ first.from.reloc.form.width = ap (λ (z : Patch). z.width) first.patch ∙ sym first.from.is.width in
        subst (λ w. i + bytes_of w ≤ j) (sym width) (has.apart s i j first.from.reloc second.from.reloc first.from.there second.from.there low)

    -- a constant fits
    pub patches-fit : (s at : ℕ) (q : Patch) → is_folded f b keep s at ≡ true → patched s at ≡ Some q → overflows f.rules.word q ≡ false
    patches-fit s at q folded e =
        let of = patch-from s at q e in
        let is = of.from in
        let folds_is : folds symbols is.reloc ≡ true = folds-field f b keep base s at is.reloc is.field is.is ∙ sym (folded-given s at is.field is.here) ∙ folded in
        let fit : fits word is.reloc.form.width is.reloc.form.check (residue_at word symbols p v s at is.reloc) ≡ true
        = fits-normal word symbols s at is.reloc p v (locals p v fixed) (has.fitting s at is.reloc is.there) folds_is in
        ap (overflows f.rules.word) (of.patch ∙ sym (patch-given s at is)) ∙ ap (λ (w : Word). not (fits w is.reloc.form.width is.reloc.form.check (residue_at word symbols p v s at is.reloc))) word_is ∙ ap not fit

    -- what stands in the bytes of a field
    pub record IsUnder (s at : ℕ) (q : Patch) : Type 0 where
      pub from : IsGiven f b keep base given s at
      pub width : q.width ≡ from.reloc.form.width
      pub number : left_in base s at from.reloc ≡ (if is_difference from.field then low_of q.width q.residue else q.residue)

    pub under-from : (s at : ℕ) (q : Patch) → under s at ≡ Some q → IsUnder s at q
    under-from s at q e = elim (all s at) [
      | inl free ↦ absurd (none-some q (sym (ap (under_of (is_folded f b keep s at)) (patched-free s at free.field)) ∙ e))
      | inr is ↦ by is (is_difference is.field) refl (sym (ap (λ t. under_of t (patched s at)) (folded-given s at is.field is.here) ∙ ap (under_of (is_difference is.field)) (patched-given s at is.field is.here)) ∙ e)
    ]
      where
        by : (is : IsGiven f b keep base given s at) (c : Bool) → is_difference is.field ≡ c → Some (cond (is_difference is.field) (patch_of p v is.field) (blank (patch_of p v is.field))) ≡ Some q → IsUnder s at q
        by is true h e =
            let same : patch_of p v is.field ≡ q = same_Some (patch_of p v is.field) q (sym (ap (λ t. Some (cond t (patch_of p v is.field) (blank (patch_of p v is.field)))) h) ∙ e) in
            record {
              from = is;
              width = ap (λ (z : Patch). z.width) (sym same) ∙ sym is.is.width;
              number =
                  number-normal word symbols s at is.reloc p v (locals p v fixed)
                  ∙ ap (λ c. cond c (low_of is.reloc.form.width (residue_at word symbols p v s at is.reloc)) 0) (folds-field f b keep base s at is.reloc is.field is.is ∙ h)
                  ∙ ap (λ (z : Patch). low_of z.width z.residue) (patch-given s at is ∙ same)
                  ∙ sym (ap (λ c. cond c (low_of q.width q.residue) q.residue) h);
            }
        by is false h e =
            let same : blank (patch_of p v is.field) ≡ q = same_Some (blank (patch_of p v is.field)) q (sym (ap (λ t. Some (cond t (patch_of p v is.field) (blank (patch_of p v is.field)))) h) ∙ e) in
            record {
              from = is;
              width = ap (λ (z : Patch). z.width) (sym same) ∙ sym is.is.width;
              number =
                  number-normal word symbols s at is.reloc p v (locals p v fixed)
                  ∙ ap (λ c. cond c (low_of is.reloc.form.width (residue_at word symbols p v s at is.reloc)) 0) (folds-field f b keep base s at is.reloc is.field is.is ∙ h)
                  ∙ ap (λ (z : Patch). z.residue) same
                  ∙ sym (ap (λ c. cond c (low_of q.width q.residue) q.residue) h);
            }

    -- a field that is given leaves a patch under it
    pub under-given : (s at : ℕ) (r : Reloc) → given s at ≡ Some r → (q : Patch) × (under s at ≡ Some q) × (q.width ≡ r.form.width)
    under-given s at r there = elim (all s at) [
      | inl free ↦ absurd (none-some r (sym free.none ∙ there))
      | inr is ↦
          let same : is.reloc ≡ r = same_Some is.reloc r (sym is.there ∙ there) in
          let width : is.field.width ≡ r.form.width = sym is.is.width ∙ ap (λ (z : Reloc). z.form.width) same in
          by is (is_folded f b keep s at) refl width
    ]
      where
        by : (is : IsGiven f b keep base given s at) (c : Bool) → is_folded f b keep s at ≡ c → is.field.width ≡ r.form.width → (q : Patch) × (under s at ≡ Some q) × (q.width ≡ r.form.width)
        by is true h width = (patch_of p v is.field, ap (λ t. under_of t (patched s at)) h ∙ ap (under_of true) (patched-given s at is.field is.here), width)
        by is false h width = (blank (patch_of p v is.field), ap (λ t. under_of t (patched s at)) h ∙ ap (under_of false) (patched-given s at is.field is.here), width)
