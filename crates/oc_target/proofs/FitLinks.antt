-- Linking an object in a target is linking the object.
use Rattle.std.proofs.Common.{◌≡◌, ℕ, ◌+◌, ◌^◌, ◌<◌, ◌≤◌, Bool, true, false, List, map, Some, refl, sym, ◌∙◌, ap, subst, arith}
use mathlib.Core.Path.{fun_ext}
use Rattle.std.specs.{Prelude.{not, ◌&&◌}, Option.{option_map, option_map_or}}
use Rattle.std.proofs.lemmas.Bool.{true≢false, and_parts}
use Rattle.oc_base.specs.{declared.format.Format.{Format}, declared.format.Format.TheVariants.{Mac64}, declared.format.Word.{Word}}
use Rattle.oc_base.specs.{declared.format.Word.TheVariants.{W32, W64}, Formats.{word_for}}
use Rattle.oc_linking.specs.{declared.terms.Width.{Width}, declared.terms.Width.TheVariants.{Eight}, declared.terms.Check.{Check}, declared.terms.Patch.{Patch}}
use Rattle.oc_linking.specs.{Fits.{bytes_of, fits}, Placing.{Placement, Outside}, Values.{Valuation, values}, Images.{Patches, overlays, emptied, overflows}}
use Rattle.oc_linking.specs.{Linking.{patch_of, link_of, exports}, Shows.{Apart, lives, unders}}
use Rattle.oc_linking.specs.Shows as linking
use Rattle.oc_linking.proofs.{Overlay.{emptied-overlays}, Alike.{link_of_folded}}
use Rattle.oc_chains.specs.Lists.{list_of}
use Rattle.oc_neutral.specs.{declared.reloc.Reloc.{Reloc}, Objects.{Object, reloc_at}, Invariants.{IsObject}, Worth.{residue_at}}
use Rattle.oc_neutral.specs.{Faces.{contents_of, field_of, linked_object, shown_symbol, shown_symbols}, Families.{family_of}}
use Rattle.oc_neutral.specs.{Mach.SelfReferences.{is_address, is_place, is_eight, is_long_distance, is_section, is_self_reference}, Stored.{is_stored}}
use Rattle.oc_shows.specs.Shows.{patches_of}
use Rattle.oc_target.specs.Fitted.{IsFit, is_stored_at}
use Rattle.oc_target.proofs.Refit.{refit, symbols-fitted, values-refit, exports-refit}
use Rattle.oc_neutral.proofs.{Standing.{ends_by, wide}, Mapped.{from_mapped}}

-- a residue of 64 bits fits eight bytes by every check
eight_bytes_fit : (check : Check) (r : ℕ) → r < 2 ^ 64 → fits W64 Eight check r ≡ true
eight_bytes_fit check r l = grind arith

-- a residue is one of its word
below : (w : Word) (n : Object) (p : Placement) (v : Valuation) (s at : ℕ) (r : Reloc) → w ≡ W64 → residue_at w n.symbols p v s at r < 2 ^ 64
unfolding residue_at
below W32 n p v s at r is = absurd (W32≢W64 is)
  where
    W32≢W64 : W32 ≡ W64 → ⊥
    W32≢W64 e = true≢false (ap (λ (w : Word). elim w [ W32 ↦ true | W64 ↦ false ]) e)
below W64 n p v s at r is = omega arith

-- a format that stores such constants has words of 64 bits
word_of_mac64 : (format : Format) → (family_of format).stores_own_start ≡ true → word_for format ≡ W64
word_of_mac64 Mac64 h = refl
word_of_mac64 format h = absurd (true≢false (sym h))

-- a width of eight bytes
width_of_eight : (width : Width) → is_eight width ≡ true → width ≡ Eight
width_of_eight width h = grind arith

-- so it fits eight bytes
fit_of : (w : Word) (width : Width) (check : Check) (x : ℕ) → w ≡ W64 → width ≡ Eight → (w ≡ W64 → x < 2 ^ 64) → not (fits w width check x) ≡ false
fit_of w width check x is eight small =
    ap (λ (u : Word). not (fits u width check x)) is ∙ ap (λ (k : Width). not (fits W64 k check x)) eight ∙ ap not (eight_bytes_fit check x (small is))

-- a relocation that is stored fits its field
stored_fit : (n : Object) (target : Format) → word_for target ≡ word_for n.format → (p : Placement) (v : Valuation) (s at : ℕ) (r : Reloc)
    → is_stored target s r ≡ true → overflows (word_for n.format) (patch_of p v (field_of n s at r)) ≡ false
stored_fit n target word p v s at r stored =
    let m = and_parts (family_of target).stores_own_start (is_self_reference s r) stored in
    let long = and_parts (is_long_distance r.form) (is_section s r.target) m.1 in
    let eight : r.form.width ≡ Eight = width_of_eight r.form.width (and_parts (is_address r.form.base && is_place r.form.less) (is_eight r.form.width) long.0).1 in
    let w : word_for n.format ≡ W64 = sym word ∙ word_of_mac64 target m.0 in
    fit_of (word_for n.format) r.form.width r.form.check (residue_at (word_for n.format) n.symbols p v s at r) w eight (below (word_for n.format) n p v s at r)

module _ (n : Object) (is : IsObject n) where
  -- a patch is that of a relocation
  patch_from : (p : Placement) (v : Valuation) (s at : ℕ) (q : Patch) → patches_of n p v s at ≡ Some q
      → (r : Reloc) × (reloc_at n s at ≡ Some r) × (patch_of p v (field_of n s at r) ≡ q)
  patch_from p v s at q here =
      let field = from_mapped (patch_of p v) (option_map (field_of n s at) (reloc_at n s at)) q here in
      let reloc = from_mapped (field_of n s at) (reloc_at n s at) field.0 field.1 in
      (reloc.0, reloc.1, ap (patch_of p v) reloc.2 ∙ field.2)

  -- no field begins within another
  pub object_apart : (p : Placement) (v : Valuation) (s : ℕ) → Apart (patches_of n p v s)
  object_apart p v s i j q r here there l =
      let a = patch_from p v s i q here in
      let b = patch_from p v s j r there in
      let ends : i + bytes_of a.0.form.width ≤ j = ends_by 0 (list_of n.relocs s) (is.built.fields.apart s) (wide n is s) i j a.0 b.0 a.1 b.1 l in
      subst (λ (k : Patch). i + bytes_of k.width ≤ j) a.2 ends

  module _ (target : Format) (word : word_for target ≡ word_for n.format) where
    -- what is stored fits
    stored_fits : (p : Placement) (v : Valuation) (s at : ℕ) (q : Patch) → is_stored_at target n s at ≡ true → patches_of n p v s at ≡ Some q
        → overflows (word_for n.format) q ≡ false
    unfolding is_stored_at
    stored_fits p v s at q stored here =
        let a = patch_from p v s at q here in
        let is_it : is_stored target s a.0 ≡ true = sym (ap (λ o. option_map_or (is_stored target s) o false) a.1) ∙ stored in
        subst (λ (k : Patch). overflows (word_for n.format) k ≡ false) a.2 (stored_fit n target word p v s at a.0 is_it)

module _ (target : Format) (n m : Object) (fit : IsFit target n m) where
  -- the symbols, as they are shown
  pub shown-fit : shown_symbols m ≡ map (refit target) (shown_symbols n)
  shown-fit = ap (λ xs. map (shown_symbol xs) xs) fit.symbols ∙ symbols-fitted target n.symbols n.symbols

module _ (target : Format) (n m : Object) (is : IsObject n) (word : word_for target ≡ word_for n.format) (fit : IsFit target n m) where
  -- the words are the same
  pub word-fit : word_for m.format ≡ word_for n.format
  word-fit = ap word_for fit.format ∙ word

  -- what they are worth
  values-fit : (p : Placement) (e : Outside) → values (word_for m.format) (shown_symbols m) (shown_symbols m) p e ≡ values (word_for n.format) (shown_symbols n) (shown_symbols n) p e
  values-fit p e =
      ap (λ w. values w (shown_symbols m) (shown_symbols m) p e) word-fit
      ∙ ap (λ xs. values (word_for n.format) xs xs p e) (shown-fit target n m fit)
      ∙ values-refit target (word_for n.format) p e (shown_symbols n)

  -- what they export
  exports-fit : (p : Placement) (e : Outside) → exports (word_for m.format) p e (shown_symbols m) ≡ exports (word_for n.format) p e (shown_symbols n)
  exports-fit p e =
      ap (λ w. exports w p e (shown_symbols m)) word-fit
      ∙ ap (exports (word_for n.format) p e) (shown-fit target n m fit)
      ∙ exports-refit target (word_for n.format) p e (shown_symbols n)

  -- linking the one is linking the other
  pub link-fit : (p : Placement) (e : Outside) → linking.object_link (linked_object m) p e ≡ linking.object_link (linked_object n) p e
  link-fit p e =
      let w : Word = word_for n.format in
      let v : Valuation = values w (shown_symbols n) (shown_symbols n) p e in
      let patches : Patches = patches_of n p v in
      let stored : ℕ → ℕ → Bool = is_stored_at target n in
      let xs : List (List ℕ) = emptied p.discarded 0 (map contents_of n.sections) in
      let live : patches_of m p (values (word_for m.format) (shown_symbols m) (shown_symbols m) p e) ≡ lives stored patches
      = ap (λ u. patches_of m p u) (values-fit p e) ∙ fun_ext (λ s. fun_ext (λ at. (fit.at p v).patches s at)) in
      ap (λ u. link_of u (emptied p.discarded 0 (map contents_of m.sections)) (patches_of m p (values (word_for m.format) (shown_symbols m) (shown_symbols m) p e)) (exports (word_for m.format) p e (shown_symbols m))) word-fit
      ∙ ap (λ ys. link_of w ys (patches_of m p (values (word_for m.format) (shown_symbols m) (shown_symbols m) p e)) (exports (word_for m.format) p e (shown_symbols m)))
      (ap (emptied p.discarded 0) (fit.at p v).contents ∙ emptied-overlays p.discarded (unders stored patches) 0 (map contents_of n.sections))
      ∙ ap (λ o. link_of w (overlays (unders stored patches) 0 xs) o (exports (word_for m.format) p e (shown_symbols m))) live
      ∙ ap (link_of w (overlays (unders stored patches) 0 xs) (lives stored patches)) (exports-fit p e)
      ∙ link_of_folded w patches stored xs (exports w p e (shown_symbols n)) (object_apart n is p v) (stored_fits n is target word p v)
