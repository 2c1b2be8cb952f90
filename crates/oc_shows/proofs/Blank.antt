-- The bytes of an object are zero under its fields, and objects whose symbols have the same numbers have the same patches.
use Rattle.std.proofs.Common.{◌≡◌, ℕ, zero, suc, ◌+◌, ◌-◌, ◌/◌, ◌%◌, ◌^◌, ◌<◌, ◌≤◌, true, false, cond, List, [], ◌∷◌, length, replicate, get_or, slice_get, Option, Some, None, refl, sym, ◌∙◌, ap, subst, arith}
use Rattle.std.specs.{Prelude.{eqb}, List.{AllByRecursion}, Option.{option_map, option_map_or, unwrap_or}}
use Rattle.std.proofs.Math.Nat.{zero-div}
use Rattle.std.proofs.lemmas.{Bool.{eqb-true}, List.{ext_get_or}, Option.{none-some, same_Some, slice_get_within}}
use Rattle.oc_base.specs.{declared.format.Word.{Word}, Formats.{word_for}}
use Rattle.oc_linking.specs.{declared.terms.Patch.{Patch}, Fits.{bytes_of}, Numbers.{minus}, Placing.{Placement}, Values.{Valuation, worthless}}
use Rattle.oc_linking.specs.{Images.{byte_by, byte_upto, overlay}, Linking.{patch_of}, Shows.{blank, under_of, unders}}
use Rattle.oc_linking.proofs.{Apart.{byte_from}, Overlay.{length-overlay}, Storing.{byte_of_image, byte_of_field}, Upto.{first_upto_from}}
use Rattle.oc_algebra.specs.Residues.{residue_of}
use Rattle.oc_chains.specs.{declared.field.Field.{Field}, Lists.{Lists, list_of}}
use Rattle.oc_neutral.specs.{declared.section.Section.{Section}, declared.symbol.Symbol.{Symbol}, declared.reloc.Target.{Target}, declared.reloc.Reloc.{Reloc}}
use Rattle.oc_neutral.specs.{Objects.{Object, reloc_among, reloc_at}, Building.{is_zero}, Invariants.{IsHeld, IsObject}}
use Rattle.oc_neutral.specs.{Worth.{worth_at, target_worth, base_of, less_of, residue_at}, Faces.{contents_of, field_of, named_of, number_of}}
use Rattle.oc_neutral.specs.declared.reloc.Target.TheVariants as target
use Rattle.oc_shows.specs.Shows.{patches_of}
use Rattle.oc_neutral.proofs.{Mapped.{from_mapped}, Positions.{there_at}}

-- an image whose fields store what stands there
overlay_stays : (o : ℕ → Option Patch) (xs : List ℕ) → ((i x : ℕ) → byte_upto o i 8 ≡ Some x → get_or xs i 0 ≡ x) → overlay o 0 xs ≡ xs
overlay_stays o xs each =
    ext_get_or 0 (overlay o 0 xs) xs (length-overlay o 0 xs) (λ i l. byte_of_image o i xs (subst (λ n. i < n) (length-overlay o 0 xs) l) ∙ by i (byte_upto o i 8) refl)
  where
    by : (i : ℕ) (b : Option ℕ) → byte_upto o i 8 ≡ b → unwrap_or b (get_or xs i 0) ≡ get_or xs i 0
    by i None e = refl
    by i (Some x) e = sym (each i x e)

-- what is found at an offset is the relocation of a field there, of which what holds of each field holds
pub found_field : (P : Field Reloc → Type 0) (xs : List (Field Reloc)) (at : ℕ) (r : Reloc) → AllByRecursion P xs → reloc_among xs at ≡ Some r
    → (x : Field Reloc) × (x.at ≡ at) × (x.item ≡ r) × P x
found_field P [] at r all here = absurd (none-some r here)
found_field P (x ∷ xs) at r all here =
    elim (eqb x.at at) as (λ b. eqb x.at at ≡ b → cond b (Some x.item) (reloc_among xs at) ≡ Some r → (y : Field Reloc) × (y.at ≡ at) × (y.item ≡ r) × P y) [
      | true ↦ λ e h. (x, eqb-true x.at at e, same_Some x.item r h, all.0)
      | false ↦ λ e h. found_field P xs at r all.1 h
    ] refl here

-- what stands under a field that is not folded is zero
under_blank : (c : Option Patch) (q : Patch) → under_of false c ≡ Some q → (z : Patch) × (c ≡ Some z) × (blank z ≡ q)
under_blank c q here = grind arith

-- a field of zeros stores zeros
zero_stored : (o : ℕ → Option Patch) (i back x : ℕ) (q : Patch) → o (i - back) ≡ Some q → back ≤ i → back < bytes_of q.width → q.residue ≡ 0 → byte_by o i back ≡ Some x → x ≡ 0
zero_stored o i back x q here into l none is =
    let e : i - back + back ≡ i = omega (arith, into) in
    let own : byte_by o i back ≡ Some (q.residue / 256 ^ back % 256) = subst (λ k. byte_by o k back ≡ Some (q.residue / 256 ^ back % 256)) e (byte_of_field o (i - back) back q here l) in
    same_Some x (q.residue / 256 ^ back % 256) (sym is ∙ own) ∙ ap (λ k. k / 256 ^ back % 256) none ∙ ap (λ k. k % 256) (zero-div (256 ^ back))

-- the contents of a section are zero where its bytes are
zeros : (d k i : ℕ) → get_or (replicate k d) i d ≡ d
zeros d zero i = refl
zeros d (suc k) zero = refl
zeros d (suc k) (suc i) = zeros d k i

contents_zero : (x : Section) (i : ℕ) → get_or x.bytes i 0 ≡ 0 → get_or (contents_of x) i 0 ≡ 0
contents_zero x i none = elim (is_zero x.kind) as (λ b. get_or (cond b (replicate x.size 0) x.bytes) i 0 ≡ 0) [ true ↦ zeros 0 x.size i | false ↦ none ]

module _ (n : Object) (is : IsObject n) where
  -- a byte of a section under a field is zero
  pub bytes_under : (s : ℕ) (x : Section) → slice_get n.sections s ≡ Some x → (at back : ℕ) (r : Reloc) → reloc_at n s at ≡ Some r → back < bytes_of r.form.width
      → get_or x.bytes (at + back) 0 ≡ 0
  bytes_under s x here at back r found inside =
      let f = found_field (IsHeld n s x.bytes) (list_of n.relocs s) at r (is.built.fields.each s x here) found in
      let width : bytes_of r.form.width ≡ f.0.width = ap (λ (q : Reloc). bytes_of q.form.width) (sym f.2) ∙ sym f.3.width in
      subst (λ k. get_or x.bytes (k + back) 0 ≡ 0) f.1 (f.3.blank back (subst (λ k. back < k) width inside))

module _ (n : Object) (is : IsObject n) (p : Placement) (v : Valuation) where
  -- what stands under the fields of section s
  abbrev under : ℕ → ℕ → Option Patch
  under s = unders (λ t at. false) (patches_of n p v) s

  -- what stands under a field is as wide as its relocation, and zero
  field_under : (s at : ℕ) (q : Patch) → under s at ≡ Some q → (r : Reloc) × (reloc_at n s at ≡ Some r) × (r.form.width ≡ q.width) × (q.residue ≡ 0)
  field_under s at q here =
      let z = under_blank (patches_of n p v s at) q here in
      let field = from_mapped (patch_of p v) (option_map (field_of n s at) (reloc_at n s at)) z.0 z.1 in
      let reloc = from_mapped (field_of n s at) (reloc_at n s at) field.0 field.1 in
      let same : blank (patch_of p v (field_of n s at reloc.0)) ≡ q = ap (λ f. blank (patch_of p v f)) reloc.2 ∙ ap blank field.2 ∙ z.2 in
      (reloc.0, reloc.1, ap (λ (y : Patch). y.width) same, ap (λ (y : Patch). y.residue) (sym z.2))

  -- and zero is stored there
  byte_zero : (s : ℕ) (x : Section) → slice_get n.sections s ≡ Some x → (i b : ℕ) → byte_upto (under s) i 8 ≡ Some b → (b ≡ 0) × (get_or x.bytes i 0 ≡ 0)
  byte_zero s x here i b stored =
      let k = first_upto_from (byte_by (under s) i) 8 b stored in
      let q = byte_from (under s) i k.0 b k.2 in
      let r = field_under s (i - k.0) q.1 q.2 in
      let inside : k.0 < bytes_of r.0.form.width = subst (λ w. k.0 < bytes_of w) (sym r.2) q.3 in
      let back : i - k.0 + k.0 ≡ i = (let into = q.0 in omega (arith, into)) in
      (zero_stored (under s) i k.0 b q.1 q.2 q.0 q.3 r.3 k.2, subst (λ m. get_or x.bytes m 0 ≡ 0) back (bytes_under n is s x here (i - k.0) k.0 r.0 r.1 inside))

  -- so the contents of a section stay
  pub section_blank : (s : ℕ) (x : Section) → slice_get n.sections s ≡ Some x → overlay (under s) 0 (contents_of x) ≡ contents_of x
  section_blank s x here = overlay_stays (under s) (contents_of x) (λ i b stored. let z = byte_zero s x here i b stored in contents_zero x i z.1 ∙ sym z.0)

-- symbols with the same numbers are worth the same, and named the same
module _ (xs ys : List Symbol) (long : length xs ≡ length ys) (numbers : (k : ℕ) → number_of xs k ≡ number_of ys k) where
  worth_same : (v : Valuation) (k : ℕ) → worth_at xs v k ≡ worth_at ys v k
  worth_same v k = by (slice_get xs k) (slice_get ys k) refl refl (numbers k)
    where
      by : (a b : Option Symbol) → slice_get xs k ≡ a → slice_get ys k ≡ b → option_map_or (λ (s : Symbol). s.number) a 0 ≡ option_map_or (λ (s : Symbol). s.number) b 0
          → unwrap_or (option_map (λ (s : Symbol). v s.number) a) worthless ≡ unwrap_or (option_map (λ (s : Symbol). v s.number) b) worthless
      by None None here there same = refl
      by (Some s) (Some t) here there same = ap v same
      by None (Some t) here there same =
          let x = there_at xs k (subst (λ l. k < l) (sym long) (slice_get_within ys k t there)) in absurd (none-some x.0 (sym here ∙ x.1))
      by (Some s) None here there same =
          let y = there_at ys k (subst (λ l. k < l) long (slice_get_within xs k s here)) in absurd (none-some y.0 (sym there ∙ y.1))

  target_same : (p : Placement) (v : Valuation) (t : Target) → target_worth xs p v t ≡ target_worth ys p v t
  target_same p v (target.Section k) = refl
  target_same p v (target.Symbol k) = worth_same v k

  pub named_same : (t : Target) → named_of xs t ≡ named_of ys t
  named_same t = grind arith

  pub residue_same : (w : Word) (p : Placement) (v : Valuation) (s at : ℕ) (r : Reloc) → residue_at w xs p v s at r ≡ residue_at w ys p v s at r
  unfolding residue_at
  residue_same w p v s at r = ap (λ t. minus w (base_of p t r.form.base + residue_of w r.addend) (less_of p s at t r.form.less)) (target_same p v r.target)

-- an object with words of the same size, the same relocations and symbols with the same numbers has the same fields
module _ (n m : Object) (word : word_for m.format ≡ word_for n.format) (relocs : m.relocs ≡ n.relocs) (long : length m.symbols ≡ length n.symbols)
    (numbers : (k : ℕ) → number_of m.symbols k ≡ number_of n.symbols k) where
  found_same : (s at : ℕ) → reloc_at m s at ≡ reloc_at n s at
  found_same s at = ap (λ (rs : Lists Reloc). reloc_among (list_of rs s) at) relocs

  patch_same : (p : Placement) (v : Valuation) (s at : ℕ) (r : Reloc) → patch_of p v (field_of m s at r) ≡ patch_of p v (field_of n s at r)
  patch_same p v s at r =
      let made : ℕ → Patch = λ x. record { width = r.form.width; check = r.form.check; residue = x } in
      ap made (ap (λ w. residue_at w m.symbols p v s at r) word ∙ residue_same m.symbols n.symbols long numbers (word_for n.format) p v s at r)

  pub patches_same : (p : Placement) (v : Valuation) (s at : ℕ) → patches_of m p v s at ≡ patches_of n p v s at
  patches_same p v s at = by (reloc_at m s at) ∙ ap (λ o. option_map (patch_of p v) (option_map (field_of n s at) o)) (found_same s at)
    where
      by : (o : Option Reloc) → option_map (patch_of p v) (option_map (field_of m s at) o) ≡ option_map (patch_of p v) (option_map (field_of n s at) o)
      by None = refl
      by (Some r) = ap Some (patch_same p v s at r)
