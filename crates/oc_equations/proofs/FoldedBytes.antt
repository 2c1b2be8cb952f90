-- The bytes of a section in which constants were stored one after another are its bytes with the constants laid over them.
use Rattle.std.proofs.Common.{◌≡◌, ℕ, ◌+◌, ◌-◌, ◌/◌, ◌%◌, ◌^◌, ◌<◌, ◌≤◌, true, List, length, get_or, Option, Some, None, refl, sym, ◌∙◌, ap, subst, arith}
use Rattle.std.specs.{Prelude.{slice_get, ℤ}, List.{AllByRecursion}, Option.{option_and_then, unwrap_or}}
use Rattle.std.proofs.lemmas.{Grind.{same_number_lists}, Option.{none-some, same_Some}}
use Rattle.oc_base.specs.{declared.format.Word.{Word}, Formats.{word_for}}
use Rattle.oc_linking.specs.{declared.terms.Patch.{Patch}, Fits.{bytes_of, fits}, Images.{byte_by, byte_upto, overlay}}
use Rattle.oc_linking.proofs.{Apart.{byte_from}, FirstFaultLaws.{first_upto_none}, Overlay.{length-overlay}, Storing.{byte_of_image, byte_of_field, few}}
use Rattle.oc_linking.proofs.Upto.{first_upto_from}
use Rattle.oc_algebra.specs.{Folds.{low_of, fold_of}, Residues.{residue_of}}
use Rattle.oc_algebra.proofs.FoldLaws.{low_of-byte}
use Rattle.oc_chains.specs.{declared.field.Field.{Field}, Lists.{list_of}}
use Rattle.oc_neutral.specs.{declared.section.Section.{Section}, declared.symbol.Symbol.{Symbol}, declared.reloc.Reloc.{Reloc}, declared.normal.Normal.{Normal}}
use Rattle.oc_neutral.specs.{Objects.{Object, reloc_at}, Invariants.{IsHeld, IsObject}, Normal.{normal_of}}
use Rattle.oc_neutral.specs.declared.normal.Normal.TheVariants as normal
use Rattle.oc_neutral.proofs.{Added.{IsFitting}, LeftObject.{all_both}, Positions.{each_weaker}}
use Rattle.oc_shows.proofs.Blank.{found_field}
use Rattle.oc_drop.specs.Steps.{first_field}
use Rattle.oc_drop.proofs.FirstLaws.{none_of_section}
use Rattle.oc_names.specs.Rebinding.{unfit_fault}
use Rattle.oc_names.proofs.{NormalFields.{IsFrame, IsWide, folded_in, frame_fold}, ReboundFields.{constant_stands, others_stay}}
use Rattle.oc_names.proofs.ReboundConstants.{fitting, stored_of}

-- the constant that a relocation came to be
abbrev pub patch_by : Word → Reloc → Normal → Option Patch
patch_by w r (normal.Constant c) = Some (record { width = r.form.width; check = r.form.check; residue = residue_of w c })
patch_by w r (normal.Kept q) = None

module _ (d : Object) (is : IsObject d) (ys : List Symbol) (clean : first_field (unfit_fault (word_for d.format) ys) d ≡ None) where
  abbrev w : Word
  w = word_for d.format

  -- the constants of a section, by their offsets
  abbrev pub consts : ℕ → ℕ → Option Patch
  consts s at = option_and_then (λ r. patch_by w r (normal_of w ys s at r)) (reloc_at d s at)

  module _ (s : ℕ) (sec : Section) (there : slice_get d.sections s ≡ Some sec) where
    abbrev fields : List (Field Reloc)
    fields = list_of d.relocs s

    abbrev now : Section
    now = folded_in w ys s sec fields

    frame : IsFrame sec now
    frame = frame_fold w ys s sec fields

    wide : AllByRecursion IsWide fields
    wide = each_weaker (IsHeld d s sec.bytes) IsWide (λ x held. held.width) fields (is.built.fields.each s sec there)

    inside : AllByRecursion (λ (x : Field Reloc). x.at + x.width ≤ length sec.bytes) fields
    inside = each_weaker (IsHeld d s sec.bytes) (λ (x : Field Reloc). x.at + x.width ≤ length sec.bytes) (λ x held. held.inside) fields (is.built.fields.each s sec there)

    -- a relocation that came to be a constant, which fits
    record New (at : ℕ) (q : Patch) : Type 0 where
      reloc : Reloc
      here : reloc_at d s at ≡ Some reloc
      constant : ℤ
      left : normal_of w ys s at reloc ≡ normal.Constant constant
      width : bytes_of q.width ≡ bytes_of reloc.form.width
      worth : residue_of w constant ≡ q.residue
      fit : fits w reloc.form.width reloc.form.check (residue_of w constant) ≡ true

    fits_at : (at : ℕ) (r : Reloc) → reloc_at d s at ≡ Some r → IsFitting w r (normal_of w ys s at r)
    fits_at at r here =
        let f = found_field (λ (f : Field Reloc). IsHeld d s sec.bytes f × (unfit_fault w ys s sec f ≡ None)) fields at r
        (all_both (IsHeld d s sec.bytes) (λ (f : Field Reloc). unfit_fault w ys s sec f ≡ None) fields (is.built.fields.each s sec there) (none_of_section (unfit_fault w ys) d clean s sec there)) here in
        subst (λ (r : Reloc). IsFitting w r (normal_of w ys s at r)) f.2
        (subst (λ k. IsFitting w f.0.item (normal_of w ys s k f.0.item)) f.1 (fitting w sec f.0 (normal_of w ys s f.0.at f.0.item) f.3.1))

    new_from : (at : ℕ) (q : Patch) → consts s at ≡ Some q → New at q
    new_from at q e = by (reloc_at d s at) refl e
      where
        left : (r : Reloc) (m : Normal) → reloc_at d s at ≡ Some r → normal_of w ys s at r ≡ m → IsFitting w r m → patch_by w r m ≡ Some q → New at q
        left r (normal.Constant c) here is fit e =
            let same = same_Some (record { width = r.form.width; check = r.form.check; residue = residue_of w c }) q e in
            record {
              reloc = r;
              here = here;
              constant = c;
              left = is;
              width = sym (ap (λ (p : Patch). bytes_of p.width) same);
              worth = ap (λ (p : Patch). p.residue) same;
              fit = fit;
            }
        left r (normal.Kept p) here is fit e = absurd (none-some q e)

        by : (o : Option Reloc) → reloc_at d s at ≡ o → option_and_then (λ r. patch_by w r (normal_of w ys s at r)) o ≡ Some q → New at q
        by None here e = absurd (none-some q e)
        by (Some r) here e = left r (normal_of w ys s at r) here refl (fits_at at r here) e

    -- a byte of a constant
    filled : (i m : ℕ) → byte_upto (consts s) i 8 ≡ Some m → get_or now.bytes i 0 ≡ m
    filled i m e =
        let first = first_upto_from (byte_by (consts s) i) 8 m e in
        let from = byte_from (consts s) i first.0 m first.2 in
        let n = new_from (i - first.0) from.1 from.2 in
        let at : i - first.0 + first.0 ≡ i = omega (arith, from.0) in
        let byte : byte_by (consts s) i first.0 ≡ Some (from.1.residue / 256 ^ first.0 % 256)
        = ap (λ (k : ℕ). byte_by (consts s) k first.0) (sym at) ∙ byte_of_field (consts s) (i - first.0) first.0 from.1 from.2 from.3 in
        let low : first.0 < bytes_of n.reloc.form.width = (let same = n.width in omega (arith, from.3, same)) in
        ap (λ (k : ℕ). get_or {A = ℕ} now.bytes k 0) (sym at)
        ∙ constant_stands w ys s 0 fields sec (i - first.0) first.0 n.reloc (low_of n.reloc.form.width (residue_of w n.constant)) (is.built.fields.apart s) wide inside
        (record { here = n.here; constant = n.constant; left = n.left; stored = λ x same. ap (λ (q : Reloc). fold_of w q.form.width q.form.check n.constant) same ∙ stored_of w n.reloc n.constant n.fit }) low
        ∙ low_of-byte n.reloc.form.width (residue_of w n.constant) first.0 low
        ∙ ap (λ (k : ℕ). k / 256 ^ first.0 % 256) n.worth
        ∙ same_Some (from.1.residue / 256 ^ first.0 % 256) m (sym byte ∙ first.2)

    -- and another
    beside : (i : ℕ) → byte_upto (consts s) i 8 ≡ None → get_or now.bytes i 0 ≡ get_or sec.bytes i 0
    beside i e = others_stay w ys s 0 fields sec i (is.built.fields.apart s) (λ at x number constant low high.
        let q : Patch = record { width = x.form.width; check = x.form.check; residue = residue_of w constant.constant } in
        let is_const : consts s at ≡ Some q = ap (option_and_then (λ r. patch_by w r (normal_of w ys s at r))) constant.here ∙ ap (patch_by w x) constant.left in
        let back : i - at < bytes_of q.width = omega (arith, low, high) in
        let same : at + (i - at) ≡ i = omega (arith, low) in
        let byte : byte_by (consts s) i (i - at) ≡ Some (q.residue / 256 ^ (i - at) % 256)
        = ap (λ (k : ℕ). byte_by (consts s) k (i - at)) (sym same) ∙ byte_of_field (consts s) at (i - at) q is_const back in
        none-some (q.residue / 256 ^ (i - at) % 256) (sym (first_upto_none (byte_by (consts s) i) 8 e (i - at) (let most = few q.width in omega (arith, back, most))) ∙ byte))

    pub folded-bytes : now.bytes ≡ overlay (consts s) 0 sec.bytes
    folded-bytes = same_number_lists now.bytes (overlay (consts s) 0 sec.bytes) (frame.long ∙ sym (length-overlay (consts s) 0 sec.bytes)) (λ i low.
        let within : i < length sec.bytes = (let same = frame.long in omega (arith, low, same)) in
        (elim (byte_upto (consts s) i 8) as (λ o. byte_upto (consts s) i 8 ≡ o → get_or now.bytes i 0 ≡ unwrap_or o (get_or sec.bytes i 0)) [
          | Some m ↦ λ e. filled i m e
          | None ↦ λ e. beside i e
        ] refl)
        ∙ sym (byte_of_image (consts s) i sec.bytes within))

    -- the section is as it was, but for these bytes
    pub folded-section : now ≡ record { name = sec.name; kind = sec.kind; align = sec.align; size = sec.size; bytes = overlay (consts s) 0 sec.bytes; tag = sec.tag; number = sec.number; group = sec.group }
    folded-section = same now sec frame (overlay (consts s) 0 sec.bytes) folded-bytes
      where
        same : (x y : Section) → IsFrame y x → (bytes : List ℕ) → x.bytes ≡ bytes
            → x ≡ record { name = y.name; kind = y.kind; align = y.align; size = y.size; bytes = bytes; tag = y.tag; number = y.number; group = y.group }
        same x y f bytes e =
            ap (λ n. record { name = n; kind = x.kind; align = x.align; size = x.size; bytes = x.bytes; tag = x.tag; number = x.number; group = x.group }) f.name
            ∙ ap (λ n. record { name = y.name; kind = n; align = x.align; size = x.size; bytes = x.bytes; tag = x.tag; number = x.number; group = x.group }) f.kind
            ∙ ap (λ n. record { name = y.name; kind = y.kind; align = n; size = x.size; bytes = x.bytes; tag = x.tag; number = x.number; group = x.group }) f.align
            ∙ ap (λ n. record { name = y.name; kind = y.kind; align = y.align; size = n; bytes = x.bytes; tag = x.tag; number = x.number; group = x.group }) f.size
            ∙ ap (λ n. record { name = y.name; kind = y.kind; align = y.align; size = y.size; bytes = n; tag = x.tag; number = x.number; group = x.group }) e
            ∙ ap (λ n. record { name = y.name; kind = y.kind; align = y.align; size = y.size; bytes = bytes; tag = n; number = x.number; group = x.group }) f.tag
            ∙ ap (λ n. record { name = y.name; kind = y.kind; align = y.align; size = y.size; bytes = bytes; tag = y.tag; number = n; group = x.group }) f.number
            ∙ ap (λ n. record { name = y.name; kind = y.kind; align = y.align; size = y.size; bytes = bytes; tag = y.tag; number = y.number; group = n }) f.group
