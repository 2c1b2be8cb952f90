-- The contents of an object that holds what is given are the file's, with constants in folded fields and zeros under the others.
use Rattle.std.proofs.Common.{◌≡◌, ℕ, zero, suc, ◌+◌, ◌-◌, ◌/◌, ◌%◌, ◌^◌, ◌<◌, ◌⊎◌, Bool, true, false, cond, List, [], ◌∷◌, length, map, get_or, replicate, Option, Some, None, refl, sym, ◌∙◌, ap, arith}
use Rattle.std.specs.{Prelude.{slice_get}, Option.{option_map, option_map_or, unwrap_or}}
use Rattle.std.proofs.lemmas.{Grind.{same_number_lists}, List.{length-map, length-replicate}, Option.{none-some, same_Some}}
use Rattle.oc_linking.specs.{declared.terms.Keep.{Keep}, declared.terms.Width.{Width}, Fits.{bytes_of}, Images.{Patches, byte_by, byte_upto, overlay, overlays}}
use Rattle.oc_linking.specs.{Placing.{Placement}, Values.{Valuation}, Shows.{unders}}
use Rattle.oc_linking.specs.Parts as parts
use Rattle.oc_linking.proofs.{Apart.{byte_from}, FirstFaultLaws.{first_upto_none}, Overlay.{length-overlay}, Storing.{byte_of_image, byte_of_field, few}}
use Rattle.oc_linking.proofs.Upto.{first_upto_from}
use Rattle.oc_algebra.specs.Folds.{low_of}
use Rattle.oc_algebra.proofs.FoldLaws.{low_of-byte}
use Rattle.oc_neutral.specs.{declared.section.Section.{Section}, declared.reloc.Reloc.{Reloc}, Objects.{Object}, Building.{is_zero, stored_size}}
use Rattle.oc_neutral.specs.{Invariants.{HasItsBytes}, Faces.{contents_of, shown_section, frame_of}, Dialects.{Dialect, is_difference, is_folded, patches_in}}
use Rattle.oc_shows.specs.{Shows.{IsTrueToFixed}, Built.{RelocMap, IsFree, IsGiven}, Again.{IsCovered}}
use Rattle.oc_neutral.proofs.{Adding.{wide_enough}, Positions.{each_at, images_same, lengths_same, lists_same}, WrittenBytes.{byte_at}}
use Rattle.oc_shows.proofs.{BuiltSeen.{under-from, under-given}, Showing.{IsBase, IsShowing, stored_at}}

-- a section of contents that are filled
overlays_at : (patches : Patches) (j : ℕ) (yss : List (List ℕ)) (k : ℕ) → slice_get (overlays patches j yss) k ≡ option_map (overlay (patches (j + k)) 0) (slice_get yss k)
overlays_at patches j [] k = refl
overlays_at patches j (ys ∷ yss) zero = let e : j ≡ j + 0 = omega arith in ap (λ (i : ℕ). Some (overlay (patches i) 0 ys)) e
overlays_at patches j (ys ∷ yss) (suc k) =
    let e : j + 1 + k ≡ j + suc k = omega arith in
    overlays_at patches (j + 1) yss k ∙ ap (λ (i : ℕ). option_map (overlay (patches i) 0) (slice_get yss k)) e

pub length-overlays : (patches : Patches) (j : ℕ) (yss : List (List ℕ)) → length (overlays patches j yss) ≡ length yss
length-overlays patches j [] = refl
length-overlays patches j (ys ∷ yss) = ap (λ (n : ℕ). suc n) (length-overlays patches (j + 1) yss)

-- an element of the image of a list is the image of one
pub mapped_at : {X Y : Type 0} (g : X → Y) (zs : List X) (k : ℕ) (y : Y) → slice_get (map g zs) k ≡ Some y → (x : X) × (slice_get zs k ≡ Some x) × (y ≡ g x)
mapped_at g [] k y e = absurd (none-some y e)
mapped_at g (z ∷ zs) zero y e = (z, refl, sym (same_Some (g z) y e))
mapped_at g (z ∷ zs) (suc k) y e = mapped_at g zs k y e

pub zeros_at : (n k : ℕ) → get_or {A = ℕ} (replicate n 0) k 0 ≡ 0
zeros_at zero k = refl
zeros_at (suc n) zero = refl
zeros_at (suc n) (suc k) = zeros_at n k

-- a section has as many contents as its size says
pub long : (x : Section) → HasItsBytes x → length (contents_of x) ≡ x.size
long x has = by (is_zero x.kind) has
  where
    by : (z : Bool) → length x.bytes ≡ cond z 0 x.size → length (cond z (replicate x.size 0) x.bytes) ≡ x.size
    by true e = length-replicate x.size 0
    by false e = e

-- the contents of sections of one kind, where a byte is stored, and where none is
pub content-zero : (x : Section) (i : ℕ) → is_zero x.kind ≡ true → get_or (contents_of x) i 0 ≡ 0
content-zero x i e = ap (λ z. get_or {A = ℕ} (cond z (replicate x.size 0) x.bytes) i 0) e ∙ zeros_at x.size i

pub content-stored : (x : Section) (i : ℕ) → is_zero x.kind ≡ false → get_or (contents_of x) i 0 ≡ get_or x.bytes i 0
content-stored x i e = ap (λ z. get_or {A = ℕ} (cond z (replicate x.size 0) x.bytes) i 0) e

module _ (f : Dialect) (b : List ℕ) (keep : Keep) (base n : Object) (given : RelocMap) (start : IsBase f b keep base) (has : IsShowing base n given)
    (all : (s at : ℕ) → IsFree f b keep given s at ⊎ IsGiven f b keep base given s at)
    (p : Placement) (v : Valuation) (fixed : IsTrueToFixed f.rules.word (f.rules.symbols b keep) p v) where
  abbrev under : Patches
  under = unders (is_folded f b keep) (patches_in f b keep p v)

  -- a section of the draft, and what it was
  module _ (s : ℕ) (x z : Section) (here : slice_get n.sections s ≡ Some x) (was : slice_get base.sections s ≡ Some z) where
    frames : frame_of (shown_section base.groups x) ≡ frame_of (shown_section base.groups z)
    frames = images_same (λ (y : Section). frame_of (shown_section base.groups y)) (λ (y : Section). frame_of (shown_section base.groups y)) n.sections base.sections has.frames s x z here was

    kinds : is_zero x.kind ≡ is_zero z.kind
    kinds = ap (λ (y : parts.Section). is_zero y.kind) frames

    lengths : length (contents_of x) ≡ length (contents_of z)
    lengths =
        long x (each_at HasItsBytes n.sections s x has.whole here)
        ∙ ap (λ (y : parts.Section). y.size) frames
        ∙ sym (long z (each_at HasItsBytes base.sections s z start.whole was))

    stored : stored_at base.sections s ≡ stored_size z
    stored = ap (λ (o : Option Section). option_map_or stored_size o 0) was

    -- where something is given the section has bytes
    has_bytes : (at : ℕ) (r : Reloc) → given s at ≡ Some r → is_zero z.kind ≡ false
    has_bytes at r there = by (is_zero z.kind) refl
      where
        by : (c : Bool) → is_zero z.kind ≡ c → c ≡ false
        by false e = refl
        by true e =
            let inside = has.inside s at r there in
            let none : stored_size z ≡ 0 = ap (λ c. cond c 0 z.size) e in
            let wide = wide_enough r.form.width in
            absurd (omega (arith, inside, stored, none, wide))

    own : (i : ℕ) → byte_at n.sections s i ≡ get_or {A = ℕ} x.bytes i 0
    own i = ap (λ (o : Option Section). option_map_or (λ (y : Section). get_or y.bytes i 0) o 0) here

    before : (i : ℕ) → byte_at base.sections s i ≡ get_or {A = ℕ} z.bytes i 0
    before i = ap (λ (o : Option Section). option_map_or (λ (y : Section). get_or y.bytes i 0) o 0) was

    -- a byte that is filled
    filled : (i m : ℕ) → byte_upto (under s) i 8 ≡ Some m → get_or (contents_of x) i 0 ≡ m
    filled i m e =
        let first = first_upto_from (byte_by (under s) i) 8 m e in
        let back : ℕ = first.0 in
        let from = byte_from (under s) i first.0 m first.2 in
        let of = under-from f b keep base n given start has all p v fixed s (i - first.0) from.1 from.2 in
        let at : i - first.0 + first.0 ≡ i = omega (arith, from.0) in
        let byte : byte_by (under s) i first.0 ≡ Some (from.1.residue / 256 ^ first.0 % 256)
        = ap (λ (k : ℕ). byte_by (under s) k first.0) (sym at) ∙ byte_of_field (under s) (i - first.0) first.0 from.1 from.2 from.3 in
        let inside : first.0 < bytes_of of.from.reloc.form.width = let width : bytes_of from.1.width ≡ bytes_of of.from.reloc.form.width = ap bytes_of of.width in omega (arith, from.3, width) in
        content-stored x i (kinds ∙ has_bytes (i - first.0) of.from.reloc of.from.there)
        ∙ sym (own i)
        ∙ ap (λ (k : ℕ). byte_at n.sections s k) (sym at)
        ∙ has.under s (i - first.0) first.0 of.from.reloc of.from.there inside
        ∙ ap (λ (n : ℕ). n / 256 ^ first.0 % 256) of.number
        ∙ low (is_difference of.from.field) from.1.width from.1.residue first.0 from.3
        ∙ same_Some (from.1.residue / 256 ^ first.0 % 256) m (sym byte ∙ first.2)
      where
        low : (c : Bool) (k : Width) (r back : ℕ) → back < bytes_of k → cond c (low_of k r) r / 256 ^ back % 256 ≡ r / 256 ^ back % 256
        low true k r back inside = low_of-byte k r back inside
        low false k r back inside = refl

    -- and one that is not
    uncovered : (i : ℕ) → byte_upto (under s) i 8 ≡ None → IsCovered given s i → ⊥
    uncovered i e cover =
        let q = under-given f b keep base n given start has all p v fixed s cover.at cover.reloc cover.here in
        let low = cover.low in
        let high = cover.high in
        let wide : bytes_of q.0.width ≡ bytes_of cover.reloc.form.width = ap bytes_of q.2 in
        let back : i - cover.at < bytes_of q.0.width = omega (arith, wide, low, high) in
        let at : cover.at + (i - cover.at) ≡ i = omega (arith, low) in
        let byte : byte_by (under s) i (i - cover.at) ≡ Some (q.0.residue / 256 ^ (i - cover.at) % 256)
        = ap (λ (k : ℕ). byte_by (under s) k (i - cover.at)) (sym at) ∙ byte_of_field (under s) cover.at (i - cover.at) q.0 q.1 back in
        none-some _ (sym (first_upto_none (byte_by (under s) i) 8 e (i - cover.at) (let most = few q.0.width in omega (arith, back, most))) ∙ byte)

    left : (i : ℕ) → byte_upto (under s) i 8 ≡ None → get_or (contents_of x) i 0 ≡ get_or (contents_of z) i 0
    left i e = by (is_zero z.kind) refl
      where
        by : (c : Bool) → is_zero z.kind ≡ c → get_or (contents_of x) i 0 ≡ get_or (contents_of z) i 0
        by true h = content-zero x i (kinds ∙ h) ∙ sym (content-zero z i h)
        by false h = content-stored x i (kinds ∙ h) ∙ sym (own i) ∙ has.beside s i (uncovered i e) ∙ before i ∙ sym (content-stored z i h)

    section_shown : contents_of x ≡ overlay (under s) 0 (contents_of z)
    section_shown = same_number_lists (contents_of x) (overlay (under s) 0 (contents_of z)) (lengths ∙ sym (length-overlay (under s) 0 (contents_of z))) (λ i low.
        let inside : i < length (contents_of z) = let same = lengths in omega (arith, low, same) in
        (elim (byte_upto (under s) i 8) as (λ o. byte_upto (under s) i 8 ≡ o → get_or (contents_of x) i 0 ≡ unwrap_or o (get_or (contents_of z) i 0)) [
          | Some m ↦ λ e. filled i m e
          | None ↦ λ e. left i e
        ] refl)
        ∙ sym (byte_of_image (under s) i (contents_of z) inside))

  -- what the sections of the base show are the file's
  contents_before : map (λ (y : parts.Section). y.contents) (f.rules.sections b) ≡ map contents_of base.sections
  contents_before = ap (λ (ys : List parts.Section). map (λ (y : parts.Section). y.contents) ys) (sym start.sections) ∙ of base.sections
    where
      of : (zs : List Section) → map (λ (y : parts.Section). y.contents) (map (shown_section base.groups) zs) ≡ map contents_of zs
      of [] = refl
      of (z ∷ zs) = ap (λ (cs : List (List ℕ)). contents_of z ∷ cs) (of zs)

  filled_before : map contents_of n.sections ≡ overlays under 0 (map contents_of base.sections)
  filled_before = lists_same (map contents_of n.sections) (overlays under 0 (map contents_of base.sections))
      (length-map n.sections contents_of
      ∙ lengths_same (λ (y : Section). frame_of (shown_section base.groups y)) (λ (y : Section). frame_of (shown_section base.groups y)) n.sections base.sections has.frames
      ∙ sym (length-overlays under 0 (map contents_of base.sections) ∙ length-map base.sections contents_of))
      (λ k xs ys here there.
      let first = mapped_at contents_of n.sections k xs here in
      let second = overlaid k ys (slice_get (map contents_of base.sections) k) refl (sym (overlays_at under 0 (map contents_of base.sections) k) ∙ there) in
      let zero_k : 0 + k ≡ k = omega arith in
      first.2 ∙ section_shown k first.0 second.0 first.1 second.1 ∙ ap (λ (j : ℕ). overlay (under j) 0 (contents_of second.0)) (sym zero_k) ∙ second.2)
    where
      overlaid : (k : ℕ) (ys : List ℕ) (o : Option (List ℕ)) → slice_get (map contents_of base.sections) k ≡ o → option_map (overlay (under (0 + k)) 0) o ≡ Some ys
          → (z : Section) × (slice_get base.sections k ≡ Some z) × (overlay (under (0 + k)) 0 (contents_of z) ≡ ys)
      overlaid k ys None h e = absurd (none-some ys e)
      overlaid k ys (Some zs) h e =
          let m = mapped_at contents_of base.sections k zs h in
          (m.0, m.1, ap (overlay (under (0 + k)) 0) (sym m.2) ∙ same_Some (overlay (under (0 + k)) 0 zs) ys e)

  pub contents-shown : map contents_of n.sections ≡ overlays under 0 (map (λ (y : parts.Section). y.contents) (f.rules.sections b))
  contents-shown = filled_before ∙ ap (overlays under 0) (sym contents_before)
