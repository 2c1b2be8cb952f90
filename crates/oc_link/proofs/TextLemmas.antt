-- The text of sections, as it is put.
use Rattle.std.proofs.Common.{◌≡◌, ℕ, zero, suc, ◌+◌, ◌<◌, ◌≤◌, Bool, true, false, cond, List, [], ◌++◌, length, map, get_or, replicate, take, Option, Some, refl, sym, ◌∙◌, ap, arith}
use Rattle.std.specs.{Prelude.{slice_get}, List.{enumerate_from, flat_map}, Option.{option_map, option_map_or}}
use Rattle.std.proofs.lemmas.List.FromFn.{get_or-enumerate_from, length-enumerate_from}
use Rattle.std.proofs.lemmas.Option.{get_or_from_slice_get, slice_get-get_or, slice_get-map, slice_get_within}
use Rattle.oc_base.specs.Formats.{word_for}
use Rattle.oc_dump.proofs.LineLemmas.{flat_map-next}
use Rattle.oc_linking.specs.{declared.terms.Patch.{Patch}, Images.{overlay}}
use Rattle.oc_linking.specs.Parts as parts
use Rattle.oc_linking.proofs.Overlay.{length-overlay}
use Rattle.oc_neutral.specs.{declared.section.Section.{Section}, Objects.{Object}, Building.{is_zero, stored_size}}
use Rattle.oc_neutral.specs.{Faces.{contents_of, shown_section, frame_of}, Invariants.{HasItsBytes, IsObject}}
use Rattle.oc_neutral.proofs.{Numbered.{overlay_at}, Positions.{each_at}}
use Rattle.oc_place.specs.{declared.spot.Spot.{Spot}, Placings.{Placing, origin}}
use Rattle.oc_link.specs.Texts as texts
use Rattle.oc_link.specs.{Pieces.{frames, image_text_of, images, section_text_of}, Values.{bytes_of, contents, laid, patches}}
use Rattle.oc_link.proofs.ScanLemmas.{emptied_at}

-- an item of a list that is numbered
pub numbered_at : {X : Type 0} (xs : List X) (k : ℕ) (x : X) → slice_get xs k ≡ Some x → slice_get (enumerate_from 0 xs) k ≡ Some (k, x)
numbered_at {X} xs k x here =
    let inside : k < length xs = slice_get_within xs k x here in
    let long : length (enumerate_from 0 xs) ≡ length xs = length-enumerate_from 0 xs in
    let same : 0 + k ≡ k = omega arith in
    slice_get-get_or (enumerate_from 0 xs) k (k, x) (omega (arith, inside, long))
    ∙ ap Some (get_or-enumerate_from 0 xs k (k, x) inside ∙ ap {B = ℕ × X} (λ i. (i, get_or xs k x)) same ∙ ap {B = ℕ × X} (λ y. (k, y)) (get_or_from_slice_get xs k x x here))

-- a byte more
pub byte_more : (bytes : List ℕ) (i b : ℕ) → slice_get bytes i ≡ Some b
    → flat_map (texts.byte_text (length bytes)) (take (i + 1) (enumerate_from 0 bytes))
    ≡ flat_map (texts.byte_text (length bytes)) (take i (enumerate_from 0 bytes)) ++ texts.byte_text (length bytes) (i, b)
byte_more bytes i b here = flat_map-next (texts.byte_text (length bytes)) (enumerate_from 0 bytes) i (i, b) (numbered_at bytes i b here)

-- zeros that are filled are as many
zeros_filled : (o : ℕ → Option Patch) (k : ℕ) → texts.zeros_text (overlay o 0 (replicate k 0)) ≡ texts.zeros_text (replicate k 0)
zeros_filled o zero = refl
zeros_filled o (suc k) = refl

-- its frame
framed : (n : Object) (s : ℕ) (y : Section) → slice_get n.sections s ≡ Some y → slice_get (frames n) s ≡ Some (frame_of (shown_section n.groups y))
framed n s y here = slice_get-map frame_of (map (shown_section n.groups) n.sections) s ∙ ap (option_map frame_of) (slice_get-map (shown_section n.groups) n.sections s ∙ ap (option_map (shown_section n.groups)) here)

module _ (n : Object) (fine : IsObject n) (x : Placing) (s : ℕ) (y : Section) (here : slice_get n.sections s ≡ Some y) where
  -- its image
  image_is : (laid n x).discarded s ≡ false → get_or (images n x) s [] ≡ overlay (patches n x s) 0 (contents_of y)
  image_is keeps =
      let c : List ℕ = contents_of y in
      let at : slice_get (map contents_of n.sections) s ≡ Some c = slice_get-map contents_of n.sections s ∙ ap (option_map contents_of) here in
      let kept : slice_get (contents n x) s ≡ Some c = emptied_at (laid n x).discarded 0 s s (map contents_of n.sections) c (omega arith) at ∙ ap (λ b. Some (cond b [] c)) keeps in
      get_or_from_slice_get (images n x) s (overlay (patches n x s) 0 c) [] (overlay_at (patches n x) 0 (contents n x) s s c (omega arith) kept)

  -- the text of its image
  text_is : (laid n x).discarded s ≡ false → image_text_of n x s ≡ texts.image_text y.kind (overlay (patches n x s) 0 (contents_of y))
  text_is keeps = ap (λ o. option_map_or (λ (z : parts.Section). texts.image_text z.kind (get_or (images n x) s [])) o []) (framed n s y here) ∙ ap (texts.image_text y.kind) (image_is keeps)

  -- of zeros
  pub zeros_is : (laid n x).discarded s ≡ false → is_zero y.kind ≡ true → texts.zeros_text (replicate y.size 0) ≡ image_text_of n x s
  zeros_is keeps zeros =
      let c : contents_of y ≡ replicate y.size 0 = ap (λ b. cond b (replicate y.size 0) y.bytes) zeros in
      sym (text_is keeps ∙ ap (λ b. cond b (texts.zeros_text (overlay (patches n x s) 0 (contents_of y))) (texts.bytes_text (overlay (patches n x s) 0 (contents_of y)))) zeros
      ∙ ap (λ xs. texts.zeros_text (overlay (patches n x s) 0 xs)) c ∙ zeros_filled (patches n x s) y.size)

  -- of bytes
  pub bytes_is : (laid n x).discarded s ≡ false → is_zero y.kind ≡ false → (out : List ℕ) → out ≡ overlay (patches n x s) 0 (bytes_of n s) → texts.bytes_text out ≡ image_text_of n x s
  bytes_is keeps stored out is =
      let c : contents_of y ≡ y.bytes = ap (λ b. cond b (replicate y.size 0) y.bytes) stored in
      let own : bytes_of n s ≡ y.bytes = ap (λ o. option_map_or (λ (z : Section). z.bytes) o []) here in
      sym (text_is keeps ∙ ap (λ b. cond b (texts.zeros_text (overlay (patches n x s) 0 (contents_of y))) (texts.bytes_text (overlay (patches n x s) 0 (contents_of y)))) stored
      ∙ ap (λ xs. texts.bytes_text (overlay (patches n x s) 0 xs)) (c ∙ sym own) ∙ ap (texts.bytes_text) (sym is))

  -- there are not too many
  pub few_bytes : (out : List ℕ) → out ≡ overlay (patches n x s) 0 (bytes_of n s) → length out ≤ 2147483647
  few_bytes out is =
      let own : bytes_of n s ≡ y.bytes = ap (λ o. option_map_or (λ (z : Section). z.bytes) o []) here in
      let long : length out ≡ length y.bytes = ap length is ∙ length-overlay (patches n x s) 0 (bytes_of n s) ∙ ap length own in
      let has : length y.bytes ≡ stored_size y = each_at HasItsBytes n.sections s y fine.built.bytes here in
      let low : y.size ≤ 2147483647 = each_at (λ (z : Section). z.size ≤ 2147483647) n.sections s y fine.built.limits.each here in
      let most : stored_size y ≤ y.size = by (is_zero y.kind) in
      omega (arith, long, has, low, most)
    where
      by : (b : Bool) → cond b 0 y.size ≤ y.size
      by true = omega arith
      by false = omega arith

  pub whole_is : (laid n x).discarded s ≡ false → (spot : Spot) → slice_get x.spots s ≡ Some spot
      → texts.head_text (word_for n.format) s spot.address y.size ++ image_text_of n x s ≡ section_text_of n x s
  whole_is keeps spot lies =
      let at : get_or x.spots s origin ≡ spot = get_or_from_slice_get x.spots s spot origin lies in
      let own : image_text_of n x s ≡ texts.image_text y.kind (get_or (images n x) s []) = ap (λ o. option_map_or (λ (z : parts.Section). texts.image_text z.kind (get_or (images n x) s [])) o []) (framed n s y here) in
      sym (ap (λ o. option_map_or (λ (z : parts.Section). texts.section_text (word_for n.format) (laid n x) (images n x) (s, z)) o []) (framed n s y here)
      ∙ ap (λ b. cond b [] (texts.head_text (word_for n.format) s ((laid n x).site s).address y.size ++ texts.image_text y.kind (get_or (images n x) s []))) keeps
      ∙ ap (λ (z : Spot). texts.head_text (word_for n.format) s z.address y.size ++ texts.image_text y.kind (get_or (images n x) s [])) at
      ∙ ap (λ t. texts.head_text (word_for n.format) s spot.address y.size ++ t) (sym own))

module _ (n : Object) (x : Placing) (s : ℕ) (y : Section) (here : slice_get n.sections s ≡ Some y) where
  -- as one of all
  pub section_at : section_text_of n x s ≡ texts.section_text (word_for n.format) (laid n x) (images n x) (s, frame_of (shown_section n.groups y))
  section_at = ap (λ o. option_map_or (λ (z : parts.Section). texts.section_text (word_for n.format) (laid n x) (images n x) (s, z)) o []) (framed n s y here)

  pub listed_at : slice_get (enumerate_from 0 (frames n)) s ≡ Some (s, frame_of (shown_section n.groups y))
  listed_at = numbered_at (frames n) s (frame_of (shown_section n.groups y)) (framed n s y here)
