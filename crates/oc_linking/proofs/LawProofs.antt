-- The laws.
use Rattle.std.proofs.Common.{◌≡◌, ℕ, ◌+◌, Bool, true, false, List, [], Option, Some, None, refl, sym, ◌∙◌, ap, subst, arith}
use Rattle.std.specs.{Prelude.{not, map, length}, Option.{option_map, unwrap_or}}
use Rattle.std.proofs.lemmas.Bool.{true≢false}
use Rattle.oc_base.specs.declared.format.Word.{Word}
use Rattle.oc_linking.specs.{declared.terms.Patch.{Patch}, Fits.{fits}, Images.{Patches, overlays, overflows, passes_at, first_field}}
use Rattle.oc_linking.specs.Linking.{Exports, Linked, Overflow, Image, linked_by}
use Rattle.oc_linking.specs.Laws.{Before, FailsAt, OverflowIsLeast, ImageIsWhole, FieldsHoldResidues, OtherBytesStay, ZerosPlaceAll}
use Rattle.oc_linking.proofs.{Overlay.{lengths-overlays}, Searching.{Hit, first_field_none, first_field_found}, Storing.{field_holds, others_stay}}
use Rattle.oc_linking.proofs.Valid.{zeros_is}

-- a test that is denied
pub not-true : (b : Bool) → not b ≡ true → b ≡ false
not-true b e = grind arith

-- a field that overflows is there, and does not fit
overflow_from : (w : Word) (o : Option Patch) → unwrap_or (option_map (overflows w) o) false ≡ true → (q : Patch) × (o ≡ Some q) × (fits w q.width q.check q.residue ≡ false)
overflow_from w o e = grind arith

module _ (w : Word) (contents : List (List ℕ)) (patches : Patches) where
  -- what the search finds fails
  fails_of : (s at : ℕ) → Hit (overflows w) patches 0 contents s at → FailsAt w contents patches s at
  fails_of s at h =
      let e : 0 + s ≡ s = omega arith in
      let m = overflow_from w (patches s at) (subst (λ i. passes_at (overflows w) (patches i) at ≡ true) e h.passes) in
      record { bytes = h.contents; section = h.here; inside = h.inside; patch = m.0; field = m.1; unfit = m.2 }

  -- what fails is what the search looks for
  hit_of : (s at : ℕ) → FailsAt w contents patches s at → Hit (overflows w) patches 0 contents s at
  hit_of s at f =
      let e : s ≡ 0 + s = omega arith in
      let passes : passes_at (overflows w) (patches s) at ≡ true = ap (λ o. unwrap_or (option_map (overflows w) o) false) f.field ∙ ap not f.unfit in
      record { contents = f.bytes; here = f.section; inside = f.inside; passes = subst (λ i. passes_at (overflows w) (patches i) at ≡ true) e passes }

-- the answer is an image
abbrev is_image : Linked → Bool
is_image (Overflow s at) = false
is_image (Image images exported) = true

-- the section of an overflow
abbrev section_of : Linked → ℕ
section_of (Overflow s at) = s
section_of (Image images exported) = 0

-- the offset of an overflow
abbrev offset_of : Linked → ℕ
offset_of (Overflow s at) = at
offset_of (Image images exported) = 0

-- the images
abbrev images_of : Linked → List (List ℕ)
images_of (Overflow s at) = []
images_of (Image images exported) = images

-- the exports
abbrev exports_of : Linked → Exports
exports_of (Overflow s at) name = None
exports_of (Image images exported) name = exported name

-- an overflow was found
overflow_found : (k : Option (ℕ × ℕ)) (images : List (List ℕ)) (exported : Exports) (s at : ℕ) → linked_by k images exported ≡ Overflow s at → k ≡ Some (s, at)
overflow_found k images exported s at e = grind arith

-- where there is an image, nothing was found
image_found : (k : Option (ℕ × ℕ)) (images given : List (List ℕ)) (exported shown : Exports) → linked_by k given exported ≡ Image images shown
    → (k ≡ None) × (given ≡ images) × (exported ≡ shown)
image_found None images given exported shown e = (refl, ap images_of e, ap exports_of e)
image_found (Some k) images given exported shown e = absurd (true≢false (sym (ap is_image e)))

pub overflow_is_least : OverflowIsLeast
overflow_is_least w contents patches exported s at e =
    let k : first_field (overflows w) patches 0 contents ≡ Some (s, at) = overflow_found _ _ exported s at e in
    let m = first_field_found (overflows w) patches 0 contents (s, at) k in
    let position : m.position ≡ s = let d = m.section in omega (arith, d) in
    record {
      fails = fails_of w contents patches s at (subst (λ i. Hit (overflows w) patches 0 contents i at) position m.hit);
      least = λ t x before f. m.first t x (subst (λ i. Before t x i at) (sym position) before) (hit_of w contents patches t x f);
    }

pub image_is_whole : ImageIsWhole
image_is_whole w contents patches exported images shown e =
    let m = image_found (first_field (overflows w) patches 0 contents) images (overlays patches 0 contents) exported shown e in
    record {
      fit = λ s at f. first_field_none (overflows w) patches 0 contents m.0 s at (hit_of w contents patches s at f);
      sizes = ap (λ ys. map length ys) (sym m.1) ∙ lengths-overlays patches 0 contents;
      exports = sym m.2;
    }

pub fields_hold_residues : FieldsHoldResidues
fields_hold_residues patches bytes at q apart here inside = field_holds patches apart bytes at q here inside

pub other_bytes_stay : OtherBytesStay
other_bytes_stay = others_stay

pub zeros_place_all : ZerosPlaceAll
zeros_place_all = zeros_is
