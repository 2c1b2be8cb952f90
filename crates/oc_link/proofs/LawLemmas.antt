-- The text of an object that shows a file is that of the file.
use Rattle.std.proofs.Common.{◌≡◌, ℕ, List, map, sym, ◌∙◌, ap}
use Rattle.oc_base.specs.Formats.{word_for}
use Rattle.oc_linking.specs.{Keeping.{all}, Placing.{Placement, Outside}, Shows.{object_link}}
use Rattle.oc_neutral.specs.{Objects.{Object}, Faces.{linked_object, shown_sections, shown_symbols, frame_of}, Dialects.{Dialect, IsDialect}}
use Rattle.oc_shows.specs.Shows.{Shows}
use Rattle.oc_shows.proofs.Linked.{link_of_file}
use Rattle.oc_place.specs.{Placings.{outside_of, placement_of}, Footprints.{Footprint, footprint_in}}
use Rattle.oc_place.proofs.FootprintLemmas.{footprints_agree}
use Rattle.oc_link.specs.{Laws.{TextsAgree}, Linked.{file_text, link_text_in, link_text_of, object_text}, Texts.{text_of}}

-- at one placement and outside map
texts_same : (f : Dialect) (b : List ℕ) (n : Object) → IsDialect f → Shows f b all n → (p : Placement) (e : Outside) → object_text n p e ≡ file_text f b p e
texts_same f b n is shows p e =
    let word : word_for n.format ≡ f.rules.word = ap word_for shows.format ∙ sym is.word in
    ap (λ w. text_of w (map frame_of (shown_sections n)) (shown_symbols n) p (object_link (linked_object n) p e)) word
    ∙ ap (λ xs. text_of f.rules.word xs (shown_symbols n) p (object_link (linked_object n) p e)) shows.sections
    ∙ ap (λ ys. text_of f.rules.word (map frame_of (f.rules.sections b)) ys p (object_link (linked_object n) p e)) shows.symbols
    ∙ ap (text_of f.rules.word (map frame_of (f.rules.sections b)) (f.rules.symbols b all) p) (link_of_file f b n is shows p e)

pub texts_agree : TextsAgree
unfolding link_text_of link_text_in
texts_agree f b n is fine shows x =
    ap (λ (footprint : Footprint). object_text n (placement_of footprint x) (outside_of footprint x)) (footprints_agree f b n is fine shows)
    ∙ texts_same f b n is shows (placement_of (footprint_in f b) x) (outside_of (footprint_in f b) x)
