-- The text of a file, and of an object, that is linked at a placement (our profile).
use Rattle.std.specs.Prelude.{ℕ, List, map}
use Rattle.oc_base.specs.Formats.{word_for}
use Rattle.oc_linking.specs.{Keeping.{all}, Placing.{Placement, Outside}, Linking.{link_whole}, Shows.{object_link}}
use Rattle.oc_neutral.specs.{Objects.{Object}, Faces.{linked_object, shown_sections, shown_symbols, frame_of}, Dialects.{Dialect}}
use Rattle.oc_place.specs.{Placings.{Placing, outside_of, placement_of}, Footprints.{footprint_in, footprint_of}}
use Rattle.oc_link.specs.Texts.{text_of}

-- of an object
abbrev pub object_text : Object → Placement → Outside → List ℕ
object_text n p e = text_of (word_for n.format) (map frame_of (shown_sections n)) (shown_symbols n) p (object_link (linked_object n) p e)

-- of a file, by the rules of its format: nothing is edited and all is kept
abbrev pub file_text : Dialect → List ℕ → Placement → Outside → List ℕ
file_text f b p e = text_of f.rules.word (map frame_of (f.rules.sections b)) (f.rules.symbols b all) p (link_whole f.rules b p e)

-- of an object at what was placed
unfoldable pub link_text_of : Object → Placing → List ℕ
link_text_of n x = object_text n (placement_of (footprint_of n) x) (outside_of (footprint_of n) x)

-- of a file at what was placed
unfoldable pub link_text_in : Dialect → List ℕ → Placing → List ℕ
link_text_in f b x = file_text f b (placement_of (footprint_in f b) x) (outside_of (footprint_in f b) x)
