-- The pieces of the text of an object: of each section, and of what each symbol exports (our profile).
use Rattle.std.specs.{Prelude.{ℕ, List, [], ◌++◌, get_or, map, Option, slice_get}, List.{flat_map}, Option.{option_map_or}}
use Rattle.oc_base.specs.Formats.{word_for}
use Rattle.oc_linking.specs.{Parts.{Section, Symbol}, Images.{overlays}, Linking.{Export, export_of, exports}}
use Rattle.oc_neutral.specs.{Objects.{Object}, Faces.{shown_sections, shown_symbols, frame_of}}
use Rattle.oc_place.specs.{declared.index.NamedSymbol.{NamedSymbol}, Placings.{Placing}}
use Rattle.oc_link.specs.{Texts.{exported_text, exports_text, image_text, section_text, sections_text}, Values.{contents, given, laid, patches}}

-- its sections without contents
abbrev pub frames : Object → List Section
frames n = map frame_of (shown_sections n)

-- the images of its sections
abbrev pub images : Object → Placing → List (List ℕ)
images n x = overlays (patches n x) 0 (contents n x)

-- the image of the section at a position
abbrev pub image_text_of : Object → Placing → ℕ → List ℕ
image_text_of n x s = option_map_or (λ (y : Section). image_text y.kind (get_or (images n x) s [])) (slice_get (frames n) s) []

-- that section
abbrev pub section_text_of : Object → Placing → ℕ → List ℕ
section_text_of n x s = option_map_or (λ (y : Section). section_text (word_for n.format) (laid n x) (images n x) (s, y)) (slice_get (frames n) s) []

-- all sections
abbrev pub sections_text_of : Object → Placing → List ℕ
sections_text_of n x = sections_text (word_for n.format) (laid n x) (images n x) (frames n)

-- what a symbol of the object exports
abbrev pub export_in : Object → Placing → Symbol → Option Export
export_in n x y = export_of (word_for n.format) (laid n x) (given n x) (shown_symbols n) y

-- the text of what the symbol at a position exports
abbrev pub symbol_text_of : Object → Placing → ℕ → List ℕ
symbol_text_of n x k = option_map_or (λ (y : Symbol). exported_text (word_for n.format) y.name (export_in n x y)) (slice_get (shown_symbols n) k) []

-- of what the symbols of these names export
abbrev pub names_text_of : Object → Placing → List NamedSymbol → List ℕ
names_text_of n x names = flat_map (λ (e : NamedSymbol). symbol_text_of n x e.at) names

-- of all that is exported
abbrev pub exports_text_of : Object → Placing → List ℕ
exports_text_of n x = exports_text (word_for n.format) (shown_symbols n) (exports (word_for n.format) (laid n x) (given n x) (shown_symbols n))

-- the sections and the exports
abbrev pub linked_text_of : Object → Placing → List ℕ
linked_text_of n x = sections_text_of n x ++ exports_text_of n x
