-- The listings of a file, by the rules of its format (our profile). All is kept.
use Rattle.std.specs.{Prelude.{ℕ, List, [], length, filter_map, slice_get, Option, None}, List.{enumerate_from, flat_map, range_with_len}}
use Rattle.std.specs.Option.{option_and_then, option_map, option_map_or}
use Rattle.oc_base.specs.Formats.{word_for}
use Rattle.oc_linking.specs.{declared.terms.Patch.{Patch}, Keeping.{all}, Placing.{Outside, zeros}, Rules.{Named, Symbolic, Sectional}}
use Rattle.oc_linking.specs.Values.{Valuation, numbered, values}
use Rattle.oc_linking.specs.Parts as parts
use Rattle.oc_neutral.specs.Dialects.{Dialect, Look, looks_in, patches_in}
use Rattle.oc_listings.specs.{declared.listing.Listing.{Listing}, declared.listing.Listing.TheVariants.{Header, Sections, Relocations}}
use Rattle.oc_listings.specs.Texts.{field_text, header_text, numbered_text, section_text, symbol_text}

-- an outside map that gives no site to any name, and the slot 0 to each: an Undefined and a Common have zeros as their values, as where they lie at the
-- address 0, and a Weak has the value of its fallback
abbrev pub silent : Outside
silent = record { site = λ name. None; slot = λ name. 0 }

module _ (f : Dialect) (b : List ℕ) where
  -- the values of the symbols of the file there, where all numbers of the placement are 0 and nothing is discarded
  abbrev pub resting_values : Valuation
  resting_values = values f.rules.word (f.rules.symbols b all) (f.rules.symbols b all) zeros silent

  -- the name of a symbol of the file, by its number
  abbrev pub name_of : ℕ → List ℕ
  name_of number = option_map_or (λ (s : parts.Symbol). s.name) (numbered (f.rules.symbols b all) number) []

  -- the number of a section, by its position
  abbrev pub number_of_section : ℕ → ℕ
  number_of_section k = option_map_or (λ (s : parts.Section). s.number) (slice_get (f.rules.sections b) k) 0

  -- what a field names
  abbrev pub named_text : Named → List ℕ
  named_text (Symbolic number) = symbol_text (name_of number)
  named_text (Sectional k) = numbered_text (number_of_section k)

  -- the line of a field with that look, where it has that residue
  abbrev pub look_text : ℕ → ℕ → Look → Patch → List ℕ
  look_text number offset look patch = field_text (word_for f.format) number offset look.width look.check patch.residue (named_text look.target)

  -- the line of the field at an offset of the section at position k, which has that number: where one begins there that is not folded
  abbrev pub line_at : ℕ → ℕ → ℕ → Option (List ℕ)
  line_at k number offset =
      option_and_then (λ (look : Look). option_map (look_text number offset look) (patches_in f b all zeros resting_values k offset)) (looks_in f b all k offset)

  -- the lines of the fields of a section, by offset
  abbrev pub field_lines_of : ℕ × parts.Section → List (List ℕ)
  field_lines_of x = filter_map (line_at x.0 x.1.number) (range_with_len 0 x.1.size)

  -- those of all sections
  abbrev pub field_lines : List (List ℕ)
  field_lines = flat_map field_lines_of (enumerate_from 0 (f.rules.sections b))

  -- the line of a section
  abbrev pub section_line : parts.Section → List ℕ
  section_line s = section_text s.number s.kind s.align s.size s.name

  -- a listing of the file
  unfoldable pub listing_of : Listing → List ℕ
  listing_of Header = header_text f.format (length (f.rules.sections b)) (length (f.rules.symbols b all)) (length field_lines) (length b)
  listing_of Sections = flat_map section_line (f.rules.sections b)
  listing_of Relocations = flat_map (λ line. line) field_lines
