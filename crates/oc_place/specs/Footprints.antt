-- What a placement is written for: the sections, groups and symbols of an object, or of a file (our profile).
use Rattle.std.specs.{Prelude.{◌≡◌, ℕ, bytes_eq, List, map, length, Option}, List.{position_or_len}, Option.{option_map}}
use Rattle.oc_base.specs.{declared.format.Word.{Word}, Formats.{word_for}}
use Rattle.oc_linking.specs.Parts as parts
use Rattle.oc_linking.specs.Keeping.{all}
use Rattle.oc_neutral.specs.{declared.section.Section.{Section}, Objects.{Object}, Faces.{shown_symbols}, Dialects.{Dialect, IsDialect}, Invariants.{IsObject}}
use Rattle.oc_shows.specs.{Computed.{keys_in}, Shows.{Shows}}

-- what placing asks of a section: its alignment, its size and the position of its group
pub record Plot : Type 0 where
  pub align : ℕ
  pub size : ℕ
  pub group : Option ℕ

-- all that placing asks
pub record Footprint : Type 0 where
  pub word : Word
  pub sections : List Plot
  -- how many groups there are, in the order of their first members
  pub groups : ℕ
  pub symbols : List parts.Symbol

-- of a section of an object
abbrev pub plot_of : Section → Plot
plot_of s = record { align = s.align; size = s.size; group = s.group }

-- of an object
abbrev pub footprint_of : Object → Footprint
footprint_of n = record { word = word_for n.format; sections = map plot_of n.sections; groups = length n.groups; symbols = shown_symbols n }

-- of a section of a file whose groups have these keys
abbrev pub plot_in : List (List ℕ) → parts.Section → Plot
plot_in keys s = record { align = s.align; size = s.size; group = option_map (λ key. position_or_len (bytes_eq key) keys) s.group }

-- of a file, all of which is kept
abbrev pub footprint_in : Dialect → List ℕ → Footprint
footprint_in f b = record {
  word = f.rules.word;
  sections = map (plot_in (keys_in f b)) (f.rules.sections b);
  groups = length (keys_in f b);
  symbols = f.rules.symbols b all;
}

-- the footprint of an object that shows a file is that of the file
abbrev pub FootprintsAgree : Type 0
FootprintsAgree = (f : Dialect) (b : List ℕ) (n : Object) → IsDialect f → IsObject n → Shows f b all n → footprint_of n ≡ footprint_in f b
