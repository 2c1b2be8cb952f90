-- An object whose fields are read again is shown (our profile): what a writer has to know of its file.
use Rattle.std.specs.Prelude.{◌≡◌, ℕ, ◌+◌, ◌<◌, ◌≤◌, ◌⊎◌, List, length, map, slice_get, get_or, Some}
use Rattle.oc_base.specs.Formats.{word_for}
use Rattle.oc_linking.specs.{Fits.{bytes_of}, Keeping.{all}}
use Rattle.oc_linking.specs.Parts as parts
use Rattle.oc_neutral.specs.{declared.section.Section.{Section}, declared.reloc.Reloc.{Reloc}, Objects.{Object, reloc_at}, Invariants.{IsObject}}
use Rattle.oc_neutral.specs.{Faces.{contents_of, shown_sections, shown_symbols, frame_of}, Dialects.{Dialect}}
use Rattle.oc_shows.specs.{Shows.{AreNumbered, Shows}, Built.{RelocMap, IsFree, IsGiven}}

-- byte i of section s is in the field of one that is given
pub record IsCovered (given : RelocMap) (s i : ℕ) : Type 0 where
  pub at : ℕ
  pub reloc : Reloc
  pub here : given s at ≡ Some reloc
  pub low : at ≤ i
  pub high : i < at + bytes_of reloc.form.width

-- these are the contents of section s of n, but for the bytes in fields of its relocations
pub record HasContents (n : Object) (s : ℕ) (x : Section) (ys : List ℕ) : Type 0 where
  pub long : length ys ≡ length (contents_of x)
  pub beside : (i : ℕ) → i < length ys → (IsCovered (reloc_at n) s i → ⊥) → get_or ys i 0 ≡ get_or (contents_of x) i 0

-- a reader of the format finds in the file c the sections and the symbols of n, and as its fields the relocations of n
pub record IsReadAgain (g : Dialect) (c : List ℕ) (n : Object) : Type 0 where
  pub format : n.format ≡ g.format
  pub word : g.rules.word ≡ word_for g.format
  pub sections : map frame_of (shown_sections n) ≡ map frame_of (g.rules.sections c)
  pub contents : (s : ℕ) (x : Section) (y : parts.Section) → slice_get n.sections s ≡ Some x → slice_get (g.rules.sections c) s ≡ Some y → HasContents n s x y.contents
  pub symbols : shown_symbols n ≡ g.rules.symbols c all
  pub numbered : AreNumbered (g.rules.symbols c all)
  pub fields : (s at : ℕ) → IsFree g c all (reloc_at n) s at ⊎ IsGiven g c all n (reloc_at n) s at

-- the file shows the object
abbrev pub ReadAgainShows : Type 0
ReadAgainShows = (g : Dialect) (c : List ℕ) (n : Object) → IsObject n → IsReadAgain g c n → Shows g c all n
