-- What reading gives of a file that was made for an object (our profile): its sections, symbols and fields, whatever the container.
use Rattle.std.specs.{Prelude.{◌≡◌, ℕ, ◌≤◌, List, length, map, slice_get, Some, None}, List.{enumerate_from}}
use Rattle.oc_base.specs.Formats.{word_for}
use Rattle.oc_linking.specs.{Keeping.{all}, Rules.{Field}}
use Rattle.oc_linking.specs.Parts as parts
use Rattle.oc_neutral.specs.{declared.section.Section.{Section}, declared.reloc.Reloc.{Reloc}, Objects.{Object, reloc_at}, Dialects.{Dialect}}
use Rattle.oc_neutral.specs.Faces.{shown_section, shown_symbols, frame_of}
use Rattle.oc_shows.specs.{Again.{HasContents}, Built.{IsField}, Manners.{Manner, own_manner}, Seen.{shown_from, seen, seen_section, seen_reloc, seen_with}}
use Rattle.oc_shows.specs.Shows.{Shows}
use Rattle.oc_target.specs.Fitted.{IsFitted}

-- the symbols of an object that are shown in a manner, by position, with their numbers
abbrev pub shown_in : Manner → Object → List (ℕ × ℕ)
shown_in m n = shown_from 0 (m.lines n)

-- the object that is seen in that manner
abbrev pub seen_in : Manner → Object → Object
seen_in m n = seen_with m n (shown_in m n)

-- at an offset of section k lies a field, which is the relocation as it is seen
pub record IsMadeField (g : Dialect) (m : Manner) (c : List ℕ) (n : Object) (k at : ℕ) (r : Reloc) : Type 0 where
  pub field : Field
  pub here : g.rules.fields c all k at ≡ Some field
  pub is : IsField g c all (seen_in m n) k at (seen_reloc m n (shown_in m n) r) field

-- the file c was made for n: `made` is what is read of the section at a position
pub record IsMadeFile (g : Dialect) (m : Manner) (c : List ℕ) (n : Object) (made : ℕ × Section → parts.Section) : Type 0 where
  pub word : g.rules.word ≡ word_for g.format
  pub manner : own_manner n ≡ m
  -- it has the sections in their order, each with what is seen of it
  pub sections : g.rules.sections c ≡ map made (enumerate_from 0 n.sections)
  pub frames : (k : ℕ) (s : Section) → slice_get n.sections k ≡ Some s → frame_of (shown_section n.groups (seen_section m n (k, s))) ≡ frame_of (made (k, s))
  pub contents : (k : ℕ) (s : Section) → slice_get n.sections k ≡ Some s → HasContents (seen_in m n) k (seen_section m n (k, s)) (made (k, s)).contents
  -- and the symbols that are seen
  pub symbols : g.rules.symbols c all ≡ shown_symbols (seen_in m n)
  -- it has fields where relocations are, and no others
  pub given : (k : ℕ) (s : Section) → slice_get n.sections k ≡ Some s → (at : ℕ) (r : Reloc) → reloc_at n k at ≡ Some r → IsMadeField g m c n k at r
  pub free : (k : ℕ) (s : Section) → slice_get n.sections k ≡ Some s → (at : ℕ) → reloc_at n k at ≡ None → g.rules.fields c all k at ≡ None
  pub past : (k at : ℕ) → length n.sections ≤ k → g.rules.fields c all k at ≡ None

-- such a file shows the object that is seen
abbrev pub MadeFileShows : Type 0
MadeFileShows = (g : Dialect) (m : Manner) (c : List ℕ) (n : Object) (made : ℕ × Section → parts.Section)
    → IsFitted g.format n → IsMadeFile g m c n made → Shows g c all (seen n)
