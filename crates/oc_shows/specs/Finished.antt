-- When a Builder that was given the relocations of a file can finish (our profile).
use Rattle.std.specs.Prelude.{◌≡◌, ℕ, true, List, slice_get, Some, None}
use Rattle.oc_linking.specs.declared.terms.Keep.{Keep}
use Rattle.oc_neutral.specs.{declared.section.Section.{Section}, declared.reloc.Reloc.{Reloc}, Building.{Draft}, Dialects.{Dialect}, GivenTags.{is_blank_type}}
use Rattle.oc_neutral.specs.{Invariants.{IsComplete, IsHinted, NamesOriginal}, Objects.{Object}}
use Rattle.oc_shows.specs.{Built.{RelocMap, HasAdded, IsStarted}, Readable.{IsReadable}}

-- what is given has hints where it can, and names no aliases
pub record AreFinal (n : Object) (given : RelocMap) : Type 0 where
  pub hints : (s at : ℕ) (r : Reloc) → given s at ≡ Some r → IsHinted r
  pub originals : (s at : ℕ) (r : Reloc) → given s at ≡ Some r → NamesOriginal n.symbols r.target

-- nothing is given in a section whose type has no bytes in a file
abbrev pub LeavesBlanks : Object → RelocMap → Type 0
LeavesBlanks n given = (s : ℕ) (x : Section) → slice_get n.sections s ≡ Some x → is_blank_type n.format x.tag ≡ true → (at : ℕ) → given s at ≡ None

-- what was complete before the relocations is complete with them
abbrev pub BuiltIsComplete : Type 0
BuiltIsComplete = (f : Dialect) (b : List ℕ) (keep : Keep) (base d : Draft) (given : RelocMap) → IsStarted f b keep base → HasAdded base d given
    → IsComplete base.object → AreFinal base.object given → IsComplete d.object

-- and what was readable is
abbrev pub BuiltIsReadable : Type 0
BuiltIsReadable = (f : Dialect) (b : List ℕ) (keep : Keep) (base d : Draft) (given : RelocMap) → IsStarted f b keep base → HasAdded base d given
    → IsReadable base.object → LeavesBlanks base.object given → IsReadable d.object
