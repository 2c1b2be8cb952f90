-- The listings of an object that was read whole (our profile). They are those of the file (Listings).
use Rattle.std.specs.{Prelude.{ℕ, ◌+◌, List, [], length, slice_get}, List.{flat_map, range_with_len}, Option.{option_map_or}}
use Rattle.oc_base.specs.{declared.format.Word.{Word}, Formats.{word_for}}
use Rattle.oc_linking.specs.{declared.terms.Base.{Base}, declared.terms.Binding.{Binding}}
use Rattle.oc_linking.specs.{declared.terms.Binding.TheVariants.{Local, Global, Undefined, Common, Weak}, declared.terms.Fallback.{Fallback}}
use Rattle.oc_linking.specs.{declared.terms.Less.{Less}, declared.terms.Value.{Value}, Numbers.{minus, reduced}}
use Rattle.oc_linking.specs.declared.terms.Base.TheVariants as base
use Rattle.oc_linking.specs.declared.terms.Fallback.TheVariants as fallback
use Rattle.oc_linking.specs.declared.terms.Less.TheVariants as less
use Rattle.oc_linking.specs.declared.terms.Value.TheVariants as value
use Rattle.oc_algebra.specs.Residues.{residue_of}
use Rattle.oc_chains.specs.{declared.field.Field.{Field}, Lists.{held_in, list_of}}
use Rattle.oc_neutral.specs.{declared.reloc.Reloc.{Reloc}, declared.reloc.Target.{Target}, declared.section.Section.{Section}, declared.symbol.Symbol.{Symbol}}
use Rattle.oc_neutral.specs.Objects.{Object}
use Rattle.oc_neutral.specs.declared.reloc.Target.TheVariants as target
use Rattle.oc_listings.specs.{declared.listing.Listing.{Listing}, declared.listing.Listing.TheVariants.{Header, Sections, Relocations}}
use Rattle.oc_listings.specs.Texts.{field_text, header_text, numbered_text, section_text, symbol_text}

-- ... numbers where all sections lie at 0

-- of a value
abbrev pub own_number : Word → Value → ℕ
own_number w (value.Place k offset) = reduced w offset
own_number w (value.Absolute x) = reduced w x

-- of a symbol that is not Weak
abbrev pub strong_number : Word → Binding → ℕ
strong_number w (Local v) = own_number w v
strong_number w (Global v) = own_number w v
strong_number w Undefined = 0
strong_number w (Common size align) = 0
strong_number w (Weak f) = 0

-- of a fallback
abbrev pub fallback_number : Word → List Symbol → Fallback → ℕ
fallback_number w symbols (fallback.Place k offset) = reduced w offset
fallback_number w symbols fallback.Zero = 0
fallback_number w symbols (fallback.Name k) = option_map_or (λ (s : Symbol). strong_number w s.binding) (slice_get symbols k) 0

-- of a symbol
abbrev pub resting_number : Word → List Symbol → Binding → ℕ
resting_number w symbols (Local v) = own_number w v
resting_number w symbols (Global v) = own_number w v
resting_number w symbols Undefined = 0
resting_number w symbols (Common size align) = 0
resting_number w symbols (Weak f) = fallback_number w symbols f

-- of a target
abbrev pub target_number : Word → List Symbol → Target → ℕ
target_number w symbols (target.Section k) = 0
target_number w symbols (target.Symbol k) = option_map_or (λ (s : Symbol). resting_number w symbols s.binding) (slice_get symbols k) 0

-- what a value begins with, for a target of that number
abbrev pub base_number : Base → ℕ → ℕ
base_number base.Address x = x
base_number base.Slot x = 0
base_number base.GotBase x = 0
base_number base.HomeNumber x = 0

-- what is taken from it, at an offset
abbrev pub less_number : Less → ℕ → ℕ
less_number less.Zero offset = 0
less_number less.Place offset = offset
less_number less.GotBase offset = 0
less_number less.ImageBase offset = 0
less_number less.Home offset = 0
less_number (less.Section k) offset = 0

-- the residue of a relocation at an offset
abbrev pub resting_residue : Word → List Symbol → ℕ → Reloc → ℕ
resting_residue w symbols offset r =
    minus w (base_number r.form.base (target_number w symbols r.target) + residue_of w r.addend) (less_number r.form.less offset)

-- ... lines

-- what a relocation names
abbrev pub target_text : Object → Target → List ℕ
target_text n (target.Section k) = numbered_text (option_map_or (λ (s : Section). s.number) (slice_get n.sections k) 0)
target_text n (target.Symbol k) = symbol_text (option_map_or (λ (s : Symbol). s.name) (slice_get n.symbols k) [])

-- the line of a field of a section of that number
abbrev pub reloc_line : Object → ℕ → Field Reloc → List ℕ
reloc_line n number x =
    field_text (word_for n.format) number x.at x.item.form.width x.item.form.check (resting_residue (word_for n.format) n.symbols x.at x.item) (target_text n x.item.target)

-- the number of the section at a position
abbrev pub number_at : Object → ℕ → ℕ
number_at n k = option_map_or (λ (s : Section). s.number) (slice_get n.sections k) 0

-- the lines of the section at a position, one after the other
abbrev pub reloc_text_of : Object → ℕ → List ℕ
reloc_text_of n k = flat_map (reloc_line n (number_at n k)) (list_of n.relocs k)

-- the line of a section
abbrev pub section_line : Section → List ℕ
section_line s = section_text s.number s.kind s.align s.size s.name

-- a listing of the object, which was read from so many bytes
unfoldable pub object_listing : Object → ℕ → Listing → List ℕ
object_listing n bytes Header = header_text n.format (length n.sections) (length n.symbols) (held_in n.relocs) bytes
object_listing n bytes Sections = flat_map section_line n.sections
object_listing n bytes Relocations = flat_map (reloc_text_of n) (range_with_len 0 (length n.sections))
