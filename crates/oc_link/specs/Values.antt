-- The values of an object's symbols and fields where it is placed (our profile).
use Rattle.std.specs.{Prelude.{ℕ, ◌+◌, ◌<◌, Bool, if◌then◌else◌, List, [], ◌∷◌, get_or, length, map, Option, Some, None, slice_get}, Option.{option_map_or}}
use Rattle.oc_base.specs.{declared.format.Word.{Word}, Formats.{word_for}}
use Rattle.oc_linking.specs.{declared.terms.Binding.{Binding}, declared.terms.Less.{Less}, declared.terms.Patch.{Patch}, Numbers.{reduced}}
use Rattle.oc_linking.specs.{Placing.{Placement, Outside, Site}, Values.{Valued, Valuation, site_of, value_of, values}}
use Rattle.oc_linking.specs.{Images.{Patches, emptied, first_at, overflows}, Shows.{object_patches}}
use Rattle.oc_linking.specs.declared.terms.Less.TheVariants as less
use Rattle.oc_chains.specs.declared.field.Field.{Field}
use Rattle.oc_neutral.specs.{declared.section.Section.{Section}, declared.symbol.Symbol.{Symbol}, declared.reloc.Reloc.{Reloc}, Objects.{Object}}
use Rattle.oc_neutral.specs.{Faces.{contents_of, linked_object, shown_binding, shown_symbol, shown_symbols}, Worth.{residue_at}}
use Rattle.oc_place.specs.{declared.spot.Spot.{Spot}, Placings.{Placing, as_site, outside_of, placement_of}, Footprints.{footprint_of}}
use Rattle.oc_link.specs.declared.target.TargetValue.{TargetValue}

-- ... symbols

-- where an object lies
abbrev pub laid : Object → Placing → Placement
laid n x = placement_of (footprint_of n) x

-- what the outside gives its names
abbrev pub given : Object → Placing → Outside
given n x = outside_of (footprint_of n) x

-- the values of its symbols
abbrev pub valued : Object → Placing → Valuation
valued n x = values (word_for n.format) (shown_symbols n) (shown_symbols n) (laid n x) (given n x)

-- the site of a symbol of the object with that name and binding
abbrev pub site_in : Object → Placing → List ℕ → Binding → Site
site_in n x name b = site_of (word_for n.format) (laid n x) (given n x) (shown_symbols n) name (shown_binding n.symbols b)

-- the value of a symbol of the object
abbrev pub value_in : Object → Placing → Symbol → Valued
value_in n x s = value_of (word_for n.format) (laid n x) (given n x) (shown_symbols n) (shown_symbol n.symbols s)

-- the spot of a place: the section's, with the offset added to the address
abbrev pub place_spot : Word → Spot → ℕ → Spot
place_spot w s offset = record { address = reduced w (s.address + offset); home = s.home; number = s.number }

-- the value of a target, as linking speaks of it
abbrev pub as_valued : TargetValue → Valued
as_valued x = record { site = as_site x.spot; slot = x.slot }

-- ... fields

-- the value of a relocation at an offset of a section
abbrev pub value_at : Object → Placing → ℕ → ℕ → Reloc → ℕ
value_at n x s at r = residue_at (word_for n.format) n.symbols (laid n x) (valued n x) s at r

-- its field with that value
abbrev pub patch_at : Object → Placing → ℕ → ℕ → Reloc → Patch
patch_at n x s at r = record { width = r.form.width; check = r.form.check; residue = value_at n x s at r }

-- the value does not fit
abbrev pub overflows_at : Object → Placing → ℕ → ℕ → Reloc → Bool
overflows_at n x s at r = overflows (word_for n.format) (patch_at n x s at r)

-- the offset of the first field that passes the test
abbrev pub first_of : (ℕ → Reloc → Bool) → List (Field Reloc) → Option ℕ
first_of test [] = None
first_of test (f ∷ fields) = if test f.at f.item then Some f.at else first_of test fields

-- all fields with their values
abbrev pub patches : Object → Placing → Patches
patches n x = object_patches (linked_object n) (laid n x) (given n x)

-- the contents of its sections, of which those that are discarded have none
abbrev pub contents : Object → Placing → List (List ℕ)
contents n x = emptied (laid n x).discarded 0 (map contents_of n.sections)

-- the least offset in a section whose field overflows
abbrev pub first_in : Object → Placing → ℕ → Option ℕ
first_in n x s = first_at (overflows (word_for n.format)) (patches n x s) (length (get_or (contents n x) s []))

-- the bytes that the object stores of a section
abbrev pub bytes_of : Object → ℕ → List ℕ
bytes_of n s = option_map_or (λ (y : Section). y.bytes) (slice_get n.sections s) []

-- a section that is taken is among so many
abbrev pub IsLessIn : ℕ → Less → Type 0
IsLessIn count (less.Section k) = k < count
IsLessIn count less.Zero = Unit {0}
IsLessIn count less.Place = Unit {0}
IsLessIn count less.GotBase = Unit {0}
IsLessIn count less.ImageBase = Unit {0}
IsLessIn count less.Home = Unit {0}
