-- The places to which relocation entries refer, where no other definition can change them (our profile).
use Rattle.std.specs.Prelude.{Bool, true, false, ◌&&◌, not, nat_eq, ℤ, pos, ◌+ℤ◌, ◌-ℤ◌, Option, Some, None}
use Rattle.std.specs.Option.{option_map, option_map_or, option_and_then}
use Rattle.oc_base.specs.declared.format.Word.{Word}
use Rattle.oc_linking.specs.{declared.terms.Width.TheVariants.{Four}, declared.terms.Check.TheVariants.{Wrap, Signed}, declared.terms.Binding.{Binding}}
use Rattle.oc_linking.specs.{declared.terms.Binding.TheVariants.{Local, Global, Undefined, Common, Weak}, Fits.{fits}}
use Rattle.oc_linking.specs.declared.terms.Value.TheVariants as value
use Rattle.oc_algebra.specs.Residues.{residue_of}
use Rattle.oc_neutral.specs.{Normal.{Place}, Rows.{TakesSection, same_taken, same_check}, Mach.Relocs.{MachRow}}
use Rattle.oc_macho_judge.specs.declared.anchors.Anchor.{Anchor}
use Rattle.oc_macho.specs.{declared.relocation_info.Reference.{Reference}, Tables.{Tables}, Aims.{Aim, aim_in}, Fields.{counted_of}, Referents.{is_symbolic}}

-- the anchor of what an entry refers to
abbrev pub anchor_of : Aim → Option Anchor
anchor_of a = option_map (λ (place : Place). record { external = is_symbolic a.target.named; section = place.0; offset = place.1; counted = counted_of a }) a.place

-- that of a reference
abbrev pub anchor_in : Tables → Reference → Option Anchor
anchor_in t r = option_and_then anchor_of (option_and_then (λ aim. aim) (aim_in t r))

-- that of a carried symbol of that binding
abbrev pub anchor_by : Binding → Option Anchor
anchor_by (Local (value.Place s offset)) = Some (record { external = false; section = s; offset = offset; counted = 0 })
anchor_by (Local (value.Absolute n)) = None
anchor_by (Global (value.Place s offset)) = Some (record { external = true; section = s; offset = offset; counted = 0 })
anchor_by (Global (value.Absolute n)) = None
anchor_by Undefined = None
anchor_by (Common size align) = None
anchor_by (Weak f) = None

-- a target less what is taken is a constant: both lie in one section, and no other definition can change the target
abbrev pub are_fixed : Anchor → Anchor → Bool
are_fixed target taken = not target.external && nat_eq target.section taken.section

-- that constant, from the number in the field
abbrev pub constant_by : ℤ → Anchor → Anchor → ℤ
constant_by F target taken = F -ℤ pos target.counted +ℤ pos taken.counted +ℤ (pos target.offset -ℤ pos taken.offset)

-- what is taken is the address of a section, and not every constant fits the field
abbrev pub is_narrow : Option MachRow → Bool
is_narrow row = option_map_or (λ (m : MachRow). same_taken m.row.taken TakesSection && not (same_check m.row.check Wrap)) row false

-- a target less what is taken is a constant that no such field of four bytes can hold
abbrev pub is_wide : Word → ℤ → Anchor → Anchor → Bool
is_wide w F target taken = are_fixed target taken && not (fits w Four Signed (residue_of w (constant_by F target taken)))
