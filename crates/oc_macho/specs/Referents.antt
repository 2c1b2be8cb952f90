-- What relocation entries refer to, as far as the conditions on them ask (our profile).
use Rattle.std.specs.{Prelude.{Bool, true, false, not, ◌&&◌, is_some, Option, Some, None}, Option.{option_map_or}}
use Rattle.oc_linking.specs.{Rules.{Named, Symbolic, Sectional}, declared.terms.Base.TheVariants.{Slot}, declared.terms.Binding.{Binding}}
use Rattle.oc_linking.specs.declared.terms.Binding.TheVariants.{Local, Global, Undefined, Common, Weak}
use Rattle.oc_linking.specs.declared.terms.Value.TheVariants as value
use Rattle.oc_neutral.specs.{Mach.Relocs.{MachRow}, Rows.{same_base}}
use Rattle.oc_macho.specs.{declared.referent.Referent.{Referent}, declared.referent.Referent.TheVariants.{Nothing, Unfit, Fit}}
use Rattle.oc_macho.specs.{declared.relocation_info.Reference.{Reference}, Tables.{Tables}, Aims.{Aim, aim_in}}

-- a name is that of a symbol that is seen by all files
abbrev pub is_symbolic : Named → Bool
is_symbolic (Symbolic j) = true
is_symbolic (Sectional k) = false

-- whether the target is seen by all files, and whether it has a place that no other definition can change
abbrev pub fit_for : Aim → Referent
fit_for a = Fit (is_symbolic a.target.named) (is_some a.place)

abbrev pub referent_by : Option (Option Aim) → Referent
referent_by None = Nothing
referent_by (Some None) = Unfit
referent_by (Some (Some a)) = fit_for a

-- what a reference is to
abbrev pub referent_in : Tables → Reference → Referent
referent_in t r = referent_by (aim_in t r)

-- what a symbol of that binding is, where it is carried
abbrev pub of_binding : Binding → Referent
of_binding (Local (value.Place s offset)) = Fit false true
of_binding (Local (value.Absolute n)) = Unfit
of_binding (Global (value.Place s offset)) = Fit true true
of_binding (Global (value.Absolute n)) = Fit true false
of_binding Undefined = Fit true false
of_binding (Common size align) = Fit true false
of_binding (Weak f) = Fit true false

-- ... the conditions on what entries refer to

abbrev pub is_nothing : Referent → Bool
is_nothing Nothing = true
is_nothing Unfit = false
is_nothing (Fit external placed) = false

-- a field of that type cannot have it as its target
abbrev pub cannot_be_target : Bool → Referent → Bool
cannot_be_target slot Nothing = false
cannot_be_target slot Unfit = true
cannot_be_target slot (Fit external placed) = slot && not external

-- it cannot be taken
abbrev pub cannot_be_taken : Referent → Bool
cannot_be_taken Nothing = false
cannot_be_taken Unfit = true
cannot_be_taken (Fit external placed) = not placed

-- the type of an entry reads a slot
abbrev pub reads_slot : Option MachRow → Bool
reads_slot row = option_map_or (λ (m : MachRow). same_base m.row.base Slot) row false
