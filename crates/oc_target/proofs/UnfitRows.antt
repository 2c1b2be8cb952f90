-- The first condition that an object breaks, by the order of the lists of our profile: on sections, on symbols, on relocations.
use Rattle.std.proofs.Common.{◌≡◌, false, [], ◌∷◌, map, Some, None, refl}
use Rattle.std.specs.Prelude.{codes, pos, replicate}
use Rattle.oc_base.specs.declared.code.Code.TheVariants as code
use Rattle.oc_base.specs.{declared.fault.Phase.TheVariants.{TargetSection, TargetSymbol, TargetRelocation}, declared.format.Format.TheVariants.{Elf32, Omf}}
use Rattle.oc_linking.specs.{declared.terms.Base.TheVariants.{Address}, declared.terms.Binding.{Binding}, declared.terms.Binding.TheVariants.{Undefined, Weak}}
use Rattle.oc_linking.specs.{declared.terms.Check.{Check}, declared.terms.Check.TheVariants.{Wrap, Signed}, declared.terms.Hint.TheVariants.{Plain}}
use Rattle.oc_linking.specs.{declared.terms.Kind.{Kind}, declared.terms.Width.TheVariants.{Four}}
use Rattle.oc_linking.specs.declared.terms.Fallback.TheVariants as fallback
use Rattle.oc_linking.specs.declared.terms.Kind.TheVariants as kind
use Rattle.oc_linking.specs.declared.terms.Less.TheVariants as less
use Rattle.oc_linking.specs.declared.terms.Mark.TheVariants as mark
use Rattle.oc_linking.specs.declared.terms.Visibility.TheVariants as vis
use Rattle.oc_algebra.specs.{Fields.{to_field_of, field_for}, Residues.{reduced_number, residue_of}}
use Rattle.oc_chains.specs.Fields.{field}
use Rattle.oc_neutral.specs.declared.reloc.Target.TheVariants as target
use Rattle.oc_target.specs.Fitted.{first_unfit}
use Rattle.oc_neutral.specs.{HomeNames.{output_names, wanted_names}, Objects.{Object}, Relocated.{is_relocated}, Shifts.{field_shift}, Spelling.{written_row}}
use Rattle.oc_neutral.specs.{TargetRelocations.{reloc_conditions}, TargetSections.{section_conditions, section_stages}}
use Rattle.oc_neutral.specs.TargetSymbols.{symbol_conditions, symbol_stages}

-- an object of one section of that kind, number 3, one symbol of that binding, number 5, and a distance to it of that check at offset 8
abbrev small : Kind → Binding → Check → Object
small kind binding check = record {
  format = Elf32;
  groups = [];
  sections = record { name = codes ".x"; kind = kind; align = 4; size = 16; bytes = replicate 16 0; tag = 0; number = 3; group = None } ∷ [];
  symbols = record { name = codes "f"; binding = binding; mark = mark.NoType; vis = vis.Default; size = 0; pinned = false; number = 5 } ∷ [];
  relocs = (field 8 4 (record { target = target.Symbol 0; form = record { base = Address; less = less.Place; width = Four; check = check }; addend = pos 0; hint = Plain }) ∷ []) ∷ [];
}

-- each condition alone, and before the ones behind it
first-rows : map (first_unfit Omf) (
    small kind.Code Undefined Wrap
    ∷ small kind.Init Undefined Wrap
    ∷ small kind.Init (Weak fallback.Zero) Signed
    ∷ small kind.Code (Weak fallback.Zero) Wrap
    ∷ small kind.Code (Weak fallback.Zero) Signed
    ∷ small kind.Code Undefined Signed
    ∷ []) ≡
    None
    ∷ Some (record { phase = TargetSection; index = 3; code = code.KindUnavailable; place = 0 })
    ∷ Some (record { phase = TargetSection; index = 3; code = code.KindUnavailable; place = 0 })
    ∷ Some (record { phase = TargetSymbol; index = 5; code = code.WeakForm; place = 0 })
    ∷ Some (record { phase = TargetSymbol; index = 5; code = code.WeakForm; place = 0 })
    ∷ Some (record { phase = TargetRelocation; index = 3; code = code.NoForm; place = 8 })
    ∷ []
unfolding first_unfit section_stages section_conditions symbol_stages symbol_conditions reloc_conditions output_names wanted_names is_relocated field_shift written_row to_field_of field_for reduced_number residue_of
first-rows = refl
