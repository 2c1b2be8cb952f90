-- The fields of an edited object (our profile): each relocation by the final form of what it names, and the constants.
use Rattle.std.specs.{Prelude.{ℕ, ℤ, if◌then◌else◌, List, slice_get, filter_map, Option, Some, None}, Option.{option_map, option_and_then, option_map_or}}
use Rattle.oc_base.specs.{declared.format.Format.{Format}, Formats.{word_for}}
use Rattle.oc_linking.specs.{declared.terms.Patch.{Patch}}
use Rattle.oc_algebra.specs.Residues.{reduced_number, residue_of}
use Rattle.oc_chains.specs.{declared.field.Field.{Field}, Lists.{list_of}}
use Rattle.oc_neutral.specs.{declared.section.Section.{Section}, declared.symbol.Symbol.{Symbol}, declared.reloc.Target.{Target}, declared.reloc.Reloc.{Reloc}}
use Rattle.oc_neutral.specs.{Objects.{Object, reloc_at}, Normal.{Place, local_place, moved_addend, cancels}, Without.{moved_target, moved_less}}
use Rattle.oc_neutral.specs.declared.reloc.Target.TheVariants as target
use Rattle.oc_names.specs.Wishes.{Wishes}
use Rattle.oc_equations.specs.Symbols.{final_form, kept, staying}

module _ (wishes : Wishes) (to : Format) (n : Object) where
  -- the place of a target that is a Local with a place in the end
  abbrev pub final_place : Target → Option Place
  final_place (target.Section k) = None
  final_place (target.Symbol k) = option_and_then (λ (s : Symbol). local_place (final_form wishes.edits n.symbols s)) (slice_get n.symbols k)

  -- such a target becomes the section of its place
  abbrev pub final_target : Target → Target
  final_target t = option_map_or (λ (place : Place). target.Section place.0) (final_place t) t

  -- and its offset joins the addend, where the base is the address
  abbrev pub final_addend : Reloc → ℤ
  final_addend r = option_map_or (λ (place : Place). reduced_number (word_for n.format) (moved_addend r.form.base r.addend place.1)) (final_place r.target) r.addend

  -- the address of a section less that of the same section is a constant
  abbrev pub constant : Reloc → Option ℤ
  constant r = if cancels r.form.base (final_target r.target) r.form.less then Some (final_addend r) else None

  -- the relocation: it names sections and symbols by their positions among those that stay
  abbrev pub final_reloc : Reloc → Reloc
  final_reloc r = record {
    target = moved_target (kept wishes to n) (staying wishes to n) (final_target r.target);
    form = record { base = r.form.base; less = moved_less (kept wishes to n) r.form.less; width = r.form.width; check = r.form.check };
    addend = final_addend r;
    hint = r.hint;
  }

  -- a field that is no constant
  abbrev pub final_field : Field Reloc → Option (Field Reloc)
  final_field x = option_map_or (λ c. None) (constant x.item) (Some (record { at = x.at; width = x.width; item = final_reloc x.item }))

  -- the fields of the section at a position of the input
  abbrev pub final_fields : ℕ × Section → List (Field Reloc)
  final_fields x = filter_map final_field (list_of n.relocs x.0)

  -- the constant that the field of a relocation holds
  abbrev pub constant_patch : Reloc → Option Patch
  constant_patch r = option_map (λ c. record { width = r.form.width; check = r.form.check; residue = residue_of (word_for n.format) c }) (constant r)

  -- the constants of the section at a position of the input, by their offsets
  abbrev pub constants : ℕ → ℕ → Option Patch
  constants k at = option_and_then constant_patch (reloc_at n k at)
