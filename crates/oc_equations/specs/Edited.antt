-- The edited object, by its parts, and what is refused of it (our profile).
use Rattle.std.specs.Prelude.{map, Option, Some, None, Result, Ok, Err}
use Rattle.oc_base.specs.{declared.fault.Fault.{Fault}, declared.format.Format.{Format}}
use Rattle.oc_linking.specs.{Numbers.{or_else}, FirstFault.{first_fault}}
use Rattle.oc_neutral.specs.Objects.{Object}
use Rattle.oc_target.specs.{Fitted.{first_unfit}, Fitting.{fit_of}}
use Rattle.oc_names.specs.Wishes.{Wishes}
use Rattle.oc_equations.specs.{Symbols.{final_symbols}, Fields.{final_fields}, Sections.{kept_sections, final_sections, final_groups}, Faults.{edit_stages}}

-- a thing, where there is no fault
abbrev pub or_refused : {X : Type 0} → Option Fault → X → Result X Fault
or_refused None x = Ok x
or_refused (Some fault) x = Err fault

module _ (wishes : Wishes) (to : Format) (n : Object) where
  -- the edited object
  abbrev pub edited_object : Object
  edited_object = record {
    format = n.format;
    groups = final_groups wishes to n;
    sections = final_sections wishes to n;
    symbols = final_symbols wishes to n;
    relocs = map (final_fields wishes to n) (kept_sections wishes to n);
  }

  -- the first fault of the edits: of the least condition that fails
  abbrev pub edit_fault : Option Fault
  edit_fault = first_fault (edit_stages wishes to n)

  -- the edited object, or that fault
  abbrev pub edited_or_fault : Result Object Fault
  edited_or_fault = or_refused edit_fault edited_object

  -- the refusal after reading: the first fault of the edits, or else the first condition of the target that the edited object breaks
  abbrev pub refusal_after_reading : Option Fault
  refusal_after_reading = or_else edit_fault (first_unfit to edited_object)

  -- the object that is written: the edited one, fitted to the target, or the first fault of the edits
  abbrev pub fitted_or_fault : Result Object Fault
  fitted_or_fault = or_refused edit_fault (fit_of to edited_object)
