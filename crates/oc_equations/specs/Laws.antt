-- Laws: the edits step by step give what the equations say (our profile).
use Rattle.std.specs.Prelude.{◌≡◌, List, Some, Ok, Err}
use Rattle.oc_base.specs.{declared.fault.Fault.{Fault}, declared.format.Format.{Format}}
use Rattle.oc_linking.specs.FirstFault.{IsFirstFault, first_fault}
use Rattle.oc_linking.specs.Parts as parts
use Rattle.oc_neutral.specs.{Objects.{Object}, Invariants.{IsObject}}
use Rattle.oc_target.specs.{Fitted.{first_unfit}, Fitting.{fit_of}}
use Rattle.oc_drop.specs.Dropping.{dropping_fault, stays}
use Rattle.oc_names.specs.{Wishes.{Wishes}, Kept.{keep_for}, Edited.{edited}, EditedFile.{edited_in}}
use Rattle.oc_equations.specs.{Files.{final_file}, Symbols.{final_symbols}, Faults.{dropping_stages, edit_stages}}
use Rattle.oc_equations.specs.Edited.{edited_object, edited_or_fault, refusal_after_reading, fitted_or_fault}

-- the symbols of an object that was edited are the final ones
abbrev pub SymbolsAreFinal : Type 0
SymbolsAreFinal = (wishes : Wishes) (to : Format) (n m : Object) → IsObject n → edited wishes to n ≡ Ok m → m.symbols ≡ final_symbols wishes to n

-- dropping is refused with the least of its conditions that fails
abbrev pub DroppingFaultIsLeast : Type 0
DroppingFaultIsLeast =
    (wishes : Wishes) (to : Format) (n : Object) → dropping_fault (stays (keep_for wishes n.format to) n) n ≡ first_fault (dropping_stages wishes to n)

-- the edits are refused exactly where a condition fails, with the least that does
abbrev pub EditFaultIsLeast : Type 0
EditFaultIsLeast = (wishes : Wishes) (to : Format) (n : Object) (fault : Fault) → IsObject n
    → (edited wishes to n ≡ Err fault → IsFirstFault (edit_stages wishes to n) fault) × (IsFirstFault (edit_stages wishes to n) fault → edited wishes to n ≡ Err fault)

-- an object that was edited is the one of the equations
abbrev pub EditedIsByParts : Type 0
EditedIsByParts = (wishes : Wishes) (to : Format) (n m : Object) → IsObject n → edited wishes to n ≡ Ok m → m ≡ edited_object wishes to n

-- the edits give that object, or that fault
abbrev pub EditedIsEquations : Type 0
EditedIsEquations = (wishes : Wishes) (to : Format) (n : Object) → IsObject n → edited wishes to n ≡ edited_or_fault wishes to n

-- the refusal after reading is the fault of the edits, or what the target refuses of the edited object
pub record IsRefusal (wishes : Wishes) (to : Format) (n : Object) : Type 0 where
  pub edits : (fault : Fault) → edited wishes to n ≡ Err fault → refusal_after_reading wishes to n ≡ Some fault
  pub target : (m : Object) → edited wishes to n ≡ Ok m → refusal_after_reading wishes to n ≡ first_unfit to m
  -- and the object that is written is the edited one, fitted
  pub written : (m : Object) → edited wishes to n ≡ Ok m → fitted_or_fault wishes to n ≡ Ok (fit_of to m)

abbrev pub RefusalIsLeast : Type 0
RefusalIsLeast = (wishes : Wishes) (to : Format) (n : Object) → IsObject n → IsRefusal wishes to n

-- what the edits make of the symbols of a file, and of the keys of its groups, are the final ones
abbrev pub FileIsFinal : Type 0
FileIsFinal =
    (wishes : Wishes) (from to : Format) (sections : List parts.Section) (symbols : List parts.Symbol) → edited_in wishes from to sections symbols ≡ final_file wishes from to sections symbols
