-- The laws.
use Rattle.std.proofs.Common.{◌≡◌, Option, Some, None, Ok, Err, refl, sym, ◌∙◌, ap}
use Rattle.oc_base.specs.{declared.fault.Fault.{Fault}}
use Rattle.oc_linking.specs.{Numbers.{or_else}}
use Rattle.oc_linking.proofs.FirstFaultLaws.{first_fault_is_first}
use Rattle.oc_neutral.specs.{Objects.{Object}}
use Rattle.oc_target.specs.{Fitted.{first_unfit}, Fitting.{fit_of}}
use Rattle.oc_equations.specs.Laws.{DroppingFaultIsLeast, EditFaultIsLeast, EditedIsByParts, EditedIsEquations, RefusalIsLeast, SymbolsAreFinal}
use Rattle.oc_equations.specs.{Faults.{edit_stages}, Edited.{edit_fault, edited_object, or_refused}}
use Rattle.oc_equations.proofs.FirstOnly.{first_only}
use Rattle.oc_equations.proofs.Equations.{dropping-told, edited-told}

-- what was not refused had no fault, and is that
given : {X : Type 0} (o : Option Fault) (x y : X) → or_refused o x ≡ Ok y → (o ≡ None) × (x ≡ y)
given None x y e = (refl, cc)
given (Some f) x y e = absurd (cc)

-- what was refused had that fault
refused : {X : Type 0} (o : Option Fault) (x : X) (f : Fault) → or_refused o x ≡ Err f → o ≡ Some f
refused None x f e = absurd (cc)
refused (Some g) x f e = cc

pub edited_is_equations : EditedIsEquations
edited_is_equations wishes to n fine = edited-told wishes to n fine

pub edited_is_by_parts : EditedIsByParts
edited_is_by_parts wishes to n m fine made = sym (given (edit_fault wishes to n) (edited_object wishes to n) m (sym (edited-told wishes to n fine) ∙ made)).1

pub symbols_are_final : SymbolsAreFinal
symbols_are_final wishes to n m fine made = ap (λ (o : Object). o.symbols) (edited_is_by_parts wishes to n m fine made)

pub dropping_fault_is_least : DroppingFaultIsLeast
dropping_fault_is_least wishes to n = dropping-told wishes to n

pub edit_fault_is_least : EditFaultIsLeast
edit_fault_is_least wishes to n fault fine = (
  (λ made. first_fault_is_first (edit_stages wishes to n) fault (refused (edit_fault wishes to n) (edited_object wishes to n) fault (sym (edited-told wishes to n fine) ∙ made))),
  (λ first. edited-told wishes to n fine ∙ ap (λ o. or_refused o (edited_object wishes to n)) (first_only (edit_stages wishes to n) fault first)),
)

pub refusal_is_least : RefusalIsLeast
refusal_is_least wishes to n fine = record {
  edits = λ fault made. ap (λ o. or_else o (first_unfit to (edited_object wishes to n))) (refused (edit_fault wishes to n) (edited_object wishes to n) fault (sym (edited-told wishes to n fine) ∙ made));
  target = λ m made.
      let is = given (edit_fault wishes to n) (edited_object wishes to n) m (sym (edited-told wishes to n fine) ∙ made) in
      ap (λ o. or_else o (first_unfit to (edited_object wishes to n))) is.0 ∙ ap (first_unfit to) is.1;
  written = λ m made.
      let is = given (edit_fault wishes to n) (edited_object wishes to n) m (sym (edited-told wishes to n fine) ∙ made) in
      ap (λ o. or_refused o (fit_of to (edited_object wishes to n))) is.0 ∙ ap (λ x. Ok (fit_of to x)) is.1;
}
