-- Where an object shows a file, it is the file's, and its refusal is the first.
use Rattle.std.proofs.Common.{◌≡◌, ℕ, List, None, Ok, sym, ◌∙◌, ap, subst}
use Rattle.oc_base.specs.{declared.format.Format.{Format}, declared.stop.Stop.{Stop}, Stops.{IsStop}}
use Rattle.oc_base.specs.declared.stop.Stop.TheVariants as stop
use Rattle.oc_linking.specs.{declared.terms.Keep.{Keep}, Numbers.{or_else}}
use Rattle.oc_neutral.specs.{Objects.{Object}, Invariants.{IsObject}, Dialects.{Dialect}}
use Rattle.oc_shows.specs.{Shows.{Shows}, Computed.{object_in}}
use Rattle.oc_target.specs.Fitted.{first_unfit}
use Rattle.oc_shows.proofs.ShownComputed.{shown_is_computed}
use Rattle.oc_drop.specs.Refusals.{IsStepRefusal}
use Rattle.oc_names.specs.{Wishes.{Wishes}, Edited.{edited}}
use Rattle.oc_equations.specs.Edited.{refusal_after_reading}
use Rattle.oc_equations.proofs.LawProofs.{refusal_is_least}
use Rattle.oc_convert.specs.{Converted.{HasObject}, Refusals.{kept_of_file, first_refusal}}

module _ (wishes : Wishes) (f : Dialect) (to : Format) (b : List ℕ) (n : Object) (is : IsObject n) (shows : Shows f b (kept_of_file wishes f to) n) where
  abbrev keep : Keep
  keep = kept_of_file wishes f to

  -- that object is the file's
  pub has_object : HasObject f b keep
  has_object =
      let same : n ≡ object_in f b keep = shown_is_computed f b keep n is shows in
      record { is_object = subst (λ m. IsObject m) same is; shows = subst (λ m. Shows f b keep m) same shows }

  -- its refusal is the first
  pub refused_by_object : f.rules.fault b keep ≡ None → first_refusal wishes f to b ≡ refusal_after_reading wishes to n
  refused_by_object good =
      ap (λ first. or_else first (refusal_after_reading wishes to (object_in f b keep))) good ∙ ap (refusal_after_reading wishes to) (sym (shown_is_computed f b keep n is shows))

  -- a fault of the edits is the first
  pub edit_stands : f.rules.fault b keep ≡ None → (e : Stop) → IsStepRefusal (edited wishes to n) e → IsStop (first_refusal wishes f to b) e
  edit_stands good stop.NoMemory made = tt
  edit_stands good (stop.Refused fault) made = refused_by_object good ∙ (refusal_is_least wishes to n is).edits fault made

  -- where the edits give an object, it is that object's
  pub refused_by_edited : f.rules.fault b keep ≡ None → (m : Object) → edited wishes to n ≡ Ok m → first_refusal wishes f to b ≡ first_unfit to m
  refused_by_edited good m made = refused_by_object good ∙ (refusal_is_least wishes to n is).target m made
