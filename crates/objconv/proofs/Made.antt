-- The conversion of what was made.
use Rattle.std.proofs.Common.{◌≡◌, ℕ, ◌≤◌, false, List, length, Some, None, sym, ◌∙◌, ap, subst}
use Rattle.std.proofs.lemmas.Option.{none-some}
use Rattle.oc_base.specs.{declared.fault.Fault.{Fault}, declared.format.Format.{Format}, Formats.{word_for}}
use Rattle.oc_neutral.specs.Families.{is_many}
use Rattle.oc_names.specs.Wishes.{Wishes, no_wishes}
use Rattle.oc_made.specs.Files.{made_bytes}
use Rattle.oc_making.proofs.Making.{made_is_accepted, made_is_short}
use Rattle.oc_convert.specs.Dispatched.{dispatch_refusal, IsDispatched}
use Rattle.oc_built.specs.Built.{built}
use Rattle.objconv.specs.Making.{IsMadeOutput, making_refusal}
use Rattle.oc_runs.proofs.Refused.{rest_next}

module _ (count : ℕ) (to : Format) (few : count ≤ 100000) (plain : is_many to ≡ false) where
  -- it is refused nowhere
  accepted : making_refusal count to ≡ None
  accepted = rest_next (dispatch_refusal built no_wishes to) (made_bytes count (word_for to)) (made_is_short (word_for to) count few) ∙ made_is_accepted to count plain few

  -- what is planned for it is the output
  pub made_planned : (read : List ℕ) → read ≡ made_bytes count (word_for to) → (wishes : Wishes) → wishes ≡ no_wishes → (file : List ℕ) → IsDispatched built wishes to read file → IsMadeOutput count to file
  made_planned read same wishes none file dispatched = record {
    accepted = accepted;
    dispatched = subst (λ (b : List ℕ). IsDispatched built no_wishes to b file) same (subst (λ (w : Wishes). IsDispatched built w to read file) none dispatched);
  }

  -- and no conversion of it is refused
  pub never_refused : (read : List ℕ) → read ≡ made_bytes count (word_for to) → (wishes : Wishes) → wishes ≡ no_wishes → (fault : Fault) → dispatch_refusal built wishes to read ≡ Some fault → ⊥
  never_refused read same wishes none fault refused =
      none-some fault
      (sym (made_is_accepted to count plain few)
      ∙ ap (dispatch_refusal built no_wishes to) (sym same)
      ∙ ap (λ (w : Wishes). dispatch_refusal built w to read) (sym none)
      ∙ refused)

  -- it is an input of the length that is allowed
  pub made_short : (read : List ℕ) → read ≡ made_bytes count (word_for to) → length read ≤ 67108864
  made_short read same = subst (λ (b : List ℕ). length b ≤ 67108864) (sym same) (made_is_short (word_for to) count few)
