-- An object that is ready for a target, step by step; and what its file is to the input.
use Rattle.std.proofs.Common.{◌≡◌, ◌^◌, ◌≤◌, ℕ, List, length, None, Result, Ok, Err, sym, ◌∙◌, ap, subst}
use Rattle.std.specs.Prelude.{IfOk, OnOk}
use Rattle.oc_base.specs.{declared.format.Format.{Format}, Formats.{word_for}, declared.stop.Stop.{Stop}}
use Rattle.oc_linking.specs.declared.terms.Keep.{Keep}
use Rattle.oc_linking.specs.Parts as parts
use Rattle.oc_linking.specs.Shows as linking
use Rattle.oc_neutral.specs.{Objects.{Object}, Invariants.{IsObject}, Faces.{linked_object}, Dialects.{Dialect}}
use Rattle.oc_shows.specs.{Readable.{IsReadable}, Shows.{Shows}}
use Rattle.oc_target.specs.{Fitted.{CanFit, IsFit, IsFitted, first_unfit}, Fitting.{fit_of}, Targets.{WritesCanonical}}
use Rattle.oc_target.proofs.SeenLaws.{seen_looks_alike_law}
use Rattle.oc_shows.proofs.ShownComputed.{shown_is_computed}
use Rattle.oc_names.specs.{Wishes.{Wishes}, Edited.{edited}, EditedFile.{edited_in}, EditedShows.{is_folded_after, HasEdited}}
use Rattle.oc_names.proofs.{EditedParts.{edited_parts}, EditedShown.{edited_shows_law}}
use Rattle.oc_equations.specs.Edited.{fitted_or_fault}
use Rattle.oc_equations.proofs.{FiledForms.{file_is_final}, LawProofs.{refusal_is_least}}
use Rattle.oc_convert.specs.{Converted.{IsFaithful, IsReady, edited_file}, Refusals.{kept_of_file}}
use Rattle.oc_convert.proofs.{Firsts.{has_object, refused_by_edited}, Notes.{notes_kept}, Whole.{faithful}}

module _ (wishes : Wishes) (f : Dialect) (to : Format) (b : List ℕ) (n : Object) (is : IsObject n) (shows : Shows f b (kept_of_file wishes f to) n) (m : Object) (made : edited wishes to n ≡ Ok m) where
  abbrev keep : Keep
  keep = kept_of_file wishes f to

  -- what the edits make of the file are its final symbols and keys
  final : edited_in wishes f.format to (f.rules.sections b) (f.rules.symbols b keep) ≡ edited_file wishes f to b
  final = file_is_final wishes f.format to (f.rules.sections b) (f.rules.symbols b keep)

  -- the edited object has the parts of the edited file
  has : HasEdited f b keep (edited_file wishes f to b) m
  has = subst (λ by. HasEdited f b keep by m) final (edited_parts f b wishes to n m is shows made)

  -- it can be fitted
  pub can_fit : word_for to ≡ word_for f.format → length m.symbols ≤ 2 ^ 24 → IsReadable m → CanFit to m
  can_fit word few readable = record {
    word = word ∙ ap word_for (sym has.format);
    few_symbols = few;
    notes = notes_kept wishes f to b (edited_file wishes f to b) m has;
    readable = readable;
  }

  -- and what it is fitted to is ready
  pub is_ready : f.rules.word ≡ word_for f.format → f.rules.fault b keep ≡ None → IsObject m → (x : Object) → first_unfit to m ≡ None → x ≡ fit_of to m → IsFitted to x → IsFit to m x
      → IsReady wishes f to b x
  is_ready word good object x expressible computed fitted fit = record {
    accepted = refused_by_edited wishes f to b n is shows good m made ∙ expressible;
    shown = has_object wishes f to b n is shows;
    converted = ap (fitted_or_fault wishes to) (sym (shown_is_computed f b keep n is shows)) ∙ (refusal_is_least wishes to n is).written m made ∙ ap Ok (sym computed);
    fitted = fitted;
    edited = m;
    is_object = object;
    parts = has;
    shows = subst (λ (by : parts.Edited). linking.Shows f.rules b keep by.symbols (is_folded_after f b keep by.symbols) (linked_object m)) final (edited_shows_law f b wishes to n m is word shows made);
    fit = fit;
  }

  -- so is each that is given
  pub if_ready : f.rules.word ≡ word_for f.format → f.rules.fault b keep ≡ None → IsObject m → (r : Result Object Stop)
      → IfOk r (λ x. x ≡ fit_of to m) → IfOk r (IsFitted to) → IfOk r (IsFit to m) → OnOk r (first_unfit to m ≡ None) → IfOk r (IsReady wishes f to b)
  if_ready word good object (Ok x) computed fitted fit expressible = is_ready word good object x expressible computed fitted fit
  if_ready word good object (Err e) computed fitted fit expressible = tt

-- the file of an object that is ready links as the edited input does
pub ready_faithful : (wishes : Wishes) (f g : Dialect) (canonical : Object → List ℕ) (b : List ℕ) (x : Object) → WritesCanonical g canonical
    → word_for g.format ≡ word_for f.format → IsReady wishes f g.format b x → IsFaithful wishes f g b (canonical x)
ready_faithful wishes f g canonical b x law word ready =
    let keep : Keep = kept_of_file wishes f g.format in
    let by : parts.Edited = edited_file wishes f g.format b in
    faithful f g b (canonical x) keep by (is_folded_after f b keep by.symbols) ready.edited x law.dialect ready.is_object word
    (law.written x ready.fitted) (seen_looks_alike_law g.format x ready.fitted) ready.parts ready.shows ready.fit
