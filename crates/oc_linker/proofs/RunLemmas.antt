-- A run by what comes of its two files.
use Rattle.std.proofs.Common.{◌≡◌, ℕ, ◌⊎◌, slice_get, [], ◌∷◌, inl, inr, List, length, Option, Some, None, refl, sym, ◌∙◌, ap, subst, arith}
use Rattle.std.specs.Option.{ForSome, IsSomeAnd}
use Rattle.oc_base.specs.{declared.fault.Class.{Class}, declared.fault.Class.TheVariants.{Malformed, Refused, Limit}, declared.fault.Fault.{Fault}}
use Rattle.oc_base.specs.{Codes.{class_of}, Messages.{message_of}}
use Rattle.oc_outside.specs.{Causes.{Rose}, Held.{Held}, Texts.{grown, TakesPrefix}}
use Rattle.oc_runs.specs.declared.input.InputFault.TheVariants as input
use Rattle.oc_runs.specs.{Ends.{IsWordless}, Refusals.{HasRefusal}, States.{State, IsRefusal, status_by}, Texts.{Tells}}
use Rattle.oc_linker.specs.{declared.linking.LinkFault.{LinkFault}, Causes.{Explains, IsLinkReported}}
use Rattle.oc_linker.specs.Outcomes.{Outcome, Absent, Refusal, Misplacement, LinkText, link_refusal, status_for}
use Rattle.oc_linker.specs.{Runs.{ComesOf, DoesLink, IsAbsence, IsExactLink, IsLinking}, Texts.{long_text, placement_text, words_text}}
use Rattle.oc_linker.specs.declared.linking.LinkFault.TheVariants as fault
use Rattle.oc_linker.proofs.LinkLemmas.{refusal_comes}

-- the status of a refusal is one of three
refusal_named : (k : Class) → IsRefusal (status_by k)
refusal_named Malformed = inl refl
refusal_named Refused = inr (inl refl)
refusal_named Limit = inr (inr refl)

-- a status that is no refusal's
no_refusal : (status other : ℕ) → status ≡ other → (IsRefusal other → ⊥) → IsRefusal status → ⊥
no_refusal status other named not is = not (subst IsRefusal named is)

-- a refusal's status is no other
is_other : (status other : ℕ) → IsRefusal status → (IsRefusal other → ⊥) → status ≡ other → ⊥
is_other status other is not named = not (subst IsRefusal named is)

-- the statuses that are no refusal's
not_0 : IsRefusal 0 → ⊥
not_0 is = elim is [ inl e ↦ omega (arith, e) | inr (inl e) ↦ omega (arith, e) | inr (inr e) ↦ omega (arith, e) ]

not_3 : IsRefusal 3 → ⊥
not_3 is = elim is [ inl e ↦ omega (arith, e) | inr (inl e) ↦ omega (arith, e) | inr (inr e) ↦ omega (arith, e) ]

not_4 : IsRefusal 4 → ⊥
not_4 is = elim is [ inl e ↦ omega (arith, e) | inr (inl e) ↦ omega (arith, e) | inr (inr e) ↦ omega (arith, e) ]

not_6 : IsRefusal 6 → ⊥
not_6 is = elim is [ inl e ↦ omega (arith, e) | inr (inl e) ↦ omega (arith, e) | inr (inr e) ↦ omega (arith, e) ]

not_7 : IsRefusal 7 → ⊥
not_7 is = elim is [ inl e ↦ omega (arith, e) | inr (inl e) ↦ omega (arith, e) | inr (inr e) ↦ omega (arith, e) ]

not_9 : IsRefusal 9 → ⊥
not_9 is = elim is [ inl e ↦ omega (arith, e) | inr (inl e) ↦ omega (arith, e) | inr (inr e) ↦ omega (arith, e) ]

module _ (object placement : List ℕ) (files : Option Held) where
  -- what comes of two files decides the status
  exact_by : (x : Outcome) (status : ℕ) → ForSome files (ComesOf object placement x) → status ≡ status_for x → IsExactLink object placement files status
  exact_by x status comes named = λ m told. inr (named ∙ sym (ap status_for (comes m told)))

  -- and whether a file is absent
  absent_by : (x : Outcome) → ForSome files (ComesOf object placement x) → IsAbsence object placement files → x ≡ Absent
  absent_by x comes absent = by files refl absent
    where
      by : (told : Option Held) → files ≡ told → IsSomeAnd told (ComesOf object placement Absent) → x ≡ Absent
      by None same is = absurd is
      by (Some m) same is = sym (comes m same) ∙ is

module _ (before after : State) (status : ℕ) where
  -- words that are not two
  pub not_two : (words : List (List ℕ)) → (length words ≡ 2 → ⊥) → IsWordless words_text before status after → DoesLink words before status after
  not_two [] other wordless = wordless
  not_two (object ∷ []) other wordless = wordless
  not_two (object ∷ (placement ∷ [])) other wordless = absurd (other refl)
  not_two (object ∷ (placement ∷ (extra ∷ words))) other wordless = wordless

  -- words that are two
  pub two_words : (words : List (List ℕ)) (object placement : List ℕ) → length words ≡ 2 → slice_get words 0 ≡ Some object → slice_get words 1 ≡ Some placement
      → IsLinking object placement before status after → DoesLink words before status after
  two_words [] object placement two first second does = absurd (omega (arith, two))
  two_words (a ∷ []) object placement two first second does = absurd (omega (arith, two))
  two_words (a ∷ (b ∷ [])) object placement two first second does =
      let x : object ≡ a = cc first in
      let y : placement ≡ b = cc second in
      subst (λ s. IsLinking a s before status after) y (subst (λ s. IsLinking s placement before status after) x does)
  two_words (a ∷ (b ∷ (extra ∷ words))) object placement two first second does = absurd (omega (arith, two))

module _ (object placement : List ℕ) (before after : State) (status : ℕ) where
  -- memory ran out
  linking_memory : status ≡ 7 → IsLinking object placement before status after
  linking_memory seven = record {
    words = λ e. omega (arith, seven, e);
    refused = λ is. absurd (no_refusal status 7 seven not_7 is);
    unread = λ e. absurd (omega (arith, seven, e));
    absent = λ is. inr seven;
    misplaced = λ e. absurd (omega (arith, seven, e));
    linked = λ e. absurd (omega (arith, seven, e));
    partly = λ e. absurd (omega (arith, seven, e));
    exact = λ reads outs m told. inl seven;
  }

  -- the object is refused
  linking_refused : (f : Fault) → HasRefusal link_refusal object before.held (Some f) → status ≡ status_by (class_of f.code)
      → Tells (message_of f) before.told after.told before.err_faults after.err_faults → IsLinking object placement before status after
  linking_refused f has by_class tells =
      let named : IsRefusal status = subst IsRefusal (sym by_class) (refusal_named (class_of f.code)) in
      let comes : ForSome before.held (ComesOf object placement (Refusal f)) = refusal_comes object placement before.held f has in
      record {
        words = is_other status 3 named not_3;
        refused = λ is. record { fault = f; refusal = has; by_class = by_class; told = tells };
        unread = λ e. absurd (is_other status 4 named not_4 e);
        absent = λ is. let no = absent_by object placement before.held (Refusal f) comes is in absurd (cc no);
        misplaced = λ e. absurd (is_other status 9 named not_9 e);
        linked = λ e. absurd (is_other status 0 named not_0 e);
        partly = λ e. absurd (is_other status 6 named not_6 e);
        exact = λ reads outs. exact_by object placement before.held (Refusal f) status comes by_class;
      }

  -- a file was not read
  linking_unread : Rose before.read_faults after.read_faults ⊎ IsAbsence object placement before.held → status ≡ 4 → IsLinking object placement before status after
  linking_unread why four = record {
    words = λ e. omega (arith, four, e);
    refused = λ is. absurd (no_refusal status 4 four not_4 is);
    unread = λ e. why;
    absent = λ is. inl four;
    misplaced = λ e. absurd (omega (arith, four, e));
    linked = λ e. absurd (omega (arith, four, e));
    partly = λ e. absurd (omega (arith, four, e));
    exact = λ reads outs m told. elim why [
      | inl rose ↦ absurd (reads rose)
      | inr absent ↦ inr (four ∙ sym (ap status_for (subst (λ h. IsAbsence object placement h) told absent)))
    ];
  }

  -- the placement is at fault
  linking_misplaced : (text : List ℕ) → ForSome before.held (ComesOf object placement (Misplacement text)) → status ≡ 9
      → Tells text before.told after.told before.err_faults after.err_faults → IsLinking object placement before status after
  linking_misplaced text comes nine tells = record {
    words = λ e. omega (arith, nine, e);
    refused = λ is. absurd (no_refusal status 9 nine not_9 is);
    unread = λ e. absurd (omega (arith, nine, e));
    absent = λ is. let no = absent_by object placement before.held (Misplacement text) comes is in absurd (cc no);
    misplaced = λ e. record { text = text; misplaced = comes; told = tells };
    linked = λ e. absurd (omega (arith, nine, e));
    partly = λ e. absurd (omega (arith, nine, e));
    exact = λ reads outs. exact_by object placement before.held (Misplacement text) status comes nine;
  }

  -- the text was shown whole
  pub linking_shown : (text : List ℕ) → ForSome before.held (ComesOf object placement (LinkText text)) → status ≡ 0 → after.shown ≡ grown text before.shown → IsLinking object placement before status after
  linking_shown text comes zero shown = record {
    words = λ e. omega (arith, zero, e);
    refused = λ is. absurd (no_refusal status 0 zero not_0 is);
    unread = λ e. absurd (omega (arith, zero, e));
    absent = λ is. let no = absent_by object placement before.held (LinkText text) comes is in absurd (cc no);
    misplaced = λ e. absurd (omega (arith, zero, e));
    linked = λ e. record { text = text; linked = comes; shown = shown };
    partly = λ e. absurd (omega (arith, zero, e));
    exact = λ reads outs. exact_by object placement before.held (LinkText text) status comes zero;
  }

  -- a prefix of it was shown
  pub linking_cut : (text : List ℕ) → ForSome before.held (ComesOf object placement (LinkText text)) → status ≡ 6 → Rose before.out_faults after.out_faults
      → TakesPrefix text before.shown after.shown → IsLinking object placement before status after
  linking_cut text comes six rose shown = record {
    words = λ e. omega (arith, six, e);
    refused = λ is. absurd (no_refusal status 6 six not_6 is);
    unread = λ e. absurd (omega (arith, six, e));
    absent = λ is. let no = absent_by object placement before.held (LinkText text) comes is in absurd (cc no);
    misplaced = λ e. absurd (omega (arith, six, e));
    linked = λ e. absurd (omega (arith, six, e));
    partly = λ e. record { text = text; linked = comes; shown = shown };
    exact = λ reads outs. absurd (outs rose);
  }

  -- what explains a fault, and what is told of it
  pub explained : (f : LinkFault) → Explains object placement before.held before.read_faults after.read_faults f
      → IsLinkReported before.told after.told before.err_faults after.err_faults f status → IsLinking object placement before status after
  explained (fault.Input (input.Refused f)) why (inl told) = linking_refused f why told.0 told.1
  explained (fault.Input (input.Refused f)) why (inr told) = linking_memory told.0
  explained (fault.Input input.Unread) why told = linking_unread why told.0
  explained (fault.Input input.NoMemory) why told = linking_memory told.0
  explained fault.TooLong why told = linking_misplaced long_text why told.0 told.1
  explained (fault.Placement line code) why (inl told) = linking_misplaced (placement_text line code) why told.0 told.1
  explained (fault.Placement line code) why (inr told) = linking_memory told.0
