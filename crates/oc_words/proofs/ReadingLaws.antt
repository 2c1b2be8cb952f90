-- One more word is taken up.
use Rattle.std.proofs.Common.{◌≡◌, ℕ, ◌+◌, Bool, true, false, List, [], ◌∷◌, ◌++◌, length, take, drop, refl, sym, ◌∙◌, ap, subst, add-one}
use Rattle.std.specs.Prelude.{Option, Some, None, Result, Ok, Err, MatchResult, filter, bytes_eq, if◌then◌else◌, slice_get, codes}
use Rattle.std.specs.{Option.{unwrap_or, option_map, option_and_then}, List.{filter_map}}
use Rattle.std.proofs.lemmas.{List.Elements.{filter-append, filter_map-append}, List.{append-nil, take_more}, Option.{slice_get_within, get_or_from_slice_get}}
use Rattle.oc_base.specs.declared.format.Format.{Format}
use Rattle.oc_linking.specs.Numbers.{first_upto}
use Rattle.oc_linking.proofs.Upto.{first_upto_stop}
use Rattle.oc_names.specs.{declared.edit.Choice.{Choice}, declared.edit.Choice.TheVariants.{Auto}, Wishes.{Wishes}}
use Rattle.oc_words.specs.{declared.fault.WordCode.{WordCode}, declared.fault.WordCode.TheVariants.{Conflict, SameFile}, declared.fault.WordFault.{WordFault}}
use Rattle.oc_words.specs.{declared.option.Argument.{Argument}, declared.reading.Names.{Names}, declared.reading.Names.TheVariants.{NoName, Input, Both}}
use Rattle.oc_words.specs.{declared.reading.Reading.{Reading}, Faults.{IsFaultAt, IsFaultOf}, Texts.{behind}, Options.{said_by}}
use Rattle.oc_words.specs.Jobs.{targets, operands, wishes_of, last_choice, conflicts, choice_fault, target_fault, name_fault, fault_after, code_at, bad_at, converted, conversion_of, making_of, job_of}
use Rattle.oc_words.specs.Readings.{IsReadingOf, HasRead, listed, listed_target, with_name, with_target, with_said, renamed, aimed}
use Rattle.oc_words.specs.declared.fault.WordFault.TheVariants as fault
use Rattle.oc_words.specs.declared.option.Argument.TheVariants as said
use Rattle.oc_words.specs.Jobs as jobs

-- ... what one more word adds

-- a list with one more, where there is one
abbrev appended : {X : Type 0} → List X → Option X → List X
appended xs None = xs
appended xs (Some x) = xs ++ x ∷ []

filter_map-more : {X Y : Type 0} (h : X → Option Y) (xs : List X) (x : X) (o : Option Y) → h x ≡ o → filter_map h (xs ++ x ∷ []) ≡ appended (filter_map h xs) o
filter_map-more h xs x None e = filter_map-append h xs (x ∷ []) ∙ rw e (append-nil (filter_map h xs))
filter_map-more h xs x (Some y) e = filter_map-append h xs (x ∷ []) ∙ rw e refl

filter-more : {X : Type 0} (p : X → Bool) (xs : List X) (x : X) (b : Bool) → p x ≡ b → filter p (xs ++ x ∷ []) ≡ (if b then filter p xs ++ x ∷ [] else filter p xs)
filter-more p xs x true e = filter-append p xs (x ∷ []) ∙ rw e refl
filter-more p xs x false e = filter-append p xs (x ∷ []) ∙ rw e (append-nil (filter p xs))

last_choice-append : (before : Choice) (xs : List Choice) (c : Choice) → last_choice before (xs ++ c ∷ []) ≡ c
last_choice-append before [] c = refl
last_choice-append before (x ∷ xs) c = last_choice-append x xs c

last_choice-more : (xs : List Choice) (o : Option Choice) → last_choice Auto (appended xs o) ≡ unwrap_or o (last_choice Auto xs)
last_choice-more xs None = refl
last_choice-more xs (Some c) = last_choice-append Auto xs c

-- the wishes with what is said besides
abbrev more_wishes : Argument → Wishes → Wishes
more_wishes s w = record {
  edits = appended w.edits (jobs.edit_said s);
  debug = unwrap_or (jobs.debug_said s) w.debug;
  exceptions = unwrap_or (jobs.exceptions_said s) w.exceptions;
}

wishes-more : (front : List (List ℕ)) (word : List ℕ) (s : Argument) → said_by word ≡ s → wishes_of (front ++ word ∷ []) ≡ more_wishes s (wishes_of front)
wishes-more front word s e =
    let edits : jobs.edits (front ++ word ∷ []) ≡ appended (jobs.edits front) (jobs.edit_said s) = filter_map-more (λ word. jobs.edit_said (said_by word)) front word _ (ap jobs.edit_said e) in
    let debug : jobs.debug_choice (front ++ word ∷ []) ≡ unwrap_or (jobs.debug_said s) (jobs.debug_choice front)
    = ap (last_choice Auto) (filter_map-more (λ word. jobs.debug_said (said_by word)) front word _ (ap jobs.debug_said e)) ∙ last_choice-more _ (jobs.debug_said s) in
    let exceptions : jobs.exceptions_choice (front ++ word ∷ []) ≡ unwrap_or (jobs.exceptions_said s) (jobs.exceptions_choice front)
    = ap (last_choice Auto) (filter_map-more (λ word. jobs.exceptions_said (said_by word)) front word _ (ap jobs.exceptions_said e)) ∙ last_choice-more _ (jobs.exceptions_said s) in
    rw (edits, debug, exceptions) refl

targets-more : (front : List (List ℕ)) (word : List ℕ) (s : Argument) → said_by word ≡ s → targets (front ++ word ∷ []) ≡ appended (targets front) (jobs.target_said s)
targets-more front word s e = filter_map-more (λ word. jobs.target_said (said_by word)) front word _ (ap jobs.target_said e)

operands-more : (front : List (List ℕ)) (word : List ℕ) (s : Argument) → said_by word ≡ s
    → operands (front ++ word ∷ []) ≡ (if jobs.is_name s then operands front ++ word ∷ [] else operands front)
operands-more front word s e = filter-more (λ word. jobs.is_name (said_by word)) front word _ (ap jobs.is_name e)

-- ... a word that is taken up, and a word at fault

-- the names with one more are those of the words
names_more : (word : List ℕ) (xs : List (List ℕ)) (names : Names) → xs ≡ listed names
    → MatchResult (with_name names word) (λ after. (xs ++ word ∷ [] ≡ listed after) × (name_fault xs word ≡ None)) (λ code. name_fault xs word ≡ Some code)
names_more word xs NoName e = (ap (λ ys. ys ++ word ∷ []) e, ap (λ ys. name_fault ys word) e)
names_more word xs (Input a) e =
    let f : name_fault xs word ≡ (if bytes_eq word a then Some SameFile else None) = ap (λ ys. name_fault ys word) e in
    elim (bytes_eq word a) as (λ b. name_fault xs word ≡ (if b then Some SameFile else None)
    → MatchResult (if b then Err SameFile else Ok (Both a word)) (λ after. (xs ++ word ∷ [] ≡ listed after) × (name_fault xs word ≡ None)) (λ code. name_fault xs word ≡ Some code)) [
      | true ↦ λ f. f
      | false ↦ λ f. (ap (λ ys. ys ++ word ∷ []) e, f)
    ] f
names_more word xs (Both a b) e = ap (λ ys. name_fault ys word) e

-- the target with one more is that of the words
target_more : (to : Format) (xs : List Format) (before : Option Format) → xs ≡ listed_target before
    → MatchResult (with_target before to) (λ after. (xs ++ to ∷ [] ≡ listed_target after) × (target_fault xs ≡ None)) (λ code. target_fault xs ≡ Some code)
target_more to xs None e = (ap (λ ys. ys ++ to ∷ []) e, ap target_fault e)
target_more to xs (Some t) e = ap target_fault e

-- one more word is taken up, or at fault
abbrev IsTakenUp : List (List ℕ) → List ℕ → Argument → Result Reading WordCode → Type 0
IsTakenUp front word s step =
    MatchResult step (λ after. IsReadingOf (front ++ word ∷ []) after × (fault_after front word s ≡ None)) (λ code. fault_after front word s ≡ Some code)

named : (front : List (List ℕ)) (word : List ℕ) (r : Reading) → targets (front ++ word ∷ []) ≡ listed_target r.to → wishes_of (front ++ word ∷ []) ≡ r.wishes
    → operands (front ++ word ∷ []) ≡ operands front ++ word ∷ [] → (step : Result Names WordCode)
    → MatchResult step (λ after. (operands front ++ word ∷ [] ≡ listed after) × (name_fault (operands front) word ≡ None)) (λ code. name_fault (operands front) word ≡ Some code)
    → IsTakenUp front word said.Operand (renamed r step)
named front word r to wishes names (Ok after) m = (record { to = to; wishes = wishes; names = names ∙ m.0 }, m.1)
named front word r to wishes names (Err code) m = m

aimed_at : (front : List (List ℕ)) (word : List ℕ) (to : Format) (r : Reading) → targets (front ++ word ∷ []) ≡ targets front ++ to ∷ [] → wishes_of (front ++ word ∷ []) ≡ r.wishes
    → operands (front ++ word ∷ []) ≡ listed r.names → (step : Result (Option Format) WordCode)
    → MatchResult step (λ after. (targets front ++ to ∷ [] ≡ listed_target after) × (target_fault (targets front) ≡ None)) (λ code. target_fault (targets front) ≡ Some code)
    → IsTakenUp front word (said.Target to) (aimed r step)
aimed_at front word to r targets wishes names (Ok after) m = (record { to = targets ∙ m.0; wishes = wishes; names = names }, m.1)
aimed_at front word to r targets wishes names (Err code) m = m

chosen : (front : List (List ℕ)) (word : List ℕ) (s : Argument) (after : Reading) (b : Bool) → fault_after front word s ≡ (if b then Some Conflict else None)
    → IsReadingOf (front ++ word ∷ []) after → IsTakenUp front word s (if b then Err Conflict else Ok after)
chosen front word s after true f r = f
chosen front word s after false f r = (r, f)

-- a word is taken up
pub taken_up : (front : List (List ℕ)) (word : List ℕ) (s : Argument) (r : Reading) → said_by word ≡ s → IsReadingOf front r → IsTakenUp front word s (with_said r word s)
taken_up front word s r e is = cases s e
  where
    cases : (s : Argument) → said_by word ≡ s → IsTakenUp front word s (with_said r word s)
    cases said.Operand e =
        named front word r (targets-more front word said.Operand e ∙ is.to) (wishes-more front word said.Operand e ∙ is.wishes) (operands-more front word said.Operand e)
        (with_name r.names word) (names_more word (operands front) r.names is.names)
    cases (said.Target to) e =
        aimed_at front word to r (targets-more front word (said.Target to) e) (wishes-more front word (said.Target to) e ∙ is.wishes)
        (operands-more front word (said.Target to) e ∙ is.names) (with_target r.to to) (target_more to (targets front) r.to is.to)
    cases (said.Asks edit) e = (
      record {
        to = targets-more front word (said.Asks edit) e ∙ is.to;
        wishes = wishes-more front word (said.Asks edit) e ∙ ap (more_wishes (said.Asks edit)) is.wishes;
        names = operands-more front word (said.Asks edit) e ∙ is.names;
      },
      refl,
    )
    cases (said.Debug choice) e =
        chosen front word (said.Debug choice) _ (conflicts r.wishes.debug choice) (ap (λ (w : Wishes). choice_fault w.debug choice) is.wishes)
        (record {
          to = targets-more front word (said.Debug choice) e ∙ is.to;
          wishes = wishes-more front word (said.Debug choice) e ∙ ap (more_wishes (said.Debug choice)) is.wishes;
          names = operands-more front word (said.Debug choice) e ∙ is.names;
        })
    cases (said.Exceptions choice) e =
        chosen front word (said.Exceptions choice) _ (conflicts r.wishes.exceptions choice) (ap (λ (w : Wishes). choice_fault w.exceptions choice) is.wishes)
        (record {
          to = targets-more front word (said.Exceptions choice) e ∙ is.to;
          wishes = wishes-more front word (said.Exceptions choice) e ∙ ap (more_wishes (said.Exceptions choice)) is.wishes;
          names = operands-more front word (said.Exceptions choice) e ∙ is.names;
        })
    cases (said.Faulty code) e = refl

-- ... the words so far

-- the words up to the next
take-next : (words : List (List ℕ)) (i : ℕ) (word : List ℕ) → slice_get words i ≡ Some word → take (i + 1) words ≡ take i words ++ word ∷ []
take-next words i word e = take_more words i word (slice_get_within words i word e) ∙ ap (λ x. take i words ++ x ∷ []) (get_or_from_slice_get words i word word e)

-- what is wrong with the word at an index
code_at-there : (words : List (List ℕ)) (i : ℕ) (word : List ℕ) → slice_get words i ≡ Some word → code_at words i ≡ fault_after (take i words) word (said_by word)
code_at-there words i word e = ap (option_and_then (λ word. fault_after (take i words) word (said_by word))) e

-- a word that was taken up is not at fault
pub step_taken : (words : List (List ℕ)) (i : ℕ) (word : List ℕ) (s : Argument) (r after : Reading) → slice_get words i ≡ Some word → s ≡ said_by word
    → first_upto (bad_at words) i ≡ None → IsReadingOf (take i words) r → with_said r word s ≡ Ok after
    → (first_upto (bad_at words) (i + 1) ≡ None) × IsReadingOf (take (i + 1) words) after
step_taken words i word s r after there said clean is ok =
    let taken : IsTakenUp (take i words) word s (Ok after) = subst (IsTakenUp (take i words) word s) ok (taken_up (take i words) word s r (sym said) is) in
    let code : code_at words i ≡ None = code_at-there words i word there ∙ ap (fault_after (take i words) word) (sym said) ∙ taken.1 in
    let here : bad_at words i ≡ None = ap (option_map (λ code. record { index = i; code = code })) code in
    (rw add-one (rw (clean, here) refl), rw (take-next words i word there) taken.0)

-- a word that was not taken up is the first at fault
pub step_bad : (words : List (List ℕ)) (i : ℕ) (word : List ℕ) (s : Argument) (r : Reading) (fault : WordFault) → slice_get words i ≡ Some word → s ≡ said_by word
    → first_upto (bad_at words) i ≡ None → IsReadingOf (take i words) r → IsFaultAt i (with_said r word s) fault → IsFaultOf (conversion_of words) fault
unfolding conversion_of
step_bad words i word s r (fault.Bad index code) there said clean is at =
    let bad : IsTakenUp (take i words) word s (Err code) = subst (IsTakenUp (take i words) word s) at.1 (taken_up (take i words) word s r (sym said) is) in
    let own : code_at words i ≡ Some code = code_at-there words i word there ∙ ap (fault_after (take i words) word) (sym said) ∙ bad in
    let here : bad_at words i ≡ Some (record { index = i; code = code }) = ap (option_map (λ code. record { index = i; code = code })) own in
    let first : first_upto (bad_at words) (length words) ≡ Some (record { index = i; code = code })
    = first_upto_stop (bad_at words) i (length words) _ clean here (slice_get_within words i word there) in
    rw (first, at.0) refl
step_bad words i word s r fault.NoMemory there said clean is at = tt

-- ... the whole

-- the conversion that all the words ask for
pub conversion_of-read : (words : List (List ℕ)) (r : Reading) → HasRead words r → conversion_of words ≡ converted (length words) r.wishes (listed_target r.to) (listed r.names)
unfolding conversion_of
conversion_of-read words r h = rw (h.clean, h.all.to, h.all.wishes, h.all.names) refl

-- `--make=N` and what follows it
pub job_of-made : (words : List (List ℕ)) (first number : List ℕ) → slice_get words 0 ≡ Some first → bytes_eq first (codes "-ds") ≡ false
    → behind (codes "--make=") first ≡ Some number → job_of words ≡ making_of number (drop 1 words)
unfolding job_of
job_of-made [] first number there other e = absurd (cc)
job_of-made (word ∷ words) first number there other e =
    let same : word ≡ first = cc in
    rw (same, other, e) refl
