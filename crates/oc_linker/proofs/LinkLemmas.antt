-- What comes of two files, by what was read of them.
use Rattle.std.proofs.Common.{rules, ◌≡◌, ℕ, ◌<◌, ◌≤◌, Bool, true, false, cond, nat_lt, inl, inr, List, length, Option, None, Some, Result, Ok, Err, refl, sym, ◌∙◌, ap}
use Rattle.std.specs.Option.{ForSome, IsSomeAnd}
use Rattle.std.proofs.lemmas.Bool.{le-ltb, lt-ltb, ltb-true, ltb-false}
use Rattle.oc_base.specs.declared.fault.Fault.{Fault}
use Rattle.oc_linking.specs.Keeping.{all}
use Rattle.oc_neutral.specs.{Objects.{Object}, Dialects.{Dialect}, Invariants.{IsObject}}
use Rattle.oc_outside.specs.{Causes.{Rose}, Held.{Held, file_of}, Reading.{IsAbsent}}
use Rattle.oc_convert.specs.Identified.{identified}
use Rattle.oc_built.specs.Built.{built, IsRead}
use Rattle.oc_place.specs.{Placings.{Placing, placed_in}, Footprints.{FootprintsAgree, footprint_of}, Written.{Bad}}
use Rattle.oc_link.specs.{Laws.{TextsAgree}, Linked.{link_text_in, link_text_of}}
use Rattle.oc_runs.specs.{declared.input.InputFault.{InputFault}, Refusals.{HasRefusal, length_refusal}}
use Rattle.oc_runs.specs.declared.input.InputFault.TheVariants as input
use Rattle.oc_runs.specs.Reports as reports
use Rattle.oc_runs.proofs.Refused.{some_and, short_passed}
use Rattle.oc_linker.specs.{declared.linking.LinkFault.{LinkFault}, Causes.{Explains, ExplainsPlacement, ExplainsText, IsObjectOf, outcome_with, text_outcome}}
use Rattle.oc_linker.specs.Outcomes.{Outcome, Absent, Refusal, Misplacement, LinkText, linking_outcome, object_outcome, link_refusal, outcome_from, outcome_of, placement_outcome}
use Rattle.oc_linker.specs.{Runs.{ComesOf, IsAbsence}, Texts.{long_text, placement_text}}
use Rattle.oc_linker.specs.declared.linking.LinkFault.TheVariants as fault

-- ... the bytes of two files

-- an object that is refused
refused_outcome : (o p : Option (List ℕ)) (f : Fault) → IsSomeAnd o (λ b. link_refusal b ≡ Some f) → outcome_of o p ≡ Refusal f
refused_outcome None p f is = absurd is
refused_outcome (Some b) p f is = ap (object_outcome b p) is

-- what placing gives an object is what it gives the file
text_agrees : (f : Dialect) (b : List ℕ) (n : Object) → ((x : Placing) → link_text_of n x ≡ link_text_in f b x) → (r : Result Placing Bad) → linking_outcome f b r ≡ text_outcome n r
text_agrees f b n texts (Ok x) = ap LinkText (sym (texts x))
text_agrees f b n texts (Err bad) = refl

module _ (footprints : FootprintsAgree) (texts : TextsAgree) where
  -- what comes of an object is what comes of the file that it was read of
  outcome_agrees : (b t : List ℕ) (n : Object) → IsObject n → IsRead all b n → outcome_from b t (identified b) ≡ outcome_with n t
  outcome_agrees b t n fine read =
      let f : Dialect = built.reader read.from in
      ap (outcome_from b t) read.identified ∙ ap (λ footprint. linking_outcome f b (placed_in footprint t)) (sym (footprints f b n read.dialect fine read.shows))
      ∙ text_agrees f b n (texts f b n read.dialect fine read.shows) (placed_in (footprint_of n) t)

  -- the same where the file has no refusal and the placement is not too long
  read_outcome : (o p : Option (List ℕ)) (n : Object) (t : List ℕ) (x : Outcome) → IsObject n → IsSomeAnd o (λ b. link_refusal b ≡ None) → IsSomeAnd o (λ b. IsRead all b n) → p ≡ Some t
      → length t ≤ 67108864 → outcome_with n t ≡ x → outcome_of o p ≡ x
  read_outcome None p n t x fine accepted read placed short comes = absurd accepted
  read_outcome (Some b) p n t x fine accepted read placed short comes =
      ap (object_outcome b p) accepted ∙ ap (placement_outcome b) placed ∙ ap (λ y. cond y (Misplacement long_text) (outcome_from b t (identified b))) (le-ltb 67108864 (length t) short)
      ∙ outcome_agrees b t n fine read ∙ comes

  -- ... files by name

  -- what comes of an object that was read, at a placement that was read
  pub outcome_of_files : (object placement : List ℕ) (files : Option Held) (n : Object) (t : List ℕ) (x : Outcome) → IsObject n → IsObjectOf object files n
      → ForSome files (λ m. file_of placement m ≡ Some t) → length t ≤ 67108864 → outcome_with n t ≡ x → ForSome files (ComesOf object placement x)
  outcome_of_files object placement files n t x fine is held short comes m told =
      read_outcome (file_of object m) (file_of placement m) n t x fine (is.accepted.held m told) (is.read m told) (held m told) short comes

  -- why such an object gives no text
  pub text_explained : (object placement : List ℕ) (files : Option Held) (n : Object) (before after : ℕ) (t : List ℕ) (f : LinkFault) → IsObject n → IsObjectOf object files n
      → ForSome files (λ m. file_of placement m ≡ Some t) → length t ≤ 67108864 → ExplainsText n t f → Explains object placement files before after f
  text_explained object placement files n before after t (fault.Input (input.Refused f)) fine is held short why = absurd why
  text_explained object placement files n before after t (fault.Input input.Unread) fine is held short why = absurd why
  text_explained object placement files n before after t (fault.Input input.NoMemory) fine is held short why = tt
  text_explained object placement files n before after t fault.TooLong fine is held short why = absurd why
  text_explained object placement files n before after t (fault.Placement line code) fine is held short why =
      outcome_of_files object placement files n t (Misplacement (placement_text line code)) fine is held short why

-- a file that is refused for its length is too long
long_refusal : (b : List ℕ) (f : Fault) → length_refusal b ≡ Some f → 67108864 < length b
long_refusal b f refused = by (nat_lt 67108864 (length b)) refl
  where
    by : (t : Bool) → nat_lt 67108864 (length b) ≡ t → 67108864 < length b
    by true e = ltb-true 67108864 (length b) e
    by false e = let none = short_passed b (ltb-false 67108864 (length b) e) in absurd (cc (none, refused))

-- the same of a file that is told
pub long_told : (name : List ℕ) (files : Option Held) (f : Fault) → HasRefusal length_refusal name files (Some f)
    → ForSome files (λ m. IsSomeAnd (file_of name m) (λ t. 67108864 < length t))
long_told name files f is m told = some_and (file_of name m) (λ b refused. long_refusal b f refused) (is.held m told)

-- what comes of a refused object
pub refusal_comes : (object placement : List ℕ) (files : Option Held) (f : Fault) → HasRefusal link_refusal object files (Some f) → ForSome files (ComesOf object placement (Refusal f))
refusal_comes object placement files f is m told = refused_outcome (file_of object m) (file_of placement m) f (is.held m told)
