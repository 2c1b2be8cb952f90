-- Editing by one list of edits and then by another is editing by both at once.
use Rattle.std.proofs.Common.{◌≡◌, ℕ, true, List, ◌++◌, append-nil, map, Option, Some, None, Result, Ok, refl, sym, ◌∙◌, ap, subst, arith}
use Rattle.std.specs.{Prelude.{slice_get}, List.{AllByRecursion, fold}, Option.{option_map}}
use Rattle.std.proofs.lemmas.Option.{get_or_from_slice_get, slice_get-map}
use Rattle.oc_base.specs.{declared.fault.Fault.{Fault}, declared.format.Format.{Format}, declared.format.Word.{Word}, Formats.{word_for}}
use Rattle.oc_linking.specs.{declared.terms.Keep.{Keep}, Keeping.{keeps}, Numbers.{or_else}}
use Rattle.oc_chains.specs.Lists.{list_of}
use Rattle.oc_neutral.specs.{declared.group.Group.{Group}, declared.section.Section.{Section}, declared.symbol.Symbol.{Symbol}, Objects.{Object}}
use Rattle.oc_neutral.specs.Invariants.{IsObject}
use Rattle.oc_names.specs.{declared.edit.Edit.{Edit}, Kept.{keep_for}}
use Rattle.oc_names.specs.Rebinding.{after_fallbacks, after_relocs, after_words, bindings_of, fallback_fault, normalized, rebound_object, settled, unfit_fault, with_constant}
use Rattle.oc_names.specs.Naming.{all_named, count_fault, count_named, groups_named, keys_fault, named, named_object, names_fault, with_names}
use Rattle.oc_names.specs.{EditedFile.{after_all}, Turns.{CanFollow, EditsInTurn}}
use Rattle.oc_drop.specs.{Steps.{first_field, first_in, then_by, unless}, Dropping.{dropping_fault, dropped, left, stays}}
use Rattle.oc_drop.proofs.{DroppedSections.{map_twice}, StepLaws.{unless_ok}, NothingDropped.{dropped_same}}
use Rattle.oc_names.proofs.{EditSteps.{after, HasSteps, steps_of}, NormalFields.{IsFrame, frame_fold, numbered_from}}
use Rattle.oc_names.proofs.{TurnsSymbols.{all_named_twice, count_twice, no_further}, TurnsKeys.{groups_twice}}
use Rattle.oc_names.proofs.{TurnsWords.{MayPass, both, words_are, words_fault, words_joined, words_pass}, TurnsFallbacks.{binding_named, fallbacks_again}}
use Rattle.oc_names.proofs.{TurnsObjects.{relocs_again}, TurnsOrigins.{AreTurned, d_is, free, long, turned}}
use Rattle.oc_neutral.proofs.LeftParts.{section_from}

-- ... steps that begin with the same fault, or with none

module _ {X X' : Type 0} (step : X → Result Object Fault) (step' : X' → Result Object Fault) where
  last_step : (o : Option Fault) (x : X) (x' : X') → step x ≡ step' x' → then_by step (unless o x) ≡ then_by step' (unless o x')
  last_step None x x' e = e
  last_step (Some f) x x' e = refl

  module _ {Y Y' : Type 0} (before : Y → Result X Fault) (before' : Y' → Result X' Fault) where
    middle_step : (o : Option Fault) (y : Y) (y' : Y') → then_by step (before y) ≡ then_by step' (before' y') → then_by step (then_by before (unless o y)) ≡ then_by step' (then_by before' (unless o y'))
    middle_step None y y' e = e
    middle_step (Some f) y y' e = refl

    first_step : {Z Z' : Type 0} (first : Z → Result Y Fault) (first' : Z' → Result Y' Fault) (o : Option Fault) (z : Z) (z' : Z')
        → then_by step (then_by before (first z)) ≡ then_by step' (then_by before' (first' z'))
        → then_by step (then_by before (then_by first (unless o z))) ≡ then_by step' (then_by before' (then_by first' (unless o z')))
    first_step first first' None z z' e = e
    first_step first first' (Some f) z z' e = refl

module _ (keep : Keep) (first second : List Edit) (to : Format) (n m : Object) (is : IsObject n) (can : CanFollow first second n) (steps : HasSteps keep first to n m) where
  abbrev from : Format
  from = n.format

  abbrev w : Word
  w = word_for n.format

  abbrev d : Object
  d = left keep n

  -- the symbols after the first words, and with settled fallbacks
  abbrev ws : List Symbol
  ws = steps.ws

  abbrev xs : List Symbol
  xs = after ws

  -- the same after all words
  abbrev vs : List Symbol
  vs = map (after_all second) ws

  abbrev zs : List Symbol
  zs = after vs

  abbrev name_of : Symbol → Symbol
  name_of s = named first from to s

  abbrev settled_name : Symbol → Symbol
  settled_name s = both from to first can.plain (bindings_of ws) s

  abbrev groups : List Group
  groups = groups_named first from to xs d.groups

  -- the object after the first edits
  abbrev made : Object
  made = with_names (normalized d xs) (map name_of xs) groups

  m_is : made ≡ m
  m_is = sym (ap (λ ys. with_names (normalized d xs) ys groups) (ap (λ ys. map name_of xs ++ ys) (no_further first xs can.alone) ∙ append-nil (map name_of xs))) ∙ steps.made

  -- ... all sections that the object has are kept

  kept_kind : (k : ℕ) (s : Section) → slice_get made.sections k ≡ Some s → keeps keep s.kind ≡ true
  kept_kind k s there =
      let u = numbered_from (λ p. fold (with_constant w xs p.0) p.1 (list_of d.relocs p.0)) 0 d.sections k k s (omega arith) there in
      let v = section_from (stays keep n) n (long keep first second to n is can steps.clear ws steps.words) steps.clear k u.0 u.1 in
      let frame : IsFrame u.0 (fold (with_constant w xs k) u.0 (list_of d.relocs k)) = frame_fold w xs k u.0 (list_of d.relocs k) in
      let flag = get_or_from_slice_get (stays keep n) v.0 (keeps keep v.1.kind) true (slice_get-map (λ (s : Section). keeps keep s.kind) n.sections v.0 ∙ ap (option_map (λ (s : Section). keeps keep s.kind)) v.2) in
      ap (λ (s : Section). keeps keep s.kind) (sym u.2) ∙ ap (keeps keep) frame.kind ∙ ap (λ (s : Section). keeps keep s.kind) (sym v.5) ∙ sym flag ∙ v.3

  clean : first_in (fallback_fault (bindings_of ws)) ws ≡ None
  clean = (unless_ok (first_in (fallback_fault (bindings_of ws)) ws) xs xs steps.settle).0

  -- ... what is asked of the symbols

  all_pass : AllByRecursion (MayPass first second) ws
  all_pass = free keep first second to n is can steps.clear ws steps.words

  are : AreTurned first second xs zs
  are = turned keep first second to n is can steps.clear ws steps.words clean

  -- ... the steps

  -- words, of which a fault stops both
  words_second : after_words second (map name_of xs) ≡ unless (words_fault second ws) (map settled_name vs)
  words_second =
      let pass = words_pass from to first can.plain (bindings_of ws) second ws all_pass in
      ap (after_words second) (map_twice name_of (settled (bindings_of ws)) ws)
      ∙ words_are second (map settled_name ws)
      ∙ ap (λ o. unless o (map (after_all second) (map settled_name ws))) pass.fault
      ∙ ap (unless (words_fault second ws)) pass.symbols

  words_both : after_words (first ++ second) d.symbols ≡ unless (words_fault second ws) vs
  words_both = words_joined first second d.symbols ∙ ap (then_by (after_words second)) steps.words ∙ words_are second ws

  -- the last step
  abbrev outcome : ℕ → List Symbol → List Group → Result Object Fault
  outcome count all keyed =
      unless (or_else (count_fault count) (or_else (names_fault all) (keys_fault (normalized d zs).sections keyed))) (with_names (normalized d zs) all keyed)

  names_again : named_object second to (with_names (normalized d zs) (map name_of zs) groups) ≡ named_object (first ++ second) to (normalized d zs)
  names_again =
      ap (λ count. outcome count (all_named second from to (map name_of zs)) (groups_named second from to (map name_of zs) groups)) (sym (count_twice from to first can.plain second can.alone zs are.after))
      ∙ ap (λ all. outcome (count_named (first ++ second) zs) all (groups_named second from to (map name_of zs) groups)) (sym (all_named_twice from to first can.plain second can.alone zs are.after))
      ∙ ap (outcome (count_named (first ++ second) zs) (all_named (first ++ second) from to zs)) (sym (groups_twice from to first can.plain second xs zs are.later are.before are.after d.groups))

  -- all steps: each has the same fault, or none
  steps_again : then_by (named_object second to) (rebound_object second made) ≡ then_by (named_object (first ++ second) to) (rebound_object (first ++ second) d)
  steps_again =
      ap (λ r. then_by (named_object second to) (then_by (after_relocs made) (then_by after_fallbacks r))) words_second
      ∙ first_step (named_object second to) (named_object (first ++ second) to) (after_relocs made) (after_relocs d) after_fallbacks after_fallbacks (words_fault second ws) (map settled_name vs) vs
      (ap (λ r. then_by (named_object second to) (then_by (after_relocs made) r)) (fallbacks_again from to first can.plain second ws all_pass clean)
      ∙ middle_step (named_object second to) (named_object (first ++ second) to) (after_relocs made) (after_relocs d) (first_in (fallback_fault (bindings_of vs)) vs) (map name_of zs) zs
      (ap (then_by (named_object second to))
      (relocs_again d (d_is keep first second to n is can steps.clear ws steps.words) xs zs are.places steps.fits name_of (binding_named from to first can.plain) (map name_of xs) groups)
      ∙ last_step (named_object second to) (named_object (first ++ second) to) (first_field (unfit_fault w zs) d) (with_names (normalized d zs) (map name_of zs) groups) (normalized d zs) names_again))
      ∙ sym (ap (λ r. then_by (named_object (first ++ second) to) (then_by (after_relocs d) (then_by after_fallbacks r))) words_both)

  abbrev edited_by : List Edit → Object → Result Object Fault
  edited_by edits o = then_by (named_object edits to) (then_by (rebound_object edits) (dropped keep o))

  -- nothing more is dropped
  pub in_turn : dropping_fault (stays keep n) n ≡ None → IsObject m → edited_by second m ≡ edited_by (first ++ second) n
  in_turn none is_m =
      let kept = subst (λ (o : Object). (k : ℕ) (s : Section) → slice_get o.sections k ≡ Some s → keeps keep s.kind ≡ true) m_is kept_kind in
      ap (λ r. then_by (named_object second to) (then_by (rebound_object second) r)) (dropped_same m is_m keep kept)
      ∙ ap (λ o. then_by (named_object second to) (rebound_object second o)) (sym m_is)
      ∙ steps_again
      ∙ sym (ap (λ o. then_by (named_object (first ++ second) to) (then_by (rebound_object (first ++ second)) (unless o d))) none)

-- where the steps after dropping give something, nothing stood against that
none_dropped : (after before : Object → Result Object Fault) (x m : Object) (o : Option Fault) → then_by after (then_by before (unless o x)) ≡ Ok m → o ≡ None
none_dropped after before x m None e = refl
none_dropped after before x m (Some f) e = absurd (cc)

pub edits_in_turn_law : EditsInTurn
edits_in_turn_law wishes first second to n m is is_m can made =
    let steps = steps_of (keep_for wishes n.format to) first to n m made in
    let format : m.format ≡ n.format = sym (ap (λ (o : Object). o.format) steps.made) in
    subst (λ f. then_by (named_object second to) (then_by (rebound_object second) (dropped (keep_for wishes f to) m)) ≡ then_by (named_object (first ++ second) to) (then_by (rebound_object (first ++ second)) (dropped (keep_for wishes n.format to) n)))
    (sym format)
    (in_turn (keep_for wishes n.format to) first second to n m is can steps
    (none_dropped (named_object first to) (rebound_object first) (left (keep_for wishes n.format to) n) m (dropping_fault (stays (keep_for wishes n.format to) n) n) made) is_m)
