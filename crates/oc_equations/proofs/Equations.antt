-- The edits, step by step, give what the equations say.
use Rattle.std.proofs.Common.{◌≡◌, ℕ, Bool, List, [], ◌∷◌, map, Option, Some, None, Result, Ok, refl, sym, ◌∙◌, ap}
use Rattle.std.specs.{Prelude.{slice_get, filter_map}, Option.{option_and_then}}
use Rattle.oc_base.specs.{declared.fault.Fault.{Fault}, declared.format.Format.{Format}, Formats.{word_for}}
use Rattle.oc_linking.specs.{Numbers.{or_else}, FirstFault.{first_fault, stage_fault}}
use Rattle.oc_chains.specs.{declared.field.Field.{Field}}
use Rattle.oc_neutral.specs.{declared.group.Group.{Group}, declared.section.Section.{Section}, declared.symbol.Symbol.{Symbol}, declared.reloc.Reloc.{Reloc}}
use Rattle.oc_neutral.specs.Objects.{Object}
use Rattle.oc_neutral.specs.{Invariants.{IsObject}, Without.{IsDetached}}
use Rattle.oc_drop.specs.{Steps.{first_field, then_by, unless}, Dropping.{dropped_reference, dropping_fault, left, stays}}
use Rattle.oc_drop.proofs.{Detached.{detached}, DroppedSections.{map_same}}
use Rattle.oc_names.specs.{Wishes.{Wishes}, Kept.{keep_for}, Edited.{edited}}
use Rattle.oc_names.specs.Rebinding.{after_fallbacks, after_relocs, after_words, lists_left, normalized, rebound_object, unfit_fault}
use Rattle.oc_names.specs.Naming.{all_named, edited_group, groups_named, keys_fault, named_object, names_fault, parts_fault}
use Rattle.oc_names.proofs.TurnsWords.{words_are, words_fault}
use Rattle.oc_equations.specs.{Symbols.{final_symbols, kept}, Sections.{final_groups, final_key, final_sections, kept_sections}, Fields.{final_fields}}
use Rattle.oc_equations.specs.{Faults.{dropping_stages, edit_stages, lies_nowhere}, Edited.{edit_fault, edited_object, edited_or_fault, or_refused}}
use Rattle.oc_equations.proofs.Firsts.{or_assoc, or_none, stage_in}
use Rattle.oc_equations.proofs.FinalForms.{fallbacks-told, settled-are, worded, words-told}
use Rattle.oc_equations.proofs.FinalNames.{all-named, group-told, limit-told, names-told}
use Rattle.oc_equations.proofs.FinalKeys.{keys-told}
use Rattle.oc_equations.proofs.FinalParts.{d, groups-told, left_symbols, long-here, references-told, relocs-told, sections-told, unfit-told, w}

-- ... steps

-- a step after one that is refused with the first fault of these, or gives x
chain : {X Y : Type 0} (o : Option Fault) (x : X) (step : X → Result Y Fault) (p : Option Fault) (y : Y) → (o ≡ None → step x ≡ or_refused p y) → then_by step (or_refused o x) ≡ or_refused (or_else o p) y
chain None x step p y next = next refl
chain (Some f) x step p y next = refl

-- a step that is refused with a first fault, and else gives y
stands : {X : Type 0} (o p : Option Fault) (x y : X) → o ≡ p → (o ≡ None → x ≡ y) → unless o x ≡ or_refused p y
stands {X} o p x y same next = by o same next
  where
    by : (o : Option Fault) → o ≡ p → (o ≡ None → x ≡ y) → unless o x ≡ or_refused p y
    by None same next = ap Ok (next refl) ∙ ap (λ q. or_refused q y) same
    by (Some f) same next = ap (λ q. or_refused q y) same

module _ (wishes : Wishes) (to : Format) (n : Object) where
  abbrev stay : List Bool
  stay = kept wishes to n

  -- the fault of the stage at a position
  abbrev stage : ℕ → Option Fault
  stage k = option_and_then (λ s. stage_fault s) (slice_get (edit_stages wishes to n) k)

  pub dropping-told : dropping_fault (stays (keep_for wishes n.format to) n) n ≡ first_fault (dropping_stages wishes to n)
  dropping-told =
      ap (λ o. or_else o (first_field (dropped_reference stay) n)) (sym (stage_in (λ s. lies_nowhere wishes to n s ∷ []) n.symbols))
      ∙ ap (or_else (stage 0)) (references-told wishes to n ∙ sym (or_none (stage 1)))

  module _ (fine : IsObject n) (none : IsDetached stay n) where
    abbrev left_object : Object
    left_object = d wishes to n fine none

    abbrev xs : List Symbol
    xs = left_symbols wishes to n fine none

    words-step : after_words wishes.edits left_object.symbols ≡ or_refused (stage 2) (worded wishes.edits stay n fine (long-here wishes to n) none)
    words-step =
        words_are wishes.edits left_object.symbols
        ∙ stands (words_fault wishes.edits left_object.symbols) (stage 2) _ _ (words-told wishes.edits stay n fine (long-here wishes to n) none) (λ e. refl)

    fallbacks-step : then_by after_fallbacks (after_words wishes.edits left_object.symbols) ≡ or_refused (or_else (stage 2) (stage 3)) xs
    fallbacks-step =
        ap (then_by after_fallbacks) words-step
        ∙ chain (stage 2) (worded wishes.edits stay n fine (long-here wishes to n) none) after_fallbacks (stage 3) xs
        (λ e. stands _ (stage 3) _ xs (fallbacks-told wishes.edits stay n fine (long-here wishes to n) none) (λ f. settled-are wishes.edits stay n fine (long-here wishes to n) none))

    abbrev object_with : List Group → List Section → List Symbol → List (List (Field Reloc)) → Object
    object_with groups sections symbols relocs = record { format = n.format; groups = groups; sections = sections; symbols = symbols; relocs = relocs }

    -- the object before it gets its names
    abbrev rebuilt : Object
    rebuilt = object_with left_object.groups (final_sections wishes to n) xs (map (final_fields wishes to n) (kept_sections wishes to n))

    rebound-step : rebound_object wishes.edits left_object ≡ or_refused (or_else (or_else (stage 2) (stage 3)) (stage 4)) rebuilt
    rebound-step =
        ap (then_by (after_relocs left_object)) fallbacks-step
        ∙ chain (or_else (stage 2) (stage 3)) xs (after_relocs left_object) (stage 4) rebuilt
        (λ e. stands (first_field (unfit_fault (word_for n.format) xs) left_object) (stage 4) (normalized left_object xs) rebuilt (unfit-told wishes to n fine none)
        (λ clean.
        ap (λ ss. object_with left_object.groups ss xs (lists_left (w wishes to n fine none) xs left_object.relocs)) (sections-told wishes to n fine none clean)
        ∙ ap (object_with left_object.groups (final_sections wishes to n) xs) (relocs-told wishes to n fine none)))

    groups-named : groups_named wishes.edits n.format to xs left_object.groups ≡ final_groups wishes to n
    groups-named =
        map_same (edited_group wishes.edits n.format to xs) (λ (g : Group). record { key = final_key wishes to n g.key }) left_object.groups (λ k g here. group-told wishes to n fine none g)
        ∙ ap (λ gs. map (λ (g : Group). record { key = final_key wishes to n g.key }) (filter_map (slice_get n.groups) gs)) (groups-told wishes to n fine none)

    named-step : named_object wishes.edits to rebuilt ≡ or_refused (or_else (stage 5) (or_else (stage 6) (stage 7))) (edited_object wishes to n)
    named-step =
        stands (parts_fault wishes.edits n.format to rebuilt.sections rebuilt.groups xs) (or_else (stage 5) (or_else (stage 6) (stage 7))) _ (edited_object wishes to n)
        (ap (λ o. or_else o (or_else (names_fault (all_named wishes.edits n.format to xs)) (keys_fault rebuilt.sections (groups_named wishes.edits n.format to xs left_object.groups)))) (limit-told wishes to n)
        ∙ ap (or_else (stage 5))
        (ap (λ ys. or_else (names_fault ys) (keys_fault rebuilt.sections (groups_named wishes.edits n.format to xs left_object.groups))) (all-named wishes to n)
        ∙ ap (λ o. or_else o (keys_fault rebuilt.sections (groups_named wishes.edits n.format to xs left_object.groups))) (names-told wishes to n)
        ∙ ap (or_else (stage 6)) (ap (keys_fault rebuilt.sections) groups-named ∙ keys-told wishes to n fine none)))
        (λ e.
        ap (λ ys. object_with (groups_named wishes.edits n.format to xs left_object.groups) rebuilt.sections ys rebuilt.relocs) (all-named wishes to n)
        ∙ ap (λ gs. object_with gs rebuilt.sections (final_symbols wishes to n) rebuilt.relocs) groups-named)

    abbrev rest : Option Fault
    rest = or_else (stage 2) (or_else (stage 3) (or_else (stage 4) (or_else (stage 5) (or_else (stage 6) (or_else (stage 7) None)))))

    rest-same : or_else (or_else (or_else (stage 2) (stage 3)) (stage 4)) (or_else (stage 5) (or_else (stage 6) (stage 7))) ≡ rest
    rest-same =
        or_assoc (or_else (stage 2) (stage 3)) (stage 4) (or_else (stage 5) (or_else (stage 6) (stage 7)))
        ∙ or_assoc (stage 2) (stage 3) (or_else (stage 4) (or_else (stage 5) (or_else (stage 6) (stage 7))))
        ∙ ap (λ o. or_else (stage 2) (or_else (stage 3) (or_else (stage 4) (or_else (stage 5) (or_else (stage 6) o))))) (sym (or_none (stage 7)))

    -- the steps after dropping
    pub after-dropping : then_by (named_object wishes.edits to) (rebound_object wishes.edits left_object) ≡ or_refused rest (edited_object wishes to n)
    after-dropping =
        ap (then_by (named_object wishes.edits to)) rebound-step
        ∙ chain (or_else (or_else (stage 2) (stage 3)) (stage 4)) rebuilt (named_object wishes.edits to) (or_else (stage 5) (or_else (stage 6) (stage 7))) (edited_object wishes to n) (λ e. named-step)
        ∙ ap (λ o. or_refused o (edited_object wishes to n)) rest-same

  pub edited-told : IsObject n → edited wishes to n ≡ edited_or_fault wishes to n
  edited-told fine = by (dropping_fault stay n) refl
    where
      later : Option Fault
      later = or_else (stage 2) (or_else (stage 3) (or_else (stage 4) (or_else (stage 5) (or_else (stage 6) (or_else (stage 7) None)))))

      all : or_else (dropping_fault stay n) later ≡ edit_fault wishes to n
      all = ap (λ o. or_else o later) (dropping-told ∙ ap (or_else (stage 0)) (or_none (stage 1))) ∙ or_assoc (stage 0) (stage 1) later

      by : (o : Option Fault) → dropping_fault stay n ≡ o
          → then_by (named_object wishes.edits to) (then_by (rebound_object wishes.edits) (unless o (left (keep_for wishes n.format to) n))) ≡ edited_or_fault wishes to n
      by None e = after-dropping fine (detached stay n e) ∙ ap (λ o. or_refused o (edited_object wishes to n)) (sym (ap (λ o. or_else o later) e) ∙ all)
      by (Some f) e = ap (λ o. or_refused o (edited_object wishes to n)) (sym (ap (λ o. or_else o later) e) ∙ all)
