-- What stays of the conditions of all families where an object is seen.
use Rattle.std.proofs.Common.{◌≡◌, ℕ, suc, ◌+◌, ◌≤◌, Bool, true, false, cond, not, ◌&&◌, ◌||◌, List, [], ◌∷◌, length, map, Option, Some, None, refl, sym, ◌∙◌, ap, arith}
use Rattle.std.specs.{Prelude.{find}, List.{AllByRecursion, enumerate_from, list_any}, Option.{option_map_or}}
use Rattle.oc_base.specs.{declared.format.Format.{Format}, Formats.{word_for}}
use Rattle.oc_linking.specs.{declared.terms.Base.{Base}, declared.terms.Fallback.{Fallback}, declared.terms.Binding.{Binding}, declared.terms.Hint.{Hint}}
use Rattle.oc_linking.specs.{declared.terms.Hint.TheVariants.{Plain, Call}, Numbers.{or_else}}
use Rattle.oc_linking.specs.declared.terms.Base.TheVariants as base
use Rattle.oc_linking.specs.declared.terms.Fallback.TheVariants as fallback
use Rattle.oc_algebra.specs.declared.form.Form.{Form}
use Rattle.oc_chains.specs.Lists.{list_of}
use Rattle.oc_neutral.specs.{declared.section.Section.{Section}, declared.symbol.Symbol.{Symbol}, declared.reloc.Reloc.{Reloc}, declared.reloc.Target.{Target}}
use Rattle.oc_neutral.specs.{Objects.{Object, reloc_at}, Bindings.{is_zero}, Normal.{Place, at_section}, Relocated.{stays, is_relocated}}
use Rattle.oc_neutral.specs.Rows.{Row, Taken, TakesPlace, TakesSection, taken_of, same_base, same_width, same_check, same_taken, same_hint}
use Rattle.oc_neutral.specs.{RelocTables.{rows_of}, Spelling.{is_written, row_taking, written_row}, Stored.{is_stored}}
use Rattle.oc_neutral.specs.TargetRelocations.{is_local_number, is_homeless, is_nonlocal, is_target, needs_slot, needs_home, is_wrong_target}
use Rattle.oc_neutral.specs.declared.reloc.Target.TheVariants as target
use Rattle.oc_shows.specs.Manners.{Manner}
use Rattle.oc_shows.specs.Seen.{place_at, new_position, section_place, seen_with, seen_section, seen_binding, seen_fallback, seen_target, seen_reloc, seen_field}
use Rattle.oc_shows.proofs.{SeenAlike.{stands, seen_local}, SeenLines.{IsShown}}
use Rattle.oc_neutral.proofs.Mapped.{list_map}
use Rattle.oc_target.proofs.SeenReady.{IsReady}
use Rattle.oc_canonical.proofs.MapLemmas.{any_mapped}
use Rattle.oc_elf_file.proofs.TableClean.{none_right}

pub none_member : {X : Type 0} (o : Option X) → option_map_or (λ x. false) o false ≡ false
none_member o = grind arith

module _ (m : Manner) (n : Object) (shown : List (ℕ × ℕ)) (is : IsShown n shown) where
  abbrev a : Object
  a = seen_with m n shown

  -- ... sections

  pub sections_long : length a.sections ≡ length n.sections
  sections_long = long 0 n.sections
    where
      long : (i : ℕ) (xs : List Section) → length (map (seen_section m n) (enumerate_from i xs)) ≡ length xs
      long i [] = refl
      long i (x ∷ xs) = ap suc (long (i + 1) xs)

  -- a section has relocations where it had some, if those that are stored are the same
  pub relocated_same : (target : Format) → ((s : ℕ) (r : Reloc) → is_stored target s (seen_reloc m n shown r) ≡ is_stored target s r) → (k : ℕ) → is_relocated target a k ≡ is_relocated target n k
  unfolding is_relocated
  relocated_same target same k =
      ap (list_any (stays target k)) (list_map (seen_field m n shown) n.relocs k)
      ∙ any_mapped (seen_field m n shown) (stays target k) (stays target k) (list_of n.relocs k) (λ x. ap not (same k x.item))

  -- ... targets

  zero_same : (f : Fallback) → is_zero (seen_fallback m n shown f) ≡ is_zero f
  zero_same (fallback.Place k offset) = refl
  zero_same fallback.Zero = refl
  zero_same (fallback.Name k) = by (cond m.places (place_at n k) None)
    where
      by : (o : Option Place) → is_zero (option_map_or (λ (place : Place). fallback.Place place.0 place.1) o (fallback.Name (new_position shown k))) ≡ false
      by o = grind arith

  homeless_same : (b : Binding) → is_homeless (seen_binding m n shown b) ≡ is_homeless b
  homeless_same b = grind arith

  number_same : (b : Binding) → is_local_number (seen_binding m n shown b) ≡ is_local_number b
  number_same b = grind arith

  nonlocal_same : (b : Binding) → is_nonlocal (seen_binding m n shown b) ≡ is_nonlocal b
  nonlocal_same b = ap not (seen_local m n shown is b)

  module _ (ready : IsReady m n) (s at : ℕ) (r : Reloc) (here : reloc_at n s at ≡ Some r) where
    tested : (test : Binding → Bool) → ((b : Binding) → test (seen_binding m n shown b) ≡ test b) → (t : Target) → r.target ≡ t → is_target a test (seen_target shown t) ≡ is_target n test t
    tested test same (target.Section k) own = refl
    tested test same (target.Symbol k) own =
        let y = ready.targets s at r k here own in
        let z = stands m n shown is k y.0 y.1 y.2 in
        ap (λ o. option_map_or (λ (x : Symbol). test x.binding) o false) z.1
        ∙ same y.0.binding
        ∙ sym (ap (λ o. option_map_or (λ (x : Symbol). test x.binding) o false) y.1)

    no_slot : (b : Base) → b ≡ base.Address → (form : Form) → form.base ≡ b → needs_slot form ≡ false
    no_slot b e form own = grind arith

    -- a target that no form can have is none where it was none
    pub target_stays : is_wrong_target n r ≡ false → is_wrong_target a (seen_reloc m n shown r) ≡ false
    target_stays right = by (section_place m n r) refl
      where
        by : (o : Option Place) → section_place m n r ≡ o
            → (is_target a is_local_number (seen_target shown (at_section (word_for n.format) r o).target)
            || (needs_slot (at_section (word_for n.format) r o).form && not (is_target a is_nonlocal (seen_target shown (at_section (word_for n.format) r o).target)))
            || (needs_home (at_section (word_for n.format) r o).form && is_target a is_homeless (seen_target shown (at_section (word_for n.format) r o).target))) ≡ false
        by None e =
            ap (λ b. b || (needs_slot r.form && not (is_target a is_nonlocal (seen_target shown r.target))) || (needs_home r.form && is_target a is_homeless (seen_target shown r.target))) (tested is_local_number number_same r.target refl)
            ∙ ap (λ b. is_target n is_local_number r.target || (needs_slot r.form && not b) || (needs_home r.form && is_target a is_homeless (seen_target shown r.target))) (tested is_nonlocal nonlocal_same r.target refl)
            ∙ ap (λ b. is_target n is_local_number r.target || (needs_slot r.form && not (is_target n is_nonlocal r.target)) || (needs_home r.form && b)) (tested is_homeless homeless_same r.target refl)
            ∙ right
        by (Some place) e =
            ap (λ b. (b && true) || (needs_home r.form && false)) (no_slot base.Address refl r.form (ready.sectional s at r place here e).base)
            ∙ none_right (needs_home r.form)

-- ... formats without types for calls write a call as the plain form

or_twice : {X : Type 0} (o : Option X) → or_else o o ≡ o
or_twice o = grind arith

no_call : (form : Form) (t : Taken) (rows : List Row) → AllByRecursion (λ (r : Row). same_hint r.hint Call ≡ false) rows → find (is_written form Call t) rows ≡ None
no_call form t [] plain = refl
no_call form t (r ∷ rows) plain =
    let fails : is_written form Call t r ≡ false
    = ap (λ b. r.canonical && same_width r.width form.width && same_check r.check form.check && same_base r.base form.base && same_taken r.taken t && b) plain.0
    ∙ none_right (r.canonical && same_width r.width form.width && same_check r.check form.check && same_base r.base form.base && same_taken r.taken t) in
    ap (λ b. cond b (Some r) (find (is_written form Call t) rows)) fails ∙ no_call form t rows plain.1

pub plain_row : (format : Format) → AllByRecursion (λ (r : Row). same_hint r.hint Call ≡ false) (rows_of format) → (form : Form) (hint : Hint) → written_row format form Plain ≡ written_row format form hint
unfolding written_row
plain_row format plain form Plain = refl
plain_row format plain form Call = ap (λ o. or_else o (cond (same_taken (taken_of form.less) TakesPlace) (row_taking format form Plain TakesSection) None)) (taking (taken_of form.less))
    ∙ ap (λ o. or_else (row_taking format form Call (taken_of form.less)) (cond (same_taken (taken_of form.less) TakesPlace) o None)) (taking TakesSection)
  where
    taking : (t : Taken) → row_taking format form Plain t ≡ row_taking format form Call t
    taking t = or_twice (find (is_written form Plain t) (rows_of format)) ∙ sym (ap (λ o. or_else o (find (is_written form Plain t) (rows_of format))) (no_call form t (rows_of format) plain))
