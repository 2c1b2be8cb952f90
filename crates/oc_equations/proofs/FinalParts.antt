-- The parts of an object that is brought to normal form under the final symbols are those of the equations; and the faults of fields are the conditions.
use Rattle.std.proofs.Common.{◌≡◌, ℕ, zero, suc, ◌+◌, Bool, true, false, not, ◌&&◌, cond, List, [], ◌∷◌, length, map, fold, Option, Some, None, Ok, Err, refl}
use Rattle.std.proofs.Common.{sym, ◌∙◌, ap, subst, arith}
use mathlib.Core.Path.{fun_ext}
use Rattle.std.specs.{Prelude.{slice_get, filter_map, nat_eq, ℤ}, List.{cons_option, enumerate_from}, Option.{option_map, option_map_or, option_and_then}}
use Rattle.std.proofs.lemmas.{Bool.{eqb-true}, List.{length-map}, Option.{none-some, slice_get-map, slice_get_within, get_or_from_slice_get}}
use Rattle.oc_base.specs.{declared.code.Code.TheVariants.{FoldTooWide, RelocToDropped}, declared.fault.Fault.{Fault}, declared.format.Format.{Format}}
use Rattle.oc_base.specs.{declared.format.Word.{Word}, Formats.{word_for}}
use Rattle.oc_linking.specs.{declared.terms.Patch.{Patch}, Fits.{fits}, Images.{overlay}, Keeping.{kept_of}}
use Rattle.oc_linking.specs.FirstFault.{first_broken, stage_fault}
use Rattle.oc_algebra.specs.{Fields.{too_wide}, Folds.{low_of, fold_of}, Residues.{residue_of}}
use Rattle.oc_chains.specs.{declared.field.Field.{Field}, Lists.{list_of}}
use Rattle.oc_neutral.specs.{declared.group.Group.{Group}, declared.section.Section.{Section}, declared.symbol.Symbol.{Symbol}, declared.reloc.Reloc.{Reloc}}
use Rattle.oc_neutral.specs.{declared.normal.Normal.{Normal}, Objects.{Object, reloc_among}, Invariants.{AreBegun, IsHeld, IsObject, groups_of}}
use Rattle.oc_neutral.specs.Normal.{normal_of}
use Rattle.oc_neutral.specs.Without.{IsDetached, groups_left, is_dropped, moved_field, moved_reloc, new_position, place_in, refers_to_dropped, regrouped}
use Rattle.oc_neutral.specs.declared.normal.Normal.TheVariants as normal
use Rattle.oc_neutral.proofs.{Positions.{each_at, there_at}, KeptLists.{Stays, kept_there}, LeftParts.{left_object}, LeftObject.{left_is_object, list_there}}
use Rattle.oc_drop.specs.{Steps.{fault_in, field_fault, first_field, first_in}, Dropping.{dropped_reference}}
use Rattle.oc_drop.proofs.{DroppedSections.{map_twice}, NothingDropped.{none_first}}
use Rattle.oc_names.specs.Rebinding.{fault_of, field_of, kept_field, left_in, lists_left, sections_left, stored_fault, unfit_fault, with_constant}
use Rattle.oc_names.specs.Wishes.{Wishes}
use Rattle.oc_equations.specs.{Symbols.{kept, staying}, Fields.{constant, constant_patch, constants, final_field, final_fields, final_reloc}}
use Rattle.oc_equations.specs.Sections.{each_once, final_groups, final_key, final_section, final_sections, kept_groups, kept_sections}
use Rattle.oc_equations.specs.Faults.{each_field, fault_about, is_too_wide, refers_nowhere}
use Rattle.oc_equations.proofs.Firsts.{broken_map, fault_by, first_map, first_same, stage_in, upto_numbered}
use Rattle.oc_equations.proofs.{KeptItems.{first_kept, first_of_kept, kept_at, kept_enumerated, map_kept}, FinalNames.{filter_mapped}, GroupsLeft.{groups-once}}
use Rattle.oc_equations.proofs.{FoldedBytes.{consts, folded-section, patch_by}, FinalFields.{left-told, long, outcome, ys}}

-- ... lists

-- a list that a function made, with its positions
enumerated_map : {X Y : Type 0} (f : X → Y) (a : ℕ) (xs : List X) → enumerate_from a (map f xs) ≡ map (λ (x : ℕ × X). (x.0, f x.1)) (enumerate_from a xs)
enumerated_map f a [] = refl
enumerated_map f a (x ∷ xs) = ap (λ ys. (a, f x) ∷ ys) (enumerated_map f (a + 1) xs)

-- what is made of the positions of those that stay, in lists of one length
positions_kept : {X Y Z : Type 0} (f : ℕ → Z) (a : ℕ) (stay : List Bool) (xs : List X) (zs : List Y) → length xs ≡ length zs
    → map (λ (x : ℕ × X). f x.0) (kept_of stay (enumerate_from a xs)) ≡ map (λ (x : ℕ × Y). f x.0) (kept_of stay (enumerate_from a zs))
positions_kept f a stay [] [] long = refl
positions_kept f a stay [] (z ∷ zs) long = absurd (omega (arith, long))
positions_kept f a stay (x ∷ xs) [] long = absurd (omega (arith, long))
positions_kept {X} {Y} f a [] (x ∷ xs) (z ∷ zs) long = ap (λ ys. f a ∷ ys) (all (a + 1) xs zs (omega (arith, long)))
  where
    all : (a : ℕ) (xs : List X) (zs : List Y) → length xs ≡ length zs → map (λ (x : ℕ × X). f x.0) (enumerate_from a xs) ≡ map (λ (x : ℕ × Y). f x.0) (enumerate_from a zs)
    all a [] [] long = refl
    all a [] (z ∷ zs) long = absurd (omega (arith, long))
    all a (x ∷ xs) [] long = absurd (omega (arith, long))
    all a (x ∷ xs) (z ∷ zs) long = ap (λ ys. f a ∷ ys) (all (a + 1) xs zs (omega (arith, long)))
positions_kept f a (true ∷ stay) (x ∷ xs) (z ∷ zs) long = ap (λ ys. f a ∷ ys) (positions_kept f (a + 1) stay xs zs (omega (arith, long)))
positions_kept f a (false ∷ stay) (x ∷ xs) (z ∷ zs) long = positions_kept f (a + 1) stay xs zs (omega (arith, long))

-- a relocation among fields that a function moved
among_moved : (f : Reloc → Reloc) (xs : List (Field Reloc)) (at : ℕ)
    → reloc_among (map (λ (x : Field Reloc). record { at = x.at; width = x.width; item = f x.item }) xs) at ≡ option_map f (reloc_among xs at)
among_moved f [] at = refl
among_moved f (x ∷ xs) at = by (nat_eq x.at at) (among_moved f xs at)
  where
    rest : List (Field Reloc)
    rest = map (λ (x : Field Reloc). record { at = x.at; width = x.width; item = f x.item }) xs

    by : (b : Bool) → reloc_among rest at ≡ option_map f (reloc_among xs at) → cond b (Some (f x.item)) (reloc_among rest at) ≡ option_map f (cond b (Some x.item) (reloc_among xs at))
    by true e = refl
    by false e = e

-- the first fault of fields, by sections with their positions
pub fields-first : (of : ℕ → Section → Field Reloc → Option Fault) (n : Object)
    → first_field of n ≡ first_in (λ (x : ℕ × Section). first_in (of x.0 x.1) (list_of n.relocs x.0)) (enumerate_from 0 n.sections)
fields-first of n = upto_numbered (λ k s. first_in (of k s) (list_of n.relocs k)) 0 n.sections (fault_in of n) (λ i j e.
    let same : i ≡ j = omega (arith, e) in
    ap (λ k. option_and_then (λ s. first_in (of k s) (list_of n.relocs k)) (slice_get n.sections i)) same)

-- ... fields that refer to what goes

module _ (wishes : Wishes) (to : Format) (n : Object) where
  abbrev stay : List Bool
  stay = kept wishes to n

  abbrev names : List Bool
  names = staying wishes to n

  pub long-here : length n.sections ≡ length stay
  long-here = sym (length-map n.sections _)

  abbrev reference_fault : ℕ × Section → Option Fault
  reference_fault x = first_in (dropped_reference stay x.0 x.1) (list_of n.relocs x.0)

  -- a section that goes has none
  gone_none : (k : ℕ) (x : ℕ × Section) → slice_get (enumerate_from 0 n.sections) k ≡ Some x → slice_get stay k ≡ Some false → reference_fault x ≡ None
  gone_none k x here goes =
      let at = numbered 0 n.sections k x here in
      let same : x.0 ≡ k = omega (arith, at) in
      let dropped : is_dropped stay x.0 ≡ true = ap (is_dropped stay) same ∙ ap not (get_or_from_slice_get stay k false true goes) in
      none_first (dropped_reference stay x.0 x.1) (list_of n.relocs x.0)
      (λ j y there. ap (λ b. cond (not b && refers_to_dropped stay y.item) (Some (field_fault RelocToDropped x.1 y)) None) dropped)
    where
      numbered : (a : ℕ) (xs : List Section) (k : ℕ) (x : ℕ × Section) → slice_get (enumerate_from a xs) k ≡ Some x → x.0 ≡ a + k
      numbered a [] k x here = absurd (none-some x here)
      numbered a (y ∷ xs) zero x here = let e : a ≡ x.0 = first (a, y) here in omega (arith, e)
        where
          first : (z : ℕ × Section) → Some z ≡ Some x → z.0 ≡ x.0
          first z e = cc
      numbered a (y ∷ xs) (suc k) x here = let e = numbered (a + 1) xs k x here in omega (arith, e)

  pub references-told : first_field (dropped_reference stay) n ≡ stage_fault (each_field wishes to n (refers_nowhere wishes to n))
  references-told =
      fields-first (dropped_reference stay) n
      ∙ sym (first_of_kept reference_fault stay (enumerate_from 0 n.sections) gone_none)
      ∙ first_same reference_fault (λ (x : ℕ × Section). first_broken (map (refers_nowhere wishes to n x.1) (list_of n.relocs x.0))) (kept_sections wishes to n) (λ i x here.
      let at = kept_at 0 stay n.sections i x long-here here in
      let same : at.0 ≡ x.0 = (let e = at.1 in omega (arith, e)) in
      let stays : is_dropped stay x.0 ≡ false = ap (is_dropped stay) (sym same) ∙ ap not at.3 in
      first_same (dropped_reference stay x.0 x.1) (λ y. fault_by (refers_nowhere wishes to n x.1 y)) (list_of n.relocs x.0)
      (λ j y there. ap (λ b. cond (not b && refers_to_dropped stay y.item) (Some (field_fault RelocToDropped x.1 y)) None) stays)
      ∙ sym (broken_map (refers_nowhere wishes to n x.1) (list_of n.relocs x.0)))
      ∙ sym (stage_in (λ (x : ℕ × Section). map (refers_nowhere wishes to n x.1) (list_of n.relocs x.0)) (kept_sections wishes to n))

  -- ... fields that are left

  module _ (fine : IsObject n) (none : IsDetached stay n) where
    abbrev pub w : Word
    w = word_for n.format

    abbrev pub d : Object
    d = left_object stay n long-here none

    abbrev pub left_symbols : List Symbol
    left_symbols = ys wishes to n fine none

    pub fine-left : IsObject d
    fine-left = left_is_object stay n fine long-here none

    abbrev moved_one : Field Reloc → Field Reloc
    moved_one = moved_field stay names

    -- a field of a section that stays
    record IsTold (k i : ℕ) (x : Field Reloc) : Type 0 where
      told : left_in w left_symbols i (moved_one x) ≡ outcome wishes to n fine none x.item

    list_moved : (k i : ℕ) (s : Section) → slice_get n.sections k ≡ Some s → Stays stay k → new_position stay k ≡ i → list_of d.relocs i ≡ map moved_one (list_of n.relocs k)
    list_moved k i s here is same =
        ap (list_of d.relocs) (sym same) ∙ list_there stay n fine long-here none k (slice_get_within n.sections k s here) is

    section-there : (k i : ℕ) (s : Section) → slice_get n.sections k ≡ Some s → Stays stay k → new_position stay k ≡ i → slice_get d.sections i ≡ Some (regrouped (groups_left (kept_of stay n.sections)) s)
    section-there k i s here is same =
        ap (slice_get d.sections) (sym same)
        ∙ slice_get-map (regrouped (groups_left (kept_of stay n.sections))) (kept_of stay n.sections) (new_position stay k)
        ∙ ap (option_map (regrouped (groups_left (kept_of stay n.sections)))) (kept_there stay n.sections k s long-here is here)

    field-told : (k i : ℕ) (s : Section) → slice_get n.sections k ≡ Some s → Stays stay k → new_position stay k ≡ i → (j : ℕ) (x : Field Reloc) → slice_get (list_of n.relocs k) j ≡ Some x → IsTold k i x
    field-told k i s here is same j x at =
        let held = each_at (IsHeld n k s.bytes) (list_of n.relocs k) j x (fine.built.fields.each k s here) at in
        let there : slice_get (list_of d.relocs i) j ≡ Some (moved_one x) = ap (λ xs. slice_get xs j) (list_moved k i s here is same) ∙ slice_get-map moved_one (list_of n.relocs k) j ∙ ap (option_map moved_one) at in
        let kept_held = each_at (IsHeld d i s.bytes) (list_of d.relocs i) j (moved_one x) (fine-left.built.fields.each i (regrouped (groups_left (kept_of stay n.sections)) s) (section-there k i s here is same)) there in
        let clear : refers_to_dropped stay x.item ≡ false
        = sym (ap (λ b. not b && refers_to_dropped stay x.item) (ap not is)) ∙ each_at (λ (x : Field Reloc). (not (is_dropped stay k) && refers_to_dropped stay x.item) ≡ false) (list_of n.relocs k) j x (none.fields k s here) at in
        record { told = left-told wishes to n fine none k i x.at x.item held.normal kept_held.normal clear }

    -- the fault of a field
    stored-told : (s t : Section) (x : Field Reloc) → t.number ≡ s.number → (b : Bool) (c : ℕ) → stored_fault t (moved_one x) (cond b (Ok c) (Err too_wide)) ≡ cond (not b) (Some (fault_about s.number FoldTooWide x.at)) None
    stored-told s t x number true c = refl
    stored-told s t x number false c = ap (λ number. Some (fault_about number FoldTooWide x.at)) number

    constant-told : (s t : Section) (x : Field Reloc) → t.number ≡ s.number → (o : Option ℤ) → fault_of w t (moved_one x) (option_map_or (λ c. normal.Constant c) o (normal.Kept (final_reloc wishes to n x.item)))
        ≡ fault_by (option_map_or (λ c. not (fits w x.item.form.width x.item.form.check (residue_of w c))) o false, fault_about s.number FoldTooWide x.at)
    unfolding fold_of
    constant-told s t x number None = refl
    constant-told s t x number (Some c) = stored-told s t x number (fits w x.item.form.width x.item.form.check (residue_of w c)) (low_of x.item.form.width (residue_of w c))

    fault-told : (s t : Section) (i : ℕ) (x : Field Reloc) → t.number ≡ s.number → left_in w left_symbols i (moved_one x) ≡ outcome wishes to n fine none x.item
        → unfit_fault w left_symbols i t (moved_one x) ≡ fault_by (is_too_wide wishes to n s x)
    fault-told s t i x number told = ap (fault_of w t (moved_one x)) told ∙ constant-told s t x number (constant wishes to n x.item)

    abbrev in_place : Section → Section
    in_place s = regrouped (groups_left (kept_of stay n.sections)) s

    pub unfit-told : first_field (unfit_fault w left_symbols) d ≡ stage_fault (each_field wishes to n (is_too_wide wishes to n))
    unfit-told =
        fields-first (unfit_fault w left_symbols) d
        ∙ ap (first_in (λ (x : ℕ × Section). first_in (unfit_fault w left_symbols x.0 x.1) (list_of d.relocs x.0))) (enumerated_map in_place 0 (kept_of stay n.sections))
        ∙ first_map (λ (x : ℕ × Section). first_in (unfit_fault w left_symbols x.0 x.1) (list_of d.relocs x.0)) (λ (x : ℕ × Section). (x.0, in_place x.1)) (enumerate_from 0 (kept_of stay n.sections))
        ∙ first_kept (λ (x : ℕ × Section). first_in (unfit_fault w left_symbols x.0 (in_place x.1)) (list_of d.relocs x.0)) (λ (x : ℕ × Section). first_broken (map (is_too_wide wishes to n x.1) (list_of n.relocs x.0))) 0 0 stay n.sections long-here
        (λ k i j s e h here is.
        let at : new_position stay k ≡ i = omega (arith, e) in
        let same : k ≡ j = omega (arith, h) in
        ap (first_in (unfit_fault w left_symbols i (in_place s))) (list_moved k i s here is at)
        ∙ first_map (unfit_fault w left_symbols i (in_place s)) moved_one (list_of n.relocs k)
        ∙ first_same (λ x. unfit_fault w left_symbols i (in_place s) (moved_one x)) (λ x. fault_by (is_too_wide wishes to n s x)) (list_of n.relocs k)
        (λ l x there. fault-told s (in_place s) i x refl (field-told k i s here is at l x there).told)
        ∙ sym (broken_map (is_too_wide wishes to n s) (list_of n.relocs k))
        ∙ ap (λ m. first_broken (map (is_too_wide wishes to n s) (list_of n.relocs m))) same)
        ∙ sym (stage_in (λ (x : ℕ × Section). map (is_too_wide wishes to n x.1) (list_of n.relocs x.0)) (kept_sections wishes to n))

    -- ... relocations

    kept-told : (i : ℕ) (x : Field Reloc) → left_in w left_symbols i (moved_one x) ≡ outcome wishes to n fine none x.item → kept_field w left_symbols i (moved_one x) ≡ final_field wishes to n x
    kept-told i x told = ap (field_of (moved_one x)) told ∙ by (constant wishes to n x.item)
      where
        by : (o : Option ℤ) → field_of (moved_one x) (option_map_or (λ c. normal.Constant c) o (normal.Kept (final_reloc wishes to n x.item)))
            ≡ option_map_or (λ c. None) o (Some (record { at = x.at; width = x.width; item = final_reloc wishes to n x.item }))
        by None = refl
        by (Some c) = refl

    relocs-long : length n.relocs ≡ length stay
    relocs-long = fine.built.fields.counted ∙ long-here

    pub relocs-told : lists_left w left_symbols d.relocs ≡ map (final_fields wishes to n) (kept_sections wishes to n)
    relocs-told =
        ap (map (λ (p : ℕ × List (Field Reloc)). filter_map (kept_field w left_symbols p.0) p.1)) (enumerated_map (map moved_one) 0 (kept_of stay n.relocs))
        ∙ map_twice (λ (p : ℕ × List (Field Reloc)). filter_map (kept_field w left_symbols p.0) p.1) (λ (x : ℕ × List (Field Reloc)). (x.0, map moved_one x.1)) (enumerate_from 0 (kept_of stay n.relocs))
        ∙ map_kept (λ (x : ℕ × List (Field Reloc)). filter_map (kept_field w left_symbols x.0) (map moved_one x.1)) (λ (x : ℕ × List (Field Reloc)). filter_map (final_field wishes to n) (list_of n.relocs x.0)) 0 0 stay n.relocs relocs-long
        (λ k i j xs e h here is.
        let at : new_position stay k ≡ i = omega (arith, e) in
        let same : k ≡ j = omega (arith, h) in
        let own : xs ≡ list_of n.relocs k = sym (get_or_from_slice_get n.relocs k xs [] here) in
        let s = there_at n.sections k (let l = slice_get_within n.relocs k xs here in let c = fine.built.fields.counted in omega (arith, l, c)) in
        ap (λ ls. filter_map (kept_field w left_symbols i) (map moved_one ls)) own
        ∙ filtered (list_of n.relocs k) i (λ l x there. kept-told i x (field-told k i s.0 s.1 is at l x there).told)
        ∙ ap (λ m. filter_map (final_field wishes to n) (list_of n.relocs m)) same)
        ∙ positions_kept (λ k. filter_map (final_field wishes to n) (list_of n.relocs k)) 0 stay n.relocs n.sections fine.built.fields.counted
      where
        filtered : (xs : List (Field Reloc)) (i : ℕ) → ((l : ℕ) (x : Field Reloc) → slice_get xs l ≡ Some x → kept_field w left_symbols i (moved_one x) ≡ final_field wishes to n x)
            → filter_map (kept_field w left_symbols i) (map moved_one xs) ≡ filter_map (final_field wishes to n) xs
        filtered [] i each = refl
        filtered (x ∷ xs) i each =
            ap (λ o. cons_option o (filter_map (kept_field w left_symbols i) (map moved_one xs))) (each 0 x refl)
            ∙ ap (cons_option (final_field wishes to n x)) (filtered xs i (λ l y there. each (suc l) y there))

    -- ... groups

    pub groups-told : groups_left (kept_of stay n.sections) ≡ kept_groups wishes to n
    groups-told =
        groups-once (filter_map (λ (s : Section). s.group) (kept_of stay n.sections))
        ∙ ap each_once (ap (filter_map (λ (s : Section). s.group)) (sym (kept_enumerated 0 stay n.sections))
        ∙ filter_mapped (λ (s : Section). s.group) (λ (x : ℕ × Section). x.1) (λ (x : ℕ × Section). x.1.group) (λ x. refl) (kept_sections wishes to n))

    -- they begin in their order
    pub begun-final : AreBegun (length (final_groups wishes to n)) 0 (groups_of (final_sections wishes to n))
    begun-final =
        subst (λ count. AreBegun count 0 (groups_of (final_sections wishes to n))) count
        (subst (λ gs. AreBegun (length d.groups) 0 gs) members fine-left.complete.begun)
      where
        members : groups_of d.sections ≡ groups_of (final_sections wishes to n)
        members =
            map_twice (λ (s : Section). s.group) in_place (kept_of stay n.sections)
            ∙ ap (λ gs. map (λ (s : Section). option_and_then (place_in gs) s.group) (kept_of stay n.sections)) groups-told
            ∙ ap (map (λ (s : Section). option_and_then (place_in (kept_groups wishes to n)) s.group)) (sym (kept_enumerated 0 stay n.sections))
            ∙ map_twice (λ (s : Section). option_and_then (place_in (kept_groups wishes to n)) s.group) (λ (x : ℕ × Section). x.1) (kept_sections wishes to n)
            ∙ sym (map_twice (λ (s : Section). s.group) (final_section wishes to n) (kept_sections wishes to n))

        count : length d.groups ≡ length (final_groups wishes to n)
        count =
            ap (λ gs. length (filter_map (slice_get n.groups) gs)) groups-told
            ∙ sym (length-map (filter_map (slice_get n.groups) (kept_groups wishes to n)) (λ (g : Group). record { key = final_key wishes to n g.key }))

    -- ... sections, where no constant is too wide

    module _ (clean : first_field (unfit_fault w left_symbols) d ≡ None) where
      abbrev patch_of : Reloc → Normal → Option Patch
      patch_of r m = patch_by w r m

      outcome_patch : (r : Reloc) → patch_by w (moved_reloc stay names r) (outcome wishes to n fine none r) ≡ constant_patch wishes to n r
      outcome_patch r = by (constant wishes to n r)
        where
          by : (o : Option ℤ) → patch_by w (moved_reloc stay names r) (option_map_or (λ c. normal.Constant c) o (normal.Kept (final_reloc wishes to n r)))
              ≡ option_map (λ c. record { width = r.form.width; check = r.form.check; residue = residue_of w c }) o
          by None = refl
          by (Some c) = refl

      constants-told : (k i : ℕ) (s : Section) → slice_get n.sections k ≡ Some s → Stays stay k → new_position stay k ≡ i → (at : ℕ) → consts d fine-left left_symbols clean i at ≡ constants wishes to n k at
      constants-told k i s here is same at =
          ap (option_and_then (λ r. patch_by w r (normal_of w left_symbols i at r)))
          (ap (λ xs. reloc_among xs at) (list_moved k i s here is same) ∙ among_moved (moved_reloc stay names) (list_of n.relocs k) at)
          ∙ found (list_of n.relocs k) (λ l x there. field-told k i s here is same l x there)
        where
          one : (x : Field Reloc) → IsTold k i x → x.at ≡ at → patch_by w (moved_reloc stay names x.item) (normal_of w left_symbols i at (moved_reloc stay names x.item)) ≡ constant_patch wishes to n x.item
          one x is e = ap (λ k. patch_by w (moved_reloc stay names x.item) (normal_of w left_symbols i k (moved_reloc stay names x.item))) (sym e)
              ∙ ap (patch_by w (moved_reloc stay names x.item)) is.told ∙ outcome_patch x.item

          found : (xs : List (Field Reloc)) → ((l : ℕ) (x : Field Reloc) → slice_get xs l ≡ Some x → IsTold k i x)
              → option_and_then (λ r. patch_by w r (normal_of w left_symbols i at r)) (option_map (moved_reloc stay names) (reloc_among xs at)) ≡ option_and_then (constant_patch wishes to n) (reloc_among xs at)
          found [] each = refl
          found (x ∷ xs) each = by (nat_eq x.at at) refl (found xs (λ l y there. each (suc l) y there))
            where
              by : (b : Bool) → nat_eq x.at at ≡ b
                  → option_and_then (λ r. patch_by w r (normal_of w left_symbols i at r)) (option_map (moved_reloc stay names) (reloc_among xs at)) ≡ option_and_then (constant_patch wishes to n) (reloc_among xs at)
                  → option_and_then (λ r. patch_by w r (normal_of w left_symbols i at r)) (option_map (moved_reloc stay names) (cond b (Some x.item) (reloc_among xs at))) ≡ option_and_then (constant_patch wishes to n) (cond b (Some x.item) (reloc_among xs at))
              by true e rest = one x (each 0 x refl) (eqb-true x.at at e)
              by false e rest = rest

      abbrev built : Section → List ℕ → Option ℕ → Section
      built s bytes g = record { name = s.name; kind = s.kind; align = s.align; size = s.size; bytes = bytes; tag = s.tag; number = s.number; group = g }

      section-told : (k i : ℕ) (s : Section) → slice_get n.sections k ≡ Some s → Stays stay k → new_position stay k ≡ i
          → fold (with_constant w left_symbols i) (in_place s) (list_of d.relocs i) ≡ final_section wishes to n (k, s)
      section-told k i s here is same =
          folded-section d fine-left left_symbols clean i (in_place s) (section-there k i s here is same)
          ∙ ap (λ c. built s (overlay c 0 s.bytes) (option_and_then (place_in (groups_left (kept_of stay n.sections))) s.group)) (fun_ext (λ at. constants-told k i s here is same at))
          ∙ ap (λ gs. built s (overlay (constants wishes to n k) 0 s.bytes) (option_and_then (place_in gs) s.group)) groups-told

      pub sections-told : sections_left w left_symbols d.relocs d.sections ≡ final_sections wishes to n
      sections-told =
          ap (map (λ (p : ℕ × Section). fold (with_constant w left_symbols p.0) p.1 (list_of d.relocs p.0))) (enumerated_map in_place 0 (kept_of stay n.sections))
          ∙ map_twice (λ (p : ℕ × Section). fold (with_constant w left_symbols p.0) p.1 (list_of d.relocs p.0)) (λ (x : ℕ × Section). (x.0, in_place x.1)) (enumerate_from 0 (kept_of stay n.sections))
          ∙ map_kept (λ (x : ℕ × Section). fold (with_constant w left_symbols x.0) (in_place x.1) (list_of d.relocs x.0)) (final_section wishes to n) 0 0 stay n.sections long-here
          (λ k i j s e h here is.
          let at : new_position stay k ≡ i = omega (arith, e) in
          let same : k ≡ j = omega (arith, h) in
          section-told k i s here is at ∙ ap (λ m. final_section wishes to n (m, s)) same)
