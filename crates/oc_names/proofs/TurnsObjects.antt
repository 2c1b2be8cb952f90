-- An object that is brought to normal form twice is one that is brought to it once, whatever its names.
use Rattle.std.proofs.Common.{◌≡◌, ℕ, zero, suc, ◌+◌, ◌<◌, List, [], ◌∷◌, length, map, Option, Some, None, refl, sym, ◌∙◌, ap, subst, arith}
use mathlib.Core.Path.{fun_ext}
use Rattle.std.specs.{Prelude.{slice_get, fold}, List.{AllByRecursion, filter_map, enumerate_from}, Option.{option_map, option_and_then}}
use Rattle.std.proofs.lemmas.Option.{get_or_from_slice_get, slice_get-map, slice_get_within}
use Rattle.oc_base.specs.{declared.fault.Fault.{Fault}, declared.format.Word.{Word}, Formats.{word_for}}
use Rattle.oc_linking.specs.Numbers.{or_else, first_upto}
use Rattle.oc_chains.specs.{declared.field.Field.{Field}, Lists.{list_of}}
use Rattle.oc_neutral.specs.{declared.group.Group.{Group}, declared.section.Section.{Section}, declared.symbol.Symbol.{Symbol}, declared.reloc.Target.{Target}}
use Rattle.oc_neutral.specs.{declared.reloc.Reloc.{Reloc}, declared.normal.Normal.{Normal}, Objects.{Object}}
use Rattle.oc_neutral.specs.{Normal.{at_section, by_section, folded, local_place, place_among}, Invariants.{IsHeld, IsObject}}
use Rattle.oc_neutral.specs.declared.reloc.Target.TheVariants as target
use Rattle.oc_neutral.proofs.Positions.{each_weaker, there_at}
use Rattle.oc_drop.specs.Steps.{first_field, first_in, fault_in, unless}
use Rattle.oc_names.specs.Rebinding.{after_relocs, fault_of, field_of, kept_field, left_in, lists_left, normalized, section_of, sections_left, unfit_fault}
use Rattle.oc_names.specs.Naming.{with_names}
use Rattle.oc_drop.proofs.FirstLaws.{none_of_section}
use Rattle.oc_names.proofs.{NormalFields.{IsWide, folded_in, frame_fold, numbered_at, numbered_long}, ReboundFields.{list_left}}
use Rattle.oc_names.proofs.TurnsFields.{KeepsPlaces, IsLeftTwice, left_twice, fields_twice, faults_twice, constants_twice}

-- ... lists with numbered items

numbered_twice : {X : Type 0} (f g h : ℕ × X → X) (i : ℕ) (xs : List X) → ((k j : ℕ) (x : X) → i + k ≡ j → slice_get xs k ≡ Some x → f (j, g (j, x)) ≡ h (j, x))
    → map f (enumerate_from i (map g (enumerate_from i xs))) ≡ map h (enumerate_from i xs)
numbered_twice f g h i [] same = refl
numbered_twice f g h i (x ∷ xs) same =
    ap (λ y. y ∷ map f (enumerate_from (i + 1) (map g (enumerate_from (i + 1) xs)))) (same 0 i x (omega arith) refl)
    ∙ ap (λ ys. h (i, x) ∷ ys) (numbered_twice f g h (i + 1) xs (λ k j y e here. same (suc k) j y (omega (arith, e)) here))

upto_same : {X : Type 0} (f g : ℕ → Option X) (n : ℕ) → ((k : ℕ) → k < n → f k ≡ g k) → first_upto f n ≡ first_upto g n
upto_same f g zero same = refl
upto_same f g (suc n) same = ap (λ o. or_else o (f n)) (upto_same f g n (λ k lt. same k (omega (arith, lt)))) ∙ ap (or_else (first_upto g n)) (same n (omega arith))

module _ (d : Object) (is : IsObject d) (xs zs : List Symbol) (keeps : KeepsPlaces xs zs) (clean : first_field (unfit_fault (word_for d.format) xs) d ≡ None) where
  abbrev w : Word
  w = word_for d.format

  abbrev r : Object
  r = normalized d xs

  all_twice : (k : ℕ) (s : Section) → slice_get d.sections k ≡ Some s → AllByRecursion (IsLeftTwice w xs zs k) (list_of d.relocs k)
  all_twice k s here =
      each_weaker (IsHeld d k s.bytes) (IsLeftTwice w xs zs k) (λ x held. left_twice w xs zs keeps d refl k x held.normal) (list_of d.relocs k) (is.built.fields.each k s here)

  list_there : (k : ℕ) → list_of r.relocs k ≡ filter_map (kept_field w xs k) (list_of d.relocs k)
  list_there k = let e : 0 + k ≡ k = omega arith in list_left w xs 0 k d.relocs ∙ ap (λ j. filter_map (kept_field w xs j) (list_of d.relocs k)) e

  lists_twice : lists_left w zs r.relocs ≡ lists_left w zs d.relocs
  lists_twice = numbered_twice (λ p. filter_map (kept_field w zs p.0) p.1) (λ p. filter_map (kept_field w xs p.0) p.1) (λ p. filter_map (kept_field w zs p.0) p.1) 0 d.relocs (λ k j l e here.
      let same : k ≡ j = omega (arith, e) in
      let counted = is.built.fields.counted in
      let s = there_at d.sections k (let low = slice_get_within d.relocs k l here in omega (arith, low, counted)) in
      subst (λ i. filter_map (kept_field w zs i) (filter_map (kept_field w xs i) l) ≡ filter_map (kept_field w zs i) l) same
      (fields_twice w xs zs k l (subst (AllByRecursion (IsLeftTwice w xs zs k)) (get_or_from_slice_get d.relocs k l [] here) (all_twice k s.0 s.1))))

  sections_twice : sections_left w zs r.relocs r.sections ≡ sections_left w zs d.relocs d.sections
  sections_twice = numbered_twice (λ p. folded_in w zs p.0 p.1 (list_of r.relocs p.0)) (λ p. folded_in w xs p.0 p.1 (list_of d.relocs p.0)) (λ p. folded_in w zs p.0 p.1 (list_of d.relocs p.0)) 0 d.sections
      (λ k j s e here.
      let same : k ≡ j = omega (arith, e) in
      subst (λ i. folded_in w zs i (folded_in w xs i s (list_of d.relocs i)) (list_of r.relocs i) ≡ folded_in w zs i s (list_of d.relocs i)) same
      (ap (folded_in w zs k (folded_in w xs k s (list_of d.relocs k))) (list_there k)
      ∙ constants_twice w xs zs k 0 (list_of d.relocs k) s (is.built.fields.apart k)
      (each_weaker (IsHeld d k s.bytes) IsWide (λ x held. held.width) (list_of d.relocs k) (is.built.fields.each k s here)) (all_twice k s here)))

  faults_again : first_field (unfit_fault w zs) r ≡ first_field (unfit_fault w zs) d
  faults_again =
      ap (first_upto (fault_in (unfit_fault w zs) r)) (numbered_long (λ (p : ℕ × Section). folded_in w xs p.0 p.1 (list_of d.relocs p.0)) 0 d.sections)
      ∙ upto_same (fault_in (unfit_fault w zs) r) (fault_in (unfit_fault w zs) d) (length d.sections) (λ k low.
      let s = there_at d.sections k low in
      let t : Section = folded_in w xs k s.0 (list_of d.relocs k) in
      let there : slice_get r.sections k ≡ Some t = numbered_at (λ (p : ℕ × Section). folded_in w xs p.0 p.1 (list_of d.relocs p.0)) 0 d.sections k k s.0 (omega arith) s.1 in
      ap (option_and_then (λ u. first_in (unfit_fault w zs k u) (list_of r.relocs k))) there
      ∙ ap (first_in (unfit_fault w zs k t)) (list_there k)
      ∙ faults_twice w xs zs k s.0 t (frame_fold w xs k s.0 (list_of d.relocs k)).number (list_of d.relocs k) (all_twice k s.0 s.1) (none_of_section (unfit_fault w xs) d clean k s.0 s.1)
      ∙ sym (ap (option_and_then (λ u. first_in (unfit_fault w zs k u) (list_of d.relocs k))) s.1))

  -- ... under other names

  module _ (name : Symbol → Symbol) (binding : (s : Symbol) → (name s).binding ≡ s.binding) (ys : List Symbol) (groups : List Group) where
    place_same : (t : Target) → place_among (map name zs) t ≡ place_among zs t
    unfolding place_among
    place_same (target.Section k) = refl
    place_same (target.Symbol k) = ap (option_and_then (λ (s : Symbol). local_place s.binding)) (slice_get-map name zs k) ∙ by (slice_get zs k)
      where
        by : (o : Option Symbol) → option_and_then (λ (s : Symbol). local_place s.binding) (option_map name o) ≡ option_and_then (λ (s : Symbol). local_place s.binding) o
        by None = refl
        by (Some s) = ap local_place (binding s)

    section_same : (q : Reloc) → by_section w (map name zs) q ≡ by_section w zs q
    unfolding by_section
    section_same q = ap (at_section w q) (place_same q.target)

    left_same : left_in w (map name zs) ≡ left_in w zs
    left_same = fun_ext (λ k. fun_ext (λ x. ap (folded w k x.at) (section_same x.item)))

    abbrev Left : Type 0
    Left = ℕ → Field Reloc → Normal

    abbrev fault_by : Left → Option Fault
    fault_by left = first_field (λ k s x. fault_of w s x (left k x)) r

    abbrev object_by : Left → Object
    object_by left = record {
      format = d.format;
      groups = groups;
      sections = map (λ p. fold (λ s x. section_of w s x (left p.0 x)) p.1 (list_of r.relocs p.0)) (enumerate_from 0 r.sections);
      symbols = map name zs;
      relocs = map (λ p. filter_map (λ x. field_of x (left p.0 x)) p.1) (enumerate_from 0 r.relocs);
    }

    abbrev object_with : List Section → List (List (Field Reloc)) → Object
    object_with sections relocs = record { format = d.format; groups = groups; sections = sections; symbols = map name zs; relocs = relocs }

    -- the second step gives the object of one step, under its names, or its fault
    pub relocs_again : after_relocs (with_names r ys groups) (map name zs) ≡ unless (first_field (unfit_fault w zs) d) (with_names (normalized d zs) (map name zs) groups)
    relocs_again =
        ap (λ left. unless (fault_by left) (object_by left)) left_same
        ∙ ap (λ o. unless o (object_by (left_in w zs))) faults_again
        ∙ ap (unless (first_field (unfit_fault w zs) d)) (ap (λ ss. object_with ss (lists_left w zs r.relocs)) sections_twice ∙ ap (object_with (sections_left w zs d.relocs d.sections)) lists_twice)
