-- What an object is in a target is what fitting makes of it.
use Rattle.std.proofs.Common.{◌≡◌, ℕ, zero, suc, ◌+◌, ◌<◌, Bool, true, false, cond, List, [], ◌∷◌, length, map, filter, replicate, get_or, Option, Some, None, refl, sym, ◌∙◌, ap, arith, rules}
use Rattle.std.specs.{Prelude.{not, nat_eq, if◌then◌else◌, slice_get}, List.{AllByRecursion, enumerate_from}}
use Rattle.std.specs.Option.{option_map, option_map_or, option_and_then}
use Rattle.std.proofs.lemmas.{Bool.{eqb-true}, List.{length-map}, List.Recursion.{is_position_or_len}}
use Rattle.std.proofs.lemmas.Option.{none-some, same_Some, slice_get-map, slice_get_within, get_or_from_slice_get}
use Rattle.oc_base.specs.{declared.format.Format.{Format}, Formats.{word_for}}
use Rattle.oc_linking.specs.{declared.terms.Patch.{Patch}, Placing.{zeros}, Values.{Valuation, worthless}, Rules.{Named, Symbolic, Sectional}, Images.{overlay}}
use Rattle.oc_linking.specs.{Linking.{patch_of}, Shows.{live_of, unders}}
use Rattle.oc_linking.specs.Parts as parts
use Rattle.oc_chains.specs.{declared.field.Field.{Field}, Fields.{end_of, FollowFrom}, Lists.{list_of}}
use Rattle.oc_neutral.specs.{declared.group.Group.{Group}, declared.section.Section.{Section}, declared.reloc.Reloc.{Reloc}}
use Rattle.oc_neutral.specs.{Objects.{Object, reloc_among, reloc_at}, Building.{is_zero}, Invariants.{HasItsBytes, IsObject, groups_of}}
use Rattle.oc_neutral.specs.{HomeNames.{output_names}, Stored.{is_stored}, Relocated.{stays}}
use Rattle.oc_neutral.specs.{Faces.{key_of, contents_of, field_of, shown_section, shown_sections, shown_symbols, frame_of}, Constants.{staying}}
use Rattle.oc_neutral.specs.declared.reloc.Target.TheVariants as aim
use Rattle.oc_shows.specs.{Shows.{reloc_look, patches_of}, Computed.{position_of, placed_target, reloc_for}}
use Rattle.oc_target.specs.{Fitted.{fitted_frame, fitted_frames, is_stored_at, FitsAt, IsFit}, TargetLaws.{FitIsComputed}}
use Rattle.oc_target.specs.Fitting.{constants, fitted_section, fit_of}
use Rattle.oc_neutral.proofs.{Positions.{each_at, images_same}, GroupLemmas.{keys_of, keys-shown, groups_same}, Numbered.{computed_list, overlay_at}}
use Rattle.oc_neutral.proofs.{SameParts.{bytes_are, filled, parts_same}, Mapped.{from_mapped}, FoundRelocs.{widths_at, found_at}}
use Rattle.oc_neutral.proofs.{SortedFields.{HasWidth, other_first, none_before, fields_same}, FieldLists.{follow_filter}}
use Rattle.oc_target.proofs.{FitLinks.{shown-fit}, Refit.{refit}, StoredConstants.{constants_fill}}
use Rattle.oc_shows.proofs.ComputedRelocs.{reloc-computed}

module _ (target from : Format) (groups : List Group) where
  -- the sections of a target are in the groups that they were in
  frames-groups : (names : List (List ℕ)) (xs : List Section) → map (λ (s : parts.Section). s.group) (fitted_frames target from groups names xs) ≡ keys_of groups (groups_of xs)
  frames-groups names [] = refl
  frames-groups [] (x ∷ xs) = ap (λ ks. option_and_then (key_of groups) x.group ∷ ks) (frames-groups [] xs)
  frames-groups (name ∷ names) (x ∷ xs) = ap (λ ks. option_and_then (key_of groups) x.group ∷ ks) (frames-groups names xs)

  -- the one at a position is that of the section there
  pub frame_at : (names : List (List ℕ)) (xs : List Section) (k : ℕ) (x : Section) → slice_get xs k ≡ Some x
      → slice_get (fitted_frames target from groups names xs) k ≡ Some (fitted_frame target from groups (get_or names k x.name) x)
  frame_at names [] k x here = absurd (none-some x here)
  frame_at [] (y ∷ ys) zero x here = ap (λ (s : Section). Some (fitted_frame target from groups s.name s)) (same_Some y x here)
  frame_at [] (y ∷ ys) (suc k) x here = frame_at [] ys k x here
  frame_at (name ∷ names) (y ∷ ys) zero x here = ap (λ s. Some (fitted_frame target from groups name s)) (same_Some y x here)
  frame_at (name ∷ names) (y ∷ ys) (suc k) x here = frame_at names ys k x here

-- a symbol keeps its position in a target
position-refit : (target : Format) (number : ℕ) (symbols : List parts.Symbol) → position_of (map (refit target) symbols) number ≡ position_of symbols number
position-refit target number = is_position_or_len (λ symbols. position_of (map (refit target) symbols) number) (λ (s : parts.Symbol). nat_eq s.number number) refl step
  where
    step : (s : parts.Symbol) (symbols : List parts.Symbol) → position_of (map (refit target) (s ∷ symbols)) number ≡ cond (nat_eq s.number number) 0 (1 + position_of (map (refit target) symbols) number)
    step s symbols = elim (nat_eq s.number number) as (λ b. nat_eq s.number number ≡ b → position_of (map (refit target) (s ∷ symbols)) number ≡ cond b 0 (1 + position_of (map (refit target) symbols) number)) [ true ↦ λ e. search rules | false ↦ λ e. search rules ] refl

-- fields of which some are left out
module _ (keeps : Field Reloc → Bool) where
  -- and what holds of each holds of each that is left
  each_filter : (P : Field Reloc → Type 0) (xs : List (Field Reloc)) → AllByRecursion P xs → AllByRecursion P (filter keeps xs)
  each_filter P [] each = tt
  each_filter P (x ∷ xs) each = elim (keeps x) as (λ b. AllByRecursion P (cond b (x ∷ filter keeps xs) (filter keeps xs))) [
    | true ↦ (each.0, each_filter P xs each.1)
    | false ↦ each_filter P xs each.1
  ]

-- a relocation in section s that stays one
abbrev pub still : Format → ℕ → Reloc → Option Reloc
still target s r = if is_stored target s r then None else Some r

-- what is found among the fields that stay
pub found_staying : (target : Format) (s p : ℕ) (xs : List (Field Reloc)) (at : ℕ) → FollowFrom p xs → reloc_among (filter (stays target s) xs) at ≡ option_and_then (still target s) (reloc_among xs at)
found_staying target s p [] at follow = refl
found_staying target s p (x ∷ xs) at follow =
    elim (nat_eq x.at at) as (λ e. nat_eq x.at at ≡ e → reloc_among (filter (stays target s) (x ∷ xs)) at ≡ option_and_then (still target s) (cond e (Some x.item) (reloc_among xs at))) [
      | true ↦ λ e. elim (is_stored target s x.item) as (λ b. reloc_among (cond (not b) (x ∷ filter (stays target s) xs) (filter (stays target s) xs)) at ≡ cond b None (Some x.item)) [
        | true ↦ let same = eqb-true x.at at e in let thick = follow.1 in none_before (end_of x) (filter (stays target s) xs) at (follow_filter (stays target s) (end_of x) xs follow.2) (omega (arith, same, thick))
        | false ↦ ap (λ t. cond t (Some x.item) (reloc_among (filter (stays target s) xs) at)) e
      ]
      | false ↦ λ e. elim (is_stored target s x.item) as (λ b. reloc_among (cond (not b) (x ∷ filter (stays target s) xs) (filter (stays target s) xs)) at ≡ option_and_then (still target s) (reloc_among xs at)) [
        | true ↦ found_staying target s (end_of x) xs at follow.2
        | false ↦ other_first x (filter (stays target s) xs) at e ∙ found_staying target s (end_of x) xs at follow.2
      ]
    ] refl

-- bytes in which fields are filled, where there are bytes
filled_bytes : (zero : Bool) (size : ℕ) (o : ℕ → Option Patch) (bytes : List ℕ) → length bytes ≡ cond zero 0 size
    → cond zero [] (overlay o 0 (cond zero (replicate size 0) bytes)) ≡ overlay o 0 bytes
filled_bytes true size o [] long = refl
filled_bytes true size o (x ∷ bytes) long = absurd (omega (arith, long))
filled_bytes false size o bytes long = refl

-- nothing is found where nothing is shown
none_mapped : {X Y : Type 0} (f : X → Y) (o : Option X) → option_map f o ≡ None → o ≡ None
none_mapped f None e = refl
none_mapped f (Some x) e = absurd (none-some (f x) (sym e))

module _ (target : Format) (n m : Object) (word : word_for target ≡ word_for n.format) (is : IsObject n) (fine : IsObject m) (fit : IsFit target n m) where
  -- no symbol is worth anything
  abbrev no_worth : Valuation
  no_worth number = worthless

  -- the contents and the fields, where all numbers are 0
  fits : FitsAt target n m zeros no_worth
  fits = fit.at zeros no_worth

  -- the sections are in the same groups
  same_groups : (groups_of m.sections ≡ groups_of n.sections) × (m.groups ≡ n.groups)
  same_groups =
      groups_same m.groups n.groups fine.complete.keys is.complete.keys (groups_of m.sections) (groups_of n.sections) 0 (λ k l. absurd (omega (arith, l))) fine.complete.begun is.complete.begun
      fine.built.members is.built.members
      (sym (keys-shown m.groups m.sections) ∙ ap (map (λ (s : parts.Section). s.group)) fit.sections ∙ frames-groups target n.format n.groups (output_names target n) n.sections)

  -- they are as many
  counted : length m.sections ≡ length n.sections
  counted = sym (length-map m.sections (λ (s : Section). s.group)) ∙ ap length same_groups.0 ∙ length-map n.sections (λ (s : Section). s.group)

  module _ (k : ℕ) (y x : Section) (there : slice_get m.sections k ≡ Some y) (here : slice_get n.sections k ≡ Some x) where
    -- the name that the section gets
    abbrev name : List ℕ
    name = get_or (output_names target n) k x.name

    -- its frame is the one that the target gives it
    framed : frame_of (shown_section m.groups y) ≡ fitted_frame target n.format n.groups name x
    framed = same_Some (frame_of (shown_section m.groups y)) (fitted_frame target n.format n.groups name x)
        (sym (slice_get-map frame_of (shown_sections m) k ∙ ap (option_map frame_of) (slice_get-map (shown_section m.groups) m.sections k ∙ ap (option_map (shown_section m.groups)) there))
        ∙ ap (λ xs. slice_get xs k) fit.sections
        ∙ frame_at target n.format n.groups (output_names target n) n.sections k x here)

    -- its contents hold the constants
    contained : contents_of y ≡ overlay (constants target n k) 0 (contents_of x)
    contained = same_Some (contents_of y) (overlay (constants target n k) 0 (contents_of x))
        (sym (slice_get-map contents_of m.sections k ∙ ap (option_map contents_of) there) ∙ ap (λ cs. slice_get cs k) fits.contents
        ∙ overlay_at (unders (is_stored_at target n) (patches_of n zeros no_worth)) 0 (map contents_of n.sections) k k (contents_of x) (omega arith)
        (slice_get-map contents_of n.sections k ∙ ap (option_map contents_of) here)
        ∙ ap Some (constants_fill target n is zeros no_worth k x here))

    -- so it is what fitting makes of it
    section-fitted : y ≡ fitted_section target n (k, x)
    section-fitted =
        ap (λ s. filled s y.group y.bytes) framed
        ∙ ap (λ g. filled (fitted_frame target n.format n.groups name x) g y.bytes)
        (images_same (λ (s : Section). s.group) (λ (s : Section). s.group) m.sections n.sections same_groups.0 k y x there here)
        ∙ ap (filled (fitted_frame target n.format n.groups name x) x.group)
        (bytes_are (is_zero y.kind) y.size y.bytes (overlay (constants target n k) 0 (contents_of x)) contained (each_at HasItsBytes m.sections k y fine.built.bytes there)
        ∙ ap (λ (s : parts.Section). cond (is_zero s.kind) [] (overlay (constants target n k) 0 (contents_of x))) framed
        ∙ filled_bytes (is_zero x.kind) x.size (constants target n k) x.bytes (each_at HasItsBytes n.sections k x is.built.bytes here))

  -- a relocation that has the look and the value of one is that one
  reloc-same : (s at : ℕ) (q r : Reloc) → s < length n.sections → reloc_at m s at ≡ Some q → reloc_at n s at ≡ Some r → reloc_look m q ≡ reloc_look n r
      → (patch_of zeros no_worth (field_of m s at q)).residue ≡ (patch_of zeros no_worth (field_of n s at r)).residue → q ≡ r
  reloc-same s at q r inside there here looks residues =
      let v : Valuation = no_worth in
      let a = found_at m fine s (omega (arith, inside, counted)) at q there in
      let b = found_at n is s inside at r here in
      let residue : ℕ = (patch_of zeros no_worth (field_of n s at r)).residue in
      sym (reloc-computed m v s at q a.0 a.1)
      ∙ ap (λ x. reloc_for (word_for m.format) (shown_symbols m) v s at (reloc_look m q) x) residues
      ∙ ap (λ l. reloc_for (word_for m.format) (shown_symbols m) v s at l residue) looks
      ∙ ap (λ w. reloc_for w (shown_symbols m) v s at (reloc_look n r) residue) (ap word_for fit.format ∙ word)
      ∙ ap (λ symbols. reloc_for (word_for n.format) symbols v s at (reloc_look n r) residue) (shown-fit target n m fit)
      ∙ ap (λ t. record { target = t; form = r.form; addend = (reloc_for (word_for n.format) (shown_symbols n) v s at (reloc_look n r) residue).addend; hint = r.hint })
      (placed (reloc_look n r).target)
      ∙ reloc-computed n v s at r b.0 b.1
    where
      placed : (t : Named) → placed_target (map (refit target) (shown_symbols n)) t ≡ placed_target (shown_symbols n) t
      placed (Symbolic number) = ap aim.Symbol (position-refit target number (shown_symbols n))
      placed (Sectional k) = refl

  -- what is found at an offset
  found-fitted : (s at : ℕ) → s < length n.sections → reloc_at m s at ≡ option_and_then (still target s) (reloc_at n s at)
  unfolding is_stored_at
  found-fitted s at inside = by (reloc_at n s at) refl
    where
      by : (o : Option Reloc) → reloc_at n s at ≡ o → reloc_at m s at ≡ option_and_then (still target s) o
      by None e = none_mapped (reloc_look m) (reloc_at m s at)
          (fit.looks s at ∙ ap (λ o. cond (option_map_or (is_stored target s) o false) None (option_map (reloc_look n) o)) e)
      by (Some r) e = elim (is_stored target s r) as (λ b. is_stored target s r ≡ b → reloc_at m s at ≡ cond b None (Some r)) [
        | true ↦ λ stored. none_mapped (reloc_look m) (reloc_at m s at)
            (fit.looks s at ∙ ap (λ o. cond (option_map_or (is_stored target s) o false) None (option_map (reloc_look n) o)) e ∙ ap (λ b. cond b None (Some (reloc_look n r))) stored)
        | false ↦ λ stays.
            let q = from_mapped (reloc_look m) (reloc_at m s at) (reloc_look n r)
            (fit.looks s at ∙ ap (λ o. cond (option_map_or (is_stored target s) o false) None (option_map (reloc_look n) o)) e ∙ ap (λ b. cond b None (Some (reloc_look n r))) stays) in
            let patch = same_Some (patch_of zeros no_worth (field_of m s at q.0)) (patch_of zeros no_worth (field_of n s at r))
            (ap (λ o. option_map (patch_of zeros no_worth) (option_map (field_of m s at) o)) (sym q.1) ∙ fits.patches s at
            ∙ ap (λ o. live_of (option_map_or (is_stored target s) o false) (option_map (patch_of zeros no_worth) (option_map (field_of n s at) o))) e
            ∙ ap (λ b. live_of b (Some (patch_of zeros no_worth (field_of n s at r)))) stays) in
            q.1 ∙ ap Some (reloc-same s at q.0 r inside q.1 e q.2 (ap (λ (x : Patch). x.residue) patch))
      ] refl

  -- the fields of a section
  fields-fitted : (s : ℕ) → s < length n.sections → list_of m.relocs s ≡ filter (stays target s) (list_of n.relocs s)
  fields-fitted s inside =
      fields_same 0 (list_of m.relocs s) (filter (stays target s) (list_of n.relocs s)) (fine.built.fields.apart s) (follow_filter (stays target s) 0 (list_of n.relocs s) (is.built.fields.apart s))
      (widths_at m fine s (omega (arith, inside, counted))) (each_filter (stays target s) HasWidth (list_of n.relocs s) (widths_at n is s inside))
      (λ at. found-fitted s at inside ∙ sym (found_staying target s 0 (list_of n.relocs s) at (is.built.fields.apart s)))

  -- and so for all sections
  relocs-fitted : m.relocs ≡ map (staying target) (enumerate_from 0 n.relocs)
  relocs-fitted = computed_list (staying target) 0 m.relocs n.relocs (fine.built.fields.counted ∙ counted ∙ sym is.built.fields.counted)
      (λ s i ys xs at there here.
      let inside : s < length n.sections = let l = slice_get_within n.relocs s xs here in let c = is.built.fields.counted in omega (arith, l, c) in
      sym (get_or_from_slice_get m.relocs s ys [] there) ∙ fields-fitted s inside ∙ ap (filter (stays target s)) (get_or_from_slice_get n.relocs s xs [] here)
      ∙ ap (λ j. staying target (j, xs)) (omega (arith, at)))

-- the law
pub fit_is_computed : FitIsComputed
fit_is_computed target n m word is fine fit =
    parts_same m (fit_of target n) fit.format (same_groups target n m word is fine fit).1
    (computed_list (fitted_section target n) 0 m.sections n.sections (counted target n m word is fine fit)
    (λ k i y x at there here. section-fitted target n m word is fine fit k y x there here ∙ ap (λ j. fitted_section target n (j, x)) (omega (arith, at))))
    fit.symbols (relocs-fitted target n m word is fine fit)
