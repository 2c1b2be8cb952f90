-- What is seen of the relocations of an object are fields of the object that is seen, in normal form.
use Rattle.std.proofs.Common.{◌≡◌, ℕ, zero, suc, ◌<◌, ◌≤◌, false, cond, List, [], ◌∷◌, length, map, Option, Some, None, refl, sym, ◌∙◌, ap, subst, arith}
use Rattle.std.specs.{Prelude.{slice_get}, List.{AllByRecursion, enumerate_from}, Option.{option_map_or, option_and_then}}
use Rattle.std.proofs.lemmas.{Bool.{true≢false, eq-eqb, ne_eqb}, List.{length-map}, List.FromFn.{length-enumerate_from}, Option.{none-some, slice_get_within}}
use Rattle.oc_base.specs.Formats.{word_for}
use Rattle.oc_linking.specs.{declared.terms.Base.{Base}, declared.terms.Hint.{Hint}, declared.terms.Hint.TheVariants.{Call}, declared.terms.Less.{Less}}
use Rattle.oc_linking.specs.{declared.terms.Binding.{Binding}, Parts.{is_local}, Fits.{bytes_of}, declared.terms.Width.TheVariants.{Four}}
use Rattle.oc_linking.specs.declared.terms.Base.TheVariants as base
use Rattle.oc_linking.specs.declared.terms.Less.TheVariants as less
use Rattle.oc_algebra.specs.Residues.{reduced_number}
use Rattle.oc_algebra.proofs.Laws.{reduced_reduced}
use Rattle.oc_chains.specs.{declared.field.Field.{Field}, Fields.{FollowFrom, end_of}, Lists.{list_of}}
use Rattle.oc_neutral.specs.{declared.section.Section.{Section}, declared.symbol.Symbol.{Symbol}, declared.reloc.Reloc.{Reloc}, declared.reloc.Target.{Target}}
use Rattle.oc_neutral.specs.Objects.{Object, reloc_among, reloc_at}
use Rattle.oc_neutral.specs.Normal.{Place, place_among, local_place, cancels, takes_section, moved_addend, at_section}
use Rattle.oc_neutral.specs.Invariants.{HasOffset, IsBinding, IsOriginal, IsSymbol, IsThere, IsLessThere, IsNormal, IsHeld, IsHinted, NamesOriginal, IsObject}
use Rattle.oc_neutral.specs.{Faces.{shown_symbol}, KeySymbols.{global_place}}
use Rattle.oc_neutral.specs.declared.reloc.Target.TheVariants as target
use Rattle.oc_shows.specs.{Manners.{Manner}, Seen.{new_position, seen_with, seen_section, seen_symbol, seen_target, seen_reloc, seen_field, section_place}}
use Rattle.oc_neutral.proofs.{Positions.{each_at, each_weaker, there_at}, Mapped.{all_from, list_map}}
use Rattle.oc_shows.proofs.{Reordered.{member_map, of_map}, SeenLines.{IsShown}, SeenAlike.{stands, numbers_differ, seen_local, global_is}}
use Rattle.oc_shows.proofs.Looking.{cancels-symbol}
use Rattle.oc_target.proofs.SeenMoved.{section_target}

-- each field is found at its own offset
own_offsets : (p : ℕ) (xs : List (Field Reloc)) → FollowFrom p xs → AllByRecursion (λ (x : Field Reloc). (p ≤ x.at) × (reloc_among xs x.at ≡ Some x.item)) xs
own_offsets p [] follow = tt
own_offsets p (x ∷ xs) follow = (
  (follow.0, ap (λ b. cond b (Some x.item) (reloc_among xs x.at)) (eq-eqb x.at x.at refl)),
  each_weaker (λ (y : Field Reloc). (end_of x ≤ y.at) × (reloc_among xs y.at ≡ Some y.item)) (λ (y : Field Reloc). (p ≤ y.at) × (reloc_among (x ∷ xs) y.at ≡ Some y.item))
      (λ y h.
      let behind = h.0 in
      let before = follow.0 in
      let wide = follow.1 in
      (omega (arith, behind, before, wide), ap (λ b. cond b (Some x.item) (reloc_among xs y.at)) (ne_eqb x.at y.at (λ same. omega (arith, same, behind, wide))) ∙ h.1)) xs (own_offsets (end_of x) xs follow.2),
)

-- the address of a section is not taken from it, where it is not taken
cancels_not : (b : Base) (k : ℕ) (l : Less) → takes_section k l ≡ false → cancels b (target.Section k) l ≡ false
cancels_not b k l e = grind arith

-- a symbol that is no Local has no place of one
outer_place : (b : Binding) → is_local b ≡ false → local_place b ≡ None
outer_place b e = grind arith

module _ (m : Manner) (n : Object) (shown : List (ℕ × ℕ)) (fine : IsObject n) (is : IsShown n shown)
    (calls : (h : Hint) → m.hint h ≡ Call → h ≡ Call)
    (outer : (s at : ℕ) (r : Reloc) (k : ℕ) → reloc_at n s at ≡ Some r → r.target ≡ target.Symbol k → (y : Symbol) × (slice_get n.symbols k ≡ Some y) × (is_local y.binding ≡ false)) where
  abbrev again : Object
  again = seen_with m n shown

  pub sections_long : length again.sections ≡ length n.sections
  sections_long = length-map (enumerate_from 0 n.sections) (seen_section m n) ∙ length-enumerate_from 0 n.sections

  -- a symbol that is seen is no alias
  pub original : (k : ℕ) (t : Symbol) → slice_get again.symbols k ≡ Some t → IsOriginal again.symbols k
  original k t here j before same =
      let u = there_at again.symbols j (let l = slice_get_within again.symbols k t here in omega (arith, before, l)) in
      numbers_differ m n shown is j k (shown_symbol again.symbols u.0) (shown_symbol again.symbols t) before
      (member_map (shown_symbol again.symbols) again.symbols j u.0 u.1) (member_map (shown_symbol again.symbols) again.symbols k t here)
      (sym (ap (λ o. option_map_or (λ (x : Symbol). x.number) o 0) u.1) ∙ same ∙ ap (λ o. option_map_or (λ (x : Symbol). x.number) o 0) here)

  -- a Global's place is in a section
  pub place_there : (k : ℕ) (y : Symbol) (place : Place) → slice_get n.symbols k ≡ Some y → global_place y.binding ≡ Some place → HasOffset n.sections place.0 place.1
  place_there k y place here at =
      subst (IsBinding n) (global_is y.binding place at) (each_at (IsSymbol n) n.symbols k y fine.complete.symbols here).binding

  less_there : (l : Less) → IsLessThere n l → IsLessThere again l
  less_there less.Zero there = tt
  less_there less.Place there = tt
  less_there less.GotBase there = tt
  less_there less.ImageBase there = tt
  less_there less.Home there = tt
  less_there (less.Section k) there = let e = sections_long in omega (arith, there, e)

  -- what a target that is seen meets: it is there, is no Local, and is not the section that is taken
  record IsFine (b : Base) (l : Less) (t : Target) : Type 0 where
    target : IsThere again t
    against : place_among again.symbols t ≡ None
    varies : cancels b t l ≡ false
    named : NamesOriginal again.symbols t

  section_fine : (b : Base) (l : Less) (k : ℕ) → k < length n.sections → cancels b (target.Section k) l ≡ false → IsFine b l (target.Section k)
  unfolding place_among
  section_fine b l k inside varies = record { target = let e = sections_long in omega (arith, inside, e); against = refl; varies = varies; named = tt }

  symbol_fine : (b : Base) (l : Less) (k : ℕ) (y : Symbol) → slice_get n.symbols k ≡ Some y → is_local y.binding ≡ false → IsFine b l (target.Symbol (new_position shown k))
  unfolding place_among
  symbol_fine b l k y here out =
      let t = stands m n shown is k y here out in
      let x : Symbol = seen_symbol m n shown t.0 y in
      record {
        target = slice_get_within again.symbols (new_position shown k) x t.1;
        against = ap (option_and_then (λ (z : Symbol). local_place z.binding)) t.1 ∙ outer_place x.binding (seen_local m n shown is y.binding ∙ out);
        varies = cancels-symbol b (new_position shown k) l;
        named = original (new_position shown k) x t.1;
      }

  module _ (s at : ℕ) (r : Reloc) (here : reloc_at n s at ≡ Some r) (normal : IsNormal n s r) where
    -- one that stays against its target
    stays_fine : (t : Target) → r.target ≡ t → IsFine r.form.base r.form.less (seen_target shown t)
    stays_fine (target.Section k) e =
        section_fine r.form.base r.form.less k (subst (IsThere n) e normal.target) (ap (λ t. cancels r.form.base t r.form.less) (sym e) ∙ normal.varies)
    stays_fine (target.Symbol k) e = let y = outer s at r k here e in symbol_fine r.form.base r.form.less k y.0 y.1 y.2

    target_fine : (o : Option Place) → section_place m n r ≡ o → IsFine r.form.base r.form.less (seen_target shown (at_section (word_for n.format) r o).target)
    target_fine None own = stays_fine r.target refl
    target_fine (Some place) own =
        let k = section_target n (m.by_section r.form.less) place r.form.less r.target own in
        let y = outer s at r k.0 here k.1 in
        let there = place_there k.0 y.0 place y.1 (sym (ap (option_and_then (λ (x : Symbol). global_place x.binding)) y.1) ∙ k.2) in
        section_fine r.form.base r.form.less place.0 (slice_get_within n.sections place.0 there.0 there.1) (cancels_not r.form.base place.0 r.form.less k.3)

    form_same : (o : Option Place) → (at_section (word_for n.format) r o).form ≡ r.form
    form_same None = refl
    form_same (Some place) = refl

    hint_same : (o : Option Place) → (at_section (word_for n.format) r o).hint ≡ r.hint
    hint_same None = refl
    hint_same (Some place) = refl

    addend_reduced : (o : Option Place) → reduced_number (word_for n.format) (at_section (word_for n.format) r o).addend ≡ (at_section (word_for n.format) r o).addend
    addend_reduced None = reduced_reduced (word_for n.format) r.addend
    addend_reduced (Some place) = reduced_reduced (word_for n.format) (moved_addend r.form.base r.addend place.1)

    abbrev moved : Reloc
    moved = seen_reloc m n shown r

    abbrev form_is : moved.form ≡ r.form
    form_is = form_same (section_place m n r)

    pub seen_normal : IsNormal again s (seen_reloc m n shown r)
    seen_normal =
        let t = target_fine (section_place m n r) refl in
        record {
          target = t.target;
          less = subst (λ f. IsLessThere again f.less) (sym form_is) (less_there r.form.less normal.less);
          reduced = addend_reduced (section_place m n r);
          against = t.against;
          varies = ap (λ f. cancels f.base moved.target f.less) form_is ∙ t.varies;
          placed = ap (λ f. takes_section s f.less) form_is ∙ normal.placed;
        }

    pub seen_named : NamesOriginal again.symbols (seen_reloc m n shown r).target
    seen_named = (target_fine (section_place m n r) refl).named

    pub seen_width : bytes_of (seen_reloc m n shown r).form.width ≡ bytes_of r.form.width
    seen_width = ap (λ f. bytes_of f.width) form_is

    pub seen_hinted : IsHinted r → IsHinted (seen_reloc m n shown r)
    seen_hinted is call = subst (λ f. (f.base ≡ base.Address) × (f.less ≡ less.Place) × (f.width ≡ Four)) (sym form_is) (is (sym (hint_same (section_place m n r)) ∙ calls (at_section (word_for n.format) r (section_place m n r)).hint call))

  -- a field, by its position
  own_reloc : (s k : ℕ) (x : Field Reloc) → slice_get (list_of n.relocs s) k ≡ Some x → reloc_at n s x.at ≡ Some x.item
  own_reloc s k x here = (each_at (λ (y : Field Reloc). (0 ≤ y.at) × (reloc_among (list_of n.relocs s) y.at ≡ Some y.item)) (list_of n.relocs s) k x (own_offsets 0 (list_of n.relocs s) (fine.built.fields.apart s)) here).1

  pub seen_held : (s : ℕ) (x : Section) → slice_get n.sections s ≡ Some x → AllByRecursion (IsHeld again s x.bytes) (list_of again.relocs s)
  seen_held s x there =
      subst (AllByRecursion (IsHeld again s x.bytes)) (sym (list_map (seen_field m n shown) n.relocs s))
      (all_from (IsHeld again s x.bytes) (map (seen_field m n shown) (list_of n.relocs s)) (λ k z here.
      let y = of_map (seen_field m n shown) (list_of n.relocs s) k z here in
      let held = each_at (IsHeld n s x.bytes) (list_of n.relocs s) k y.0 (fine.built.fields.each s x there) y.1 in
      let own = own_reloc s k y.0 y.1 in
      subst (IsHeld again s x.bytes) y.2 (record {
        width = held.width ∙ sym (seen_width s y.0.at y.0.item own held.normal);
        inside = held.inside;
        blank = held.blank;
        normal = seen_normal s y.0.at y.0.item own held.normal;
      })))

  -- what each relocation meets that is in normal form, each that is seen does
  pub seen_each : (P Q : Reloc → Type 0) → ((s at : ℕ) (r : Reloc) → reloc_at n s at ≡ Some r → IsNormal n s r → P r → Q (seen_reloc m n shown r))
      → ((s : ℕ) → AllByRecursion (λ (x : Field Reloc). P x.item) (list_of n.relocs s)) → (s : ℕ) → AllByRecursion (λ (x : Field Reloc). Q x.item) (list_of again.relocs s)
  seen_each P Q then all s =
      subst (AllByRecursion (λ (x : Field Reloc). Q x.item)) (sym (list_map (seen_field m n shown) n.relocs s))
      (all_from (λ (x : Field Reloc). Q x.item) (map (seen_field m n shown) (list_of n.relocs s)) (λ k z here.
      let y = of_map (seen_field m n shown) (list_of n.relocs s) k z here in
      let own = own_reloc s k y.0 y.1 in
      let x = there_at n.sections s (inside s k y.0 y.1) in
      let held = each_at (IsHeld n s x.0.bytes) (list_of n.relocs s) k y.0 (fine.built.fields.each s x.0 x.1) y.1 in
      subst (λ (q : Field Reloc). Q q.item) y.2 (then s y.0.at y.0.item own held.normal (each_at (λ (q : Field Reloc). P q.item) (list_of n.relocs s) k y.0 (all s) y.1))))
    where
      -- a section that has a field is there
      in_lists : (lists : List (List (Field Reloc))) (s k : ℕ) (x : Field Reloc) → slice_get (list_of lists s) k ≡ Some x → s < length lists
      in_lists [] s k x here = absurd (none-some x here)
      in_lists (xs ∷ lists) zero k x here = omega arith
      in_lists (xs ∷ lists) (suc s) k x here = let l = in_lists lists s k x here in omega (arith, l)

      inside : (s k : ℕ) (x : Field Reloc) → slice_get (list_of n.relocs s) k ≡ Some x → s < length n.sections
      inside s k x here = let l = in_lists n.relocs s k x here in let e = fine.built.fields.counted in omega (arith, l, e)

  -- the fields follow one another
  follow_map : (p : ℕ) (xs : List (Field Reloc)) → FollowFrom p xs → FollowFrom p (map (seen_field m n shown) xs)
  follow_map p [] follow = follow
  follow_map p (x ∷ xs) follow = (follow.0, follow.1, follow_map (end_of x) xs follow.2)

  pub seen_apart : (s : ℕ) → FollowFrom 0 (list_of again.relocs s)
  seen_apart s = subst (FollowFrom 0) (sym (list_map (seen_field m n shown) n.relocs s)) (follow_map 0 (list_of n.relocs s) (fine.built.fields.apart s))
