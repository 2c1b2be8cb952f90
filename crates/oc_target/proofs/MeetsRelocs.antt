-- What each relocation of an object that is ready to be written meets.
use Rattle.std.proofs.Common.{◌≡◌, ℕ, zero, suc, ◌<◌, Bool, true, false, not, ◌&&◌, List, [], ◌∷◌, length, Option, Some, None, Result, Ok, Err, refl, sym, ◌∙◌, ap, subst, arith}
use Rattle.std.specs.{Prelude.{slice_get, is_none, is_err}, List.{AllByRecursion}, Option.{option_map, option_map_or, option_and_then}}
use Rattle.std.proofs.lemmas.{Bool.{true≢false, or_parts}, Option.{none-some}}
use Rattle.oc_base.specs.{declared.format.Format.{Format}, Formats.{word_for}}
use Rattle.oc_linking.specs.{Fits.{bytes_of}, declared.terms.Binding.{Binding}, Parts.{is_local}}
use Rattle.oc_linking.specs.declared.terms.Value.TheVariants as value
use Rattle.oc_chains.specs.{declared.field.Field.{Field}, Lists.{Lists, list_of}}
use Rattle.oc_algebra.specs.Fields.{to_field_of}
use Rattle.oc_neutral.specs.{declared.section.Section.{Section}, declared.symbol.Symbol.{Symbol}, declared.reloc.Target.{Target}, declared.reloc.Reloc.{Reloc}}
use Rattle.oc_neutral.specs.{Invariants.{IsHeld, IsHinted, IsNormal, IsObject, NamesOriginal}, Normal.{local_place, place_among}}
use Rattle.oc_neutral.specs.{Objects.{Object, reloc_among, reloc_at}, Rows.{Row}, Spelling.{numbers_in, written_row}}
use Rattle.oc_neutral.specs.TargetRelocations.{is_local_number, is_nonlocal, is_homeless, is_target, needs_slot, needs_home, is_wrong_target, has_no_form, is_too_wide, spot_of, reloc_conditions}
use Rattle.oc_neutral.specs.declared.reloc.Target.TheVariants as target
use Rattle.oc_target.specs.{Fitted.{IsFitted}, Meets.{MeetsReloc}}
use Rattle.oc_target.proofs.{MeetsConditions.{AreMet, field_found, reloc_met}, MeetsRows.{IsCallForm, row_means}}
use Rattle.oc_neutral.proofs.{Positions.{each_at, there_at}, SortedFields.{found_held}}

-- a section in which a relocation is found has a list
pub held_below : (k : ℕ) (lists : Lists Reloc) (at : ℕ) (r : Reloc) → reloc_among (list_of lists k) at ≡ Some r → k < length lists
held_below k [] at r h = absurd (none-some r h)
held_below zero (x ∷ lists) at r h = omega arith
held_below (suc k) (x ∷ lists) at r h = let l = held_below k lists at r h in omega (arith, l)

-- what is known of a field where a relocation is found: its section, and that it is held there
pub record IsFoundField (n : Object) (s at : ℕ) (r : Reloc) : Type 0 where
  pub section : Section
  pub there : slice_get n.sections s ≡ Some section
  pub field : Field Reloc
  pub item : field.item ≡ r
  pub place : field.at ≡ at
  pub held : IsHeld n s section.bytes field

pub field_of : (n : Object) → IsObject n → (s at : ℕ) (r : Reloc) → reloc_at n s at ≡ Some r → IsFoundField n s at r
field_of n is s at r here =
    let below = held_below s n.relocs at r here in
    let counted = is.built.fields.counted in
    let x = there_at n.sections s (omega (arith, below, counted)) in
    let f = field_found (list_of n.relocs s) at r here in
    record {
      section = x.0;
      there = x.1;
      field = f.1;
      item = f.3;
      place = f.4;
      held = each_at (IsHeld n s x.0.bytes) (list_of n.relocs s) f.0 f.1 (is.built.fields.each s x.0 x.1) f.2;
    }

-- a relocation is in normal form
pub normal_of : (n : Object) → IsObject n → (s at : ℕ) (r : Reloc) → reloc_at n s at ≡ Some r → IsNormal n s r
normal_of n is s at r here = let f = field_of n is s at r here in subst (IsNormal n s) f.item f.held.normal

-- a binding of a target that has no place as a Local, and is no Local number
outer_binding : (b : Binding) → is_local_number b ≡ false → local_place b ≡ None → is_local b ≡ false
outer_binding b number place = grind arith

-- what a test of a target says of the symbol
target_test : (n : Object) (test : Binding → Bool) (t : Target) (k : ℕ) (x : Symbol) → t ≡ target.Symbol k → slice_get n.symbols k ≡ Some x → is_target n test t ≡ test x.binding
target_test n test t k x e here = ap (is_target n test) e ∙ ap (λ o. option_map_or (λ (s : Symbol). test s.binding) o false) here

-- what is no error is a number
pub no_error : {E : Type 0} (o : Result ℕ E) → is_err o ≡ false → (number : ℕ) × (o ≡ Ok number)
no_error (Ok number) e = (number, refl)
no_error (Err x) e = absurd (true≢false e)

-- a row is there, where something is made of it
some_row : {X : Type 0} (f : Row → X) (o : Option Row) → is_none (option_map f o) ≡ false → (row : Row) × (o ≡ Some row)
some_row f None e = absurd (true≢false e)
some_row f (Some row) e = (row, refl)

-- the last of two tests, where the first is known
last_of : (x y : Bool) → x ≡ true → (x && y) ≡ false → y ≡ false
last_of true y e both = both
last_of false y e both = absurd (true≢false (sym e))

first_of : (x y : Bool) → y ≡ true → (x && y) ≡ false → x ≡ false
first_of true y e both = sym e ∙ both
first_of false y e both = refl

-- what is named by the relocations of an object
originals : (symbols : List Symbol) (xs : List (Field Reloc)) (at : ℕ) (r : Reloc) → AllByRecursion (λ (x : Field Reloc). NamesOriginal symbols x.item.target) xs → reloc_among xs at ≡ Some r
    → NamesOriginal symbols r.target
originals symbols xs at r all here =
    let f = found_held (λ (x : Field Reloc). NamesOriginal symbols x.item.target) xs at r all here in
    subst (λ (q : Reloc). NamesOriginal symbols q.target) f.1 f.2

-- the hints of an object
hints : (xs : List (Field Reloc)) (at : ℕ) (r : Reloc) → AllByRecursion (λ (x : Field Reloc). IsHinted x.item) xs → reloc_among xs at ≡ Some r → IsHinted r
hints xs at r all here = let f = found_held (λ (x : Field Reloc). IsHinted x.item) xs at r all here in subst IsHinted f.1 f.2

module _ (format : Format) (n : Object) (fits : IsFitted format n) (s at : ℕ) (r : Reloc) (here : reloc_at n s at ≡ Some r) where
  met : AreMet (reloc_conditions format n at r (spot_of n s at))
  met = reloc_met format n fits s at r here

  right : is_wrong_target n r ≡ false
  unfolding reloc_conditions
  right = met.0

  formed : has_no_form format n r ≡ false
  unfolding reloc_conditions
  formed = met.1.0

  held : is_too_wide format at r ≡ false
  unfolding reloc_conditions
  held = met.1.1.1.1.0

  outer : (k : ℕ) (x : Symbol) → r.target ≡ target.Symbol k → slice_get n.symbols k ≡ Some x → is_local x.binding ≡ false
  unfolding place_among
  outer k x e there =
      let parts = or_parts _ _ (or_parts _ _ right).0 in
      let normal = normal_of n fits.object s at r here in
      let place : local_place x.binding ≡ None
      = sym (ap (option_and_then (λ (y : Symbol). local_place y.binding)) there) ∙ ap (place_among n.symbols) (sym e) ∙ normal.against in
      outer_binding x.binding (sym (target_test n is_local_number r.target k x e there) ∙ parts.0) place

  slot : (k : ℕ) → r.target ≡ target.Section k → needs_slot r.form ≡ false
  slot k e =
      let parts = or_parts _ _ (or_parts _ _ right).0 in
      first_of (needs_slot r.form) (not (is_target n is_nonlocal r.target)) (ap (λ t. not (is_target n is_nonlocal t)) e) parts.1

  home : (k : ℕ) (x : Symbol) → needs_home r.form ≡ true → r.target ≡ target.Symbol k → slice_get n.symbols k ≡ Some x → is_homeless x.binding ≡ false
  home k x needs e there =
      sym (target_test n is_homeless r.target k x e there) ∙ last_of (needs_home r.form) (is_target n is_homeless r.target) needs (or_parts _ _ right).1

  call : IsCallForm r.form r.hint
  call = hints (list_of n.relocs s) at r (fits.object.complete.hints s) here

  pub reloc_meets : MeetsReloc format n s at r
  reloc_meets =
      let row = some_row (λ (q : Row). numbers_in q.number q.second) (written_row format r.form r.hint) (or_parts _ _ formed).0 in
      let f = field_of n fits.object s at r here in
      let inside = f.held.inside in
      let place = f.place in
      let width : f.field.width ≡ bytes_of r.form.width = f.held.width ∙ ap (λ (q : Reloc). bytes_of q.form.width) f.item in
      record {
        section = f.section;
        there = f.there;
        inside = omega (arith, inside, place, width);
        normal = normal_of n fits.object s at r here;
        original = originals n.symbols (list_of n.relocs s) at r (fits.object.complete.originals s) here;
        outer = outer;
        slot = slot;
        home = home;
        stays = fits.stored s at r here;
        row = row.0;
        is = row_means format r.form r.hint row.0 call row.1;
        holds = λ shift e.
            no_error (to_field_of (word_for format) r.form.width shift r.addend)
            (sym (ap (λ o. option_map_or (λ q. is_err (to_field_of (word_for format) r.form.width q r.addend)) o false) e) ∙ held);
      }
