-- What the edits leave of a field is what the equations say of it.
use Rattle.std.proofs.Common.{◌≡◌, ℕ, ◌<◌, Bool, true, false, not, ◌||◌, cond, eqb, List, length, map, get_or, Option, Some, None, refl, sym, ◌∙◌, ap, subst}
use Rattle.std.proofs.Common.{arith}
use Rattle.std.specs.{Prelude.{slice_get}, List.{list_any}, Option.{option_map, option_map_or, option_and_then}}
use Rattle.std.proofs.lemmas.{Bool.{true≢false, not-false, eq-eqb, ne_eqb, eqb-true}, List.{length-map}}
use Rattle.std.proofs.lemmas.Option.{none-some, same_Some, get_or_from_slice_get, slice_get-map, slice_get_within}
use Rattle.oc_base.specs.{declared.format.Format.{Format}, declared.format.Word.{Word}, Formats.{word_for}}
use Rattle.oc_linking.specs.declared.terms.Value.TheVariants as value
use Rattle.oc_linking.specs.declared.terms.Fallback.TheVariants as fallback
use Rattle.oc_linking.specs.declared.terms.Base.TheVariants as base
use Rattle.oc_linking.specs.declared.terms.Less.TheVariants as less
use Rattle.oc_linking.specs.{declared.terms.Binding.{Binding}, declared.terms.Binding.TheVariants.{Local, Global, Undefined, Common, Weak}}
use Rattle.oc_linking.specs.{declared.terms.Base.{Base}, declared.terms.Less.{Less}, Keeping.{kept_of}, Parts.{is_local}}
use Rattle.oc_algebra.specs.Residues.{reduced_number}
use Rattle.oc_neutral.specs.{declared.symbol.Symbol.{Symbol}, declared.reloc.Target.{Target}, declared.reloc.Reloc.{Reloc}}
use Rattle.oc_neutral.specs.{declared.normal.Normal.{Normal}, Objects.{Object}}
use Rattle.oc_neutral.specs.Normal.{Place, at_section, by_place, by_section, cancels, folded, local_place, moved_addend, normal_of, place_among, takes_section}
use Rattle.oc_neutral.specs.Invariants.{IsBinding, IsLessThere, IsNormal, IsObject, IsSymbol, IsThere}
use Rattle.oc_neutral.specs.Without.{IsDetached, binding_section, is_dropped, lies_in_dropped, moved_binding, moved_less, moved_reloc, moved_target}
use Rattle.oc_neutral.specs.Without.{new_position, refers_to_dropped, takes_dropped, targets_dropped}
use Rattle.oc_neutral.specs.declared.reloc.Target.TheVariants as target
use Rattle.oc_neutral.specs.declared.normal.Normal.TheVariants as normal
use Rattle.oc_neutral.proofs.{Positions.{each_at, there_at}, KeptLists.{Stays, kept_there, one_position}}
use Rattle.oc_neutral.proofs.{LeftParts.{left_object}, NormalLemmas.{place_among-there}}
use Rattle.oc_drop.proofs.DroppedSymbols.{nonlocal-clear}
use Rattle.oc_names.specs.Wishes.{Wishes}
use Rattle.oc_equations.specs.Symbols.{asks_local, asks_weak, fallback_form, final_form, form, kept, staying}
use Rattle.oc_equations.specs.Fields.{constant, final_place, final_reloc, final_target, final_addend}
use Rattle.oc_equations.proofs.FinalForms.{formed}

-- the place of a Local that took its form: it lay there before
local_before : (w l : Bool) (own : Option Binding) (b : Binding) (p : Place) → local_place (form w l own b) ≡ Some p → local_place b ≡ None → binding_section b ≡ Some p.0
local_before w l own b p is none = grind arith

some_place : (k : ℕ) (offset : ℕ) (p : Place) → Some (k, offset) ≡ Some p → Some k ≡ Some p.0
some_place k offset p e = cc

module _ (wishes : Wishes) (to : Format) (n : Object) (fine : IsObject n) (none : IsDetached (kept wishes to n) n) where
  abbrev pub stay : List Bool
  stay = kept wishes to n

  abbrev pub names : List Bool
  names = staying wishes to n

  pub long : length n.sections ≡ length stay
  long = sym (length-map n.sections _)

  -- the symbols with their final forms
  abbrev pub ys : List Symbol
  ys = map (formed stay names wishes.edits n.symbols) (kept_of names n.symbols)

  abbrev pub w : Word
  w = word_for n.format

  abbrev final : Symbol → Binding
  final s = final_form wishes.edits n.symbols s

  symbol_fine : (k : ℕ) (s : Symbol) → slice_get n.symbols k ≡ Some s → IsBinding n s.binding
  symbol_fine k s here = (each_at (IsSymbol n) n.symbols k s fine.complete.symbols here).binding

  -- a symbol that is no Local with a place does not lie in a section that goes
  clear_of : (k : ℕ) (s : Symbol) → slice_get n.symbols k ≡ Some s → local_place s.binding ≡ None → lies_in_dropped stay s ≡ false
  clear_of k s here free = by s.binding refl free
    where
      outer : is_local s.binding ≡ false → lies_in_dropped stay s ≡ false
      outer out = nonlocal-clear stay n long none k s here out

      by : (b : Binding) → s.binding ≡ b → local_place b ≡ None → lies_in_dropped stay s ≡ false
      by (Local (value.Place i offset)) e free = absurd (none-some (i, offset) (sym free))
      by (Local (value.Absolute i)) e free = ap (λ b. option_map_or (is_dropped stay) (binding_section b) false) e
      by (Global v) e free = outer (ap is_local e)
      by Undefined e free = outer (ap is_local e)
      by (Common size align) e free = outer (ap is_local e)
      by (Weak f) e free = outer (ap is_local e)

  -- it stands among those that stay
  pub formed-there : (k : ℕ) (s : Symbol) → slice_get n.symbols k ≡ Some s → lies_in_dropped stay s ≡ false → slice_get ys (new_position names k) ≡ Some (formed stay names wishes.edits n.symbols s)
  formed-there k s here clear =
      let flag : get_or names k true ≡ true
      = get_or_from_slice_get names k (not (lies_in_dropped stay s)) true
      (slice_get-map (λ (s : Symbol). not (lies_in_dropped stay s)) n.symbols k ∙ ap (option_map (λ (s : Symbol). not (lies_in_dropped stay s))) here) ∙ ap not clear in
      slice_get-map (formed stay names wishes.edits n.symbols) (kept_of names n.symbols) (new_position names k)
      ∙ ap (option_map (formed stay names wishes.edits n.symbols)) (kept_there names n.symbols k s (sym (length-map n.symbols (λ (s : Symbol). not (lies_in_dropped stay s)))) flag here)

  -- ... what a field names

  abbrev moved_place : Place → Place
  moved_place p = (new_position stay p.0, p.1)

  place_moved : (b : Binding) → local_place (moved_binding stay names b) ≡ option_map moved_place (local_place b)
  place_moved b = grind arith

  place-told : (t : Target) → IsThere n t → place_among n.symbols t ≡ None → place_among ys (moved_target stay names t) ≡ option_map moved_place (final_place wishes to n t)
  unfolding place_among
  place-told (target.Section k) there free = refl
  place-told (target.Symbol k) there free =
      let s = there_at n.symbols k there in
      let own : local_place s.0.binding ≡ None = sym (place_among-there n.symbols k s.0 s.1) ∙ free in
      place_among-there ys (new_position names k) (formed stay names wishes.edits n.symbols s.0) (formed-there k s.0 s.1 (clear_of k s.0 s.1 own))
      ∙ place_moved (final s.0)
      ∙ ap (λ o. option_map moved_place (option_and_then (λ (s : Symbol). local_place (final s)) o)) (sym s.1)

  -- the section of a final place is kept
  record IsKept (k : ℕ) : Type 0 where
    low : k < length n.sections
    stays : Stays stay k

  section_low : (b : Binding) (k : ℕ) → IsBinding n b → binding_section b ≡ Some k → k < length n.sections
  section_low (Local (value.Place j offset)) k is e = let same : j ≡ k = same_Some j k e in subst (λ i. i < length n.sections) same (slice_get_within n.sections j is.0 is.1)
  section_low (Local (value.Absolute i)) k is e = absurd (none-some k e)
  section_low (Global (value.Place j offset)) k is e = let same : j ≡ k = same_Some j k e in subst (λ i. i < length n.sections) same (slice_get_within n.sections j is.0 is.1)
  section_low (Global (value.Absolute i)) k is e = absurd (none-some k e)
  section_low Undefined k is e = absurd (none-some k e)
  section_low (Common size align) k is e = absurd (none-some k e)
  section_low (Weak (fallback.Place j offset)) k is e = let same : j ≡ k = same_Some j k e in subst (λ i. i < length n.sections) same (slice_get_within n.sections j is.0 is.1)
  section_low (Weak fallback.Zero) k is e = absurd (none-some k e)
  section_low (Weak (fallback.Name j)) k is e = absurd (none-some k e)

  place_kept : (t : Target) (p : Place) → IsThere n t → place_among n.symbols t ≡ None → final_place wishes to n t ≡ Some p → IsKept p.0
  place_kept (target.Section k) p there free is = absurd (none-some p is)
  place_kept (target.Symbol k) p there free is =
      let s = there_at n.symbols k there in
      let own : local_place s.0.binding ≡ None = sym (place_among-there n.symbols k s.0 s.1) ∙ free in
      let at : local_place (final s.0) ≡ Some p = sym (ap (option_and_then (λ (s : Symbol). local_place (final s))) s.1) ∙ is in
      let lay : binding_section s.0.binding ≡ Some p.0
      = local_before (list_any (asks_weak s.0.name) wishes.edits) (list_any (asks_local s.0.name) wishes.edits) (fallback_form wishes.edits n.symbols s.0.binding) s.0.binding p at own in
      let clear : is_dropped stay p.0 ≡ false = sym (ap (λ o. option_map_or (is_dropped stay) o false) lay) ∙ clear_of k s.0 s.1 own in
      record { low = section_low s.0.binding p.0 (symbol_fine k s.0 s.1) lay; stays = not-false (get_or stay p.0 true) clear }

  -- ... relocations

  -- the relocation, where its target has that place in the end
  abbrev with_place : Reloc → Option Place → Reloc
  with_place r o = record {
    target = moved_target stay names (option_map_or (λ (place : Place). target.Section place.0) o r.target);
    form = record { base = r.form.base; less = moved_less stay r.form.less; width = r.form.width; check = r.form.check };
    addend = option_map_or (λ (place : Place). reduced_number w (moved_addend r.form.base r.addend place.1)) o r.addend;
    hint = r.hint;
  }

  placed : (r : Reloc) → reduced_number w r.addend ≡ r.addend → (o : Option Place) → at_section w (moved_reloc stay names r) (option_map moved_place o) ≡ with_place r o
  placed r reduced None = ap (λ a. record { target = moved_target stay names r.target; form = (moved_reloc stay names r).form; addend = a; hint = r.hint }) reduced
  placed r reduced (Some p) = refl

  section-told : (k : ℕ) (r : Reloc) → IsNormal n k r → by_section w ys (moved_reloc stay names r) ≡ final_reloc wishes to n r
  unfolding by_section
  section-told k r is =
      ap (at_section w (moved_reloc stay names r)) (place-told r.target is.target is.against) ∙ placed r is.reduced (final_place wishes to n r.target)

  -- positions of sections that are kept differ where the sections do
  positions-differ : (j k : ℕ) → IsKept j → IsKept k → eqb (new_position stay j) (new_position stay k) ≡ eqb j k
  positions-differ j k one two = by (eqb j k) refl
    where
      by : (b : Bool) → eqb j k ≡ b → eqb (new_position stay j) (new_position stay k) ≡ b
      by true e = eq-eqb (new_position stay j) (new_position stay k) (ap (new_position stay) (eqb-true j k e))
      by false e = ne_eqb (new_position stay j) (new_position stay k) (λ same.
          true≢false (sym (eq-eqb j k (one_position stay j k (let l = one.low in omega (arith, l, long)) (let l = two.low in omega (arith, l, long)) one.stays two.stays same)) ∙ e))

  -- a section that a field names or takes is kept
  abbrev TargetKept : Target → Type 0
  TargetKept (target.Section k) = IsKept k
  TargetKept (target.Symbol k) = Unit {0}

  abbrev LessKept : Less → Type 0
  LessKept (less.Section k) = IsKept k
  LessKept less.Zero = Unit {0}
  LessKept less.Place = Unit {0}
  LessKept less.GotBase = Unit {0}
  LessKept less.ImageBase = Unit {0}
  LessKept less.Home = Unit {0}

  cancels-moved : (b : Base) (t : Target) (l : Less) → TargetKept t → LessKept l → cancels b (moved_target stay names t) (moved_less stay l) ≡ cancels b t l
  cancels-moved base.Address (target.Section j) (less.Section k) one two = positions-differ j k one two
  cancels-moved base.Address (target.Section j) less.Zero one two = refl
  cancels-moved base.Address (target.Section j) less.Place one two = refl
  cancels-moved base.Address (target.Section j) less.GotBase one two = refl
  cancels-moved base.Address (target.Section j) less.ImageBase one two = refl
  cancels-moved base.Address (target.Section j) less.Home one two = refl
  cancels-moved base.Address (target.Symbol j) l one two = refl
  cancels-moved base.Slot t l one two = refl
  cancels-moved base.GotBase t l one two = refl
  cancels-moved base.HomeNumber t l one two = refl

  own_kept : (t : Target) → IsThere n t → targets_dropped stay t ≡ false → TargetKept t
  own_kept (target.Section k) there clear = record { low = there; stays = not-false (get_or stay k true) clear }
  own_kept (target.Symbol k) there clear = tt

  less_kept : (l : Less) → IsLessThere n l → takes_dropped stay l ≡ false → LessKept l
  less_kept (less.Section k) there clear = record { low = there; stays = not-false (get_or stay k true) clear }
  less_kept less.Zero there clear = tt
  less_kept less.Place there clear = tt
  less_kept less.GotBase there clear = tt
  less_kept less.ImageBase there clear = tt
  less_kept less.Home there clear = tt

  target_kept : (r : Reloc) (k : ℕ) → IsNormal n k r → targets_dropped stay r.target ≡ false → TargetKept (final_target wishes to n r.target)
  target_kept r k is clear = by (final_place wishes to n r.target) refl
    where
      by : (o : Option Place) → final_place wishes to n r.target ≡ o → TargetKept (option_map_or (λ (place : Place). target.Section place.0) o r.target)
      by None e = own_kept r.target is.target clear
      by (Some p) e = place_kept r.target p is.target is.against e

  -- ... what is left of a field

  -- the constant, or the relocation
  abbrev pub outcome : Reloc → Normal
  outcome r = option_map_or (λ c. normal.Constant c) (constant wishes to n r) (normal.Kept (final_reloc wishes to n r))

  folds-told : (i at : ℕ) (r : Reloc) → takes_section i (moved_less stay r.form.less) ≡ false
      → cancels r.form.base (moved_target stay names (final_target wishes to n r.target)) (moved_less stay r.form.less) ≡ cancels r.form.base (final_target wishes to n r.target) r.form.less
      → folded w i at (final_reloc wishes to n r) ≡ outcome r
  unfolding folded
  folds-told i at r free same =
      ap (λ b. cond b (normal.Constant (final_addend wishes to n r)) (cond (takes_section i (moved_less stay r.form.less)) (normal.Kept (by_place w at q)) (normal.Kept q))) same
      ∙ ap (λ b. cond (cancels r.form.base (final_target wishes to n r.target) r.form.less) (normal.Constant (final_addend wishes to n r)) (cond b (normal.Kept (by_place w at q)) (normal.Kept q))) free
      ∙ by (cancels r.form.base (final_target wishes to n r.target) r.form.less)
    where
      q : Reloc
      q = final_reloc wishes to n r

      by : (b : Bool) → cond b (normal.Constant (final_addend wishes to n r)) (normal.Kept (final_reloc wishes to n r))
          ≡ option_map_or (λ c. normal.Constant c) (cond b (Some (final_addend wishes to n r)) None) (normal.Kept (final_reloc wishes to n r))
      by true = refl
      by false = refl

  pub left-told : (k i at : ℕ) (r : Reloc) → IsNormal n k r → IsNormal (left_object stay n long none) i (moved_reloc stay names r) → refers_to_dropped stay r ≡ false
      → normal_of w ys i at (moved_reloc stay names r) ≡ outcome r
  left-told k i at r is moved clear =
      ap (folded w i at) (section-told k r is)
      ∙ folds-told i at r moved.placed
      (cancels-moved r.form.base (final_target wishes to n r.target) r.form.less (target_kept r k is (first (targets_dropped stay r.target) (takes_dropped stay r.form.less) clear))
      (less_kept r.form.less is.less (second (targets_dropped stay r.target) (takes_dropped stay r.form.less) clear)))
    where
      first : (a b : Bool) → (a || b) ≡ false → a ≡ false
      first a b e = grind arith

      second : (a b : Bool) → (a || b) ≡ false → b ≡ false
      second a b e = grind arith
