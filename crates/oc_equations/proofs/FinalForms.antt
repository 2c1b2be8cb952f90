-- The symbols of an object that stay, after all words and with settled fallbacks, have their final forms; and the faults on the way are the conditions.
use Rattle.std.proofs.Common.{◌≡◌, ℕ, zero, suc, ◌+◌, Bool, true, false, not, ◌&&◌, cond, List, [], ◌∷◌, ◌++◌, length, map, take, append_assoc, Option, Some}
use Rattle.std.proofs.Common.{None, inl, inr, refl, sym, ◌∙◌, ap, subst, arith}
use Rattle.std.specs.{Prelude.{slice_get}, List.{AllByRecursion, list_any, enumerate_from}, Option.{option_map, option_map_or, option_and_then}}
use Rattle.std.proofs.lemmas.{Bool.{true≢false}, Option.{same_Some, slice_get-map}}
use Rattle.oc_base.specs.{declared.code.Code.TheVariants.{PinnedWeak, TargetKind}, declared.fault.Fault.{Fault}}
use Rattle.oc_linking.specs.declared.terms.Fallback.TheVariants as fallback
use Rattle.oc_linking.specs.{declared.terms.Binding.{Binding}, declared.terms.Binding.TheVariants.{Weak}}
use Rattle.oc_linking.specs.{Numbers.{or_else}, FirstFault.{first_broken, stage_fault}, Keeping.{kept_of}, Parts.{is_local}}
use Rattle.oc_neutral.specs.{declared.symbol.Symbol.{Symbol}, Objects.{Object}, Invariants.{IsBinding, IsSymbol, IsObject}}
use Rattle.oc_neutral.specs.Without.{IsDetached, lies_in_dropped, moved_binding, new_position, symbols_stay, with_binding}
use Rattle.oc_neutral.proofs.{Positions.{each_at}, KeptLists.{all_kept}, LeftParts.{strong_outer, symbol_there}}
use Rattle.oc_drop.specs.Steps.{first_in, symbol_fault}
use Rattle.oc_drop.proofs.{DroppedSections.{map_same, map_twice}, DroppedSymbols.{nonlocal-clear}}
use Rattle.oc_names.specs.declared.edit.Edit.{Edit}
use Rattle.oc_names.specs.Rebinding.{bindings_of, fallback_binding, fallback_code, fallback_fault, is_global, pinned_fault, placed_fallback, rebound, settled}
use Rattle.oc_names.specs.Rebinding.{settled_binding}
use Rattle.oc_names.specs.EditedFile.{after_all}
use Rattle.oc_names.proofs.TurnsBindings.{own_free, own_settled, stands_for, stands_or_not}
use Rattle.oc_names.proofs.TurnsWords.{words_fault}
use Rattle.oc_equations.specs.Symbols.{asks_local, asks_weak, fallback_form, final_form, form_by}
use Rattle.oc_equations.specs.Faults as faults
use Rattle.oc_equations.specs.Faults.{each_of, fault_about}
use Rattle.oc_equations.proofs.Firsts.{broken_map, first_map, first_same, stage_in}
use Rattle.oc_equations.proofs.KeptItems.{first_of_kept}
use Rattle.oc_equations.proofs.Forms.{after_is, after_more, code_moved, fallback_none, form_local, form_moved, global_moved, placed_moved, standing_moved}
use Rattle.oc_equations.proofs.Forms.{weakened_is}

-- ... words, one after another, over any symbols

-- the condition on the option x.1, where these come before it
abbrev weakens : List Edit → Edit → Symbol → Bool
weakens before edit s = asks_weak s.name edit && faults.is_global (form_by before s.name None s.binding) && s.pinned

-- the symbol with its final form, and its input name
abbrev pub formed : List Bool → List Bool → List Edit → List Symbol → Symbol → Symbol
formed stay names edits symbols s = with_binding s (moved_binding stay names (final_form edits symbols s))

module _ (stay names : List Bool) where
  -- a symbol that moved, after words
  abbrev pub moved : Symbol → Symbol
  moved s = with_binding s (moved_binding stay names s.binding)

  pub after_moved : (edits : List Edit) (s : Symbol) → after_all edits (moved s) ≡ with_binding s (moved_binding stay names (form_by edits s.name None s.binding))
  after_moved edits s =
      after_is edits (moved s)
      ∙ ap (with_binding s) (form_moved stay names (list_any (asks_weak s.name) edits) (list_any (asks_local s.name) edits) s.binding)

  pinned_is : (before : List Edit) (edit : Edit) (s : Symbol) → pinned_fault edit (after_all before (moved s)) ≡ cond (weakens before edit s) (Some (fault_about s.number PinnedWeak 0)) None
  pinned_is before edit s =
      ap (pinned_fault edit) (after_moved before s)
      ∙ ap (λ a. cond (a && is_global (moved_binding stay names (form_by before s.name None s.binding)) && s.pinned) (Some (symbol_fault PinnedWeak s)) None) (weakened_is edit s.name)
      ∙ ap (λ g. cond (asks_weak s.name edit && g && s.pinned) (Some (symbol_fault PinnedWeak s)) None) (global_moved stay names (form_by before s.name None s.binding))

  module _ (all : List Edit) (xs : List Symbol) where
    -- the fault of the option at a position
    abbrev word_fault : ℕ × Edit → Option Fault
    word_fault x = first_in (λ s. cond (weakens (take x.0 all) x.1 s) (Some (fault_about s.number PinnedWeak 0)) None) xs

    words-from : (before edits : List Edit) (i : ℕ) → all ≡ before ++ edits → take i all ≡ before → length before ≡ i
        → words_fault edits (map (λ s. after_all before (moved s)) xs) ≡ first_in word_fault (enumerate_from i edits)
    words-from before [] i is first long = refl
    words-from before (edit ∷ edits) i is first long =
        ap (λ o. or_else o (words_fault edits (map (rebound edit) (map (λ s. after_all before (moved s)) xs))))
        (first_map (pinned_fault edit) (λ s. after_all before (moved s)) xs
        ∙ first_same (λ s. pinned_fault edit (after_all before (moved s))) (λ s. cond (weakens (take i all) edit s) (Some (fault_about s.number PinnedWeak 0)) None) xs
        (λ k s here. pinned_is before edit s ∙ ap (λ bs. cond (weakens bs edit s) (Some (fault_about s.number PinnedWeak 0)) None) (sym first)))
        ∙ ap (or_else (word_fault (i, edit)))
        (ap (words_fault edits) (map_twice (rebound edit) (λ s. after_all before (moved s)) xs
        ∙ map_same (λ s. rebound edit (after_all before (moved s))) (λ s. after_all (before ++ edit ∷ []) (moved s)) xs (λ k s here. after_more before edit (moved s)))
        ∙ words-from (before ++ edit ∷ []) edits (i + 1) (is ∙ sym (append_assoc before (edit ∷ []) edits))
        (let next : i + 1 ≡ suc i = omega arith in ap (λ k. take k all) next ∙ ap (take (suc i)) is ∙ more before edit edits i long) (longer before edit i long))
      where
        more : (before : List Edit) (edit : Edit) (edits : List Edit) (i : ℕ) → length before ≡ i → take (suc i) (before ++ edit ∷ edits) ≡ before ++ edit ∷ []
        more [] edit edits zero long = refl
        more [] edit edits (suc i) long = absurd (omega (arith, long))
        more (b ∷ before) edit edits zero long = absurd (omega (arith, long))
        more (b ∷ before) edit edits (suc i) long = ap (λ es. b ∷ es) (more before edit edits i (omega (arith, long)))

        longer : (before : List Edit) (edit : Edit) (i : ℕ) → length before ≡ i → length (before ++ edit ∷ []) ≡ i + 1
        longer [] edit i long = omega (arith, long)
        longer (b ∷ before) edit zero long = absurd (omega (arith, long))
        longer (b ∷ before) edit (suc i) long = let e = longer before edit i (omega (arith, long)) in omega (arith, e)

    pub words-are : words_fault all (map moved xs) ≡ first_in word_fault (enumerate_from 0 all)
    words-are = words-from [] all 0 refl (first_none all) refl
      where
        first_none : (es : List Edit) → take 0 es ≡ []
        first_none es = refl

-- ... the symbols of an object

module _ (edits : List Edit) (stay : List Bool) (n : Object) (fine : IsObject n) (long : length n.sections ≡ length stay) (none : IsDetached stay n) where
  abbrev pub names : List Bool
  names = symbols_stay stay n.symbols

  abbrev pub those : List Symbol
  those = kept_of names n.symbols

  -- the symbols after all words
  abbrev pub worded : List Symbol
  worded = map (after_all edits) (map (moved stay names) those)

  -- one that goes is a Local
  pub gone_local : (k : ℕ) (s : Symbol) → slice_get n.symbols k ≡ Some s → slice_get names k ≡ Some false → is_local s.binding ≡ true
  gone_local k s here goes = by (is_local s.binding) refl
    where
      lies : not (lies_in_dropped stay s) ≡ false
      lies = same_Some (not (lies_in_dropped stay s)) false (sym (slice_get-map (λ (t : Symbol). not (lies_in_dropped stay t)) n.symbols k ∙ ap (option_map (λ (t : Symbol). not (lies_in_dropped stay t))) here) ∙ goes)

      by : (b : Bool) → is_local s.binding ≡ b → b ≡ true
      by true e = refl
      by false e = absurd (true≢false (sym (ap not (nonlocal-clear stay n long none k s here e)) ∙ lies))

  -- words
  pub words-told : words_fault edits (map (moved stay names) those)
      ≡ stage_fault (each_of (λ (x : ℕ × Edit). map (λ (s : Symbol). (weakens (take x.0 edits) x.1 s, fault_about s.number PinnedWeak 0)) n.symbols) (enumerate_from 0 edits))
  words-told =
      words-are stay names edits those
      ∙ first_same (word_fault stay names edits those) (λ (x : ℕ × Edit). first_broken (map (λ (s : Symbol). (weakens (take x.0 edits) x.1 s, fault_about s.number PinnedWeak 0)) n.symbols)) (enumerate_from 0 edits)
      (λ k x here.
      first_of_kept (λ s. cond (weakens (take x.0 edits) x.1 s) (Some (fault_about s.number PinnedWeak 0)) None) names n.symbols
      (λ j s at goes. off (take x.0 edits) x.1 s (gone_local j s at goes))
      ∙ sym (broken_map (λ (s : Symbol). (weakens (take x.0 edits) x.1 s, fault_about s.number PinnedWeak 0)) n.symbols))
      ∙ sym (stage_in (λ (x : ℕ × Edit). map (λ (s : Symbol). (weakens (take x.0 edits) x.1 s, fault_about s.number PinnedWeak 0)) n.symbols) (enumerate_from 0 edits))
    where
      global_local : (b : Binding) → is_local b ≡ true → faults.is_global b ≡ false
      global_local b is = grind arith

      never : (a c : Bool) (f : Fault) → cond (a && false && c) (Some f) None ≡ None
      never a c f = grind arith

      off : (before : List Edit) (edit : Edit) (s : Symbol) → is_local s.binding ≡ true → cond (weakens before edit s) (Some (fault_about s.number PinnedWeak 0)) None ≡ None
      off before edit s is =
          let same : faults.is_global (form_by before s.name None s.binding) ≡ false
          = ap faults.is_global (form_local (list_any (asks_weak s.name) before) (list_any (asks_local s.name) before) None s.binding is) ∙ global_local s.binding is in
          ap (λ g. cond (asks_weak s.name edit && g && s.pinned) (Some (fault_about s.number PinnedWeak 0)) None) same ∙ never (asks_weak s.name edit) s.pinned (fault_about s.number PinnedWeak 0)

  -- ... fallbacks

  -- the binding after all words of a symbol that stays
  worded-at : (k : ℕ) (t : Symbol) → slice_get n.symbols k ≡ Some t → lies_in_dropped stay t ≡ false
      → slice_get (bindings_of worded) (new_position names k) ≡ Some (moved_binding stay names (form_by edits t.name None t.binding))
  worded-at k t here clear =
      slice_get-map (λ (s : Symbol). s.binding) worded (new_position names k)
      ∙ ap (option_map (λ (s : Symbol). s.binding))
      (slice_get-map (after_all edits) (map (moved stay names) those) (new_position names k)
      ∙ ap (option_map (after_all edits)) (symbol_there stay n long none k t here clear))
      ∙ ap (λ (s : Symbol). Some s.binding) (after_moved stay names edits t)

  abbrev worded_binding : Symbol → Binding
  worded_binding s = moved_binding stay names (form_by edits s.name None s.binding)

  -- of a Weak that names its fallback, the form of that
  record Standing (s : Symbol) (k : ℕ) : Type 0 where
    own : s.binding ≡ Weak (fallback.Name k)
    other : Binding
    told : fallback_form edits n.symbols s.binding ≡ Some other
    there : fallback_binding (bindings_of worded) (worded_binding s) ≡ Some (moved_binding stay names other)

  standing : (s : Symbol) (k : ℕ) → IsBinding n s.binding → s.binding ≡ Weak (fallback.Name k) → Standing s k
  standing s k is own =
      let named = subst (IsBinding n) own is in
      let t : Symbol = named.0 in
      let clear : lies_in_dropped stay t ≡ false = nonlocal-clear stay n long none k t named.1 (strong_outer t.binding named.2) in
      record {
        own = own;
        other = form_by edits t.name None t.binding;
        told = ap (fallback_form edits n.symbols) own ∙ ap (option_map (λ (t : Symbol). form_by edits t.name None t.binding)) named.1;
        there = ap (λ b. fallback_binding (bindings_of worded) (moved_binding stay names (form_by edits s.name None b))) own ∙ worded-at k t named.1 clear;
      }

  -- the fault of a fallback that took a form
  abbrev told_of : Symbol → Option Binding → Option Fault
  told_of s o =
      first_broken ((option_map_or faults.is_weak o false, fault_about s.number PinnedWeak 0) ∷ (option_map_or faults.is_local_number o false, fault_about s.number TargetKind 0) ∷ [])

  fallback-told : (s : Symbol) → IsBinding n s.binding
      → fallback_fault (bindings_of worded) (after_all edits (moved stay names s)) ≡ first_broken (faults.falls_on_weak edits n.symbols s ∷ faults.falls_on_number edits n.symbols s ∷ [])
  fallback-told s is =
      ap (fallback_fault (bindings_of worded)) (after_moved stay names edits s)
      ∙ elim (stands_or_not s.binding) [
        | inl named ↦ weak named.0 (standing s named.0 is named.1)
        | inr own ↦ free own
      ]
    where
      by : (a b : Bool) → option_map (λ code. symbol_fault code s) (cond a (Some PinnedWeak) (cond b (Some TargetKind) None))
          ≡ first_broken ((a, fault_about s.number PinnedWeak 0) ∷ (b, fault_about s.number TargetKind 0) ∷ [])
      by a b = grind arith

      weak : (k : ℕ) → Standing s k → option_map (λ code. symbol_fault code s) (option_and_then fallback_code (fallback_binding (bindings_of worded) (worded_binding s))) ≡ told_of s (fallback_form edits n.symbols s.binding)
      weak k st =
          ap (λ o. option_map (λ code. symbol_fault code s) (option_and_then fallback_code o)) st.there
          ∙ ap (option_map (λ code. symbol_fault code s)) (code_moved stay names st.other)
          ∙ by (faults.is_weak st.other) (faults.is_local_number st.other)
          ∙ sym (ap (told_of s) st.told)

      free : stands_for s.binding ≡ false → option_map (λ code. symbol_fault code s) (option_and_then fallback_code (fallback_binding (bindings_of worded) (worded_binding s))) ≡ told_of s (fallback_form edits n.symbols s.binding)
      free own =
          ap (λ o. option_map (λ code. symbol_fault code s) (option_and_then fallback_code o))
          (own_free (bindings_of worded) (worded_binding s) (standing_moved stay names (list_any (asks_weak s.name) edits) (list_any (asks_local s.name) edits) s.binding own))
          ∙ sym (ap (told_of s) (fallback_none edits n.symbols s.binding own))

  pub fallbacks-told : first_in (fallback_fault (bindings_of worded)) worded
      ≡ stage_fault (each_of (λ s. faults.falls_on_weak edits n.symbols s ∷ faults.falls_on_number edits n.symbols s ∷ []) n.symbols)
  fallbacks-told =
      first_map (fallback_fault (bindings_of worded)) (after_all edits) (map (moved stay names) those)
      ∙ first_map (λ s. fallback_fault (bindings_of worded) (after_all edits s)) (moved stay names) those
      ∙ first_of_kept (λ s. fallback_fault (bindings_of worded) (after_all edits (moved stay names s))) names n.symbols
      (λ k s here goes. ap (fallback_fault (bindings_of worded)) (after_moved stay names edits s) ∙ local_none s (gone_local k s here goes))
      ∙ first_same (λ s. fallback_fault (bindings_of worded) (after_all edits (moved stay names s))) (λ s. first_broken (faults.falls_on_weak edits n.symbols s ∷ faults.falls_on_number edits n.symbols s ∷ [])) n.symbols
      (λ k s here. fallback-told s (each_at (IsSymbol n) n.symbols k s fine.complete.symbols here).binding)
      ∙ sym (stage_in (λ s. faults.falls_on_weak edits n.symbols s ∷ faults.falls_on_number edits n.symbols s ∷ []) n.symbols)
    where
      local_free : (b : Binding) → is_local b ≡ true → fallback_binding (bindings_of worded) (moved_binding stay names b) ≡ None
      local_free b is = grind arith

      local_none : (s : Symbol) → is_local s.binding ≡ true → option_map (λ code. symbol_fault code s) (option_and_then fallback_code (fallback_binding (bindings_of worded) (worded_binding s))) ≡ None
      local_none s is =
          ap (λ b. option_map (λ code. symbol_fault code s) (option_and_then fallback_code (fallback_binding (bindings_of worded) (moved_binding stay names b))))
          (form_local (list_any (asks_weak s.name) edits) (list_any (asks_local s.name) edits) None s.binding is)
          ∙ ap (λ o. option_map (λ code. symbol_fault code s) (option_and_then fallback_code o)) (local_free s.binding is)

  -- the settled binding
  settled-told : (s : Symbol) → IsBinding n s.binding → settled_binding (bindings_of worded) (worded_binding s) ≡ moved_binding stay names (final_form edits n.symbols s)
  settled-told s is = elim (stands_or_not s.binding) [
    | inl named ↦ weak named.0 (standing s named.0 is named.1)
    | inr own ↦
        own_settled (bindings_of worded) (worded_binding s) (standing_moved stay names (list_any (asks_weak s.name) edits) (list_any (asks_local s.name) edits) s.binding own)
        ∙ ap (λ o. moved_binding stay names (form_by edits s.name o s.binding)) (sym (fallback_none edits n.symbols s.binding own))
  ]
    where
      weak : (k : ℕ) → Standing s k → settled_binding (bindings_of worded) (worded_binding s) ≡ moved_binding stay names (final_form edits n.symbols s)
      weak k st =
          ap (λ o. option_map_or (placed_fallback (worded_binding s)) o (worded_binding s)) st.there
          ∙ ap (λ b. placed_fallback (moved_binding stay names (form_by edits s.name None b)) (moved_binding stay names st.other)) st.own
          ∙ placed_moved stay names k st.other
          ∙ ap (λ b. moved_binding stay names (form_by edits s.name (Some st.other) b)) (sym st.own)
          ∙ ap (λ o. moved_binding stay names (form_by edits s.name o s.binding)) (sym st.told)

  -- the symbols with settled fallbacks
  pub settled-are : map (settled (bindings_of worded)) worded ≡ map (formed stay names edits n.symbols) those
  settled-are =
      map_twice (settled (bindings_of worded)) (after_all edits) (map (moved stay names) those)
      ∙ map_twice (λ s. settled (bindings_of worded) (after_all edits s)) (moved stay names) those
      ∙ map_same (λ s. settled (bindings_of worded) (after_all edits (moved stay names s))) (formed stay names edits n.symbols) those
      (λ k s here. ap (settled (bindings_of worded)) (after_moved stay names edits s) ∙ ap (with_binding s) (settled-told s (each_at (IsSymbol n) those k s those_fine here).binding))
    where
      those_fine : AllByRecursion (IsSymbol n) those
      those_fine = all_kept (IsSymbol n) names n.symbols fine.complete.symbols
