-- The table of final forms says what the options, one after another, and then the fallbacks make of a binding.
use Rattle.std.proofs.Common.{◌≡◌, ℕ, Bool, true, false, ◌||◌, cond, List, [], ◌∷◌, ◌++◌, Option, Some, None, refl, sym, ◌∙◌, ap, bytes_eq, arith}
use Rattle.std.specs.{List.{list_any}}
use Rattle.oc_base.specs.declared.code.Code.TheVariants.{PinnedWeak, TargetKind}
use Rattle.oc_linking.specs.declared.terms.Fallback.TheVariants as fallback
use Rattle.oc_linking.specs.{declared.terms.Binding.{Binding}, declared.terms.Binding.TheVariants.{Weak}, Parts.{is_local}}
use Rattle.oc_neutral.specs.{declared.symbol.Symbol.{Symbol}, Without.{moved_binding, with_binding}}
use Rattle.oc_names.specs.declared.edit.Edit.{Edit}
use Rattle.oc_names.specs.declared.edit.Edit.TheVariants.{Rename, Prefix, Suffix, Alias, AliasPrefix, AliasSuffix, Weaken, MakeLocal, Underscore}
use Rattle.oc_names.specs.Rebinding.{fallback_code, is_global, is_weakened, made_local, placed_fallback, rebound, rebound_by, weakened}
use Rattle.oc_names.specs.EditedFile.{after_all}
use Rattle.oc_names.proofs.TurnsBindings.{after_bound, bound, stands_for}
use Rattle.oc_equations.specs.Symbols.{asks_local, asks_weak, fallback_form, form, form_by, stand_in}
use Rattle.oc_equations.specs.Faults as faults

-- ... words

-- nothing is asked
form_none : (b : Binding) → form false false None b ≡ b
form_none b = grind arith

form_weakened : (w l : Bool) (b : Binding) → form w l None (weakened b) ≡ form true l None b
form_weakened w l b = grind arith

form_hidden : (w l : Bool) (b : Binding) → form w l None (made_local b) ≡ form w true None b
form_hidden w l b = grind arith

-- one more option
form_word : (edit : Edit) (name : List ℕ) (w l : Bool) (b : Binding) → form w l None (rebound_by edit name b) ≡ form (asks_weak name edit || w) (asks_local name edit || l) None b
form_word (Weaken of) name w l b = by (bytes_eq name of)
  where
    by : (hit : Bool) → form w l None (cond hit (weakened b) b) ≡ form (hit || w) l None b
    by true = form_weakened w l b
    by false = refl
form_word (MakeLocal of) name w l b = by (bytes_eq name of)
  where
    by : (hit : Bool) → form w l None (cond hit (made_local b) b) ≡ form w (hit || l) None b
    by true = form_hidden w l b
    by false = refl
form_word (Rename from to) name w l b = refl
form_word (Prefix from to) name w l b = refl
form_word (Suffix from to) name w l b = refl
form_word (Alias from to) name w l b = refl
form_word (AliasPrefix from to) name w l b = refl
form_word (AliasSuffix from to) name w l b = refl
form_word Underscore name w l b = refl

-- all words
pub bound_is : (edits : List Edit) (name : List ℕ) (b : Binding) → bound edits name b ≡ form_by edits name None b
bound_is [] name b = sym (form_none b)
bound_is (edit ∷ edits) name b =
    bound_is edits name (rebound_by edit name b) ∙ form_word edit name (list_any (asks_weak name) edits) (list_any (asks_local name) edits) b

pub after_is : (edits : List Edit) (s : Symbol) → after_all edits s ≡ with_binding s (form_by edits s.name None s.binding)
after_is edits s = after_bound edits s ∙ ap (with_binding s) (bound_is edits s.name s.binding)

-- and one after them
pub after_more : (edits : List Edit) (edit : Edit) (s : Symbol) → rebound edit (after_all edits s) ≡ after_all (edits ++ edit ∷ []) s
after_more [] edit s = refl
after_more (e ∷ edits) edit s = after_more edits edit (rebound e s)

pub weakened_is : (edit : Edit) (name : List ℕ) → is_weakened edit name ≡ asks_weak name edit
weakened_is edit name = grind arith

-- ... positions

module _ (stay names : List Bool) where
  pub form_moved : (w l : Bool) (b : Binding) → form w l None (moved_binding stay names b) ≡ moved_binding stay names (form w l None b)
  form_moved w l b = grind arith

  pub global_moved : (b : Binding) → is_global (moved_binding stay names b) ≡ faults.is_global b
  global_moved b = grind arith

  pub local_moved : (b : Binding) → is_local (moved_binding stay names b) ≡ is_local b
  local_moved b = grind arith

  -- a binding that names no fallback names none in the end
  pub standing_moved : (w l : Bool) (b : Binding) → stands_for b ≡ false → stands_for (moved_binding stay names (form w l None b)) ≡ false
  standing_moved w l b own = grind arith

  -- the fallback that took a form
  pub placed_moved : (k : ℕ) (c : Binding)
      → placed_fallback (moved_binding stay names (Weak (fallback.Name k))) (moved_binding stay names c) ≡ moved_binding stay names (Weak (stand_in k (Some c)))
  placed_moved k c = grind arith

  pub code_moved : (c : Binding)
      → fallback_code (moved_binding stay names c) ≡ cond (faults.is_weak c) (Some PinnedWeak) (cond (faults.is_local_number c) (Some TargetKind) None)
  code_moved c = grind arith

-- a binding that names no fallback is as by its own options
pub fallback_none : (edits : List Edit) (symbols : List Symbol) (b : Binding) → stands_for b ≡ false → fallback_form edits symbols b ≡ None
fallback_none edits symbols b own = grind arith

-- what is no Local in the end was none, and a Local stays as it is
pub form_local : (w l : Bool) (own : Option Binding) (b : Binding) → is_local b ≡ true → form w l own b ≡ b
form_local w l own b is = grind arith
