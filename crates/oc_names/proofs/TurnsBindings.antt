-- What edits make of the bindings of symbols, one after another, and what settling fallbacks leaves of them.
use Rattle.std.proofs.Common.{◌≡◌, ◌≢◌, ◌⊎◌, ℕ, Bool, true, false, cond, bytes_eq, List, [], ◌∷◌, Option, Some, None, refl, sym, ◌∙◌, ap, arith}
use Rattle.std.specs.{Prelude.{slice_get}, List.{AllByRecursion}, Option.{option_map_or}}
use Rattle.std.proofs.lemmas.{Bool.{true≢false}, Slice.Eq.{bytes_eq-Decides}}
use Rattle.oc_linking.specs.declared.terms.Value.TheVariants as value
use Rattle.oc_linking.specs.{declared.terms.Fallback.{Fallback}, declared.terms.Binding.{Binding}}
use Rattle.oc_linking.specs.{declared.terms.Binding.TheVariants.{Local, Global, Undefined, Common, Weak}, Parts.{is_local}}
use Rattle.oc_linking.specs.declared.terms.Fallback.TheVariants as fallback
use Rattle.oc_neutral.specs.{declared.symbol.Symbol.{Symbol}, Normal.{local_place}, Without.{with_binding}}
use Rattle.oc_names.specs.declared.edit.Edit.{Edit}
use Rattle.oc_names.specs.declared.edit.Edit.TheVariants.{Rename, Prefix, Suffix, Alias, AliasPrefix, AliasSuffix, Weaken, MakeLocal, Underscore}
use Rattle.oc_names.specs.Rebinding.{fallback_binding, is_global, is_weakened, made_local, placed_fallback, rebound, rebound_by, settled_binding, weakened}
use Rattle.oc_names.specs.{EditedFile.{after_all}, Turns.{is_about, Leave}}
use Rattle.oc_names.proofs.TurnsNames.{leave_first, leave_rest}

-- the binding after all words
abbrev pub bound : List Edit → List ℕ → Binding → Binding
bound [] of b = b
bound (edit ∷ edits) of b = bound edits of (rebound_by edit of b)

pub after_bound : (edits : List Edit) (s : Symbol) → after_all edits s ≡ with_binding s (bound edits s.name s.binding)
after_bound [] s = refl
after_bound (edit ∷ edits) s = after_bound edits (rebound edit s)

-- ... what words leave

-- an edit changes a binding into one that is told of it: a Local stays one, and no fallback Name comes up
pub local_by : (edit : Edit) (of : List ℕ) (b : Binding) → is_local b ≡ true → rebound_by edit of b ≡ b
local_by edit of b local = grind arith

pub bound_local : (edits : List Edit) (of : List ℕ) (b : Binding) → is_local b ≡ true → bound edits of b ≡ b
bound_local [] of b local = refl
bound_local (edit ∷ edits) of b local =
    let same : rebound_by edit of b ≡ b = local_by edit of b local in
    ap (bound edits of) same ∙ bound_local edits of b local

-- edits that are not about a name leave the bindings of its symbols
pub rebound_off : (edit : Edit) (of : List ℕ) (b : Binding) → is_about of edit ≡ false → rebound_by edit of b ≡ b
rebound_off edit of b off = grind arith

pub weakened_off : (edit : Edit) (of : List ℕ) → is_about of edit ≡ false → is_weakened edit of ≡ false
weakened_off edit of off = grind arith

pub bound_off : (edits : List Edit) (of : List ℕ) (b : Binding) → Leave edits of → bound edits of b ≡ b
bound_off [] of b leave = refl
bound_off (edit ∷ edits) of b leave =
    ap (bound edits of) (rebound_off edit of b (leave_first edit edits of leave)) ∙ bound_off edits of b (leave_rest edit edits of leave)

-- the binding stands for another symbol
abbrev pub stands_for : Binding → Bool
stands_for (Weak (fallback.Name k)) = true
stands_for (Weak (fallback.Place k offset)) = false
stands_for (Weak fallback.Zero) = false
stands_for (Local v) = false
stands_for (Global v) = false
stands_for Undefined = false
stands_for (Common size align) = false

-- it does, for the symbol at a position, or does not
pub stands_or_not : (b : Binding) → ((k : ℕ) × (b ≡ Weak (fallback.Name k))) ⊎ (stands_for b ≡ false)
stands_or_not b = grind arith

-- edits of which none makes a symbol of this name Local
abbrev pub NoneLocal : List Edit → List ℕ → Type 0
NoneLocal edits of = AllByRecursion (λ edit. edit ≢ MakeLocal of) edits

-- they leave a Weak
pub weak_by : (edit : Edit) (of : List ℕ) (f : Fallback) → edit ≢ MakeLocal of → rebound_by edit of (Weak f) ≡ Weak f
weak_by (Weaken name) of f other = elim (bytes_eq of name) as (λ hit. cond hit (Weak f) (Weak f) ≡ Weak f) [ true ↦ refl | false ↦ refl ]
weak_by (MakeLocal name) of f other = by (bytes_eq of name) refl
  where
    by : (hit : Bool) → bytes_eq of name ≡ hit → cond hit (made_local (Weak f)) (Weak f) ≡ Weak f
    by true e = absurd (other (ap MakeLocal (sym ((bytes_eq-Decides of name).0 e))))
    by false e = refl
weak_by (Rename from to) of f other = refl
weak_by (Prefix from to) of f other = refl
weak_by (Suffix from to) of f other = refl
weak_by (Alias from to) of f other = refl
weak_by (AliasPrefix from to) of f other = refl
weak_by (AliasSuffix from to) of f other = refl
weak_by Underscore of f other = refl

pub bound_weak : (edits : List Edit) (of : List ℕ) (f : Fallback) → NoneLocal edits of → bound edits of (Weak f) ≡ Weak f
bound_weak [] of f other = refl
bound_weak (edit ∷ edits) of f other = ap (bound edits of) (weak_by edit of f other.0) ∙ bound_weak edits of f other.1

-- what stands for no symbol comes to stand for none
own_weakened : (b : Binding) → stands_for b ≡ false → stands_for (weakened b) ≡ false
own_weakened b own = grind arith

own_local : (b : Binding) → stands_for b ≡ false → stands_for (made_local b) ≡ false
own_local b own = grind arith

pub own_by : (edit : Edit) (of : List ℕ) (b : Binding) → stands_for b ≡ false → stands_for (rebound_by edit of b) ≡ false
own_by edit of b own = grind arith

pub own_bound : (edits : List Edit) (of : List ℕ) (b : Binding) → stands_for b ≡ false → stands_for (bound edits of b) ≡ false
own_bound [] of b own = own
own_bound (edit ∷ edits) of b own = own_bound edits of (rebound_by edit of b) (own_by edit of b own)

-- ... settling

-- what stands for no symbol is settled
pub own_settled : (bindings : List Binding) (b : Binding) → stands_for b ≡ false → settled_binding bindings b ≡ b
own_settled bindings b own = grind arith

pub own_free : (bindings : List Binding) (b : Binding) → stands_for b ≡ false → fallback_binding bindings b ≡ None
own_free bindings b own = grind arith

-- a Weak stays one
pub settled_weak : (bindings : List Binding) (k : ℕ) → (f : Fallback) × (settled_binding bindings (Weak (fallback.Name k)) ≡ Weak f)
settled_weak bindings k = by (slice_get bindings k)
  where
    placed : (b : Binding) → (f : Fallback) × (placed_fallback (Weak (fallback.Name k)) b ≡ Weak f)
    placed (Local (value.Place j offset)) = (fallback.Place j offset, refl)
    placed (Local (value.Absolute n)) = (fallback.Name k, refl)
    placed (Global v) = (fallback.Name k, refl)
    placed Undefined = (fallback.Name k, refl)
    placed (Common size align) = (fallback.Name k, refl)
    placed (Weak f) = (fallback.Name k, refl)

    by : (o : Option Binding) → (f : Fallback) × (option_map_or (placed_fallback (Weak (fallback.Name k))) o (Weak (fallback.Name k)) ≡ Weak f)
    by None = (fallback.Name k, refl)
    by (Some b) = placed b

pub local_settled : (bindings : List Binding) (b : Binding) → is_local (settled_binding bindings b) ≡ is_local b
local_settled bindings b = grind arith

pub global_settled : (bindings : List Binding) (b : Binding) → is_global (settled_binding bindings b) ≡ is_global b
global_settled bindings b = grind arith

pub place_settled : (bindings : List Binding) (b : Binding) → local_place (settled_binding bindings b) ≡ local_place b
place_settled bindings b = grind arith

-- where a symbol stands for another, no edit makes it Local
abbrev pub StaysWeak : List Edit → Symbol → Type 0
StaysWeak edits s = (k : ℕ) → s.binding ≡ Weak (fallback.Name k) → NoneLocal edits s.name
