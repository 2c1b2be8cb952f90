-- What a reader's loop cites: nothing is added yet, one entry more, and what stands against a step.
use Rattle.std.proofs.Common.{◌≡◌, ◌≢◌, ℕ, ◌+◌, ◌≤◌, Bool, true, false, ◌&&◌, ◌||◌, cond, List, [], ◌∷◌, map, Some, None, Result, Ok, refl, sym, ◌∙◌, ap, subst, arith}
use Rattle.std.specs.Prelude.{bytes_eq, nat_eq, nat_lt, not, slice_get, suc}
use Rattle.std.proofs.lemmas.{Bool.{true≢false}, Slice.Eq.{bytes_eq-Decides}}
use Rattle.oc_linking.specs.{declared.terms.Binding.{Binding}, Parts.{is_local}}
use Rattle.oc_linking.specs.Parts as parts
use Rattle.oc_chains.specs.Lists.{list_of}
use Rattle.oc_neutral.specs.{declared.section.Section.{Section}, declared.reloc.Reloc.{Reloc}, declared.fault.BuildFault.{BuildFault}}
use Rattle.oc_neutral.specs.{Building.{Draft, has_name, limit_by, limit_passed, reloc_added, size_sum, stored_size, stored_sum}, Invariants.{CanAdd, IsDraft}}
use Rattle.oc_neutral.specs.Keeping.{is_again}
use Rattle.oc_shows.specs.{Built.{AddedReloc, RelocMap, and_one, given_by, HasAdded, Makes}, Computed.{computed_symbol, placed_binding}}
use Rattle.oc_shows.proofs.{Addable.{can-added}, Holding.{holds_by}}
use Rattle.oc_neutral.proofs.Added.{added}

-- nothing is added yet
pub added_none : (base : Draft) → HasAdded base base (given_by [])
added_none base = record { entries = []; made = refl; each = λ s at. refl }

-- one entry more
pub added_more : (base d e : Draft) (given : RelocMap) (s at : ℕ) (r : Reloc) → HasAdded base d given → CanAdd d.object s at r → reloc_added d s at r ≡ Ok e → HasAdded base e (and_one given s at r)
added_more base d e given s at r has can ok = record {
  entries = record { section = s; at = at; reloc = r } ∷ has.entries;
  made = (d, has.made, record { can = can; added = ok });
  each = λ t x. ap (λ o. cond (nat_eq t s && nat_eq at x) (Some r) o) (has.each t x);
}

-- what is given may be said in another way
pub added_same : (base d : Draft) (given other : RelocMap) → HasAdded base d given → ((s at : ℕ) → given s at ≡ other s at) → HasAdded base d other
added_same base d given other has same = record { entries = has.entries; made = has.made; each = λ s at. has.each s at ∙ same s at }

-- what can be added to the base can be added still, where it does not meet what was added
can_by : (base d : Draft) (entries : List AddedReloc) → IsDraft base → ((s : ℕ) → list_of base.object.relocs s ≡ []) → ((s : ℕ) → list_of base.folded s ≡ []) → Makes base entries d
    → (s at : ℕ) (r : Reloc) → CanAdd base.object s at r → CanAdd d.object s at r
can_by base d [] draft relocs folded made s at r can = subst (λ (z : Draft). CanAdd z.object s at r) (sym made) can
can_by base e (x ∷ entries) draft relocs folded made s at r can =
    let d : Draft = made.0 in
    can-added d x.section x.at x.reloc _ e (added d x.section x.at x.reloc e (holds_by base d entries draft relocs folded made.1).draft made.2.can made.2.added) s at r
    (can_by base d entries draft relocs folded made.1 s at r can)

pub can_still : (base d : Draft) (given : RelocMap) → IsDraft base → ((s : ℕ) → list_of base.object.relocs s ≡ []) → ((s : ℕ) → list_of base.folded s ≡ []) → HasAdded base d given
    → (s at : ℕ) (r : Reloc) → CanAdd base.object s at r → CanAdd d.object s at r
can_still base d given draft relocs folded has = can_by base d has.entries draft relocs folded has.made

-- a step that gives a draft gives that one
pub added_is : (r : Result Draft BuildFault) (d e : Draft) → r ≡ Ok d → r ≡ Ok e → e ≡ d
added_is r d e ok now = cc

-- a section passes no limit, by running sums
pub within : (sections : List Section) (x : Section) (sizes stored : ℕ) → size_sum sections ≡ sizes → stored_sum sections ≡ stored
    → x.size ≤ 2147483647 → sizes + x.size ≤ 2147483648 → stored + stored_size x ≤ 67108864 → limit_passed sections x ≡ None
within sections x sizes stored e f size sum bytes = rw (e, f) (by (nat_lt 2147483647 x.size) (nat_lt 2147483648 (sizes + x.size)) (nat_lt 67108864 (stored + stored_size x)) refl refl refl)
  where
    by : (a b c : Bool) → nat_lt 2147483647 x.size ≡ a → nat_lt 2147483648 (sizes + x.size) ≡ b → nat_lt 67108864 (stored + stored_size x) ≡ c → limit_by sizes stored x ≡ None
    by a b c p q r = grind arith

-- a placed binding is Local where the file's is
local-placed : (ys : List parts.Symbol) (b : Binding) → is_local (placed_binding ys b) ≡ is_local b
local-placed ys b = grind arith

-- a symbol is not there again, where no nonlocal one before it has its name
pub name_is_new : (all symbols : List parts.Symbol) (y : parts.Symbol)
    → ((j : ℕ) (x : parts.Symbol) → slice_get symbols j ≡ Some x → is_local x.binding ≡ false → is_local y.binding ≡ false → x.name ≢ y.name)
    → is_again (map (computed_symbol all) symbols) (computed_symbol all y) ≡ false
name_is_new all symbols y differ = by (is_local y.binding) refl
  where
    none : is_local y.binding ≡ false → (xs : List parts.Symbol) → ((j : ℕ) (x : parts.Symbol) → slice_get xs j ≡ Some x → is_local x.binding ≡ false → x.name ≢ y.name)
        → has_name (map (computed_symbol all) xs) y.name ≡ false
    none own [] each = refl
    none own (x ∷ xs) each = or_none (not (is_local (placed_binding all x.binding)) && bytes_eq x.name y.name) _ (first (is_local x.binding) (bytes_eq x.name y.name) refl refl) (none own xs (λ j. each (suc j)))
      where
        or_none : (a b : Bool) → a ≡ false → b ≡ false → (a || b) ≡ false
        or_none a b e f = rw (e, f) refl

        first : (a b : Bool) → is_local x.binding ≡ a → bytes_eq x.name y.name ≡ b → (not (is_local (placed_binding all x.binding)) && bytes_eq x.name y.name) ≡ false
        first true b e f = ap (λ c. not c && bytes_eq x.name y.name) (local-placed all x.binding ∙ e)
        first false true e f = absurd (each 0 x refl e ((bytes_eq-Decides x.name y.name).0 f))
        first false false e f = rw (f, local-placed all x.binding, e) refl

    by : (a : Bool) → is_local y.binding ≡ a → (not (is_local (placed_binding all y.binding)) && has_name (map (computed_symbol all) symbols) y.name) ≡ false
    by true e = ap (λ c. not c && has_name (map (computed_symbol all) symbols) y.name) (local-placed all y.binding ∙ e)
    by false e = rw (none e symbols (λ j x here other. differ j x here other e), local-placed all y.binding, e) refl
