-- Symbols, added one after the other.
use Rattle.std.proofs.Common.{◌≡◌, ℕ, ◌+◌, ◌<◌, Bool, true, false, cond, eqb, List, [], ◌∷◌, map, Option, None, Some, Ok, refl, sym, ◌∙◌, ap, arith}
use Rattle.std.specs.{Prelude.{◌||◌, nat_eq, is_some, slice_get}, Option.{option_flatten, option_map}}
use Rattle.std.proofs.lemmas.{Bool.{true≢false}, List.{map-append}, List.FromFn.{length-map-range_with_len, get_or-map-range_with_len}}
use Rattle.std.proofs.lemmas.Option.{same_Some, slice_get-get_or}
use Rattle.oc_linking.specs.{declared.terms.Binding.{Binding}, declared.terms.Binding.TheVariants.{Local, Global, Undefined, Common, Weak}}
use Rattle.oc_linking.specs.{declared.terms.Value.{Value}, FirstFault.{fault_of, stage_fault}, Parts.{is_local}}
use Rattle.oc_linking.specs.declared.terms.Fallback.TheVariants as fallback
use Rattle.oc_linking.specs.declared.terms.Value.TheVariants as value
use Rattle.oc_linking.specs.Parts as parts
use Rattle.oc_neutral.specs.{declared.symbol.Symbol.{Symbol}, Building.{Draft, symbol_added}, Keeping.{is_again}}
use Rattle.oc_shows.specs.{Computed.{computed_symbol, placed_binding}, Started.{groups_by, plain_draft, stored_section}}
use Rattle.oc_strings.specs.Repeats.{name_at, repeat_at}
use Rattle.oc_shows.proofs.{BuiltSteps.{name_is_new}, StartedLaws.{symbol_more}}
use Rattle.oc_shelf.specs.Reading.Collected.{collected}
use Rattle.oc_shelf.proofs.{ReadingLaws.CollectedLemmas.{IsFrom, collected-some, collected-from}, ReadingLaws.StageLemmas.{clean_at}}
use Rattle.oc_elf.specs.{declared.constants.TheConstants.{STB_WEAK}, declared.sym.Sym.{Sym}, Sym.{bind_of}, CarriedSections.{sections_of}}
use Rattle.oc_elf.specs.CarriedSymbols.{binding_of, defined_as, is_passed, public_binding, symbol_by, symbol_of, symbol_with, symbols_of, value_of}
use Rattle.oc_elf.specs.{Classes.{format_of}, Entries.{is_local_entry, name_of}, Frames.{FileFrame}, SymbolRules.{public_name, public_names, symbol_stage}}
use Rattle.oc_elf.specs.Tables.{entry_of, symbol_count}
use Rattle.oc_elf_read.specs.Built.{keys_of, symboled, symbol_as}
use Rattle.oc_elf_read.proofs.KeyLemmas.{differs}
use Rattle.oc_elf_judge.proofs.SymbolLemmas.{no_repeat}

-- ... bindings

-- a binding names no symbol, and is Local where the entry is
pub record IsPlain (all : List parts.Symbol) (s : Sym) (b : Binding) : Type 0 where
  pub placed : placed_binding all b ≡ b
  pub local : is_local b ≡ is_local_entry s

pub binding_plain : (f : FileFrame) (s : Sym) (all : List parts.Symbol) (b : Binding) → binding_of f s ≡ Some b → IsPlain all s b
unfolding binding_of
binding_plain f s all b is = by (is_local_entry s) refl is
  where
    defined : (bind : ℕ) (v : Value) → (placed_binding all (defined_as bind v) ≡ defined_as bind v) × (is_local (defined_as bind v) ≡ false)
    defined bind (value.Place p offset) = elim (nat_eq bind STB_WEAK) as (λ w. (placed_binding all (cond w (Weak (fallback.Place p offset)) (Global (value.Place p offset))) ≡ cond w (Weak (fallback.Place p offset)) (Global (value.Place p offset)))
        × (is_local (cond w (Weak (fallback.Place p offset)) (Global (value.Place p offset))) ≡ false)) [ true ↦ (refl, refl) | false ↦ (refl, refl) ]
    defined bind (value.Absolute n) = (refl, refl)

    mapped : (l : Bool) (g : Value → Binding) (o : Option Value) → ((v : Value) → (placed_binding all (g v) ≡ g v) × (is_local (g v) ≡ l)) → option_map g o ≡ Some b → (placed_binding all b ≡ b) × (is_local b ≡ l)
    mapped l g o each e = grind arith

    public : (u c : Bool) → cond u (Some (cond (nat_eq (bind_of s) STB_WEAK) (Weak fallback.Zero) Undefined)) (cond c (Some (Common s.st_size s.st_value)) (option_map (defined_as (bind_of s)) (value_of f s))) ≡ Some b
        → (placed_binding all b ≡ b) × (is_local b ≡ false)
    public true c e = zero (nat_eq (bind_of s) STB_WEAK) e
      where
        zero : (w : Bool) → Some (cond w (Weak fallback.Zero) Undefined) ≡ Some b → (placed_binding all b ≡ b) × (is_local b ≡ false)
        zero w h = grind arith
    public false true e = let same : Common s.st_size s.st_value ≡ b = same_Some (Common s.st_size s.st_value) b e in rw (sym same) (refl, refl)
    public false false e = mapped false (defined_as (bind_of s)) (value_of f s) (defined (bind_of s)) e

    by : (l : Bool) → is_local_entry s ≡ l → cond l (option_map (λ v. Local v) (value_of f s)) (public_binding f s) ≡ Some b → IsPlain all s b
    by l h e = grind arith

-- ... carried symbols

-- entry k is a carried symbol
pub record IsEntered (f : FileFrame) (k : ℕ) (x : parts.Symbol) : Type 0 where
  pub some : eqb k 0 ≡ false
  pub binding : Binding
  pub bound : binding_of f (entry_of f k) ≡ Some binding
  pub is : symbol_with f k (entry_of f k) binding ≡ x

pub entered : (f : FileFrame) (k : ℕ) (x : parts.Symbol) → symbol_of f k ≡ Some x → IsEntered f k x
unfolding symbol_of symbol_by
entered f k x e = by (eqb k 0) (is_passed f (entry_of f k)) (binding_of f (entry_of f k)) refl refl e
  where
    by : (z p : Bool) (o : Option Binding) → eqb k 0 ≡ z → binding_of f (entry_of f k) ≡ o → cond z None (cond p None (option_map (symbol_with f k (entry_of f k)) o)) ≡ Some x → IsEntered f k x
    by z p o h g e = grind arith

-- the binding of an entry that is carried
abbrev pub carried_binding : FileFrame → Sym → Option Binding
carried_binding f s = cond (is_passed f s) None (binding_of f s)

pub symbol_some : (f : FileFrame) (k : ℕ) (b : Binding) → eqb k 0 ≡ false → carried_binding f (entry_of f k) ≡ Some b → symbol_of f k ≡ Some (symbol_with f k (entry_of f k) b)
unfolding symbol_of symbol_by
symbol_some f k b some is = rw some (by (is_passed f (entry_of f k)) (binding_of f (entry_of f k)) is)
  where
    by : (p : Bool) (o : Option Binding) → cond p None o ≡ Some b → cond p None (option_map (symbol_with f k (entry_of f k)) o) ≡ Some (symbol_with f k (entry_of f k) b)
    by p o e = grind arith

-- ... names

name_is : (f : FileFrame) (k : ℕ) (s : Sym) (b : Binding) → (symbol_with f k s b).name ≡ name_of f s
unfolding symbol_with
name_is f k s b = refl

pub binding_is : (f : FileFrame) (k : ℕ) (s : Sym) (b : Binding) → (symbol_with f k s b).binding ≡ b
unfolding symbol_with
binding_is f k s b = refl

-- the name of a nonlocal symbol
public_at : (f : FileFrame) (k : ℕ) → k < symbol_count f → eqb k 0 ≡ false → is_local_entry (entry_of f k) ≡ false → name_at (public_names f) k ≡ Some (name_of f (entry_of f k))
public_at f k low some own =
    let long = length-map-range_with_len (public_name f) 0 (symbol_count f) in
    ap option_flatten (slice_get-get_or (public_names f) k None (omega (arith, long, low)))
    ∙ get_or-map-range_with_len (public_name f) 0 (symbol_count f) k k None low (omega arith)
    ∙ ap (λ b. cond (b || is_local_entry (entry_of f k)) None (Some (name_of f (entry_of f k)))) some
    ∙ ap (λ b. cond b None (Some (name_of f (entry_of f k)))) own

module _ (f : FileFrame) (clean : stage_fault (symbol_stage f) ≡ None) (k : ℕ) (low : k < symbol_count f) where
  module _ (some : eqb k 0 ≡ false) (b : Binding) (is : carried_binding f (entry_of f k) ≡ Some b) where
    abbrev pub y : parts.Symbol
    y = symbol_with f k (entry_of f k) b

    here : symbol_of f k ≡ Some y
    here = symbol_some f k b some is

    own : IsPlain (symbols_of f) (entry_of f k) b
    own = let m = entered f k y here in binding_plain f (entry_of f k) (symbols_of f) b (bound (is_passed f (entry_of f k)) is)
      where
        bound : (p : Bool) → cond p None (binding_of f (entry_of f k)) ≡ Some b → binding_of f (entry_of f k) ≡ Some b
        bound p e = grind arith

    as_computed : symbol_as y ≡ computed_symbol (symbols_of f) y
    unfolding symbol_with
    as_computed = ap (λ (c : Binding). record { name = y.name; binding = c; mark = y.mark; vis = y.vis; size = y.size; pinned = y.pinned; number = y.number }) (sym own.placed)

    -- a name that no nonlocal symbol before has
    is_new : is_again (map (computed_symbol (symbols_of f)) (collected (symbol_of f) k)) (computed_symbol (symbols_of f) y) ≡ false
    is_new = name_is_new (symbols_of f) (collected (symbol_of f) k) y each
      where
        none_is : {X : Type 0} (o : Option X) → is_some o ≡ false → o ≡ None
        none_is o h = grind arith

        new : repeat_at (public_names f) k ≡ None
        new = none_is (repeat_at (public_names f) k) (no_repeat f k some (clean_at (fault_of (symbol_stage f)) (symbol_count f) k clean low))

        each : (j : ℕ) (x : parts.Symbol) → slice_get (collected (symbol_of f) k) j ≡ Some x → is_local x.binding ≡ false → is_local y.binding ≡ false → x.name ≡ y.name → ⊥
        each j x there other mine same = apart (collected-from (symbol_of f) k j x there)
          where
            apart : IsFrom (symbol_of f) k j x → ⊥
            apart m =
                let e = entered f m.k x m.is in
                let plain = binding_plain f (entry_of f m.k) (symbols_of f) e.binding e.bound in
                let below = m.below in
                let public : is_local_entry (entry_of f m.k) ≡ false = sym plain.local ∙ sym (ap is_local (binding_is f m.k (entry_of f m.k) e.binding)) ∙ ap (λ (z : parts.Symbol). is_local z.binding) e.is ∙ other in
                let public_k : is_local_entry (entry_of f k) ≡ false = sym own.local ∙ sym (ap is_local (binding_is f k (entry_of f k) b)) ∙ mine in
                differs (public_names f) k m.k (name_of f (entry_of f k)) (name_of f (entry_of f m.k)) below new
                (public_at f k low some public_k)
                (public_at f m.k (omega (arith, below, low)) e.some public)
                (sym (name_is f k (entry_of f k) b) ∙ sym same ∙ ap (λ (z : parts.Symbol). z.name) (sym e.is) ∙ name_is f m.k (entry_of f m.k) e.binding)

    pub symbol_taken : symbol_added (symboled f k) (symbol_as y) ≡ Ok (symboled f (k + 1))
    symbol_taken =
        let sections = map (stored_section (keys_of f)) (sections_of f) in
        ap (symbol_added (symboled f k)) as_computed
        ∙ symbol_more (format_of f.class) (groups_by (keys_of f)) sections (map (computed_symbol (symbols_of f)) (collected (symbol_of f) k)) (computed_symbol (symbols_of f) y) is_new
        ∙ ap (λ (ys : List Symbol). Ok (plain_draft (format_of f.class) (groups_by (keys_of f)) sections ys))
        (sym (map-append (computed_symbol (symbols_of f)) (collected (symbol_of f) k) (y ∷ [])) ∙ ap (map (computed_symbol (symbols_of f))) (sym (collected-some (symbol_of f) k y here)))

    with_entry : (d : Draft) (x : Symbol) (s : Sym) → d ≡ symboled f k → s ≡ entry_of f k → x ≡ symbol_as (symbol_with f k s b) → symbol_added d x ≡ Ok (symboled f (k + 1))
    with_entry d x s before same made = ap (λ (e : Draft). symbol_added e x) before ∙ ap (symbol_added (symboled f k)) (made ∙ ap (λ (t : Sym). symbol_as (symbol_with f k t b)) same) ∙ symbol_taken

-- in the words of what adds it
pub can_symbol : (f : FileFrame) → stage_fault (symbol_stage f) ≡ None → (k : ℕ) → k < symbol_count f → eqb k 0 ≡ false → (b : Binding) (d : Draft) (x : Symbol) (s : Sym)
    → d ≡ symboled f k → s ≡ entry_of f k → x ≡ symbol_as (symbol_with f k s b) → carried_binding f s ≡ Some b → symbol_added d x ≡ Ok (symboled f (k + 1))
can_symbol f clean k low some b d x s before same made is = with_entry f clean k low some b (sym (ap (carried_binding f) same) ∙ is) d x s before same made
