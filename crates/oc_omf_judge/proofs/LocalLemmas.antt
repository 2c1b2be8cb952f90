-- One definition more, by what a reader keeps of those that a module alone sees.
use Rattle.std.proofs.Common.{◌≡◌, ℕ, Bool, true, false, cond, List, [], ◌∷◌, ◌++◌, Option, None, Some, refl, sym, ◌∙◌, ap}
use Rattle.std.specs.{Prelude.{◌&&◌, bytes_eq, is_some}, List.{find, list_any}, Map.{update}, Option.{option_map, option_or}}
use Rattle.std.proofs.lemmas.{Bool.{true≢false, and_parts}, List.Folds.{find-append}, Slice.Eq.{bytes_eq-Decides}}
use Rattle.oc_omf.specs.{Structures.{Public}, Symbols.{agree, public_mention, same_symbol}}
use Rattle.oc_omf_judge.specs.{NameNumbers.{NameNumbers, value_at}, EarlierSymbols.{AreNamed}, Locals.{AreLocals, local_mention}}
use Rattle.oc_omf_judge.proofs.SeenSteps.{same_way}

-- the first definition that this module alone sees under a name
abbrev first_local : List ℕ → List Public → Option Public
first_local name publics = find (λ p. same_symbol (local_mention name) (public_mention p)) publics

is_first : (name : List ℕ) (publics : List Public) (p : Public)
    → first_local name (publics ++ p ∷ []) ≡ option_or (first_local name publics) (cond (same_symbol (local_mention name) (public_mention p)) (Some p) None)
is_first name publics p = find-append (λ q. same_symbol (local_mention name) (public_mention q)) publics (p ∷ [])

or_none : (o : Option Public) → option_or o None ≡ o
or_none None = refl
or_none (Some q) = refl

-- a definition that is none of this name
not_first : (name : List ℕ) (publics : List Public) (p : Public) → same_symbol (local_mention name) (public_mention p) ≡ false → first_local name (publics ++ p ∷ []) ≡ first_local name publics
not_first name publics p other = is_first name publics p ∙ ap (λ b. option_or (first_local name publics) (cond b (Some p) None)) other ∙ or_none (first_local name publics)

abbrev segment_in : Option Public → Option ℕ
segment_in o = option_map (λ (p : Public). p.segment) o

-- one that others see
pub local_other : (publics : List Public) (held : NameNumbers) (p : Public) → AreLocals publics held → p.local ≡ false → AreLocals (publics ++ p ∷ []) held
local_other publics held p are other name = are name ∙ ap segment_in (sym (not_first name publics p (ap (λ b. agree true b && bytes_eq name p.name) other)))

-- one whose name is held
pub local_known : (publics : List Public) (held : NameNumbers) (p : Public) → AreLocals publics held → is_some (value_at held p.name) ≡ true → AreLocals (publics ++ p ∷ []) held
local_known publics held p are known name = by (first_local name publics) refl (same_symbol (local_mention name) (public_mention p)) refl
  where
    by : (o : Option Public) → first_local name publics ≡ o → (b : Bool) → same_symbol (local_mention name) (public_mention p) ≡ b → value_at held name ≡ segment_in (first_local name (publics ++ p ∷ []))
    by (Some q) e b f = are name ∙ ap segment_in (e ∙ sym (is_first name publics p ∙ ap (λ o. option_or o (cond (same_symbol (local_mention name) (public_mention p)) (Some p) None)) e))
    by None e false f = are name ∙ ap segment_in (sym (not_first name publics p f))
    by None e true f =
        let named : name ≡ p.name = (bytes_eq-Decides name p.name).0 (and_parts (agree true p.local) (bytes_eq name p.name) f).1 in
        absurd (true≢false (sym known ∙ ap (λ (n : List ℕ). is_some (value_at held n)) (sym named) ∙ ap is_some (are name ∙ ap segment_in e)))

-- one that is new
pub local_new : (publics : List Public) (old new : NameNumbers) (p : Public) → AreLocals publics old → p.local ≡ true → is_some (value_at old p.name) ≡ false
    → ((other : List ℕ) → value_at new other ≡ update bytes_eq (value_at old) p.name (Some p.segment) other) → AreLocals (publics ++ p ∷ []) new
local_new publics old new p are local free taken name = taken name ∙ by (bytes_eq p.name name) refl
  where
    none : (o : Option ℕ) → is_some o ≡ false → o ≡ None
    none None e = refl
    none (Some k) e = absurd (true≢false e)

    free_first : (o : Option Public) → is_some (segment_in o) ≡ false → o ≡ None
    free_first None e = refl
    free_first (Some q) e = absurd (true≢false e)

    by : (b : Bool) → bytes_eq p.name name ≡ b → cond b (Some p.segment) (value_at old name) ≡ segment_in (first_local name (publics ++ p ∷ []))
    by true e =
        let named : p.name ≡ name = (bytes_eq-Decides p.name name).0 e in
        let own : same_symbol (local_mention name) (public_mention p) ≡ true = ap (λ b. agree true b && bytes_eq name p.name) local ∙ same_way name p.name ∙ e in
        let first : first_local name publics ≡ None = free_first (first_local name publics) (ap is_some (sym (are name)) ∙ ap (λ (n : List ℕ). is_some (value_at old n)) (sym named) ∙ free) in
        sym (ap segment_in (is_first name publics p ∙ ap (λ o. option_or o (cond (same_symbol (local_mention name) (public_mention p)) (Some p) None)) first ∙ ap (λ b. cond b (Some p) None) own))
    by false e = are name ∙ ap segment_in (sym (not_first name publics p (ap (λ b. agree true p.local && b) (same_way name p.name ∙ e) ∙ nothing (agree true p.local))))
      where
        nothing : (b : Bool) → (b && false) ≡ false
        nothing true = refl
        nothing false = refl

-- the names that are held are those of definitions that this module alone sees
pub named_locals : (publics : List Public) (held : NameNumbers) → AreLocals publics held → AreNamed true publics held
named_locals publics held are name = ap is_some (are name) ∙ found publics
  where
    found : (ps : List Public) → is_some (segment_in (first_local name ps)) ≡ list_any (λ p. same_symbol (local_mention name) (public_mention p)) ps
    found [] = refl
    found (p ∷ ps) = by (same_symbol (local_mention name) (public_mention p)) refl (found ps)
      where
        by : (b : Bool) → same_symbol (local_mention name) (public_mention p) ≡ b → is_some (segment_in (first_local name ps)) ≡ list_any (λ q. same_symbol (local_mention name) (public_mention q)) ps
            → is_some (segment_in (first_local name (p ∷ ps))) ≡ list_any (λ q. same_symbol (local_mention name) (public_mention q)) (p ∷ ps)
        by true e rest = rw e refl
        by false e rest = rw e rest
