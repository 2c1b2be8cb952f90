-- What the symbols of relocation entries stand for.
use Rattle.oc_coff.specs.{Files.{CoffFile, tables_in}, Tables.{Tables}, Entries.{Entry, entries_in, entry_numbered, name_of}, Sections.{sections_in}}
use Rattle.oc_coff.specs.{Symbols.{binding_of, is_own, symbol_of, symbol_with, value_of}, Targets.{aim_in}, Head.{IsHeaded}}
use Rattle.std.proofs.Common.{◌≡◌, ℕ, zero, suc, ◌+◌, ◌≤◌, inl, inr, Bool, true, false, cond, List, [], ◌∷◌, ◌++◌, length, get_or, map, Option, None, Some, refl, sym, ◌∙◌, ap, arith}
use Rattle.std.specs.{List.{range_with_len}, Option.{option_and_then, option_map}}
use Rattle.std.proofs.lemmas.{Bool.{cases_lt}, List.FromFn.{get_or-map-range_with_len, length-map-range_with_len, map-range_with_len_more}}
use Rattle.oc_base.specs.declared.format.Word.{Word}
use Rattle.oc_linking.specs.{declared.terms.Binding.{Binding}, declared.terms.Binding.TheVariants.{Local, Global, Undefined, Common, Weak}}
use Rattle.oc_linking.specs.declared.terms.Value.{Value}
use Rattle.oc_linking.specs.declared.terms.Value.TheVariants as value
use Rattle.oc_coff.specs.Targets as targets
use Rattle.oc_coff_judge.specs.{declared.aims.AimKind.{AimKind}, Aimed.{aim_bound, aim_for, aim_numbered, aim_placed, aim_with, aims_in, face_of}}
use Rattle.oc_coff_judge.specs.{Found.{start_of}, Numbered.{entry_by}}
use Rattle.oc_coff_judge.proofs.StartLemmas.{start_none, start_there}

-- whatever the word is, a symbol stands for the same
pub aim_said : (w : Word) (t : Tables) (j : ℕ) → option_map face_of (aim_in w t j) ≡ aim_numbered t j
unfolding aim_in symbol_of
aim_said w t j = by (entry_numbered (entries_in t) j)
  where
    bound : (e : Entry) (name : List ℕ) (b : Binding) → option_map face_of (Some (targets.aim_by (symbol_with name e b))) ≡ Some (aim_bound b)
    bound e name (Local (value.Place k offset)) = refl
    bound e name (Local (value.Absolute n)) = refl
    bound e name (Global v) = refl
    bound e name Undefined = refl
    bound e name (Common size align) = refl
    bound e name (Weak f) = refl

    own : (b : Bool) (v : Option Value) → option_map face_of (cond b (Some (option_and_then (targets.aim_at w) v)) None) ≡ cond b (Some (aim_placed v)) None
    own true None = refl
    own true (Some (value.Place k offset)) = refl
    own true (Some (value.Absolute n)) = refl
    own false v = refl

    with : (e : Entry) (o : Option Binding)
        → option_map face_of (targets.aim_for w (sections_in t) (entries_in t) e (option_map (symbol_with (name_of t.strings e) e) o)) ≡ aim_with t e o
    with e None = own (is_own (entries_in t) e) (value_of (sections_in t) e.symbol)
    with e (Some b) = bound e (name_of t.strings e) b

    by : (o : Option Entry)
        → option_map face_of (option_and_then (λ e. targets.aim_for w (sections_in t) (entries_in t) e (option_map (symbol_with (name_of t.strings e) e) (binding_of (sections_in t) (entries_in t) (name_of t.strings e) e))) o)
        ≡ option_and_then (aim_for t) o
    by None = refl
    by (Some e) = with e (binding_of (sections_in t) (entries_in t) (name_of t.strings e) e)

module _ (file : CoffFile) (head : IsHeaded file) where
  pub aim_there : (j d : ℕ) → start_of (tables_in file) j ≡ Some d → aim_for (tables_in file) (entry_by file j) ≡ aim_numbered (tables_in file) j
  aim_there j d is = sym (ap (option_and_then (aim_for (tables_in file))) (start_there file head j d is).is)

  pub aim_none : (j : ℕ) → start_of (tables_in file) j ≡ None → aim_numbered (tables_in file) j ≡ None
  aim_none j is = ap (option_and_then (aim_for (tables_in file))) (start_none file head j is)

  past_none : (j : ℕ) → length (tables_in file).entries ≤ j → aim_numbered (tables_in file) j ≡ None
  past_none j past = by (start_of (tables_in file) j) refl
    where
      by : (o : Option ℕ) → start_of (tables_in file) j ≡ o → aim_numbered (tables_in file) j ≡ None
      by None e = aim_none j e
      by (Some d) e = let low = (start_there file head j d e).low in absurd (omega (arith, low, past))

  -- the table has what any symbol stands for
  pub aim_anywhere : (w : Word) (aims : List (Option AimKind)) (j : ℕ) → aims ≡ aims_in (tables_in file) → get_or aims j None ≡ option_map face_of (aim_in w (tables_in file) j)
  aim_anywhere w aims j are =
      ap (λ (xs : List (Option AimKind)). get_or xs j None) are ∙ elim (cases_lt j n) [
        | inl low ↦ let e : 0 + j ≡ j = omega arith in get_or-map-range_with_len (aim_numbered (tables_in file)) 0 n j j None low e
        | inr past ↦
            let long = length-map-range_with_len (aim_numbered (tables_in file)) 0 n in
            past_end (aims_in (tables_in file)) j (omega (arith, long, past)) ∙ sym (past_none j past)
      ]
      ∙ sym (aim_said w (tables_in file) j)
    where
      n : ℕ
      n = length (tables_in file).entries

      past_end : (xs : List (Option AimKind)) (k : ℕ) → length xs ≤ k → get_or xs k None ≡ None
      past_end [] k le = refl
      past_end (x ∷ xs) zero le = absurd (omega (arith, le))
      past_end (x ∷ xs) (suc k) le = past_end xs k (omega (arith, le))

-- one entry more
pub aims_more : (t : Tables) (old new : List (Option AimKind)) (x : Option AimKind) (j : ℕ) → old ≡ map (aim_numbered t) (range_with_len 0 j) → x ≡ aim_numbered t j → new ≡ old ++ x ∷ []
    → new ≡ map (aim_numbered t) (range_with_len 0 (j + 1))
aims_more t old new x j before is more =
    let e : 0 + j ≡ j = omega arith in
    more ∙ ap (λ (xs : List (Option AimKind)). xs ++ x ∷ []) before ∙ ap (λ (o : Option AimKind). map (aim_numbered t) (range_with_len 0 j) ++ o ∷ []) is ∙ sym (map-range_with_len_more (aim_numbered t) 0 j j e)
