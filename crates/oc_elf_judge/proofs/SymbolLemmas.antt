-- Symbols, judged one after the other.
use Rattle.std.proofs.Common.{◌≡◌, ℕ, ◌+◌, ◌<◌, inl, inr, true, false, cond, eqb, List, [], ◌∷◌, ◌++◌, map, Option, None, Some, refl, sym, ◌∙◌, ap, arith}
use Rattle.std.specs.{Prelude.{Bool, is_some, nat_eq, nat_lt, not, MatchOption}, List.{range_with_len}, Option.{option_map, option_and_then, option_copied}}
use Rattle.std.proofs.lemmas.{Bool.{ne_eqb, true≢false, cases_eq}, List.{map-append}, List.FromFn.{length-map-range_with_len, map-range_with_len_more}}
use Rattle.std.proofs.lemmas.Option.{none-some}
use denote.Ref.{Bor}
use Rattle.oc_base.specs.declared.fault.Fault.{Fault}
use Rattle.oc_linking.specs.{Numbers.{first_upto, or_else}, FirstFault.{first_broken, fault_of, stage_fault}}
use Rattle.oc_linking.proofs.FirstFaultLaws.{first_upto_none}
use Rattle.oc_strings.specs.{declared.repeats.Repeat.{Repeat}, Repeats.{NameList, name_at, names_of, place_of, repeat_at, first_repeat}}
use Rattle.oc_shelf.proofs.ReadingLaws.StageLemmas.{all_hold, clean_at, clean_both, first_broken-append}
use Rattle.oc_elf.specs.{Frames.{FileFrame}, Entries.{is_local_entry}, Tables.{symbol_count, symbol_place, symtab_of, entry_of}}
use Rattle.oc_elf.specs.SymbolRules.{agree, kind_conditions, value_conditions, entry_conditions, other_conditions, symbol_conditions, symbol_stage, public_names, public_name, ends_at}
use Rattle.oc_elf.specs.declared.sym.Sym.{Sym}
use Rattle.oc_elf_judge.specs.Known.{AreLocalsFirst}
use Rattle.oc_shows.proofs.RepeatLaws as laws

pub entry_broken : (f : FileFrame) (k place : ℕ) (s : Sym) → first_broken (entry_conditions f k place s) ≡ or_else (first_broken (kind_conditions f k place s)) (first_broken (value_conditions f k place s))
unfolding entry_conditions
entry_broken f k place s = first_broken-append (kind_conditions f k place s) (value_conditions f k place s)

-- the fault of what symbol k meets by itself, and beside others
abbrev pub own_fault : FileFrame → ℕ → Option Fault
own_fault f k = cond (eqb k 0) None (first_broken (entry_conditions f k (symbol_place f k) (entry_of f k)))

abbrev pub other_fault : FileFrame → ℕ → Option Fault
other_fault f k = cond (eqb k 0) None (first_broken (other_conditions f k (symbol_place f k)))

pub symbol_broken : (f : FileFrame) (k : ℕ) → fault_of (symbol_stage f) k ≡ or_else (own_fault f k) (other_fault f k)
unfolding symbol_conditions
symbol_broken f k = elim (eqb k 0) as (λ b. first_broken (cond b [] (entry_conditions f k (symbol_place f k) (entry_of f k) ++ other_conditions f k (symbol_place f k)))
    ≡ or_else (cond b None (first_broken (entry_conditions f k (symbol_place f k) (entry_of f k)))) (cond b None (first_broken (other_conditions f k (symbol_place f k))))) [
      | true ↦ refl
      | false ↦ first_broken-append (entry_conditions f k (symbol_place f k) (entry_of f k)) (other_conditions f k (symbol_place f k))
    ]

-- ... repeats

-- nothing repeats at the first position
first_new : (names : NameList) → repeat_at names 0 ≡ None
first_new names = by (name_at names 0)
  where
    by : (o : Option (List ℕ)) → option_map {U = Repeat} (λ place. record { earlier = place; later = 0 }) (option_and_then (place_of names 0) o) ≡ None
    by None = refl
    by (Some name) = refl

-- a symbol without a fault has a name of its own
pub no_repeat : (f : FileFrame) (k : ℕ) → eqb k 0 ≡ false → fault_of (symbol_stage f) k ≡ None → is_some (repeat_at (public_names f) k) ≡ false
no_repeat f k some clean =
    let own : other_fault f k ≡ None = later (own_fault f k) (other_fault f k) (sym (symbol_broken f k) ∙ clean) in
    (all_hold (other_conditions f k (symbol_place f k)) (sym (ap (λ b. cond b None (first_broken (other_conditions f k (symbol_place f k)))) some) ∙ own)).0
  where
    later : (a b : Option Fault) → or_else a b ≡ None → b ≡ None
    later None b e = e
    later (Some x) b e = absurd (none-some x (sym e))

-- while no symbol has a fault, the first repeat ends at a symbol exactly where its name stood before
pub repeat_ends : (f : FileFrame) (found : Option Repeat) (k : ℕ) → found ≡ first_repeat (public_names f) → k < symbol_count f → first_upto (fault_of (symbol_stage f)) k ≡ None
    → ends_at found k ≡ is_some (repeat_at (public_names f) k)
repeat_ends f found k is low clean =
    laws.repeat_ends (public_names f) found k is (omega (arith, low, length-map-range_with_len (public_name f) 0 (symbol_count f))) own
  where
    own : (j : ℕ) → j < k → is_some (repeat_at (public_names f) j) ≡ false
    own j before = elim (cases_eq j 0) [
      | inl first ↦ ap (λ (i : ℕ). is_some (repeat_at (public_names f) i)) first ∙ ap is_some (first_new (public_names f))
      | inr some ↦ no_repeat f j (ne_eqb j 0 some) (first_upto_none (fault_of (symbol_stage f)) k clean j before)
    ]

-- ... lists of names

-- what a slice holds, as a name
pub copied : (o : Option (Bor (List ℕ))) (p : Option (List ℕ)) → MatchOption o (p ≡ None) (λ (name : Bor (List ℕ)). p ≡ Some name.now) → option_copied o ≡ p
copied None p e = sym e
copied (Some x) p e = sym e

-- one name more
pub names_more : (slices : List (Option (Bor (List ℕ)))) (x : Option (Bor (List ℕ))) (item : ℕ → Option (List ℕ)) (k : ℕ) → names_of slices ≡ map item (range_with_len 0 k) → option_copied x ≡ item k
    → names_of (slices ++ x ∷ []) ≡ map item (range_with_len 0 (k + 1))
names_more slices x item k so is =
    map-append option_copied slices (x ∷ []) ∙ ap (λ (names : NameList). names ++ option_copied x ∷ []) so ∙ ap (λ (o : Option (List ℕ)). map item (range_with_len 0 k) ++ o ∷ []) is
    ∙ sym (map-range_with_len_more item 0 k k (omega arith))

-- what symbol k meets where no symbol has a fault: what is asked of its kind, of its value, and beside others
pub record IsCleanSymbol (f : FileFrame) (k : ℕ) : Type 0 where
  pub kind : first_broken (kind_conditions f k (symbol_place f k) (entry_of f k)) ≡ None
  pub value : first_broken (value_conditions f k (symbol_place f k) (entry_of f k)) ≡ None
  pub other : first_broken (other_conditions f k (symbol_place f k)) ≡ None

pub clean_symbol : (f : FileFrame) (k : ℕ) → stage_fault (symbol_stage f) ≡ None → nat_eq k 0 ≡ false → k < symbol_count f → IsCleanSymbol f k
unfolding symbol_conditions entry_conditions
clean_symbol f k clean some low =
    let s : Sym = entry_of f k in
    let place : ℕ = symbol_place f k in
    let own = clean_at (fault_of (symbol_stage f)) (symbol_count f) k clean low in
    let parts = clean_both (entry_conditions f k place s) (other_conditions f k place) (sym (ap (λ b. first_broken (cond b [] (entry_conditions f k place s ++ other_conditions f k place))) some) ∙ own) in
    let entry = clean_both (kind_conditions f k place s) (value_conditions f k place s) parts.0 in
    record { kind = entry.0; value = entry.1; other = parts.1 }

-- where no symbol has a fault, the LOCAL ones are those below sh_info
pub locals_first : (f : FileFrame) → stage_fault (symbol_stage f) ≡ None → AreLocalsFirst f
locals_first f clean k some low =
    let s : Sym = entry_of f k in
    same (is_local_entry s) (nat_lt k (symtab_of f).sh_info) (all_hold (kind_conditions f k (symbol_place f k) s) (clean_symbol f k clean some low).kind).1.0
  where
    same : (a b : Bool) → not (agree a b) ≡ false → a ≡ b
    same true true e = refl
    same true false e = absurd (true≢false e)
    same false true e = absurd (true≢false e)
    same false false e = refl
