-- The stages of symbols, one for each entry.
use Rattle.std.proofs.Common.{◌≡◌, ℕ, suc, ◌+◌, List, [], ◌∷◌, length, map, Option, Some, refl, sym, ◌∙◌, ap, arith}
use Rattle.std.specs.{Prelude.{slice_get}, List.{enumerate_from}, Option.{option_and_then}}
use Rattle.oc_base.specs.declared.fault.Fault.{Fault}
use Rattle.oc_linking.specs.{Numbers.{first_upto, or_else}, FirstFault.{Stage, first_fault, stage_fault}}
use Rattle.oc_shelf.proofs.ReadingLaws.StageLemmas.{first_upto-head, first_upto-same}
use Rattle.oc_omf.specs.{Entries.{Entry, entries_in}, Tables.{tables_of}, SymbolFaults.{symbol_stage, symbol_stages, entry_context}}
use Rattle.oc_omf_judge.specs.Defined.{before_in}

-- ... stages, one for each thing

-- the stage of the thing at a position
abbrev pub verdict_at : {X : Type 0} → (ℕ × X → Stage) → List X → ℕ → Option Fault
verdict_at stage xs i = option_and_then (λ x. stage_fault (stage (i, x))) (slice_get xs i)

staged_from : {X : Type 0} (stage : ℕ × X → Stage) (m : ℕ) (xs : List X) → first_fault (map stage (enumerate_from m xs)) ≡ first_upto (λ i. option_and_then (λ x. stage_fault (stage (m + i, x))) (slice_get xs i)) (length xs)
staged_from stage m [] = refl
staged_from {X} stage m (x ∷ xs) =
    let start : m ≡ m + 0 = omega arith in
    ap (or_else (stage_fault (stage (m, x)))) (staged_from stage (m + 1) xs
    ∙ first_upto-same (λ i. option_and_then (λ x. stage_fault (stage (m + 1 + i, x))) (slice_get xs i)) (λ i. option_and_then (λ x. stage_fault (stage (m + suc i, x))) (slice_get xs i)) (length xs)
    (λ i low. let e : m + 1 + i ≡ m + suc i = omega arith in ap (λ (j : ℕ). option_and_then (λ x. stage_fault (stage (j, x))) (slice_get xs i)) e))
    ∙ ap (λ (j : ℕ). or_else (stage_fault (stage (j, x))) (first_upto (λ i. option_and_then (λ x. stage_fault (stage (m + suc i, x))) (slice_get xs i)) (length xs))) start
    ∙ sym (first_upto-head (λ i. option_and_then (λ y. stage_fault (stage (m + i, y))) (slice_get (x ∷ xs) i)) (length xs))

pub staged : {X : Type 0} (stage : ℕ × X → Stage) (xs : List X) → first_fault (map stage (enumerate_from 0 xs)) ≡ first_upto (verdict_at stage xs) (length xs)
staged stage xs =
    staged_from stage 0 xs
    ∙ first_upto-same (λ i. option_and_then (λ x. stage_fault (stage (0 + i, x))) (slice_get xs i)) (verdict_at stage xs) (length xs)
    (λ i low. let e : 0 + i ≡ i = omega arith in ap (λ (j : ℕ). option_and_then (λ x. stage_fault (stage (j, x))) (slice_get xs i)) e)

-- ... symbols

-- the first fault of the symbols of the entry at a position
abbrev pub symbols_at : List ℕ → ℕ → Option Fault
symbols_at file = verdict_at (λ (x : ℕ × Entry). symbol_stage (entry_context (entries_in file) x)) (entries_in file)

pub symbols_first : (file : List ℕ) → first_fault (symbol_stages (entries_in file)) ≡ first_upto (symbols_at file) (length (entries_in file))
symbols_first file = staged (λ (x : ℕ × Entry). symbol_stage (entry_context (entries_in file) x)) (entries_in file)

pub symbols_here : (file : List ℕ) (i : ℕ) (e : Entry) → slice_get (entries_in file) i ≡ Some e
    → symbols_at file i ≡ stage_fault (symbol_stage (record { index = i; before = before_in file i; all = tables_of (entries_in file); entry = e }))
symbols_here file i e here = ap (option_and_then (λ (x : Entry). stage_fault (symbol_stage (entry_context (entries_in file) (i, x))))) here
