-- The entries of symbols, in the order of the symbols.
use Rattle.std.proofs.Common.{◌≡◌, ℕ, ◌+◌, ◌≤◌, List, [], ◌∷◌, ◌++◌, length, drop, map, Option, Some, None, refl, sym, ◌∙◌, ap}
use Rattle.std.specs.{Prelude.{slice_get, filter_map}, List.{enumerate_from, cons_option}, Option.{option_map, option_map_or}}
use Rattle.std.proofs.lemmas.List.{drop_all}
use Rattle.oc_target.proofs.Giving.{more_given, all_given}
use Rattle.oc_neutral.specs.{declared.symbol.Symbol.{Symbol}, Objects.{Object}}
use Rattle.oc_omf_file.specs.Outputs.{Output, external_output, communal_output, public_output, symbol_outputs}
use Rattle.oc_omf_write.specs.{declared.entries.Entry.{Entry}, Entries.{entry_for}}
use Rattle.oc_plans.proofs.Turns.{map_append}
use Rattle.oc_neutral.proofs.FieldLists.{drop_here}

-- the entries of the symbols from position k on
abbrev pub entries_left : (ℕ × Symbol → Option Output) → List Symbol → ℕ → List Entry
entries_left output xs k = map entry_for (filter_map output (enumerate_from k (drop k xs)))

-- that of one symbol, if it has one, and those behind it
left_step : (output : ℕ × Symbol → Option Output) (xs : List Symbol) (k : ℕ) (x : Symbol) → slice_get xs k ≡ Some x
    → entries_left output xs k ≡ option_map_or (λ (e : Entry). e ∷ []) (option_map entry_for (output (k, x))) [] ++ entries_left output xs (k + 1)
left_step output xs k x here = ap (λ ys. map entry_for (filter_map output (enumerate_from k ys))) (drop_here xs k x here) ∙ by (output (k, x))
  where
    rest : List Output
    rest = filter_map output (enumerate_from (k + 1) (drop (k + 1) xs))

    by : (o : Option Output) → map entry_for (cons_option o rest) ≡ option_map_or (λ (e : Entry). e ∷ []) (option_map entry_for o) [] ++ map entry_for rest
    by None = refl
    by (Some y) = refl

-- a turn: the entry of symbol k is added, if it has one
pub entry_turn : (output : ℕ × Symbol → Option Output) (xs : List Symbol) (k : ℕ) (x : Symbol) (done now all : List Entry) (e : Option Entry)
    → slice_get xs k ≡ Some x → e ≡ option_map entry_for (output (k, x)) → now ≡ done ++ option_map_or (λ (y : Entry). y ∷ []) e []
    → done ++ entries_left output xs k ≡ all → now ++ entries_left output xs (k + 1) ≡ all
entry_turn output xs k x done now all e here is added so_far =
    more_given done now (entries_left output xs k) (entries_left output xs (k + 1)) (option_map_or (λ (y : Entry). y ∷ []) (option_map entry_for (output (k, x))) []) all
    (added ∙ ap (λ o. done ++ option_map_or (λ (y : Entry). y ∷ []) o []) is) (left_step output xs k x here) so_far

-- behind the last symbol all are added
pub entries_whole : (output : ℕ × Symbol → Option Output) (xs : List Symbol) (k : ℕ) (now all : List Entry) → length xs ≤ k → now ++ entries_left output xs k ≡ all → now ≡ all
entries_whole output xs k now all past so_far =
    all_given now (entries_left output xs k) all (ap (λ ys. map entry_for (filter_map output (enumerate_from k ys))) (drop_all k xs past)) so_far

-- the entries of all symbols
pub all_symbols : (n : Object) (none first second third : List Entry) → none ≡ []
    → first ≡ none ++ map entry_for (filter_map external_output (enumerate_from 0 n.symbols))
    → second ≡ first ++ map entry_for (filter_map communal_output (enumerate_from 0 n.symbols))
    → third ≡ second ++ map entry_for (filter_map public_output (enumerate_from 0 n.symbols))
    → third ≡ map entry_for (symbol_outputs n)
unfolding symbol_outputs
all_symbols n none first second third empty e f g =
    g ∙ ap (λ es. es ++ map entry_for public) (f ∙ ap (λ es. es ++ map entry_for communal) (e ∙ ap (λ es. es ++ map entry_for external) empty) ∙ sym (map_append entry_for external communal))
    ∙ sym (map_append entry_for (external ++ communal) public)
  where
    external : List Output
    external = filter_map external_output (enumerate_from 0 n.symbols)

    communal : List Output
    communal = filter_map communal_output (enumerate_from 0 n.symbols)

    public : List Output
    public = filter_map public_output (enumerate_from 0 n.symbols)
