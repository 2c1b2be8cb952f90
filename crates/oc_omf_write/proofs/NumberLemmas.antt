-- The numbers of symbols, by their entries from the last to the first.
use Rattle.std.proofs.Common.{◌≡◌, ℕ, ◌+◌, ◌<◌, Bool, true, false, cond, not, List, [], ◌∷◌, length, drop, map, refl, sym, ◌∙◌, ap, Some, arith}
use Rattle.std.specs.{Prelude.{slice_get, slice_index_or}, List.{position_or_len}}
use Rattle.oc_neutral.specs.Objects.{Object}
use Rattle.oc_omf_file.specs.Outputs.{Output, symbol_outputs}
use Rattle.oc_omf_file.specs.Outputs as output
use Rattle.oc_omf_write.specs.{declared.entries.Entry.{Entry}, Entries.{entry_for}, Numbers.{is_of_symbol, AreNumbers}}
use Rattle.oc_neutral.proofs.FieldLists.{drop_here}

-- the first place in a list that begins with x
position_first : {X : Type 0} (test : X → Bool) (x : X) (xs : List X) → position_or_len test (x ∷ xs) ≡ cond (test x) 0 (1 + position_or_len test xs)
position_first test x xs = by (test x)
  where
    by : (b : Bool) → cond (not b) (1 + position_or_len test xs) 0 ≡ cond b 0 (1 + position_or_len test xs)
    by true = refl
    by false = refl

-- a turn: an entry more, before those that are done
pub number_more : {X : Type 0} (test : X → Bool) (xs : List X) (k : ℕ) (x : X) (old now : ℕ) → slice_get xs k ≡ Some x → old ≡ (k + 1) + position_or_len test (drop (k + 1) xs)
    → now ≡ cond (test x) k old → now ≡ k + position_or_len test (drop k xs)
number_more test xs k x old now here so_far is =
    is ∙ by (test x) ∙ ap (λ m. k + m) (sym (ap (position_or_len test) (drop_here xs k x here) ∙ position_first test x (drop (k + 1) xs)))
  where
    by : (b : Bool) → cond b k old ≡ k + cond b 0 (1 + position_or_len test (drop (k + 1) xs))
    by true = omega arith
    by false = omega (arith, so_far)

-- before any entry is done
pub number_last : {X : Type 0} (test : X → Bool) (xs : List X) → length xs ≡ length xs + position_or_len test (drop (length xs) xs)
number_last test [] = refl
number_last test (x ∷ xs) = let e = number_last test xs in omega (arith, e)

-- ... by outputs

same_symbol : (k : ℕ) (o : Output) → is_of_symbol k (entry_for o) ≡ output.is_of_symbol k o
same_symbol k output.Header = refl
same_symbol k (output.Names names) = refl
same_symbol k (output.Segment j s) = refl
same_symbol k output.Group = refl
same_symbol k (output.External j s) = refl
same_symbol k (output.Communal j s) = refl
same_symbol k (output.Public j s) = refl
same_symbol k (output.Data j s from to) = refl
same_symbol k (output.Fixups j s from to) = refl
same_symbol k output.End = refl

same_place : (k : ℕ) (os : List Output) → position_or_len (is_of_symbol k) (map entry_for os) ≡ position_or_len (output.is_of_symbol k) os
same_place k [] = refl
same_place k (o ∷ os) =
    position_first (is_of_symbol k) (entry_for o) (map entry_for os)
    ∙ ap (λ b. cond b 0 (1 + position_or_len (is_of_symbol k) (map entry_for os))) (same_symbol k o)
    ∙ ap (λ m. cond (output.is_of_symbol k o) 0 (1 + m)) (same_place k os)
    ∙ sym (position_first (output.is_of_symbol k) o os)

-- the places of the entries are the numbers of the symbols
pub are_numbers : (n : Object) (numbers : List ℕ) (count : ℕ) (entries : List Entry) → count ≡ length n.symbols → entries ≡ map entry_for (symbol_outputs n) → length numbers ≡ count
    → ((k : ℕ) → k < count → slice_index_or numbers k 0 ≡ position_or_len (is_of_symbol k) entries) → AreNumbers n numbers
are_numbers n numbers count entries all of counted each = record {
  counted = counted ∙ all;
  each = λ k low. each k (omega (arith, low, all)) ∙ ap (position_or_len (is_of_symbol k)) of ∙ same_place k (symbol_outputs n);
}
