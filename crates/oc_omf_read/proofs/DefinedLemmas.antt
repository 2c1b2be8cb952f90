-- What entries define, entry by entry.
use Rattle.std.proofs.Common.{◌≡◌, ℕ, List, [], ◌∷◌, length, take, Some, refl, sym, ◌∙◌, ap}
use Rattle.std.specs.{Prelude.{slice_get}, Option.{option_map}}
use Rattle.std.proofs.lemmas.Option.{slice_get-map}
use Rattle.oc_omf_records.specs.{declared.records.Entry.{Entry as Record}, NextEntry.{entry_of}}
use Rattle.oc_omf.specs.{declared.constants.TheConstants.{MODEND}, Entries.{entries_in, is_kind, is_wide, places_in, said_at}, Tables.{tables_of}}
use Rattle.oc_omf.specs.Tables as all
use Rattle.oc_omf_read.specs.{declared.class.EntryClass.{EntryClass}, Classes.{class_of}, Defined.{said}}
use Rattle.oc_omf_read.proofs.ClassLemmas.{said_as, said_is}
use Rattle.oc_omf_judge.proofs.StageLaws.{entry_count}

-- ... entries

-- the entry at a place
pub entry_here : (file : List ℕ) (i at : ℕ) (r : Record) → slice_get (places_in file) i ≡ Some at → r ≡ entry_of file at → slice_get (entries_in file) i ≡ Some (said r)
unfolding entries_in
entry_here file i at r here is =
    slice_get-map (said_at file) (places_in file) i ∙ ap (option_map (said_at file)) here ∙ ap (λ (x : Record). Some (said x)) (sym is)

-- the tables of the first i entries
abbrev pub tables_upto : List ℕ → ℕ → all.Tables
tables_upto file i = tables_of (take i (entries_in file))

take_all : {X : Type 0} (xs : List X) → take (length xs) xs ≡ xs
take_all [] = refl
take_all (x ∷ xs) = ap (λ ys. x ∷ ys) (take_all xs)

pub tables_end : (file : List ℕ) (i : ℕ) → i ≡ length (places_in file) → tables_upto file i ≡ tables_of (entries_in file)
tables_end file i all_of = ap (λ (n : ℕ). tables_of (take n (entries_in file))) (all_of ∙ sym (entry_count file)) ∙ ap tables_of (take_all (entries_in file))

-- what an entry says, by its class
pub said_by_class : (r : Record) (k : EntryClass) → class_of r.kind ≡ k → said r ≡ said_as r.place (is_wide r.kind) (is_kind MODEND r.kind) r.contents k
said_by_class r k is = said_is r.place r.kind r.contents ∙ ap (said_as r.place (is_wide r.kind) (is_kind MODEND r.kind) r.contents) is
