-- The entries of a file that is written are those that were written.
use Rattle.std.proofs.Common.{◌≡◌, ℕ, zero, suc, ◌+◌, ◌<◌, ◌≤◌, true, false, List, [], ◌∷◌, length, map, Some, None, refl, ◌∙◌, ap, subst, arith, length-append}
use Rattle.std.specs.{Prelude.{flat_map, slice_get, not, ◌||◌, if◌then◌else◌}, Option.{option_map_or}}
use Rattle.std.proofs.lemmas.Option.{none-some, same_Some}
use Rattle.oc_omf_records.specs.NextEntry.{end_of_entry, entry_of}
use Rattle.oc_shelf.specs.Writing.Parts.{Stands}
use Rattle.oc_shelf.proofs.WritingLaws.StandingLemmas.{stands_front, stands_back}
use Rattle.oc_omf.specs.{declared.constants.TheConstants.{MODEND}, Entries.{Entry, is_kind, said_by, said_at, is_last, places_upto}, Bytes.{entry_bytes}}
use Rattle.oc_omf_file.proofs.EntryLaws.{IsEntry, entry_stands, length-entry}

-- a type and contents
abbrev pub Written : Type 0
Written = ℕ × List ℕ

-- their bytes
abbrev pub written_bytes : Written → List ℕ
written_bytes x = entry_bytes x.0 x.1

-- where they stand, from a place on
abbrev pub places_from : ℕ → List Written → List ℕ
places_from at [] = []
places_from at (x ∷ xs) = at ∷ places_from (at + length (written_bytes x)) xs

-- what they say
abbrev pub said_from : ℕ → List Written → List Entry
said_from at [] = []
said_from at (x ∷ xs) = said_by at x.0 x.1 ∷ said_from (at + length (written_bytes x)) xs

-- they are read there
abbrev pub AreEntries : List ℕ → ℕ → List Written → Type 0
AreEntries file at [] = Unit {0}
AreEntries file at (x ∷ xs) = IsEntry file at x.0 x.1 × AreEntries file (at + length (written_bytes x)) xs

-- all but the last do not end the module
abbrev pub EndLast : List Written → Type 0
EndLast [] = ⊥
EndLast (x ∷ []) = is_kind MODEND x.0 ≡ true
EndLast (x ∷ y ∷ xs) = (is_kind MODEND x.0 ≡ false) × EndLast (y ∷ xs)

pub entries_stand : (file : List ℕ) (at : ℕ) (xs : List Written) → ((k : ℕ) (x : Written) → slice_get xs k ≡ Some x → length x.1 < 65535)
    → Stands file at (flat_map written_bytes xs) → AreEntries file at xs
entries_stand file at [] small s = tt
entries_stand file at (x ∷ xs) small s = (
  entry_stands file at x.0 x.1 (small 0 x refl) (stands_front file (written_bytes x) (flat_map written_bytes xs) at s),
  entries_stand file (at + length (written_bytes x)) xs (λ k y h. small (suc k) y h) (stands_back file (written_bytes x) (flat_map written_bytes xs) at (at + length (written_bytes x)) s refl),
)

-- an entry that is read is the last where it ends the module
last_is : (file : List ℕ) (at : ℕ) (x : Written) → IsEntry file at x.0 x.1 → is_last file at ≡ is_kind MODEND x.0
last_is file at x e = ap (λ b. not b || is_kind MODEND (entry_of file at).kind) e.whole ∙ ap (λ r. is_kind MODEND r.kind) e.is

pub places_read : (file : List ℕ) (n at : ℕ) (xs : List Written) → AreEntries file at xs → EndLast xs → length xs ≤ n → places_upto n file at ≡ places_from at xs
places_read file n at [] are last enough = absurd last
places_read file zero at (x ∷ xs) are last enough = absurd (omega (arith, enough))
places_read file (suc n) at (x ∷ []) are last enough =
    ap (λ b. at ∷ option_map_or (places_upto n file) (if b then None else Some (end_of_entry file at)) []) (last_is file at x are.0 ∙ last)
places_read file (suc n) at (x ∷ y ∷ xs) are last enough =
    ap (λ b. at ∷ option_map_or (places_upto n file) (if b then None else Some (end_of_entry file at)) []) (last_is file at x are.0 ∙ last.0)
    ∙ ap (λ k. at ∷ places_upto n file k) are.0.end
    ∙ ap (λ ks. at ∷ ks) (places_read file n (at + length (written_bytes x)) (y ∷ xs) are.1 last.1 (omega (arith, enough)))

-- what is read at their places
pub said_read : (file : List ℕ) (at : ℕ) (xs : List Written) → AreEntries file at xs → map (said_at file) (places_from at xs) ≡ said_from at xs
said_read file at [] are = refl
said_read file at (x ∷ xs) are =
    ap (λ r. said_by at r.kind r.contents ∷ map (said_at file) (places_from (at + length (written_bytes x)) xs)) are.0.is
    ∙ ap (λ es. said_by at x.0 x.1 ∷ es) (said_read file (at + length (written_bytes x)) xs are.1)

-- there are no more entries than bytes
pub entries_below : (xs : List Written) → length xs ≤ length (flat_map written_bytes xs)
entries_below [] = omega arith
entries_below (x ∷ xs) = omega (arith, entries_below xs, length-append (written_bytes x) (flat_map written_bytes xs), length-entry x.0 x.1)

-- the entry of a number, with its place
pub entry_there : (file : List ℕ) (at k : ℕ) (xs : List Written) (x : Written) → AreEntries file at xs → slice_get xs k ≡ Some x
    → (place : ℕ) × (slice_get (places_from at xs) k ≡ Some place) × IsEntry file place x.0 x.1
entry_there file at k [] x are h = absurd (none-some x h)
entry_there file at zero (y ∷ xs) x are h = (at, refl, subst (λ (z : Written). IsEntry file at z.0 z.1) (same_Some y x h) are.0)
entry_there file at (suc k) (y ∷ xs) x are h = entry_there file (at + length (written_bytes y)) k xs x are.1 h
