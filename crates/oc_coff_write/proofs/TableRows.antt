-- The rows of the tables of a file.
use Rattle.std.proofs.Common.{◌≡◌, ℕ, ◌+◌, ◌^◌, ◌<◌, ◌≤◌, Bool, true, false, cond, List, [], ◌∷◌, length, map, Some, arith}
use Rattle.std.specs.Prelude.{slice_get}
use Rattle.std.proofs.lemmas.{List.{length-map}, Option.{get_or_from_slice_get}}
use Rattle.oc_shows.proofs.Reordered.{member_map}
use Rattle.oc_shelf.specs.Writing.Parts.{table_of, row_of}
use Rattle.oc_shelf.proofs.WritingLaws.TableLemmas.{table_long}
use Rattle.oc_coff.specs.{declared.relocation.Relocation.{Relocation}, Relocation.{relocation_bytes}, Flags.{is_crowded, count_entry, with_count}}
use Rattle.oc_coff_write.specs.Plans.{relocation_rows}
use Rattle.oc_coff_write.proofs.PlanLemmas.{relocations_sized}

-- row k is made of element k
pub row_is : {X : Type 0} (f : X → List ℕ) (xs : List X) (k : ℕ) (x : X) → slice_get xs k ≡ Some x → row_of (map f xs) k ≡ f x
row_is f xs k x here = get_or_from_slice_get (map f xs) k (f x) [] (member_map f xs k x here)

pub length-relocation_rows : (rs : List Relocation) → length (relocation_rows rs) ≡ length (with_count rs)
length-relocation_rows rs = length-map (with_count rs) relocation_bytes

-- no fewer than relocations
pub with_count_low : (rs : List Relocation) → length rs ≤ length (with_count rs)
with_count_low rs = by (is_crowded rs)
  where
    by : (b : Bool) → length rs ≤ length (cond b (count_entry rs ∷ rs) rs)
    by true = omega arith
    by false = omega arith

-- as many as a table of 32 bits has
pub few_relocations : (rs : List Relocation) → length (table_of (relocation_rows rs)) < 2 ^ 32 → length rs + 1 < 2 ^ 32
few_relocations rs small =
    let long = table_long 10 (relocation_rows rs) (relocations_sized rs) in
    let rows = length-relocation_rows rs in
    let low = with_count_low rs in
    omega (arith, small, long, rows, low)
