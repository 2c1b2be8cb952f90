-- The counts at the start of a block (TIS OMF 1.1, "LIDATA: Logical Iterated Data Record").
use Rattle.std.specs.Prelude.{ℕ, Bool, List}
use Rattle.oc_omf_records.specs.{declared.reading.Counts.{Counts}, BlockReading.{repeat_count, block_count, after_counts}}

-- the counts of the block at a place, and the place after them
abbrev pub counts_at : Bool → List ℕ → ℕ → Counts
counts_at wide b at = record {
  repeats = repeat_count wide b at;
  blocks = block_count wide b at;
  after = after_counts wide b at;
}
