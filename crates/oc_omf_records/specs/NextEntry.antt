-- The entry at a place of a module (TIS OMF 1.1, "Record Format"): a type byte, a length of two bytes, that many bytes.
use Rattle.std.specs.Prelude.{ℕ, ◌+◌, ◌-◌, ◌%◌, Bool, not, ◌&&◌, ◌||◌, nat_eq, nat_lt, nat_le, if◌then◌else◌, List, length, sum, slice_index, slice_range, Option, Some, None, Result, Ok, Err}
use Rattle.oc_base.specs.Numbers.{number_at}
use Rattle.oc_omf_records.specs.{declared.records.Entry.{Entry}, declared.records.RecordFault.{RecordFault}}
use Rattle.oc_omf_records.specs.{declared.records.RecordFault.TheVariants.{Truncated, BadChecksum}, Entries.{Reached}}

-- the length field: how many bytes follow it, the checksum among them
abbrev pub length_field : List ℕ → ℕ → ℕ
length_field b at = number_at b (at + 1) 2

-- the place after the entry
abbrev pub end_of_entry : List ℕ → ℕ → ℕ
end_of_entry b at = at + 3 + length_field b at

-- the entry lies in the module, and it has a checksum
abbrev pub is_whole : List ℕ → ℕ → Bool
is_whole b at = nat_le (at + 3) (length b) && (nat_lt 0 (length_field b at) && nat_le (end_of_entry b at) (length b))

-- the last byte of the entry is 0, or all its bytes sum to 0 modulo 256
abbrev pub is_summed : List ℕ → Bool
is_summed entry = nat_eq (slice_index entry (length entry - 1)) 0 || nat_eq (sum entry % 256) 0

-- the entry, without its length and its checksum
abbrev pub entry_of : List ℕ → ℕ → Entry
entry_of b at = record {
  kind = number_at b at 1;
  place = at;
  contents = slice_range b (at + 3) (end_of_entry b at - 1);
}

-- the entry at a place, or why there is none
abbrev pub entry_at : List ℕ → ℕ → Result Entry RecordFault
entry_at b at =
    if not (is_whole b at) then Err Truncated
    else if not (is_summed (slice_range b at (end_of_entry b at))) then Err BadChecksum
    else Ok (entry_of b at)

-- the next entry: none exactly at the end of the module
abbrev pub next_entry : Reached → Result (Option Entry) RecordFault
next_entry r = if nat_eq r.place (length r.bytes) then Ok None else some_entry (entry_at r.bytes r.place)
  where
    some_entry : Result Entry RecordFault → Result (Option Entry) RecordFault
    some_entry (Ok entry) = Ok (Some entry)
    some_entry (Err fault) = Err fault

-- where the reader is after that result: past the entry, or else where it was
abbrev pub after_next : Reached → Reached
after_next r = past (next_entry r)
  where
    past : Result (Option Entry) RecordFault → Reached
    past (Ok (Some entry)) = record r { place = end_of_entry r.bytes r.place }
    past _ = r
