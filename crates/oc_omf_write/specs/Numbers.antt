-- The numbers of symbols, by which fixups name externals (TIS OMF 1.1, "EXTDEF").
use Rattle.std.specs.Prelude.{◌≡◌, ℕ, ◌<◌, Bool, false, nat_eq, List, length, slice_index_or}
use Rattle.oc_neutral.specs.Objects.{Object}
use Rattle.oc_omf_file.specs.Outputs.{symbol_number}
use Rattle.oc_omf_write.specs.declared.entries.Entry.{Entry}
use Rattle.oc_omf_write.specs.declared.entries.Entry.TheVariants as entry

-- the entry is that of the symbol at a position
abbrev pub is_of_symbol : ℕ → Entry → Bool
is_of_symbol k entry.Header = false
is_of_symbol k (entry.Names from to) = false
is_of_symbol k (entry.Segment j) = false
is_of_symbol k entry.Group = false
is_of_symbol k (entry.External j) = nat_eq j k
is_of_symbol k (entry.Communal j) = nat_eq j k
is_of_symbol k (entry.Public j) = nat_eq j k
is_of_symbol k (entry.Data j from to) = false
is_of_symbol k (entry.Fixups j from to) = false
is_of_symbol k entry.End = false

-- its symbol, if it has one, is one of so many
abbrev pub HasPlace : ℕ → Entry → Type 0
HasPlace count entry.Header = Unit {0}
HasPlace count (entry.Names from to) = Unit {0}
HasPlace count (entry.Segment j) = Unit {0}
HasPlace count entry.Group = Unit {0}
HasPlace count (entry.External j) = j < count
HasPlace count (entry.Communal j) = j < count
HasPlace count (entry.Public j) = j < count
HasPlace count (entry.Data j from to) = Unit {0}
HasPlace count (entry.Fixups j from to) = Unit {0}
HasPlace count entry.End = Unit {0}

-- these are the numbers of the object's symbols
pub record AreNumbers (n : Object) (numbers : List ℕ) : Type 0 where
  pub counted : length numbers ≡ length n.symbols
  pub each : (k : ℕ) → k < length n.symbols → slice_index_or numbers k 0 ≡ symbol_number n k
