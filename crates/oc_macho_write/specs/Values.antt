-- What symbol table entries say of symbols, with the addresses of sections by their positions (Mach-O reference, "nlist").
use Rattle.std.specs.Prelude.{◌≡◌, ℕ, ◌^◌, ◌<◌, List, length, slice_index_or}
use Rattle.oc_neutral.specs.Objects.{Object}
use Rattle.oc_macho_file.specs.Addresses.{address_of}
use Rattle.oc_macho_file.specs.Symbols as symbols
use Rattle.oc_macho_write.specs.declared.values.ValueFields.{ValueFields}

-- these are the addresses of the sections; all are numbers of 32 bits
pub record AreAddresses (n : Object) (at : List ℕ) : Type 0 where
  pub counted : length at ≡ length n.sections
  pub each : (k : ℕ) → k < length n.sections → slice_index_or at k 0 ≡ address_of n k
  pub small : (k : ℕ) → k < length n.sections → address_of n k < 2 ^ 32
  pub few : length n.sections < 2 ^ 8

-- these are its type, n_sect and n_value
pub record AreValueFields (x : ValueFields) (s : symbols.ValueFields) : Type 0 where
  pub n_type : x.n_type ≡ s.type
  pub n_sect : x.n_sect ≡ s.n_sect
  pub n_value : x.n_value ≡ s.n_value
