-- What is known of a file while it is judged (our profile).
use Rattle.std.specs.{Prelude.{◌≡◌, ℕ, ◌<◌, ◌≤◌, Bool, false, nat_eq, List, Option, Some}, Option.{option_map_or}}
use Rattle.oc_strings.specs.declared.repeats.Repeat.{Repeat}
use Rattle.oc_base.specs.declared.fault.Fault.{Fault}
use Rattle.oc_linking.specs.FirstFault.{first_broken}
use Rattle.oc_shelf.specs.{Reading.Bitmaps.{AreBytesOf, room}, Reading.Sums.{sum_upto}}
use Rattle.oc_macho.specs.{Tables.{SectionTable, Tables}, RelocationFaults.{entry_conditions, span_at, stored_size}, SectionFaults.{size_at, stored_at}}

-- the sums of the first i sections, which keep the limits
pub record AreSums (t : Tables) (i sizes bytes : ℕ) : Type 0 where
  pub sizes_are : sizes ≡ sum_upto (size_at t) i
  pub bytes_are : bytes ≡ sum_upto (stored_at t) i
  pub sizes_few : sizes ≤ 2147483648
  pub bytes_few : bytes ≤ 67108864

-- a repeat ends at a position
abbrev pub ends_at : Option Repeat → ℕ → Bool
ends_at found j = option_map_or (λ (r : Repeat). nat_eq r.later j) found false

-- the bytes taken are those of the fields that begin with the first k entries of a section, and there is room for all of it
pub record AreTaken (t : Tables) (x : SectionTable) (k : ℕ) (words : List ℕ) : Type 0 where
  pub fields : AreBytesOf (span_at t x) k words
  pub room : stored_size x.header ≤ room words

-- the fault of entry k of section i
abbrev pub entry_fault : Tables → ℕ → SectionTable → ℕ → Option Fault
entry_fault t i x k = first_broken (entry_conditions t i x k)
