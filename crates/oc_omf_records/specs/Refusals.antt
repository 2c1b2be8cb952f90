-- Refusals of iterated data (our profile); lack of memory may come anywhere.
use Rattle.std.specs.Prelude.{ℕ, ◌≡◌, List, Option, None, Result, Err}
use Rattle.oc_omf_records.specs.{declared.faults.BlockFault.{BlockFault}, declared.faults.BlockFault.TheVariants.{BadBlock, TooDeep, NoMemory}}
use Rattle.oc_omf_records.specs.declared.faults.CopyFault.{CopyFault}
use Rattle.oc_omf_records.specs.declared.faults.CopyFault.TheVariants as copy

-- a refusal is the right one: it is what is at fault, or memory ran out
abbrev pub Refuses : {A : Type 0} → BlockFault → Result A BlockFault → Type 0
Refuses BadBlock reading = reading ≡ Err BadBlock
Refuses TooDeep reading = reading ≡ Err TooDeep
Refuses NoMemory reading = Unit {0}

-- a refusal of copies is the right one: no content holds the bytes, or memory ran out
abbrev pub RefusesCopies : CopyFault → Option (List ℕ) → Type 0
RefusesCopies copy.NotContent places = places ≡ None
RefusesCopies copy.NoMemory places = Unit {0}
