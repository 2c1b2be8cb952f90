-- What stands at a place, judged by what reading an entry there gives.
use Rattle.std.proofs.Common.{◌≡◌, ℕ, Bool, true, false, cond, List, Option, Some, Result, Ok, Err, refl}
use Rattle.std.specs.Prelude.{not, slice_range}
use Rattle.oc_base.specs.{declared.code.Code.TheVariants.{Short, BadChecksum}, declared.fault.Fault.{Fault}}
use Rattle.oc_linking.specs.FirstFault.{first_broken}
use Rattle.oc_omf_records.specs.{declared.records.Entry.{Entry as Record}, declared.records.RecordFault.{RecordFault}}
use Rattle.oc_omf_records.specs.NextEntry.{entry_at, entry_of, end_of_entry, is_whole, is_summed}
use Rattle.oc_omf_records.specs.declared.records.RecordFault.TheVariants as record_fault
use Rattle.oc_omf.specs.HeaderFaults.{entry_conditions, entry_fault, record_conditions}

-- the first fault, by what is read
abbrev pub verdict : Bool → ℕ × ℕ → Result Record RecordFault → Option Fault
verdict begun x (Err record_fault.Truncated) = Some (entry_fault x Short)
verdict begun x (Err record_fault.BadChecksum) = Some (entry_fault x BadChecksum)
verdict begun x (Ok entry) = first_broken (record_conditions begun x entry)

pub entry_judged : (file : List ℕ) (begun : Bool) (i at : ℕ) → first_broken (entry_conditions file begun (i, at)) ≡ verdict begun (i, at) (entry_at file at)
unfolding entry_conditions
entry_judged file begun i at = elim (is_whole file at) as (λ w. cond (not w) (Some (entry_fault (i, at) Short))
    (cond (not (is_summed (slice_range file at (end_of_entry file at)))) (Some (entry_fault (i, at) BadChecksum)) (first_broken (record_conditions begun (i, at) (entry_of file at))))
    ≡ verdict begun (i, at) (cond (not w) (Err record_fault.Truncated) (cond (not (is_summed (slice_range file at (end_of_entry file at)))) (Err record_fault.BadChecksum) (Ok (entry_of file at))))) [
      | false ↦ refl
      | true ↦ elim (is_summed (slice_range file at (end_of_entry file at))) as (λ s. cond (not s) (Some (entry_fault (i, at) BadChecksum)) (first_broken (record_conditions begun (i, at) (entry_of file at)))
          ≡ verdict begun (i, at) (cond (not s) (Err record_fault.BadChecksum) (Ok (entry_of file at)))) [
            | false ↦ refl
            | true ↦ refl
          ]
    ]
