-- What frames and targets have by the threads that a reader keeps (our profile).
use Rattle.std.specs.Prelude.{◌<◌, Bool, Option, Some}
use Rattle.oc_omf.specs.{declared.structures.Datum.{Datum}, declared.structures.Method.{Method}, declared.structures.Subrecord.{Subrecord}}
use Rattle.oc_omf.specs.{declared.threads.Threads.{Threads}, Known.{thread_in}}
use Rattle.oc_omf.specs.declared.structures.Datum.TheVariants as datum
use Rattle.oc_omf.specs.declared.structures.Subrecord.TheVariants as subrecord

-- the method of a frame, or of a target
abbrev pub method_by : Threads → Bool → Datum → Option Method
method_by threads frame (datum.Explicit method) = Some method
method_by threads frame (datum.Thread number) = thread_in threads frame number

-- a thread has one of four numbers
abbrev pub HasNumber : Subrecord → Type 0
HasNumber (subrecord.Thread x) = x.number < 4
HasNumber (subrecord.Fixup f) = Unit {0}
