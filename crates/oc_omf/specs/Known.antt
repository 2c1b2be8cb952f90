-- What a reader keeps of the entries before one, and of what is in one (our profile).
use Rattle.std.specs.{Prelude.{◌≡◌, ℕ, Bool, ◌&&◌, nat_eq, if◌then◌else◌, List, map, slice_get, Option, Some}, Option.{option_flatten}}
use denote.Ref.{Bor}
use Rattle.oc_omf_records.specs.{Blocks.{Blocks, none, content}, Shown.{shown}}
use Rattle.oc_omf.specs.{declared.data.Data.{Data}, declared.structures.Method.{Method}, declared.structures.Thread.{Thread}}
use Rattle.oc_omf.specs.{declared.threads.Threads.{Threads}, Fixups.{PlacedSubrecord, thread_after}, Symbols.{agree}}
use Rattle.oc_omf.specs.declared.data.Data.TheVariants as data_

-- the names that slices hold
abbrev pub names_of : List (Bor (List ℕ)) → List (List ℕ)
names_of names = map (λ (name : Bor (List ℕ)). name.now) names

-- the thread of a number that is held for frames, or for targets
abbrev pub thread_in : Threads → Bool → ℕ → Option Method
thread_in threads frame number = option_flatten (slice_get (if frame then threads.frames else threads.targets) number)

-- the threads that are held are those in force after these
abbrev pub AreInForce : List PlacedSubrecord → Threads → Type 0
AreInForce earlier threads = (frame : Bool) (number : ℕ) → thread_in threads frame number ≡ thread_after earlier frame number

-- a thread is in force from here on, with the others that were
abbrev pub IsThreadTaken : Threads → Thread → Threads → Type 0
IsThreadTaken old thread new =
    (frame : Bool) (number : ℕ)
    → thread_in new frame number ≡ if agree frame thread.frame && nat_eq thread.number number then Some thread.method else thread_in old frame number

-- data as blocks: those that are not iterated are one content, once
abbrev pub row_of : Data → Blocks
row_of (data_.Plain bytes) = content 1 0 bytes none
row_of (data_.Iterated block) = shown block
