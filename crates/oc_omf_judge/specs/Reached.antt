-- What a reader has come to in a module when it judges fixups (our profile).
use Rattle.std.specs.{Prelude.{◌≡◌, ℕ, Bool, List, [], ◌∷◌, ◌++◌, map, Option, Some, None, Result}, Option.{option_map, option_map_or}}
use Rattle.oc_base.specs.{declared.code.Code.{Code}, declared.fault.Fault.{Fault}, declared.stop.Stop.{Stop}, Stops.{IsStop}}
use Rattle.oc_base.specs.declared.fault.Phase.TheVariants as phase
use Rattle.oc_linking.specs.{Numbers.{or_else}, FirstFault.{first_broken}}
use Rattle.oc_omf.specs.{declared.cut.Cut.{Cut}, declared.structures.Subrecord.{Subrecord}, declared.topics.Topic.{Topic}, Cursor.{Read, each_read}}
use Rattle.oc_omf.specs.{Structures.{External, Piece, subrecord_read}, Entries.{Entry, all_read, in_file, says_nothing}, Tables.{Tables}}
use Rattle.oc_omf.specs.{Fixups.{PlacedSubrecord, fixed_in, last_of}, RelocationFaults.{relocation_conditions}, Known.{AreInForce}, Topics.{said_on}}
use Rattle.oc_omf_judge.specs.{Defined.{IsSmall, and_entry}, declared.reached.Reached.{Reached}, declared.whole.Whole.{Whole}, Counts.{AreCounts}}
use Rattle.oc_omf_judge.specs.{LastData.{shown}, Lying.{Lying, base, lying_of}, Starts.{AreStarts}, Whole.{meaning}}

-- the last data
abbrev pub last_in : Reached → Option Lying
last_in r = option_map shown r.last

-- the place of their first byte, 0 where there are none
abbrev pub base_in : Reached → ℕ
base_in r = option_map_or base (last_in r) 0

-- the same is kept
pub record IsSame (old new : Reached) : Type 0 where
  pub counts : new.counts ≡ old.counts
  pub last : last_in new ≡ last_in old
  pub threads : new.threads ≡ old.threads
  pub starts : new.starts ≡ old.starts

-- what is kept is what came before, in entries and among the subrecords of their entry
pub record IsReached (w : Whole) (before : Tables) (earlier : List PlacedSubrecord) (r : Reached) : Type 0 where
  pub counts_are : AreCounts before r.counts
  pub last_is : option_map lying_of (last_of before.pieces) ≡ last_in r
  pub threads_are : AreInForce earlier r.threads
  pub starts_are : AreStarts w (fixed_in earlier) r.starts

-- ... a subrecord

-- a fault of one in an entry of a number, at a place
abbrev pub relocation_fault : ℕ × ℕ → Code → Fault
relocation_fault at code = record { phase = phase.Relocation; index = at.0; code = code; place = at.1 }

-- one in an entry of a number, at a place
abbrev pub placed_at : Tables → ℕ × ℕ → Result Subrecord Cut → PlacedSubrecord
placed_at before at part = record { index = at.0; at = at.1; part = part; before = before }

-- one after what is kept has no fault, and is recorded
abbrev pub IsPartTaken : Whole → Reached → ℕ × ℕ → Result Subrecord Cut → Reached → Type 0
IsPartTaken w old at part new =
    (before : Tables) (earlier : List PlacedSubrecord) → IsReached w before earlier old
    → (first_broken (relocation_conditions (meaning w) w.keep earlier (placed_at before at part)) ≡ None) × IsReached w before (earlier ++ placed_at before at part ∷ []) new

-- it has a fault, which is reported
abbrev pub IsPartStopped : Whole → Reached → ℕ × ℕ → Result Subrecord Cut → Stop → Type 0
IsPartStopped w old at part s =
    (before : Tables) (earlier : List PlacedSubrecord) → IsReached w before earlier old → IsStop (first_broken (relocation_conditions (meaning w) w.keep earlier (placed_at before at part))) s

-- ... subrecords that follow one another

-- the first fault of these after others
abbrev pub judged_behind : Whole → List PlacedSubrecord → List PlacedSubrecord → Option Fault
judged_behind w earlier [] = None
judged_behind w earlier (x ∷ xs) = or_else (first_broken (relocation_conditions (meaning w) w.keep earlier x)) (judged_behind w (earlier ++ x ∷ []) xs)

-- those of an entry of a number
abbrev pub placed_in : ℕ → Tables → List (Read Subrecord) → List PlacedSubrecord
placed_in index before reads = map (λ (s : Read Subrecord). placed_at before (index, s.at) s.part) reads

-- those in the contents of the entry at a place of the file
abbrev pub subrecords_at : ℕ → Bool → List ℕ → List (Read Subrecord)
subrecords_at place wide contents = in_file place (each_read (subrecord_read wide) contents 0)

-- those of an entry have no fault, and are recorded
abbrev pub ArePartsTaken : Whole → Reached → ℕ → List (Read Subrecord) → Reached → Type 0
ArePartsTaken w old index reads new =
    (before : Tables) (earlier : List PlacedSubrecord) → IsReached w before earlier old
    → (judged_behind w earlier (placed_in index before reads) ≡ None) × IsReached w before (earlier ++ placed_in index before reads) new

-- one has a fault, which is reported
abbrev pub ArePartsStopped : Whole → Reached → ℕ → List (Read Subrecord) → Stop → Type 0
ArePartsStopped w old index reads s =
    (before : Tables) (earlier : List PlacedSubrecord) → IsReached w before earlier old → IsStop (judged_behind w earlier (placed_in index before reads)) s

-- ... an entry

-- its data are small enough
abbrev pub AreSmall : Entry → Type 0
AreSmall e = (d : Piece) → last_of (all_read e.pieces) ≡ Some d → IsSmall d

-- an entry whose data are small enough has no fault, and is recorded
abbrev pub IsEntryTaken : Whole → Reached → ℕ → Entry → Reached → Type 0
IsEntryTaken w old index e new =
    (before : Tables) (earlier : List PlacedSubrecord) → AreSmall e → IsReached w before earlier old
    → (judged_behind w earlier (placed_in index before e.subrecords) ≡ None) × IsReached w (and_entry before e) (earlier ++ placed_in index before e.subrecords) new

-- it has a fault, which is reported
abbrev pub IsEntryStopped : Whole → Reached → ℕ → Entry → Stop → Type 0
IsEntryStopped w old index e s = ArePartsStopped w old index e.subrecords s

-- an entry on that topic, with these contents, has no fault, and is recorded, wherever it is and whatever the module is
abbrev pub IsTakenAnywhere : Reached → Topic → Bool → List ℕ → Reached → Type 0
IsTakenAnywhere old topic wide contents new = (w : Whole) (index place : ℕ) → IsEntryTaken w old index (said_on topic place wide contents) new

-- the externals of an entry are recorded
abbrev pub AreExternalsTaken : Whole → Reached → ℕ → ℕ → List (Read External) → Reached → Type 0
AreExternalsTaken w old index place reads new = IsEntryTaken w old index (record (says_nothing place) { externals = in_file place reads }) new
