-- Our profile: the two standard streams in memory, as contracts see them.
use Rattle.std.specs.Prelude.{ℕ, ◌||◌, Bool, List, []}
use Rattle.oc_outside.specs.{Calls.{next_call, is_due, risen}, Pages.{passes_room}}

-- the two texts, their rooms, the number of calls so far, those set to fail, and the two counts
pub record ConsoleState : Type 0 where
  pub shown : List ℕ
  pub told : List ℕ
  pub out_room : ℕ
  pub err_room : ℕ
  pub calls : ℕ
  pub failing : List ℕ
  pub out_faults : ℕ
  pub err_faults : ℕ

-- no text, no room, no call and no fault
abbrev pub no_texts : ConsoleState
no_texts = record { shown = []; told = []; out_room = 0; err_room = 0; calls = 0; failing = []; out_faults = 0; err_faults = 0 }

-- one more call was made
abbrev pub called : ConsoleState → ConsoleState
called s = record s { calls = next_call s.calls }

-- one more call was made, and the count of `out` rose
abbrev pub out_failed : ConsoleState → ConsoleState
out_failed s = record s { calls = next_call s.calls; out_faults = risen (next_call s.calls) s.out_faults }

-- one more call was made, and the count of `err` rose
abbrev pub err_failed : ConsoleState → ConsoleState
err_failed s = record s { calls = next_call s.calls; err_faults = risen (next_call s.calls) s.err_faults }

-- whether the next call fails whatever it asks
abbrev pub fails_next : ConsoleState → Bool
fails_next s = is_due (next_call s.calls) s.failing

-- whether so many bytes cannot be shown: also where they would pass the room of standard output
abbrev pub refuses_out : ConsoleState → ℕ → Bool
refuses_out s len = fails_next s || passes_room s.out_room s.shown len

-- whether so many bytes cannot be written to standard error: also where they would pass its room
abbrev pub refuses_err : ConsoleState → ℕ → Bool
refuses_err s len = fails_next s || passes_room s.err_room s.told len
