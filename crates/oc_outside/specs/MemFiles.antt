-- Our profile: files in memory, as contracts see them.
use Rattle.std.specs.Prelude.{◌≡◌, ℕ, ◌-◌, ◌||◌, Bool, List, [], ◌++◌, length, min, take, drop, is_none, refl}
use Rattle.std.specs.Coded.{Coded, code_by, coded×, coded_ℕ, coded_list}
use Rattle.std.specs.FinMap as map
use Rattle.oc_outside.specs.{Held.{Held, NameMap, file_of}, Calls.{next_call, is_due, risen}, Slots.{room_of, lacks_room}}

-- the files, the room of each name that has one, the number of calls so far, those set to fail, and the two counts
pub record FilesState : Type 0 where
  pub held : Held
  pub rooms : NameMap ℕ
  pub calls : ℕ
  pub failing : List ℕ
  pub read_faults : ℕ
  pub write_faults : ℕ

-- names, bytes and numbers of calls are stored as lists of numbers
abbrev pub numbers_code : Coded (List ℕ)
numbers_code = coded_list coded_ℕ

-- a state is stored as the tuple of its fields
abbrev pub files_code : Coded FilesState
files_code =
    code_by (Held × (NameMap ℕ × (ℕ × (List ℕ × (ℕ × ℕ)))))
    (coded× (map.code numbers_code numbers_code)
    (coded× (map.code numbers_code coded_ℕ) (coded× coded_ℕ (coded× numbers_code (coded× coded_ℕ coded_ℕ)))))
    (λ s. (s.held, (s.rooms, (s.calls, (s.failing, (s.read_faults, s.write_faults))))))
    (λ p. record { held = p.0; rooms = p.1.0; calls = p.1.1.0; failing = p.1.1.1.0; read_faults = p.1.1.1.1.0; write_faults = p.1.1.1.1.1 })
    (λ _. refl)

-- no file, no room, no call and no fault
abbrev pub no_files : FilesState
no_files = record { held = map.empty; rooms = map.empty; calls = 0; failing = []; read_faults = 0; write_faults = 0 }

-- one more call was made
abbrev pub called : FilesState → FilesState
called s = record s { calls = next_call s.calls }

-- one more call was made, and the count of reads rose
abbrev pub read_failed : FilesState → FilesState
read_failed s = record s { calls = next_call s.calls; read_faults = risen (next_call s.calls) s.read_faults }

-- one more call was made, and the count of writes rose
abbrev pub write_failed : FilesState → FilesState
write_failed s = record s { calls = next_call s.calls; write_faults = risen (next_call s.calls) s.write_faults }

-- whether the next call fails whatever it asks
abbrev pub fails_next : FilesState → Bool
fails_next s = is_due (next_call s.calls) s.failing

-- whether a read of this file fails: also where it is not held
abbrev pub refuses_read : FilesState → List ℕ → Bool
refuses_read s name = fails_next s || is_none (file_of name s.held)

-- whether this file cannot be created: also where its name has no room
abbrev pub refuses_create : FilesState → List ℕ → Bool
refuses_create s name = fails_next s || is_none (room_of name s.rooms)

-- whether so many bytes cannot be appended to this file: also where they would pass the room of its name
abbrev pub refuses_append : FilesState → List ℕ → ℕ → Bool
refuses_append s name len = fails_next s || lacks_room name len s.held s.rooms

-- the start of the buffer has all bytes of the file from `at` on, or as many as it has room for, and the rest of it stays
pub record ReadsAll (file : List ℕ) (at : ℕ) (before now : List ℕ) (n : ℕ) : Type 0 where
  pub count : n ≡ min (length before) (length file - at)
  pub buffer : now ≡ take n (drop at file) ++ drop n before
