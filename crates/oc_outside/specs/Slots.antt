-- Our profile: the files of a device in memory, one slot for each name.
use Rattle.std.specs.{Prelude.{ℕ, Bool, List, [], ◌∷◌, Option, Some, unwrap_or, max}, List.{position}, Str.{bytes_eq}, FinMap.{empty, get, insert}}
use Rattle.oc_outside.specs.{Held.{NameMap, Held, put, file_of}, Pages.{passes_room}}

-- a name, its file, if that exists, and its room
pub record SlotState : Type 0 where
  pub name : List ℕ
  pub file : Option (List ℕ)
  pub room : ℕ

-- what slots give by their names: the first slot of a name counts
abbrev pub map_of : {X : Type 0} → (SlotState → Option X) → List SlotState → NameMap X
map_of value [] = empty
map_of value (s ∷ ss) = put (value s) s.name (map_of value ss)

-- the files in the slots
abbrev pub held_of : List SlotState → Held
held_of ss = map_of (λ s. s.file) ss

-- the rooms of the slots
abbrev pub rooms_of : List SlotState → NameMap ℕ
rooms_of ss = map_of (λ s. Some s.room) ss

-- the place of the first slot of this name
abbrev pub place_of : List ℕ → List SlotState → Option ℕ
place_of name ss = position (λ s. bytes_eq s.name name) ss

-- the room of a name, which it has from its first `set` or `room` on
abbrev pub room_of : List ℕ → NameMap ℕ → Option ℕ
room_of name rooms = get rooms name

-- the room of the name is raised to this number where it is lower
abbrev pub with_room : List ℕ → ℕ → NameMap ℕ → NameMap ℕ
with_room name room rooms = insert rooms name (max (unwrap_or (get rooms name) 0) room)

-- whether a piece of this length would pass the room of the name
abbrev pub lacks_room : List ℕ → ℕ → Held → NameMap ℕ → Bool
lacks_room name len held rooms = passes_room (unwrap_or (room_of name rooms) 0) (unwrap_or (file_of name held) []) len
