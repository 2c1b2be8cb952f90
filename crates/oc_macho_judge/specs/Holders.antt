-- Which section holds an address of the file, as it is looked up (our profile).
use Rattle.std.specs.Prelude.{◌≡◌, ℕ, ◌+◌, ◌^◌, ◌<◌, ◌≤◌, Bool, true, ◌&&◌, ◌||◌, nat_eq, nat_le, nat_lt, if◌then◌else◌, is_some, List, length, map, Option, Some, None}
use Rattle.std.specs.{BTreeMap.{BTreeMap, get}, List.{All, Any, Contains}, List.Sorted.{IsNonDecreasingBy}, Ordering.{nat_cmp}}
use Rattle.oc_linking.specs.Numbers.{first_upto, or_else}
use Rattle.oc_shelf.specs.Reading.Spans.{end_at}
use Rattle.oc_macho_judge.specs.declared.holders.Edge.{Edge}
use Rattle.oc_macho.specs.{declared.section_header.SectionHeader.{SectionHeader}, Tables.{Tables}, Framed.{table_at}}

-- the number at an address
abbrev pub number_by : List (ℕ × ℕ) → ℕ → Option ℕ
number_by numbers v = end_at numbers v

-- an address is that of a byte of a section
abbrev pub has_byte : ℕ → SectionHeader → Bool
has_byte v h = nat_le h.addr v && nat_lt v (h.addr + h.size)

-- it is where the section begins, or where it ends
abbrev pub is_edge : ℕ → SectionHeader → Bool
is_edge v h = nat_eq v h.addr || nat_eq v (h.addr + h.size)

-- the number of the first of the first n sections that passes a test
abbrev pub first_among : (SectionHeader → Bool) → Tables → ℕ → Option ℕ
first_among test t n = first_upto (λ i. if test (table_at t i).header then Some (i + 1) else None) n

-- by each address: the first of the first n sections that begins or ends there
pub record AreEdges (t : Tables) (n : ℕ) (edges : List (ℕ × ℕ)) : Type 0 where
  pub are : (v : ℕ) → number_by edges v ≡ first_among (is_edge v) t n

-- ... maps

-- an address is in the map, and between two addresses
abbrev pub is_held_between : BTreeMap ℕ ℕ → ℕ → ℕ → ℕ → Bool
is_held_between free begin end v = is_some (get nat_cmp free v) && (nat_le begin v && nat_lt v end)

-- the free addresses between two are given that number, and the others have what they had
abbrev pub AreGiven : BTreeMap ℕ ℕ → ℕ → ℕ → ℕ → BTreeMap ℕ ℕ → BTreeMap ℕ ℕ → Type 0
AreGiven free begin end number old new = (v : ℕ) → get nat_cmp new v ≡ if is_held_between free begin end v then Some number else get nat_cmp old v

-- by each address of some: the first section that has a byte there
abbrev pub AreByteHolders : Tables → BTreeMap ℕ ℕ → BTreeMap ℕ ℕ → Type 0
AreByteHolders t edges bytes = (v : ℕ) → is_some (get nat_cmp edges v) ≡ true → get nat_cmp bytes v ≡ first_among (has_byte v) t (length t.sections)

-- ... the list of them

-- what is listed of an address and the number at it, by the numbers of bytes: nothing above 32 bits
abbrev pub edge_of : List (ℕ × ℕ) → ℕ × ℕ → Option Edge
edge_of bytes x = if nat_lt x.0 (2 ^ 32) then Some (record { at = x.0; number = x.1; byte = number_by bytes x.0 }) else None

-- their addresses do not fall
abbrev pub AreInOrder : List Edge → Type 0
AreInOrder edges = IsNonDecreasingBy (λ (e : Edge). e.at) edges

-- their addresses
abbrev pub places_of : List Edge → List ℕ
places_of edges = map (λ (e : Edge). e.at) edges

-- it gives the first section that begins or ends at its address, and the first that has a byte there
pub record IsEdgeOf (t : Tables) (e : Edge) : Type 0 where
  pub number : first_among (is_edge e.at) t (length t.sections) ≡ Some e.number
  pub byte : first_among (has_byte e.at) t (length t.sections) ≡ e.byte

-- each does, and one is at each address of 32 bits at which a section begins or ends
pub record AreHolders (t : Tables) (edges : List Edge) : Type 0 where
  pub each : All (IsEdgeOf t) edges
  pub all : (v : ℕ) → v < 2 ^ 32 → is_some (first_among (is_edge v) t (length t.sections)) ≡ true → Any (λ (e : Edge). e.at ≡ v) edges

-- ... looking up

-- an edge is above an address
abbrev pub IsAbove : ℕ → Edge → Type 0
IsAbove v e = v < e.at

-- it is the last of them that is not above an address
pub record IsLastUpto (v : ℕ) (edges : List Edge) (e : Edge) : Type 0 where
  pub held : Contains edges e
  pub below : e.at ≤ v
  pub greatest : All (λ (x : Edge). x.at ≤ v → x.at ≤ e.at) edges

-- the section that holds an address, where this is the last up to it
abbrev pub holder_by : Edge → ℕ → Option ℕ
holder_by e v = or_else e.byte (if nat_eq e.at v then Some e.number else None)
