-- Names that occur twice in a list (our profile).
use Rattle.std.specs.Prelude.{ℕ, zero, suc, Bool, false, ◌&&◌, nat_eq, nat_le, bytes_eq, if◌then◌else◌, List, [], ◌∷◌, ◌++◌, ◌+◌, ◌*◌, ◌/◌, ◌%◌, ◌^◌, drop, length, map, slice_get, Option, Some, None}
use Rattle.std.specs.Option.{option_and_then, option_copied, option_flatten, option_map, option_map_or, option_to_list, unwrap_or}
use Rattle.std.specs.{declared.cmp.Ordering.{Ordering}, Ordering.{nat_cmp, ordering_then}, Cmp.Lexicographic.{slice_cmp}}
use denote.Ref.{Bor}
use Rattle.oc_base.specs.Numbers.{number_at}
use Rattle.oc_linking.specs.{declared.terms.Binding.{Binding}, Numbers.{first_upto}, Parts.{is_local}}
use Rattle.oc_strings.specs.{declared.repeats.Repeat.{Repeat}, declared.repeats.SortKey.{SortKey}, declared.repeats.TheConstants.{SPREAD}}

-- names by position; a position may have none
abbrev pub NameList : Type 0
NameList = List (Option (List ℕ))

-- the names that slices hold
abbrev pub names_of : List (Option (Bor (List ℕ))) → NameList
names_of names = map option_copied names

-- the name at a position
abbrev pub name_at : NameList → ℕ → Option (List ℕ)
name_at names k = option_flatten (slice_get names k)

-- the first of the n lowest positions at which the name occurs
abbrev pub place_of : NameList → ℕ → List ℕ → Option ℕ
place_of names n name = first_upto (λ k. if option_map_or (bytes_eq name) (name_at names k) false then Some k else None) n

-- that the name at a position occurred before, and where it first occurred
abbrev pub repeat_at : NameList → ℕ → Option Repeat
repeat_at names k = option_map (λ place. record { earlier = place; later = k }) (option_and_then (place_of names k) (name_at names k))

-- the first position at which a name occurs that occurred before
abbrev pub first_repeat : NameList → Option Repeat
first_repeat names = first_upto (repeat_at names) (length names)

-- the name of a symbol, where it is nonlocal
abbrev pub nonlocal_name : Binding → List ℕ → Option (List ℕ)
nonlocal_name binding name = if is_local binding then None else Some name

-- what another number makes of a number, after it
abbrev pub followed : ℕ → ℕ → ℕ
followed n next = (n * SPREAD % 2 ^ 64 + next) % 2 ^ 64

-- what bytes make of a number, one by one
abbrev pub number_after : ℕ → List ℕ → ℕ
number_after n [] = n
number_after n (byte ∷ rest) = number_after (followed n byte) rest

-- what so many words of eight bytes make of a number, and then the bytes that are left
abbrev pub number_after_words : ℕ → ℕ → List ℕ → ℕ
number_after_words zero n bytes = number_after n bytes
number_after_words (suc k) n bytes = number_after_words k (followed n (number_at bytes 0 8)) (drop 8 bytes)

-- a number of a name, of all its bytes
abbrev pub number_of : List ℕ → ℕ
number_of name = number_after_words (length name / 8) 0 name

-- the name at a position, and no bytes where there is none
abbrev pub bytes_at : NameList → ℕ → List ℕ
bytes_at names k = unwrap_or (name_at names k) []

-- an entry for each name among the first n positions
abbrev pub entries_of : NameList → ℕ → List SortKey
entries_of names zero = []
entries_of names (suc n) = entries_of names n ++ option_to_list (option_map (λ name. record { number = number_of name; at = n }) (name_at names n))

-- entries are sorted by their numbers, then by their names, then by their positions
abbrev pub order : NameList → SortKey → SortKey → Ordering
order names x y = ordering_then (nat_cmp x.number y.number) (ordering_then (slice_cmp nat_cmp (bytes_at names x.at) (bytes_at names y.at)) (nat_cmp x.at y.at))

-- two entries have the same name
abbrev pub are_tied : NameList → SortKey → SortKey → Bool
are_tied names x y = nat_eq x.number y.number && bytes_eq (bytes_at names x.at) (bytes_at names y.at)

-- the one of two repeats whose later position is the lower
abbrev pub sooner : Option Repeat → Repeat → Repeat
sooner None next = next
sooner (Some repeat) next = if nat_le repeat.later next.later then repeat else next
