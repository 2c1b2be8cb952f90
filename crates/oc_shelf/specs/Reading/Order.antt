-- Entries in the order of their places (our profile).
use Rattle.std.specs.{declared.cmp.Ordering.{Ordering}, Ordering.{nat_cmp, ordering_then}, Prelude.{ℕ, Bool, List, nat_eq}, List.{list_any}}
use Rattle.oc_shelf.specs.declared.reading.order.PlacedEntry.{PlacedEntry}

-- by the place, and at one place by the index
abbrev pub by_place : PlacedEntry → PlacedEntry → Ordering
by_place x y = ordering_then (nat_cmp x.place y.place) (nat_cmp x.index y.index)

-- one of the entries is at a place
abbrev pub is_among : List PlacedEntry → ℕ → Bool
is_among entries place = list_any (λ (e : PlacedEntry). nat_eq e.place place) entries
