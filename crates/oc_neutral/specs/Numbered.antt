-- Lists that are kept under numbers of their own (our profile): those of the sections that are left are some of all lists.
use Rattle.std.specs.{Prelude.{◌≡◌, ℕ, ◌+◌, ◌≤◌, Bool, true, false, List, [], ◌∷◌, length, map, slice_index_or, Option, Some, None, Vec}, Global.{Global}}
use Rattle.std.specs.{List.{range_with_len}, Option.{option_map}}
use Rattle.oc_chains.specs.Lists.{Lists, held_in, list_of}

-- the numbers that the sections' lists have of their own, where they have
abbrev pub own_numbers : Option (Vec ℕ Global) → Option (List ℕ)
own_numbers of = option_map (λ v. v.items) of

-- the numbers of the sections' lists, among so many: their positions, or others that are given
abbrev pub numbers_by : Option (List ℕ) → ℕ → List ℕ
numbers_by None count = range_with_len 0 count
numbers_by (Some numbers) count = numbers

-- the number of the list of the section at a position
abbrev pub number_at : Option (List ℕ) → ℕ → ℕ
number_at None section = section
number_at (Some numbers) section = slice_index_or numbers section 0

-- the lists of these numbers
abbrev pub lists_by : {T : Type 0} → List ℕ → Lists T → Lists T
lists_by numbers lists = map (list_of lists) numbers

-- the lists of the sections
abbrev pub numbered : {T : Type 0} → Option (List ℕ) → Lists T → Lists T
numbered of lists = lists_by (numbers_by of (length lists)) lists

-- numbers from one on, each above the one before, and below another
abbrev pub AreRising : ℕ → ℕ → List ℕ → Type 0
AreRising low high [] = low ≤ high
AreRising low high (n ∷ numbers) = (low ≤ n) × AreRising (n + 1) high numbers

-- the numbers rise, and the lists of all others are empty
pub record AreNumbers {T : Type 0} (numbers : List ℕ) (lists : Lists T) : Type 0 where
  pub rising : AreRising 0 (length lists) numbers
  pub held : held_in (lists_by numbers lists) ≡ held_in lists

-- the lists, where those that do not stay are empty
abbrev pub emptied : {T : Type 0} → List Bool → Lists T → Lists T
emptied [] lists = lists
emptied (stays ∷ stay) [] = []
emptied (true ∷ stay) (xs ∷ lists) = xs ∷ emptied stay lists
emptied (false ∷ stay) (xs ∷ lists) = [] ∷ emptied stay lists
