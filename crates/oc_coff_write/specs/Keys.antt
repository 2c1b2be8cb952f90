-- Where the key symbols of groups are, by positions (PE/COFF, "COMDAT Sections"; our profile).
use Rattle.std.specs.Prelude.{◌≡◌, ℕ, ◌+◌, ◌<◌, ◌&&◌, if◌then◌else◌, List, [], ◌∷◌, length, slice_index_or, Option, Some, None}
use Rattle.std.specs.Option.{option_map, option_or}
use Rattle.oc_neutral.specs.{declared.symbol.Symbol.{Symbol}, Normal.{Place}, Objects.{Object}, KeySymbols.{global_place, is_key_name, is_key_at, lies_in}}
use Rattle.oc_plans.specs.Slots.{is_given}

-- what is made of the first item from position k on of which something is made
abbrev pub first_made : {X : Type 0} → (ℕ → X → Option ℕ) → ℕ → List X → Option ℕ
first_made make k [] = None
first_made make k (x ∷ xs) = option_or (make k x) (first_made make (k + 1) xs)

-- the position of a symbol, where it is the key symbol that lies in section k
abbrev pub keyed_at : Object → ℕ → ℕ → Symbol → Option ℕ
keyed_at n k position s = if is_key_at n k s then Some position else None

-- the position of the key symbol that lies in section k
abbrev pub key_position : Object → ℕ → Option ℕ
key_position n k = first_made (keyed_at n k) 0 n.symbols

-- the section of a symbol, where it is the key symbol of group g
abbrev pub led_by : Object → ℕ → Symbol → Option ℕ
led_by n g s = if lies_in n g s && is_key_name n s.name g then option_map (λ (place : Place). place.0) (global_place s.binding) else None

-- the position of the section that leads group g
abbrev pub leader_position : Object → ℕ → Option ℕ
leader_position n g = first_made (λ position s. led_by n g s) 0 n.symbols

-- this value at the position that is given, if one is
abbrev pub value_for : Option ℕ → ℕ → ℕ → Option ℕ
value_for at value k = if is_given at k then Some value else None

-- what was noted stays, and where nothing was, what is made of the position is noted
abbrev pub AreNoted : (ℕ → Option ℕ) → List (Option ℕ) → List (Option ℕ) → Type 0
AreNoted make old new =
    (k : ℕ) → k < length old → slice_index_or new k None ≡ option_or (slice_index_or old k None) (make k)

-- for each section the position of the key symbol that lies in it
pub record AreKeys (n : Object) (keys : List (Option ℕ)) : Type 0 where
  pub counted : length keys ≡ length n.sections
  pub each : (k : ℕ) → k < length n.sections → slice_index_or keys k None ≡ key_position n k

-- for each group the position of the section that leads it
pub record AreLeaders (n : Object) (leaders : List (Option ℕ)) : Type 0 where
  pub counted : length leaders ≡ length n.groups
  pub each : (g : ℕ) → g < length n.groups → slice_index_or leaders g None ≡ leader_position n g
