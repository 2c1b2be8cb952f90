-- What the lines of a placement note, or the first that is at fault (our profile).
use Rattle.std.specs.Prelude.{◌≡◌, ℕ, ◌+◌, ◌-◌, Bool, false, true, ◌&&◌, ◌||◌, nat_eq, nat_le, if◌then◌else◌, List, [], ◌∷◌, length, map, replicate, slice_set, get_or, Option, Some, None, is_some, Result, Ok, Err, MatchResult}
use Rattle.std.specs.List.{slice_split}
use Rattle.oc_base.specs.declared.format.Word.{Word}
use Rattle.oc_linking.specs.Numbers.{modulus}
use Rattle.oc_linking.specs.Parts as parts
use Rattle.oc_strings.specs.Repeats.{NameList, nonlocal_name, place_of}
use Rattle.oc_place.specs.{declared.spot.Spot.{Spot}, declared.spot.Outside.{Outside}, declared.entry.PlacementLine.{PlacementLine}}
use Rattle.oc_place.specs.{declared.fault.PlaceCode.{PlaceCode}, declared.fault.PlaceCode.TheVariants.{BadLine, TooLarge, BadSection, NoSymbol, Repeated}}
use Rattle.oc_place.specs.{Entries.{Shape, line_of}, Footprints.{Footprint}}
use Rattle.oc_place.specs.declared.entry.PlacementLine.TheVariants as entry

-- what the lines so far note
pub record Notes : Type 0 where
  pub image : Option ℕ
  pub got : Option ℕ
  -- of each section, where it lies
  pub spots : List (Option Spot)
  -- of each group, whether it is discarded
  pub dropped : List Bool
  -- of each symbol, what the outside gives its name
  pub given : List (Option Outside)

-- where no line was read
abbrev pub no_notes : Footprint → Notes
no_notes footprint = record {
  image = None;
  got = None;
  spots = replicate (length footprint.sections) None;
  dropped = replicate footprint.groups false;
  given = replicate (length footprint.symbols) None;
}

-- the names of symbols that are not Local, by position
abbrev pub names_of : List parts.Symbol → NameList
names_of symbols = map (λ (s : parts.Symbol). nonlocal_name s.binding s.name) symbols

-- the position of the symbol with a name
abbrev pub symbol_named : List parts.Symbol → List ℕ → Option ℕ
symbol_named symbols name = place_of (names_of symbols) (length symbols) name

-- ... one line

-- a number is 2^W or more
abbrev pub is_large : Word → ℕ → Bool
is_large w h = nat_le (modulus w) h

-- one of the three is
abbrev pub is_spot_large : Word → Spot → Bool
is_spot_large w s = is_large w s.address || (is_large w s.home || is_large w s.number)

-- one of the numbers of an entry is; the number of a section or a group is none of them
abbrev pub is_entry_large : Word → PlacementLine → Bool
is_entry_large w (entry.Image h) = is_large w h
is_entry_large w (entry.Got h) = is_large w h
is_entry_large w (entry.Section k spot) = is_spot_large w spot
is_entry_large w (entry.Drop k) = false
is_entry_large w (entry.Name spot slot) = is_spot_large w spot || is_large w slot
is_entry_large w (entry.Slot slot) = is_large w slot

-- the position of number k, counted from 1, among so many
abbrev pub position_in : ℕ → ℕ → Option ℕ
position_in count k = if nat_le 1 k && nat_le k count then Some (k - 1) else None

-- what a step gives are the new notes, or the code of a refusal
abbrev pub IsOutcome : {A : Type 0} → Result Notes PlaceCode → Notes → Result A PlaceCode → Type 0
IsOutcome step new result = MatchResult result (λ _. step ≡ Ok new) (λ code. step ≡ Err code)

-- the image base is noted once
abbrev pub with_image : Notes → ℕ → Result Notes PlaceCode
with_image notes h = if is_some notes.image then Err Repeated else Ok (record notes { image = Some h })

-- and the base of the GOT
abbrev pub with_got : Notes → ℕ → Result Notes PlaceCode
with_got notes h = if is_some notes.got then Err Repeated else Ok (record notes { got = Some h })

-- where the section at a position lies
abbrev pub with_spot : Notes → Spot → Option ℕ → Result Notes PlaceCode
with_spot notes spot None = Err BadSection
with_spot notes spot (Some k) = if is_some (get_or notes.spots k None) then Err Repeated else Ok (record notes { spots = slice_set notes.spots k (Some spot) })

-- that the group at a position is discarded
abbrev pub with_drop : Notes → Option ℕ → Result Notes PlaceCode
with_drop notes None = Err BadSection
with_drop notes (Some k) = if get_or notes.dropped k false then Err Repeated else Ok (record notes { dropped = slice_set notes.dropped k true })

-- what the outside gives the name of the symbol at a position
abbrev pub with_outside : Notes → Outside → Option ℕ → Result Notes PlaceCode
with_outside notes given None = Err NoSymbol
with_outside notes given (Some k) = if is_some (get_or notes.given k None) then Err Repeated else Ok (record notes { given = slice_set notes.given k (Some given) })

-- the notes with an entry more, whose numbers are small enough, about that name; a `slot` line gives no address
abbrev pub with_numbers : Footprint → Notes → PlacementLine → List ℕ → Result Notes PlaceCode
with_numbers footprint notes (entry.Image h) name = with_image notes h
with_numbers footprint notes (entry.Got h) name = with_got notes h
with_numbers footprint notes (entry.Section k spot) name = with_spot notes spot (position_in (length notes.spots) k)
with_numbers footprint notes (entry.Drop k) name = with_drop notes (position_in (length notes.dropped) k)
with_numbers footprint notes (entry.Name spot slot) name = with_outside notes (record { spot = Some spot; slot = slot }) (symbol_named footprint.symbols name)
with_numbers footprint notes (entry.Slot slot) name = with_outside notes (record { spot = None; slot = slot }) (symbol_named footprint.symbols name)

-- the notes with an entry more, about that name: TooLarge comes before what else is wrong with it
abbrev pub with_entry : Footprint → Notes → PlacementLine → List ℕ → Result Notes PlaceCode
with_entry footprint notes e name = if is_entry_large footprint.word e then Err TooLarge else with_numbers footprint notes e name

-- the same, where the line is of a form
abbrev pub with_form : Footprint → Notes → Option Shape → Result Notes PlaceCode
with_form footprint notes None = Err BadLine
with_form footprint notes (Some shape) = with_entry footprint notes shape.0 shape.1

-- the same of the bytes of a line
unfoldable pub with_line : Footprint → Notes → List ℕ → Result Notes PlaceCode
with_line footprint notes line = with_form footprint notes (line_of line)

-- ... all lines

-- what is at fault: a line, or a section or symbol by its position, each counted from 1
pub record Bad : Type 0 where
  pub line : ℕ
  pub code : PlaceCode

-- the code is that of a line
abbrev pub at_line : {X : Type 0} → ℕ → Result X PlaceCode → Result X Bad
at_line line (Ok x) = Ok x
at_line line (Err code) = Err (record { line = line; code = code })

-- what follows where nothing is at fault
abbrev pub then_by : {X Y : Type 0} → Result X Bad → (X → Result Y Bad) → Result Y Bad
then_by (Ok x) next = next x
then_by (Err bad) next = Err bad

-- what comes after the last newline is a bad line, unless it is empty
abbrev pub with_rest : ℕ → Notes → List ℕ → Result Notes Bad
with_rest line notes [] = Ok notes
with_rest line notes (b ∷ bs) = Err (record { line = line; code = BadLine })

-- the notes with the lines from a number on; the last of the pieces of the text comes after the last newline
abbrev pub notes_from : Footprint → ℕ → Notes → List (List ℕ) → Result Notes Bad
notes_from footprint line notes [] = Ok notes
notes_from footprint line notes (piece ∷ []) = with_rest line notes piece
notes_from footprint line notes (piece ∷ (next ∷ pieces)) = then_by (at_line line (with_line footprint notes piece)) (λ more. notes_from footprint (line + 1) more (next ∷ pieces))

-- a newline
abbrev pub is_newline : ℕ → Bool
is_newline b = nat_eq b 10

-- what a text notes, or its first line that is at fault
unfoldable pub notes_of : Footprint → List ℕ → Result Notes Bad
notes_of footprint text = notes_from footprint 1 (no_notes footprint) (slice_split is_newline text)
