-- A conversion's words, recorded one after another. What they mean together is defined in Jobs.
use Rattle.std.specs.Prelude.{◌≡◌, ℕ, bytes_eq, if◌then◌else◌, List, [], ◌∷◌, length, Option, Some, None, Result, Ok, Err}
use Rattle.oc_base.specs.declared.format.Format.{Format}
use Rattle.oc_names.specs.Wishes.{with_edit, with_debug, with_exceptions}
use Rattle.oc_words.specs.{declared.fault.WordCode.{WordCode}, declared.fault.WordCode.TheVariants.{SecondTarget, Conflict, ExtraName, SameFile}}
use Rattle.oc_words.specs.{declared.option.Argument.{Argument}, declared.reading.Names.{Names}, declared.reading.Names.TheVariants.{NoName, Input, Both}}
use Rattle.oc_words.specs.{declared.reading.Reading.{Reading}, Jobs.{targets, wishes_of, operands, conflicts, bad_at}}
use Rattle.oc_words.specs.declared.option.Argument.TheVariants as said
use Rattle.oc_linking.specs.Numbers.{first_upto}

-- the names of files that were recorded
abbrev pub listed : Names → List (List ℕ)
listed NoName = []
listed (Input input) = input ∷ []
listed (Both input output) = input ∷ output ∷ []

-- the target that was recorded
abbrev pub listed_target : Option Format → List Format
listed_target None = []
listed_target (Some to) = to ∷ []

-- what was recorded is what the words mean
pub record IsReadingOf (words : List (List ℕ)) (reading : Reading) : Type 0 where
  pub to : targets words ≡ listed_target reading.to
  pub wishes : wishes_of words ≡ reading.wishes
  pub names : operands words ≡ listed reading.names

-- no word is at fault, and what was recorded is what they mean
pub record HasRead (words : List (List ℕ)) (reading : Reading) : Type 0 where
  pub clean : first_upto (bad_at words) (length words) ≡ None
  pub all : IsReadingOf words reading

-- the names with one more
abbrev pub with_name : Names → List ℕ → Result Names WordCode
with_name NoName name = Ok (Input name)
with_name (Input input) name = if bytes_eq name input then Err SameFile else Ok (Both input name)
with_name (Both input output) name = Err ExtraName

-- the target, where there is none yet
abbrev pub with_target : Option Format → Format → Result (Option Format) WordCode
with_target None to = Ok (Some to)
with_target (Some before) to = Err SecondTarget

-- what was recorded, with these names
abbrev pub renamed : Reading → Result Names WordCode → Result Reading WordCode
renamed r (Ok names) = Ok (record { to = r.to; wishes = r.wishes; names = names })
renamed r (Err code) = Err code

-- what was recorded, with this target
abbrev pub aimed : Reading → Result (Option Format) WordCode → Result Reading WordCode
aimed r (Ok to) = Ok (record { to = to; wishes = r.wishes; names = r.names })
aimed r (Err code) = Err code

-- what was recorded, with what one more word means
abbrev pub with_said : Reading → List ℕ → Argument → Result Reading WordCode
with_said r word said.Operand = renamed r (with_name r.names word)
with_said r word (said.Target to) = aimed r (with_target r.to to)
with_said r word (said.Asks edit) = Ok (record { to = r.to; wishes = with_edit r.wishes edit; names = r.names })
with_said r word (said.Debug choice) =
    if conflicts r.wishes.debug choice then Err Conflict else Ok (record { to = r.to; wishes = with_debug r.wishes choice; names = r.names })
with_said r word (said.Exceptions choice) =
    if conflicts r.wishes.exceptions choice then Err Conflict else Ok (record { to = r.to; wishes = with_exceptions r.wishes choice; names = r.names })
with_said r word (said.Faulty code) = Err code
