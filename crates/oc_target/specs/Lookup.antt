-- What a look-up answers (our profile).
use Rattle.std.specs.Prelude.{Option, Some, None, Result, Ok, Err}
use Rattle.oc_neutral.specs.Spelling.{Spelled, One, Pair}
use Rattle.oc_target.specs.{declared.forms.NoForm.{NoForm}, declared.forms.Spelling.{Spelling}}
use Rattle.oc_target.specs.declared.forms.Spelling.TheVariants as spelling

-- how a format writes a form
abbrev pub shown : Spelled → Spelling
shown (One n) = spelling.One n
shown (Pair first second) = spelling.Pair first second

-- the answer, by how the format writes the form
abbrev pub answer_of : Option Spelled → Result Spelling NoForm
answer_of None = Err (record {})
answer_of (Some s) = Ok (shown s)
