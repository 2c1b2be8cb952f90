use Rattle.std.proofs.Common.{◌≡◌, take, None}
use Rattle.oc_linking.specs.Numbers.{first_upto}
use Rattle.oc_words.specs.{Jobs.{bad_at}, Readings.{IsReadingOf}}
use Rattle.oc_words.proofs.conversion.read_all.Given as goal

-- no word so far is at fault, and what was taken up is what they say
abbrev pub invariant-loop-index : goal.invariant-loop-index
invariant-loop-index l = (first_upto (bad_at l.words) l.index ≡ None) × IsReadingOf (take l.index l.words) l.reading
