-- The bit of the byte is set, and all others stay.
use Rattle.oc_shelf.proofs.ReadingLaws.BitmapLemmas.{has_more}
use Rattle.oc_shelf.proofs.reading.bitmap.put.Goals as goal

pub returns-clause-taken : goal.returns-clause-taken
returns-clause-taken c = has_more c.args.words.now c.args.at c.requires
