-- The tables of a file say its word.
use Rattle.std.proofs.Common.{◌≡◌, sym, ◌∙◌, ap, subst}
use Rattle.oc_base.specs.declared.format.Word.{Word}
use Rattle.oc_shows.specs.Shows.{Shows}
use Rattle.oc_macho.specs.{Rules.{mach_dialect}, Tables.{Tables, tables_of}}
use Rattle.oc_macho.proofs.FrameLemmas.{word_is}
use Rattle.oc_macho_read.proofs.reader.read_bytes.Goals as goal

pub object_of-requires-clause-tables : goal.object_of-requires-clause-tables
object_of-requires-clause-tables c =
    let same = c.in_ok-found.ensures.frame in
    same ∙ ap (λ (w : Word). tables_of w c.args.bytes.now) (word_is c.args.word c.args.bytes.now ∙ sym (ap (λ (t : Tables). t.word) same))

pub returns-clause-shows : goal.returns-clause-shows
returns-clause-shows c =
    let word : c.in_ok-found.found.frame.word ≡ c.args.word = ap (λ (t : Tables). t.word) c.in_ok-found.ensures.frame ∙ sym (word_is c.args.word c.args.bytes.now) in
    subst (λ (w : Word). Shows (mach_dialect w) c.args.bytes.now c.args.keep.now c.in_ok-object_of.field-0) word c.in_ok-object_of.ensures.shows
