-- The relocation stands.
use Rattle.oc_macho_write.proofs.FormLemmas.{stands_for}
use Rattle.oc_macho_write.proofs.relocations.add_entries.Goals as goal

pub add_standing-requires-clause-there : goal.add_standing-requires-clause-there
add_standing-requires-clause-there c =
    let form = c.requires.can.form in
    stands_for c.args.context c.spelled_at-standing.result c.args.section c.args.field.at c.args.field.item c.requires.can (c.spelled_at-standing.ensures form.written form.there)

pub add_standing-requires-clause-written : goal.add_standing-requires-clause-written
add_standing-requires-clause-written c =
    let form = c.requires.can.form in
    (form.written, c.spelled_at-standing.ensures form.written form.there)
