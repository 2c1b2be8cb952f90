-- A section that is left out is given nothing; with its last entry any other is done.
use Rattle.oc_coff.specs.Files.{tables_in}
use Rattle.std.proofs.Common.{◌≡◌, ℕ, ◌+◌, ◌∙◌, length, take, sym, ap, subst, arith}
use Rattle.oc_linking.specs.Keeping.{keeps}
use Rattle.oc_neutral.specs.Invariants.{AreBytes}
use Rattle.oc_shows.proofs.BuiltSteps.{added_same}
use Rattle.oc_coff_read.specs.{Adding.{started}, Given.{given_before, given_with}}
use Rattle.oc_coff_read.proofs.AddedTables.{given_left, table_done}
use Rattle.oc_coff_read.proofs.added_relocs.add_table.Goals as goal

pub returns-then-not-keeps : goal.returns-then-not-keeps
returns-then-not-keeps c =
    let t = tables_in c.args.context.coff.now in
    added_same (started c.args.context.word c.args.context.coff.now) c.args.builder.now (given_before c.args.context.word t c.args.context.keep.now c.args.place.now.position) (given_before c.args.context.word t c.args.context.keep.now (c.args.place.now.position + 1)) c.requires.before
    (given_left c.args.context.word t c.args.context.keep.now c.args.place.now.position c.requires.place.table_is.of c.requires.place.there (ap (keeps c.args.context.keep.now) (sym c.requires.place.kind_is) ∙ sym c.keeps.ensures ∙ c.if-not-keeps.true))

pub returns : goal.returns
returns c =
    let t = tables_in c.args.context.coff.now in
    let end : c.loop-j.j ≡ length c.in_ok-entries.entries.items = omega (arith, c.loop-j-test.false, c.len-j-end.ensures, c.loop-j.auto.j-end) in
    added_same (started c.args.context.word c.args.context.coff.now) c.loop-j.builder (given_with c.args.context.word t c.args.context.keep.now c.args.place.now.position (take c.loop-j.j c.in_ok-entries.entries.items))
    (given_before c.args.context.word t c.args.context.keep.now (c.args.place.now.position + 1)) c.loop-j.invariant
    (λ s at. ap (λ (n : ℕ). given_with c.args.context.word t c.args.context.keep.now c.args.place.now.position (take n c.in_ok-entries.entries.items) s at) end
    ∙ table_done c.args.context.word c.args.context.coff.now c.is_headed.ensures (subst AreBytes c.file.ensures c.are_bytes.ensures) c.args.context.keep.now c.args.context.positions.now.sections.now c.args.context.positions.now.symbols.now c.requires.ready c.args.place.now.number c.args.place.now.position c.args.place.now.kind c.args.place.now.table c.args.place.now.contents.now c.requires.place (sym c.keeps.ensures ∙ c.if-not-keeps.false) c.in_ok-entries.entries.items c.in_ok-entries.ensures s at)
