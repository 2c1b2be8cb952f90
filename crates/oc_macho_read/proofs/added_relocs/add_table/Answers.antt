-- With its last field a section is done.
use Rattle.std.proofs.Common.{◌≡◌, ◌+◌, [], length, take, arith}
use Rattle.oc_shows.proofs.BuiltSteps.{added_same}
use Rattle.oc_macho_read.specs.{Built.{started}, Given.{given_before, given_with}}
use Rattle.oc_macho_read.proofs.StepLemmas.{all_done, given_first}
use Rattle.oc_macho_read.proofs.added_relocs.add_table.Goals as goal

pub loop-j-init : goal.loop-j-init
loop-j-init c =
    let t = c.args.frame.now in
    added_same (started t c.args.known.now.keep) c.args.builder.now (given_before t c.args.known.now.keep c.args.i) (given_with t c.args.known.now.keep c.args.i []) c.requires.before (given_first t c.args.known.now.keep c.args.i)

pub returns : goal.returns
returns c =
    let t = c.args.frame.now in
    let end : c.loop-j.j ≡ length c.in_ok-fields.fields.items = omega (arith, c.loop-j-test.false, c.len-j-end.ensures, c.loop-j.auto.j-end) in
    added_same (started t c.args.known.now.keep) c.loop-j.builder (given_with t c.args.known.now.keep c.args.i (take c.loop-j.j c.in_ok-fields.fields.items)) (given_before t c.args.known.now.keep (c.args.i + 1)) c.loop-j.invariant
    (all_done t c.args.known.now.keep c.args.known.now.positions.now c.requires.ready c.args.i c.args.h.now c.requires.table c.requires.kept c.in_ok-fields.fields.items c.in_ok-fields.ensures c.loop-j.j end)
