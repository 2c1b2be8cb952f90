-- Each fixup takes at most seven bytes.
use Rattle.std.proofs.Common.{length, take, ap, arith, length-append}
use Rattle.std.specs.Prelude.{flat_map}
use Rattle.oc_omf_write.specs.Written.{fixup_bytes_of}
use Rattle.oc_omf_write.proofs.TableLemmas.{fixups_long}
use Rattle.oc_omf_write.proofs.tables.put_fixups.Goals as goal

pub put_field-requires-clause-room : goal.put_field-requires-clause-room
put_field-requires-clause-room c =
    let i = c.loop-fixup.fixup-index in
    let so_far = ap length c.loop-fixup.invariant in
    let both = length-append c.args.out.now (flat_map (fixup_bytes_of c.args.from) (take i c.args.fixups.now)) in
    let long = fixups_long c.args.from i c.args.fixups.now in
    let more = c.loop-fixup-test.true in
    let room = c.requires.room in
    omega (arith, so_far, both, long, more, room)
