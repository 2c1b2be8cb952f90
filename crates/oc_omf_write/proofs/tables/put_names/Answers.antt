-- Each name is short, and all have room.
use Rattle.std.proofs.Common.{◌≤◌, length, take, map, ap, arith, length-append}
use Rattle.std.specs.Prelude.{flat_map}
use Rattle.std.proofs.lemmas.Option.{slice_get-get_or}
use Rattle.oc_neutral.proofs.Positions.{each_at}
use Rattle.oc_shelf.proofs.WritingLaws.MemberLemmas.{member_map}
use Rattle.oc_omf.specs.Bytes.{name_bytes}
use Rattle.oc_omf_write.specs.declared.names.Name.TheVariants as name
use Rattle.oc_omf_write.specs.Names.{text_by}
use Rattle.oc_omf_write.proofs.TableLemmas.{map_take, names_long}
use Rattle.oc_omf_write.proofs.tables.put_names.Goals as goal

pub put_name-requires-clause-short : goal.put_name-requires-clause-short
put_name-requires-clause-short c =
    let i = c.loop-name.name-index in
    let names = c.args.names.now in
    let texts = map (text_by c.args.sections.now) names in
    let here = member_map (text_by c.args.sections.now) names i _ (slice_get-get_or names i name.Empty c.loop-name-test.true) in
    let low = each_at (λ text. length text ≤ 255) texts i _ c.requires.short here in
    let same = ap length c.text_of.ensures in
    omega (arith, low, same)

pub put_name-requires-clause-room : goal.put_name-requires-clause-room
put_name-requires-clause-room c =
    let i = c.loop-name.name-index in
    let names = c.args.names.now in
    let texts = map (text_by c.args.sections.now) names in
    let here = member_map (text_by c.args.sections.now) names i _ (slice_get-get_or names i name.Empty c.loop-name-test.true) in
    let long = names_long i texts _ here in
    let same = ap length c.text_of.ensures in
    let so_far = ap length c.loop-name.invariant in
    let both = length-append c.args.out.now (flat_map name_bytes (map (text_by c.args.sections.now) (take i names))) in
    let moved = ap (λ xs. length (flat_map name_bytes xs)) (map_take (text_by c.args.sections.now) i names) in
    let room = c.requires.room in
    omega (arith, long, same, so_far, both, moved, room)
