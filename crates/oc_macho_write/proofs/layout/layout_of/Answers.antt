-- Each turn lays the next part.
use Rattle.std.proofs.Common.{◌≤◌, List, length, get_or, take, sym, ◌∙◌, ap, subst, arith}
use Rattle.std.specs.Option.{is_some}
use Rattle.std.proofs.lemmas.{List.{take_all}, Option.{slice_get-get_or}}
use Rattle.oc_neutral.specs.declared.section.Section.{Section}
use Rattle.oc_macho_file.specs.Layout as layout
use Rattle.oc_macho_file.specs.Layout.{parts_of}
use Rattle.oc_macho_file.proofs.{CodedLaws.{for_mach}, PartLaws.{rises}}
use Rattle.oc_macho_write.specs.declared.parts.Part.TheVariants as part
use Rattle.oc_macho_write.specs.{Bodies.{IsSmall, size_by}, LaidParts.{AreLaid}}
use Rattle.oc_macho_write.proofs.{BodyLemmas.{has_body, part_listed, size_is}, LaidLemmas.{end_by, part_room}, PartLemmas.{as_many_parts}}
use Rattle.oc_macho_write.proofs.layout.layout_of.Goals as goal
use Rattle.oc_neutral.proofs.FieldLists.{take_here}

pub part_begin-begin-requires-clause-there : goal.part_begin-begin-requires-clause-there
part_begin-begin-requires-clause-there c =
    let k = c.loop-part.part-index in
    let x = part_listed c.args.neutral.now c.args.parts.now k _ c.requires.parts (slice_get-get_or c.args.parts.now k part.FileHead c.loop-part-test.true) in
    ap is_some x.2

pub part_begin-begin-requires-clause-near : goal.part_begin-begin-requires-clause-near
part_begin-begin-requires-clause-near c =
    let w = c.args.word in
    let n = c.args.neutral.now in
    let k = c.loop-part.part-index in
    let x = part_listed n c.args.parts.now k _ c.requires.parts (slice_get-get_or c.args.parts.now k part.FileHead c.loop-part-test.true) in
    let room = part_room w n (for_mach w n c.requires.fitted) k x.0 x.1 in
    let up = rises w n (end_by w n (take k (parts_of n))) x.0 in
    let end = c.loop-part.invariant.ends in
    omega (arith, room, up, end)

pub part_size-requires-clause-there : goal.part_size-requires-clause-there
part_size-requires-clause-there c =
    let w = c.args.word in
    let n = c.args.neutral.now in
    let k = c.loop-part.part-index in
    let x = part_listed n c.args.parts.now k _ c.requires.parts (slice_get-get_or c.args.parts.now k part.FileHead c.loop-part-test.true) in
    has_body w n c.args.bodies.now c.requires.bodies c.sections.result.now (ap length c.sections.ensures) (get_or c.args.parts.now k part.FileHead) x.0 x.2

pub part_size-requires-clause-small : goal.part_size-requires-clause-small
part_size-requires-clause-small c =
    let w = c.args.word in
    let n = c.args.neutral.now in
    let k = c.loop-part.part-index in
    let p = get_or c.args.parts.now k part.FileHead in
    let x = part_listed n c.args.parts.now k _ c.requires.parts (slice_get-get_or c.args.parts.now k part.FileHead c.loop-part-test.true) in
    let room = part_room w n (for_mach w n c.requires.fitted) k x.0 x.1 in
    let size = size_is w n c.args.bodies.now c.requires.bodies p x.0 x.2 in
    subst (λ (ss : List Section). IsSmall w ss c.args.bodies.now p) (sym c.sections.ensures) (omega (arith, room, size))

pub lay-requires : goal.lay-requires
lay-requires c =
    let w = c.args.word in
    let n = c.args.neutral.now in
    let k = c.loop-part.part-index in
    let p = get_or c.args.parts.now k part.FileHead in
    let x = part_listed n c.args.parts.now k _ c.requires.parts (slice_get-get_or c.args.parts.now k part.FileHead c.loop-part-test.true) in
    let room = part_room w n (for_mach w n c.requires.fitted) k x.0 x.1 in
    let begin = c.part_begin-begin.ensures x.0 x.2 ∙ ap (λ at. layout.part_begin w n at x.0) c.loop-part.invariant.ends in
    let size = c.part_size.ensures ∙ ap (λ (ss : List Section). size_by w ss c.args.bodies.now p) c.sections.ensures ∙ size_is w n c.args.bodies.now c.requires.bodies p x.0 x.2 in
    omega (arith, room, begin, size)

pub loop-part-preserved : goal.loop-part-preserved
loop-part-preserved c =
    let w = c.args.word in
    let n = c.args.neutral.now in
    let k = c.loop-part.part-index in
    let p = get_or c.args.parts.now k part.FileHead in
    let x = part_listed n c.args.parts.now k _ c.requires.parts (slice_get-get_or c.args.parts.now k part.FileHead c.loop-part-test.true) in
    let size = c.part_size.ensures ∙ ap (λ (ss : List Section). size_by w ss c.args.bodies.now p) c.sections.ensures ∙ size_is w n c.args.bodies.now c.requires.bodies p x.0 x.2 in
    subst (λ (ps : List layout.Part). AreLaid w n c.lay.new.layout ps) (sym (take_here (parts_of n) k x.0 x.1))
    (c.in_ok-lay.ensures w n (take k (parts_of n)) x.0 c.loop-part.invariant (sym (c.part_begin-begin.ensures x.0 x.2)) (sym size))

pub returns : goal.returns
returns c =
    let w = c.args.word in
    let n = c.args.neutral.now in
    let k = c.loop-part.part-index in
    let many = as_many_parts n c.args.parts.now c.requires.parts in
    let done : length (parts_of n) ≤ k = omega (arith, many, c.loop-part-test.false) in
    subst (λ (ps : List layout.Part). AreLaid w n c.loop-part.layout ps) (take_all k (parts_of n) done) c.loop-part.invariant
