-- Field by field.
use Rattle.std.proofs.Common.{◌≡◌, length, rules, sym, ◌∙◌, ap, subst, arith}
use Rattle.std.proofs.lemmas.Option.{same_Some}
use Rattle.std.specs.Vec.{vec_len}
use Rattle.oc_neutral.specs.{declared.section.Section.{Section}, Mach.Kinds.{segment_of, section_of}}
use Rattle.oc_macho_file.specs.{Addresses.{address_of}, Canonical.{pointer_to, section_header}, Layout.{is_raw, is_relocs, part_where, relocs_of}}
use Rattle.oc_macho.specs.Structures.{padded}
use Rattle.oc_macho_file.proofs.CodedLaws.{for_mach, meets_section}
use Rattle.oc_macho_write.proofs.{BodyLemmas.{many_relocs, vector_is}, HeaderLemmas.{count_low, header_by, raw_low, relocs_low, section_header_is}}
use Rattle.oc_shelf.proofs.WritingLaws.LayoutLemmas.{get_any}
use Rattle.oc_macho_write.proofs.headers.section_header.Goals as goal

pub index-requires : goal.index-requires
index-requires c =
    let counted = many_relocs c.args.output.now.word c.args.output.now.neutral.now c.args.output.now.bodies.now c.requires.made.bodies in
    let long : vec_len c.args.output.now.bodies.now.relocs ≡ length c.args.output.now.bodies.now.relocs.items = search rules in
    omega (arith, counted, long, c.requires.there)

pub padded-requires : goal.padded-requires
padded-requires c =
    let m = meets_section c.args.output.now.word c.args.output.now.neutral.now (for_mach c.args.output.now.word c.args.output.now.neutral.now c.requires.made.fitted) c.args.position c.section-section.result.now c.section-section.ensures in
    let short = m.section in
    let same = ap length (c.section_of.ensures ∙ ap section_of c.as_slice-name.ensures) in
    omega (arith, short, same)

pub padded-requires-2 : goal.padded-requires-2
padded-requires-2 c =
    let m = meets_section c.args.output.now.word c.args.output.now.neutral.now (for_mach c.args.output.now.word c.args.output.now.neutral.now c.requires.made.fitted) c.args.position c.section-section.result.now c.section-section.ensures in
    let short = m.segment in
    let same = ap length (c.segment_of.ensures ∙ ap segment_of c.as_slice-name.ensures) in
    omega (arith, short, same)

pub overflow_cast-result : goal.overflow_cast-result
overflow_cast-result c =
    let w = c.args.output.now.word in
    let n = c.args.output.now.neutral.now in
    let k = c.args.position in
    let is = for_mach w n c.requires.made.fitted in
    let room = c.requires.made.places.room.raws in
    let at : c.index-3.result.now ≡ part_where w n (is_raw k)
    = c.index-3.ensures ∙ get_any c.args.output.now.places.now.raws.items k c.index-3.result.now 0 (omega (arith, room, c.requires.there)) ∙ c.requires.made.places.raws k c.requires.there in
    let low = raw_low w n is k c.section-section.result.now c.section-section.ensures in
    omega (arith, at, low)

pub pointer_to-requires : goal.pointer_to-requires
pointer_to-requires c =
    let w = c.args.output.now.word in
    let n = c.args.output.now.neutral.now in
    let k = c.args.position in
    let is = for_mach w n c.requires.made.fitted in
    let room = c.requires.made.places.room.relocs in
    let at : c.index-4.result.now ≡ part_where w n (is_relocs k)
    = c.index-4.ensures ∙ get_any c.args.output.now.places.now.relocs.items k c.index-4.result.now 0 (omega (arith, room, c.requires.there)) ∙ c.requires.made.places.relocs k c.requires.there in
    let low = relocs_low w n is k c.section-section.result.now c.section-section.ensures in
    omega (arith, at, low)

pub overflow_cast-result-2 : goal.overflow_cast-result-2
overflow_cast-result-2 c =
    let w = c.args.output.now.word in
    let n = c.args.output.now.neutral.now in
    let long : c.len-count.result ≡ length c.index.result.now.items = search rules in
    let held = vector_is w n c.args.output.now.bodies.now c.requires.made.bodies c.args.position c.index.result.now c.requires.there c.index.ensures in
    let same = ap length held in
    let low = count_low w n (for_mach w n c.requires.made.fitted) c.args.position c.section-section.result.now c.section-section.ensures in
    omega (arith, long, same, low)

pub overflow_cast-result-3 : goal.overflow_cast-result-3
overflow_cast-result-3 c =
    let m = meets_section c.args.output.now.word c.args.output.now.neutral.now (for_mach c.args.output.now.word c.args.output.now.neutral.now c.requires.made.fitted) c.args.position c.section-section.result.now c.section-section.ensures in
    let small = m.small in
    omega (arith, small)

pub returns : goal.returns
returns c = λ s here.
    let w = c.args.output.now.word in
    let n = c.args.output.now.neutral.now in
    let k = c.args.position in
    let x = c.section-section.result.now in
    let there = c.requires.there in
    let places = c.requires.made.places in
    let address_room = c.requires.made.addresses.sections.counted in
    let raw_room = places.room.raws in
    let relocs_room = places.room.relocs in
    let long : c.len-count.result ≡ length c.index.result.now.items = search rules in
    let count : c.len-count.result ≡ length (relocs_of w n k)
    = long ∙ ap length (vector_is w n c.args.output.now.bodies.now c.requires.made.bodies k c.index.result.now there c.index.ensures) in
    let address : c.index-2.result.now ≡ address_of n k
    = c.index-2.ensures ∙ get_any c.args.output.now.addresses.now.sections.items k c.index-2.result.now 0 (omega (arith, address_room, there)) ∙ c.requires.made.addresses.sections.each k there in
    let raw : c.index-3.result.now ≡ part_where w n (is_raw k)
    = c.index-3.ensures ∙ get_any c.args.output.now.places.now.raws.items k c.index-3.result.now 0 (omega (arith, raw_room, there)) ∙ places.raws k there in
    let table : c.index-4.result.now ≡ part_where w n (is_relocs k)
    = c.index-4.ensures ∙ get_any c.args.output.now.places.now.relocs.items k c.index-4.result.now 0 (omega (arith, relocs_room, there)) ∙ places.relocs k there in
    subst (λ (y : Section). header_by x c.padded.result c.padded-2.result c.index-2.result.now c.from.result c.index-3.result.now c.exponent_of.result c.pointer_to.result c.len-count.result ≡ section_header w n (k, y))
    (same_Some x s (sym c.section-section.ensures ∙ here))
    (section_header_is w n k x c.padded.result c.padded-2.result c.index-2.result.now c.from.result c.index-3.result.now c.exponent_of.result c.pointer_to.result c.len-count.result
    (c.padded.ensures ∙ ap padded (c.section_of.ensures ∙ ap section_of c.as_slice-name.ensures))
    (c.padded-2.ensures ∙ ap padded (c.segment_of.ensures ∙ ap segment_of c.as_slice-name.ensures))
    address c.from.ensures raw c.exponent_of.ensures.exponent
    (c.pointer_to.ensures ∙ ap (λ p. pointer_to p c.len-count.result) table ∙ ap (pointer_to (part_where w n (is_relocs k))) count) count)
