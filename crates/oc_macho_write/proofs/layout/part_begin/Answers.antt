-- By what the part is.
use Rattle.std.proofs.Common.{◌≡◌, length, Some, rules, ◌∙◌, ap, subst, arith}
use Rattle.std.specs.{Prelude.{IsSome}, Option.{is_some}, Vec.{vec_len}}
use Rattle.oc_shelf.specs.Writing.Parts.{aligned}
use Rattle.oc_macho_file.specs.Layout as layout
use Rattle.oc_macho_file.specs.Layout.{entries_align, relocs_of}
use Rattle.oc_macho_file.proofs.CodedLaws.{align_some, for_mach, meets_section}
use Rattle.oc_macho_write.specs.Parts.{part_in}
use Rattle.oc_macho_write.proofs.{BodyLemmas.{many_relocs, vector_is}, LaidLemmas.{begin_of, part_within}}
use Rattle.oc_macho_write.proofs.layout.part_begin.Goals as goal

pub aligned_place-requires-clause-some : goal.aligned_place-requires-clause-some
aligned_place-requires-clause-some c =
    let s = c.section.result.now in
    let m = meets_section c.args.word c.args.neutral.now (for_mach c.args.word c.args.neutral.now c.requires.fitted) c.in-Raw.k s c.section.ensures in
    let some = align_some s.align m.align in
    omega (arith, some, c.from-align.ensures)

pub index-requires : goal.index-requires
index-requires c =
    let low = part_within c.args.neutral.now layout.Relocs c.in-Relocs.k (subst (λ p. IsSome (part_in c.args.neutral.now p)) c.in-Relocs.is c.requires.there) in
    let many = many_relocs c.args.word c.args.neutral.now c.args.bodies.now c.requires.bodies in
    let long : vec_len c.args.bodies.now.relocs ≡ length c.args.bodies.now.relocs.items = search rules in
    omega (arith, low, many, long)

pub returns-in-Relocs : goal.returns-in-Relocs
returns-in-Relocs c = λ is here.
    let w = c.args.word in
    let n = c.args.neutral.now in
    let k = c.in-Relocs.k in
    let there = subst (λ p. part_in n p ≡ Some is) c.in-Relocs.is here in
    let low = part_within n layout.Relocs k (ap is_some there) in
    let long : c.len-count.result ≡ length c.index.result.now.items = search rules in
    let count : c.len-count.result ≡ length (relocs_of w n k) = long ∙ ap length (vector_is w n c.args.bodies.now c.requires.bodies k c.index.result.now low c.index.ensures) in
    c.aligned_place-in-Relocs.ensures ∙ ap (λ a. aligned a c.args.at) (c.entries_align.ensures.align ∙ ap (entries_align w) count) ∙ begin_of w n c.args.at k is there
