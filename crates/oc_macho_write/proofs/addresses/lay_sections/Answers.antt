-- Each turn lays its section, where that is one of those.
use Rattle.std.proofs.Common.{◌≡◌, ◌≤◌, ◌<◌, ◌+◌, ◌^◌, set, length, rules, sym, ◌∙◌, ap, subst, arith}
use Rattle.std.proofs.lemmas.Nat.{pow_pos}
use Rattle.oc_neutral.specs.{declared.section.Section.{Section}, Invariants.{IsAlign}}
use Rattle.oc_neutral.proofs.Positions.{each_at}
use Rattle.oc_shelf.specs.Writing.Parts.{aligned}
use Rattle.oc_macho_write.proofs.AddressLemmas.{IsLaying, laying_begun, laying_done, laying_low, laying_more, laying_passed, laying_room, own_kind, other_kind}
use Rattle.oc_macho_write.proofs.addresses.lay_sections.Goals.{then-is_blank-blank, else-is_blank-blank}
use Rattle.oc_macho_write.proofs.addresses.lay_sections.Goals as goal

pub loop-k-init : goal.loop-k-init
loop-k-init c = laying_begun c.args.blank c.args.neutral.now c.args.at c.args.addresses.now c.requires.counted

pub aligned_place-begin-requires-clause-some : goal.aligned_place-begin-requires-clause-some
aligned_place-begin-requires-clause-some c =
    let s = c.section-section.result.now in
    let p = each_at (λ (s : Section). IsAlign s.align) c.args.neutral.now.sections c.loop-k.k s c.is_object.ensures.complete.aligns c.section-section.ensures in
    let low = pow_pos p.0 in
    let e = p.2 in
    let f = c.from.ensures in
    omega (arith, low, e, f)

pub aligned_place-begin-requires-clause-near : goal.aligned_place-begin-requires-clause-near
aligned_place-begin-requires-clause-near c =
    let up = laying_low c.args.blank c.args.neutral.now c.args.at c.args.addresses.now c.loop-k.k c.loop-k.addresses c.loop-k.end c.loop-k.invariant in
    let near = c.requires.near in
    let f = c.from.ensures in
    let t : c.section-section.result.now.align < 2 ^ 32 = search rules in
    omega (arith, up, near, f, t)

pub overflow_add-end : goal.overflow_add-end
overflow_add-end c =
    let n = c.args.neutral.now in
    let k = c.loop-k.k in
    let s = c.section-section.result.now in
    let own = own_kind c.args.blank (k, s) c.is_blank.result c.is_blank.ensures c.if-is_blank-blank.true in
    let room = laying_room c.args.blank n c.args.at c.args.addresses.now k s c.section-section.ensures c.loop-k.addresses c.loop-k.end c.loop-k.invariant own in
    let near = c.requires.near in
    let begin = c.aligned_place-begin.ensures ∙ ap (λ a. aligned a c.loop-k.end) c.from.ensures in
    let size = c.from-then-is_blank-blank.ensures in
    omega (arith, room, near, begin, size)

pub loop-k-preserved : goal.loop-k-preserved
loop-k-preserved c = elim c.if-is_blank-blank.branch [
  | then-is_blank-blank w ↦
      let n = c.args.neutral.now in
      let k = c.loop-k.k in
      let s = c.section-section.result.now in
      let own = own_kind c.args.blank (k, s) c.is_blank.result c.is_blank.ensures w.if-is_blank-blank.true in
      let begin = w.aligned_place-begin.ensures ∙ ap (λ a. aligned a c.loop-k.end) w.from.ensures in
      let end : c.if-is_blank-blank.end ≡ aligned s.align c.loop-k.end + s.size = w.end-is ∙ ap (λ z. z + w.from-then-is_blank-blank.result) begin ∙ ap (λ z. aligned s.align c.loop-k.end + z) w.from-then-is_blank-blank.ensures in
      subst (λ z. IsLaying c.args.blank n c.args.at c.args.addresses.now (k + 1) c.if-is_blank-blank.addresses z) (sym end)
      (laying_more c.args.blank n c.args.at c.args.addresses.now k s c.section-section.ensures c.loop-k.addresses c.loop-k.end c.loop-k.invariant own c.if-is_blank-blank.addresses
      (w.addresses-is ∙ ap (set c.loop-k.addresses k) begin))
  | else-is_blank-blank w ↦
      let n = c.args.neutral.now in
      let k = c.loop-k.k in
      let s = c.section-section.result.now in
      let other = other_kind c.args.blank (k, s) c.is_blank.result c.is_blank.ensures w.if-is_blank-blank.false in
      subst (λ z. IsLaying c.args.blank n c.args.at c.args.addresses.now (k + 1) z c.if-is_blank-blank.end) (sym w.addresses-is)
      (subst (λ z. IsLaying c.args.blank n c.args.at c.args.addresses.now (k + 1) c.loop-k.addresses z) (sym w.end-is)
      (laying_passed c.args.blank n c.args.at c.args.addresses.now k s c.section-section.ensures c.loop-k.addresses c.loop-k.end c.loop-k.invariant other))
]

pub returns-clause-each : goal.returns-clause-each
returns-clause-each c =
    let done : length c.args.neutral.now.sections ≤ c.loop-k.k = omega (arith, c.loop-k-test.false, c.section_count-k-end.ensures) in
    (laying_done c.args.blank c.args.neutral.now c.args.at c.args.addresses.now c.loop-k.k c.loop-k.addresses c.loop-k.end done c.loop-k.invariant).0

pub returns-clause-end : goal.returns-clause-end
returns-clause-end c =
    let done : length c.args.neutral.now.sections ≤ c.loop-k.k = omega (arith, c.loop-k-test.false, c.section_count-k-end.ensures) in
    (laying_done c.args.blank c.args.neutral.now c.args.at c.args.addresses.now c.loop-k.k c.loop-k.addresses c.loop-k.end done c.loop-k.invariant).1
