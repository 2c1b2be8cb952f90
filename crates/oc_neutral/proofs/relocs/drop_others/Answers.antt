use Rattle.std.proofs.Common.{[], ◌∙◌, ◌+◌, ◌<◌, ap, arith, length, set, subst, sym}
use Rattle.std.specs.Option.{option_map}
use Rattle.oc_chains.specs.Lists.{Chained, list_of}
use Rattle.oc_neutral.specs.declared.reloc.Reloc.{Reloc}
use Rattle.oc_neutral.proofs.{Numbers.{IsEmptying, next_goes, next_stays, next_there}, relocs.drop_others.Goals.{then-not-stay-at, else-not-stay-at}}
use Rattle.oc_neutral.proofs.relocs.drop_others.Goals as goal

pub drop_section-requires : goal.drop_section-requires
drop_section-requires c =
    let there = next_there (option_map (λ v. v.items) c.args.of.now) c.args.stay.now c.args.chains.now c.requires.counted c.loop-at.chains c.loop-at.at (omega (arith, c.loop-at-test.true, c.requires.all)) c.loop-at.invariant in
    omega (arith, there, c.number_of.ensures)

pub loop-at-preserved : goal.loop-at-preserved
loop-at-preserved c =
    let of = option_map (λ v. v.items) c.args.of.now in
    let lt : c.loop-at.at < length c.args.stay.now = omega (arith, c.loop-at-test.true, c.requires.all) in
    elim c.if-not-stay-at.branch [
      | then-not-stay-at w ↦
          subst (λ (x : Chained Reloc). IsEmptying of c.args.stay.now c.args.chains.now x (c.loop-at.at + 1)) (sym w.chains-is)
          (next_goes of c.args.stay.now c.args.chains.now c.requires.counted c.loop-at.chains c.loop-at.at lt c.loop-at.invariant _ w.if-not-stay-at.true w.drop_section.new.self
          (w.drop_section.ensures.lists ∙ ap (λ k. set c.loop-at.chains.lists k []) w.number_of.ensures)
          (w.drop_section.ensures.spare ∙ ap (λ k. c.loop-at.chains.spare + length (list_of c.loop-at.chains.lists k)) w.number_of.ensures))
      | else-not-stay-at w ↦
          subst (λ (x : Chained Reloc). IsEmptying of c.args.stay.now c.args.chains.now x (c.loop-at.at + 1)) (sym w.chains-is)
          (next_stays of c.args.stay.now c.args.chains.now c.requires.counted c.loop-at.chains c.loop-at.at lt c.loop-at.invariant _ w.if-not-stay-at.false)
    ]
