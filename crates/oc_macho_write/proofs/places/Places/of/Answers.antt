-- Each turn gives its part the place where it begins.
use Rattle.std.proofs.Common.{refl, arith}
use Rattle.std.proofs.lemmas.Option.{slice_get-get_or}
use Rattle.oc_macho_write.specs.declared.parts.Part.TheVariants as part
use Rattle.oc_macho_write.proofs.{BodyLemmas.{part_listed}, PartLemmas.{as_many_parts}, PlaceLemmas.{can_give, upto_none, upto_more, upto_all}}
use Rattle.oc_macho_write.proofs.places.Places.of.Goals as goal

pub loop-at-init : goal.loop-at-init
loop-at-init c = record {
  room = c.in_ok-places.ensures.room;
  upto = λ w are. upto_none w c.args.neutral.now c.in_ok-places.places c.in_ok-places.ensures.room c.in_ok-places.ensures.zero;
}

pub give-requires : goal.give-requires
give-requires c =
    let n = c.args.neutral.now in
    let k = c.loop-at.at in
    let x = part_listed n c.args.parts.now k _ c.requires.parts (slice_get-get_or c.args.parts.now k part.FileHead c.loop-at-test.true) in
    can_give n c.loop-at.places _ x.0 c.loop-at.invariant.room x.2

pub loop-at-preserved : goal.loop-at-preserved
loop-at-preserved c =
    let n = c.args.neutral.now in
    let k = c.loop-at.at in
    let x = part_listed n c.args.parts.now k _ c.requires.parts (slice_get-get_or c.args.parts.now k part.FileHead c.loop-at-test.true) in
    let g = c.give.ensures in
    record {
      room = g.room n c.loop-at.invariant.room;
      upto = λ w are. upto_more w n k x.0 c.loop-at.places c.give.new.self c.args.begins.now _ x.1 are refl c.loop-at.invariant.room (c.loop-at.invariant.upto w are) (g.raws n x.0 x.2) (g.relocs n x.0 x.2) (g.symbols n x.0 x.2) (g.strings n x.0 x.2);
    }

pub returns : goal.returns
returns c = λ w are.
    let n = c.args.neutral.now in
    let many = as_many_parts n c.args.parts.now c.requires.parts in
    upto_all w n c.loop-at.at c.loop-at.places (omega (arith, c.loop-at-test.false, many)) c.loop-at.invariant.room (c.loop-at.invariant.upto w are)
