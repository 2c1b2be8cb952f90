-- Each turn adds the names of the next section.
use Rattle.std.proofs.Common.{Some, sym, ◌∙◌, ap, arith}
use Rattle.std.proofs.lemmas.Option.{slice_get-get_or}
use Rattle.oc_neutral.proofs.Positions.{each_at}
use Rattle.oc_omf_write.specs.Names.{IsSegment}
use Rattle.oc_omf_write.proofs.NameLemmas.{upto_done}
use Rattle.oc_omf_write.proofs.names.Names.of.Goals as goal

pub loop-k-init : goal.loop-k-init
loop-k-init c = c.in_ok-add_first.ensures c.args.sections.now (c.new-names.ensures c.args.sections.now)

pub add_section-requires : goal.add_section-requires
add_section-requires c =
    let sections = c.args.sections.now in
    each_at IsSegment sections c.loop-k.k c.index-sections-k.result c.requires.segments (slice_get-get_or sections c.loop-k.k c.index-sections-k.result c.loop-k-test.true ∙ ap Some (sym c.index-sections-k.is))

pub loop-k-preserved : goal.loop-k-preserved
loop-k-preserved c = c.in_ok-add_section.ensures c.args.sections.now (slice_get-get_or c.args.sections.now c.loop-k.k c.index-sections-k.result c.loop-k-test.true ∙ ap Some (sym c.index-sections-k.is)) c.loop-k.invariant

pub returns : goal.returns
returns c = let past = c.loop-k-test.false in upto_done c.args.sections.now c.loop-k.k c.loop-k.names (omega (arith, past)) c.loop-k.invariant
