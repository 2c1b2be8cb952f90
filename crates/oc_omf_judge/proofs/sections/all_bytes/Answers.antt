-- One segment after another.
use Rattle.std.proofs.Common.{◌≡◌, ◌+◌, length, ◌∙◌, ap, arith}
use Rattle.oc_shelf.specs.Reading.Sums.{sum_upto}
use Rattle.oc_shelf.proofs.ReadingLaws.StageLemmas.{sum_more}
use Rattle.oc_omf_judge.specs.Defined.{bytes_in}
use Rattle.oc_omf_judge.proofs.ByteLemmas.{bytes_are, few_bytes, sum_less}
use Rattle.oc_omf_judge.proofs.sections.all_bytes.Goals as goal

pub loop-k-preserved : goal.loop-k-preserved
loop-k-preserved c = λ t is.
    let own = c.bytes_at.ensures t is in
    let before = c.loop-k.invariant t is in
    let more = sum_more (bytes_in t) c.loop-k.k in
    let few = few_bytes t c.args.defined.now is in
    let all = bytes_are t in
    let many = ap length is.segments_are in
    let less = sum_less (bytes_in t) (c.loop-k.k + 1) (length t.segments) (omega (arith, many)) in
    omega (arith, own, before, more, few, all, less)

pub returns : goal.returns
returns c = λ t is.
    let many = ap length is.segments_are in
    let last : c.loop-k.k ≡ length t.segments = omega (arith, many) in
    c.loop-k.invariant t is ∙ ap (sum_upto (bytes_in t)) last ∙ bytes_are t
