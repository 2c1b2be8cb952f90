use Rattle.std.proofs.Common.{None, length, get_or, sym, ◌∙◌, subst, arith}
use Rattle.oc_strings.specs.Order.{names_of}
use Rattle.oc_strings.proofs.{EntryLemmas.{count_of_names}, TailLemmas.{Beyond, tail_step}}
use Rattle.oc_strings.proofs.tails.next_tail.Goals as goal

pub loop-candidate-preserved : goal.loop-candidate-preserved
loop-candidate-preserved c =
    let names = names_of c.args.entries.now in
    let beyond = subst (Beyond names (length c.args.tails.now)) c.in-Some.is c.loop-candidate.invariant in
    tail_step names c.requires.ascends (length c.args.tails.now) c.in-Some.k (get_or c.args.tails.now c.in-Some.k None) (omega (arith, count_of_names c.args.entries.now)) beyond
    (sym c.ends_later.ensures ∙ c.if-ends_later.false)
    (c.requires.known c.in-Some.k None beyond.0)
