-- Each turn gives its line the number of the lines before.
use Rattle.std.proofs.Common.{arith}
use Rattle.std.proofs.lemmas.Option.{slice_get-get_or}
use Rattle.oc_macho_file.proofs.{CodedLaws.{for_mach}, CountLaws.{few_lines}}
use Rattle.oc_macho_write.specs.declared.lines.Line.TheVariants as line
use Rattle.oc_macho_write.proofs.{LineLemmas.{line_listed, as_many_lines}, NumberLemmas.{can_give, length-numbered, upto_none, upto_more, upto_all}}
use Rattle.oc_macho_write.proofs.numbers.Numbers.of.Goals as goal

pub loop-at-init : goal.loop-at-init
loop-at-init c = λ w are. upto_none w c.args.neutral.now _ c.in_ok-numbers.ensures.sized c.in_ok-numbers.ensures.zero

pub give-requires : goal.give-requires
give-requires c =
    let w = c.requires.word in
    let n = c.args.neutral.now in
    let k = c.loop-at.at in
    let x = line_listed w n c.args.lines.now k _ c.requires.lines (slice_get-get_or c.args.lines.now k (line.Own 0) c.loop-at-test.true) in
    can_give w n c.loop-at.numbers _ (c.loop-at.invariant w c.requires.lines).sized k x.0 x.1 x.2

pub overflow_cast-at : goal.overflow_cast-at
overflow_cast-at c =
    let w = c.requires.word in
    let n = c.args.neutral.now in
    let many = as_many_lines w n c.args.lines.now c.requires.lines in
    let few = few_lines w n (for_mach w n c.requires.fitted) in
    omega (arith, c.loop-at-test.true, many, few)

pub loop-at-preserved : goal.loop-at-preserved
loop-at-preserved c = λ w are.
    let n = c.args.neutral.now in
    let k = c.loop-at.at in
    let before = c.loop-at.invariant w are in
    let x = line_listed w n c.args.lines.now k _ are (slice_get-get_or c.args.lines.now k (line.Own 0) c.loop-at-test.true) in
    upto_more w n k x.0 c.loop-at.numbers _ x.1 before (c.give.ensures.sized n before.sized) (c.give.ensures.owns n x.0 x.2) (c.give.ensures.outers n x.0 x.2)

pub returns : goal.returns
returns c = λ w are.
    let n = c.args.neutral.now in
    let k = c.loop-at.at in
    let many = as_many_lines w n c.args.lines.now are in
    let long = length-numbered w n in
    upto_all w n k c.loop-at.numbers (omega (arith, c.loop-at-test.false, many, long)) (c.loop-at.invariant w are)
