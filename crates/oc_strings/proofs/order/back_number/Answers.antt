use Rattle.std.proofs.Common.{◌-◌, length, sym, ◌∙◌, ap, arith}
use Rattle.std.specs.Int.{w64, from_le_bytes}
use Rattle.oc_strings.proofs.KeyLemmas.{word_is}
use Rattle.oc_strings.proofs.order.back_number.Goals as goal

pub returns-in-Some-clause-number : goal.returns-in-Some-clause-number
returns-in-Some-clause-number c =
    let long = c.in-Some.ensures.cases.0 in
    c.from_le_bytes.ensures ∙ ap (from_le_bytes w64) c.in-Some.ensures.cases.1.same
    ∙ sym (word_is c.args.name.now (length c.args.name.now - 8) (omega (arith, long)))
