use Rattle.std.proofs.Common.{sym, ◌∙◌, arith}
use Rattle.std.proofs.lemmas.Bool.{eqb-true, eq-eqb}
use Rattle.oc_strings.proofs.KeyLemmas.{shares_from, shares_to}
use Rattle.oc_strings.proofs.order.shares_word.Goals as goal

pub returns-then-b-ge-WORD : goal.returns-then-b-ge-WORD
returns-then-b-ge-WORD c =
    let one = c.back_number.ensures in
    let other = c.back_number-then-b-ge-WORD.ensures in
    (λ same. shares_from c.args.a.now c.args.b.now one.bytes other.bytes (omega arith) (omega arith) (sym one.number ∙ eqb-true _ _ same ∙ other.number), λ shares. eq-eqb _ _ (one.number ∙ shares_to c.args.a.now c.args.b.now shares ∙ sym other.number))
