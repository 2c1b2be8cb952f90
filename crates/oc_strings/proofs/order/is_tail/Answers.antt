use Rattle.std.proofs.Common.{length, sym, ◌∙◌, arith}
use Rattle.std.proofs.lemmas.Bool.{false_from_ne_true, le-ltb}
use Rattle.oc_base.specs.Strings.{ends}
use Rattle.oc_strings.proofs.EndLemmas.{ends_shares}
use Rattle.oc_strings.proofs.order.is_tail.Goals as goal

pub returns-else-name_left-lt-WORD : goal.returns-else-name_left-lt-WORD
returns-else-name_left-lt-WORD c =
    let left = c.without_words.result.0.now in
    let text = c.without_words.result.1.now in
    let apart = false_from_ne_true (ends left text) (λ e. c.without_words.ensures.apart (ends_shares 8 left text e (omega (arith, c.if-name_left-lt-WORD.false)))) in
    le-ltb (length left) 8 c.if-name_left-lt-WORD.false ∙ sym apart ∙ c.without_words.ensures.tail
