use Rattle.std.proofs.Common.{sym, ◌∙◌, ap}
use Rattle.oc_words.specs.Texts.{is_decimal}
use Rattle.oc_words.proofs.Counting.{no_count}
use Rattle.oc_words.proofs.count.count_of.Goals as goal

pub returns-in-Err : goal.returns-in-Err
returns-in-Err c =
    sym (no_count c.args.text.now c.parse.result _ c.parse.ensures.value.0 c.in-Err.is
    (ap is_decimal (sym c.as_bytes.ensures.value) ∙ sym c.is_decimal.ensures ∙ c.if-not-is_decimal.false))
