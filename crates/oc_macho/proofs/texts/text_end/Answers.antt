-- A text ends at the last NUL, or before it.
use Rattle.std.proofs.Common.{arith}
use Rattle.std.proofs.lemmas.Bool.{eqb-true, eq-eqb}
use Rattle.oc_macho.proofs.NameLemmas.{texts_from, texts_none}
use Rattle.oc_macho.proofs.texts.text_end.Goals as goal

pub returns-in-Some : goal.returns-in-Some
returns-in-Some c =
    let high = c.in-Some.ensures.0.high in
    record {
      inside = omega (arith, high);
      some = λ at low. texts_from c.args.strings.now at c.in-Some.last (omega (arith, low)) high (eqb-true _ 0 c.in-Some.ensures.1);
      none = λ at past. texts_none c.args.strings.now at (λ k le less is. c.in-Some.ensures.0.after k (omega (arith, past, le)) less (eq-eqb _ 0 is));
    }

pub returns-in-None : goal.returns-in-None
returns-in-None c = record {
  inside = omega arith;
  some = λ at low. absurd (omega (arith, low));
  none = λ at past. texts_none c.args.strings.now at (λ k le less is. c.in-None.ensures k (omega arith) less (eq-eqb _ 0 is));
}
