use Rattle.std.proofs.Common.{◌∙◌, ◌+◌, ◌∷◌, ap, arith, length, length-drop, sym, take}
use Rattle.std.specs.List.{slice_split}
use Rattle.oc_place.specs.Written.{is_newline}
use Rattle.oc_place.proofs.SplitLemmas.{split_found, split_none, rest_again}
use Rattle.oc_place.proofs.reading.next_line.Goals as goal

pub returns-in-Some : goal.returns-in-Some
returns-in-Some c =
    let text = c.args.text.now in
    let end = c.in-Some.end in
    let rest = rest_again text (end + 1) in
    let high = c.in-Some.ensures.0.high in
    let same = ap length (sym rest) in
    let long = length-drop (end + 1) text in (
      split_found 10 text end c.in-Some.ensures.0 c.in-Some.ensures.1 ∙ ap (λ xs. take end text ∷ slice_split is_newline xs) rest,
      omega (arith, same, long, high),
    )

pub returns-in-None : goal.returns-in-None
returns-in-None c = split_none 10 c.args.text.now c.in-None.ensures
