-- Where there is no first repeat, there is none.
use Rattle.std.proofs.Common.{◌<◌, ◌∙◌, length, sym, ap, arith, is_some}
use Rattle.std.proofs.lemmas.List.{length-map}
use Rattle.std.specs.Option.{option_copied}
use Rattle.oc_linking.proofs.FirstFaultLaws.{first_upto_none}
use Rattle.oc_strings.specs.Repeats.{names_of, repeat_at}
use Rattle.oc_elf_judge.proofs.stood.is_repeated.Goals as goal

pub returns-in-None-clause-again : goal.returns-in-None-clause-again
returns-in-None-clause-again c =
    let low : c.args.g < length (names_of c.args.keys.now) = omega (arith, c.requires.there, length-map c.args.keys.now option_copied) in
    sym (ap is_some (first_upto_none (repeat_at (names_of c.args.keys.now)) (length (names_of c.args.keys.now)) (sym c.requires.found ∙ c.in-None.is) c.args.g low))
