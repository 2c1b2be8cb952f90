-- A key stands again where it stood before.
use Rattle.std.proofs.Common.{sym, ◌∙◌}
use Rattle.oc_strings.specs.Repeats.{names_of}
use Rattle.oc_elf_judge.proofs.StoodLemmas.{repeats_none, repeats_where, stood_more, stood_none}
use Rattle.oc_elf_judge.proofs.stood.stands_again.Goals as goal

pub returns-in_ok-again-in-Some-clause-again : goal.returns-in_ok-again-in-Some-clause-again
returns-in_ok-again-in-Some-clause-again c = c.in_ok-again-in-Some.ensures.again ∙ c.requires.before c.in-Some.key.now ∙ sym (repeats_where (names_of c.args.keys.now) c.args.g c.in-Some.key.now c.in-Some.ensures)

pub returns-in_ok-again-in-Some-clause-taken : goal.returns-in_ok-again-in-Some-clause-taken
returns-in_ok-again-in-Some-clause-taken c =
    stood_more (names_of c.args.keys.now) c.args.g c.args.g c.in-Some.key.now c.args.stood.now c.take_up.new.stood c.requires.before c.in-Some.ensures c.in_ok-again-in-Some.ensures.taken

pub returns-in-None-clause-again : goal.returns-in-None-clause-again
returns-in-None-clause-again c = sym (repeats_none (names_of c.args.keys.now) c.args.g c.in-None.ensures)

pub returns-in-None-clause-taken : goal.returns-in-None-clause-taken
returns-in-None-clause-taken c = stood_none (names_of c.args.keys.now) c.args.g c.args.stood.now c.requires.before c.in-None.ensures
