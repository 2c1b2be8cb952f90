-- No field begins with the entry.
use Rattle.std.proofs.Common.{sym, ◌∙◌}
use Rattle.oc_macho.specs.Framed.{table_at}
use Rattle.oc_macho_judge.proofs.RelocLemmas.{idle_clean, taken_same}
use Rattle.oc_macho_judge.proofs.relocs.judge_entry.Goals as goal

pub returns-then-not-begins-clause-clean : goal.returns-then-not-begins-clause-clean
returns-then-not-begins-clause-clean c =
    (idle_clean c.args.frame.now c.args.i (table_at c.args.frame.now c.args.i) c.args.k (sym c.requires.begins ∙ c.if-not-begins.true)).0

pub returns-then-not-begins-clause-taken : goal.returns-then-not-begins-clause-taken
returns-then-not-begins-clause-taken c =
    taken_same c.args.frame.now (table_at c.args.frame.now c.args.i) c.args.k c.args.bytes.now c.requires.taken
    (idle_clean c.args.frame.now c.args.i (table_at c.args.frame.now c.args.i) c.args.k (sym c.requires.begins ∙ c.if-not-begins.true)).1
