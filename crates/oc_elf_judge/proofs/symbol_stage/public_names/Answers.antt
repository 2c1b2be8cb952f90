-- One name more.
use Rattle.std.proofs.Common.{◌∙◌, ap}
use Rattle.oc_strings.specs.Repeats.{names_of}
use Rattle.oc_elf.specs.SymbolRules.{public_name}
use Rattle.oc_elf_judge.proofs.SymbolLemmas.{copied, names_more}
use Rattle.oc_elf_judge.proofs.symbol_stage.public_names.Goals as goal

pub loop-k-preserved : goal.loop-k-preserved
loop-k-preserved c =
    ap names_of c.in_ok-push.ensures.items
    ∙ names_more c.loop-k.names.items c.public_name.result (public_name c.args.frame.now) c.loop-k.k c.loop-k.invariant (copied c.public_name.result (public_name c.args.frame.now c.loop-k.k) c.public_name.ensures)
