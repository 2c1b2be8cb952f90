-- One key more.
use Rattle.std.proofs.Common.{◌∙◌, ap}
use Rattle.oc_strings.specs.Repeats.{names_of}
use Rattle.oc_elf.specs.Groups.{comdat_key}
use Rattle.oc_elf_judge.proofs.SymbolLemmas.{copied, names_more}
use Rattle.oc_elf_judge.proofs.signatures.comdat_keys.Goals as goal

pub loop-g-preserved : goal.loop-g-preserved
loop-g-preserved c =
    ap names_of c.in_ok-push.ensures.items
    ∙ names_more c.loop-g.keys.items c.comdat_key.result (comdat_key c.args.frame.now) c.loop-g.g c.loop-g.invariant (copied c.comdat_key.result (comdat_key c.args.frame.now c.loop-g.g) c.comdat_key.ensures)
