-- One entry is added.
use Rattle.std.proofs.Common.{refl, ◌∙◌}
use Rattle.oc_coff_file.specs.Lines.{LocalLine}
use Rattle.oc_coff_write.proofs.EntryLemmas.{local_entry, one_row}
use Rattle.oc_coff_write.proofs.entries.add_local.Goals as goal

pub returns : goal.returns
returns c = λ w n k e.
    let s = c.args.symbol.now in
    one_row w n (LocalLine k s) c.args.entries.now.items c.push.new.self.items c.symbol_entry.result c.in_ok-push.ensures.items (c.symbol_entry.ensures w n k e ∙ local_entry w n k s c.requires.local) refl
