-- One entry is added.
use Rattle.std.proofs.Common.{refl}
use Rattle.oc_coff_file.specs.Lines.{DefaultLine}
use Rattle.oc_coff_write.proofs.EntryLemmas.{one_row}
use Rattle.oc_coff_write.proofs.entries.add_default.Goals as goal

pub returns : goal.returns
returns c = λ w n k e.
    one_row w n (DefaultLine k c.args.symbol.now) c.args.entries.now.items c.push.new.self.items c.in_ok-default_entry.field-0 c.in_ok-push.ensures.items (c.in_ok-default_entry.ensures w n k e) refl
