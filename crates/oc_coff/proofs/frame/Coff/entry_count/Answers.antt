-- The entries are as many as the file header says.
use Rattle.oc_coff.specs.{Files.{CoffFile, tables_in}, declared.file_header.FileHeader.{FileHeader}}
use Rattle.std.proofs.Common.{length, sym, ◌∙◌, ap}
use Rattle.oc_coff.proofs.HeadLemmas.{length-entries}
use Rattle.oc_coff.proofs.frame.Coff.entry_count.Goals as goal

pub returns : goal.returns
returns c =
    ap (λ (h : FileHeader). h.NumberOfSymbols) c.self.invariant.1.0 ∙ sym (length-entries (record { shape = c.self.inside.shape; bytes = c.self.inside.file.now }) c.self.invariant.0)
    ∙ ap (λ (f : CoffFile). length (tables_in f).entries) c.self.view_is
