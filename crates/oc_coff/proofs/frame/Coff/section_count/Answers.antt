-- The headers are as many as the file header says.
use Rattle.oc_coff.specs.{Files.{CoffFile, tables_in}, declared.file_header.FileHeader.{FileHeader}}
use Rattle.std.proofs.Common.{length, sym, ◌∙◌, ap}
use Rattle.oc_coff.proofs.HeadLemmas.{length-sections}
use Rattle.oc_coff.proofs.frame.Coff.section_count.Goals as goal

pub returns : goal.returns
returns c =
    ap (λ (h : FileHeader). h.NumberOfSections) c.self.invariant.1.0 ∙ sym (length-sections (record { shape = c.self.inside.shape; bytes = c.self.inside.file.now }))
    ∙ ap (λ (f : CoffFile). length (tables_in f).sections) c.self.view_is
