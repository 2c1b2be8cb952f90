-- The entries begin where the file header says.
use Rattle.oc_coff.specs.{Files.{CoffFile, tables_in}, Forms.{symbol_size}, declared.file_header.FileHeader.{FileHeader}}
use Rattle.std.proofs.Common.{◌+◌, ◌*◌, ◌∙◌, ap, arith}
use Rattle.oc_coff.proofs.HeadLemmas.{entries_begin}
use Rattle.oc_coff.proofs.frame.Coff.entry_place.Goals as goal

pub returns : goal.returns
returns c =
    let begin = entries_begin (record { shape = c.self.inside.shape; bytes = c.self.inside.file.now }) in
    let said = ap (λ (h : FileHeader). h.PointerToSymbolTable) c.self.invariant.1.0 in
    let same = ap (λ (f : CoffFile). (tables_in f).entries_at + symbol_size f.shape * c.args.j) c.self.view_is in
    let size = c.entries_size.ensures.size in
    omega (arith, begin, said, c.from.ensures, size) ∙ same
