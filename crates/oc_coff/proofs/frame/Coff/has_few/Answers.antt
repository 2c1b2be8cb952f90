-- The headers lie in the file.
use Rattle.std.proofs.Common.{◌<◌, ◌^◌, length, subst}
use Rattle.oc_coff.specs.Files.{CoffFile, tables_in}
use Rattle.oc_coff.proofs.HeadLemmas.{few_sections}
use Rattle.oc_coff.proofs.frame.Coff.has_few.Goals as goal

pub returns : goal.returns
returns c =
    let f : CoffFile = record { shape = c.self.inside.shape; bytes = c.self.inside.file.now } in
    subst (λ (g : CoffFile). length (tables_in g).sections < 2 ^ 21) c.self.view_is (few_sections f c.self.invariant.0)
