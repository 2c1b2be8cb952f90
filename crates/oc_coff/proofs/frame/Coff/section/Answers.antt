-- The header lies in the file.
use Rattle.std.proofs.Common.{ℕ, ◌+◌, ◌*◌, length, Some, sym, ◌∙◌, ap, arith}
use Rattle.oc_coff.specs.{declared.section_header.SectionHeader.{SectionHeader}, Forms.{header_size}, SectionHeader.{section_header_at}, Tables.{section_table}}
use Rattle.oc_coff.specs.Files.{CoffFile, tables_in}
use Rattle.oc_coff.proofs.HeadLemmas.{headed, length-sections, section_there}
use Rattle.oc_coff.proofs.frame.Coff.section.Goals as goal

pub section_header_at-requires : goal.section_header_at-requires
section_header_at-requires c =
    let f : CoffFile = record { shape = c.self.inside.shape; bytes = c.self.inside.file.now } in
    let lies = (headed f c.self.invariant.0).sections in
    let count = length-sections f in
    let same = ap (λ (g : CoffFile). length (tables_in g).sections) c.self.view_is in
    let low = c.requires in
    omega (arith, lies, count, same, low, c.header_size.ensures)

pub returns : goal.returns
returns c =
    section_there c.args.self.now c.args.i c.requires
    ∙ ap (λ (h : SectionHeader). Some (section_table c.args.self.now.bytes h))
    (sym (c.section_header_at.ensures ∙ ap (λ (n : ℕ). section_header_at c.self.inside.file.now (n + 40 * c.args.i)) c.header_size.ensures
    ∙ ap (λ (g : CoffFile). section_header_at g.bytes (header_size g.shape + 40 * c.args.i)) c.self.view_is))
