-- The entries are as many as were counted.
use Rattle.std.proofs.Common.{◌<◌, List, length, sym, ◌∙◌, ap, arith}
use Rattle.oc_shelf.proofs.ReadingLaws.RowLemmas.{length-rows}
use Rattle.oc_macho.specs.{declared.relocation_info.RelocationInfo.{RelocationInfo}, RelocationInfo.{relocation_info_at}, Framed.{table_at}, Tables.{Tables}}
use Rattle.oc_macho.proofs.FrameLemmas.{length-sections, relocs_are}
use Rattle.oc_macho.proofs.frame.Frame.has_entries.Goals as goal

pub returns : goal.returns
returns c =
    let there = c.requires.there in
    let count = ap (λ (t : Tables). length t.sections) c.self.view_is in
    let long = length-sections c.self.invariant in
    let low : c.args.i < c.self.inside.nsects = omega (arith, there, count, long) in
    sym (ap (λ (t : Tables). length (table_at t c.args.i).relocs) c.self.view_is)
    ∙ ap (λ (es : List RelocationInfo). length es)
    (relocs_are c.self.invariant c.args.i c.args.h.now low (c.requires.is ∙ sym (ap (λ (t : Tables). (table_at t c.args.i).header) c.self.view_is)))
    ∙ length-rows relocation_info_at 8 c.self.inside.file.now c.args.h.now.reloff c.args.h.now.nreloc
