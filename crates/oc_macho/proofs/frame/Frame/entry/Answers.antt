-- The entry lies in the file.
use Rattle.std.proofs.Common.{◌≡◌, ℕ, ◌+◌, ◌*◌, ◌<◌, length, Some, sym, ◌∙◌, ap, arith}
use Rattle.std.specs.Prelude.{slice_get}
use Rattle.oc_macho.specs.{declared.relocation_info.RelocationInfo.{RelocationInfo}, Framed.{table_at}, RelocationInfo.{relocation_info_at}, Tables.{Tables}}
use Rattle.oc_macho.proofs.FrameLemmas.{length-sections, reloc_lies, reloc_there, size_is}
use Rattle.oc_macho.proofs.frame.Frame.entry.Goals as goal

pub relocation_info_at-requires : goal.relocation_info_at-requires
relocation_info_at-requires c =
    let size : length c.self.inside.file.now ≡ c.args.self.now.file_size = size_is c.self.inside.word c.self.inside.file.now ∙ ap (λ (t : Tables). t.file_size) c.self.view_is in
    let lies = c.requires.table.entries_lie in
    let inside = reloc_lies c.args.h.now.reloff c.args.h.now.nreloc c.args.k c.args.self.now.file_size c.requires.there lies in
    omega (arith, size, inside, c.from.ensures, c.from-2.ensures)

pub returns-clause-entry : goal.returns-clause-entry
returns-clause-entry c =
    let there = c.requires.table.there in
    let count = ap (λ (t : Tables). length t.sections) c.self.view_is in
    let long = length-sections c.self.invariant in
    let low : c.args.i < c.self.inside.nsects = omega (arith, there, count, long) in
    let place : c.args.h.now.reloff + 8 * c.args.k ≡ c.from.result + 8 * c.from-2.result = omega (arith, c.from.ensures, c.from-2.ensures) in
    sym (ap (λ (t : Tables). slice_get (table_at t c.args.i).relocs c.args.k) c.self.view_is)
    ∙ reloc_there c.self.invariant c.args.i c.args.k c.args.h.now low (c.requires.table.is ∙ sym (ap (λ (t : Tables). (table_at t c.args.i).header) c.self.view_is)) c.requires.there
    ∙ ap (λ (p : ℕ). Some (relocation_info_at c.self.inside.file.now p)) place ∙ ap (λ (e : RelocationInfo). Some e) (sym c.relocation_info_at.ensures.entry)
