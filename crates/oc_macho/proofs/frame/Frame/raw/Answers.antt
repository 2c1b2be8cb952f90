-- The bytes lie in the file.
use Rattle.std.proofs.Common.{◌≡◌, ◌<◌, length, sym, ◌∙◌, ap, arith}
use Rattle.oc_macho.specs.{Framed.{table_at}, Tables.{Tables}}
use Rattle.oc_macho.proofs.FrameLemmas.{length-sections, raw_is, size_is}
use Rattle.oc_macho.proofs.frame.Frame.raw.Goals as goal

pub bytes_at-requires : goal.bytes_at-requires
bytes_at-requires c =
    let size : length c.self.inside.file.now ≡ c.args.self.now.file_size = size_is c.self.inside.word c.self.inside.file.now ∙ ap (λ (t : Tables). t.file_size) c.self.view_is in
    let lies = c.requires.table.bytes_lie c.requires.stored in
    omega (arith, size, lies)

pub returns : goal.returns
returns c =
    let there = c.requires.table.there in
    let count = ap (λ (t : Tables). length t.sections) c.self.view_is in
    let long = length-sections c.self.invariant in
    let low : c.args.i < c.self.inside.nsects = omega (arith, there, count, long) in
    c.bytes_at.ensures
    ∙ raw_is c.self.invariant c.args.i c.args.h.now low (c.requires.table.is ∙ sym (ap (λ (t : Tables). (table_at t c.args.i).header) c.self.view_is)) c.requires.stored
    ∙ ap (λ (t : Tables). (table_at t c.args.i).raw) c.self.view_is
