-- The bytes lie in the file.
use Rattle.std.proofs.Common.{◌≡◌, ◌<◌, length, sym, ◌∙◌, ap, arith}
use Rattle.oc_macho.specs.{Framed.{table_at}, Tables.{Tables}}
use Rattle.oc_macho.proofs.FrameLemmas.{bytes_long, length-sections, size_is}
use Rattle.oc_macho.proofs.frame.Frame.has_bytes.Goals as goal

pub returns : goal.returns
returns c =
    let there = c.requires.table.there in
    let count = ap (λ (t : Tables). length t.sections) c.self.view_is in
    let long = length-sections c.self.invariant in
    let low : c.args.i < c.self.inside.nsects = omega (arith, there, count, long) in
    let size : length c.self.inside.file.now ≡ c.args.self.now.file_size = size_is c.self.inside.word c.self.inside.file.now ∙ ap (λ (t : Tables). t.file_size) c.self.view_is in
    let lies = c.requires.table.bytes_lie c.requires.stored in
    sym (ap (λ (t : Tables). length (table_at t c.args.i).raw) c.self.view_is)
    ∙ bytes_long c.self.invariant c.args.i c.args.h.now low (c.requires.table.is ∙ sym (ap (λ (t : Tables). (table_at t c.args.i).header) c.self.view_is)) c.requires.stored (omega (arith, size, lies))
