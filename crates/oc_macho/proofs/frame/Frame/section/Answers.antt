-- The header lies in the file.
use Rattle.std.proofs.Common.{◌≡◌, ◌+◌, ◌*◌, ◌<◌, length, sym, ◌∙◌, ap, arith}
use Rattle.oc_macho.specs.{Framed.{table_at}, SectionHeader.{section_header_at, section_header_size}, Tables.{Tables}}
use Rattle.oc_macho.proofs.FrameLemmas.{header_at, header_is, length-sections, size_is, word_is}
use Rattle.oc_macho.proofs.frame.Frame.section.Goals as goal

pub section_header_at-requires : goal.section_header_at-requires
section_header_at-requires c =
    let inside = c.header_place.ensures.inside in
    let word : section_header_size c.self.inside.word ≡ section_header_size c.args.self.now.word
    = ap section_header_size (word_is c.self.inside.word c.self.inside.file.now ∙ ap (λ (t : Tables). t.word) c.self.view_is) in
    let size : length c.self.inside.file.now ≡ c.args.self.now.file_size = size_is c.self.inside.word c.self.inside.file.now ∙ ap (λ (t : Tables). t.file_size) c.self.view_is in
    omega (arith, inside, word, size)

pub returns : goal.returns
returns c =
    let low = c.requires in
    let count = ap (λ (t : Tables). length t.sections) c.self.view_is in
    let long = length-sections c.self.invariant in
    let there : c.args.i < c.self.inside.nsects = omega (arith, low, count, long) in
    c.section_header_at.ensures
    ∙ ap (section_header_at c.self.inside.word c.self.inside.file.now)
    (c.header_place.ensures.place ∙ sym (ap (λ (t : Tables). t.headers_at + section_header_size t.word * c.args.i) c.self.view_is) ∙ sym (header_at c.self.invariant c.args.i))
    ∙ header_is c.self.invariant c.args.i there ∙ ap (λ (t : Tables). (table_at t c.args.i).header) c.self.view_is
