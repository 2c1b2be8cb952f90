-- The headers stand one behind another.
use Rattle.std.proofs.Common.{◌≡◌, ℕ, ◌+◌, ◌*◌, ◌<◌, length, ◌∙◌, ap, arith}
use Rattle.oc_macho.specs.{SectionHeader.{section_header_size}, Tables.{Tables}}
use Rattle.oc_macho.proofs.FrameLemmas.{header_at, header_lies, length-sections, size_is, word_is}
use Rattle.oc_macho.proofs.frame.Frame.header_place.Goals as goal

pub returns-clause-place : goal.returns-clause-place
returns-clause-place c =
    ap (λ (k : ℕ). c.self.inside.headers_at + k * c.from.result) c.section_header_size.ensures
    ∙ ap (λ (k : ℕ). c.self.inside.headers_at + section_header_size c.self.inside.word * k) c.from.ensures
    ∙ header_at c.self.invariant c.args.i ∙ ap (λ (t : Tables). t.headers_at + section_header_size t.word * c.args.i) c.self.view_is

pub returns-clause-inside : goal.returns-clause-inside
returns-clause-inside c =
    let low = c.requires in
    let count = ap (λ (t : Tables). length t.sections) c.self.view_is in
    let long = length-sections c.self.invariant in
    let there : c.args.i < c.self.inside.nsects = omega (arith, low, count, long) in
    let lies = header_lies c.self.invariant c.args.i there in
    let place : c.self.inside.headers_at + c.section_header_size.result * c.from.result ≡ c.self.inside.headers_at + section_header_size c.self.inside.word * c.args.i
    = ap (λ (k : ℕ). c.self.inside.headers_at + k * c.from.result) c.section_header_size.ensures
    ∙ ap (λ (k : ℕ). c.self.inside.headers_at + section_header_size c.self.inside.word * k) c.from.ensures in
    let word : section_header_size c.self.inside.word ≡ section_header_size c.args.self.now.word
    = ap section_header_size (word_is c.self.inside.word c.self.inside.file.now ∙ ap (λ (t : Tables). t.word) c.self.view_is) in
    let size : length c.self.inside.file.now ≡ c.args.self.now.file_size = size_is c.self.inside.word c.self.inside.file.now ∙ ap (λ (t : Tables). t.file_size) c.self.view_is in
    omega (arith, lies, place, word, size)
