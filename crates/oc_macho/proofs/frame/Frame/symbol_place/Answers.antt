-- The symbols stand one behind another.
use Rattle.std.proofs.Common.{◌≡◌, ℕ, ◌+◌, ◌*◌, ◌<◌, length, ◌∙◌, ap, arith}
use Rattle.oc_macho.specs.{Nlist.{nlist_size}, Tables.{Tables}}
use Rattle.oc_macho.proofs.FrameLemmas.{length-symbols, size_is, symbol_at, symbol_lies, word_is}
use Rattle.oc_macho.proofs.frame.Frame.symbol_place.Goals as goal

pub returns-clause-place : goal.returns-clause-place
returns-clause-place c =
    ap (λ (p : ℕ). p + c.nlist_size.result * c.from-2.result) c.from.ensures
    ∙ ap (λ (k : ℕ). c.self.inside.symoff + k * c.from-2.result) c.nlist_size.ensures
    ∙ ap (λ (k : ℕ). c.self.inside.symoff + nlist_size c.self.inside.word * k) c.from-2.ensures
    ∙ symbol_at c.self.invariant c.args.j ∙ ap (λ (t : Tables). t.symbols_at + nlist_size t.word * c.args.j) c.self.view_is

pub returns-clause-inside : goal.returns-clause-inside
returns-clause-inside c =
    let low = c.requires in
    let count = ap (λ (t : Tables). length t.symbols) c.self.view_is in
    let long = length-symbols c.self.invariant in
    let there : c.args.j < c.self.inside.nsyms = omega (arith, low, count, long) in
    let lies = symbol_lies c.self.invariant c.args.j there in
    let place : c.from.result + c.nlist_size.result * c.from-2.result ≡ c.self.inside.symoff + nlist_size c.self.inside.word * c.args.j
    = ap (λ (p : ℕ). p + c.nlist_size.result * c.from-2.result) c.from.ensures
    ∙ ap (λ (k : ℕ). c.self.inside.symoff + k * c.from-2.result) c.nlist_size.ensures
    ∙ ap (λ (k : ℕ). c.self.inside.symoff + nlist_size c.self.inside.word * k) c.from-2.ensures in
    let word : nlist_size c.self.inside.word ≡ nlist_size c.args.self.now.word
    = ap nlist_size (word_is c.self.inside.word c.self.inside.file.now ∙ ap (λ (t : Tables). t.word) c.self.view_is) in
    let size : length c.self.inside.file.now ≡ c.args.self.now.file_size = size_is c.self.inside.word c.self.inside.file.now ∙ ap (λ (t : Tables). t.file_size) c.self.view_is in
    omega (arith, lies, place, word, size)
