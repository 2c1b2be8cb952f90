-- The symbol lies in the file.
use Rattle.std.proofs.Common.{◌≡◌, ◌+◌, ◌*◌, ◌<◌, length, Some, sym, ◌∙◌, ap, arith}
use Rattle.std.specs.Prelude.{slice_get}
use Rattle.oc_macho.specs.{declared.nlist.Nlist.{Nlist}, Nlist.{nlist_at, nlist_size}, Tables.{Tables}}
use Rattle.oc_macho.proofs.FrameLemmas.{length-symbols, size_is, symbol_at, symbol_there, word_is}
use Rattle.oc_macho.proofs.frame.Frame.symbol.Goals as goal

pub nlist_at-requires : goal.nlist_at-requires
nlist_at-requires c =
    let inside = c.symbol_place.ensures.inside in
    let word : nlist_size c.self.inside.word ≡ nlist_size c.args.self.now.word
    = ap nlist_size (word_is c.self.inside.word c.self.inside.file.now ∙ ap (λ (t : Tables). t.word) c.self.view_is) in
    let size : length c.self.inside.file.now ≡ c.args.self.now.file_size = size_is c.self.inside.word c.self.inside.file.now ∙ ap (λ (t : Tables). t.file_size) c.self.view_is in
    omega (arith, inside, word, size)

pub returns : goal.returns
returns c =
    let low = c.requires in
    let count = ap (λ (t : Tables). length t.symbols) c.self.view_is in
    let long = length-symbols c.self.invariant in
    let there : c.args.j < c.self.inside.nsyms = omega (arith, low, count, long) in
    sym (ap (λ (t : Tables). slice_get t.symbols c.args.j) c.self.view_is) ∙ symbol_there c.self.invariant c.args.j there
    ∙ ap (λ (s : Nlist). Some s)
    (sym (c.nlist_at.ensures
    ∙ ap (nlist_at c.self.inside.word c.self.inside.file.now)
    (c.symbol_place.ensures.place ∙ sym (ap (λ (t : Tables). t.symbols_at + nlist_size t.word * c.args.j) c.self.view_is) ∙ sym (symbol_at c.self.invariant c.args.j))))
