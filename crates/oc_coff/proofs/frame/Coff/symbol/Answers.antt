-- The entry lies in the file.
use Rattle.std.proofs.Common.{◌+◌, ◌*◌, ◌<◌, length, sym, ◌∙◌, ap, subst, arith}
use Rattle.oc_coff.specs.{Forms.{symbol_size}, SymbolEntry.{symbol_at}, Tables.{slot_at}, Files.{CoffFile, tables_in}}
use Rattle.oc_coff.proofs.HeadLemmas.{entry_lies}
use Rattle.oc_coff.proofs.frame.Coff.symbol.Goals as goal

pub symbol_at-requires : goal.symbol_at-requires
symbol_at-requires c =
    let f : CoffFile = record { shape = c.self.inside.shape; bytes = c.self.inside.file.now } in
    let lies = entry_lies f c.self.invariant.0 c.args.j (subst (λ (g : CoffFile). c.args.j < length (tables_in g).entries) (sym c.self.view_is) c.requires) in
    let place = c.entry_place.ensures ∙ ap (λ (g : CoffFile). (tables_in g).entries_at + symbol_size g.shape * c.args.j) (sym c.self.view_is) in
    omega (arith, lies, place)

pub returns : goal.returns
unfolding slot_at
returns c =
    let place = c.entry_place.ensures ∙ ap (λ (g : CoffFile). (tables_in g).entries_at + symbol_size g.shape * c.args.j) (sym c.self.view_is) in
    c.symbol_at.ensures ∙ ap (symbol_at c.self.inside.shape c.self.inside.file.now) place
    ∙ ap (λ (g : CoffFile). symbol_at g.shape g.bytes ((tables_in g).entries_at + symbol_size g.shape * c.args.j)) c.self.view_is
