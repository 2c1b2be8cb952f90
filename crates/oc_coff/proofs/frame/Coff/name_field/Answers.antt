-- The name lies in the file.
use Rattle.std.proofs.Common.{ℕ, ◌+◌, ◌*◌, ◌<◌, ◌≤◌, length, take, drop, length-drop, sym, ◌∙◌, ap, subst, arith}
use Rattle.std.proofs.lemmas.List.{length-take-le}
use Rattle.oc_coff.specs.{Forms.{symbol_size}, Tables.{slot_at}, Files.{CoffFile, tables_in}}
use Rattle.oc_coff.proofs.HeadLemmas.{entry_lies, wide_entry, name_begins}
use Rattle.oc_coff.proofs.frame.Coff.name_field.Goals as goal

pub bytes_at-requires : goal.bytes_at-requires
bytes_at-requires c =
    let f : CoffFile = record { shape = c.self.inside.shape; bytes = c.self.inside.file.now } in
    let lies = entry_lies f c.self.invariant.0 c.args.j (subst (λ (g : CoffFile). c.args.j < length (tables_in g).entries) (sym c.self.view_is) c.requires) in
    let place = c.entry_place.ensures ∙ ap (λ (g : CoffFile). (tables_in g).entries_at + symbol_size g.shape * c.args.j) (sym c.self.view_is) in
    let wide = wide_entry c.self.inside.shape in
    omega (arith, lies, place, wide)

pub returns-clause-bytes : goal.returns-clause-bytes
unfolding slot_at
returns-clause-bytes c =
    let place = c.entry_place.ensures ∙ ap (λ (g : CoffFile). (tables_in g).entries_at + symbol_size g.shape * c.args.j) (sym c.self.view_is) in
    c.bytes_at.ensures ∙ ap (λ (n : ℕ). take 8 (drop n c.self.inside.file.now)) place
    ∙ sym (name_begins c.self.inside.shape c.self.inside.file.now ((tables_in (record { shape = c.self.inside.shape; bytes = c.self.inside.file.now })).entries_at + symbol_size c.self.inside.shape * c.args.j))
    ∙ ap (λ (g : CoffFile). (slot_at g.shape g.bytes ((tables_in g).entries_at + symbol_size g.shape * c.args.j)).symbol.Name) c.self.view_is

pub returns-clause-long : goal.returns-clause-long
returns-clause-long c =
    let file = c.self.inside.file.now in
    let f : CoffFile = record { shape = c.self.inside.shape; bytes = c.self.inside.file.now } in
    let lies = entry_lies f c.self.invariant.0 c.args.j (subst (λ (g : CoffFile). c.args.j < length (tables_in g).entries) (sym c.self.view_is) c.requires) in
    let place = c.entry_place.ensures ∙ ap (λ (g : CoffFile). (tables_in g).entries_at + symbol_size g.shape * c.args.j) (sym c.self.view_is) in
    let wide = wide_entry c.self.inside.shape in
    let room : 8 ≤ length (drop c.entry_place.result file) = omega (arith, lies, place, wide, length-drop c.entry_place.result file) in
    ap length c.bytes_at.ensures ∙ length-take-le 8 (drop c.entry_place.result file) room
