use Rattle.std.proofs.Common.{◌≡◌, Option, ℕ, ◌↔◌, IsSome, sym, ◌∙◌, ap, subst}
use Rattle.std.specs.List.{Contains}
use Rattle.oc_base.specs.Strings.{table_place}
use Rattle.oc_strings.specs.{Tables.{StringTable}, Inside.{names_in}}
use Rattle.oc_strings.proofs.TableLemmas.{given_iff, place_stands}
use Rattle.oc_strings.proofs.table.Table.offset.Goals as goal

pub returns-clause-given : goal.returns-clause-given
returns-clause-given c =
    let is : c.find.result ≡ table_place c.args.self.now.head c.args.self.now.names c.args.name.now
    = c.find.ensures ∙ ap (λ b. table_place c.self.inside.head (names_in c.self.inside.head b c.deref-2.result.now) c.args.name.now) c.deref.ensures.value
    ∙ ap (λ g. table_place c.self.inside.head (names_in c.self.inside.head c.self.inside.bytes.items g) c.args.name.now) c.deref-2.ensures.value
    ∙ ap (λ (t : StringTable). table_place t.head t.names c.args.name.now) c.self.view_is
    in
    subst (λ (o : Option ℕ). IsSome o ↔ Contains c.args.self.now.names c.args.name.now) (sym is) (given_iff c.args.self.now.head c.args.self.now.names c.args.name.now)

pub returns-clause-stands : goal.returns-clause-stands
returns-clause-stands c =
    place_stands c.args.self.now.head c.args.self.now.names c.args.name.now c.find.result
    (c.find.ensures ∙ ap (λ b. table_place c.self.inside.head (names_in c.self.inside.head b c.deref-2.result.now) c.args.name.now) c.deref.ensures.value
    ∙ ap (λ g. table_place c.self.inside.head (names_in c.self.inside.head c.self.inside.bytes.items g) c.args.name.now) c.deref-2.ensures.value
    ∙ ap (λ (t : StringTable). table_place t.head t.names c.args.name.now) c.self.view_is)
