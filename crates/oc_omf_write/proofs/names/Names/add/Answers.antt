-- A text that has a place stays, and another is added behind the last.
use Rattle.std.proofs.Common.{◌≡◌, ◌∙◌, ap, None, Some, length, rules}
use Rattle.std.specs.{Prelude.{bytes_eq}, Map.{update}}
use Rattle.oc_omf_write.specs.Names.{value_at}
use Rattle.oc_omf_write.proofs.NameLemmas.{names_more}
use Rattle.oc_omf_write.proofs.names.Names.add.Goals as goal

pub returns : goal.returns
returns c = λ sections done of is are.
    let none : value_at c.args.self.now.places c.args.text.now ≡ None = search rules in
    let long : c.len.result ≡ length c.args.self.now.list.items = search rules in
    names_more sections done c.args.self.now _ c.args.name c.args.text.now none of is c.in_ok-push.ensures.items
    (λ other. c.in_ok-put_place.ensures other ∙ ap (λ m. update bytes_eq (value_at c.args.self.now.places) c.args.text.now (Some m) other) long) are
