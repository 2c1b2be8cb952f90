use Rattle.std.proofs.Common.{sym, ◌∙◌, arith}
use Rattle.std.proofs.lemmas.{Bool.Decides.{Decides-eqb}, List.{length-map}, Slice.Eq.{slice_eq-Decides}}
use Rattle.oc_strings.specs.Inside.{name_in}
use Rattle.oc_strings.proofs.SearchLemmas.{given_is}
use Rattle.oc_strings.proofs.search.is_given_at.Goals as goal

pub returns-in-Some : goal.returns-in-Some
returns-in-Some c =
    let there = c.in-Some.ensures.lookup.3 in
    let is = given_is c.args.head c.args.bytes.now c.args.given.now c.args.near there.0 c.in-Some.place.now there.1 in
    let says = slice_eq-Decides Decides-eqb _ _ c.eq.result c.eq.ensures in (
      λ same. (omega (arith, there.0, length-map c.args.given.now (name_in c.args.head c.args.bytes.now)), is ∙ sym c.name_at.ensures ∙ says.0 same),
      λ given. says.1 (c.name_at.ensures ∙ sym is ∙ given.1),
    )
