-- The last edge up to an address tells which section holds it.
use Rattle.std.proofs.Common.{◌≡◌, List, ◌∙◌, subst, rules}
use Rattle.std.specs.List.{All}
use Rattle.oc_macho_judge.specs.{declared.holders.Edge.{Edge}, Holders.{IsAbove, IsLastUpto}}
use Rattle.oc_macho_judge.proofs.HolderLemmas.{looked_up, none_up}
use Rattle.oc_macho_judge.proofs.holders.Holders.holder.Goals as goal

pub returns-in-Some : goal.returns-in-Some
returns-in-Some c t are =
    let edges : c.deref.result.now ≡ c.args.self.now = c.deref.ensures.value ∙ c.self.view_is in
    c.holder.ensures ∙ looked_up t c.args.v c.args.self.now c.in-Some.edge (search rules) are (subst (λ (es : List Edge). IsLastUpto c.args.v es c.in-Some.edge) edges c.in-Some.ensures.some)

pub returns-in-None : goal.returns-in-None
returns-in-None c t are =
    let edges : c.deref.result.now ≡ c.args.self.now = c.deref.ensures.value ∙ c.self.view_is in
    none_up t c.args.v c.args.self.now (search rules) are (subst (λ (es : List Edge). All (IsAbove c.args.v) es) edges c.in-None.ensures.none)
