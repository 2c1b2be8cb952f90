-- What is left is read from where the last mention ends.
use Rattle.std.proofs.Common.{◌<◌, ◌≤◌, ◌++◌, false, Some, length, map, sym, ◌∙◌, ap, arith, refl, append-nil}
use Rattle.oc_omf.specs.{Entries.{all_read}, Structures.{communal_read}}
use Rattle.oc_omf.proofs.EachLemmas.{each_begin, each_end, each_from, each_more}
use Rattle.oc_omf_read.specs.Declarations.{all_declarations, of_external}
use Rattle.oc_omf_read.proofs.DeclarationLemmas.{declarations_more}
use Rattle.oc_omf_read.proofs.declarations.declare_communals.Goals as goal
use Rattle.oc_omf_judge.proofs.GoesLemmas.{communal_goes}

pub loop-at-smaller-in-Ok : goal.loop-at-smaller-in-Ok
loop-at-smaller-in-Ok c =
    let low : c.loop-at.at < length c.args.contents.now = omega arith in
    let p = communal_goes c.args.contents.now c.loop-at.at _ c.in-Ok.after c.in-Ok.ensures in
    omega (arith, low, p.0, p.1)

pub loop-at-preserved-in-Ok : goal.loop-at-preserved-in-Ok
loop-at-preserved-in-Ok c =
    let b = c.args.contents.now in
    let low : c.loop-at.at < length b = omega arith in
    let more = each_more communal_read b (communal_goes b) c.loop-at.at low _ c.in-Ok.after c.in-Ok.ensures in
    declarations_more of_external c.loop-at.declarations.items c.push.new.self.items _ (record { local = false; name = c.in-Ok.name.now; communal = Some c.in-Ok.communal }) (all_read (each_from communal_read b c.in-Ok.after)) c.in_ok-push-in-Ok.ensures.items refl
    ∙ ap (λ xs. all_declarations c.loop-at.declarations.items ++ map of_external (all_read xs)) (sym more) ∙ c.loop-at.invariant

pub returns : goal.returns
returns c =
    let b = c.args.contents.now in
    let high : length b ≤ c.loop-at.at = omega arith in
    sym (append-nil (all_declarations c.loop-at.declarations.items)) ∙ ap (λ xs. all_declarations c.loop-at.declarations.items ++ map of_external (all_read xs)) (sym (each_end communal_read b c.loop-at.at high))
    ∙ c.loop-at.invariant ∙ ap (λ xs. all_declarations c.args.declarations.now.items ++ map of_external (all_read xs)) (sym (each_begin communal_read b))
