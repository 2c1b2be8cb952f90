-- What is left is read from where the last mention ends.
use Rattle.std.proofs.Common.{◌<◌, ◌≤◌, ◌++◌, length, map, sym, ◌∙◌, ap, arith, refl, append-nil}
use Rattle.oc_omf.specs.{Entries.{all_read}, Structures.{public_read}}
use Rattle.oc_omf.proofs.EachLemmas.{each_behind, each_end, each_from, each_more}
use Rattle.oc_omf_read.specs.Declarations.{all_declarations, of_public}
use Rattle.oc_omf_read.proofs.DeclarationLemmas.{declarations_more}
use Rattle.oc_omf_read.proofs.declarations.declare_publics_at.Goals as goal
use Rattle.oc_omf_judge.proofs.GoesLemmas.{public_goes}

pub loop-at-smaller-in-Ok : goal.loop-at-smaller-in-Ok
loop-at-smaller-in-Ok c =
    let low : c.loop-at.at < length c.args.contents.now = omega arith in
    let p = public_goes c.args.wide c.args.local c.args.segment c.args.contents.now c.loop-at.at _ c.in-Ok.after (c.in-Ok.ensures c.args.local c.args.segment) in
    omega (arith, low, p.0, p.1)

pub loop-at-preserved-in-Ok : goal.loop-at-preserved-in-Ok
loop-at-preserved-in-Ok c =
    let b = c.args.contents.now in
    let low : c.loop-at.at < length b = omega arith in
    let more = each_more (public_read c.args.wide c.args.local c.args.segment) b (public_goes c.args.wide c.args.local c.args.segment b) c.loop-at.at low _ c.in-Ok.after (c.in-Ok.ensures c.args.local c.args.segment) in
    declarations_more of_public c.loop-at.declarations.items c.push.new.self.items _ _ (all_read (each_from (public_read c.args.wide c.args.local c.args.segment) b c.in-Ok.after)) c.in_ok-push-in-Ok.ensures.items refl
    ∙ ap (λ xs. all_declarations c.loop-at.declarations.items ++ map of_public (all_read xs)) (sym more) ∙ c.loop-at.invariant

pub returns : goal.returns
returns c =
    let b = c.args.contents.now in
    let high : length b ≤ c.loop-at.at = omega arith in
    sym (append-nil (all_declarations c.loop-at.declarations.items)) ∙ ap (λ xs. all_declarations c.loop-at.declarations.items ++ map of_public (all_read xs)) (sym (each_end (public_read c.args.wide c.args.local c.args.segment) b c.loop-at.at high))
    ∙ c.loop-at.invariant ∙ ap (λ xs. all_declarations c.args.declarations.now.items ++ map of_public (all_read xs)) (sym (each_behind (public_read c.args.wide c.args.local c.args.segment) b c.args.start (public_goes c.args.wide c.args.local c.args.segment b)))
