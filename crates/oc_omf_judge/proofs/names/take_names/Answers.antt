use Rattle.std.proofs.Common.{◌<◌, ◌≤◌, ◌++◌, length, Some, sym, ◌∙◌, ap, arith, append-nil}
use Rattle.oc_linking.specs.FirstFault.{first_broken}
use Rattle.oc_omf.specs.{Cursor.{name_read}, Entries.{all_read}, Known.{names_of}, SectionFaults.{name_conditions}}
use Rattle.oc_omf.proofs.EachLemmas.{each_begin, each_cut, each_end, each_from, each_more, name_goes}
use Rattle.oc_omf_judge.proofs.NameLemmas.{names_more}
use Rattle.oc_omf_judge.proofs.names.take_names.Goals as goal

pub loop-at-smaller : goal.loop-at-smaller
loop-at-smaller c =
    let low : c.loop-at.at < length c.args.contents.now = omega arith in
    let p = name_goes c.args.contents.now c.loop-at.at c.in-Ok.name.now c.in-Ok.after c.in-Ok.ensures in
    omega (arith, low, p.0, p.1)

pub loop-at-preserved : goal.loop-at-preserved
loop-at-preserved c =
    let b = c.args.contents.now in
    let low : c.loop-at.at < length b = omega arith in
    let more = each_more name_read b (name_goes b) c.loop-at.at low c.in-Ok.name.now c.in-Ok.after c.in-Ok.ensures in
    record {
      taken = ap (λ items. names_of items ++ all_read (each_from name_read b c.in-Ok.after)) c.in_ok-push-in-Ok.ensures.items
          ∙ names_more c.loop-at.names.items c.in-Ok.name (all_read (each_from name_read b c.in-Ok.after))
          ∙ ap (λ xs. names_of c.loop-at.names.items ++ all_read xs) (sym more) ∙ c.loop-at.invariant.taken;
      clean = c.loop-at.invariant.clean ∙ ap (λ xs. first_broken (name_conditions (c.args.spot.index, c.args.spot.place) xs)) more;
    }

pub returns-in-Err-clause-stop : goal.returns-in-Err-clause-stop
returns-in-Err-clause-stop c =
    let b = c.args.contents.now in
    let low : c.loop-at.at < length b = omega arith in
    ap (λ xs. first_broken (name_conditions (c.args.spot.index, c.args.spot.place) xs)) (each_begin name_read b) ∙ c.loop-at.invariant.clean
    ∙ ap (λ xs. first_broken (name_conditions (c.args.spot.index, c.args.spot.place) xs)) (each_cut name_read b (name_goes b) c.loop-at.at low c.in-Err.field-0 c.in-Err.ensures)
    ∙ ap (λ f. Some f) (sym c.own_fault.ensures)

pub returns-clause-clean : goal.returns-clause-clean
returns-clause-clean c =
    let b = c.args.contents.now in
    let high : length b ≤ c.loop-at.at = omega arith in
    ap (λ xs. first_broken (name_conditions (c.args.spot.index, c.args.spot.place) xs)) (each_begin name_read b) ∙ c.loop-at.invariant.clean
    ∙ ap (λ xs. first_broken (name_conditions (c.args.spot.index, c.args.spot.place) xs)) (each_end name_read b c.loop-at.at high)

pub returns-clause-taken : goal.returns-clause-taken
returns-clause-taken c =
    let b = c.args.contents.now in
    let high : length b ≤ c.loop-at.at = omega arith in
    sym (append-nil (names_of c.loop-at.names.items)) ∙ ap (λ xs. names_of c.loop-at.names.items ++ all_read xs) (sym (each_end name_read b c.loop-at.at high))
    ∙ c.loop-at.invariant.taken ∙ ap (λ xs. names_of c.args.names.now.items ++ all_read xs) (sym (each_begin name_read b))
