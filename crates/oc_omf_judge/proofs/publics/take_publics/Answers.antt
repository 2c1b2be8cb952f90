-- One definition after another.
use Rattle.std.proofs.Common.{◌≡◌, ◌<◌, ◌≤◌, List, ◌++◌, length, None, Some, sym, ◌∙◌, ap, subst, arith}
use Rattle.oc_base.specs.Stops.{IsStop}
use Rattle.oc_omf_judge.specs.{declared.earlier.EarlierSymbols.{EarlierSymbols}, EarlierSymbols.{AreEarlierSymbols, public_behind, public_with, walked}}
use Rattle.oc_omf.specs.{Structures.{Public, public_read}, Entries.{all_read, in_file}}
use Rattle.oc_omf.proofs.EachLemmas.{each_behind}
use Rattle.oc_omf_judge.proofs.{GoesLemmas.{public_goes}, WalkLemmas.{walk_begin, walk_cut, walk_end, walk_more, walk_stop}}
use Rattle.oc_omf_judge.proofs.publics.take_publics.Goals as goal

pub loop-at-init : goal.loop-at-init
loop-at-init c = λ t is.
    walk_begin (λ (ps : List Public) (s : EarlierSymbols). AreEarlierSymbols (record t { publics = ps }) s) (public_behind t) c.args.spot.index c.args.spot.place (public_read c.args.wide c.args.local c.args.segment) c.args.contents.now
    t.publics c.args.at c.args.seen.now is

pub loop-at-smaller : goal.loop-at-smaller
loop-at-smaller c =
    let low : c.loop-at.at < length c.args.contents.now = omega arith in
    let p = public_goes c.args.wide c.args.local c.args.segment c.args.contents.now c.loop-at.at _ c.in-Ok.after (c.in-Ok.ensures c.args.local c.args.segment) in
    omega (arith, low, p.0, p.1)

pub loop-at-preserved : goal.loop-at-preserved
loop-at-preserved c = λ t is.
    let low : c.loop-at.at < length c.args.contents.now = omega arith in
    let w = c.loop-at.invariant t is in
    let p = public_with c.args.local c.args.segment c.in-Ok.public in
    let taken = c.in-Ok-take_public.ensures.taken (record t { publics = w.0 }) w.1 in
    walk_more (λ (ps : List Public) (s : EarlierSymbols). AreEarlierSymbols (record t { publics = ps }) s) (public_behind t) c.args.spot.index c.args.spot.place (public_read c.args.wide c.args.local c.args.segment) c.args.contents.now
    t.publics (public_goes c.args.wide c.args.local c.args.segment c.args.contents.now) c.args.at c.loop-at.at c.loop-at.seen w
    c.take_public.new.seen c.spot_in-here.result.index c.spot_in-here.result.place p c.in-Ok.after low (c.in-Ok.ensures c.args.local c.args.segment) c.spot_in-here.ensures.index c.spot_in-here.ensures.place taken.0 taken.1

pub returns-in-Err-take_public-clause-stop : goal.returns-in-Err-take_public-clause-stop
returns-in-Err-take_public-clause-stop c = λ t is.
    let b = c.args.contents.now in
    let low : c.loop-at.at < length b = omega arith in
    let w = c.loop-at.invariant t is in
    let p = public_with c.args.local c.args.segment c.in-Ok.public in
    let read = public_read c.args.wide c.args.local c.args.segment in
    subst (λ rs. IsStop (walked (public_behind t) c.args.spot.index t.publics (in_file c.args.spot.place rs)) c.in-Err-take_public.stop) (sym (each_behind read b c.args.at (public_goes c.args.wide c.args.local c.args.segment b)))
    (walk_stop (λ (ps : List Public) (s : EarlierSymbols). AreEarlierSymbols (record t { publics = ps }) s) (public_behind t) c.args.spot.index c.args.spot.place read b
    t.publics (public_goes c.args.wide c.args.local c.args.segment b) c.args.at c.loop-at.at c.loop-at.seen w
    c.spot_in-here.result.index c.spot_in-here.result.place p c.in-Ok.after c.in-Err-take_public.stop low (c.in-Ok.ensures c.args.local c.args.segment) c.spot_in-here.ensures.index c.spot_in-here.ensures.place
    (c.in-Err-take_public.ensures.stop (record t { publics = w.0 }) w.1))

pub returns-in-Err-clause-stop : goal.returns-in-Err-clause-stop
returns-in-Err-clause-stop c = λ t is.
    let b = c.args.contents.now in
    let low : c.loop-at.at < length b = omega arith in
    let w = c.loop-at.invariant t is in
    let read = public_read c.args.wide c.args.local c.args.segment in
    ap (λ rs. walked (public_behind t) c.args.spot.index t.publics (in_file c.args.spot.place rs)) (each_behind read b c.args.at (public_goes c.args.wide c.args.local c.args.segment b))
    ∙ walk_cut (λ (ps : List Public) (s : EarlierSymbols). AreEarlierSymbols (record t { publics = ps }) s) (public_behind t) c.args.spot.index c.args.spot.place read b
    t.publics (public_goes c.args.wide c.args.local c.args.segment b) c.args.at c.loop-at.at c.loop-at.seen w
    c.spot_in-here.result.index c.spot_in-here.result.place c.in-Err.cut low (c.in-Err.ensures c.args.local c.args.segment) c.spot_in-here.ensures.index c.spot_in-here.ensures.place
    ∙ ap (λ f. Some f) (sym c.cut_fault.ensures)

pub returns-clause-taken : goal.returns-clause-taken
returns-clause-taken c = λ t is.
    let b = c.args.contents.now in
    let high : length b ≤ c.loop-at.at = omega arith in
    let w = c.loop-at.invariant t is in
    let read = public_read c.args.wide c.args.local c.args.segment in
    subst (λ rs. (walked (public_behind t) c.args.spot.index t.publics (in_file c.args.spot.place rs) ≡ None) × AreEarlierSymbols (record t { publics = t.publics ++ all_read (in_file c.args.spot.place rs) }) c.loop-at.seen)
    (sym (each_behind read b c.args.at (public_goes c.args.wide c.args.local c.args.segment b)))
    (walk_end (λ (ps : List Public) (s : EarlierSymbols). AreEarlierSymbols (record t { publics = ps }) s) (public_behind t) c.args.spot.index c.args.spot.place read b
    t.publics (public_goes c.args.wide c.args.local c.args.segment b) c.args.at c.loop-at.at c.loop-at.seen w high)
