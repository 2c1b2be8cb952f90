-- One after another.
use Rattle.std.proofs.Common.{◌≡◌, ◌<◌, ◌≤◌, List, ◌++◌, length, None, Some, sym, ◌∙◌, ap, subst, arith}
use Rattle.oc_base.specs.Stops.{IsStop}
use Rattle.oc_omf_judge.specs.{declared.earlier.EarlierSymbols.{EarlierSymbols}, EarlierSymbols.{AreEarlierSymbols, external_behind, external_with, walked}}
use Rattle.oc_omf.specs.{Structures.{External, external_read}, Entries.{all_read, in_file}}
use Rattle.oc_omf.proofs.EachLemmas.{each_behind}
use Rattle.oc_omf_judge.proofs.{GoesLemmas.{external_goes}, WalkLemmas.{walk_begin, walk_cut, walk_end, walk_more, walk_stop}}
use Rattle.oc_omf_judge.proofs.externals.take_externals.Goals as goal

pub loop-at-init : goal.loop-at-init
loop-at-init c = λ all t names is.
    walk_begin (λ (ys : List External) (s : EarlierSymbols). AreEarlierSymbols (record t { externals = ys }) s) (external_behind all) c.args.spot.index c.args.spot.place (external_read c.args.local) c.args.contents.now t.externals 0 c.args.seen.now is

pub loop-at-smaller : goal.loop-at-smaller
loop-at-smaller c =
    let low : c.loop-at.at < length c.args.contents.now = omega arith in
    let p = external_goes c.args.local c.args.contents.now c.loop-at.at _ c.in-Ok.after (c.in-Ok.ensures c.args.local) in
    omega (arith, low, p.0, p.1)

pub loop-at-preserved : goal.loop-at-preserved
loop-at-preserved c = λ all t names is.
    let low : c.loop-at.at < length c.args.contents.now = omega arith in
    let w = c.loop-at.invariant all t names is in
    let y = external_with c.args.local c.in-Ok.name.now None in
    let taken = c.in-Ok-take_external.ensures.taken all (record t { externals = w.0 }) names w.1 in
    walk_more (λ (ys : List External) (s : EarlierSymbols). AreEarlierSymbols (record t { externals = ys }) s) (external_behind all) c.args.spot.index c.args.spot.place (external_read c.args.local) c.args.contents.now t.externals (external_goes c.args.local c.args.contents.now) 0 c.loop-at.at c.loop-at.seen w
    c.take_external.new.seen c.spot_in-here.result.index c.spot_in-here.result.place y c.in-Ok.after low (c.in-Ok.ensures c.args.local) c.spot_in-here.ensures.index c.spot_in-here.ensures.place taken.0 taken.1

pub returns-in-Err-take_external-clause-stop : goal.returns-in-Err-take_external-clause-stop
returns-in-Err-take_external-clause-stop c = λ all t names is.
    let b = c.args.contents.now in
    let low : c.loop-at.at < length b = omega arith in
    let w = c.loop-at.invariant all t names is in
    let y = external_with c.args.local c.in-Ok.name.now None in
    subst (λ rs. IsStop (walked (external_behind all) c.args.spot.index t.externals (in_file c.args.spot.place rs)) c.in-Err-take_external.stop) (sym (each_behind (external_read c.args.local) b 0 (external_goes c.args.local b)))
    (walk_stop (λ (ys : List External) (s : EarlierSymbols). AreEarlierSymbols (record t { externals = ys }) s) (external_behind all) c.args.spot.index c.args.spot.place (external_read c.args.local) b t.externals (external_goes c.args.local b) 0 c.loop-at.at c.loop-at.seen w
    c.spot_in-here.result.index c.spot_in-here.result.place y c.in-Ok.after c.in-Err-take_external.stop low (c.in-Ok.ensures c.args.local) c.spot_in-here.ensures.index c.spot_in-here.ensures.place
    (c.in-Err-take_external.ensures.stop all (record t { externals = w.0 }) names w.1))

pub returns-in-Err-clause-stop : goal.returns-in-Err-clause-stop
returns-in-Err-clause-stop c = λ all t names is.
    let b = c.args.contents.now in
    let low : c.loop-at.at < length b = omega arith in
    let w = c.loop-at.invariant all t names is in
    ap (λ rs. walked (external_behind all) c.args.spot.index t.externals (in_file c.args.spot.place rs)) (each_behind (external_read c.args.local) b 0 (external_goes c.args.local b))
    ∙ walk_cut (λ (ys : List External) (s : EarlierSymbols). AreEarlierSymbols (record t { externals = ys }) s) (external_behind all) c.args.spot.index c.args.spot.place (external_read c.args.local) b t.externals (external_goes c.args.local b) 0 c.loop-at.at c.loop-at.seen w
    c.spot_in-here.result.index c.spot_in-here.result.place c.in-Err.cut low (c.in-Err.ensures c.args.local) c.spot_in-here.ensures.index c.spot_in-here.ensures.place
    ∙ ap (λ f. Some f) (sym c.cut_fault.ensures)

pub returns-clause-taken : goal.returns-clause-taken
returns-clause-taken c = λ all t names is.
    let b = c.args.contents.now in
    let high : length b ≤ c.loop-at.at = omega arith in
    let w = c.loop-at.invariant all t names is in
    subst (λ rs. (walked (external_behind all) c.args.spot.index t.externals (in_file c.args.spot.place rs) ≡ None) × AreEarlierSymbols (record t { externals = t.externals ++ all_read (in_file c.args.spot.place rs) }) c.loop-at.seen)
    (sym (each_behind (external_read c.args.local) b 0 (external_goes c.args.local b)))
    (walk_end (λ (ys : List External) (s : EarlierSymbols). AreEarlierSymbols (record t { externals = ys }) s) (external_behind all) c.args.spot.index c.args.spot.place (external_read c.args.local) b t.externals (external_goes c.args.local b) 0 c.loop-at.at c.loop-at.seen w high)
