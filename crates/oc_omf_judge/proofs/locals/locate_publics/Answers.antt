-- One definition after another.
use Rattle.std.proofs.Common.{ℕ, ◌<◌, ◌≤◌, Bool, List, [], ◌++◌, length, refl, sym, subst, arith}
use Rattle.oc_omf.specs.{Structures.{Public, public_read}, Entries.{all_read, in_file}}
use Rattle.oc_omf_judge.specs.{NameNumbers.{NameNumbers}, EarlierSymbols.{public_with}, Locals.{AreLocals}}
use Rattle.oc_omf.proofs.EachLemmas.{each_behind, each_from}
use Rattle.oc_omf_judge.proofs.{GoesLemmas.{public_goes}, StageLaws.{read_in_file}, WalkLemmas.{walk_begin, walk_end, walk_more, walk_over}}
use Rattle.oc_omf_judge.proofs.locals.locate_publics.Goals as goal

pub loop-at-init : goal.loop-at-init
loop-at-init c = λ publics are.
    walk_begin (λ (ps : List Public) (h : NameNumbers). AreLocals ps h) (λ ps x p. []) 0 0 (public_read c.args.wide c.args.local c.args.segment) c.args.contents.now publics c.args.at c.args.locals.now are

pub loop-at-smaller : goal.loop-at-smaller
loop-at-smaller c =
    let low : c.loop-at.at < length c.args.contents.now = omega arith in
    let p = public_goes c.args.wide c.args.local c.args.segment c.args.contents.now c.loop-at.at _ c.in-Ok.after (c.in-Ok.ensures c.args.local c.args.segment) in
    omega (arith, low, p.0, p.1)

pub loop-at-preserved : goal.loop-at-preserved
loop-at-preserved c = λ publics are.
    let low : c.loop-at.at < length c.args.contents.now = omega arith in
    let w = c.loop-at.invariant publics are in
    let p = public_with c.args.local c.args.segment c.in-Ok.public in
    walk_more (λ (ps : List Public) (h : NameNumbers). AreLocals ps h) (λ ps x p. []) 0 0 (public_read c.args.wide c.args.local c.args.segment) c.args.contents.now publics
    (public_goes c.args.wide c.args.local c.args.segment c.args.contents.now) c.args.at c.loop-at.at c.loop-at.locals w
    c.locate.new.locals 0 _ p c.in-Ok.after low (c.in-Ok.ensures c.args.local c.args.segment) refl refl refl (c.in_ok-locate-in-Ok.ensures w.0 p w.1 refl refl refl)

-- the names from a place on, without their places
same : (wide local : Bool) (segment : ℕ) (b : List ℕ) (at : ℕ) (publics : List Public) (h : NameNumbers) → AreLocals (publics ++ all_read (in_file 0 (each_from (public_read wide local segment) b at))) h
    → AreLocals (publics ++ all_read (each_from (public_read wide local segment) b at)) h
same wide local segment b at publics h are = subst (λ xs. AreLocals (publics ++ xs) h) (read_in_file 0 (each_from (public_read wide local segment) b at)) are

pub returns-in-Err : goal.returns-in-Err
returns-in-Err c = λ publics are.
    let b = c.args.contents.now in
    let low : c.loop-at.at < length b = omega arith in
    let w = c.loop-at.invariant publics are in
    let read = public_read c.args.wide c.args.local c.args.segment in
    subst (λ rs. AreLocals (publics ++ all_read rs) c.loop-at.locals) (sym (each_behind read b c.args.at (public_goes c.args.wide c.args.local c.args.segment b)))
    (same c.args.wide c.args.local c.args.segment b c.args.at publics c.loop-at.locals
    (walk_over (λ (ps : List Public) (h : NameNumbers). AreLocals ps h) (λ ps x p. []) 0 0 read b publics (public_goes c.args.wide c.args.local c.args.segment b) c.args.at c.loop-at.at c.loop-at.locals w
    c.in-Err.field-0 low (c.in-Err.ensures c.args.local c.args.segment)))

pub returns : goal.returns
returns c = λ publics are.
    let b = c.args.contents.now in
    let high : length b ≤ c.loop-at.at = omega arith in
    let w = c.loop-at.invariant publics are in
    let read = public_read c.args.wide c.args.local c.args.segment in
    subst (λ rs. AreLocals (publics ++ all_read rs) c.loop-at.locals) (sym (each_behind read b c.args.at (public_goes c.args.wide c.args.local c.args.segment b)))
    (same c.args.wide c.args.local c.args.segment b c.args.at publics c.loop-at.locals
    (walk_end (λ (ps : List Public) (h : NameNumbers). AreLocals ps h) (λ ps x p. []) 0 0 read b publics (public_goes c.args.wide c.args.local c.args.segment b) c.args.at c.loop-at.at c.loop-at.locals w high).1)
