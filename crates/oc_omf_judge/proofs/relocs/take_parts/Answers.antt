-- One thread or fixup after another.
use Rattle.std.proofs.Common.{◌≡◌, ℕ, ◌+◌, ◌<◌, ◌≤◌, ◌∷◌, [], ◌++◌, length, Ok, None, Some, sym, ◌∙◌, ap, subst, arith}
use Rattle.oc_base.specs.{declared.code.Code.TheVariants.{BadTable}, Stops.{IsStop}}
use Rattle.oc_linking.specs.FirstFault.{first_broken}
use Rattle.oc_omf.specs.{declared.constants.TheConstants.{ENTRY_HEAD}, Entries.{in_file}, Structures.{subrecord_read}, RelocationFaults.{relocation_conditions}}
use Rattle.oc_omf.proofs.EachLemmas.{each_begin}
use Rattle.oc_omf_judge.specs.{Reached.{IsReached, judged_behind, placed_at, placed_in, relocation_fault}, Whole.{meaning}}
use Rattle.oc_omf_judge.proofs.{PartLemmas.{walk_begin, walk_cut, walk_end, walk_more, walk_stop}, SubrecordLemmas.{subrecord_goes, subrecord_numbered}}
use Rattle.oc_omf_judge.proofs.relocs.take_parts.Goals as goal

-- a number and a place
abbrev pair : ℕ → ℕ → ℕ × ℕ
pair i p = (i, p)

same_place : (i j p q : ℕ) → i ≡ j → p ≡ q → pair i p ≡ pair j q
same_place i j p q e f = ap (λ (k : ℕ). pair k p) e ∙ ap (pair j) f

pub loop-at-init : goal.loop-at-init
loop-at-init c = λ before earlier is. walk_begin c.args.whole.now c.args.spot.index c.args.spot.place c.args.wide c.args.contents.now before earlier c.args.reached.now is

pub take_part-requires-clause-number : goal.take_part-requires-clause-number
take_part-requires-clause-number c = subrecord_numbered c.args.wide c.args.contents.now c.loop-at.at c.in-Ok.after c.in-Ok.part (sym c.read_subrecord.ensures ∙ c.in-Ok.is)

pub loop-at-smaller : goal.loop-at-smaller
loop-at-smaller c =
    let low : c.loop-at.at < length c.args.contents.now = omega arith in
    let p = subrecord_goes c.args.wide c.args.contents.now c.loop-at.at c.in-Ok.part c.in-Ok.after (sym c.read_subrecord.ensures ∙ c.in-Ok.is) in
    omega (arith, low, p.0, p.1)

pub loop-at-preserved : goal.loop-at-preserved
loop-at-preserved c = λ before earlier is.
    let w = c.args.whole.now in
    let low : c.loop-at.at < length c.args.contents.now = omega arith in
    let walk = c.loop-at.invariant before earlier is in
    let place : ℕ × ℕ = (c.args.spot.index, c.args.spot.place + ENTRY_HEAD + c.loop-at.at) in
    let here : pair c.spot_in-here.result.index c.spot_in-here.result.place ≡ place
    = same_place c.spot_in-here.result.index c.args.spot.index c.spot_in-here.result.place (c.args.spot.place + ENTRY_HEAD + c.loop-at.at) c.spot_in-here.ensures.index c.spot_in-here.ensures.place in
    let taken = subst (λ (at : ℕ × ℕ). (first_broken (relocation_conditions (meaning w) w.keep walk.0 (placed_at before at (Ok c.in-Ok.part))) ≡ None) × IsReached w before (walk.0 ++ placed_at before at (Ok c.in-Ok.part) ∷ []) c.take_part.new.reached)
    here (c.in-Ok-take_part.ensures.taken before walk.0 walk.1) in
    walk_more w c.args.spot.index c.args.spot.place c.args.wide c.args.contents.now before earlier c.loop-at.at c.loop-at.reached walk
    c.take_part.new.reached c.in-Ok.part c.in-Ok.after low (sym c.read_subrecord.ensures ∙ c.in-Ok.is) taken.0 taken.1

pub returns-in-Err-take_part-clause-stop : goal.returns-in-Err-take_part-clause-stop
returns-in-Err-take_part-clause-stop c = λ before earlier is.
    let w = c.args.whole.now in
    let b = c.args.contents.now in
    let low : c.loop-at.at < length b = omega arith in
    let walk = c.loop-at.invariant before earlier is in
    let place : ℕ × ℕ = (c.args.spot.index, c.args.spot.place + ENTRY_HEAD + c.loop-at.at) in
    let here : pair c.spot_in-here.result.index c.spot_in-here.result.place ≡ place
    = same_place c.spot_in-here.result.index c.args.spot.index c.spot_in-here.result.place (c.args.spot.place + ENTRY_HEAD + c.loop-at.at) c.spot_in-here.ensures.index c.spot_in-here.ensures.place in
    subst (λ rs. IsStop (judged_behind w earlier (placed_in c.args.spot.index before (in_file c.args.spot.place rs))) c.in-Err-take_part.stop) (sym (each_begin (subrecord_read c.args.wide) b))
    (walk_stop w c.args.spot.index c.args.spot.place c.args.wide b before earlier c.loop-at.at c.loop-at.reached walk c.in-Ok.part c.in-Ok.after c.in-Err-take_part.stop low (sym c.read_subrecord.ensures ∙ c.in-Ok.is)
    (subst (λ (at : ℕ × ℕ). IsStop (first_broken (relocation_conditions (meaning w) w.keep walk.0 (placed_at before at (Ok c.in-Ok.part)))) c.in-Err-take_part.stop) here (c.in-Err-take_part.ensures.stop before walk.0 walk.1)))

pub returns-in-Err-clause-stop : goal.returns-in-Err-clause-stop
returns-in-Err-clause-stop c = λ before earlier is.
    let w = c.args.whole.now in
    let b = c.args.contents.now in
    let low : c.loop-at.at < length b = omega arith in
    let walk = c.loop-at.invariant before earlier is in
    let place : ℕ × ℕ = (c.args.spot.index, c.args.spot.place + ENTRY_HEAD + c.loop-at.at) in
    let here : pair c.spot_in-here.result.index c.spot_in-here.result.place ≡ place
    = same_place c.spot_in-here.result.index c.args.spot.index c.spot_in-here.result.place (c.args.spot.place + ENTRY_HEAD + c.loop-at.at) c.spot_in-here.ensures.index c.spot_in-here.ensures.place in
    ap (λ rs. judged_behind w earlier (placed_in c.args.spot.index before (in_file c.args.spot.place rs))) (each_begin (subrecord_read c.args.wide) b)
    ∙ walk_cut w c.args.spot.index c.args.spot.place c.args.wide b before earlier c.loop-at.at c.loop-at.reached walk c.in-Err.field-0 low (sym c.read_subrecord.ensures ∙ c.in-Err.is)
    ∙ ap (λ (at : ℕ × ℕ). Some (relocation_fault at BadTable)) (sym here) ∙ ap (λ f. Some f) (sym c.relocation_fault.ensures)

pub returns-clause-taken : goal.returns-clause-taken
returns-clause-taken c = λ before earlier is.
    let w = c.args.whole.now in
    let b = c.args.contents.now in
    let high : length b ≤ c.loop-at.at = omega arith in
    let walk = c.loop-at.invariant before earlier is in
    subst (λ rs. (judged_behind w earlier (placed_in c.args.spot.index before (in_file c.args.spot.place rs)) ≡ None) × IsReached w before (earlier ++ placed_in c.args.spot.index before (in_file c.args.spot.place rs)) c.loop-at.reached)
    (sym (each_begin (subrecord_read c.args.wide) b))
    (walk_end w c.args.spot.index c.args.spot.place c.args.wide b before earlier c.loop-at.at c.loop-at.reached walk high)
