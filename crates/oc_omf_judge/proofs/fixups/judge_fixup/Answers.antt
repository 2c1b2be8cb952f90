-- One condition after another, behind what is kept.
use Rattle.std.proofs.Common.{◌≡◌, ℕ, true, false, cond, nat_eq, Option, Some, None, sym, ◌∙◌, ap, subst, arith}
use Rattle.std.specs.{List.{list_any}, Option.{option_map}}
use Rattle.std.proofs.lemmas.Bool.Decides.{nat_tests}
use Rattle.oc_base.specs.{declared.code.Code.TheVariants.{Overlap}, Stops.{IsStop}}
use Rattle.oc_linking.specs.Numbers.{or_else}
use Rattle.oc_omf.specs.{declared.constants.TheConstants.{OFFSET_32}, declared.structures.Method.{Method}, Fixups.{fixed_in, fixed_of, meet}}
use Rattle.oc_omf_judge.specs.{Fixups.{AreFieldsStopped, AreFieldsTaken, names_fault}, Lying.{Lying, copies_in}, Reached.{last_in, relocation_fault}}
use Rattle.oc_omf_judge.specs.Threads.{method_by}
use Rattle.oc_omf_judge.proofs.ReachedLemmas.{fields_free, fixup_taken, kind_stops, names_judged, offset_stops, overlap_stops, reached_same, stopped_by}
use Rattle.oc_omf_judge.proofs.fixups.judge_fixup.Goals as goal

pub returns-then-fixup-ne-OFFSET_32-clause-stop : goal.returns-then-fixup-ne-OFFSET_32-clause-stop
returns-then-fixup-ne-OFFSET_32-clause-stop c = λ before earlier is judged.
    let x : ℕ × ℕ = (c.args.here.index, c.args.here.place) in
    let other : nat_eq c.args.fixup.location OFFSET_32 ≡ false = grind (arith, nat_tests, c.if-fixup-ne-OFFSET_32.true) in
    kind_stops c.args.whole.now before earlier c.args.reached.now is x c.args.fixup other ∙ ap (λ f. Some f) (sym c.relocation_fault.ensures)

pub returns-in-Err-NotContent-clause-stop : goal.returns-in-Err-NotContent-clause-stop
returns-in-Err-NotContent-clause-stop c = λ before earlier is judged.
    let x : ℕ × ℕ = (c.args.here.index, c.args.here.place) in
    let kind : nat_eq c.args.fixup.location OFFSET_32 ≡ true = grind (arith, nat_tests, c.if-fixup-ne-OFFSET_32.false) in
    let none : copies_in (last_in c.args.reached.now) c.args.fixup.offset ≡ None = rw c.in-Err-NotContent.field-0-is at c.in-Err-NotContent.ensures.refused in
    offset_stops c.args.whole.now before earlier c.args.reached.now is x c.args.fixup kind none ∙ ap (λ f. Some f) (sym c.relocation_fault-in-Err-NotContent.ensures)

pub returns-in-Some-clause-stop : goal.returns-in-Some-clause-stop
returns-in-Some-clause-stop c = λ before earlier is judged.
    let x : ℕ × ℕ = (c.args.here.index, c.args.here.place) in
    let w = c.args.whole.now in
    let f = c.args.fixup in
    let now = c.copies.new.self in
    let same = c.copies.ensures.stays in
    let held = reached_same w before earlier c.args.reached.now now is same in
    let kind : nat_eq f.location OFFSET_32 ≡ true = grind (arith, nat_tests, c.if-fixup-ne-OFFSET_32.false) in
    let ps = c.in-Ok.places.items in
    let some : copies_in (last_in now) f.offset ≡ Some ps = ap (λ o. copies_in o f.offset) same.last ∙ c.in-Ok.ensures.well in
    let told = sym (c.names_fault.ensures before held.counts_are
    ∙ ap (λ o. names_fault w before o x f c.method_of-target.result c.method_of-frame.result) c.segment-segment.ensures.segment
    ∙ ap (λ (o : Option Method). names_fault w before (option_map (λ (d : Lying). d.segment) (last_in now)) x f o c.method_of-frame.result) c.method_of-target.ensures
    ∙ ap (λ (o : Option Method). names_fault w before (option_map (λ (d : Lying). d.segment) (last_in now)) x f (method_by now.threads false f.target) o) c.method_of-frame.ensures) in
    names_judged w before earlier now held x f c.requires kind ps some
    ∙ ap (λ o. or_else o (cond (list_any (meet (fixed_of earlier before f)) (fixed_in earlier)) (Some (relocation_fault x Overlap)) None)) (told ∙ c.in-Some.is)

pub returns-in-Ok-take_fields-clause-taken : goal.returns-in-Ok-take_fields-clause-taken
returns-in-Ok-take_fields-clause-taken c = λ before earlier is judged.
    let x : ℕ × ℕ = (c.args.here.index, c.args.here.place) in
    let w = c.args.whole.now in
    let f = c.args.fixup in
    let now = c.copies.new.self in
    let same = c.copies.ensures.stays in
    let held = reached_same w before earlier c.args.reached.now now is same in
    let kind : nat_eq f.location OFFSET_32 ≡ true = grind (arith, nat_tests, c.if-fixup-ne-OFFSET_32.false) in
    let ps = c.in-Ok.places.items in
    let some : copies_in (last_in now) f.offset ≡ Some ps = ap (λ o. copies_in o f.offset) same.last ∙ c.in-Ok.ensures.well in
    let told = sym (c.names_fault.ensures before held.counts_are
    ∙ ap (λ o. names_fault w before o x f c.method_of-target.result c.method_of-frame.result) c.segment-segment.ensures.segment
    ∙ ap (λ (o : Option Method). names_fault w before (option_map (λ (d : Lying). d.segment) (last_in now)) x f o c.method_of-frame.result) c.method_of-target.ensures
    ∙ ap (λ (o : Option Method). names_fault w before (option_map (λ (d : Lying). d.segment) (last_in now)) x f (method_by now.threads false f.target) o) c.method_of-frame.ensures) in
    let taken : AreFieldsTaken now ps c.take_fields.new.reached = subst (λ xs. AreFieldsTaken now xs c.take_fields.new.reached) c.as_slice.ensures.value c.in-Ok-take_fields.ensures.taken in
    let free = fields_free w before earlier now held x f c.segment-segment.ensures.low ps some judged c.take_fields.new.reached taken in (
      names_judged w before earlier now held x f c.requires kind ps some
          ∙ ap (λ o. or_else o (cond (list_any (meet (fixed_of earlier before f)) (fixed_in earlier)) (Some (relocation_fault x Overlap)) None)) (told ∙ c.in-None.is)
          ∙ ap (λ b. cond b (Some (relocation_fault x Overlap)) None) free,
      fixup_taken w before earlier now held x f c.segment-segment.ensures.low ps some judged c.take_fields.new.reached taken,
    )

pub returns-clause-stop : goal.returns-clause-stop
returns-clause-stop c = λ before earlier is judged.
    let x : ℕ × ℕ = (c.args.here.index, c.args.here.place) in
    let w = c.args.whole.now in
    let f = c.args.fixup in
    let now = c.copies.new.self in
    let same = c.copies.ensures.stays in
    let held = reached_same w before earlier c.args.reached.now now is same in
    let kind : nat_eq f.location OFFSET_32 ≡ true = grind (arith, nat_tests, c.if-fixup-ne-OFFSET_32.false) in
    let ps = c.in-Ok.places.items in
    let some : copies_in (last_in now) f.offset ≡ Some ps = ap (λ o. copies_in o f.offset) same.last ∙ c.in-Ok.ensures.well in
    let told = sym (c.names_fault.ensures before held.counts_are
    ∙ ap (λ o. names_fault w before o x f c.method_of-target.result c.method_of-frame.result) c.segment-segment.ensures.segment
    ∙ ap (λ (o : Option Method). names_fault w before (option_map (λ (d : Lying). d.segment) (last_in now)) x f o c.method_of-frame.result) c.method_of-target.ensures
    ∙ ap (λ (o : Option Method). names_fault w before (option_map (λ (d : Lying). d.segment) (last_in now)) x f (method_by now.threads false f.target) o) c.method_of-frame.ensures) in
    let stopped : AreFieldsStopped now x ps c.in-Err.stop = subst (λ xs. AreFieldsStopped now x xs c.in-Err.stop) c.as_slice.ensures.value c.in-Err.ensures.stop in
    let clean = names_judged w before earlier now held x f c.requires kind ps some
    ∙ ap (λ o. or_else o (cond (list_any (meet (fixed_of earlier before f)) (fixed_in earlier)) (Some (relocation_fault x Overlap)) None)) (told ∙ c.in-None.is) in
    subst (λ o. IsStop o c.in-Err.stop) (sym clean)
    (stopped_by now x ps c.in-Err.stop (list_any (meet (fixed_of earlier before f)) (fixed_in earlier)) stopped (overlap_stops w before earlier now held x f c.segment-segment.ensures.low ps some))
