-- An entry that says something is judged by its own conditions, and then by the fields before.
use Rattle.std.proofs.Common.{◌≡◌, ℕ, ◌+◌, ◌<◌, ◌∙◌, Bool, false, cond, List, None, Some, sym, ap, arith}
use Rattle.std.specs.Option.{option_map_or}
use Rattle.oc_base.specs.declared.code.Code.TheVariants.{Overlap}
use Rattle.oc_linking.specs.FirstFault.{first_broken}
use Rattle.oc_shelf.specs.{Reading.Firsts.{any_upto}, Reading.Spans.{meets}}
use Rattle.oc_shelf.proofs.ReadingLaws.BitmapLemmas.{met_in_upto}
use Rattle.oc_elf.specs.{declared.rel.Rel.{Rel}, Fields.{is_idle, width_of}, Frames.{FileFrame}}
use Rattle.oc_elf.specs.{RelocRules.{bytes_for, meets_upto, own_conditions, reloc_fault, span_of}, Tables.{reloc_of, reloc_place}}
use Rattle.oc_elf_judge.proofs.RelocLemmas.{IsGood, field_in_room, field_inside, good_entry, idle_clean, met_fault, own_stops, taken_more, taken_same, wide_field}
use Rattle.oc_elf_judge.proofs.relocs.judge_entry.Goals as goal

pub returns-then-is_idle-clause-clean : goal.returns-then-is_idle-clause-clean
returns-then-is_idle-clause-clean c = idle_clean c.args.frame.now c.args.i c.args.k (ap is_idle (sym c.reloc_of-r.ensures) ∙ sym c.is_idle.ensures ∙ c.if-is_idle.true)

pub returns-then-is_idle-clause-taken : goal.returns-then-is_idle-clause-taken
returns-then-is_idle-clause-taken c =
    taken_same c.args.frame.now c.args.i c.args.k c.args.bytes.now c.requires.taken
    (ap (λ b. cond b None (Some (bytes_for c.args.frame.now (reloc_of c.args.frame.now c.args.i c.args.k)))) (ap is_idle (sym c.reloc_of-r.ensures) ∙ sym c.is_idle.ensures ∙ c.if-is_idle.true))

pub returns-in-Err-clause-stop : goal.returns-in-Err-clause-stop
returns-in-Err-clause-stop c =
    own_stops c.args.frame.now c.args.i c.args.k c.in-Err.fault (ap is_idle (sym c.reloc_of-r.ensures) ∙ sym c.is_idle.ensures ∙ c.if-is_idle.false)
    (ap (λ (r : Rel). first_broken (own_conditions c.args.frame.now c.args.i (reloc_place c.args.frame.now c.args.i c.args.k) r)) (sym c.reloc_of-r.ensures)
    ∙ ap (λ (p : ℕ). first_broken (own_conditions c.args.frame.now c.args.i p c.reloc_of-r.result)) (sym c.reloc_place-place.ensures) ∙ c.in-Err.ensures.fault)

pub overflow_add-end : goal.overflow_add-end
overflow_add-end c =
    let f = c.args.frame.now in
    let good : IsGood f c.args.i c.reloc_of-r.result = good_entry f c.args.i c.reloc_place-place.result c.reloc_of-r.result c.in-Ok.ensures.clean in
    let inside = field_inside f c.args.i c.reloc_of-r.result good in
    let width : c.in-Ok.width ≡ width_of f c.reloc_of-r.result = c.in-Ok.ensures.width in
    omega (arith, inside, width, c.requires.small)

pub take-requires : goal.take-requires
take-requires c =
    let f = c.args.frame.now in
    let good : IsGood f c.args.i c.reloc_of-r.result = good_entry f c.args.i c.reloc_place-place.result c.reloc_of-r.result c.in-Ok.ensures.clean in
    let inside = field_in_room f c.args.i c.args.k c.args.bytes.now c.reloc_of-r.result c.requires.taken good in
    let width : c.in-Ok.width ≡ width_of f c.reloc_of-r.result = c.in-Ok.ensures.width in
    omega (arith, inside, width)

-- whether a field is met is whether it meets one of the entries before
met : (f : FileFrame) (i k end : ℕ) (r : Rel) (b : Bool) (words : List ℕ) → r ≡ reloc_of f i k → end ≡ r.r_offset + width_of f r
    → b ≡ any_upto (λ j. option_map_or (meets (r.r_offset, end)) (span_of f i j) false) k → b ≡ meets_upto f i k (reloc_of f i k)
met f i k end r b words is ends e =
    e ∙ ap (λ (x : ℕ). any_upto (λ j. option_map_or (meets (r.r_offset, x)) (span_of f i j) false) k) ends ∙ ap (meets_upto f i k) is

pub returns-then-is_met-clause-stop : goal.returns-then-is_met-clause-stop
returns-then-is_met-clause-stop c =
    let f = c.args.frame.now in
    let r = c.reloc_of-r.result in
    let end : ℕ = r.r_offset + c.in-Ok.width in
    let good : IsGood f c.args.i r = good_entry f c.args.i c.reloc_place-place.result r c.in-Ok.ensures.clean in
    let some = wide_field f c.args.i r good in
    let width : c.in-Ok.width ≡ width_of f r = c.in-Ok.ensures.width in
    let wide : r.r_offset < end = omega (arith, some, width) in
    let upto : c.is_met.result ≡ meets_upto f c.args.i c.args.k (reloc_of f c.args.i c.args.k)
    = met f c.args.i c.args.k end r c.is_met.result c.args.bytes.now c.reloc_of-r.ensures (ap (λ (n : ℕ). r.r_offset + n) (c.in-Ok.ensures.width))
    (met_in_upto (span_of f c.args.i) c.args.k r.r_offset end c.args.bytes.now c.is_met.result c.requires.taken.fields wide c.is_met.ensures.met c.is_met.ensures.free) in
    met_fault f c.args.i c.args.k (ap is_idle (sym c.reloc_of-r.ensures) ∙ sym c.is_idle.ensures ∙ c.if-is_idle.false)
    (ap (λ (q : Rel). first_broken (own_conditions f c.args.i (reloc_place f c.args.i c.args.k) q)) (sym c.reloc_of-r.ensures)
    ∙ ap (λ (p : ℕ). first_broken (own_conditions f c.args.i p r)) (sym c.reloc_place-place.ensures) ∙ c.in-Ok.ensures.clean)
    ∙ ap (λ b. cond b (Some (reloc_fault Overlap c.args.i (reloc_place f c.args.i c.args.k))) None) (sym upto ∙ c.if-is_met.true)
    ∙ ap (λ (p : ℕ). Some (reloc_fault Overlap c.args.i p)) (sym c.reloc_place-place.ensures) ∙ ap (λ x. Some x) (sym c.reloc_fault.ensures)

pub returns-clause-clean : goal.returns-clause-clean
returns-clause-clean c =
    let f = c.args.frame.now in
    let r = c.reloc_of-r.result in
    let end : ℕ = r.r_offset + c.in-Ok.width in
    let good : IsGood f c.args.i r = good_entry f c.args.i c.reloc_place-place.result r c.in-Ok.ensures.clean in
    let some = wide_field f c.args.i r good in
    let width : c.in-Ok.width ≡ width_of f r = c.in-Ok.ensures.width in
    let wide : r.r_offset < end = omega (arith, some, width) in
    let upto : c.is_met.result ≡ meets_upto f c.args.i c.args.k (reloc_of f c.args.i c.args.k)
    = met f c.args.i c.args.k end r c.is_met.result c.args.bytes.now c.reloc_of-r.ensures (ap (λ (n : ℕ). r.r_offset + n) (c.in-Ok.ensures.width))
    (met_in_upto (span_of f c.args.i) c.args.k r.r_offset end c.args.bytes.now c.is_met.result c.requires.taken.fields wide c.is_met.ensures.met c.is_met.ensures.free) in
    met_fault f c.args.i c.args.k (ap is_idle (sym c.reloc_of-r.ensures) ∙ sym c.is_idle.ensures ∙ c.if-is_idle.false)
    (ap (λ (q : Rel). first_broken (own_conditions f c.args.i (reloc_place f c.args.i c.args.k) q)) (sym c.reloc_of-r.ensures)
    ∙ ap (λ (p : ℕ). first_broken (own_conditions f c.args.i p r)) (sym c.reloc_place-place.ensures) ∙ c.in-Ok.ensures.clean)
    ∙ ap (λ b. cond b (Some (reloc_fault Overlap c.args.i (reloc_place f c.args.i c.args.k))) None) (sym upto ∙ c.if-is_met.false)

pub returns-clause-taken : goal.returns-clause-taken
returns-clause-taken c =
    let f = c.args.frame.now in
    let r = c.reloc_of-r.result in
    let end : ℕ = r.r_offset + c.in-Ok.width in
    let busy : is_idle (reloc_of f c.args.i c.args.k) ≡ false = ap is_idle (sym c.reloc_of-r.ensures) ∙ sym c.is_idle.ensures ∙ c.if-is_idle.false in
    let good : IsGood f c.args.i r = good_entry f c.args.i c.reloc_place-place.result r c.in-Ok.ensures.clean in
    let some = wide_field f c.args.i r good in
    let width : c.in-Ok.width ≡ width_of f r = c.in-Ok.ensures.width in
    let wide : r.r_offset < end = omega (arith, some, width) in
    let span : span_of f c.args.i c.args.k ≡ Some (r.r_offset, end)
    = ap (λ b. cond b None (Some (bytes_for f (reloc_of f c.args.i c.args.k)))) busy ∙ ap (λ (q : Rel). Some (bytes_for f q)) (sym c.reloc_of-r.ensures) ∙ ap (λ (n : ℕ). Some (r.r_offset, r.r_offset + n)) (sym width) in
    taken_more f c.args.i c.args.k r.r_offset end c.args.bytes.now c.take.new.self c.requires.taken span wide c.take.ensures.room c.take.ensures.taken
