-- A field is judged by its own conditions, and then by the fields before.
use Rattle.std.proofs.Common.{◌≡◌, ℕ, zero, suc, ◌^◌, ◌<◌, ◌≤◌, ◌∙◌, Bool, false, [], ◌∷◌, Option, None, Some, sym, ap, arith}
use Rattle.std.specs.Option.{option_map_or}
use Rattle.oc_base.specs.{declared.code.Code.TheVariants.{FoldTooWide, Overlap}, declared.fault.Fault.{Fault}}
use Rattle.oc_linking.specs.{FirstFault.{first_broken}, Numbers.{or_else}}
use Rattle.oc_shelf.specs.{Reading.Firsts.{any_upto}, Reading.Spans.{meets}}
use Rattle.oc_shelf.proofs.ReadingLaws.BitmapLemmas.{met_in_upto}
use Rattle.oc_macho.specs.{declared.entries.Item.{Item}, declared.section_header.SectionHeader.{SectionHeader}, Framed.{table_at}}
use Rattle.oc_macho.specs.Tables.{SectionTable, Tables}
use Rattle.oc_macho.specs.RelocationFaults.{form_conditions, is_outside, is_too_wide, last_conditions, meets_upto, relocation_fault, span_at, span_of, target_conditions}
use Rattle.oc_macho_judge.proofs.RelocLemmas.{field_in_room, inside_of, item_broken, kinds_of, span_is, taken_more}
use Rattle.oc_macho_judge.proofs.relocs.judge_item.Goals as goal

-- what the first two parts leave
pub past_both : (t : Tables) (i : ℕ) (x : SectionTable) (k : ℕ) (item : Item) → None ≡ first_broken (form_conditions t i x k item) → first_broken (target_conditions t i x k item) ≡ None
    → or_else (first_broken (form_conditions t i x k item)) (or_else (first_broken (target_conditions t i x k item)) (first_broken (last_conditions t i x k item))) ≡ first_broken (last_conditions t i x k item)
past_both t i x k item forms targets =
    ap (λ (o : Option Fault). or_else o (or_else (first_broken (target_conditions t i x k item)) (first_broken (last_conditions t i x k item)))) (sym forms)
    ∙ ap (λ (o : Option Fault). or_else o (first_broken (last_conditions t i x k item))) targets

-- whether a field is met is whether it meets one of those before
met : (t : Tables) (x : SectionTable) (k begin end : ℕ) (item : Item) (b : Bool) → begin ≡ item.first.r_address → end ≡ (span_of item).1
    → b ≡ any_upto (λ j. option_map_or (meets (begin, end)) (span_at t x j) false) k → b ≡ meets_upto t x k item
met t x k begin end item b begins ends e =
    e ∙ ap (λ (p : ℕ). any_upto (λ j. option_map_or (meets (p, end)) (span_at t x j) false) k) begins
    ∙ ap (λ (q : ℕ). any_upto (λ j. option_map_or (meets (item.first.r_address, q)) (span_at t x j) false) k) ends

positive : (n : ℕ) → n < 4 → 1 ≤ 2 ^ n
positive zero low = omega arith
positive (suc zero) low = omega arith
positive (suc (suc zero)) low = omega arith
positive (suc (suc (suc zero))) low = omega arith
positive (suc (suc (suc (suc n)))) low = absurd (omega (arith, low))

pub returns-in-Some-clause-stop : goal.returns-in-Some-clause-stop
returns-in-Some-clause-stop c =
    let t = c.args.frame.now in
    let x = table_at t c.args.i in
    let item = c.item_of-item.result in
    item_broken t c.args.i x c.args.k item c.item_of-item.ensures.item
    ∙ ap (λ (o : Option Fault). or_else o (or_else (first_broken (target_conditions t c.args.i x c.args.k item)) (first_broken (last_conditions t c.args.i x c.args.k item)))) (sym c.in-Some.ensures)

pub returns-in-Some-fault-clause-stop : goal.returns-in-Some-fault-clause-stop
returns-in-Some-fault-clause-stop c =
    let t = c.args.frame.now in
    let x = table_at t c.args.i in
    let item = c.item_of-item.result in
    item_broken t c.args.i x c.args.k item c.item_of-item.ensures.item
    ∙ ap (λ (o : Option Fault). or_else o (or_else (first_broken (target_conditions t c.args.i x c.args.k item)) (first_broken (last_conditions t c.args.i x c.args.k item)))) (sym c.in-None.ensures)
    ∙ ap (λ (o : Option Fault). or_else o (first_broken (last_conditions t c.args.i x c.args.k item))) (sym c.in_ok-fault.ensures ∙ c.in-Some-fault.is)

pub returns-then-is_met-clause-stop : goal.returns-then-is_met-clause-stop
returns-then-is_met-clause-stop c =
    let t = c.args.frame.now in
    let x = table_at t c.args.i in
    let item = c.item_of-item.result in
    let some = positive item.first.r_length c.item_of-item.ensures.length in
    let begins = c.span_of-begin.ensures.begin in
    let ends = c.span_of-begin.ensures.end in
    let wide : c.span_of-begin.result.0 < c.span_of-begin.result.1 = omega (arith, some, begins, ends) in
    let upto : c.is_met.result ≡ meets_upto t x c.args.k item
    = met t x c.args.k c.span_of-begin.result.0 c.span_of-begin.result.1 item c.is_met.result c.span_of-begin.ensures.begin c.span_of-begin.ensures.end
    (met_in_upto (span_at t x) c.args.k c.span_of-begin.result.0 c.span_of-begin.result.1 c.args.bytes.now c.is_met.result c.requires.taken.fields wide c.is_met.ensures.met c.is_met.ensures.free) in
    item_broken t c.args.i x c.args.k item c.item_of-item.ensures.item
    ∙ past_both t c.args.i x c.args.k item c.in-None.ensures (sym c.in_ok-fault.ensures ∙ c.in-None-fault.is)
    ∙ ap (λ (b : Bool). first_broken ((b, relocation_fault c.args.i x c.args.k Overlap) ∷ (is_too_wide t c.args.i x item, relocation_fault c.args.i x c.args.k FoldTooWide) ∷ [])) (sym upto ∙ c.if-is_met.true)
    ∙ ap (λ (f : Fault). Some f) (sym c.entry_fault.ensures)

pub is_too_wide-requires-clause-inside : goal.is_too_wide-requires-clause-inside
is_too_wide-requires-clause-inside c =
    ap (λ (h : SectionHeader). is_outside h c.item_of-item.result) c.requires.table.is
    ∙ inside_of c.args.frame.now c.args.i (table_at c.args.frame.now c.args.i) c.args.k c.item_of-item.result (sym c.in-None.ensures)

pub is_too_wide-requires-clause-kinds : goal.is_too_wide-requires-clause-kinds
is_too_wide-requires-clause-kinds c =
    kinds_of c.args.frame.now c.args.i (table_at c.args.frame.now c.args.i) c.args.k c.item_of-item.result (sym c.in_ok-fault.ensures ∙ c.in-None-fault.is)

pub returns-then-wide-clause-stop : goal.returns-then-wide-clause-stop
returns-then-wide-clause-stop c =
    let t = c.args.frame.now in
    let x = table_at t c.args.i in
    let item = c.item_of-item.result in
    let some = positive item.first.r_length c.item_of-item.ensures.length in
    let begins = c.span_of-begin.ensures.begin in
    let ends = c.span_of-begin.ensures.end in
    let wide : c.span_of-begin.result.0 < c.span_of-begin.result.1 = omega (arith, some, begins, ends) in
    let upto : c.is_met.result ≡ meets_upto t x c.args.k item
    = met t x c.args.k c.span_of-begin.result.0 c.span_of-begin.result.1 item c.is_met.result c.span_of-begin.ensures.begin c.span_of-begin.ensures.end
    (met_in_upto (span_at t x) c.args.k c.span_of-begin.result.0 c.span_of-begin.result.1 c.args.bytes.now c.is_met.result c.requires.taken.fields wide c.is_met.ensures.met c.is_met.ensures.free) in
    item_broken t c.args.i x c.args.k item c.item_of-item.ensures.item
    ∙ past_both t c.args.i x c.args.k item c.in-None.ensures (sym c.in_ok-fault.ensures ∙ c.in-None-fault.is)
    ∙ ap (λ (b : Bool). first_broken ((b, relocation_fault c.args.i x c.args.k Overlap) ∷ (is_too_wide t c.args.i x item, relocation_fault c.args.i x c.args.k FoldTooWide) ∷ [])) (sym upto ∙ c.if-is_met.false)
    ∙ ap (λ (b : Bool). first_broken ((b, relocation_fault c.args.i x c.args.k FoldTooWide) ∷ [])) (sym c.in_ok-wide.ensures ∙ c.if-wide.true)
    ∙ ap (λ (f : Fault). Some f) (sym c.entry_fault-then-wide.ensures)

pub returns-clause-clean : goal.returns-clause-clean
returns-clause-clean c =
    let t = c.args.frame.now in
    let x = table_at t c.args.i in
    let item = c.item_of-item.result in
    let some = positive item.first.r_length c.item_of-item.ensures.length in
    let begins = c.span_of-begin.ensures.begin in
    let ends = c.span_of-begin.ensures.end in
    let wide : c.span_of-begin.result.0 < c.span_of-begin.result.1 = omega (arith, some, begins, ends) in
    let upto : c.is_met.result ≡ meets_upto t x c.args.k item
    = met t x c.args.k c.span_of-begin.result.0 c.span_of-begin.result.1 item c.is_met.result c.span_of-begin.ensures.begin c.span_of-begin.ensures.end
    (met_in_upto (span_at t x) c.args.k c.span_of-begin.result.0 c.span_of-begin.result.1 c.args.bytes.now c.is_met.result c.requires.taken.fields wide c.is_met.ensures.met c.is_met.ensures.free) in
    item_broken t c.args.i x c.args.k item c.item_of-item.ensures.item
    ∙ past_both t c.args.i x c.args.k item c.in-None.ensures (sym c.in_ok-fault.ensures ∙ c.in-None-fault.is)
    ∙ ap (λ (b : Bool). first_broken ((b, relocation_fault c.args.i x c.args.k Overlap) ∷ (is_too_wide t c.args.i x item, relocation_fault c.args.i x c.args.k FoldTooWide) ∷ [])) (sym upto ∙ c.if-is_met.false)
    ∙ ap (λ (b : Bool). first_broken ((b, relocation_fault c.args.i x c.args.k FoldTooWide) ∷ [])) (sym c.in_ok-wide.ensures ∙ c.if-wide.false)

pub take-requires : goal.take-requires
take-requires c =
    let t = c.args.frame.now in
    let x = table_at t c.args.i in
    let inside = field_in_room t x c.args.k c.args.bytes.now c.item_of-item.result c.requires.taken (inside_of t c.args.i x c.args.k c.item_of-item.result (sym c.in-None.ensures)) in
    let ends = c.span_of-begin.ensures.end in
    omega (arith, inside, ends)

pub returns-clause-taken : goal.returns-clause-taken
returns-clause-taken c =
    let t = c.args.frame.now in
    let x = table_at t c.args.i in
    let item = c.item_of-item.result in
    let some = positive item.first.r_length c.item_of-item.ensures.length in
    let begins = c.span_of-begin.ensures.begin in
    let ends = c.span_of-begin.ensures.end in
    let wide : c.span_of-begin.result.0 < c.span_of-begin.result.1 = omega (arith, some, begins, ends) in
    let span : span_at t x c.args.k ≡ Some (c.span_of-begin.result.0, c.span_of-begin.result.1)
    = span_is t x c.args.k item c.item_of-item.ensures.item ∙ ap (λ (p : ℕ). Some (p, (span_of item).1)) (sym begins) ∙ ap (λ (q : ℕ). Some (c.span_of-begin.result.0, q)) (sym ends) in
    taken_more t x c.args.k c.span_of-begin.result.0 c.span_of-begin.result.1 c.args.bytes.now c.take.new.self c.requires.taken span wide c.take.ensures.room c.take.ensures.taken
