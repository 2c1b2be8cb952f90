-- What is made of the parts, one after another.
use Rattle.std.proofs.Common.{◌≡◌, ◌^◌, ◌≤◌, ℕ, List, length, map, sym, ◌∙◌, ap, subst, arith}
use Rattle.std.specs.List.{AllByRecursion}
use Rattle.std.proofs.lemmas.List.{length-map}
use Rattle.oc_neutral.specs.{declared.section.Section.{Section}, Objects.{Object}}
use Rattle.oc_target.specs.Fitted.{IsFitted}
use Rattle.oc_omf_file.specs.Outputs.{symbol_outputs}
use Rattle.oc_omf_file.proofs.CodedLaws.{for_omf, few_names}
use Rattle.oc_omf_write.specs.{Entries.{entry_for}, Names.{AreNames, IsNameOf, IsSegment, names_for, segment_in, text_by}, Numbers.{AreNumbers, HasPlace}}
use Rattle.oc_omf_write.specs.{Raws.{sections_in}, Written.{fixups_in}}
use Rattle.oc_omf_write.proofs.{NumberLemmas.{are_numbers}, PlannedLemmas.{names_same}, SegmentLemmas.{are_segments}}
use Rattle.oc_omf_write.proofs.ReadyLemmas.{all_places, few_entries, are_made, sections_in_counted}
use Rattle.oc_omf_write.proofs.planning.tables_of.Goals as goal

pub numbers_of-requires-clause-few : goal.numbers_of-requires-clause-few
numbers_of-requires-clause-few c =
    let n : Object = c.neutral-neutral.result.now in
    let same : n ≡ c.args.fitted = c.neutral-neutral.ensures in
    let low : length n.symbols ≤ 2 ^ 24 = subst (λ (x : Object). length x.symbols ≤ 2 ^ 24) (sym same) c.is_fitted.ensures.few_symbols in
    let long = ap length c.in_ok-entries.ensures in
    let mapped = length-map (symbol_outputs n) entry_for in
    let all = few_entries n in
    let slice = ap length c.deref.ensures.value in
    omega (arith, low, long, mapped, all, slice)

pub numbers_of-requires-clause-places : goal.numbers_of-requires-clause-places
numbers_of-requires-clause-places c =
    let n : Object = c.neutral-neutral.result.now in
    subst (λ m. AllByRecursion (HasPlace m) c.deref.result.now) (sym c.symbol_count.ensures)
    (subst (AllByRecursion (HasPlace (length n.symbols))) (sym (c.deref.ensures.value ∙ c.in_ok-entries.ensures)) (all_places n))

pub all_fixups-requires-clause-numbers : goal.all_fixups-requires-clause-numbers
all_fixups-requires-clause-numbers c =
    let n : Object = c.neutral-neutral.result.now in
    subst (AreNumbers n) (sym c.deref-2.ensures.value)
    (are_numbers n c.in_ok-numbers.numbers.items c.symbol_count.result c.deref.result.now c.symbol_count.ensures (c.deref.ensures.value ∙ c.in_ok-entries.ensures)
    c.in_ok-numbers.ensures.counted c.in_ok-numbers.ensures.each)

pub of-requires-clause-few : goal.of-requires-clause-few
of-requires-clause-few c =
    let fit = subst (λ f. IsFitted f c.args.fitted) c.requires c.is_fitted.ensures in
    let is = for_omf c.args.fitted fit in
    let low = is.meets.few in
    let long = ap length (c.deref-3.ensures.value ∙ c.parts_of-sections.ensures.sections ∙ ap sections_in c.into_neutral.ensures) in
    let all = sections_in_counted c.args.fitted in
    omega (arith, low, long, all)

pub of-requires-clause-segments : goal.of-requires-clause-segments
of-requires-clause-segments c =
    let fit = subst (λ f. IsFitted f c.args.fitted) c.requires c.is_fitted.ensures in
    let same = c.deref-3.ensures.value ∙ c.parts_of-sections.ensures.sections ∙ ap sections_in c.into_neutral.ensures in
    subst (AllByRecursion IsSegment) (sym same) (are_segments c.args.fitted (for_omf c.args.fitted fit))

pub segments_of-requires-clause-few : goal.segments_of-requires-clause-few
segments_of-requires-clause-few c =
    let fit = subst (λ f. IsFitted f c.args.fitted) c.requires c.is_fitted.ensures in
    let low = few_names c.args.fitted (for_omf c.args.fitted fit) in
    let all = ap length (ap names_for (c.deref-4.ensures.value ∙ c.parts_of-sections.ensures.sections ∙ ap sections_in c.into_neutral.ensures) ∙ names_same c.args.fitted) in
    omega (arith, low, all)

pub segments_of-requires-clause-segments : goal.segments_of-requires-clause-segments
segments_of-requires-clause-segments c =
    let fit = subst (λ f. IsFitted f c.args.fitted) c.requires c.is_fitted.ensures in
    let same = c.deref-4.ensures.value ∙ c.parts_of-sections.ensures.sections ∙ ap sections_in c.into_neutral.ensures in
    subst (AllByRecursion IsSegment) (sym same) (are_segments c.args.fitted (for_omf c.args.fitted fit))

pub returns : goal.returns
returns c =
    let n : Object = c.args.fitted in
    let m : Object = c.neutral-neutral.result.now in
    let same : m ≡ n = c.neutral-neutral.ensures in
    let sections = c.parts_of-sections.result.0.items in
    let numbers = c.in_ok-numbers.numbers.items in
    let names = c.into_list-names.result.items in
    let named : AreNames sections (names_for sections) c.in_ok-names.names
    = subst (λ (xs : List Section). AreNames xs (names_for xs) c.in_ok-names.names) c.deref-3.ensures.value c.in_ok-names.ensures in
    let numbered = subst (λ (x : Object). AreNumbers x numbers) same
    (are_numbers m numbers c.symbol_count.result c.deref.result.now c.symbol_count.ensures (c.deref.ensures.value ∙ c.in_ok-entries.ensures) c.in_ok-numbers.ensures.counted c.in_ok-numbers.ensures.each) in
    record {
      numbers = numbers;
      made = are_made n _ numbers (c.parts_of-sections.ensures.sections ∙ ap sections_in c.into_neutral.ensures)
          (c.in_ok-segments.ensures ∙ ap (λ (xs : List Section). map (segment_in xs) xs) c.deref-4.ensures.value)
          (ap (map (text_by sections)) c.into_list-names.ensures ∙ named.texts)
          (c.parts_of-sections.ensures.symbols ∙ ap (λ (x : Object). x.symbols) c.into_neutral.ensures)
          (c.in_ok-fixups.ensures ∙ ap (λ (ks : List ℕ). fixups_in ks m) c.deref-2.ensures.value ∙ ap (fixups_in numbers) same) numbered;
      named = subst (AllByRecursion (IsNameOf (length sections))) (sym c.into_list-names.ensures) named.of_sections;
      of = c.in_ok-entries.ensures ∙ ap (λ (x : Object). map entry_for (symbol_outputs x)) same;
    }
