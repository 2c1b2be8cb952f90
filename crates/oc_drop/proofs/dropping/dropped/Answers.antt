use Rattle.std.proofs.Common.{true, Ok, ◌≡◌, Bool, List, Option, None, length, sym, ◌∙◌, ap, subst}
use Rattle.std.specs.List.{list_all}
use Rattle.oc_drop.proofs.{NothingDropped.{all_keep, dropped_same}, Detached.{detached}, StepLaws.{refused_first, refused_second, step_clean, step_refused}}
use Rattle.std.proofs.lemmas.{Result.{err_from_is_err_and}, List.{length-map}}
use Rattle.oc_base.specs.{declared.fault.Fault.{Fault}, Stops.{IsStop}}
use Rattle.oc_linking.specs.Numbers.{or_else}
use Rattle.oc_neutral.specs.{Objects.{Object}, Without.{IsDetached, without_of, left_of, symbols_stay}}
use Rattle.oc_drop.specs.{Steps.{first_in, first_field}, Dropping.{dropped_symbol, dropped_reference, dropping_fault, sections_stay}}
use Rattle.oc_drop.proofs.dropping.dropped.Goals as goal

pub returns-in_err-unless-clause-refused : goal.returns-in_err-unless-clause-refused
returns-in_err-unless-clause-refused c =
    let n : Object = c.args.neutral in
    let stay : List Bool = sections_stay c.args.keep n.sections in
    let p = err_from_is_err_and c.from_residual-in_err-unless.result c.from_residual-in_err-unless.ensures.1 in
    let fault : c.symbols_fault.result ≡ first_in (dropped_symbol stay) n.symbols =
    c.symbols_fault.ensures
    ∙ ap (λ (ss : List Bool). first_in (dropped_symbol ss) c.symbols.result.now) (c.as_slice-stay.ensures.value ∙ c.in_ok-stay.ensures ∙ ap (sections_stay c.args.keep) c.sections.ensures)
    ∙ ap (first_in (dropped_symbol stay)) c.symbols.ensures in
    rw (p.1, p.2) (step_refused (dropping_fault stay n) (left_of stay (symbols_stay stay n.symbols) n) c.in_err-unless.field-0.0
    (refused_first (first_in (dropped_symbol stay) n.symbols) (first_field (dropped_reference stay) n) c.in_err-unless.field-0.0
    (subst (λ (o : Option Fault). IsStop o c.in_err-unless.field-0.0) fault c.in_err-unless.ensures.refused)))

pub returns-in_err-unless-2-clause-refused : goal.returns-in_err-unless-2-clause-refused
returns-in_err-unless-2-clause-refused c =
    let n : Object = c.args.neutral in
    let stay : List Bool = sections_stay c.args.keep n.sections in
    let p = err_from_is_err_and c.from_residual-in_err-unless-2.result c.from_residual-in_err-unless-2.ensures.1 in
    let same : c.as_slice-stay.result.now ≡ stay = c.as_slice-stay.ensures.value ∙ c.in_ok-stay.ensures ∙ ap (sections_stay c.args.keep) c.sections.ensures in
    let none : first_in (dropped_symbol stay) n.symbols ≡ None =
    ap (λ (ss : List Bool). first_in (dropped_symbol ss) n.symbols) (sym same)
    ∙ ap (first_in (dropped_symbol c.as_slice-stay.result.now)) (sym c.symbols.ensures)
    ∙ sym c.symbols_fault.ensures
    ∙ c.in_ok-unless.ensures.clean in
    let fault : c.references_fault.result ≡ first_field (dropped_reference stay) n =
    c.references_fault.ensures ∙ ap (λ (ss : List Bool). first_field (dropped_reference ss) n) same in
    rw (p.1, p.2) (step_refused (dropping_fault stay n) (left_of stay (symbols_stay stay n.symbols) n) c.in_err-unless-2.field-0.0
    (refused_second (first_in (dropped_symbol stay) n.symbols) (first_field (dropped_reference stay) n) c.in_err-unless-2.field-0.0 none
    (subst (λ (o : Option Fault). IsStop o c.in_err-unless-2.field-0.0) fault c.in_err-unless-2.ensures.refused)))

pub without-requires-clause-counted : goal.without-requires-clause-counted
without-requires-clause-counted c =
    let n : Object = c.args.neutral in
    let stay : List Bool = sections_stay c.args.keep n.sections in
    let same : c.as_slice-stay.result.now ≡ stay = c.as_slice-stay.ensures.value ∙ c.in_ok-stay.ensures ∙ ap (sections_stay c.args.keep) c.sections.ensures in
    ap (λ (ss : List Bool). length ss) same ∙ length-map n.sections _

pub without-requires-clause-detached : goal.without-requires-clause-detached
without-requires-clause-detached c =
    let n : Object = c.args.neutral in
    let stay : List Bool = sections_stay c.args.keep n.sections in
    let same : c.as_slice-stay.result.now ≡ stay = c.as_slice-stay.ensures.value ∙ c.in_ok-stay.ensures ∙ ap (sections_stay c.args.keep) c.sections.ensures in
    let none : first_in (dropped_symbol stay) n.symbols ≡ None =
    ap (λ (ss : List Bool). first_in (dropped_symbol ss) n.symbols) (sym same)
    ∙ ap (first_in (dropped_symbol c.as_slice-stay.result.now)) (sym c.symbols.ensures)
    ∙ sym c.symbols_fault.ensures
    ∙ c.in_ok-unless.ensures.clean in
    let none' : first_field (dropped_reference stay) n ≡ None =
    ap (λ (ss : List Bool). first_field (dropped_reference ss) n) (sym same) ∙ sym c.references_fault.ensures ∙ c.in_ok-unless-2.ensures.clean in
    subst (λ (ss : List Bool). IsDetached ss n) (sym same)
    (detached stay n (ap (λ (o : Option Fault). or_else o (first_field (dropped_reference stay) n)) none ∙ none'))

pub returns-clause-ok : goal.returns-clause-ok
returns-clause-ok c =
    let n : Object = c.args.neutral in
    let stay : List Bool = sections_stay c.args.keep n.sections in
    let same : c.as_slice-stay.result.now ≡ stay = c.as_slice-stay.ensures.value ∙ c.in_ok-stay.ensures ∙ ap (sections_stay c.args.keep) c.sections.ensures in
    let none : first_in (dropped_symbol stay) n.symbols ≡ None =
    ap (λ (ss : List Bool). first_in (dropped_symbol ss) n.symbols) (sym same)
    ∙ ap (first_in (dropped_symbol c.as_slice-stay.result.now)) (sym c.symbols.ensures)
    ∙ sym c.symbols_fault.ensures
    ∙ c.in_ok-unless.ensures.clean in
    let none' : first_field (dropped_reference stay) n ≡ None =
    ap (λ (ss : List Bool). first_field (dropped_reference ss) n) (sym same) ∙ sym c.references_fault.ensures ∙ c.in_ok-unless-2.ensures.clean in
    step_clean (dropping_fault stay n) (left_of stay (symbols_stay stay n.symbols) n)
    (ap (λ (o : Option Fault). or_else o (first_field (dropped_reference stay) n)) none ∙ none')
    ∙ ap Ok (sym (c.in_ok-without.ensures ∙ ap (λ (ss : List Bool). without_of ss n) same))

pub returns-then-all_stay-clause-ok : goal.returns-then-all_stay-clause-ok
returns-then-all_stay-clause-ok c =
    let n : Object = c.args.neutral in
    let same : c.as_slice-stay.result.now ≡ sections_stay c.args.keep n.sections = c.as_slice-stay.ensures.value ∙ c.in_ok-stay.ensures ∙ ap (sections_stay c.args.keep) c.sections.ensures in
    let all : list_all (λ b. b) (sections_stay c.args.keep n.sections) ≡ true = ap (list_all (λ b. b)) (sym same) ∙ sym c.all_stay.ensures ∙ c.if-all_stay.true in
    dropped_same n c.is_object.ensures c.args.keep (all_keep c.args.keep n.sections all)
