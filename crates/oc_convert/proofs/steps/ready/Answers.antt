use Rattle.std.proofs.Common.{◌≡◌, None, sym, ◌∙◌, ap, subst}
use Rattle.std.proofs.lemmas.Result.{IfErr-weaker, err_from_is_err_and}
use Rattle.oc_base.specs.{Formats.{word_for}, Stops.{IsStop}}
use Rattle.oc_neutral.specs.{Objects.{Object}, Dialects.{Dialect}}
use Rattle.oc_shows.specs.Shows.{Shows}
use Rattle.oc_target.specs.Fitted.{first_unfit}
use Rattle.oc_names.specs.{Wishes.{Wishes}, Kept.{keep_for}}
use Rattle.oc_convert.specs.Refusals.{kept_of_file, first_refusal}
use Rattle.oc_convert.proofs.{Firsts.{edit_stands, refused_by_edited}, Ready.{can_fit, if_ready}}
use Rattle.oc_convert.proofs.steps.ready.Goals as goal

-- src/steps.rt:105:19
pub returns-in_err-neutral-2-clause-refused : goal.returns-in_err-neutral-2-clause-refused
returns-in_err-neutral-2-clause-refused g c =
    let f : Dialect = g.R.Reads.dialect in
    let wishes : Wishes = c.args.edits.now in
    let n : Object = c.in_ok-neutral.neutral in
    let keep : c.keep_for-keep.result ≡ kept_of_file wishes f c.args.to = c.keep_for-keep.ensures ∙ ap (λ t. keep_for wishes t c.args.to) (sym c.requires.source) in
    let shows = subst (λ k. Shows f c.args.bytes.now k n) keep c.in_ok-neutral.ensures.shows in
    let good = subst (λ k. f.rules.fault c.args.bytes.now k ≡ None) keep c.in_ok-neutral.ensures.well_formed in
    let e = c.in_err-neutral-2.field-0.0 in
    let p = err_from_is_err_and c.from_residual-in_err-neutral-2.result c.from_residual-in_err-neutral-2.ensures.1 in
    rw (p.1, p.2) (edit_stands wishes f c.args.to c.args.bytes.now n c.in_ok-neutral.ensures.object shows good e c.in_err-neutral-2.ensures.refused)

-- src/steps.rt:106:5
pub fit-requires : goal.fit-requires
fit-requires g c =
    let f : Dialect = g.R.Reads.dialect in
    let wishes : Wishes = c.args.edits.now in
    let n : Object = c.in_ok-neutral.neutral in
    let keep : c.keep_for-keep.result ≡ kept_of_file wishes f c.args.to = c.keep_for-keep.ensures ∙ ap (λ t. keep_for wishes t c.args.to) (sym c.requires.source) in
    let shows = subst (λ k. Shows f c.args.bytes.now k n) keep c.in_ok-neutral.ensures.shows in
    can_fit wishes f c.args.to c.args.bytes.now n c.in_ok-neutral.ensures.object shows c.in_ok-neutral-2.neutral c.in_ok-neutral-2.ensures.ok
    (c.requires.word ∙ ap word_for (sym c.requires.source)) c.in_ok-neutral-2.ensures.few c.in_ok-neutral-2.ensures.readable

-- src/steps.rt:89:1
pub returns-clause-refused : goal.returns-clause-refused
returns-clause-refused g c =
    let f : Dialect = g.R.Reads.dialect in
    let wishes : Wishes = c.args.edits.now in
    let n : Object = c.in_ok-neutral.neutral in
    let m : Object = c.in_ok-neutral-2.neutral in
    let keep : c.keep_for-keep.result ≡ kept_of_file wishes f c.args.to = c.keep_for-keep.ensures ∙ ap (λ t. keep_for wishes t c.args.to) (sym c.requires.source) in
    let shows = subst (λ k. Shows f c.args.bytes.now k n) keep c.in_ok-neutral.ensures.shows in
    let good = subst (λ k. f.rules.fault c.args.bytes.now k ≡ None) keep c.in_ok-neutral.ensures.well_formed in
    let same = refused_by_edited wishes f c.args.to c.args.bytes.now n c.in_ok-neutral.ensures.object shows good m c.in_ok-neutral-2.ensures.ok in
    IfErr-weaker c.fit.result (IsStop (first_unfit c.args.to m)) (IsStop (first_refusal wishes f c.args.to c.args.bytes.now)) (λ e told. subst (λ o. IsStop o e) (sym same) told) c.fit.ensures.refused

-- src/steps.rt:89:1
pub returns-clause-ready : goal.returns-clause-ready
returns-clause-ready g c =
    let f : Dialect = g.R.Reads.dialect in
    let wishes : Wishes = c.args.edits.now in
    let n : Object = c.in_ok-neutral.neutral in
    let m : Object = c.in_ok-neutral-2.neutral in
    let keep : c.keep_for-keep.result ≡ kept_of_file wishes f c.args.to = c.keep_for-keep.ensures ∙ ap (λ t. keep_for wishes t c.args.to) (sym c.requires.source) in
    let shows = subst (λ k. Shows f c.args.bytes.now k n) keep c.in_ok-neutral.ensures.shows in
    let good = subst (λ k. f.rules.fault c.args.bytes.now k ≡ None) keep c.in_ok-neutral.ensures.well_formed in
    if_ready wishes f c.args.to c.args.bytes.now n c.in_ok-neutral.ensures.object shows m c.in_ok-neutral-2.ensures.ok g.met.R.Reads.law.word good c.in_ok-neutral-2.ensures.object
    c.fit.result c.fit.ensures.object c.fit.ensures.fitted c.fit.ensures.fit c.fit.ensures.expressible
