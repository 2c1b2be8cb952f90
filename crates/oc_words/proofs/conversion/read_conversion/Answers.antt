use Rattle.std.proofs.Common.{◌≡◌, ℕ, sym, ◌∙◌, ap, subst, IfOk, IfErr, Ok}
use Rattle.oc_words.specs.{Faults.{IsFaultOf}, Jobs.{conversion_of, converted}, Readings.{listed, listed_target}}
use Rattle.oc_words.proofs.ReadingLaws.{conversion_of-read}
use Rattle.oc_words.proofs.conversion.read_conversion.Goals as goal

pub returns-clause-ok : goal.returns-clause-ok
returns-clause-ok c =
    let r = c.in_ok-reading.reading in
    let same : converted c.count.result r.wishes (listed_target r.to) (listed r.names) ≡ conversion_of c.args.words.now
    = ap (λ (n : ℕ). converted n r.wishes (listed_target r.to) (listed r.names)) c.count.ensures ∙ sym (conversion_of-read c.args.words.now r c.in_ok-reading.ensures.ok) in
    subst (λ asked. IfOk c.finish.result (λ job. asked ≡ Ok job)) same c.finish.ensures.ok

pub returns-clause-err : goal.returns-clause-err
returns-clause-err c =
    let r = c.in_ok-reading.reading in
    let same : converted c.count.result r.wishes (listed_target r.to) (listed r.names) ≡ conversion_of c.args.words.now
    = ap (λ (n : ℕ). converted n r.wishes (listed_target r.to) (listed r.names)) c.count.ensures ∙ sym (conversion_of-read c.args.words.now r c.in_ok-reading.ensures.ok) in
    subst (λ asked. IfErr c.finish.result (IsFaultOf asked)) same c.finish.ensures.err
