-- A field folds too wide by where its target stands and what is taken.
use Rattle.std.proofs.Common.{◌≡◌, None, Some, sym, ◌∙◌, ap, to_z, of_z, w64, rules}
use Rattle.std.specs.Prelude.{ℤ}
use Rattle.oc_base.specs.declared.format.Word.{Word}
use Rattle.oc_macho_judge.specs.Anchors.{anchor_in, is_narrow, is_wide}
use Rattle.oc_macho.specs.{Entries.{row_for, target_entry}, Framed.{table_at}}
use Rattle.oc_macho_judge.proofs.WideLemmas.{narrow_is, not_narrow, wide_is}
use Rattle.oc_macho_judge.proofs.differences.is_too_wide.Goals as goal

pub returns-then-not-is_narrow : goal.returns-then-not-is_narrow
returns-then-not-is_narrow c =
    sym (not_narrow c.args.frame.now c.args.i (table_at c.args.frame.now c.args.i) c.args.item.now
    (sym (c.if-not-is_narrow.ensures ∙ ap (λ (w : Word). is_narrow (row_for w c.args.item.now.first)) c.word-word.ensures)))

pub number_of-number-requires-clause-length : goal.number_of-number-requires-clause-length
number_of-number-requires-clause-length c = (narrow_is c.word-word.result c.args.item.now.first (sym c.if-not-is_narrow.ensures)).length

pub returns-in-Some-Some : goal.returns-in-Some-Some
returns-in-Some-Some c =
    let t = c.args.frame.now in
    let item = c.args.item.now in
    let id : to_z w64 (of_z w64 c.number_of-number.result) ≡ c.number_of-number.result = search rules in
    c.is_wide.ensures ∙ ap (λ (n : ℤ). is_wide c.word-word.result n c.in-Some-Some.target c.in-Some-Some.taken) id ∙ ap (λ (w : Word). is_wide w c.number_of-number.result c.in-Some-Some.target c.in-Some-Some.taken) c.word-word.ensures
    ∙ ap (λ (n : ℤ). is_wide t.word n c.in-Some-Some.target c.in-Some-Some.taken) c.number_of-number.ensures
    ∙ wide_is t c.args.i (table_at t c.args.i) item (Some c.in-Some-Some.target) (Some c.in-Some-Some.taken)
    (sym (c.if-not-is_narrow.ensures ∙ ap (λ (w : Word). is_narrow (row_for w item.first)) c.word-word.ensures)) c.requires.kinds
    (sym c.in-Some-Some.is-0 ∙ c.in_ok-target.ensures ∙ ap (anchor_in t) (c.target.ensures ∙ ap (λ (w : Word). (target_entry w item).refers) c.word-word.ensures))
    (sym c.in-Some-Some.is-1 ∙ c.in_ok-taken.ensures)

pub returns-in-None-default : goal.returns-in-None-default
returns-in-None-default c =
    let t = c.args.frame.now in
    let item = c.args.item.now in
    wide_is t c.args.i (table_at t c.args.i) item (Some c.in-None-default.field-0-0) None
    (sym (c.if-not-is_narrow.ensures ∙ ap (λ (w : Word). is_narrow (row_for w item.first)) c.word-word.ensures)) c.requires.kinds
    (sym c.in-None-default.is-0 ∙ c.in_ok-target.ensures ∙ ap (anchor_in t) (c.target.ensures ∙ ap (λ (w : Word). (target_entry w item).refers) c.word-word.ensures))
    (sym c.in-None-default.is-1 ∙ c.in_ok-taken.ensures)

pub returns-in-None-default-2 : goal.returns-in-None-default-2
returns-in-None-default-2 c =
    let t = c.args.frame.now in
    let item = c.args.item.now in
    wide_is t c.args.i (table_at t c.args.i) item None c.in_ok-taken.taken
    (sym (c.if-not-is_narrow.ensures ∙ ap (λ (w : Word). is_narrow (row_for w item.first)) c.word-word.ensures)) c.requires.kinds
    (sym c.in-None-default.is-0 ∙ c.in_ok-target.ensures ∙ ap (anchor_in t) (c.target.ensures ∙ ap (λ (w : Word). (target_entry w item).refers) c.word-word.ensures))
    c.in_ok-taken.ensures
