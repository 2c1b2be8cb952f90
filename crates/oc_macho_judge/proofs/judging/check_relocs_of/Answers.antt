-- What a section without a fault places lies in the file.
use Rattle.std.proofs.Common.{Bool, cond, sym, ◌∙◌, ap, subst}
use Rattle.oc_base.specs.Stops.{IsStop}
use Rattle.oc_linking.specs.{FirstFault.{Stage, stage_fault}, Keeping.{keeps}}
use Rattle.oc_macho.specs.{Sections.{kind_of}, Framed.{table_at}, RelocationFaults.{entry_stage, no_stage}}
use Rattle.oc_macho_judge.proofs.JudgingLemmas.{IsPlaced, section_placed, stage_is}
use Rattle.oc_macho_judge.proofs.judging.check_relocs_of.Goals as goal

pub returns-then-not-keeps-clause-clean : goal.returns-then-not-keeps-clause-clean
returns-then-not-keeps-clause-clean c =
    ap stage_fault (stage_is c.args.frame.now c.args.keep.now c.args.i c.keeps.result c.requires.there
    (c.keeps.ensures ∙ ap (keeps c.args.keep.now) (c.kind_of.ensures ∙ ap kind_of c.section-h.ensures)))
    ∙ ap (λ (b : Bool). stage_fault (cond b (entry_stage c.args.frame.now c.args.i (table_at c.args.frame.now c.args.i)) no_stage)) c.if-not-keeps.true

pub check_table-requires-clause-table : goal.check_table-requires-clause-table
check_table-requires-clause-table c =
    let is : IsPlaced c.args.frame.now c.section-h.result
    = subst (IsPlaced c.args.frame.now) (sym c.section-h.ensures) (section_placed c.args.frame.now c.args.i c.requires.there c.requires.sections) in
    record { there = c.requires.there; is = c.section-h.ensures; entries_lie = is.entries_lie; bytes_lie = is.bytes_lie; small = is.small; long = c.has_entries.ensures }

pub returns-in-Err-clause-stop : goal.returns-in-Err-clause-stop
returns-in-Err-clause-stop c =
    subst (λ (stage : Stage). IsStop (stage_fault stage) c.in-Err.stop)
    (sym (stage_is c.args.frame.now c.args.keep.now c.args.i c.keeps.result c.requires.there
    (c.keeps.ensures ∙ ap (keeps c.args.keep.now) (c.kind_of.ensures ∙ ap kind_of c.section-h.ensures))
    ∙ ap (λ (b : Bool). cond b (entry_stage c.args.frame.now c.args.i (table_at c.args.frame.now c.args.i)) no_stage) c.if-not-keeps.false))
    c.in-Err.ensures.stop

pub returns-in-Ok-clause-clean : goal.returns-in-Ok-clause-clean
returns-in-Ok-clause-clean c =
    ap stage_fault (stage_is c.args.frame.now c.args.keep.now c.args.i c.keeps.result c.requires.there
    (c.keeps.ensures ∙ ap (keeps c.args.keep.now) (c.kind_of.ensures ∙ ap kind_of c.section-h.ensures)))
    ∙ ap (λ (b : Bool). stage_fault (cond b (entry_stage c.args.frame.now c.args.i (table_at c.args.frame.now c.args.i)) no_stage)) c.if-not-keeps.false
    ∙ c.in-Ok.ensures.clean
