-- The faults of a section that is kept are those of its table.
use Rattle.std.proofs.Common.{◌∙◌, Option, sym, subst}
use Rattle.oc_base.specs.{declared.fault.Fault.{Fault}, Stops.{IsStop}}
use Rattle.oc_coff_judge.proofs.KeptTables.{dropped_faults, kept_faults, no_faults}
use Rattle.oc_coff_judge.proofs.judging.check_relocs_of.Goals as goal

pub returns-then-not-keeps-clause-clean : goal.returns-then-not-keeps-clause-clean
returns-then-not-keeps-clause-clean c =
    dropped_faults c.args.coff.now c.requires.clean c.args.i c.section-h.result c.section-h.ensures c.args.aims.now.word c.args.keep.now c.in-Some.kind (sym c.kind_in.ensures ∙ c.in-Some.is) (sym c.keeps.ensures ∙ c.if-not-keeps.true)

pub returns-in-Err-clause-stop : goal.returns-in-Err-clause-stop
returns-in-Err-clause-stop c =
    subst (λ (o : Option Fault). IsStop o c.in-Err.stop)
    (sym (kept_faults c.args.coff.now c.requires.clean c.args.i c.section-h.result c.section-h.ensures c.args.aims.now.word c.args.keep.now c.in-Some.kind (sym c.kind_in.ensures ∙ c.in-Some.is) (sym c.keeps.ensures ∙ c.if-not-keeps.false)
    c.table_of-table.result c.table_of-table.ensures))
    c.in-Err.ensures.stop

pub returns-in-Ok-clause-clean : goal.returns-in-Ok-clause-clean
returns-in-Ok-clause-clean c =
    kept_faults c.args.coff.now c.requires.clean c.args.i c.section-h.result c.section-h.ensures c.args.aims.now.word c.args.keep.now c.in-Some.kind (sym c.kind_in.ensures ∙ c.in-Some.is) (sym c.keeps.ensures ∙ c.if-not-keeps.false)
    c.table_of-table.result c.table_of-table.ensures
    ∙ c.in-Ok.ensures.clean

pub returns-in-None-clause-clean : goal.returns-in-None-clause-clean
returns-in-None-clause-clean c =
    no_faults c.args.coff.now c.requires.clean c.args.i c.section-h.result c.section-h.ensures c.args.aims.now.word c.args.keep.now (sym c.kind_in.ensures ∙ c.in-None.is)
