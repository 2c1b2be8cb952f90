-- The fault is that of the first part that has one.
use Rattle.std.proofs.Common.{sym, ◌∙◌, arith}
use Rattle.oc_coff_judge.proofs.SectionLemmas.{AreFaults, IsWorth, faults_are, last_none, section_broken, worth_limits, worth_sums}
use Rattle.oc_coff_judge.proofs.section_stage.judge_section.Goals as goal

pub overflow_add-sizes : goal.overflow_add-sizes
overflow_add-sizes c = let few = c.requires.sums.sizes_few in omega (arith, few, c.size_of-size.ensures.few)

pub overflow_add-bytes : goal.overflow_add-bytes
overflow_add-bytes c =
    let few = c.requires.sums.bytes_few in omega (arith, few, c.stored_of.ensures.few, c.size_of-size.ensures.size, c.size_of-size.ensures.few)

pub returns-in-Some-clause-fault : goal.returns-in-Some-clause-fault
returns-in-Some-clause-fault c =
    let file = c.args.coff.now in
    let worth : IsWorth file c.args.i c.args.sums.sizes c.args.sums.bytes c.size_of-size.result c.stored_of.result c.section-h.result c.kind_in-kind.result
    = record { here = c.section-h.ensures; sums = c.requires.sums; kind_is = c.kind_in-kind.ensures; size_is = c.size_of-size.ensures.size; stored_is = c.stored_of.ensures.size } in
    let are : AreFaults c.name_fault.result c.copies_fault.result c.form_fault.result c.raw_fault.result c.table_fault.result c.limit_fault.result c.earlier.result
    = record { tables = c.earlier-tables.result; raw = c.earlier-raw.result; forms = c.earlier-forms.result; copies = c.earlier-copies.result; tables_is = c.earlier-tables.ensures; raw_is = c.earlier-raw.ensures; forms_is = c.earlier-forms.ensures; copies_is = c.earlier-copies.ensures; all_is = c.earlier.ensures } in
    section_broken file c.args.i c.section-h.result c.section-h.ensures
    ∙ sym (faults_are _ _ _ _ _ _ _ are _ _ _ _ _ _ c.name_fault.ensures c.copies_fault.ensures c.form_fault.ensures c.raw_fault.ensures c.table_fault.ensures
    (c.limit_fault.ensures ∙ worth_limits file c.args.i c.args.sums.sizes c.args.sums.bytes c.size_of-size.result c.stored_of.result c.section-h.result c.kind_in-kind.result worth))
    ∙ c.in-Some.is

pub returns-in-None-clause-clean : goal.returns-in-None-clause-clean
returns-in-None-clause-clean c =
    let file = c.args.coff.now in
    let worth : IsWorth file c.args.i c.args.sums.sizes c.args.sums.bytes c.size_of-size.result c.stored_of.result c.section-h.result c.kind_in-kind.result
    = record { here = c.section-h.ensures; sums = c.requires.sums; kind_is = c.kind_in-kind.ensures; size_is = c.size_of-size.ensures.size; stored_is = c.stored_of.ensures.size } in
    let are : AreFaults c.name_fault.result c.copies_fault.result c.form_fault.result c.raw_fault.result c.table_fault.result c.limit_fault.result c.earlier.result
    = record { tables = c.earlier-tables.result; raw = c.earlier-raw.result; forms = c.earlier-forms.result; copies = c.earlier-copies.result; tables_is = c.earlier-tables.ensures; raw_is = c.earlier-raw.ensures; forms_is = c.earlier-forms.ensures; copies_is = c.earlier-copies.ensures; all_is = c.earlier.ensures } in
    section_broken file c.args.i c.section-h.result c.section-h.ensures
    ∙ sym (faults_are _ _ _ _ _ _ _ are _ _ _ _ _ _ c.name_fault.ensures c.copies_fault.ensures c.form_fault.ensures c.raw_fault.ensures c.table_fault.ensures
    (c.limit_fault.ensures ∙ worth_limits file c.args.i c.args.sums.sizes c.args.sums.bytes c.size_of-size.result c.stored_of.result c.section-h.result c.kind_in-kind.result worth))
    ∙ c.in-None.is

pub returns-in-None-clause-sums : goal.returns-in-None-clause-sums
returns-in-None-clause-sums c =
    let file = c.args.coff.now in
    let worth : IsWorth file c.args.i c.args.sums.sizes c.args.sums.bytes c.size_of-size.result c.stored_of.result c.section-h.result c.kind_in-kind.result
    = record { here = c.section-h.ensures; sums = c.requires.sums; kind_is = c.kind_in-kind.ensures; size_is = c.size_of-size.ensures.size; stored_is = c.stored_of.ensures.size } in
    let are : AreFaults c.name_fault.result c.copies_fault.result c.form_fault.result c.raw_fault.result c.table_fault.result c.limit_fault.result c.earlier.result
    = record { tables = c.earlier-tables.result; raw = c.earlier-raw.result; forms = c.earlier-forms.result; copies = c.earlier-copies.result; tables_is = c.earlier-tables.ensures; raw_is = c.earlier-raw.ensures; forms_is = c.earlier-forms.ensures; copies_is = c.earlier-copies.ensures; all_is = c.earlier.ensures } in
    worth_sums file c.args.i c.args.sums.sizes c.args.sums.bytes c.size_of-size.result c.stored_of.result c.section-h.result c.kind_in-kind.result worth
    (sym c.limit_fault.ensures ∙ last_none _ _ _ _ _ _ _ are c.in-None.is)
