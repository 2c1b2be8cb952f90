-- Each return by what was looked up so far: the row of the type, and the symbol.
use Rattle.std.proofs.Common.{◌∙◌, true, false, Some, refl, sym, ap}
use Rattle.oc_elf_judge.proofs.RelocLemmas.{aimed_by, lies_by, meant, nameable_there, not_meant, own_by}
use Rattle.oc_elf_judge.proofs.relocs.own_width.Goals as goal

pub returns-in-None-clause-fault : goal.returns-in-None-clause-fault
returns-in-None-clause-fault c =
    let f = c.args.frame.now in
    let r = c.args.r.now in
    own_by f c.args.i c.args.place r true _ _ _ (not_meant f r c.class.result c.meaning_of.result c.class.ensures c.meaning_of.ensures c.in-None.is) refl refl refl ∙ ap (λ x. Some x) (sym c.reloc_fault.ensures)

pub returns-then-not-lies_within-clause-fault : goal.returns-then-not-lies_within-clause-fault
returns-then-not-lies_within-clause-fault c =
    let f = c.args.frame.now in
    let r = c.args.r.now in
    let m = meant f r c.in-Some.meaning c.class.result c.meaning_of.result c.class.ensures c.meaning_of.ensures c.in-Some.is in
    let lies = lies_by f c.args.i r c.header.result c.from-width.result c.lies_within.result c.header.ensures (c.from-width.ensures ∙ c.bytes.ensures ∙ sym m.width) c.lies_within.ensures in
    own_by f c.args.i c.args.place r false false _ _ m.listed (lies ∙ c.if-not-lies_within.true) refl refl ∙ ap (λ x. Some x) (sym c.reloc_fault-then-not-lies_within.ensures)

pub returns-then-not-is_nameable-clause-fault : goal.returns-then-not-is_nameable-clause-fault
returns-then-not-is_nameable-clause-fault c =
    let f = c.args.frame.now in
    let r = c.args.r.now in
    let m = meant f r c.in-Some.meaning c.class.result c.meaning_of.result c.class.ensures c.meaning_of.ensures c.in-Some.is in
    let lies = lies_by f c.args.i r c.header.result c.from-width.result c.lies_within.result c.header.ensures (c.from-width.ensures ∙ c.bytes.ensures ∙ sym m.width) c.lies_within.ensures in
    own_by f c.args.i c.args.place r false true false _ m.listed (lies ∙ c.if-not-lies_within.false) (sym c.is_nameable.ensures ∙ c.if-not-is_nameable.true) refl
    ∙ ap (λ x. Some x) (sym c.reloc_fault-then-not-is_nameable.ensures)

pub is_target-requires-clause-there : goal.is_target-requires-clause-there
is_target-requires-clause-there c = nameable_there c.args.frame.now c.args.r.now.r_sym (sym c.is_nameable.ensures ∙ c.if-not-is_nameable.false)

pub returns-then-not-is_target-clause-fault : goal.returns-then-not-is_target-clause-fault
returns-then-not-is_target-clause-fault c =
    let f = c.args.frame.now in
    let r = c.args.r.now in
    let m = meant f r c.in-Some.meaning c.class.result c.meaning_of.result c.class.ensures c.meaning_of.ensures c.in-Some.is in
    let lies = lies_by f c.args.i r c.header.result c.from-width.result c.lies_within.result c.header.ensures (c.from-width.ensures ∙ c.bytes.ensures ∙ sym m.width) c.lies_within.ensures in
    let aimed = aimed_by f r c.in-Some.meaning.form.base c.is_target.result m.address c.is_target.ensures in
    own_by f c.args.i c.args.place r false true true false m.listed (lies ∙ c.if-not-lies_within.false) (sym c.is_nameable.ensures ∙ c.if-not-is_nameable.false) (aimed ∙ c.if-not-is_target.true)
    ∙ ap (λ x. Some x) (sym c.reloc_fault-then-not-is_target.ensures)

pub returns-clause-clean : goal.returns-clause-clean
returns-clause-clean c =
    let f = c.args.frame.now in
    let r = c.args.r.now in
    let m = meant f r c.in-Some.meaning c.class.result c.meaning_of.result c.class.ensures c.meaning_of.ensures c.in-Some.is in
    let lies = lies_by f c.args.i r c.header.result c.from-width.result c.lies_within.result c.header.ensures (c.from-width.ensures ∙ c.bytes.ensures ∙ sym m.width) c.lies_within.ensures in
    let aimed = aimed_by f r c.in-Some.meaning.form.base c.is_target.result m.address c.is_target.ensures in
    own_by f c.args.i c.args.place r false true true true m.listed (lies ∙ c.if-not-lies_within.false) (sym c.is_nameable.ensures ∙ c.if-not-is_nameable.false) (aimed ∙ c.if-not-is_target.false)

pub returns-clause-width : goal.returns-clause-width
returns-clause-width c =
    let m = meant c.args.frame.now c.args.r.now c.in-Some.meaning c.class.result c.meaning_of.result c.class.ensures c.meaning_of.ensures c.in-Some.is in
    c.from-width.ensures ∙ c.bytes.ensures ∙ sym m.width
