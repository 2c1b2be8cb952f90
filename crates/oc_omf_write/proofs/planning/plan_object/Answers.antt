-- What is made is the canonical file, entry by entry.
use Rattle.std.proofs.Common.{List, length, sym, ◌∙◌, ap, subst, arith}
use Rattle.std.specs.List.{AllByRecursion}
use Rattle.oc_target.specs.Fitted.{IsFitted}
use Rattle.oc_omf_file.proofs.CodedLaws.{for_omf}
use Rattle.oc_omf_write.specs.{declared.entries.Entry.{Entry}, Plans.{AreEntries, AreLaid}, Tables.{CanPut}}
use Rattle.oc_shelf.specs.Writing.Parts.{file_of}
use Rattle.oc_omf_write.proofs.{MadeLemmas.{made_sound, made_inside, few_sections, few_texts, made_few, made_put, made_same}, PlanLemmas.{file_is, placed}}
use Rattle.oc_omf_write.proofs.planning.plan_object.Goals as goal

pub entries_of-requires-clause-few : goal.entries_of-requires-clause-few
entries_of-requires-clause-few c =
    let fit = subst (λ f. IsFitted f c.args.fitted) c.requires c.is_fitted.ensures in
    few_sections c.args.fitted (for_omf c.args.fitted fit) c.in_ok-tables.tables c.in_ok-tables.symbols.items c.in_ok-tables.ensures

pub entries_of-requires-clause-names : goal.entries_of-requires-clause-names
entries_of-requires-clause-names c =
    let fit = subst (λ f. IsFitted f c.args.fitted) c.requires c.is_fitted.ensures in
    few_texts c.args.fitted (for_omf c.args.fitted fit) c.in_ok-tables.tables c.in_ok-tables.symbols.items c.in_ok-tables.ensures

pub entries_of-requires-clause-sound : goal.entries_of-requires-clause-sound
entries_of-requires-clause-sound c =
    let fit = subst (λ f. IsFitted f c.args.fitted) c.requires c.is_fitted.ensures in
    made_sound c.args.fitted (for_omf c.args.fitted fit) c.in_ok-tables.tables c.in_ok-tables.symbols.items c.in_ok-tables.ensures

pub entries_of-requires-clause-fixups : goal.entries_of-requires-clause-fixups
entries_of-requires-clause-fixups c =
    let fit = subst (λ f. IsFitted f c.args.fitted) c.requires c.is_fitted.ensures in
    made_inside c.args.fitted (for_omf c.args.fitted fit) c.in_ok-tables.tables c.in_ok-tables.symbols.items c.in_ok-tables.ensures

pub layout_of-requires-clause-few : goal.layout_of-requires-clause-few
layout_of-requires-clause-few c =
    let fit = subst (λ f. IsFitted f c.args.fitted) c.requires c.is_fitted.ensures in
    let es = c.in_ok-entries.entries.items in
    let are : AreEntries c.in_ok-tables.tables c.in_ok-tables.symbols.items es = subst (λ (ss : List Entry). AreEntries c.in_ok-tables.tables ss es) c.deref.ensures.value c.in_ok-entries.ensures in
    let few = made_few c.args.fitted (for_omf c.args.fitted fit) c.in_ok-tables.tables c.in_ok-tables.symbols.items c.in_ok-tables.ensures es c.is_fitted.ensures.few_symbols are in
    let same = ap length c.deref-2.ensures.value in
    omega (arith, few, same)

pub layout_of-requires-clause-sound : goal.layout_of-requires-clause-sound
layout_of-requires-clause-sound c =
    let fit = subst (λ f. IsFitted f c.args.fitted) c.requires c.is_fitted.ensures in
    made_sound c.args.fitted (for_omf c.args.fitted fit) c.in_ok-tables.tables c.in_ok-tables.symbols.items c.in_ok-tables.ensures

pub layout_of-requires-clause-fits : goal.layout_of-requires-clause-fits
layout_of-requires-clause-fits c =
    let fit = subst (λ f. IsFitted f c.args.fitted) c.requires c.is_fitted.ensures in
    let es = c.in_ok-entries.entries.items in
    let are : AreEntries c.in_ok-tables.tables c.in_ok-tables.symbols.items es = subst (λ (ss : List Entry). AreEntries c.in_ok-tables.tables ss es) c.deref.ensures.value c.in_ok-entries.ensures in
    subst (AllByRecursion (CanPut c.in_ok-tables.tables)) (sym c.deref-2.ensures.value)
    (made_put c.args.fitted (for_omf c.args.fitted fit) c.in_ok-tables.tables c.in_ok-tables.symbols.items c.in_ok-tables.ensures es are)

pub new-requires-clause-sound : goal.new-requires-clause-sound
new-requires-clause-sound c =
    let fit = subst (λ f. IsFitted f c.args.fitted) c.requires c.is_fitted.ensures in
    let t = c.in_ok-tables.tables in
    let es = c.in_ok-entries.entries.items in
    let are : AreEntries t c.in_ok-tables.symbols.items es = subst (λ (ss : List Entry). AreEntries t ss es) c.deref.ensures.value c.in_ok-entries.ensures in
    record {
      sound = made_sound c.args.fitted (for_omf c.args.fitted fit) t c.in_ok-tables.symbols.items c.in_ok-tables.ensures;
      fits = made_put c.args.fitted (for_omf c.args.fitted fit) t c.in_ok-tables.symbols.items c.in_ok-tables.ensures es are;
    }

pub new-requires-clause-placed : goal.new-requires-clause-placed
new-requires-clause-placed c =
    let t = c.in_ok-tables.tables in
    placed t c.in_ok-entries.entries.items c.in_ok-layout.layout (subst (AreLaid t c.in_ok-layout.layout) c.deref-2.ensures.value c.in_ok-layout.ensures)

pub returns : goal.returns
returns c =
    let fit = subst (λ f. IsFitted f c.args.fitted) c.requires c.is_fitted.ensures in
    let t = c.in_ok-tables.tables in
    let es = c.in_ok-entries.entries.items in
    let are : AreEntries t c.in_ok-tables.symbols.items es = subst (λ (ss : List Entry). AreEntries t ss es) c.deref.ensures.value c.in_ok-entries.ensures in
    ap file_of c.new.ensures
    ∙ file_is t es c.in_ok-layout.layout (subst (AreLaid t c.in_ok-layout.layout) c.deref-2.ensures.value c.in_ok-layout.ensures) c.args.fitted
    (made_same c.args.fitted (for_omf c.args.fitted fit) t c.in_ok-tables.symbols.items c.in_ok-tables.ensures es are)
