use Rattle.std.proofs.Common.{[], Ok, length, arith, ◌≤◌, ◌^◌, ◌≡◌, List, None, sym, ◌∙◌, ap, subst}
use Rattle.std.proofs.lemmas.Bool.Decides.{nat_tests}
use Rattle.oc_names.specs.{declared.edit.Edit.{Edit}, Naming.{named_object, all_named, groups_named, parts_fault}}
use Rattle.oc_names.proofs.{Unedited.{named_object_same, no_items}, FieldBounds.{parts_same}, NamedObject.{named_is_object}}
use Rattle.std.specs.List.{AllByRecursion}
use Rattle.oc_base.specs.declared.format.Format.{Format}
use Rattle.oc_neutral.specs.{declared.group.Group.{Group}, declared.section.Section.{Section}, declared.symbol.Symbol.{Symbol}, Objects.{Object}}
use Rattle.oc_neutral.specs.Invariants.{AreBytes, IsObject}
use Rattle.oc_names.proofs.applying.named.Goals as goal

pub new-requires : goal.new-requires
new-requires c =
    let n : Object = c.args.neutral in
    let all = all_named c.args.edits.now n.format c.args.to n.symbols in
    let keys = groups_named c.args.edits.now n.format c.args.to n.symbols n.groups in
    let edits = c.args.edits.now in
    let parts = c.into_parts-groups in
    let groups : c.in_ok-groups.groups.items ≡ keys =
    c.in_ok-groups.ensures.groups
    ∙ ap (λ (f : Format). groups_named edits f c.args.to parts.result.2.items parts.result.0.items) c.format-from.ensures
    ∙ ap (λ (ys : List Symbol). groups_named edits n.format c.args.to ys parts.result.0.items) parts.ensures.symbols
    ∙ ap (groups_named edits n.format c.args.to n.symbols) parts.ensures.groups in
    let symbols : c.in_ok-groups.symbols.items ≡ all =
    c.in_ok-groups.ensures.symbols
    ∙ ap (λ (f : Format). all_named edits f c.args.to parts.result.2.items) c.format-from.ensures
    ∙ ap (all_named edits n.format c.args.to) parts.ensures.symbols in
    let clean : parts_fault edits n.format c.args.to n.sections n.groups n.symbols ≡ None =
    sym (ap (λ (f : Format). parts_fault edits f c.args.to c.as_slice.result.now parts.result.0.items parts.result.2.items) c.format-from.ensures
    ∙ ap (λ (ss : List Section). parts_fault edits n.format c.args.to ss parts.result.0.items parts.result.2.items) (c.as_slice.ensures.value ∙ parts.ensures.sections)
    ∙ ap (λ (gs : List Group). parts_fault edits n.format c.args.to n.sections gs parts.result.2.items) parts.ensures.groups
    ∙ ap (parts_fault edits n.format c.args.to n.sections n.groups) parts.ensures.symbols)
    ∙ c.in_ok-groups.ensures.clean in
    let names : AllByRecursion (λ (s : Symbol). AreBytes s.name) all = subst (λ (ys : List Symbol). AllByRecursion (λ (s : Symbol). AreBytes s.name) ys) (c.as_slice-3.ensures.value ∙ symbols) c.names_are_bytes.ensures in
    let bytes : AllByRecursion (λ (g : Group). AreBytes g.key) keys = subst (λ (gs : List Group). AllByRecursion (λ (g : Group). AreBytes g.key) gs) (c.as_slice-2.ensures.value ∙ groups) c.keys_are_bytes.ensures in
    subst (λ (m : Object). IsObject m)
    (sym (parts_same c.format-from.result n.format c.in_ok-groups.groups.items keys c.into_parts-groups.result.1.items n.sections c.in_ok-groups.symbols.items all c.into_parts-groups.result.3.lists n.relocs
    c.format-from.ensures groups c.into_parts-groups.ensures.sections symbols c.into_parts-groups.ensures.relocs))
    (named_is_object c.args.edits.now c.args.to n c.is_object.ensures clean names bytes)

pub returns-then-from-le-MOST_SYMBOLS-clause-ok : goal.returns-then-from-le-MOST_SYMBOLS-clause-ok
returns-then-from-le-MOST_SYMBOLS-clause-ok c =
    let empty : length c.args.edits.now ≡ 0 = grind (arith, nat_tests, c.is_empty.ensures, c.if-is_empty.true) in
    let none : c.args.edits.now ≡ [] = no_items c.args.edits.now empty in
    let few : length c.args.neutral.symbols ≤ 2 ^ 24 = omega (arith, c.symbol_count.ensures, c.from.ensures, c.if-from-le-MOST_SYMBOLS.true) in
    subst (λ (es : List Edit). named_object es c.args.to c.args.neutral ≡ Ok c.args.neutral) (sym none) (named_object_same c.args.neutral c.is_object.ensures c.args.to few)
