use Rattle.std.proofs.Common.{[], Ok, arith, ◌≡◌, List, length, refl, sym, ◌∙◌, ap, subst}
use Rattle.std.proofs.lemmas.{Bool.Decides.{nat_tests}, Result.{err_from_is_err_and}}
use Rattle.oc_names.specs.declared.edit.Edit.{Edit}
use Rattle.oc_names.specs.Rebinding.{rebound_object, AreStorable, after_fallbacks, after_relocs, after_words, lists_left, normalized, sections_left, unfit_fault}
use Rattle.oc_names.proofs.{Unedited.{no_items, rebound_same}, FieldBounds.{parts_same, storable}, LeftLists.{sections_long, written_back}}
use Rattle.oc_names.proofs.{NormalObject.{normalized_is_object}, ReboundSymbols.{symbols_after}}
use Rattle.oc_base.specs.{declared.format.Word.{Word}, Formats.{word_for}, Stops.{IsStop}}
use Rattle.oc_chains.specs.Lists.{Lists}
use Rattle.oc_neutral.specs.{declared.section.Section.{Section}, declared.symbol.Symbol.{Symbol}, declared.reloc.Reloc.{Reloc}, Objects.{Object}}
use Rattle.oc_neutral.specs.Invariants.{IsObject}
use Rattle.oc_drop.specs.Steps.{first_field, then_by}
use Rattle.oc_drop.proofs.StepLaws.{step_refused, then_step}
use Rattle.oc_names.proofs.rebind_step.rebound.Goals as goal

pub relocs_left-requires : goal.relocs_left-requires
relocs_left-requires c =
    let n : Object = c.args.neutral in
    let sections : c.as_mut_slice-places.result.now ≡ n.sections = c.as_mut_slice-places.ensures.value ∙ c.into_parts-groups.ensures.sections in
    record {
      fields = subst (λ (ss : List Section). AreStorable ss c.into_parts-groups.result.3.lists) (sym sections)
          (subst (λ (rs : Lists Reloc). AreStorable n.sections rs) (sym c.into_parts-groups.ensures.relocs) (storable n c.is_object.ensures));
    }

pub returns-in_err-relocs-clause-refused : goal.returns-in_err-relocs-clause-refused
returns-in_err-relocs-clause-refused c =
    let n : Object = c.args.neutral in
    let w : Word = word_for n.format in
    let symbols : List Symbol = c.in_ok-symbols.symbols.items in
    let sections : c.as_mut_slice-places.result.now ≡ n.sections = c.as_mut_slice-places.ensures.value ∙ c.into_parts-groups.ensures.sections in
    let word : c.word_of-word.result ≡ w = cc in
    let p = err_from_is_err_and c.from_residual-in_err-relocs.result c.from_residual-in_err-relocs.ensures.1 in
    let told : IsStop (first_field (unfit_fault w symbols) n) c.in_err-relocs.field-0.0 =
    subst (λ (v : Word). IsStop (first_field (unfit_fault v symbols) n) c.in_err-relocs.field-0.0) word
    (subst (λ (ys : List Symbol). IsStop (first_field (unfit_fault c.word_of-word.result ys) n) c.in_err-relocs.field-0.0) c.as_slice.ensures.value
    (c.in_err-relocs.ensures.refused n (sym sections) (sym c.into_parts-groups.ensures.relocs))) in
    rw (p.1, p.2) (then_step (after_relocs n) (then_by after_fallbacks (after_words c.args.edits.now n.symbols)) symbols c.in_err-relocs.field-0.0
    (ap (λ (ys : List Symbol). then_by after_fallbacks (after_words c.args.edits.now ys)) (sym c.into_parts-groups.ensures.symbols) ∙ c.in_ok-symbols.ensures.ok)
    (step_refused (first_field (unfit_fault w symbols) n) (normalized n symbols) c.in_err-relocs.field-0.0 told))

pub new-requires : goal.new-requires
new-requires c =
    let n : Object = c.args.neutral in
    let w : Word = word_for n.format in
    let symbols : List Symbol = c.in_ok-symbols.symbols.items in
    let word : c.word_of-word.result ≡ w = cc in
    let sections : c.as_mut_slice-places.result.now ≡ n.sections = c.as_mut_slice-places.ensures.value ∙ c.into_parts-groups.ensures.sections in
    let made : c.relocs_left.new.sections ≡ sections_left w symbols n.relocs n.sections =
    c.in_ok-relocs.ensures.sections
    ∙ ap (λ (v : Word). sections_left v c.as_slice.result.now c.into_parts-groups.result.3.lists c.as_mut_slice-places.result.now) word
    ∙ ap (λ (ys : List Symbol). sections_left w ys c.into_parts-groups.result.3.lists c.as_mut_slice-places.result.now) c.as_slice.ensures.value
    ∙ ap (λ (rs : Lists Reloc). sections_left w symbols rs c.as_mut_slice-places.result.now) c.into_parts-groups.ensures.relocs
    ∙ ap (sections_left w symbols n.relocs) sections in
    let lists : c.in_ok-relocs.relocs.lists ≡ lists_left w symbols n.relocs =
    c.in_ok-relocs.ensures.relocs
    ∙ ap (λ (v : Word). lists_left v c.as_slice.result.now c.into_parts-groups.result.3.lists) word
    ∙ ap (λ (ys : List Symbol). lists_left w ys c.into_parts-groups.result.3.lists) c.as_slice.ensures.value
    ∙ ap (lists_left w symbols) c.into_parts-groups.ensures.relocs in
    let long : length c.relocs_left.new.sections ≡ c.into_parts-groups.result.1.len =
    ap (λ (ss : List Section). length ss) made ∙ sections_long w symbols n.sections n.relocs (storable n c.is_object.ensures)
    ∙ sym (ap (λ (ss : List Section). length ss) c.into_parts-groups.ensures.sections) ∙ sym c.into_parts-groups.result.1.ok.0 in
    let back = written_back c.into_parts-groups.result.1.len c.relocs_left.new.sections c.into_parts-groups.result.1.items (sym c.into_parts-groups.result.1.ok.0) long in
    let ok = ap (λ (ys : List Symbol). then_by after_fallbacks (after_words c.args.edits.now ys)) (sym c.into_parts-groups.ensures.symbols) ∙ c.in_ok-symbols.ensures.ok in
    subst (λ (m : Object). IsObject m)
    (sym (parts_same c.format-format.result n.format c.into_parts-groups.result.0.items n.groups _ (sections_left w symbols n.relocs n.sections) symbols symbols c.in_ok-relocs.relocs.lists
    (lists_left w symbols n.relocs) c.format-format.ensures c.into_parts-groups.ensures.groups (back ∙ made) refl lists))
    (normalized_is_object n symbols c.is_object.ensures (symbols_after n c.is_object.ensures.complete.symbols c.args.edits.now symbols ok))

pub returns-then-is_empty-clause-ok : goal.returns-then-is_empty-clause-ok
returns-then-is_empty-clause-ok c =
    let empty : length c.args.edits.now ≡ 0 = grind (arith, nat_tests, c.is_empty.ensures, c.if-is_empty.true) in
    let none : c.args.edits.now ≡ [] = no_items c.args.edits.now empty in
    subst (λ (es : List Edit). rebound_object es c.args.neutral ≡ Ok c.args.neutral) (sym none) (rebound_same c.args.neutral c.is_object.ensures)
