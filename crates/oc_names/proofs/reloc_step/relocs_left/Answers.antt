use Rattle.std.proofs.Common.{◌≡◌, ℕ, ◌+◌, ◌<◌, ◌≤◌, ◌∷◌, ◌++◌, [], None, List, length, take, get_or, sym, ◌∙◌, ap, subst, arith}
use Rattle.std.specs.List.{AllByRecursion, filter_map, fold}
use Rattle.std.proofs.lemmas.{List.{length-set}, Option.{get_or_from_slice_get}, Result.{err_from_is_err_and}}
use Rattle.oc_base.specs.Stops.{IsStop}
use Rattle.oc_linking.specs.Fits.{bytes_of}
use Rattle.oc_chains.specs.{declared.field.Field.{Field}, Fields.{FollowFrom}, Lists.{Lists, held_in, list_of}}
use Rattle.oc_neutral.specs.{declared.section.Section.{Section}, declared.reloc.Reloc.{Reloc}}
use Rattle.oc_neutral.proofs.Positions.{each_weaker, there_at}
use Rattle.oc_drop.specs.Steps.{first_in}
use Rattle.oc_names.specs.Rebinding.{IsInside, kept_field, unfit_fault, with_constant, lists_left}
use Rattle.oc_names.proofs.FieldBounds.{IsNarrow}
use Rattle.oc_names.proofs.LeftLists.{fields_at, lists_more, lists_room, lists_all, left_apart, left_narrow, done_more, rest_stays, all_done, clean_more, stopped}
use Rattle.oc_names.proofs.reloc_step.relocs_left.Goals as goal

pub fields_left-requires : goal.fields_left-requires
fields_left-requires c =
    let lists : Lists Reloc = c.args.relocs.now.lists in
    let at : ℕ = c.loop-at.at in
    let counted = c.requires.fields.counted in
    let low : at < length lists = omega (arith, c.loop-at-test.true, c.section_count-at-end.ensures) in
    let s = there_at c.args.sections.now at (omega (arith, low, counted)) in
    let now = get_or_from_slice_get c.loop-at.sections at s.0 c.index-sections-at.result (c.loop-at.invariant.rest at (omega arith) ∙ s.1) in
    subst (λ (z : Section). AllByRecursion (λ (x : Field Reloc). x.at + bytes_of x.item.form.width ≤ length z.bytes) c.walk.result) (sym now)
    (subst (λ (xs : List (Field Reloc)). AllByRecursion (λ (x : Field Reloc). x.at + bytes_of x.item.form.width ≤ length s.0.bytes) xs) (sym c.walk.ensures.items)
    (each_weaker (IsInside s.0) (λ (x : Field Reloc). x.at + bytes_of x.item.form.width ≤ length s.0.bytes) (λ x is. is.0) (list_of lists at) (c.requires.fields.inside at s.0 s.1)))

pub returns-in_err-fields-clause-refused : goal.returns-in_err-fields-clause-refused
returns-in_err-fields-clause-refused c n is lists_are =
    let w = c.args.word in
    let symbols = c.args.symbols.now in
    let lists : Lists Reloc = c.args.relocs.now.lists in
    let at : ℕ = c.loop-at.at in
    let counted = c.requires.fields.counted in
    let low : at < length lists = omega (arith, c.loop-at-test.true, c.section_count-at-end.ensures) in
    let s = there_at c.args.sections.now at (omega (arith, low, counted)) in
    let now = get_or_from_slice_get c.loop-at.sections at s.0 c.index-sections-at.result (c.loop-at.invariant.rest at (omega arith) ∙ s.1) in
    let p = err_from_is_err_and c.from_residual.result c.from_residual.ensures.1 in
    let told : IsStop (first_in (unfit_fault w symbols at s.0) (list_of lists at)) c.in_err-fields.field-0.0 =
    subst (λ (z : Section). IsStop (first_in (unfit_fault w symbols at z) (list_of lists at)) c.in_err-fields.field-0.0) now
    (subst (λ (xs : List (Field Reloc)). IsStop (first_in (unfit_fault w symbols at (get_or c.loop-at.sections at c.index-sections-at.result)) xs) c.in_err-fields.field-0.0) c.walk.ensures.items c.in_err-fields.ensures.refused) in
    rw (p.1, p.2) (stopped w symbols c.args.sections.now lists c.requires.fields n at s.0 c.in_err-fields.field-0.0 is lists_are s.1 (c.loop-at.invariant.clean n is lists_are) told)

pub add_list-requires-clause-apart : goal.add_list-requires-clause-apart
add_list-requires-clause-apart c =
    let w = c.args.word in
    let symbols = c.args.symbols.now in
    let lists : Lists Reloc = c.args.relocs.now.lists in
    let at : ℕ = c.loop-at.at in
    let fields : c.as_slice.result.now ≡ fields_at w symbols c.args.sections.now lists c.requires.fields at =
    c.as_slice.ensures.value ∙ c.in_ok-fields.ensures.fields ∙ ap (λ (xs : List (Field Reloc)). filter_map (kept_field w symbols at) xs) c.walk.ensures.items in
    subst (λ (xs : List (Field Reloc)). FollowFrom 0 xs) (sym fields) (left_apart w symbols c.args.sections.now lists c.requires.fields at)

pub add_list-requires-clause-narrow : goal.add_list-requires-clause-narrow
add_list-requires-clause-narrow c =
    let w = c.args.word in
    let symbols = c.args.symbols.now in
    let lists : Lists Reloc = c.args.relocs.now.lists in
    let at : ℕ = c.loop-at.at in
    let low : at < length lists = omega (arith, c.loop-at-test.true, c.section_count-at-end.ensures) in
    let fields : c.as_slice.result.now ≡ fields_at w symbols c.args.sections.now lists c.requires.fields at =
    c.as_slice.ensures.value ∙ c.in_ok-fields.ensures.fields ∙ ap (λ (xs : List (Field Reloc)). filter_map (kept_field w symbols at) xs) c.walk.ensures.items in
    subst (λ (xs : List (Field Reloc)). AllByRecursion IsNarrow xs) (sym fields) (left_narrow w symbols c.args.sections.now lists c.requires.fields at low)

pub add_list-requires-clause-room : goal.add_list-requires-clause-room
add_list-requires-clause-room c =
    let w = c.args.word in
    let symbols = c.args.symbols.now in
    let lists : Lists Reloc = c.args.relocs.now.lists in
    let at : ℕ = c.loop-at.at in
    let low : at < length lists = omega (arith, c.loop-at-test.true, c.section_count-at-end.ensures) in
    let fields : c.as_slice.result.now ≡ fields_at w symbols c.args.sections.now lists c.requires.fields at =
    c.as_slice.ensures.value ∙ c.in_ok-fields.ensures.fields ∙ ap (λ (xs : List (Field Reloc)). filter_map (kept_field w symbols at) xs) c.walk.ensures.items in
    let a = ap (λ (xs : List (Field Reloc)). length xs) fields in
    let b = ap (λ (ls : Lists Reloc). held_in ls) c.loop-at.invariant.lists in
    let d = lists_room w symbols c.args.sections.now lists c.requires.fields at low in
    let e = c.requires.fields.held in
    omega (arith, a, b, d, e)

pub loop-at-preserved : goal.loop-at-preserved
loop-at-preserved c =
    let w = c.args.word in
    let symbols = c.args.symbols.now in
    let lists : Lists Reloc = c.args.relocs.now.lists in
    let at : ℕ = c.loop-at.at in
    let counted = c.requires.fields.counted in
    let low : at < length lists = omega (arith, c.loop-at-test.true, c.section_count-at-end.ensures) in
    let s = there_at c.args.sections.now at (omega (arith, low, counted)) in
    let now = get_or_from_slice_get c.loop-at.sections at s.0 c.index-sections-at.result (c.loop-at.invariant.rest at (omega arith) ∙ s.1) in
    let fields : c.as_slice.result.now ≡ fields_at w symbols c.args.sections.now lists c.requires.fields at =
    c.as_slice.ensures.value ∙ c.in_ok-fields.ensures.fields ∙ ap (λ (xs : List (Field Reloc)). filter_map (kept_field w symbols at) xs) c.walk.ensures.items in
    let section : c.fields_left.new.section ≡ fold (with_constant w symbols at) s.0 (list_of lists at) =
    c.in_ok-fields.ensures.section ∙ ap (λ (z : Section). fold (with_constant w symbols at) z c.walk.result) now ∙ ap (fold (with_constant w symbols at) s.0) c.walk.ensures.items in
    let clean : first_in (unfit_fault w symbols at s.0) (list_of lists at) ≡ None =
    sym (ap (λ (z : Section). first_in (unfit_fault w symbols at z) c.walk.result) now ∙ ap (first_in (unfit_fault w symbols at s.0)) c.walk.ensures.items) ∙ c.in_ok-fields.ensures.clean in
    record {
      lists = c.in_ok-add_list.ensures
          ∙ ap (λ (ls : Lists Reloc). ls ++ c.as_slice.result.now ∷ []) c.loop-at.invariant.lists
          ∙ ap (λ (xs : List (Field Reloc)). take at (lists_left w symbols lists) ++ xs ∷ []) fields
          ∙ sym (lists_more w symbols c.args.sections.now lists c.requires.fields at low);
      long = length-set c.loop-at.sections at c.fields_left.new.section ∙ c.loop-at.invariant.long;
      done = done_more w symbols c.args.sections.now lists c.requires.fields c.loop-at.sections at s.0 c.fields_left.new.section s.1 section c.loop-at.invariant.long c.loop-at.invariant.done;
      rest = rest_stays w symbols c.args.sections.now lists c.requires.fields c.loop-at.sections at c.fields_left.new.section c.loop-at.invariant.rest;
      clean = λ n is lists_are. clean_more w symbols c.args.sections.now lists c.requires.fields n at s.0 is lists_are s.1 (c.loop-at.invariant.clean n is lists_are) clean;
    }

pub returns-clause-relocs : goal.returns-clause-relocs
returns-clause-relocs c =
    c.of.ensures.lists ∙ c.loop-at.invariant.lists
    ∙ lists_all c.args.word c.args.symbols.now c.args.sections.now c.args.relocs.now.lists c.requires.fields c.loop-at.at (omega (arith, c.loop-at-test.false, c.section_count-at-end.ensures))

pub returns-clause-sections : goal.returns-clause-sections
returns-clause-sections c =
    let counted = c.requires.fields.counted in
    all_done c.args.word c.args.symbols.now c.args.sections.now c.args.relocs.now.lists c.requires.fields c.loop-at.sections c.loop-at.at c.loop-at.invariant.long
    (omega (arith, c.loop-at-test.false, c.section_count-at-end.ensures, counted)) c.loop-at.invariant.done
