use Rattle.std.proofs.Common.{◌≡◌, Bool, List, map, slice_get, sym, ◌∙◌, ap, subst}
use Rattle.std.specs.List.{filter_map}
use Rattle.oc_linking.specs.Keeping.{kept_of}
use Rattle.oc_neutral.specs.{Objects.{Object}, Invariants.{IsObject}, Without.{groups_left, left_of, regrouped}}
use Rattle.oc_neutral.proofs.{SameParts.{parts_same}, LeftObject.{left_is_object}}
use Rattle.oc_neutral.proofs.without.left_of.Goals as goal

pub new-requires-3 : goal.new-requires-3
new-requires-3 c =
    let n : Object = c.args.neutral in
    let stay : List Bool = c.args.stay.now in
    let flags : List Bool = c.args.flags.now in
    let parts = c.into_parts-groups in
    let begun : c.in_ok-left.left.groups.items ≡ groups_left (kept_of stay n.sections) =
    c.in_ok-left.ensures.groups ∙ ap (λ ss. groups_left (kept_of stay ss)) (c.as_slice.ensures.value ∙ parts.ensures.sections) in
    let groups : c.in_ok-groups.groups.items ≡ (left_of stay flags n).groups =
    c.in_ok-groups.ensures
    ∙ ap (λ gs. filter_map (slice_get gs) c.as_slice-3.result.now) (c.as_slice-2.ensures.value ∙ parts.ensures.groups)
    ∙ ap (filter_map (slice_get n.groups)) (c.as_slice-3.ensures.value ∙ begun) in
    let sections : c.sections_left.new.sections.items ≡ (left_of stay flags n).sections =
    c.sections_left.ensures
    ∙ ap (λ gs. map (regrouped gs) (kept_of stay parts.result.1.items)) begun
    ∙ ap (λ ss. map (regrouped (groups_left (kept_of stay n.sections))) (kept_of stay ss)) parts.ensures.sections in
    let symbols : c.symbols_left.new.symbols.items ≡ (left_of stay flags n).symbols = cc (c.symbols_left.ensures, c.in_ok-moves.ensures, c.in_ok-renamed.ensures, parts.ensures.symbols) in
    let relocs : c.moved_relocs.new.relocs.lists ≡ (left_of stay flags n).relocs = cc (c.in_ok-moved_relocs.ensures, c.in_ok-moves.ensures, c.in_ok-renamed.ensures, parts.ensures.relocs) in
    let made = parts_same _ (left_of stay flags n) c.format-format.ensures groups sections symbols relocs in
    subst (λ (m : Object). IsObject m) (sym (made ∙ ap (λ (ys : List Bool). left_of stay ys n) c.requires.symbols)) (left_is_object stay n c.is_object.ensures c.requires.sections c.requires.clean)

pub returns : goal.returns
returns c =
    let n : Object = c.args.neutral in
    let stay : List Bool = c.args.stay.now in
    let flags : List Bool = c.args.flags.now in
    let parts = c.into_parts-groups in
    let begun : c.in_ok-left.left.groups.items ≡ groups_left (kept_of stay n.sections) =
    c.in_ok-left.ensures.groups ∙ ap (λ ss. groups_left (kept_of stay ss)) (c.as_slice.ensures.value ∙ parts.ensures.sections) in
    let groups : c.in_ok-groups.groups.items ≡ (left_of stay flags n).groups =
    c.in_ok-groups.ensures
    ∙ ap (λ gs. filter_map (slice_get gs) c.as_slice-3.result.now) (c.as_slice-2.ensures.value ∙ parts.ensures.groups)
    ∙ ap (filter_map (slice_get n.groups)) (c.as_slice-3.ensures.value ∙ begun) in
    let sections : c.sections_left.new.sections.items ≡ (left_of stay flags n).sections =
    c.sections_left.ensures
    ∙ ap (λ gs. map (regrouped gs) (kept_of stay parts.result.1.items)) begun
    ∙ ap (λ ss. map (regrouped (groups_left (kept_of stay n.sections))) (kept_of stay ss)) parts.ensures.sections in
    let symbols : c.symbols_left.new.symbols.items ≡ (left_of stay flags n).symbols = cc (c.symbols_left.ensures, c.in_ok-moves.ensures, c.in_ok-renamed.ensures, parts.ensures.symbols) in
    let relocs : c.moved_relocs.new.relocs.lists ≡ (left_of stay flags n).relocs = cc (c.in_ok-moved_relocs.ensures, c.in_ok-moves.ensures, c.in_ok-renamed.ensures, parts.ensures.relocs) in
    c.new-3.ensures ∙ parts_same _ (left_of stay flags n) c.format-format.ensures groups sections symbols relocs
