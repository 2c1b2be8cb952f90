use Rattle.std.proofs.Common.{◌≡◌, ℕ, ◌+◌, ◌∙◌, List, [], Some, length, get_or, slice_get, subst, sym, ap, arith}
use Rattle.std.proofs.lemmas.List.{take_all}
use Rattle.oc_neutral.specs.{declared.section.Section.{Section}, Dressing.{dressed}, HomeNames.{output_tag}, Invariants.{IsAlign}, Objects.{Object}}
use Rattle.oc_target.specs.Dress.{dressed_at}
use Rattle.oc_target.proofs.{Aligning.{align_is}, Dressing.{dressed_more, from, from_long, name_taken}, Lately.{lately_none}}
use Rattle.oc_target.proofs.dress.dress_sections.Goals as goal

pub loop-name-init : goal.loop-name-init
loop-name-init c =
    let n : Object = c.args.neutral.now in
    let names = c.args.names.items in
    let long : length names ≡ length n.sections = c.requires in
    record {
      names = sym (take_all (length names) names (omega arith));
      few = omega (arith, long);
      object = sym (ap (λ (xs : List Section). with_sections n xs) (lately_none (dressed_at c.args.target n.format names) 0 (length names) n.sections (omega (arith, long))));
    }
  where
    with_sections : Object → List Section → Object
    with_sections n sections = record { format = n.format; groups = n.groups; sections = sections; symbols = n.symbols; relocs = n.relocs }

pub section-section-requires : goal.section-section-requires
section-section-requires c =
    let n : Object = c.args.neutral.now in
    let names = c.args.names.items in
    let inv = c.loop-name.invariant in
    let t = name_taken names c.loop-name.names.items c.pop.new.self.items c.in-Some.name (length n.sections) c.in-Some.ensures.items inv.names inv.few c.requires in
    let low = t.2 in
    let long = ap (λ (m : Object). length m.sections) inv.object ∙ from_long c.args.target n names (length c.loop-name.names.items) in
    omega (arith, low, long, c.len-k.ensures, c.pop.new.self.ok.0)

pub dress_section-requires-clause-there : goal.dress_section-requires-clause-there
dress_section-requires-clause-there c =
    let n : Object = c.args.neutral.now in
    let names = c.args.names.items in
    let inv = c.loop-name.invariant in
    let t = name_taken names c.loop-name.names.items c.pop.new.self.items c.in-Some.name (length n.sections) c.in-Some.ensures.items inv.names inv.few c.requires in
    let low = t.2 in
    let long = ap (λ (m : Object). length m.sections) inv.object ∙ from_long c.args.target n names (length c.loop-name.names.items) in
    omega (arith, low, long, c.len-k.ensures, c.pop.new.self.ok.0)

pub dress_section-requires-clause-align : goal.dress_section-requires-clause-align
dress_section-requires-clause-align c = subst (λ a. IsAlign a) (sym c.output_align-align.ensures) (align_is c.args.target c.section-section.result.now.align)

pub loop-name-preserved : goal.loop-name-preserved
loop-name-preserved c =
    let n : Object = c.args.neutral.now in
    let target = c.args.target in
    let names = c.args.names.items in
    let inv = c.loop-name.invariant in
    let left = c.pop.new.self.items in
    let k : ℕ = c.len-k.result in
    let s = c.section-section.result.now in
    let t = name_taken names c.loop-name.names.items left c.in-Some.name (length n.sections) c.in-Some.ensures.items inv.names inv.few c.requires in
    let low = t.2 in
    let one = t.3 in
    let same : k ≡ length left = omega (arith, c.len-k.ensures, c.pop.new.self.ok.0) in
    let next : length c.loop-name.names.items ≡ k + 1 = omega (arith, one, same) in
    let object : c.loop-name.neutral ≡ from target n names (k + 1) = inv.object ∙ ap (from target n names) next in
    let here : slice_get (from target n names (k + 1)).sections k ≡ Some s = ap (λ (m : Object). slice_get m.sections k) (sym object) ∙ c.section-section.ensures in
    record {
      names = t.0;
      few = omega (arith, low);
      object =
          c.dress_section.ensures
          ∙ ap (λ (m : Object). dressed m k c.in-Some.name c.output_tag-tag.result c.output_align-align.result) object
          ∙ dressed_more target n names k s here c.in-Some.name (t.1 ∙ ap (λ j. get_or names j []) (sym same))
          c.output_tag-tag.result (c.output_tag-tag.ensures ∙ ap (λ f. output_tag target f s) c.format-from.ensures) c.output_align-align.result c.output_align-align.ensures
          ∙ ap (from target n names) same;
    }
