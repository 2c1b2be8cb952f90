use Rattle.std.proofs.Common.{◌≡◌, ◌∙◌, ap, of_z, rules, to_z, w64}
use mir.Syntax.{w128}
use Rattle.oc_algebra.specs.Residues.{residue_of}
use Rattle.oc_base.specs.Formats.{word_for}
use Rattle.oc_link.proofs.ValueLemmas.{patch_is}
use Rattle.oc_link.proofs.fields.patch_of.Goals as goal

pub returns : goal.returns
returns c =
    let n = c.args.object.now in
    let a : to_z w64 (of_z w64 c.args.field.item.addend) ≡ c.args.field.item.addend = search rules in
    let b : to_z w128 (of_z w128 c.into.result) ≡ c.into.result = search rules in
    patch_is n c.args.placed.now c.args.section c.args.field c.value_of-target.result c.word_of-word.result c.base_of-base.result c.residue-addend.result c.less_of-less.result c.sum_less.result
    (c.word_of-word.ensures ∙ ap word_for c.format.ensures) c.value_of-target.ensures (c.base_of-base.ensures n) (c.residue-addend.ensures ∙ ap (residue_of c.word_of-word.result) (b ∙ c.into.ensures ∙ a))
    (c.less_of-less.ensures n) c.sum_less.ensures
