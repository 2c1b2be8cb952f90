use Rattle.std.proofs.Common.{◌∙◌, ◌++◌, ap, string_bytes, sym}
use Rattle.std.proofs.lemmas.List.{append_assoc}
use Rattle.oc_base.specs.Formats.{word_for}
use Rattle.oc_link.specs.{Texts.{head_text}, Pieces.{image_text_of}}
use Rattle.oc_link.proofs.TextLemmas.{whole_is}
use Rattle.oc_link.proofs.sections.put_section.Goals as goal

pub returns : goal.returns
returns c =
    let n = c.args.object.now in
    let x = c.args.placed.now in
    let s = c.args.section in
    let y = c.section.result.now in
    let out = string_bytes c.args.out.now in
    c.in_ok-put_image.ensures
    ∙ ap (λ text. text ++ image_text_of n x s) (c.in_ok-put_head.ensures ∙ ap (λ w. out ++ head_text w s c.section-2.result.address y.size) (c.word_of.ensures ∙ ap word_for c.format.ensures))
    ∙ append_assoc out (head_text (word_for n.format) s c.section-2.result.address y.size) (image_text_of n x s)
    ∙ ap (λ text. out ++ text) (whole_is n c.is_object.ensures x s y c.section.ensures (sym c.is_discarded.ensures ∙ c.if-is_discarded.false) c.section-2.result c.section-2.ensures)
