use Rattle.std.proofs.Common.{◌∙◌, ◌++◌, ap, arith, string_bytes, sym}
use Rattle.oc_link.proofs.TextLemmas.{bytes_is, few_bytes, zeros_is}
use Rattle.oc_link.proofs.sections.put_image.Goals as goal

pub put_bytes-requires : goal.put_bytes-requires
put_bytes-requires c =
    let few = few_bytes c.args.object.now c.is_object.ensures c.args.placed.now c.args.section c.section-itself.result.now c.section-itself.ensures c.as_slice.result.now
    (c.as_slice.ensures ∙ c.in_ok-bytes.ensures) in
    omega (arith, few)

pub returns-then-is_zero : goal.returns-then-is_zero
returns-then-is_zero c =
    c.in_ok-put_zeros.ensures
    ∙ ap (λ text. string_bytes c.args.out.now ++ text)
    (zeros_is c.args.object.now c.is_object.ensures c.args.placed.now c.args.section c.section-itself.result.now c.section-itself.ensures c.requires.kept (sym c.is_zero.ensures ∙ c.if-is_zero.true))

pub returns : goal.returns
returns c =
    c.in_ok-put_bytes.ensures
    ∙ ap (λ text. string_bytes c.args.out.now ++ text)
    (bytes_is c.args.object.now c.is_object.ensures c.args.placed.now c.args.section c.section-itself.result.now c.section-itself.ensures c.requires.kept (sym c.is_zero.ensures ∙ c.if-is_zero.false)
    c.as_slice.result.now (c.as_slice.ensures ∙ c.in_ok-bytes.ensures))
