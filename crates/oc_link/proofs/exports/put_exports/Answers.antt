use Rattle.std.proofs.Common.{◌∙◌, ◌++◌, ap, string_bytes}
use Rattle.oc_link.specs.Pieces.{names_text_of}
use Rattle.oc_link.proofs.ExportLemmas.{exports_are}
use Rattle.oc_link.proofs.exports.put_exports.Goals as goal

pub returns : goal.returns
returns c =
    let n = c.args.object.now in
    let x = c.args.placed.now in
    c.in_ok-put_names.ensures
    ∙ ap (λ text. string_bytes c.args.out.now ++ text) (ap (names_text_of n x) c.deref.ensures.value ∙ exports_are n c.is_object.ensures x c.in_ok-names.names.items c.in_ok-names.ensures)
