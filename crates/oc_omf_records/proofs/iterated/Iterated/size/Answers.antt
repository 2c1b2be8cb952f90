use Rattle.std.proofs.Common.{◌∙◌, ap, arith}
use Rattle.std.proofs.lemmas.Grind.{common_steps}
use Rattle.oc_omf_records.specs.{Blocks.{size_of}, Rows.{row_of}}
use Rattle.oc_omf_records.proofs.SizedLemmas.{row_of-Content, row_of-Nested, kept_size}
use Rattle.oc_omf_records.proofs.iterated.Iterated.size.Goals as goal

pub returns-in-Content : goal.returns-in-Content
returns-in-Content c =
    let row = ap (λ x. size_of (row_of x)) c.in-Content.is ∙ ap size_of (row_of-Content c.in-Content.count c.in-Content.place c.in-Content.bytes) in
    grind (arith, common_steps, row)

pub returns-in-Nested : goal.returns-in-Nested
returns-in-Nested c =
    let row = ap (λ x. size_of (row_of x)) c.in-Nested.is ∙ ap size_of (row_of-Nested c.in-Nested.count c.in-Nested.size c.in-Nested.blocks) in
    let kept = kept_size c.args.self.now c.in-Nested.count c.in-Nested.size c.in-Nested.blocks c.in-Nested.is c.requires in
    grind (arith, common_steps, row, kept)
