-- The entries are those of the section.
use Rattle.std.proofs.Common.{List, Some, sym, ◌∙◌, ap}
use Rattle.std.proofs.lemmas.Option.{slice_get-get_or}
use Rattle.oc_shelf.specs.Writing.Parts.{table_of}
use Rattle.oc_elf.specs.declared.rel.Rel.{Rel}
use Rattle.oc_elf_write.specs.Bodies.{rel_rows}
use Rattle.oc_elf_write.proofs.BodyLemmas.{items_is}
use Rattle.oc_elf_write.proofs.bodies.rels_at.Goals as goal

pub returns : goal.returns
returns c =
    let v = c.index-rels-section.result in
    let held = items_is c.args.rels.now c.args.section v (slice_get-get_or c.args.rels.now c.args.section v c.requires ∙ ap (λ x. Some x) (sym c.index-rels-section.is)) in
    ap (λ (xs : List Rel). table_of (rel_rows c.args.word xs)) (c.deref.ensures.value ∙ sym held)
