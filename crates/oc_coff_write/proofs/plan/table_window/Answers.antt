-- The entries are those of the section's relocations.
use Rattle.std.proofs.Common.{◌<◌, ◌^◌, List, [], length, sym, ◌∙◌, ap, subst, Vec, Global}
use Rattle.oc_outside.specs.Windows.{IsFilled}
use Rattle.oc_shelf.specs.Writing.Parts.{table_of}
use Rattle.oc_coff.specs.declared.relocation.Relocation.{Relocation}
use Rattle.oc_coff_write.specs.Plans.{relocation_rows}
use Rattle.oc_plans.proofs.PlacedLemmas.{mapped_at}
use Rattle.oc_coff_write.proofs.plan.table_window.Goals as goal

pub relocations_window-requires : goal.relocations_window-requires
relocations_window-requires c =
    let same = c.deref.ensures.value ∙ ap (λ (v : Vec Relocation Global). v.items) c.index-relocs-k.is
    ∙ sym (mapped_at (λ (v : Vec Relocation Global). v.items) c.args.relocs.now c.args.k c.index-relocs-k.result [] c.requires.there) in
    subst (λ (rs : List Relocation). length (table_of (relocation_rows rs)) < 2 ^ 32) (sym same) c.requires.small

pub returns : goal.returns
returns c =
    let same = c.deref.ensures.value ∙ ap (λ (v : Vec Relocation Global). v.items) c.index-relocs-k.is
    ∙ sym (mapped_at (λ (v : Vec Relocation Global). v.items) c.args.relocs.now c.args.k c.index-relocs-k.result [] c.requires.there) in
    subst (λ (rs : List Relocation). IsFilled (table_of (relocation_rows rs)) c.args.from c.args.out.now c.relocations_window.new.out c.relocations_window.result) same c.relocations_window.ensures
