-- With its last entry a section is done.
use Rattle.std.proofs.Common.{◌≡◌, ℕ, ◌+◌, ◌∙◌, length, take, ap, arith}
use Rattle.oc_shows.proofs.BuiltSteps.{added_same}
use Rattle.oc_elf_read.specs.{Built.{symboled}, Given.{given_before, given_with}}
use Rattle.oc_elf.specs.Tables.{symbol_count}
use Rattle.oc_elf_read.proofs.{AddedTables.{table_done}, FoundFields.{stages_clean}}
use Rattle.oc_elf_read.proofs.added_relocs.add_table.Goals as goal

pub returns : goal.returns
returns c =
    let end : c.loop-j.j ≡ length c.in_ok-entries.entries.items = omega (arith, c.loop-j-test.false, c.len-j-end.ensures, c.loop-j.auto.j-end) in
    added_same (symboled c.args.frame.now (symbol_count c.args.frame.now)) c.loop-j.builder
    (given_with c.args.frame.now c.args.keep.now c.args.place.now.number c.args.place.now.position (take c.loop-j.j c.in_ok-entries.entries.items))
    (given_before c.args.frame.now c.args.keep.now (c.args.place.now.number + 1)) c.loop-j.invariant
    (λ t x. ap (λ (n : ℕ). given_with c.args.frame.now c.args.keep.now c.args.place.now.number c.args.place.now.position (take n c.in_ok-entries.entries.items) t x) end
    ∙ table_done c.args.frame.now c.args.keep.now c.is_frame.ensures (stages_clean c.args.frame.now c.args.keep.now c.requires.clean) c.requires.started c.args.place.now.number c.args.place.now.position c.requires.low c.requires.kept c.requires.here
    c.in_ok-entries.entries.items c.in_ok-entries.ensures t x)
