-- Nothing is given for no sections, and all for all.
use Rattle.std.proofs.Common.{◌≡◌, ℕ, ◌∙◌, [], length, sym, ap, arith, subst}
use Rattle.oc_neutral.specs.Building.{Draft}
use Rattle.oc_shows.specs.Built.{HasAdded, given_by}
use Rattle.oc_shows.proofs.BuiltSteps.{added_none, added_same}
use Rattle.oc_elf_read.specs.{Built.{symboled}, Given.{given_at, given_before}}
use Rattle.oc_elf.specs.Tables.{symbol_count}
use Rattle.oc_elf_read.proofs.AddedTables.{given_all, given_none}
use Rattle.oc_elf_read.proofs.added_relocs.add_relocations.Goals as goal

pub loop-i-init : goal.loop-i-init
loop-i-init c =
    subst (λ (d : Draft). HasAdded (symboled c.args.frame.now (symbol_count c.args.frame.now)) d (given_before c.args.frame.now c.args.keep.now 0)) (sym c.requires.before)
    (added_same (symboled c.args.frame.now (symbol_count c.args.frame.now)) (symboled c.args.frame.now (symbol_count c.args.frame.now)) (given_by []) (given_before c.args.frame.now c.args.keep.now 0)
    (added_none (symboled c.args.frame.now (symbol_count c.args.frame.now))) (λ t x. sym (given_none c.args.frame.now c.args.keep.now c.is_frame.ensures t x)))

pub returns : goal.returns
returns c =
    let end : c.loop-i.i ≡ length c.args.frame.now.headers = omega (arith, c.loop-i-test.false, c.count-i-end.ensures.count, c.loop-i.auto.i-end) in
    added_same (symboled c.args.frame.now (symbol_count c.args.frame.now)) c.loop-i.builder (given_before c.args.frame.now c.args.keep.now c.loop-i.i) (given_at c.args.frame.now c.args.keep.now) c.loop-i.invariant
    (λ t x. ap (λ (n : ℕ). given_before c.args.frame.now c.args.keep.now n t x) end ∙ given_all c.args.frame.now c.args.keep.now c.is_frame.ensures t x)
