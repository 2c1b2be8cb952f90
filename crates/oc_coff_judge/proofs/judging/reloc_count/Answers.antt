-- The entry with the count lies in the file, and counts itself.
use Rattle.std.proofs.Common.{ℕ, ◌≤◌, ◌∙◌, List, length, sym, ap, subst, arith}
use Rattle.oc_base.specs.Numbers.{number_at}
use Rattle.oc_coff_judge.proofs.KeptTables.{lying}
use Rattle.oc_coff_judge.proofs.judging.reloc_count.Goals as goal

pub u32_in-requires : goal.u32_in-requires
u32_in-requires c =
    let counted = (lying c.args.coff.now c.requires.clean c.requires.here.0 c.args.h.now c.requires.here.1).counted (sym c.is_overflowed.ensures ∙ c.if-not-is_overflowed.false) in
    let lies = counted.0 in
    let same = ap length c.file.ensures in
    omega (arith, lies, same)

pub overflow_sub-result : goal.overflow_sub-result
overflow_sub-result c =
    let counted = (lying c.args.coff.now c.requires.clean c.requires.here.0 c.args.h.now c.requires.here.1).counted (sym c.is_overflowed.ensures ∙ c.if-not-is_overflowed.false) in
    subst (λ (n : ℕ). 1 ≤ n) (sym (c.u32_in.ensures ∙ ap (λ (f : List ℕ). number_at f c.args.h.now.PointerToRelocations 4) c.file.ensures)) counted.1
