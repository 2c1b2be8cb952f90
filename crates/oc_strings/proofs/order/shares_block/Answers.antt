use Rattle.std.proofs.Common.{◌-◌, length, sym, ◌∙◌, arith}
use Rattle.std.proofs.lemmas.{List.{take_rest}, Bool.Decides.{Decides-eqb}, Slice.Eq.{slice_eq-Decides}}
use Rattle.oc_strings.proofs.order.shares_block.Goals as goal

pub returns-then-b-ge-BLOCK : goal.returns-then-b-ge-BLOCK
returns-then-b-ge-BLOCK c =
    let says = slice_eq-Decides Decides-eqb _ _ c.eq.result c.eq.ensures in
    let a_block = take_rest c.args.a.now (length c.args.a.now - 256) in
    let b_block = take_rest c.args.b.now (length c.args.b.now - 256) in
    (λ same. (omega arith, omega arith, sym a_block ∙ says.0 same ∙ b_block), λ shares. says.1 (a_block ∙ shares.2 ∙ sym b_block))
