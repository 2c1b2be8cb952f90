-- One name more.
use Rattle.std.proofs.Common.{◌≡◌, length, ◌∙◌, ap, arith}
use Rattle.oc_strings.specs.Repeats.{names_of}
use Rattle.oc_macho.specs.SymbolFaults.{public_name}
use Rattle.oc_macho_judge.proofs.SymbolLemmas.{all_names, copied, names_more}
use Rattle.oc_macho_judge.proofs.symbol_stage.public_names.Goals as goal

pub loop-j-preserved : goal.loop-j-preserved
loop-j-preserved c =
    ap names_of c.in_ok-push.ensures.items
    ∙ names_more c.args.frame.now c.loop-j.names.items c.public_name.result c.loop-j.j c.symbol.result c.loop-j.invariant c.symbol.ensures
    (copied c.public_name.result (public_name c.args.frame.now c.symbol.result) c.public_name.ensures)

pub returns : goal.returns
returns c =
    let end : c.loop-j.j ≡ length c.args.frame.now.symbols = omega (arith, c.loop-j-test.false, c.symbol_count-count.ensures.count, c.loop-j.auto.j-end) in
    c.loop-j.invariant ∙ all_names c.args.frame.now c.loop-j.j end
