use Rattle.std.proofs.Common.{rules, subst}
use Rattle.oc_neutral.specs.Invariants.{AreBytes}
use Rattle.bench.proofs.Shaped.{symbol_elf}
use Rattle.bench.proofs.objects.add_symbol.Goals as goal

pub returns : goal.returns
returns c =
    let y = c.in_ok-symbol.symbol in
    let made = c.in_ok-symbol.ensures in
    symbol_elf c.args.builder.now c.add_symbol.new.self y c.requires.shape c.in_ok-add_symbol.ensures.added
    (record { named = made.named; name = subst AreBytes c.as_slice.ensures c.are_bytes.ensures; binding = made.binding; size = made.size; number = search rules }) (search rules)
