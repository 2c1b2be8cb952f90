use Rattle.tests_object.proofs.names.symbol_of.Goals as goal

pub returns : goal.returns
returns g c =
    let speaks = rw c.in-Some.is at c.binding_of.ensures in
    let plain = c.in_ok-symbol.ensures c.args.strong speaks in
    record { named = plain.named; name = plain.name; binding = plain.binding; size = plain.size; number = plain.number }
