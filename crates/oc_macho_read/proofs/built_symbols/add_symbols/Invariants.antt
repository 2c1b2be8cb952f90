-- The carried symbols so far are added, and their positions are known.
use Rattle.std.proofs.Common.{◌≡◌}
use Rattle.oc_shelf.specs.Reading.Slots.{AreSlots}
use Rattle.oc_macho_read.specs.Built.{symbol_position, symboled}
use Rattle.oc_macho_read.proofs.built_symbols.add_symbols.Given as goal

abbrev pub invariant-loop-j : goal.invariant-loop-j
invariant-loop-j l = record { added : l.builder ≡ symboled l.frame l.keep l.j; placed : AreSlots (symbol_position l.frame l.keep) l.j l.positions }
