-- The sink has the front of the file that was put to it.
use Rattle.std.proofs.Common.{◌≡◌, ◌-◌, ◌≤◌, length, take}
use Rattle.oc_outside.specs.Texts.{grown}
use Rattle.oc_target.proofs.writes.Emits.emit.Given as goal

abbrev pub invariant-pieces : goal.invariant-pieces
invariant-pieces g l = record {
  within : l.at ≤ length (g.Self.Emits.file l.self);
  taken : g.S.Sink.taken l.sink ≡ grown (take l.at (g.Self.Emits.file l.self)) (g.S.Sink.taken l.initial.sink);
  steady : g.S.Sink.faults l.sink ≡ g.S.Sink.faults l.initial.sink;
  beside : g.S.Sink.beside l.sink ≡ g.S.Sink.beside l.initial.sink;
  borrow : g.S.Sink.borrow l.sink ≡ g.S.Sink.borrow l.initial.sink;
}

abbrev pub decreases-pieces : goal.decreases-pieces
decreases-pieces g l = length (g.Self.Emits.file l.self) - l.at
