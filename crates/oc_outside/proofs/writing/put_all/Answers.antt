use Rattle.std.proofs.Common.{rules, sym}
use Rattle.oc_outside.proofs.TextLaws.{grown_nothing, turn}
use Rattle.oc_outside.proofs.writing.put_all.Goals as goal

pub pieces-init : goal.pieces-init
pieces-init g c = record {
  within = search rules;
  taken = sym (grown_nothing (g.S.Sink.taken c.args.sink.now));
  steady = search rules;
  beside = search rules;
  borrow = search rules;
}

pub pieces-preserved : goal.pieces-preserved
pieces-preserved g c = record {
  within = search rules;
  taken =
      turn (g.S.Sink.taken c.args.sink.now) (g.S.Sink.taken c.pieces.sink) (g.S.Sink.taken c.put.new.self)
      c.args.bytes.now c.pieces.at c.min-end.result c.in_ok-count.count
      c.in_ok-count.ensures.taken.1 c.pieces.invariant.taken c.in_ok-count.ensures.ok;
  steady = search rules;
  beside = search rules;
  borrow = search rules;
}
