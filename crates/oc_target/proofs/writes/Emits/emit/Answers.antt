-- The sink takes the file window by window.
use Rattle.std.proofs.Common.{sym, arith, rules}
use Rattle.oc_outside.proofs.TextLaws.{grown_nothing}
use Rattle.oc_target.proofs.Emitting.{on_err, took_part, took_piece}
use Rattle.oc_target.proofs.writes.Emits.emit.Goals as goal

pub pieces-init : goal.pieces-init
pieces-init g c = record {
  within = search rules;
  taken = sym (grown_nothing (g.S.Sink.taken c.args.sink.now));
  steady = search rules;
  beside = search rules;
  borrow = search rules;
}

pub returns-in_err-put_all-clause-err : goal.returns-in_err-put_all-clause-err
returns-in_err-put_all-clause-err g c =
    on_err c.from_residual.result
    (took_part (g.S.Sink.taken c.args.sink.now) (g.S.Sink.taken c.pieces.sink) (g.S.Sink.taken c.put_all.new.sink)
    (g.Self.Emits.file c.args.self.now) c.pieces.piece c.window-count.new.to c.pieces.at c.window-count.result
    c.window-count.ensures c.pieces.invariant.taken c.in_err-put_all.ensures.err c.pieces.invariant.within)

pub pieces-preserved : goal.pieces-preserved
pieces-preserved g c = record {
  within = let count = c.window-count.ensures.count in let inside = c.pieces.invariant.within in omega (arith, count, inside);
  taken =
      took_piece (g.S.Sink.taken c.args.sink.now) (g.S.Sink.taken c.pieces.sink) (g.S.Sink.taken c.put_all.new.sink)
      (g.Self.Emits.file c.args.self.now) c.pieces.piece c.window-count.new.to c.pieces.at c.window-count.result
      c.window-count.ensures c.pieces.invariant.taken c.in_ok-put_all.ensures.ok;
  steady = search rules;
  beside = search rules;
  borrow = search rules;
}
