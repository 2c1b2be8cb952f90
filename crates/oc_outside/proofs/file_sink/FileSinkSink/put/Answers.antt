use Rattle.oc_outside.proofs.FileLaws.{there_after, beside_after, taken_after}
use Rattle.oc_outside.proofs.file_sink.FileSinkSink.put.Goals as goal

pub invariant_of-self : goal.invariant_of-self
invariant_of-self g c = record {
  there = there_after c.append.result c.args.self.now.name.now c.args.piece.now (g.F.Files.held c.args.self.now.files.now) (g.F.Files.held c.append.new.self) c.append.ensures.ok c.append.ensures.err c.args.self.now.there;
}

pub returns-clause-ok : goal.returns-clause-ok
returns-clause-ok g c = taken_after c.append.result c.args.self.now.name.now c.args.piece.now (g.F.Files.held c.args.self.now.files.now) (g.F.Files.held c.append.new.self) c.append.ensures.ok c.append.ensures.err c.args.self.now.there

pub returns-clause-beside : goal.returns-clause-beside
returns-clause-beside g c = beside_after c.append.result c.args.self.now.name.now c.args.piece.now (g.F.Files.held c.args.self.now.files.now) (g.F.Files.held c.append.new.self) c.append.ensures.ok c.append.ensures.err _ _ c.append.ensures.counts.other
