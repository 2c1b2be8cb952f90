use Rattle.std.proofs.Common.{rules}
use Rattle.oc_outside.proofs.WriteLaws.{there_emptied, wrote_all, wrote_part}
use Rattle.objconv.proofs.writing.write_plan.Goals as goal

pub new-sink-requires : goal.new-sink-requires
new-sink-requires g c =
    there_emptied c.args.name.now (g.F.Files.held c.args.files.now) (g.F.Files.held c.create.new.self) c.in_ok-create.ensures.ok

pub returns-clause-ok : goal.returns-clause-ok
returns-clause-ok g c =
    wrote_all c.emit.result
    (g.F.Files.held c.args.files.now) (g.F.Files.held c.create.new.self) (g.F.Files.held c.emit.new.sink.files.now) _
    c.args.name.now c.new-sink.result.name.now c.emit.new.sink.name.now (g.P.Emits.file c.args.plan.now)
    (g.F.Files.read_faults c.create.new.self) (g.F.Files.read_faults c.emit.new.sink.files.now)
    (search rules) c.in_ok-create.ensures.ok c.new-sink.ensures.name (search rules) (search rules)

pub returns-clause-err : goal.returns-clause-err
returns-clause-err g c =
    wrote_part c.emit.result
    (g.F.Files.held c.args.files.now) (g.F.Files.held c.create.new.self) (g.F.Files.held c.emit.new.sink.files.now) _
    c.args.name.now c.new-sink.result.name.now c.emit.new.sink.name.now (g.P.Emits.file c.args.plan.now)
    (g.F.Files.read_faults c.create.new.self) (g.F.Files.read_faults c.emit.new.sink.files.now)
    (search rules) c.in_ok-create.ensures.ok c.new-sink.ensures.name (search rules) (search rules)
