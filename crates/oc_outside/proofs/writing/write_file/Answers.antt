use Rattle.std.proofs.Common.{rules}
use Rattle.oc_outside.proofs.WriteLaws.{there_emptied, wrote_all, wrote_part}
use Rattle.oc_outside.proofs.writing.write_file.Goals as goal

pub new-sink-requires : goal.new-sink-requires
new-sink-requires g c =
    there_emptied c.args.name.now (g.F.Files.held c.args.files.now) (g.F.Files.held c.create.new.self) c.in_ok-create.ensures.ok

pub returns-clause-ok : goal.returns-clause-ok
returns-clause-ok g c =
    wrote_all c.put_all.result
    (g.F.Files.held c.args.files.now) (g.F.Files.held c.create.new.self) (g.F.Files.held c.put_all.new.sink.files.now) _
    c.args.name.now c.new-sink.result.name.now c.put_all.new.sink.name.now c.args.bytes.now
    (g.F.Files.read_faults c.create.new.self) (g.F.Files.read_faults c.put_all.new.sink.files.now)
    (search rules) c.in_ok-create.ensures.ok c.new-sink.ensures.name (search rules) (search rules)

pub returns-clause-err : goal.returns-clause-err
returns-clause-err g c =
    wrote_part c.put_all.result
    (g.F.Files.held c.args.files.now) (g.F.Files.held c.create.new.self) (g.F.Files.held c.put_all.new.sink.files.now) _
    c.args.name.now c.new-sink.result.name.now c.put_all.new.sink.name.now c.args.bytes.now
    (g.F.Files.read_faults c.create.new.self) (g.F.Files.read_faults c.put_all.new.sink.files.now)
    (search rules) c.in_ok-create.ensures.ok c.new-sink.ensures.name (search rules) (search rules)
