use Rattle.std.proofs.Common.{rules, ◌∙◌}
use Rattle.oc_outside.specs.Held.{file_of}
use Rattle.oc_outside.proofs.ReadLaws.{read_more}
use Rattle.oc_outside.proofs.reading.read_file.Goals as goal

pub reads-preserved : goal.reads-preserved
reads-preserved g c = record {
  room = search rules;
  bounded = search rules;
  front = λ m told _.
      read_more (file_of c.args.name.now m) c.reads.bytes.items c.read_at.new.to c.extend_from_slice.new.self.items c.len-at.result c.in_ok-count.count
      c.in_ok-count.ensures.bound (search rules) (c.reads.invariant.front m told) (c.in_ok-count.ensures.bytes m (c.reads.invariant.same ∙ told)) c.in_ok-extend_from_slice.ensures.items;
  same = search rules;
  reads = search rules;
  writes = search rules;
}
