use Rattle.std.proofs.Common.{subst, sym}
use Rattle.bench.specs.Shape.{IsElf}
use Rattle.bench.proofs.Shaped.{complete}
use Rattle.bench.proofs.objects.object.Goals as goal

pub finish-requires : goal.finish-requires
finish-requires c = complete c.add_relocs.new.builder.object c.in_ok-add_relocs.ensures c.is_draft.ensures.built

pub returns : goal.returns
returns c = subst IsElf (sym c.finish.ensures) c.in_ok-add_relocs.ensures
