use Rattle.std.proofs.Common.{◌*◌}
use Rattle.bench.proofs.Shaped.{reloc_elf}
use Rattle.bench.proofs.objects.add_reloc.Goals as goal

pub returns : goal.returns
returns c = reloc_elf c.args.builder.now c.add_reloc.new.self (4 * c.args.place) c.distance-reloc.result c.requires.shape c.is_draft.ensures c.distance-reloc.ensures c.in_ok-add_reloc.ensures.added
