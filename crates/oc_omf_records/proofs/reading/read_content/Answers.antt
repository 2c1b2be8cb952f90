use Rattle.std.proofs.Common.{◌+◌, refl}
use Rattle.oc_omf_records.proofs.SizedLemmas.{content_is_sized}
use Rattle.oc_omf_records.proofs.reading.read_content.Goals as goal

pub returns-clause-sized : goal.returns-clause-sized
returns-clause-sized c = content_is_sized _ c.args.count (c.args.at + 1) c.in_ok-bytes.bytes refl
