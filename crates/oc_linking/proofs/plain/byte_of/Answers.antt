use Rattle.oc_linking.proofs.Bytes.{byte-by_shift}
use Rattle.oc_linking.proofs.plain.byte_of.Goals as goal

pub returns : goal.returns
returns c = byte-by_shift c.args.number c.args.back
