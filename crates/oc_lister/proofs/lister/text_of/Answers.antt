-- The listing of the object is that of the file.
use Rattle.std.proofs.Common.{sym, subst}
use Rattle.oc_lister.specs.Runs.{IsListed}
use Rattle.oc_lister.proofs.ReadLaws.{read_listed}
use Rattle.oc_lister.proofs.lister.text_of.Goals as goal

pub returns-in-Ok-object_text-clause-listed : goal.returns-in-Ok-object_text-clause-listed
returns-in-Ok-object_text-clause-listed g c =
    subst (IsListed c.args.listing c.args.bytes.now) (sym c.in-Ok-object_text.ensures)
    (read_listed c.listings_agree.ensures c.args.bytes.now c.in-Ok.neutral c.is_object.ensures c.in-Ok.ensures.read c.args.listing)
