-- The externals of an entry are counted.
use Rattle.std.proofs.Common.{refl}
use Rattle.oc_omf.specs.Cursor.{each_read}
use Rattle.oc_omf_judge.specs.Counts.{external_by}
use Rattle.oc_omf_judge.proofs.EntryLemmas.{externals_taken}
use Rattle.oc_omf_judge.proofs.relocs.see_externals.Goals as goal

pub returns : goal.returns
returns c = λ w index place local.
    externals_taken w c.args.reached.now _ index place (each_read (external_by c.args.communals local) c.args.contents.now 0) refl refl refl refl refl (c.with_externals-reached.ensures local)
