use Rattle.oc_convert.proofs.steps.edited.Goals as goal

pub returns-clause-readable : goal.returns-clause-readable
returns-clause-readable c = c.edited_is_readable.ensures c.args.edits.now c.args.to c.args.neutral c.in_ok-out.out c.is_object.ensures c.requires c.in_ok-out.ensures.ok
