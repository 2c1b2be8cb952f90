use Rattle.std.proofs.Common.{Err, set, sym, ◌∙◌, ap}
use Rattle.std.proofs.lemmas.Bool.{true≢false}
use Rattle.oc_chains.specs.{declared.fault.ChainFault.{ChainFault}, Fields.{field}, Lists.{list_of}}
use Rattle.oc_made.proofs.Behind.{behind_ends, behind_free, behind_placed, set_alone}
use Rattle.oc_made.proofs.calls.put_behind.Goals as goal

pub insert-requires-clause-fits : goal.insert-requires-clause-fits
insert-requires-clause-fits c = behind_ends 0 (list_of c.args.calls.now.lists 0) (field c.args.at 4 c.args.call) c.requires.behind

pub unreachable-requires : goal.unreachable-requires
unreachable-requires c =
    let is = c.in-Err-Overlap.is ∙ ap (λ (e : ChainFault). Err e) c.in-Err-Overlap.field-0-is in
    true≢false (sym (c.insert.ensures.overlap.0 is) ∙ behind_free 0 (list_of c.args.calls.now.lists 0) (field c.args.at 4 c.args.call) c.requires.behind)

pub returns-in-Ok : goal.returns-in-Ok
returns-in-Ok c =
    c.in-Ok.ensures.lists
    ∙ ap (set c.args.calls.now.lists 0) (behind_placed 0 (list_of c.args.calls.now.lists 0) (field c.args.at 4 c.args.call) c.requires.behind)
    ∙ set_alone c.args.calls.now.lists _ c.requires.alone
