-- What holds of the object and of the placement holds of the files.
use Rattle.std.proofs.Common.{◌≡◌, ◌∙◌, List, ℕ, subst}
use Rattle.oc_linker.specs.{Causes.{ExplainsText, outcome_with}, Outcomes.{LinkText}}
use Rattle.oc_linker.proofs.LinkLemmas.{outcome_of_files, text_explained}
use Rattle.oc_linker.proofs.linking.text_of_files.Goals as goal

pub returns-in-Ok-text_at-clause-text : goal.returns-in-Ok-text_at-clause-text
returns-in-Ok-text_at-clause-text g c =
    outcome_of_files c.footprints_agree.ensures c.texts_agree.ensures c.args.object.now c.args.placement.now (g.F.Files.held c.args.files.now) c.in-Ok.itself c.in-Ok-placement_of.bytes.items
    (LinkText c.in-Ok-text_at.text) c.is_object.ensures c.in-Ok.ensures.object (λ m told. c.in-Ok-placement_of.ensures.bytes m (c.in-Ok.ensures.same ∙ told)) c.in-Ok-placement_of.ensures.short
    (subst (λ (t : List ℕ). outcome_with c.in-Ok.itself t ≡ LinkText c.in-Ok-text_at.text) c.as_slice.ensures.value c.in-Ok-text_at.ensures.text)

pub returns-clause-fault : goal.returns-clause-fault
returns-clause-fault g c =
    text_explained c.footprints_agree.ensures c.texts_agree.ensures c.args.object.now c.args.placement.now (g.F.Files.held c.args.files.now) c.in-Ok.itself (g.F.Files.read_faults c.args.files.now)
    (g.F.Files.read_faults c.placement_of.new.files) c.in-Ok-placement_of.bytes.items c.in-Err-text_at.fault c.is_object.ensures c.in-Ok.ensures.object
    (λ m told. c.in-Ok-placement_of.ensures.bytes m (c.in-Ok.ensures.same ∙ told)) c.in-Ok-placement_of.ensures.short
    (subst (λ (t : List ℕ). ExplainsText c.in-Ok.itself t c.in-Err-text_at.fault) c.as_slice.ensures.value c.in-Err-text_at.ensures.fault)
