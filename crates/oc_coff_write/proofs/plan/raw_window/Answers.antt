-- The bytes are those of the section.
use Rattle.std.proofs.Common.{ℕ, List, [], sym, ◌∙◌, subst}
use Rattle.oc_neutral.specs.declared.section.Section.{Section}
use Rattle.oc_outside.specs.Windows.{IsFilled}
use Rattle.oc_plans.proofs.PlacedLemmas.{mapped_at}
use Rattle.oc_coff_write.proofs.plan.raw_window.Goals as goal

pub returns : goal.returns
returns c =
    subst (λ (xs : List ℕ). IsFilled xs c.args.from c.args.out.now c.copy_window.new.out c.copy_window.result)
    (c.as_slice.ensures ∙ sym (mapped_at (λ (s : Section). s.bytes) c.args.sections.now c.args.k c.index-sections-k.result [] c.requires)) c.copy_window.ensures
