-- The words are those of the group.
use Rattle.std.proofs.Common.{ℕ, List, Some, sym, ◌∙◌, ap}
use Rattle.std.proofs.lemmas.Option.{slice_get-get_or}
use Rattle.oc_base.specs.Numbers.{bytes_of_number}
use Rattle.oc_elf_file.specs.Groups.{group_bytes}
use Rattle.oc_plans.proofs.PlacedLemmas.{joined_rows}
use Rattle.oc_elf_write.proofs.BodyLemmas.{items_is}
use Rattle.oc_elf_write.proofs.bodies.words_at.Goals as goal

pub returns : goal.returns
returns c =
    let v = c.index-groups-group.result in
    let held = items_is c.args.groups.now c.args.group v (slice_get-get_or c.args.groups.now c.args.group v c.requires ∙ ap (λ x. Some x) (sym c.index-groups-group.is)) in
    sym (joined_rows (bytes_of_number 4) c.deref.result.now) ∙ ap (λ (xs : List ℕ). group_bytes xs) (c.deref.ensures.value ∙ sym held)
