-- The part begins where the last one ends.
use Rattle.std.proofs.Common.{◌+◌, sym, ◌∙◌, ap}
use Rattle.oc_shelf.specs.Writing.Parts.{aligned, behind}
use Rattle.oc_coff_file.specs.Layout.{part_size}
use Rattle.oc_plans.proofs.PlacedLemmas.{aligned_one, laid_more}
use Rattle.oc_coff_write.proofs.layout.lay.Goals as goal

pub returns : goal.returns
returns c = λ w n xs x before sized.
    let end = c.args.layout.now.end in
    laid_more behind (part_size w n) xs x c.args.layout.now c.lay.new.self (aligned 1 end) before (aligned_one end) c.in_ok-lay.ensures.places (c.in_ok-lay.ensures.end ∙ ap (λ m. aligned 1 end + m) (sym sized))
