-- The part stands behind the others.
use Rattle.std.proofs.Common.{◌+◌, sym, ap}
use Rattle.oc_macho_file.specs.Layout.{part_begin, part_size}
use Rattle.oc_plans.proofs.PlacedLemmas.{laid_more}
use Rattle.oc_macho_write.proofs.layout.lay.Goals as goal

pub returns : goal.returns
returns c = λ w n xs x before begin size.
    laid_more (part_begin w n) (part_size w n) xs x c.args.layout.now _ c.args.begin before (sym begin) c.in_ok-push.ensures.items (ap (λ m. c.args.begin + m) (sym size))
