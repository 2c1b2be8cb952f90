use Rattle.std.proofs.Common.{◌≡◌, length, ap, arith}
use Rattle.oc_omf.specs.Entries.{places_in}
use Rattle.oc_omf.proofs.PlaceLemmas.{few_entries}
use Rattle.oc_omf.proofs.module.Module.count.Goals as goal

pub overflow_cast-result : goal.overflow_cast-result
overflow_cast-result c =
    let few = few_entries c.self.inside.file.now in
    let same : length c.self.inside.places.items ≡ length (places_in c.self.inside.file.now) = ap length c.self.invariant.0 in
    let small = c.self.invariant.1.small in
    omega (arith, few, same, small, c.len.ensures)
