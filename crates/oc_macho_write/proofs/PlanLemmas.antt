-- The parts of a planned file: which they are.
use Rattle.std.proofs.Common.{◌≡◌, ℕ, ◌<◌, [], length, get_or, arith}
use Rattle.std.proofs.lemmas.List.{length-map}
use Rattle.oc_macho_write.specs.{declared.parts.Part.{Part}, declared.plan.MachParts.{MachParts}, Bodies.{body_by, HasBody}, Plans.{AreSound, parts_by}}
use Rattle.oc_plans.proofs.PlacedLemmas.{all_get, mapped_at}

module _ (p : MachParts) (k : ℕ) (low : k < length (parts_by p)) (d : Part) where
  within : k < length p.parts.items
  within = omega (arith, low, length-map p.parts.items (body_by p.word p.heads p.sections.items p.bodies))

  pub body_here : get_or (parts_by p) k [] ≡ body_by p.word p.heads p.sections.items p.bodies (get_or p.parts.items k d)
  body_here = mapped_at (body_by p.word p.heads p.sections.items p.bodies) p.parts.items k d [] within

  pub body_there : AreSound p → HasBody p.sections.items p.bodies (get_or p.parts.items k d)
  body_there sound = all_get (HasBody p.sections.items p.bodies) p.parts.items k d sound.there within
