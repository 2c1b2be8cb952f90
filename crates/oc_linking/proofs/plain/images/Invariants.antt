use Rattle.std.proofs.Common.{◌≡◌, ◌++◌, drop, map}
use Rattle.oc_linking.specs.{Plain.{patches_at}, Images.{overlays}}
use Rattle.oc_linking.proofs.plain.images.Given as goal

-- the images that are made and those that are left are all
abbrev pub invariant-loop-s : goal.invariant-loop-s
invariant-loop-s l = map (λ x. x.items) l.out.items ++ overlays (patches_at l.fields) l.s (map (λ x. x.items) (drop l.s l.sections))
    ≡ overlays (patches_at l.fields) 0 (map (λ x. x.items) l.sections)
