-- Planned files: their parts (our profile).
use Rattle.std.specs.{Prelude.{◌≡◌, ℕ, ◌^◌, ◌<◌, List, [], length, map, slice_index_or}, List.{AllByRecursion}}
use Rattle.oc_base.specs.declared.format.Word.{Word}
use Rattle.oc_neutral.specs.{declared.section.Section.{Section}, Objects.{Object}}
use Rattle.oc_macho_write.specs.{declared.plan.MachParts.{MachParts}, Bodies.{AreBodies, body_by, HasBody, IsHeaded}, Heads.{AreHeads}, Parts.{AreParts}}
use Rattle.oc_macho_write.specs.Relocations.{all_raws}

-- the bytes of the parts of a file
abbrev pub parts_by : MachParts → List (List ℕ)
parts_by p = map (body_by p.word p.heads p.sections.items p.bodies) p.parts.items

-- 63 bits are enough for each part, and each has its section and its table
pub record AreSound (p : MachParts) : Type 0 where
  pub small : (k : ℕ) → length (slice_index_or (parts_by p) k []) < 2 ^ 63
  pub headed : IsHeaded p.word p.heads
  pub there : AllByRecursion (HasBody p.sections.items p.bodies) p.parts.items

-- what a file is made of is that of this object
pub record AreMade (w : Word) (n : Object) (p : MachParts) : Type 0 where
  pub word : p.word ≡ w
  pub heads : AreHeads w n p.heads
  pub parts : AreParts n p.parts.items
  pub raws : map (λ (s : Section). s.bytes) p.sections.items ≡ all_raws w n
  pub bodies : AreBodies w n p.bodies
