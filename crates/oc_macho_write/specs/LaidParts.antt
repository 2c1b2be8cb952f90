-- Parts that are laid so far (our profile).
use Rattle.std.specs.Prelude.{ℕ, List, map}
use Rattle.oc_base.specs.declared.format.Word.{Word}
use Rattle.oc_neutral.specs.Objects.{Object}
use Rattle.oc_shelf.specs.{declared.writing.layout.Layout.{Layout}, Writing.Parts.{Laid, laid}}
use Rattle.oc_shelf.specs.Writing.Parts as placed
use Rattle.oc_macho_file.specs.Layout.{Part, part_begin, part_size}

-- where the parts begin
abbrev pub begins_by : Word → Object → List Part → List ℕ
begins_by w n parts = map (λ (l : Laid Part). l.at) (laid (part_begin w n) (part_size w n) 0 parts)

-- the layout is that of these parts
abbrev pub AreLaid : Word → Object → Layout → List Part → Type 0
AreLaid w n = placed.AreLaid (part_begin w n) (part_size w n)
