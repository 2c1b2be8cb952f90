-- Laws of neutral objects (our profile).
use Rattle.std.specs.Prelude.{◌≡◌, ℕ, List}
use Rattle.oc_base.specs.declared.format.Word.{Word}
use Rattle.oc_linking.specs.{declared.terms.Keep.{Keep}, Placing.{Placement}, Values.{Valuation}}
use Rattle.oc_algebra.specs.Residues.{residue_of}
use Rattle.oc_neutral.specs.{declared.symbol.Symbol.{Symbol}, declared.reloc.Reloc.{Reloc}, declared.normal.Normal.{Normal}, Objects.{Object}}
use Rattle.oc_neutral.specs.{Invariants.{IsObject}, Dialects.{Dialect}, Normal.{normal_of}, Worth.{residue_at, IsTrueToLocals}}
use Rattle.oc_neutral.specs.declared.normal.Normal.TheVariants as normal
use Rattle.oc_shows.specs.{Shows.{Shows}, Computed.{object_in}}

-- what remains of a relocation at an offset of section s has its value, at every placement and every valuation that is true to the Locals
abbrev pub KeepsValue : Word → List Symbol → ℕ → ℕ → Reloc → Normal → Type 0
KeepsValue w symbols s at r (normal.Kept q) =
    (p : Placement) (v : Valuation) → IsTrueToLocals w symbols p v → residue_at w symbols p v s at q ≡ residue_at w symbols p v s at r
KeepsValue w symbols s at r (normal.Constant c) =
    (p : Placement) (v : Valuation) → IsTrueToLocals w symbols p v → residue_of w c ≡ residue_at w symbols p v s at r

-- the normal form keeps the value of each relocation
abbrev pub NormalFormKeepsValues : Type 0
NormalFormKeepsValues = (w : Word) (symbols : List Symbol) (s at : ℕ) (r : Reloc) → KeepsValue w symbols s at r (normal_of w symbols s at r)

-- an object that shows a file is the file's
abbrev pub ShownObjectIsComputed : Type 0
ShownObjectIsComputed = (f : Dialect) (b : List ℕ) (keep : Keep) (n : Object) → IsObject n → Shows f b keep n → n ≡ object_in f b keep
