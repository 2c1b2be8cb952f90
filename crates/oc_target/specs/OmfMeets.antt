-- What a writer of OMF uses of an object that is ready to be written (TIS OMF 1.1, "SEGDEF", "EXTDEF" and "FIXUPP"; our profile).
use Rattle.std.specs.Prelude.{◌≡◌, ℕ, ◌≤◌, Bool, false, List, [], length, slice_get, count_by, ℤ, Some, None}
use Rattle.oc_base.specs.declared.format.Format.TheVariants.{Omf}
use Rattle.oc_linking.specs.{declared.terms.Width.TheVariants.{Four}, declared.terms.Kind.TheVariants.{Zero}, declared.terms.Fallback.{Fallback}}
use Rattle.oc_linking.specs.{declared.terms.Value.TheVariants.{Absolute}, declared.terms.Binding.TheVariants.{Global, Common, Weak}, Parts.{is_local}}
use Rattle.oc_neutral.specs.{Bindings.{is_external}, Omf.Family.{omf_aligns}, declared.section.Section.{Section}, declared.symbol.Symbol.{Symbol}}
use Rattle.oc_neutral.specs.{declared.reloc.Reloc.{Reloc}, Objects.{Object, reloc_at}, Omf.Kinds.{omf_kind, omf_class, omf_tag}}
use Rattle.oc_neutral.specs.{Omf.Relocs.{FixupFrame, fixup_row}, Rows.{taken_of}}
use Rattle.oc_target.specs.{CoffMeets.{IsNaturalCommon}, Fitted.{IsFitted}, Meets.{AreBounded, MeetsReloc, HoldsAddend}}

-- a section
pub record OmfSection (s : Section) : Type 0 where
  pub name : length s.name ≤ 255
  pub alone : s.group ≡ None
  pub exponent : ℕ
  pub align : slice_get omf_aligns exponent ≡ Some s.align
  pub tag : s.tag ≡ omf_tag
  -- its kind has a class, which gives the kind back: Zero where no byte is covered
  pub class : List ℕ
  pub classed : omf_class s.kind ≡ Some class
  pub kind : (covered : Bool) → (s.kind ≡ Zero → covered ≡ false) → omf_kind class covered ≡ s.kind

-- a symbol
pub record OmfSymbol (s : Symbol) : Type 0 where
  pub name : is_local s.binding ≡ false → length s.name ≤ 255
  pub placed : (x : ℕ) → s.binding ≡ Global (Absolute x) → ⊥
  pub common : (size align : ℕ) → s.binding ≡ Common size align → IsNaturalCommon size align
  pub strong : (f : Fallback) → s.binding ≡ Weak f → ⊥

-- a relocation
pub record OmfReloc (n : Object) (s at : ℕ) (r : Reloc) : Type 0 where
  pub meets : MeetsReloc Omf n s at r
  -- it is one of the three fixups
  pub framed : FixupFrame
  pub row : fixup_row framed ≡ meets.row
  pub taken : meets.row.taken ≡ taken_of r.form.less
  pub width : r.form.width ≡ Four
  pub holds : (shift : ℤ) → HoldsAddend Omf r shift

-- the object
pub record MeetsOmf (n : Object) : Type 0 where
  pub bounds : AreBounded n
  pub few : length n.sections ≤ 30000
  pub externals : count_by (λ (s : Symbol). is_external s.binding) n.symbols ≤ 32767
  pub groups : n.groups ≡ []
  pub sections : (k : ℕ) (s : Section) → slice_get n.sections k ≡ Some s → OmfSection s
  pub symbols : (k : ℕ) (s : Symbol) → slice_get n.symbols k ≡ Some s → OmfSymbol s
  pub relocs : (s at : ℕ) (r : Reloc) → reloc_at n s at ≡ Some r → OmfReloc n s at r

-- every object that is ready for OMF meets this
abbrev pub FittedMeetsOmf : Type 0
FittedMeetsOmf = (n : Object) → IsFitted Omf n → MeetsOmf n
