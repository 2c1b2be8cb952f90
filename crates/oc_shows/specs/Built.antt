-- What a reader builds of a file (our profile): first its sections and symbols, and then a relocation for each field, in any order.
use Rattle.std.specs.{Prelude.{◌≡◌, ℕ, ◌+◌, ◌<◌, ◌≤◌, ◌⊎◌, nat_eq, true, ◌&&◌, if◌then◌else◌, List, [], ◌∷◌, Option, Some, None, Ok}, Option.{option_map_or}}
use Rattle.oc_base.specs.Formats.{word_for}
use Rattle.oc_linking.specs.{declared.terms.Keep.{Keep}, Fits.{bytes_of, fits}, Placing.{Placement, zeros}, Values.{Valuation}, Rules.{Field, Named, Sectional}}
use Rattle.oc_chains.specs.Lists.{list_of}
use Rattle.oc_neutral.specs.{declared.symbol.Symbol.{Symbol}, declared.reloc.Reloc.{Reloc}, declared.reloc.Target.{Target}, Objects.{Object}}
use Rattle.oc_neutral.specs.{Normal.{Place, place_among}, Building.{Draft, reloc_added}, Invariants.{CanAdd, IsDraft}}
use Rattle.oc_neutral.specs.{Faces.{named_of, shown_sections, shown_symbols}, Worth.{residue_at}, Dialects.{Dialect, is_difference, kept_fields}}
use Rattle.oc_shows.specs.{Computed.{zero_values}, Shows.{AreNumbered, IsTrueToFixed, Shows}}

-- a relocation that is added at an offset of a section, as the file has it
pub record AddedReloc : Type 0 where
  pub section : ℕ
  pub at : ℕ
  pub reloc : Reloc

-- relocations by section and offset
abbrev pub RelocMap : Type 0
RelocMap = ℕ → ℕ → Option Reloc

-- these, and one at an offset of section s
abbrev pub and_one : RelocMap → ℕ → ℕ → Reloc → RelocMap
and_one given s at r t x = if nat_eq t s && nat_eq at x then Some r else given t x

-- those of entries
abbrev pub given_by : List AddedReloc → RelocMap
given_by [] = λ t x. None
given_by (e ∷ entries) = and_one (given_by entries) e.section e.at e.reloc

-- an entry is added to a draft
pub record IsStep (d : Draft) (x : AddedReloc) (e : Draft) : Type 0 where
  pub can : CanAdd d.object x.section x.at x.reloc
  pub added : reloc_added d x.section x.at x.reloc ≡ Ok e

-- entries are added, the last of the list first
abbrev pub Makes : Draft → List AddedReloc → Draft → Type 0
Makes base [] e = e ≡ base
Makes base (x ∷ entries) e = (d : Draft) × Makes base entries d × IsStep d x e

-- d is base with these relocations, which were added in some order
pub record HasAdded (base d : Draft) (given : RelocMap) : Type 0 where
  pub entries : List AddedReloc
  pub made : Makes base entries d
  pub each : (s at : ℕ) → given_by entries s at ≡ given s at

-- what a Builder holds that has the sections and symbols of a file, with their contents, and no relocations yet
pub record IsStarted (f : Dialect) (b : List ℕ) (keep : Keep) (d : Draft) : Type 0 where
  pub draft : IsDraft d
  pub format : d.object.format ≡ f.format
  pub word : f.rules.word ≡ word_for f.format
  pub sections : shown_sections d.object ≡ f.rules.sections b
  pub symbols : shown_symbols d.object ≡ f.rules.symbols b keep
  pub numbered : AreNumbered (f.rules.symbols b keep)
  pub relocs : (s : ℕ) → list_of d.object.relocs s ≡ []
  pub folded : (s : ℕ) → list_of d.folded s ≡ []

-- what a target names, where a Local with a place stands for its section
abbrev pub named_in : List Symbol → Target → Named
named_in symbols t = option_map_or (λ (place : Place). Sectional place.0) (place_among symbols t) (named_of symbols t)

-- a relocation at an offset of section s is a field of the file
pub record IsField (f : Dialect) (b : List ℕ) (keep : Keep) (n : Object) (s at : ℕ) (r : Reloc) (x : Field) : Type 0 where
  pub width : r.form.width ≡ x.width
  pub check : r.form.check ≡ x.check
  pub base : r.form.base ≡ x.base
  pub less : r.form.less ≡ x.less
  pub hint : r.hint ≡ x.hint
  pub target : named_in n.symbols r.target ≡ x.target
  pub residue : (p : Placement) (v : Valuation) → IsTrueToFixed f.rules.word (f.rules.symbols b keep) p v → residue_at f.rules.word n.symbols p v s at r ≡ x.residue p v

-- no field lies at an offset of section s, and none is given
pub record IsFree (f : Dialect) (b : List ℕ) (keep : Keep) (given : RelocMap) (s at : ℕ) : Type 0 where
  pub field : kept_fields f b keep s at ≡ None
  pub none : given s at ≡ None

-- a field lies there, and it is given
pub record IsGiven (f : Dialect) (b : List ℕ) (keep : Keep) (n : Object) (given : RelocMap) (s at : ℕ) : Type 0 where
  pub field : Field
  pub reloc : Reloc
  pub here : kept_fields f b keep s at ≡ Some field
  pub there : given s at ≡ Some reloc
  pub is : IsField f b keep n s at reloc field

-- an object that was built so shows the file
abbrev pub BuiltShows : Type 0
BuiltShows = (f : Dialect) (b : List ℕ) (keep : Keep) (base d : Draft) (given : RelocMap) → IsStarted f b keep base → HasAdded base d given
    → ((s at : ℕ) → IsFree f b keep given s at ⊎ IsGiven f b keep base.object given s at) → Shows f b keep d.object

-- no two fields of a file meet
abbrev pub AreApart : Dialect → List ℕ → Keep → Type 0
AreApart f b keep = (s i j : ℕ) (x y : Field) → kept_fields f b keep s i ≡ Some x → kept_fields f b keep s j ≡ Some y → i < j → i + bytes_of x.width ≤ j

-- its differences fit: no placement changes them, so where all is placed at zero
abbrev pub DifferencesFit : Dialect → List ℕ → Keep → Type 0
DifferencesFit f b keep = (s at : ℕ) (x : Field) → kept_fields f b keep s at ≡ Some x → is_difference x ≡ true
    → fits f.rules.word x.width x.check (x.residue zeros (zero_values f b keep)) ≡ true

-- what is given are fields of the file
abbrev pub AreOfFile : Dialect → List ℕ → Keep → Object → RelocMap → Type 0
AreOfFile f b keep n given = (s at : ℕ) (r : Reloc) → given s at ≡ Some r → (x : Field) × (kept_fields f b keep s at ≡ Some x) × IsField f b keep n s at r x

-- a Builder that was given fields of such a file refuses none of the others
abbrev pub CleanIsAdded : Type 0
CleanIsAdded = (f : Dialect) (b : List ℕ) (keep : Keep) (base d : Draft) (given : RelocMap) → IsStarted f b keep base → AreApart f b keep → DifferencesFit f b keep
    → HasAdded base d given → AreOfFile f b keep base.object given
    → (s at : ℕ) (r : Reloc) (x : Field) → kept_fields f b keep s at ≡ Some x → IsField f b keep base.object s at r x → given s at ≡ None
    → (e : Draft) × (reloc_added d s at r ≡ Ok e)
