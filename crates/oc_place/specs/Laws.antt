-- What a text that is at no fault gives is a placement and an outside map, as linking asks for them (our profile).
use Rattle.std.specs.Prelude.{◌≡◌, ◌≢◌, ℕ, false, List, slice_get, Some, None, Ok}
use Rattle.oc_base.specs.{declared.format.Word.{Word}, Formats.{word_for}}
use Rattle.oc_linking.specs.{Parts.{Section, Symbol, is_local}, Placing.{Placement, Outside, IsPlacement, IsOutside}, Keeping.{all}}
use Rattle.oc_linking.specs.Linking.{sections_in, spread_in}
use Rattle.oc_neutral.specs.{Objects.{Object}, Faces.{shown_sections, shown_symbols}, Dialects.{Dialect, IsDialect}, Invariants.{IsObject}}
use Rattle.oc_shows.specs.Shows.{Shows}
use Rattle.oc_place.specs.{Footprints.{footprint_of, footprint_in}, Placings.{Placing, placed_in, placement_of, outside_of}}

-- no nonlocal symbol has the name
abbrev pub IsUnused : List Symbol → List ℕ → Type 0
IsUnused symbols name = (k : ℕ) (s : Symbol) → slice_get symbols k ≡ Some s → is_local s.binding ≡ false → s.name ≢ name

-- p places these sections, and e gives outside names what these symbols need there, and other names no site and slot 0
pub record CanLink (w : Word) (sections : List Section) (symbols : List Symbol) (p : Placement) (e : Outside) : Type 0 where
  pub placement : IsPlacement w sections p
  pub outside : IsOutside w p symbols e
  pub sites : (name : List ℕ) → IsUnused symbols name → e.site name ≡ None
  pub slots : (name : List ℕ) → IsUnused symbols name → e.slot name ≡ 0

-- of an object
abbrev pub ObjectCanLink : Type 0
ObjectCanLink = (n : Object) (text : List ℕ) (x : Placing) → IsObject n → placed_in (footprint_of n) text ≡ Ok x
    → CanLink (word_for n.format) (shown_sections n) (shown_symbols n) (placement_of (footprint_of n) x) (outside_of (footprint_of n) x)

-- and of a file by the rules of any dialect, where an object shows it
abbrev pub FileCanLink : Type 0
FileCanLink = (f : Dialect) (b : List ℕ) (n : Object) (text : List ℕ) (x : Placing) → IsDialect f → IsObject n → Shows f b all n → placed_in (footprint_in f b) text ≡ Ok x
    → CanLink f.rules.word (f.rules.sections b) (f.rules.symbols b all) (placement_of (footprint_in f b) x) (outside_of (footprint_in f b) x)

-- what can link with a file as it stands can link with it as the input of a conversion that keeps all
abbrev pub InputCanLink : Type 0
InputCanLink = (f : Dialect) (b : List ℕ) (p : Placement) (e : Outside) → CanLink f.rules.word (f.rules.sections b) (f.rules.symbols b all) p e
    → IsPlacement f.rules.word (sections_in f.rules b all) p × IsOutside f.rules.word (spread_in f.rules b all p) (f.rules.symbols b all) e
