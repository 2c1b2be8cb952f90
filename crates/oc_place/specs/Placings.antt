-- The placement that a text gives an object, with what it gives outside names, or what is at fault first (our profile).
use Rattle.std.specs.Prelude.{◌≡◌, ℕ, ◌+◌, ◌%◌, Bool, false, not, nat_eq, nat_lt, if◌then◌else◌, List, length, map, get_or, slice_get, Option, Some, None, is_some, Result, Ok, Err}
use Rattle.std.specs.{List.{enumerate_from}, Option.{option_map, option_map_or, option_and_then, unwrap_or}}
use Rattle.oc_base.specs.declared.format.Word.{Word}
use Rattle.oc_linking.specs.{declared.terms.Binding.{Binding}, declared.terms.Binding.TheVariants.{Local, Global, Undefined, Common, Weak}}
use Rattle.oc_linking.specs.Numbers.{modulus, or_else, first_upto}
use Rattle.oc_linking.specs.Parts as parts
use Rattle.oc_linking.specs.Placing as placing
use Rattle.oc_neutral.specs.{Objects.{Object}, Invariants.{IsAlign}}
use Rattle.oc_place.specs.{declared.spot.Spot.{Spot}, declared.spot.Outside.{Outside}, declared.fault.PlaceCode.{PlaceCode}}
use Rattle.oc_place.specs.{declared.fault.PlaceCode.TheVariants.{Unplaced, Misaligned, PastEnd, Unnamed, Defined}, Footprints.{Plot, Footprint}}
use Rattle.oc_place.specs.Written.{Notes, Bad, notes_of, symbol_named, then_by}

-- ... what was placed

-- where each section lies, which groups are discarded, the two bases, and what the outside gives the name of each symbol
pub record Placing : Type 0 where
  pub image : ℕ
  pub got : ℕ
  pub spots : List Spot
  pub dropped : List Bool
  pub given : List Outside

-- zeros: where a discarded section lies
abbrev pub origin : Spot
origin = record { address = 0; home = 0; number = 0 }

-- what the outside gives a name of which nothing is noted
abbrev pub nothing_given : Outside
nothing_given = record { spot = None; slot = 0 }

-- a section with that group is discarded
abbrev pub is_dropped : List Bool → Option ℕ → Bool
is_dropped dropped None = false
is_dropped dropped (Some g) = get_or dropped g false

-- a place as linking speaks of it
abbrev pub as_site : Spot → placing.Site
as_site s = record { address = s.address; home = s.home; home_number = s.number }

-- the group of the section at a position
abbrev pub group_at : List Plot → ℕ → Option ℕ
group_at sections k = option_and_then (λ (s : Plot). s.group) (slice_get sections k)

-- the placement, as linking speaks of it
abbrev pub placement_of : Footprint → Placing → placing.Placement
placement_of footprint x = record {
  site = λ k. as_site (get_or x.spots k origin);
  discarded = λ k. is_dropped x.dropped (group_at footprint.sections k);
  image_base = x.image;
  got_base = x.got;
}

-- what the outside gives a name
abbrev pub outside_at : Footprint → Placing → List ℕ → Outside
outside_at footprint x name = option_map_or (λ k. get_or x.given k nothing_given) (symbol_named footprint.symbols name) nothing_given

-- the outside map, as linking speaks of it
abbrev pub outside_of : Footprint → Placing → placing.Outside
outside_of footprint x = record {
  site = λ name. option_map as_site (outside_at footprint x name).spot;
  slot = λ name. (outside_at footprint x name).slot;
}

-- ... what is noted is a placement

-- where a section lies by the notes
abbrev pub spot_for : Notes → ℕ × Plot → Spot
spot_for notes x = if is_dropped notes.dropped x.1.group then origin else unwrap_or (get_or notes.spots x.0 None) origin

-- what the outside gives a symbol by them
abbrev pub given_for : Notes → ℕ × parts.Symbol → Outside
given_for notes x = unwrap_or (get_or notes.given x.0 None) nothing_given

-- what is placed where nothing is at fault
abbrev pub placing_of : Footprint → Notes → Placing
placing_of footprint notes = record {
  image = unwrap_or notes.image 0;
  got = unwrap_or notes.got 0;
  spots = map (spot_for notes) (enumerate_from 0 footprint.sections);
  dropped = notes.dropped;
  given = map (given_for notes) (enumerate_from 0 footprint.symbols);
}

-- what is wrong with a section that lies there
abbrev pub spot_code : Word → Plot → Option Spot → Option PlaceCode
spot_code w x None = Some Unplaced
spot_code w x (Some spot) =
    if not (nat_eq (spot.address % x.align) 0) then Some Misaligned else (if nat_lt (modulus w) (spot.address + x.size) then Some PastEnd else None)

-- what is wrong with a section; nothing where it is discarded
abbrev pub plot_code : Word → Notes → ℕ → Plot → Option PlaceCode
plot_code w notes k x = if is_dropped notes.dropped x.group then None else spot_code w x (get_or notes.spots k None)

-- the address of a name is missing
abbrev pub unnamed : Option Spot → Option PlaceCode
unnamed None = Some Unnamed
unnamed (Some spot) = None

-- what is wrong with the address of a common of that alignment
abbrev pub common_code : ℕ → Option Spot → Option PlaceCode
common_code align None = Some Unnamed
common_code align (Some spot) = if not (nat_eq (spot.address % align) 0) then Some Misaligned else None

-- what is wrong with what the outside gives a symbol, by its binding and by whether it is lost
abbrev pub given_code : Binding → Bool → Option Spot → Option PlaceCode
given_code (Local v) lost spot = None
given_code (Global v) lost spot = if lost then unnamed spot else (if is_some spot then Some Defined else None)
given_code Undefined lost spot = unnamed spot
given_code (Common size align) lost spot = common_code align spot
given_code (Weak f) lost spot = if lost then unnamed spot else None

-- the place of a binding is in a section that is discarded
abbrev pub is_lost : Footprint → Notes → Binding → Bool
is_lost footprint notes binding = placing.is_lost (placement_of footprint (placing_of footprint notes)) binding

-- what is wrong with a symbol
abbrev pub symbol_code : Footprint → Notes → ℕ → parts.Symbol → Option PlaceCode
symbol_code footprint notes k s =
    given_code s.binding (is_lost footprint notes s.binding) (unwrap_or (get_or notes.given k None) nothing_given).spot

-- the code is that of the thing at a position, counted from 1
abbrev pub at_position : ℕ → Option PlaceCode → Option Bad
at_position k code = option_map (λ c. record { line = k + 1; code = c }) code

-- what is wrong with the section at a position
abbrev pub section_bad : Footprint → Notes → ℕ → Option Bad
section_bad footprint notes k = at_position k (option_and_then (plot_code footprint.word notes k) (slice_get footprint.sections k))

-- and with the symbol at a position
abbrev pub symbol_bad : Footprint → Notes → ℕ → Option Bad
symbol_bad footprint notes k = at_position k (option_and_then (symbol_code footprint notes k) (slice_get footprint.symbols k))

-- the first section that is at fault, or else the first symbol
abbrev pub first_bad : Footprint → Notes → Option Bad
first_bad footprint notes = or_else (first_upto (section_bad footprint notes) (length footprint.sections)) (first_upto (symbol_bad footprint notes) (length footprint.symbols))

-- the placement of the notes
abbrev pub placed_by : Footprint → Notes → Result Placing Bad
placed_by footprint notes = option_map_or (λ bad. Err bad) (first_bad footprint notes) (Ok (placing_of footprint notes))

-- the placement that a text gives, or what is at fault first: a line; else a section; else a symbol
unfoldable pub placed_in : Footprint → List ℕ → Result Placing Bad
placed_in footprint text = then_by (notes_of footprint text) (placed_by footprint)

-- the alignment of a common is a power of two up to 2^20
abbrev pub IsCommonAligned : Binding → Type 0
IsCommonAligned (Local v) = Unit {0}
IsCommonAligned (Global v) = Unit {0}
IsCommonAligned Undefined = Unit {0}
IsCommonAligned (Common size align) = IsAlign align
IsCommonAligned (Weak f) = Unit {0}

-- each section, group and symbol of the object has its place
pub record IsPlacingOf (n : Object) (x : Placing) : Type 0 where
  pub spots : length x.spots ≡ length n.sections
  pub dropped : length x.dropped ≡ length n.groups
  pub given : length x.given ≡ length n.symbols
