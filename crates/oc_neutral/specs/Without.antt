-- What is left of an object without some of its sections, and without the Locals in them; what stays gets new positions (our profile).
use Rattle.std.specs.Prelude.{◌≡◌, ℕ, ◌+◌, ◌^◌, ◌<◌, Bool, true, false, not, ◌&&◌, ◌||◌, nat_eq, if◌then◌else◌, List, [], ◌∷◌, ◌++◌, length, map, slice_get, get_or, take, Option, Some, None}
use Rattle.std.specs.{Option.{is_some, option_and_then, option_map_or}, List.{AllByRecursion, filter, filter_map, position_from}}
use Rattle.oc_linking.specs.{declared.terms.Value.{Value}, declared.terms.Fallback.{Fallback}, declared.terms.Binding.{Binding}}
use Rattle.oc_linking.specs.{declared.terms.Binding.TheVariants.{Local, Global, Undefined, Common, Weak}, declared.terms.Less.{Less}, Keeping.{kept_of}}
use Rattle.oc_linking.specs.Parts.{is_local}
use Rattle.oc_linking.specs.declared.terms.Value.TheVariants as value
use Rattle.oc_linking.specs.declared.terms.Fallback.TheVariants as fallback
use Rattle.oc_linking.specs.declared.terms.Less.TheVariants as less
use Rattle.oc_chains.specs.{declared.field.Field.{Field}, Lists.{list_of}}
use Rattle.oc_neutral.specs.{declared.section.Section.{Section}, declared.symbol.Symbol.{Symbol}, declared.reloc.Target.{Target}, declared.reloc.Reloc.{Reloc}}
use Rattle.oc_neutral.specs.Objects.{Object}
use Rattle.oc_neutral.specs.declared.reloc.Target.TheVariants as target

-- ... what goes

-- the position is one of a dropped section
abbrev pub is_dropped : List Bool → ℕ → Bool
is_dropped stay k = not (get_or stay k true)

-- the section of a value's place
abbrev pub value_section : Value → Option ℕ
value_section (value.Place k offset) = Some k
value_section (value.Absolute n) = None

-- the section in which a symbol of this binding lies; a Weak with a Name does not lie there itself
abbrev pub binding_section : Binding → Option ℕ
binding_section (Local v) = value_section v
binding_section (Global v) = value_section v
binding_section Undefined = None
binding_section (Common size align) = None
binding_section (Weak (fallback.Place k offset)) = Some k
binding_section (Weak fallback.Zero) = None
binding_section (Weak (fallback.Name k)) = None

-- the symbol lies in a dropped section
abbrev pub lies_in_dropped : List Bool → Symbol → Bool
lies_in_dropped stay s = option_map_or (is_dropped stay) (binding_section s.binding) false

-- of each symbol, whether it stays
abbrev pub symbols_stay : List Bool → List Symbol → List Bool
symbols_stay stay symbols = map (λ s. not (lies_in_dropped stay s)) symbols

-- ... what may go

-- the target is a dropped section
abbrev pub targets_dropped : List Bool → Target → Bool
targets_dropped stay (target.Section k) = is_dropped stay k
targets_dropped stay (target.Symbol k) = false

-- what is taken is the address of a dropped section
abbrev pub takes_dropped : List Bool → Less → Bool
takes_dropped stay (less.Section k) = is_dropped stay k
takes_dropped stay less.Zero = false
takes_dropped stay less.Place = false
takes_dropped stay less.GotBase = false
takes_dropped stay less.ImageBase = false
takes_dropped stay less.Home = false

-- a relocation refers to a dropped section
abbrev pub refers_to_dropped : List Bool → Reloc → Bool
refers_to_dropped stay r = targets_dropped stay r.target || takes_dropped stay r.form.less

-- no nonlocal symbol lies in a section that goes, and no field of a section that stays refers to one
pub record IsDetached (stay : List Bool) (n : Object) : Type 0 where
  pub symbols : AllByRecursion (λ (s : Symbol). (not (is_local s.binding) && lies_in_dropped stay s) ≡ false) n.symbols
  pub fields : (k : ℕ) (s : Section) → slice_get n.sections k ≡ Some s → AllByRecursion (λ (x : Field Reloc). (not (is_dropped stay k) && refers_to_dropped stay x.item) ≡ false) (list_of n.relocs k)

-- ... new positions

-- the position of what stays, among all that stays
abbrev pub new_position : List Bool → ℕ → ℕ
new_position stay k = length (filter (λ stays. stays) (take k stay))

-- the new positions of all, where the first that stays has position k
abbrev pub positions_from : ℕ → List Bool → List ℕ
positions_from k [] = []
positions_from k (true ∷ stay) = k ∷ positions_from (k + 1) stay
positions_from k (false ∷ stay) = k ∷ positions_from k stay

-- how many stay
abbrev pub count_of : List Bool → ℕ
count_of stay = length (filter (λ stays. stays) stay)

-- a table of new positions, and how many stay
pub record AreMoves (stay : List Bool) (positions : List ℕ) (count : ℕ) : Type 0 where
  pub few : length stay < 2 ^ 31
  pub all : positions ≡ positions_from 0 stay
  pub counted : count ≡ count_of stay

-- a value, where sections moved
abbrev pub moved_value : List Bool → Value → Value
moved_value stay (value.Place k offset) = value.Place (new_position stay k) offset
moved_value stay (value.Absolute n) = value.Absolute n

-- a fallback, where sections and symbols moved
abbrev pub moved_fallback : List Bool → List Bool → Fallback → Fallback
moved_fallback stay symbols (fallback.Place k offset) = fallback.Place (new_position stay k) offset
moved_fallback stay symbols fallback.Zero = fallback.Zero
moved_fallback stay symbols (fallback.Name k) = fallback.Name (new_position symbols k)

-- a binding
abbrev pub moved_binding : List Bool → List Bool → Binding → Binding
moved_binding stay symbols (Local v) = Local (moved_value stay v)
moved_binding stay symbols (Global v) = Global (moved_value stay v)
moved_binding stay symbols Undefined = Undefined
moved_binding stay symbols (Common size align) = Common size align
moved_binding stay symbols (Weak f) = Weak (moved_fallback stay symbols f)

-- the symbol with another binding
abbrev pub with_binding : Symbol → Binding → Symbol
with_binding s b = record { name = s.name; binding = b; mark = s.mark; vis = s.vis; size = s.size; pinned = s.pinned; number = s.number }

-- a symbol, where sections and symbols moved
abbrev pub moved_symbol : List Bool → List Bool → Symbol → Symbol
moved_symbol stay symbols s = with_binding s (moved_binding stay symbols s.binding)

-- a target
abbrev pub moved_target : List Bool → List Bool → Target → Target
moved_target stay symbols (target.Section k) = target.Section (new_position stay k)
moved_target stay symbols (target.Symbol k) = target.Symbol (new_position symbols k)

-- what is taken
abbrev pub moved_less : List Bool → Less → Less
moved_less stay (less.Section k) = less.Section (new_position stay k)
moved_less stay less.Zero = less.Zero
moved_less stay less.Place = less.Place
moved_less stay less.GotBase = less.GotBase
moved_less stay less.ImageBase = less.ImageBase
moved_less stay less.Home = less.Home

-- a relocation
abbrev pub moved_reloc : List Bool → List Bool → Reloc → Reloc
moved_reloc stay symbols r = record {
  target = moved_target stay symbols r.target;
  form = record { base = r.form.base; less = moved_less stay r.form.less; width = r.form.width; check = r.form.check };
  addend = r.addend;
  hint = r.hint;
}

-- a field
abbrev pub moved_field : List Bool → List Bool → Field Reloc → Field Reloc
moved_field stay symbols x = record { at = x.at; width = x.width; item = moved_reloc stay symbols x.item }

-- ... groups

-- the position of a group among those that were begun, where it was
abbrev pub place_in : List ℕ → ℕ → Option ℕ
place_in begun g = position_from (nat_eq g) 0 begun

-- the places of groups, by the groups
abbrev pub ArePlaces : List ℕ → List (Option ℕ) → Type 0
ArePlaces begun places = (g : ℕ) → g < length places → slice_get places g ≡ Some (place_in begun g)

-- those that were begun, with one more
abbrev pub begun_more : List ℕ → ℕ → List ℕ
begun_more begun g = if is_some (place_in begun g) then begun else begun ++ g ∷ []

-- the groups in the order of their first members, each once
abbrev pub begun_by : List ℕ → List ℕ → List ℕ
begun_by begun [] = begun
begun_by begun (g ∷ members) = begun_by (begun_more begun g) members

-- the groups that have one of these sections
abbrev pub groups_left : List Section → List ℕ
groups_left sections = begun_by [] (filter_map (λ (s : Section). s.group) sections)

-- the section in its group's new position
abbrev pub regrouped : List ℕ → Section → Section
regrouped left s = record {
  name = s.name;
  kind = s.kind;
  align = s.align;
  size = s.size;
  bytes = s.bytes;
  tag = s.tag;
  number = s.number;
  group = option_and_then (place_in left) s.group;
}

-- ... all together

-- what is left of an object where these sections, and these symbols, stay
abbrev pub left_of : List Bool → List Bool → Object → Object
left_of stay symbols n =
    let sections : List Section = kept_of stay n.sections in
    record {
      format = n.format;
      groups = filter_map (slice_get n.groups) (groups_left sections);
      sections = map (regrouped (groups_left sections)) sections;
      symbols = map (moved_symbol stay symbols) (kept_of symbols n.symbols);
      relocs = map (map (moved_field stay symbols)) (kept_of stay n.relocs);
    }

-- what is left of an object where these sections stay
abbrev pub without_of : List Bool → Object → Object
without_of stay n = left_of stay (symbols_stay stay n.symbols) n
