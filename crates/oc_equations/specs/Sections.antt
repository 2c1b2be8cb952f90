-- The sections and the groups of an edited object (our profile).
use Rattle.std.specs.Prelude.{ℕ, Bool, not, ◌&&◌, nat_eq, bytes_eq, if◌then◌else◌, List, [], ◌∷◌, map, slice_get, filter, filter_map}
use Rattle.std.specs.{Option.{option_and_then}, List.{list_any, enumerate_from, position_from}}
use Rattle.oc_base.specs.declared.format.Format.{Format}
use Rattle.oc_linking.specs.{Images.{overlay}, Keeping.{kept_of}, Parts.{is_local}}
use Rattle.oc_neutral.specs.{declared.group.Group.{Group}, declared.section.Section.{Section}, declared.symbol.Symbol.{Symbol}, Objects.{Object}}
use Rattle.oc_names.specs.Wishes.{Wishes}
use Rattle.oc_equations.specs.{Names.{final_name}, Symbols.{final_form, kept}, Fields.{constants}}

-- the numbers of a list, each where it comes first
abbrev pub each_once : List ℕ → List ℕ
each_once [] = []
each_once (g ∷ gs) = g ∷ filter (λ h. not (nat_eq h g)) (each_once gs)

module _ (wishes : Wishes) (to : Format) (n : Object) where
  -- the sections that are kept, with their positions in the input
  abbrev pub kept_sections : List (ℕ × Section)
  kept_sections = kept_of (kept wishes to n) (enumerate_from 0 n.sections)

  -- the groups that have a section left, in the order of their first ones, by their positions in the input
  abbrev pub kept_groups : List ℕ
  kept_groups = each_once (filter_map (λ (x : ℕ × Section). x.1.group) kept_sections)

  -- a section that is kept: its constants are in its bytes
  abbrev pub final_section : ℕ × Section → Section
  final_section x = record {
    name = x.1.name;
    kind = x.1.kind;
    align = x.1.align;
    size = x.1.size;
    bytes = overlay (constants wishes to n x.0) 0 x.1.bytes;
    tag = x.1.tag;
    number = x.1.number;
    group = option_and_then (λ g. position_from (nat_eq g) 0 kept_groups) x.1.group;
  }

  -- the sections of the edited object
  abbrev pub final_sections : List Section
  final_sections = map final_section kept_sections

  -- a key is the name of this symbol, which is nonlocal in the end
  abbrev pub is_key_of : List ℕ → Symbol → Bool
  is_key_of key s = not (is_local (final_form wishes.edits n.symbols s)) && bytes_eq s.name key

  -- a key follows such a symbol to its final name; another stays
  abbrev pub final_key : List ℕ → List ℕ
  final_key key = if list_any (is_key_of key) n.symbols then final_name wishes.edits n.format to key else key

  -- the groups of the edited object
  abbrev pub final_groups : List Group
  final_groups = map (λ (g : Group). record { key = final_key g.key }) (filter_map (slice_get n.groups) kept_groups)
