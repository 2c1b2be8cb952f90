-- The conditions of the Edit phase, in their order (our profile): each is judged on the symbols and fields of the input and on the list of options.
use Rattle.std.specs.Prelude.{ℕ, Bool, true, false, not, ◌&&◌, nat_eq, nat_lt, bytes_eq, List, [], ◌∷◌, length, map, take, filter, slice_get, Option, None}
use Rattle.std.specs.{Option.{is_some, option_map_or}, List.{enumerate_from, position_from}}
use Rattle.oc_base.specs.{declared.code.Code.{Code}, declared.fault.Phase.TheVariants.{Edit as EditPhase}, declared.fault.Fault.{Fault}}
use Rattle.oc_base.specs.{declared.format.Format.{Format}, Formats.{word_for}}
use Rattle.oc_base.specs.declared.code.Code.TheVariants.{SymbolInDropped, RelocToDropped, PinnedWeak, TargetKind, FoldTooWide, LimitSymbols, EmptyName}
use Rattle.oc_base.specs.declared.code.Code.TheVariants.{NameClash}
use Rattle.oc_linking.specs.declared.terms.Value.TheVariants as value
use Rattle.oc_linking.specs.{declared.terms.Binding.{Binding}, declared.terms.Binding.TheVariants.{Local, Global, Undefined, Common, Weak}, Parts.{is_local}}
use Rattle.oc_linking.specs.Fits.{fits}
use Rattle.oc_linking.specs.FirstFault.{Condition, Stage}
use Rattle.oc_algebra.specs.Residues.{residue_of}
use Rattle.oc_chains.specs.{declared.field.Field.{Field}, Lists.{list_of}}
use Rattle.oc_neutral.specs.{declared.group.Group.{Group}, declared.section.Section.{Section}, declared.symbol.Symbol.{Symbol}, declared.reloc.Reloc.{Reloc}}
use Rattle.oc_neutral.specs.{Objects.{Object}, Faces.{number_of}}
use Rattle.oc_names.specs.{declared.edit.Edit.{Edit}, Wishes.{Wishes}}
use Rattle.oc_equations.specs.Going.{goes_with, refers_gone}
use Rattle.oc_equations.specs.{Symbols.{asks_weak, form_by, fallback_form, kept, final_symbols}, Fields.{constant}}
use Rattle.oc_equations.specs.Sections.{kept_sections, final_sections, final_groups}

-- ... words

-- a fault of the Edit phase, about the symbol or the section of that number
abbrev pub fault_about : ℕ → Code → ℕ → Fault
fault_about number code place = record { phase = EditPhase; index = number; code = code; place = place }

-- a stage in which each item of a list is judged, in its order
abbrev pub each_of : {X : Type 0} → (X → List Condition) → List X → Stage
each_of conditions xs = record { count = length xs; conditions = λ i. option_map_or conditions (slice_get xs i) [] }

-- the binding is Global
abbrev pub is_global : Binding → Bool
is_global (Global v) = true
is_global (Local v) = false
is_global Undefined = false
is_global (Common size align) = false
is_global (Weak f) = false

-- it is Weak
abbrev pub is_weak : Binding → Bool
is_weak (Weak f) = true
is_weak (Local v) = false
is_weak (Global v) = false
is_weak Undefined = false
is_weak (Common size align) = false

-- it is a Local that is a number
abbrev pub is_local_number : Binding → Bool
is_local_number (Local (value.Absolute i)) = true
is_local_number (Local (value.Place k offset)) = false
is_local_number (Global v) = false
is_local_number Undefined = false
is_local_number (Common size align) = false
is_local_number (Weak f) = false

-- a nonlocal symbol has this name
abbrev pub is_called : List ℕ → Symbol → Bool
is_called name s = not (is_local s.binding) && bytes_eq name s.name

-- the group has this key
abbrev pub is_keyed : List ℕ → Group → Bool
is_keyed key g = bytes_eq key g.key

-- the section is a member of the group at a position
abbrev pub is_in_group : ℕ → Section → Bool
is_in_group g s = option_map_or (nat_eq g) s.group false

-- the fallback of a Weak became Weak
abbrev pub falls_on_weak : List Edit → List Symbol → Symbol → Condition
falls_on_weak edits symbols s = (option_map_or is_weak (fallback_form edits symbols s.binding) false, fault_about s.number PinnedWeak 0)

-- it became a Local that is a number
abbrev pub falls_on_number : List Edit → List Symbol → Symbol → Condition
falls_on_number edits symbols s = (option_map_or is_local_number (fallback_form edits symbols s.binding) false, fault_about s.number TargetKind 0)

-- there are more than 16,777,216 symbols; the place is their number
abbrev pub too_many : ℕ → Condition
too_many count = (nat_lt 16777216 count, fault_about 0 LimitSymbols count)

-- a nonlocal symbol has an empty name
abbrev pub is_nameless : Symbol → Condition
is_nameless s = (not (is_local s.binding) && nat_eq (length s.name) 0, fault_about s.number EmptyName 0)

module _ (wishes : Wishes) (to : Format) (n : Object) where
  -- ... the conditions

  -- a nonlocal symbol lies in a section that is not kept
  abbrev pub lies_nowhere : Symbol → Condition
  lies_nowhere s = (not (is_local s.binding) && goes_with (kept wishes to n) s.binding, fault_about s.number SymbolInDropped 0)

  -- a field of a section that is kept refers to one that is not; the place is its offset
  abbrev pub refers_nowhere : Section → Field Reloc → Condition
  refers_nowhere s x = (refers_gone (kept wishes to n) x.item, fault_about s.number RelocToDropped x.at)

  -- the option at a position asks that a symbol is weak that is pinned, and Global after the options before
  abbrev pub weakens_pinned : ℕ × Edit → Symbol → Condition
  weakens_pinned x s =
      (asks_weak s.name x.1 && is_global (form_by (take x.0 wishes.edits) s.name None s.binding) && s.pinned, fault_about s.number PinnedWeak 0)

  -- a field of a section that is kept becomes a constant that does not fit it; the place is its offset
  abbrev pub is_too_wide : Section → Field Reloc → Condition
  is_too_wide s x = (
    option_map_or (λ c. not (fits (word_for n.format) x.item.form.width x.item.form.check (residue_of (word_for n.format) c))) (constant wishes to n x.item) false,
    fault_about s.number FoldTooWide x.at,
  )

  -- so many are the final symbols, with the further ones
  abbrev pub are_too_many : Condition
  are_too_many = too_many (length (final_symbols wishes to n))

  -- the position of the first nonlocal symbol of a name, among those before a position
  abbrev pub first_called : ℕ → List ℕ → Option ℕ
  first_called k name = position_from (is_called name) 0 (take k (final_symbols wishes to n))

  -- the nonlocal symbol at a position has the name of one before it, whose number is the place
  abbrev pub has_used_name : ℕ × Symbol → Condition
  has_used_name x = (
    not (is_local x.1.binding) && is_some (first_called x.0 x.1.name),
    fault_about x.1.number NameClash (option_map_or (number_of (final_symbols wishes to n)) (first_called x.0 x.1.name) 0),
  )

  -- the number of the first section of the group at a position
  abbrev pub first_member : ℕ → ℕ
  first_member g = option_map_or (λ (s : Section). s.number) (slice_get (filter (is_in_group g) (final_sections wishes to n)) 0) 0

  -- the position of the first group of a key, among those before a position
  abbrev pub first_keyed : ℕ → List ℕ → Option ℕ
  first_keyed g key = position_from (is_keyed key) 0 (take g (final_groups wishes to n))

  -- the group at a position has the key of one before it. Both are told by the numbers of their first sections, the earlier one's as the place
  abbrev pub has_used_key : ℕ × Group → Condition
  has_used_key x = (is_some (first_keyed x.0 x.1.key), fault_about (first_member x.0) NameClash (option_map_or first_member (first_keyed x.0 x.1.key) 0))

  -- ... their order

  -- a condition on each field of the sections that are kept, by sections and offsets
  abbrev pub each_field : (Section → Field Reloc → Condition) → Stage
  each_field condition = each_of (λ (x : ℕ × Section). map (condition x.1) (list_of n.relocs x.0)) (kept_sections wishes to n)

  -- those of dropping: on symbols, then on fields
  abbrev pub dropping_stages : List Stage
  dropping_stages = each_of (λ s. lies_nowhere s ∷ []) n.symbols ∷ each_field refers_nowhere ∷ []

  -- all: by symbols, by fields; by options and then by symbols, by symbols, by fields; the count; by final symbols, by final groups
  abbrev pub edit_stages : List Stage
  edit_stages =
      each_of (λ s. lies_nowhere s ∷ []) n.symbols
      ∷ each_field refers_nowhere
      ∷ each_of (λ x. map (weakens_pinned x) n.symbols) (enumerate_from 0 wishes.edits)
      ∷ each_of (λ s. falls_on_weak wishes.edits n.symbols s ∷ falls_on_number wishes.edits n.symbols s ∷ []) n.symbols
      ∷ each_field is_too_wide
      ∷ each_of (λ c. c ∷ []) (are_too_many ∷ [])
      ∷ each_of (λ x. is_nameless x.1 ∷ has_used_name x ∷ []) (enumerate_from 0 (final_symbols wishes to n))
      ∷ each_of (λ x. has_used_key x ∷ []) (enumerate_from 0 (final_groups wishes to n))
      ∷ []
