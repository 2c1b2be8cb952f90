-- The final form of each symbol (our profile): by its binding in the input, by the options that match its name, by whether its section stays, and
-- by what becomes of its fallback.
use Rattle.std.specs.Prelude.{ℕ, Bool, true, false, not, bytes_eq, if◌then◌else◌, List, ◌++◌, map, slice_get, filter_map, Option, Some, None}
use Rattle.std.specs.{Option.{option_map}, List.{list_any, flat_map}}
use Rattle.oc_base.specs.declared.format.Format.{Format}
use Rattle.oc_linking.specs.{declared.terms.Fallback.{Fallback}, declared.terms.Binding.{Binding}}
use Rattle.oc_linking.specs.{declared.terms.Binding.TheVariants.{Local, Global, Undefined, Common, Weak}, Keeping.{keeps, kept_of}, Parts.{is_local}}
use Rattle.oc_linking.specs.declared.terms.Value.TheVariants as value
use Rattle.oc_linking.specs.declared.terms.Fallback.TheVariants as fallback
use Rattle.oc_neutral.specs.{declared.section.Section.{Section}, declared.symbol.Symbol.{Symbol}, Objects.{Object}, Without.{moved_binding}}
use Rattle.oc_names.specs.declared.edit.Edit.{Edit}
use Rattle.oc_names.specs.declared.edit.Edit.TheVariants.{Rename, Prefix, Suffix, Alias, AliasPrefix, AliasSuffix, Weaken, MakeLocal, Underscore}
use Rattle.oc_names.specs.Wishes.{Wishes}
use Rattle.oc_equations.specs.{Choices.{kept_kinds}, Going.{goes_with}, Names.{final_name, further_name}}

-- ... which options match

-- the option is `-nw` with this name
abbrev pub asks_weak : List ℕ → Edit → Bool
asks_weak name (Weaken of) = bytes_eq name of
asks_weak name (MakeLocal of) = false
asks_weak name (Rename old new) = false
asks_weak name (Prefix old new) = false
asks_weak name (Suffix old new) = false
asks_weak name (Alias old new) = false
asks_weak name (AliasPrefix old new) = false
asks_weak name (AliasSuffix old new) = false
asks_weak name Underscore = false

-- the option is `-nl` with this name
abbrev pub asks_local : List ℕ → Edit → Bool
asks_local name (MakeLocal of) = bytes_eq name of
asks_local name (Weaken of) = false
asks_local name (Rename old new) = false
asks_local name (Prefix old new) = false
asks_local name (Suffix old new) = false
asks_local name (Alias old new) = false
asks_local name (AliasPrefix old new) = false
asks_local name (AliasSuffix old new) = false
asks_local name Underscore = false

-- ... the table

-- what stands for a fallback, the symbol at a position, that took this form: its place where it is a Local with one, and else the symbol
abbrev pub stand_in : ℕ → Option Binding → Fallback
stand_in k (Some (Local (value.Place j offset))) = fallback.Place j offset
stand_in k (Some (Local (value.Absolute i))) = fallback.Name k
stand_in k (Some (Global v)) = fallback.Name k
stand_in k (Some Undefined) = fallback.Name k
stand_in k (Some (Common size align)) = fallback.Name k
stand_in k (Some (Weak f)) = fallback.Name k
stand_in k None = fallback.Name k

-- the form of a symbol by its binding in the input, where options ask that it is weak, or local, or both, and its fallback took a form
abbrev pub form : Bool → Bool → Option Binding → Binding → Binding
-- a Global that is made local is a Local of its value, whatever else is asked
form weak true own (Global v) = Local v
-- one with a place that is made weak is a Weak definition there; one that is a number stays
form true false own (Global (value.Place k offset)) = Weak (fallback.Place k offset)
form true false own (Global (value.Absolute i)) = Global (value.Absolute i)
form false false own (Global v) = Global v
-- a Weak definition that is made local is a Local there
form weak true own (Weak (fallback.Place k offset)) = Local (value.Place k offset)
form weak false own (Weak (fallback.Place k offset)) = Weak (fallback.Place k offset)
-- an Undefined that is made weak is a weak reference
form true local own Undefined = Weak fallback.Zero
form false local own Undefined = Undefined
-- a Weak that names its fallback follows that
form weak local own (Weak (fallback.Name k)) = Weak (stand_in k own)
-- all others stay
form weak local own (Weak fallback.Zero) = Weak fallback.Zero
form weak local own (Local v) = Local v
form weak local own (Common size align) = Common size align

-- ... the symbols of an object

-- the form of a symbol of a name by these options alone
abbrev pub form_by : List Edit → List ℕ → Option Binding → Binding → Binding
form_by edits name own b = form (list_any (asks_weak name) edits) (list_any (asks_local name) edits) own b

-- the form of the symbol that a binding names as its fallback
abbrev pub fallback_form : List Edit → List Symbol → Binding → Option Binding
fallback_form edits symbols (Weak (fallback.Name k)) = option_map (λ (t : Symbol). form_by edits t.name None t.binding) (slice_get symbols k)
fallback_form edits symbols (Weak (fallback.Place k offset)) = None
fallback_form edits symbols (Weak fallback.Zero) = None
fallback_form edits symbols (Local v) = None
fallback_form edits symbols (Global v) = None
fallback_form edits symbols Undefined = None
fallback_form edits symbols (Common size align) = None

-- the form of a symbol among those of the input
abbrev pub final_form : List Edit → List Symbol → Symbol → Binding
final_form edits symbols s = form_by edits s.name (fallback_form edits symbols s.binding) s.binding

-- a definition, which may have further names: a Global, or a Weak with a place
abbrev pub may_have_more : Binding → Bool
may_have_more (Global v) = true
may_have_more (Weak (fallback.Place k offset)) = true
may_have_more (Weak fallback.Zero) = false
may_have_more (Weak (fallback.Name k)) = false
may_have_more (Local v) = false
may_have_more Undefined = false
may_have_more (Common size align) = false

-- the symbol with this name and binding, and pinned or not
abbrev pub symbol_as : Symbol → List ℕ → Binding → Bool → Symbol
symbol_as s name b pinned = record { name = name; binding = b; mark = s.mark; vis = s.vis; size = s.size; pinned = pinned; number = s.number }

module _ (wishes : Wishes) (to : Format) (n : Object) where
  -- of each section of the input, whether it is kept
  abbrev pub kept : List Bool
  kept = map (λ (s : Section). keeps (kept_kinds wishes n.format to) s.kind) n.sections

  -- of each symbol, whether it stays: one goes with the section in which it lies
  abbrev pub staying : List Bool
  staying = map (λ (s : Symbol). not (goes_with kept s.binding)) n.symbols

  -- the symbols of the input that stay
  abbrev pub those_staying : List Symbol
  those_staying = kept_of staying n.symbols

  -- the final binding of a symbol: it names sections and symbols by their positions among those that stay
  abbrev pub final_binding : Symbol → Binding
  final_binding s = moved_binding kept staying (final_form wishes.edits n.symbols s)

  -- a symbol that is nonlocal gets its final name, a Local keeps its own
  abbrev pub final_symbol : Symbol → Symbol
  final_symbol s =
      symbol_as s (if is_local (final_form wishes.edits n.symbols s) then s.name else final_name wishes.edits n.format to s.name) (final_binding s) s.pinned

  -- the further symbol that an option gives beside one: equal, but for its name, and pinned by nothing
  abbrev pub further_symbol : Edit → Symbol → Option Symbol
  further_symbol edit s =
      if may_have_more (final_form wishes.edits n.symbols s) then option_map (λ name. symbol_as s name (final_binding s) false) (further_name s.name edit) else None

  -- the symbols of the edited object: those that stay, and then the further ones, by options and then by symbols
  abbrev pub final_symbols : List Symbol
  final_symbols = map final_symbol those_staying ++ flat_map (λ edit. filter_map (further_symbol edit) those_staying) wishes.edits
