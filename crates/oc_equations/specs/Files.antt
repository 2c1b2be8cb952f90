-- The final form of the symbols of a file, and of the keys of its groups (our profile). They name the sections that the file carries by their positions, and
-- a fallback by its number; else the table is that of an object.
use Rattle.std.specs.Prelude.{ℕ, Bool, false, not, ◌&&◌, nat_eq, bytes_eq, if◌then◌else◌, List, ◌++◌, map, slice_get, filter, filter_map, Option, None}
use Rattle.std.specs.{Option.{option_map}, List.{list_any, flat_map}}
use Rattle.oc_base.specs.declared.format.Format.{Format}
use Rattle.oc_linking.specs.declared.terms.Fallback.TheVariants as fallback
use Rattle.oc_linking.specs.{declared.terms.Binding.{Binding}, declared.terms.Binding.TheVariants.{Local, Global, Undefined, Common, Weak}}
use Rattle.oc_linking.specs.Keeping.{kept_flags, kept_of}
use Rattle.oc_linking.specs.Parts as parts
use Rattle.oc_names.specs.{declared.edit.Edit.{Edit}, Wishes.{Wishes}}
use Rattle.oc_equations.specs.{Choices.{kept_kinds}, Going.{goes_with}, Names.{final_name, further_name}, Symbols.{form_by, may_have_more}}

-- a symbol of a file with this name and binding, and pinned or not
abbrev pub part_as : parts.Symbol → List ℕ → Binding → Bool → parts.Symbol
part_as s name b pinned = record { name = name; binding = b; mark = s.mark; vis = s.vis; size = s.size; pinned = pinned; number = s.number }

module _ (wishes : Wishes) (from to : Format) (sections : List parts.Section) (symbols : List parts.Symbol) where
  -- the symbol lies in a section that is not kept
  abbrev pub is_gone : parts.Symbol → Bool
  is_gone s = goes_with (kept_flags (kept_kinds wishes from to) sections) s.binding

  -- the symbols that stay
  abbrev pub filed_staying : List parts.Symbol
  filed_staying = kept_of (map (λ s. not (is_gone s)) symbols) symbols

  -- the form of the symbol whose number a binding has as its fallback
  abbrev pub numbered_form : Binding → Option Binding
  numbered_form (Weak (fallback.Name number)) =
      option_map (λ (t : parts.Symbol). form_by wishes.edits t.name None t.binding) (slice_get (filter (λ (t : parts.Symbol). nat_eq t.number number) filed_staying) 0)
  numbered_form (Weak (fallback.Place k offset)) = None
  numbered_form (Weak fallback.Zero) = None
  numbered_form (Local v) = None
  numbered_form (Global v) = None
  numbered_form Undefined = None
  numbered_form (Common size align) = None

  -- the form of a symbol of the file
  abbrev pub filed_form : parts.Symbol → Binding
  filed_form s = form_by wishes.edits s.name (numbered_form s.binding) s.binding

  -- a symbol that is nonlocal gets its final name, a Local keeps its own
  abbrev pub filed_symbol : parts.Symbol → parts.Symbol
  filed_symbol s = part_as s (if parts.is_local (filed_form s) then s.name else final_name wishes.edits from to s.name) (filed_form s) s.pinned

  -- the further symbol that an option gives beside one
  abbrev pub filed_further : Edit → parts.Symbol → Option parts.Symbol
  filed_further edit s =
      if may_have_more (filed_form s) then option_map (λ name. part_as s name (filed_form s) false) (further_name s.name edit) else None

  -- the symbol is nonlocal in the end, and a key is its name
  abbrev pub keys_it : List ℕ → parts.Symbol → Bool
  keys_it key s = not (parts.is_local (filed_form s)) && bytes_eq s.name key

  -- the final symbols of the file: those that stay, and then the further ones; and the key that a group gets for the one that it had
  abbrev pub final_file : parts.Edited
  final_file = record {
    symbols = map filed_symbol filed_staying ++ flat_map (λ edit. filter_map (filed_further edit) filed_staying) wishes.edits;
    key = λ key. if list_any (keys_it key) filed_staying then final_name wishes.edits from to key else key;
  }
