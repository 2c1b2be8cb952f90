-- When editing by one list of edits and then by another is editing by both at once (our profile).
use Rattle.std.specs.Prelude.{◌≡◌, ◌≢◌, ℕ, Bool, true, false, nat_eq, bytes_eq, List, ◌++◌, slice_get, Some, Ok}
use Rattle.std.specs.List.{AllByRecursion, list_any, starts_with, ends_with}
use Rattle.oc_base.specs.declared.format.Format.{Format}
use Rattle.oc_linking.specs.declared.terms.Fallback.TheVariants as fallback
use Rattle.oc_linking.specs.{declared.terms.Binding.TheVariants.{Weak}, Parts.{is_local}}
use Rattle.oc_neutral.specs.{declared.symbol.Symbol.{Symbol}, Objects.{Object}, Invariants.{IsObject}}
use Rattle.oc_names.specs.declared.edit.Edit.{Edit}
use Rattle.oc_names.specs.declared.edit.Edit.TheVariants.{Rename, Prefix, Suffix, Alias, AliasPrefix, AliasSuffix, Weaken, MakeLocal, Underscore}
use Rattle.oc_names.specs.{NewNames.{is_underscore, renamed_by}, Matching.{is_alias}, Wishes.{Wishes}, Edited.{edited}}
use Rattle.oc_drop.specs.Steps.{first_in}

-- the wishes with these edits
abbrev pub with_edits : Wishes → List Edit → Wishes
with_edits wishes edits = record { edits = edits; debug = wishes.debug; exceptions = wishes.exceptions }

-- the edit is about symbols of this name; one about underscores is about every name
abbrev pub is_about : List ℕ → Edit → Bool
is_about name (Rename from to) = bytes_eq name from
is_about name (Prefix from to) = starts_with nat_eq name from
is_about name (Suffix from to) = ends_with nat_eq name from
is_about name (Alias from to) = bytes_eq name from
is_about name (AliasPrefix from to) = starts_with nat_eq name from
is_about name (AliasSuffix from to) = ends_with nat_eq name from
is_about name (Weaken of) = bytes_eq name of
is_about name (MakeLocal of) = bytes_eq name of
is_about name Underscore = true

-- no edit is about the name
abbrev pub Leave : List Edit → List ℕ → Type 0
Leave edits name = list_any (is_about name) edits ≡ false

-- where the first edits rename a symbol of this name, the second are about neither its old name nor its new one
abbrev pub IsApart : List Edit → List Edit → List ℕ → Type 0
IsApart first second name = (new : List ℕ) → first_in (renamed_by name) first ≡ Some new → Leave second name × Leave second new

-- the second edits can be made after the first, in place of all at once. Each field is needed: in turn these give other objects than at once
-- (the words are those of the command, and a, b, c are symbols)
pub record CanFollow (first second : List Edit) (n : Object) : Type 0 where
  -- the first give no further symbols: of -ar:a:b and -nw:a, b is weak only at once
  pub alone : AllByRecursion (λ edit. is_alias edit ≡ false) first
  -- nor do they change underscores: of -nu and -nr:a:b, a is renamed only at once, where -nu makes it _a
  pub plain : AllByRecursion (λ edit. is_underscore edit ≡ false) first
  -- of -nr:a:b and -nr:b:c, a becomes c only in turn; of -nr:a:b and -nw:a, b is weak only at once
  pub apart : (k : ℕ) (s : Symbol) → slice_get n.symbols k ≡ Some s → is_local s.binding ≡ false → IsApart first second s.name
  -- the second make no Weak a Local that stands for another symbol: where a stands for b, of -nl:b and -nl:a, a is a Local only in turn
  pub standing : (k j : ℕ) (s : Symbol) → slice_get n.symbols k ≡ Some s → s.binding ≡ Weak (fallback.Name j) → AllByRecursion (λ edit. edit ≢ MakeLocal s.name) second

-- where the first edits are not refused, the second after them give what all at once give, an object or the same refusal. The first alone may be
-- refused where all at once are not: where a stands for b, -nw:b is, and -nw:b with -nl:b is not
abbrev pub EditsInTurn : Type 0
EditsInTurn = (wishes : Wishes) (first second : List Edit) (to : Format) (n m : Object) → IsObject n → IsObject m → CanFollow first second n
    → edited (with_edits wishes first) to n ≡ Ok m → edited (with_edits wishes second) to m ≡ edited (with_edits wishes (first ++ second)) to n
