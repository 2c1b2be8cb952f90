-- The symbols that are seen of an object, by the outputs of its file.
use Rattle.std.proofs.Common.{◌≡◌, ℕ, zero, suc, ◌+◌, List, [], ◌∷◌, map, Some, refl, sym, ◌∙◌, ap, arith}
use Rattle.std.specs.Prelude.{slice_get}
use Rattle.std.proofs.lemmas.Option.{none-some, same_Some}
use Rattle.oc_base.specs.{declared.format.Format.TheVariants.{Omf}, Formats.{word_for}}
use Rattle.oc_neutral.specs.{declared.symbol.Symbol.{Symbol}, Objects.{Object}, Families.{container_of}}
use Rattle.oc_shows.specs.{Manners.{omf_manner, manner_of, own_manner}, Seen.{shown_from, new_position, seen_symbol, seen_symbols, seen_with, seen}}
use Rattle.oc_shows.specs.SymbolLines.{omf_lines}
use Rattle.oc_shows.proofs.{SeenFamilies.{omf_table}, SeenLines.{IsShown, table_shows}}
use Rattle.oc_made_files.proofs.MadeLaws as made
use Rattle.oc_made_files.proofs.ShownLines as by_lines
use Rattle.oc_omf_file.specs.Outputs.{Output, symbol_outputs}
use Rattle.oc_omf_file.proofs.{CodedLaws.{IsForOmf}, LineLaws.{key_of, line_of, lines_are, strong}}

-- the symbols that are shown, by position, with their numbers
abbrev pub shown : Object → List (ℕ × ℕ)
shown n = shown_from 0 (omf_lines n)

-- the object that is seen
abbrev pub again : Object → Object
again n = seen_with omf_manner n (shown n)

-- its symbols
abbrev pub syms : Object → List Symbol
syms n = seen_symbols omf_manner n (shown n)

pub manner_is : (n : Object) → n.format ≡ Omf → own_manner n ≡ omf_manner
manner_is n format = ap (λ f. manner_of (container_of f) (word_for f)) format

pub again_is : (n : Object) → n.format ≡ Omf → seen n ≡ again n
again_is n format = made.again_is omf_manner n (manner_is n format)

-- the same by outputs, the first of which has that number
abbrev pub shown_outputs : ℕ → List Output → List (ℕ × ℕ)
shown_outputs at [] = []
shown_outputs at (o ∷ os) = (key_of o, at) ∷ shown_outputs (at + 1) os

shown_by : (at : ℕ) (os : List Output) → shown_from at (map line_of os) ≡ shown_outputs at os
shown_by at [] = refl
shown_by at (o ∷ os) = ap (λ xs. (key_of o, at) ∷ xs) (shown_by (at + 1) os)

pub shown_are : (n : Object) → shown n ≡ shown_outputs 0 (symbol_outputs n)
shown_are n = ap (shown_from 0) (sym (lines_are n)) ∙ shown_by 0 (symbol_outputs n)

shown_at : (at : ℕ) (os : List Output) (i : ℕ) (o : Output) → slice_get os i ≡ Some o → slice_get (shown_outputs at os) i ≡ Some (key_of o, at + i)
shown_at at [] i o h = absurd (none-some o h)
shown_at at (p ∷ os) zero o h = let e : at ≡ at + 0 = omega arith in ap (λ q. Some (key_of q, at)) (same_Some p o h) ∙ ap (λ k. Some (key_of o, k)) e
shown_at at (p ∷ os) (suc i) o h = let e : at + 1 + i ≡ at + suc i = omega arith in shown_at (at + 1) os i o h ∙ ap (λ k. Some (key_of o, k)) e

module _ (n : Object) (is : IsForOmf n) where
  pub are_shown : IsShown n (shown n)
  are_shown = table_shows n (omf_lines n) (omf_table n (strong n is)).table

  shown_here : (i : ℕ) (o : Output) → slice_get (symbol_outputs n) i ≡ Some o → slice_get (shown n) i ≡ Some (key_of o, i)
  shown_here i o h = let e : 0 + i ≡ i = omega arith in ap (λ xs. slice_get xs i) (shown_are n) ∙ shown_at 0 (symbol_outputs n) i o h ∙ ap (λ k. Some (key_of o, k)) e

  -- the symbol of an output, as it is seen
  pub seen_there : (i : ℕ) (o : Output) (s : Symbol) → slice_get (symbol_outputs n) i ≡ Some o → slice_get n.symbols (key_of o) ≡ Some s
      → slice_get (syms n) i ≡ Some (seen_symbol omf_manner n (shown n) i s)
  seen_there i o s h there = by_lines.seen_at omf_manner n are_shown i (key_of o, i) s (shown_here i o h) there

  -- its position
  pub position_is : (i : ℕ) (o : Output) → slice_get (symbol_outputs n) i ≡ Some o → new_position (shown n) (key_of o) ≡ i
  position_is i o h = by_lines.position_is omf_manner n are_shown i (key_of o, i) (shown_here i o h)
