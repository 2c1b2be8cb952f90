-- The symbols that are seen of an object, by the lines of its file.
use Rattle.std.proofs.Common.{◌≡◌, ℕ, false, List, Option, Some, None, refl, sym, ◌∙◌, ap, arith}
use Rattle.std.specs.{Prelude.{slice_get, filter_map}, Option.{option_map, option_and_then}}
use Rattle.oc_base.specs.Formats.{word_for}
use Rattle.oc_linking.specs.Parts.{is_local}
use Rattle.oc_neutral.specs.{declared.symbol.Symbol.{Symbol}, Objects.{Object}, Families.{container_of}}
use Rattle.oc_shows.specs.{Manners.{coff_manner, manner_of, own_manner}, Seen.{shown_from, new_position, seen_symbol, seen_symbols, seen_with, seen}}
use Rattle.oc_shows.specs.SymbolLines.{coff_lines}
use Rattle.oc_shows.proofs.{SeenFamilies.{coff_table}, SeenLines.{IsShown, table_shows}}
use Rattle.oc_shelf.specs.Writing.Parts.{Laid}
use Rattle.oc_made_files.proofs.MadeLaws as made
use Rattle.oc_made_files.proofs.ShownLines as by_lines
use Rattle.oc_coff.specs.{declared.form.CoffForm.{CoffForm}, declared.form.CoffForm.TheVariants.{Usual32, Usual64, Big32, Big64}, Forms.{format_of}}
use Rattle.oc_coff_file.specs.Lines.{Line, SectionLine, LocalLine, DefaultLine, OuterLine, lines_of, line_size, numbered_lines, outer_number}
use Rattle.oc_coff_file.proofs.LineLaws.{IsLineOf, counted_line, lines_counted, line_is_of, outer_found}

-- the symbols that are shown, by position, with their numbers
abbrev pub shown : Object → List (ℕ × ℕ)
shown n = shown_from 0 (coff_lines n)

-- the object that is seen
abbrev pub again : Object → Object
again n = seen_with coff_manner n (shown n)

-- its symbols
abbrev pub syms : Object → List Symbol
syms n = seen_symbols coff_manner n (shown n)

pub manner_is : (w : CoffForm) (n : Object) → n.format ≡ format_of w → own_manner n ≡ coff_manner
manner_is w n format = ap (λ f. manner_of (container_of f) (word_for f)) format ∙ own w
  where
    own : (w : CoffForm) → manner_of (container_of (format_of w)) (word_for (format_of w)) ≡ coff_manner
    own w = elim w as (λ w. manner_of (container_of (format_of w)) (word_for (format_of w)) ≡ coff_manner) [ Usual32 ↦ refl | Usual64 ↦ refl | Big32 ↦ refl | Big64 ↦ refl ]

pub again_is : (w : CoffForm) (n : Object) → n.format ≡ format_of w → seen n ≡ again n
again_is w n format = made.again_is coff_manner n (manner_is w n format)

-- the symbol of a line
abbrev pub line_symbol : Line → Option Symbol
line_symbol x = elim x [ SectionLine k s ↦ None | LocalLine k s ↦ Some s | DefaultLine k s ↦ None | OuterLine k s ↦ Some s ]

-- as it is seen
abbrev pub seen_line : Object → Laid Line → Option Symbol
seen_line n l = option_map (seen_symbol coff_manner n (shown n) l.at) (line_symbol l.part)

sized : (x : Line) → (counted_line x).entries ≡ line_size x
sized x = elim x as (λ x. (counted_line x).entries ≡ line_size x) [ SectionLine k s ↦ refl | LocalLine k s ↦ refl | DefaultLine k s ↦ refl | OuterLine k s ↦ refl ]

module _ (w : CoffForm) (n : Object) (format : n.format ≡ format_of w) where
  pub symbols_seen : filter_map (seen_line n) (numbered_lines w n) ≡ syms n
  symbols_seen = by_lines.symbols_seen coff_manner n line_size counted_line sized (lines_of w n) (lines_counted w n format) line_symbol (λ i x here. by x (line_is_of w n i x here))
    where
      by : (x : Line) → IsLineOf w n x → line_symbol x ≡ option_and_then (slice_get n.symbols) (counted_line x).shows
      by x o = grind arith

  pub are_shown : IsShown n (shown n)
  are_shown = table_shows n (coff_lines n) (coff_table n).table

  -- the symbol that stands for one that is not Local
  pub seen_there : (j : ℕ) (t : Symbol) → slice_get n.symbols j ≡ Some t → is_local t.binding ≡ false
      → slice_get (syms n) (new_position (shown n) j) ≡ Some (seen_symbol coff_manner n (shown n) (outer_number (numbered_lines w n) j) t)
  seen_there j t here outer =
      let o = outer_found w n format j t here outer in
      by_lines.line_shown coff_manner n line_size counted_line sized (lines_of w n) (lines_counted w n format) are_shown j t here
      o.index o.one o.here (ap (λ x. (counted_line x).shows) o.part) ∙ ap (λ k. Some (seen_symbol coff_manner n (shown n) k t)) (sym o.place)
