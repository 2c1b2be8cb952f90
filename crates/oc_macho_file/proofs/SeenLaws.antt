-- The symbols of the object that is seen are those of the lines.
use Rattle.std.proofs.Common.{◌≡◌, ℕ, false, List, Option, Some, None, refl, ◌∙◌, ap, arith}
use Rattle.std.specs.{Prelude.{slice_get, filter_map}, Option.{option_map, option_and_then}}
use Rattle.oc_base.specs.{declared.format.Word.{Word}, declared.format.Word.TheVariants.{W32, W64}, Formats.{word_for}}
use Rattle.oc_linking.specs.Parts.{is_local}
use Rattle.oc_neutral.specs.{declared.symbol.Symbol.{Symbol}, Families.{container_of}, Objects.{Object}}
use Rattle.oc_shows.specs.{Manners.{mach_manner, manner_of, own_manner}, Seen.{shown_from, new_position, seen_symbol, seen_symbols, seen_with, seen}}
use Rattle.oc_shows.specs.SymbolLines.{mach_lines}
use Rattle.oc_shows.proofs.{SeenFamilies.{mach_table}, SeenLines.{IsShown, table_shows}}
use Rattle.oc_shelf.specs.Writing.Parts.{Laid}
use Rattle.oc_made_files.proofs.MadeLaws as made
use Rattle.oc_made_files.proofs.ShownLines as by_lines
use Rattle.oc_macho.specs.MachHeader.{mach_format}
use Rattle.oc_macho_file.specs.Lines.{Line, OwnLine, LocalLine, OuterLine, lines_of, line_size, numbered_lines, symbol_number}
use Rattle.oc_macho_file.proofs.LineLaws.{IsLine, one_line, line_at, counted_line, lines_counted, symbol_found}

-- the symbols that are shown, by position, with their numbers
abbrev pub shown : Word → Object → List (ℕ × ℕ)
shown w n = shown_from 0 (mach_lines w n)

-- the object that is seen
abbrev pub again : Word → Object → Object
again w n = seen_with (mach_manner w) n (shown w n)

-- its symbols
abbrev pub syms : Word → Object → List Symbol
syms w n = seen_symbols (mach_manner w) n (shown w n)

pub manner_is : (w : Word) (n : Object) → n.format ≡ mach_format w → own_manner n ≡ mach_manner w
manner_is w n format = ap (λ f. manner_of (container_of f) (word_for f)) format ∙ own w
  where
    own : (w : Word) → manner_of (container_of (mach_format w)) (word_for (mach_format w)) ≡ mach_manner w
    own w = elim w as (λ w. manner_of (container_of (mach_format w)) (word_for (mach_format w)) ≡ mach_manner w) [ W32 ↦ refl | W64 ↦ refl ]

pub again_is : (w : Word) (n : Object) → n.format ≡ mach_format w → seen n ≡ again w n
again_is w n format = made.again_is (mach_manner w) n (manner_is w n format)

-- the symbol of a line
abbrev pub line_symbol : Line → Option Symbol
line_symbol x = elim x [ OwnLine k ↦ None | LocalLine k s ↦ Some s | OuterLine k s ↦ Some s ]

-- as it is seen
abbrev pub seen_line : Word → Object → Laid Line → Option Symbol
seen_line w n l = option_map (seen_symbol (mach_manner w) n (shown w n) l.at) (line_symbol l.part)

sized : (x : Line) → (counted_line x).entries ≡ line_size x
sized x = elim x as (λ x. (counted_line x).entries ≡ line_size x) [ OwnLine k ↦ refl | LocalLine k s ↦ refl | OuterLine k s ↦ refl ]

module _ (w : Word) (n : Object) where
  pub symbols_seen : filter_map (seen_line w n) (numbered_lines w n) ≡ syms w n
  symbols_seen = by_lines.symbols_seen (mach_manner w) n line_size counted_line sized (lines_of w n) (lines_counted w n) line_symbol (λ i x here. by x (line_at w n i x here))
    where
      by : (x : Line) → IsLine w n x → line_symbol x ≡ option_and_then (slice_get n.symbols) (counted_line x).shows
      by x o = grind arith

  pub are_shown : IsShown n (shown w n)
  are_shown = table_shows n (mach_lines w n) (mach_table n w).table

  -- the symbol that stands for one that is not Local
  pub seen_there : (j : ℕ) (t : Symbol) → slice_get n.symbols j ≡ Some t → is_local t.binding ≡ false
      → slice_get (syms w n) (new_position (shown w n) j) ≡ Some (seen_symbol (mach_manner w) n (shown w n) (symbol_number (numbered_lines w n) j) t)
  seen_there j t here outer =
      by_lines.numbered_shown (mach_manner w) n line_size counted_line sized (lines_of w n) (lines_counted w n) are_shown j t here one_line
      (symbol_number (numbered_lines w n) j) (OuterLine j t) (symbol_found w n j t here outer) refl
