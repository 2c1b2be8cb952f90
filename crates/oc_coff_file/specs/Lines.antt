-- The symbol table of an output: what is in it, in its order, and with which numbers (PE/COFF, "COFF Symbol Table", "COMDAT Sections" and
-- "Auxiliary Format 3: Weak Externals"; our profile).
use Rattle.std.specs.{Prelude.{ℕ, Bool, false, not, ◌&&◌, nat_eq, List, ◌∷◌, ◌++◌, map, flat_map, filter}, List.{enumerate_from}}
use Rattle.oc_coff.specs.{declared.form.CoffForm.{CoffForm}, Forms.{format_of}}
use Rattle.oc_linking.specs.Parts.{is_local}
use Rattle.oc_neutral.specs.{declared.section.Section.{Section}, declared.symbol.Symbol.{Symbol}, Objects.{Object}, KeySymbols.{is_key_at, is_key}}
use Rattle.oc_neutral.specs.WrittenSymbols.{is_written}
use Rattle.oc_shows.specs.SymbolLines.{coff_entries, needs_default}
use Rattle.oc_shelf.specs.Writing.Parts.{Laid, laid, laid_end, behind, place_where}

-- a symbol of the table: of a section, of a Local, of the default of a Weak, or of a symbol that is not Local; each by its position in the object
pub data Line : Type 0 where
  SectionLine : ℕ → Section → Line
  LocalLine : ℕ → Symbol → Line
  DefaultLine : ℕ → Symbol → Line
  OuterLine : ℕ → Symbol → Line

-- the symbols of an object with their positions
abbrev pub placed_symbols : Object → List (ℕ × Symbol)
placed_symbols n = enumerate_from 0 n.symbols

-- the lines of the symbols that pass a test
abbrev pub lines_where : (ℕ → Symbol → Line) → (Symbol → Bool) → Object → List Line
lines_where line test n = map (λ (x : ℕ × Symbol). line x.0 x.1) (filter (λ (x : ℕ × Symbol). test x.1) (placed_symbols n))

-- the lines of the section at a position: its own symbol, and the key symbol of its group, where the section leads the group
abbrev pub section_lines : Object → ℕ × Section → List Line
section_lines n x = SectionLine x.0 x.1 ∷ lines_where OuterLine (is_key_at n x.0) n

-- a Local is written
abbrev pub is_written_local : CoffForm → Symbol → Bool
is_written_local w s = is_local s.binding && is_written (format_of w) s

-- a symbol is not Local, and no key symbol
abbrev pub is_free : Object → Symbol → Bool
is_free n s = not (is_local s.binding) && not (is_key n s)

-- the lines of an object: those of its sections, Locals, defaults, and the symbols that are not Local and have no line yet
unfoldable pub lines_of : CoffForm → Object → List Line
lines_of w n =
    flat_map (section_lines n) (enumerate_from 0 n.sections)
    ++ (lines_where LocalLine (is_written_local w) n
    ++ (lines_where DefaultLine needs_default n
    ++ lines_where OuterLine (is_free n) n))

-- how many entries a line takes: a section's symbol and a weak external have an auxiliary entry
abbrev pub line_size : Line → ℕ
line_size (SectionLine k s) = 2
line_size (LocalLine k s) = 1
line_size (DefaultLine k s) = 1
line_size (OuterLine k s) = coff_entries s

-- the lines with their numbers
abbrev pub numbered_lines : CoffForm → Object → List (Laid Line)
numbered_lines w n = laid behind line_size 0 (lines_of w n)

-- how many entries there are
abbrev pub entry_count : CoffForm → Object → ℕ
entry_count w n = laid_end behind line_size 0 (lines_of w n)

-- the line is that of the section at position k
abbrev pub is_section_line : ℕ → Line → Bool
is_section_line k (SectionLine j s) = nat_eq j k
is_section_line k (LocalLine j s) = false
is_section_line k (DefaultLine j s) = false
is_section_line k (OuterLine j s) = false

-- the line is that of the default of the symbol at position k
abbrev pub is_default_line : ℕ → Line → Bool
is_default_line k (SectionLine j s) = false
is_default_line k (LocalLine j s) = false
is_default_line k (DefaultLine j s) = nat_eq j k
is_default_line k (OuterLine j s) = false

-- the line is that of the symbol at position k, which is not Local
abbrev pub is_outer_line : ℕ → Line → Bool
is_outer_line k (SectionLine j s) = false
is_outer_line k (LocalLine j s) = false
is_outer_line k (DefaultLine j s) = false
is_outer_line k (OuterLine j s) = nat_eq j k

-- the number of a section's symbol
abbrev pub section_number : List (Laid Line) → ℕ → ℕ
section_number lines k = place_where (is_section_line k) lines

-- the number of the default of the symbol at a position
abbrev pub default_number : List (Laid Line) → ℕ → ℕ
default_number lines k = place_where (is_default_line k) lines

-- the number of the symbol at a position, which is not Local
abbrev pub outer_number : List (Laid Line) → ℕ → ℕ
outer_number lines k = place_where (is_outer_line k) lines
