-- The symbol table of an output: what is in it, in its order, and with which numbers (Mach-O reference, "nlist" and "dysymtab_command"; our profile).
use Rattle.std.specs.{Prelude.{ℕ, ◌+◌, Bool, false, ◌&&◌, nat_eq, List, [], ◌++◌, map}, List.{enumerate_from, filter}}
use Rattle.oc_base.specs.{declared.format.Word.{Word}, declared.format.Word.TheVariants.{W32, W64}}
use Rattle.oc_linking.specs.Parts.{is_local}
use Rattle.oc_neutral.specs.{declared.symbol.Symbol.{Symbol}, Bindings.{is_zero}, Dressing.{is_common}}
use Rattle.oc_neutral.specs.{Mach.SectionSymbols.{section_symbol_name, needed_sections}, Objects.{Object}, WrittenSymbols.{is_written}}
use Rattle.oc_shows.specs.SymbolLines.{is_defined, is_undefined, is_weak_with}
use Rattle.oc_shelf.specs.Writing.Parts.{Laid, laid, behind, place_where}

-- an entry: the symbol `l_section_k` of a section, a Local, or a symbol that is not Local; each by its position in the object
pub data Line : Type 0 where
  OwnLine : ℕ → Line
  LocalLine : ℕ → Symbol → Line
  OuterLine : ℕ → Symbol → Line

-- in 64 bits the lines of the sections whose symbols are needed
abbrev pub own_lines : Word → Object → List Line
own_lines W32 n = []
own_lines W64 n = map OwnLine (needed_sections n)

-- those of the symbols that pass a test
abbrev pub lines_where : (ℕ → Symbol → Line) → (Symbol → Bool) → Object → List Line
lines_where line test n = map (λ (x : ℕ × Symbol). line x.0 x.1) (filter (λ (x : ℕ × Symbol). test x.1) (enumerate_from 0 n.symbols))

-- those of the Locals that the format writes
abbrev pub local_lines : Object → List Line
local_lines n = lines_where LocalLine (λ s. is_local s.binding && is_written n.format s) n

-- what this file alone knows
abbrev pub inner_lines : Word → Object → List Line
inner_lines w n = own_lines w n ++ local_lines n

-- what is defined here for all files: Globals, and Weaks with a place or a Name
abbrev pub defined_lines : Object → List Line
defined_lines n = lines_where OuterLine (λ s. is_defined s.binding) n

-- what is not: Undefined, Common, and Weak without a definition
abbrev pub undefined_lines : Object → List Line
undefined_lines n =
    lines_where OuterLine (λ s. is_undefined s.binding) n
    ++ (lines_where OuterLine (λ s. is_common s.binding) n ++ lines_where OuterLine (λ s. is_weak_with is_zero s.binding) n)

-- all in their order
unfoldable pub lines_of : Word → Object → List Line
lines_of w n = inner_lines w n ++ (defined_lines n ++ undefined_lines n)

-- each takes one number
abbrev pub line_size : Line → ℕ
line_size line = 1

-- they with their numbers
abbrev pub numbered_lines : Word → Object → List (Laid Line)
numbered_lines w n = laid behind line_size 0 (lines_of w n)

-- the line is that of the section at position k
abbrev pub is_own_line : ℕ → Line → Bool
is_own_line k (OwnLine j) = nat_eq j k
is_own_line k (LocalLine j s) = false
is_own_line k (OuterLine j s) = false

-- the line is that of the symbol at position k, which is not Local
abbrev pub is_symbol_line : ℕ → Line → Bool
is_symbol_line k (OwnLine j) = false
is_symbol_line k (LocalLine j s) = false
is_symbol_line k (OuterLine j s) = nat_eq j k

-- the number of the symbol of the section at a position
abbrev pub own_number : List (Laid Line) → ℕ → ℕ
own_number lines k = place_where (is_own_line k) lines

-- the number of the symbol at a position
abbrev pub symbol_number : List (Laid Line) → ℕ → ℕ
symbol_number lines k = place_where (is_symbol_line k) lines

-- the name of a line
abbrev pub line_name : Line → List ℕ
line_name (OwnLine k) = section_symbol_name (k + 1)
line_name (LocalLine k s) = s.name
line_name (OuterLine k s) = s.name
