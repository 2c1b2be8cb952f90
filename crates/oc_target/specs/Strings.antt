-- The long names of symbols in the string table of a COFF output (PE/COFF, "COFF String Table"; our profile).
use Rattle.std.specs.{Prelude.{not, ◌&&◌, ℕ, List, length, filter, flat_map}, List.{range_with_len}}
use Rattle.oc_base.specs.declared.format.Format.{Format}
use Rattle.oc_linking.specs.Parts.{is_local}
use Rattle.oc_neutral.specs.{declared.symbol.Symbol.{Symbol}, Coff.Strings.{is_long, key_strings, names_where}, KeySymbols.{is_key}, Objects.{Object}}
use Rattle.oc_neutral.specs.WrittenSymbols.{is_written}

-- the long names of the key symbols, section by section
abbrev pub all_key_strings : Object → List (List ℕ)
all_key_strings n = flat_map (key_strings n) (range_with_len 0 (length n.sections))

-- the long names of the Locals that are written
abbrev pub local_strings : Format → Object → List (List ℕ)
local_strings target n = filter is_long (names_where (λ (s : Symbol). is_local s.binding && is_written target s) n)

-- the long names of the symbols that are not Local, but for key symbols
abbrev pub other_strings : Object → List (List ℕ)
other_strings n = filter is_long (names_where (λ (s : Symbol). not (is_local s.binding) && not (is_key n s)) n)
