-- The lines of hints (our profile).
use Rattle.std.specs.{Prelude.{ℕ, ◌-◌, nat_lt, if◌then◌else◌, List, [], ◌∷◌, ◌++◌, codes}, List.{flat_map}, Fmt.{decimal}}
use Rattle.oc_dump.specs.Lines.{shown_name}
use Rattle.oc_hints.specs.declared.hint.Hint.{Hint}
use Rattle.oc_hints.specs.declared.hint.Hint.TheVariants as hint
use Rattle.oc_hint_text.specs.Words.{symbol_word, symbol_sentence, section_word, section_sentence, field_word, field_sentence, file_word, file_sentence, edit_word, edit_sentence}

-- how many more there are than the one that is shown
abbrev pub more_text : ℕ → List ℕ
more_text count = if nat_lt 1 count then codes ", and " ++ decimal (count - 1) ++ codes " more" else []

-- the fields of a section: the section's name, the offset of the first, and how many more
abbrev pub fields_text : List ℕ → ℕ → ℕ → List ℕ
fields_text section at count = shown_name section ++ codes " at " ++ decimal at ++ more_text count

-- a line: the word of the key, the thing, and what is said of it
abbrev pub line_text : List ℕ → List ℕ → List ℕ → List ℕ
line_text word thing sentence = word ++ codes ": " ++ thing ++ codes ": " ++ sentence ++ codes "\n"

-- the line of a hint
unfoldable pub hint_line : Hint → List ℕ
hint_line (hint.Symbol key name) = line_text (symbol_word key) (shown_name name) (symbol_sentence key)
hint_line (hint.Section key name) = line_text (section_word key) (shown_name name) (section_sentence key)
hint_line (hint.Field key section at count) = line_text (field_word key) (fields_text section at count) (field_sentence key)
hint_line (hint.File key) = line_text (file_word key) (codes "the file") (file_sentence key)
hint_line (hint.Edit key name) = line_text (edit_word key) (shown_name name) (edit_sentence key)

-- the lines of hints, in their order
unfoldable pub hint_lines : List Hint → List ℕ
hint_lines hints = flat_map hint_line hints
