-- What a call says: a status, an output and a text (our profile).
use Rattle.std.specs.Prelude.{ℕ, ◌-◌, List, [], codes, length, take, drop}
use Rattle.oc_base.specs.{declared.fault.Fault.{Fault}, Codes.{class_of}, Messages.{message_of}}
use Rattle.oc_words.specs.{declared.fault.WordCode.{WordCode}, Messages.{word_message_of}}
use Rattle.oc_runs.specs.{States.{status_by}, Texts.{memory_text}}

pub record Said : Type 0 where
  pub status : ℕ
  pub output : List ℕ
  pub text : List ℕ

-- an output: status 0, and no text
abbrev pub given : List ℕ → Said
given output = record { status = 0; output = output; text = [] }

-- the line that the program reports, without the nine bytes `objconv: ` before it and the newline behind it
abbrev pub bare : List ℕ → List ℕ
bare line = take (length line - 10) (drop 9 line)

-- a line, with the status of its cause; there is no output
abbrev pub told : ℕ → List ℕ → Said
told status line = record { status = status; output = []; text = bare line }

-- the line for words that are not UTF-8
unfoldable pub words_text : List ℕ
words_text = codes "objconv: words: NotText\n"

-- the words are not UTF-8
abbrev pub no_text : Said
no_text = told 3 words_text

-- a word is at fault
abbrev pub misworded : ℕ → WordCode → Said
misworded index code = told 3 (word_message_of index code)

-- the input has a first refusal
abbrev pub refused : Fault → Said
refused fault = told (status_by (class_of fault.code)) (message_of fault)

-- memory ran out
abbrev pub no_memory : Said
no_memory = told 7 memory_text
