-- The texts for words that are no job (our profile).
use Rattle.std.specs.{Prelude.{ℕ, List, ◌++◌, codes}, Fmt.{decimal}}
use Rattle.oc_words.specs.declared.fault.WordCode.{WordCode}
use Rattle.oc_words.specs.declared.fault.WordCode.TheVariants as code

-- the name of what is wrong
abbrev pub word_code_text : WordCode → List ℕ
word_code_text code.UnknownOption = codes "UnknownOption"
word_code_text code.SecondTarget = codes "SecondTarget"
word_code_text code.BadPair = codes "BadPair"
word_code_text code.Conflict = codes "Conflict"
word_code_text code.ExtraName = codes "ExtraName"
word_code_text code.SameFile = codes "SameFile"
word_code_text code.BadNumber = codes "BadNumber"
word_code_text code.BadTarget = codes "BadTarget"
word_code_text code.MissingTarget = codes "MissingTarget"
word_code_text code.MissingName = codes "MissingName"

-- `objconv: word INDEX: CODE` and a newline, the index in decimal
unfoldable pub word_message_of : ℕ → WordCode → List ℕ
word_message_of index code = codes "objconv: word " ++ decimal index ++ codes ": " ++ word_code_text code ++ codes "\n"
