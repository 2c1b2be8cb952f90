-- The texts of a batch (our profile).
use Rattle.std.specs.{Prelude.{ℕ, List, ◌++◌, codes}, Fmt.{decimal}}

-- the text for words that are not one name
unfoldable pub words_text : List ℕ
words_text = codes "objbatch: words: BadWords\n"

-- the text for a list that is not UTF-8
unfoldable pub list_text : List ℕ
list_text = codes "objbatch: list: NotText\n"

-- the line of a job: `job NUMBER: STATUS` and a newline
unfoldable pub job_line : ℕ → ℕ → List ℕ
job_line number status = codes "job " ++ decimal number ++ codes ": " ++ decimal status ++ codes "\n"
