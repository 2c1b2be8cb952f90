-- Where the texts of a string table end (PE/COFF, "COFF String Table").
use Rattle.std.specs.Prelude.{◌≡◌, ℕ, ◌≤◌, List, None}
use Rattle.oc_shelf.specs.Reading.Texts.{text_at}

-- no text begins after the first so many bytes
abbrev pub IsEnded : List ℕ → ℕ → Type 0
IsEnded table ended = (at : ℕ) → ended ≤ at → text_at table at ≡ None
