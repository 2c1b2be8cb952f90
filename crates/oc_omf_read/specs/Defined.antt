-- What the entries of a module define (TIS OMF 1.1, "Record Formats").
use Rattle.std.specs.Prelude.{List, [], ◌∷◌, Ok, Err}
use Rattle.oc_omf_records.specs.declared.records.Entry.{Entry as Record}
use Rattle.oc_omf.specs.{Cursor.{Reading}, Entries.{Entry, said_by}}

-- what an entry gives
abbrev pub said : Record → Entry
said r = said_by r.place r.kind r.contents

-- what is read, if it is not cut
abbrev pub read_in : {X : Type 0} → Reading X → List X
read_in (Ok r) = r.0 ∷ []
read_in (Err c) = []
