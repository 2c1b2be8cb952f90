-- The string table of a COFF output (PE/COFF, "COFF String Table"; our profile).
use Rattle.std.specs.{Prelude.{◌≡◌, ℕ, true, List}, Option.{unwrap_or}}
use Rattle.oc_coff.specs.{declared.form.CoffForm.{CoffForm}, Forms.{format_of}}
use Rattle.oc_base.specs.Strings.{is_given, table_place}
use Rattle.oc_neutral.specs.{Coff.Strings.{is_long, is_tabled}, Objects.{Object}, declared.coff.TheConstants.{STRINGS_HEAD}}
use Rattle.oc_target.specs.CoffMeets.{strings_of}
use Rattle.oc_strings.specs.Tables.{StringTable}

-- the table of an object's names, whose first text comes after its size
abbrev pub table_for : CoffForm → Object → StringTable
table_for w n = record { head = STRINGS_HEAD; names = strings_of (format_of w) n }

-- where a name lies in a table, 0 where it is not there
abbrev pub place_in : StringTable → List ℕ → ℕ
place_in t name = unwrap_or (table_place t.head t.names name) 0

-- a table holds a name
abbrev pub Holds : StringTable → List ℕ → Type 0
Holds t name = is_given t.names name ≡ true

-- it holds the name of a symbol that has no room in its entry, and that of a section that has none in its header
abbrev pub HoldsSymbolName : StringTable → List ℕ → Type 0
HoldsSymbolName t name = is_long name ≡ true → Holds t name

abbrev pub HoldsSectionName : StringTable → List ℕ → Type 0
HoldsSectionName t name = is_tabled name ≡ true → Holds t name
