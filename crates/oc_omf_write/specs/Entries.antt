-- The entries of a planned file, by positions in the object (TIS OMF 1.1, "Record Formats"; our profile).
use Rattle.std.specs.Prelude.{ℕ}
use Rattle.oc_omf.specs.{declared.constants.TheConstants.{THEADR, LNAMES, SEGDEF, GRPDEF, EXTDEF, COMDEF, PUBDEF, LEDATA, FIXUPP, MODEND}, Bytes.{wide}}
use Rattle.oc_omf_file.specs.Outputs.{Output, Header, Names, Segment, Group, External, Communal, Public, Data, Fixups, End}
use Rattle.oc_omf_write.specs.declared.entries.Entry.{Entry}
use Rattle.oc_omf_write.specs.declared.entries.Entry.TheVariants as entry

-- the type of an entry
abbrev pub type_of : Entry → ℕ
type_of entry.Header = THEADR
type_of (entry.Names from to) = LNAMES
type_of (entry.Segment k) = wide SEGDEF
type_of entry.Group = GRPDEF
type_of (entry.External k) = EXTDEF
type_of (entry.Communal k) = COMDEF
type_of (entry.Public k) = wide PUBDEF
type_of (entry.Data k from to) = wide LEDATA
type_of (entry.Fixups k from to) = wide FIXUPP
type_of entry.End = MODEND

-- the entry of an output; one of names is given by their positions, which it gets elsewhere
abbrev pub entry_for : Output → Entry
entry_for Header = entry.Header
entry_for (Names names) = entry.Names 0 0
entry_for (Segment k s) = entry.Segment k
entry_for Group = entry.Group
entry_for (External k s) = entry.External k
entry_for (Communal k s) = entry.Communal k
entry_for (Public k s) = entry.Public k
entry_for (Data k s from to) = entry.Data k from to
entry_for (Fixups k s from to) = entry.Fixups k from to
entry_for End = entry.End
