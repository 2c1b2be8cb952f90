-- What an entry speaks of, by its type (TIS OMF 1.1, "Record Formats").
use Rattle.std.specs.{Prelude.{ℕ, if◌then◌else◌, Option, Some, None}, Option.{unwrap_or}}
use Rattle.oc_omf.specs.declared.constants.TheConstants.{EXTDEF, PUBDEF, LNAMES, SEGDEF, GRPDEF, FIXUPP, LEDATA, LIDATA, COMDEF, LEXTDEF, LPUBDEF}
use Rattle.oc_omf.specs.Entries.{is_kind}
use Rattle.oc_omf_read.specs.declared.class.EntryClass.{EntryClass}
use Rattle.oc_omf_read.specs.declared.class.EntryClass.TheVariants as class

-- what an entry of symbols speaks of
abbrev pub symbol_class : ℕ → Option EntryClass
symbol_class kind =
    if is_kind PUBDEF kind then Some class.Publics
    else if is_kind LPUBDEF kind then Some class.LocalPublics
    else if is_kind EXTDEF kind then Some class.Externals
    else if is_kind LEXTDEF kind then Some class.LocalExternals
    else if is_kind COMDEF kind then Some class.Communals
    else None

-- what another entry speaks of
abbrev pub other_class : ℕ → EntryClass
other_class kind =
    if is_kind LEDATA kind then class.Plain
    else if is_kind LIDATA kind then class.Iterated
    else if is_kind FIXUPP kind then class.Fixups
    else class.Nothing

-- what an entry speaks of
abbrev pub class_of : ℕ → EntryClass
class_of kind =
    if is_kind LNAMES kind then class.Names
    else if is_kind SEGDEF kind then class.Segment
    else if is_kind GRPDEF kind then class.Group
    else unwrap_or (symbol_class kind) (other_class kind)
