-- What an entry is about, by its type (TIS OMF 1.1, "Record Formats").
use Rattle.std.specs.Prelude.{ℕ, Bool, ◌||◌, if◌then◌else◌, List, [], Ok, Err}
use Rattle.oc_omf.specs.declared.constants.TheConstants.{MODEND, EXTDEF, PUBDEF, LNAMES, SEGDEF, GRPDEF, FIXUPP, LEDATA, LIDATA, COMDEF, LEXTDEF, LPUBDEF}
use Rattle.oc_omf.specs.{declared.structures.PublicBase.{PublicBase}, declared.topics.Topic.{Topic}, Cursor.{Reading, Read, name_read, each_read}}
use Rattle.oc_omf.specs.Structures.{Public, segment_read, group_read, base_read, public_read, external_read, communal_read, piece_read, subrecord_read}
use Rattle.oc_omf.specs.Entries.{Entry, is_kind, says_nothing, in_file, whole}
use Rattle.oc_omf.specs.declared.topics.Topic.TheVariants as topic

-- of data and what comes after them, by the type
abbrev pub data_topic : ℕ → Topic
data_topic kind =
    if is_kind LEDATA kind || is_kind LIDATA kind then topic.Data (is_kind LIDATA kind)
    else if is_kind FIXUPP kind then topic.Fixups
    else topic.Others (is_kind MODEND kind)

-- of symbols and what comes after them
abbrev pub symbols_topic : ℕ → Topic
symbols_topic kind =
    if is_kind PUBDEF kind || is_kind LPUBDEF kind then topic.Publics (is_kind LPUBDEF kind)
    else if is_kind EXTDEF kind || is_kind LEXTDEF kind then topic.Externals (is_kind LEXTDEF kind)
    else if is_kind COMDEF kind then topic.Communals
    else data_topic kind

-- of all
abbrev pub topic_of : ℕ → Topic
topic_of kind =
    if is_kind LNAMES kind then topic.Names
    else if is_kind SEGDEF kind then topic.Segment
    else if is_kind GRPDEF kind then topic.Group
    else symbols_topic kind

-- the symbols after the base of an entry
abbrev pub publics_on : Bool → ℕ → Bool → List ℕ → Reading PublicBase → List (Read Public)
publics_on local place wide b (Ok r) = in_file place (each_read (public_read wide local r.0.segment) b r.1)
publics_on local place wide b (Err c) = []

-- what an entry on a topic at a place gives by its contents, where the odd type of its record is wide
abbrev pub said_on : Topic → ℕ → Bool → List ℕ → Entry
said_on topic.Names place wide b = record (says_nothing place) { names = in_file place (each_read name_read b 0) }
said_on topic.Segment place wide b = record (says_nothing place) { segments = whole place (segment_read wide b 0) }
said_on topic.Group place wide b = record (says_nothing place) { groups = whole place (group_read b 0) }
said_on (topic.Publics local) place wide b = record (says_nothing place) { bases = whole place (base_read b 0); publics = publics_on local place wide b (base_read b 0) }
said_on (topic.Externals local) place wide b = record (says_nothing place) { externals = in_file place (each_read (external_read local) b 0) }
said_on topic.Communals place wide b = record (says_nothing place) { externals = in_file place (each_read communal_read b 0) }
said_on (topic.Data iterated) place wide b = record (says_nothing place) { pieces = whole place (piece_read wide iterated b 0) }
said_on topic.Fixups place wide b = record (says_nothing place) { subrecords = in_file place (each_read (subrecord_read wide) b 0) }
said_on (topic.Others ends) place wide b = record (says_nothing place) { ends = ends }
