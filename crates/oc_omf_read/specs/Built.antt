-- What is built of a module, step by step (our profile).
use Rattle.std.specs.{Prelude.{◌≡◌, ℕ, ◌+◌, List, [], length, map, take, slice_get, Option, Some, None}, Option.{option_and_then, option_map}}
use Rattle.oc_base.specs.declared.format.Format.TheVariants.{Omf}
use Rattle.oc_linking.specs.declared.terms.Kind.{Kind}
use Rattle.oc_neutral.specs.{declared.section.Section.{Section}, Building.{Draft}, Omf.Kinds.{omf_tag}}
use Rattle.oc_shows.specs.{Computed.{computed_symbol}, Started.{plain_draft, stored_section}}
use Rattle.oc_omf.specs.{declared.structures.Segment.{Segment}, Entries.{Entry, entries_in}, Sections.{align_of, sections_in, segment_size}}
use Rattle.oc_omf.specs.{Symbols.{symbols_in}, Tables.{Tables, tables_of}}
use Rattle.oc_omf_judge.specs.declared.defined.Defined.{Defined}
use Rattle.oc_omf_read.specs.{Contents.{stored, stored_size}, Sections.{kind_in, name_in}}

-- the bytes are those of segment k, counted from 0
abbrev pub AreBytesOf : Tables → ℕ → List ℕ → Type 0
AreBytesOf t k bytes = (s : Segment) → slice_get t.segments k ≡ Some s → bytes ≡ stored t t k s

-- and as many
abbrev pub HasLength : Tables → ℕ → List ℕ → Type 0
HasLength t k bytes = (s : Segment) → slice_get t.segments k ≡ Some s → length bytes ≡ stored_size t k s

-- segment k, counted from 0, of that kind, with these bytes
abbrev pub section_as : Defined → ℕ → List ℕ → Segment → Kind → Section
section_as known k bytes s kind = record {
  name = name_in known s.name;
  kind = kind;
  align = align_of s;
  size = segment_size s;
  bytes = bytes;
  tag = omf_tag;
  number = k + 1;
  group = None;
}

-- where it exists
abbrev pub section_by : Defined → ℕ → List ℕ → Option Section
section_by known k bytes = option_and_then (λ (s : Segment). option_map (section_as known k bytes s) (kind_in known k)) (slice_get known.segments.items k)

-- the draft with the first k sections
abbrev pub sectioned : Tables → ℕ → Draft
sectioned t k = plain_draft Omf [] (map (stored_section []) (take k (sections_in t))) []

-- with all sections, and the first k symbols
abbrev pub symboled : List Entry → ℕ → Draft
symboled es k = plain_draft Omf [] (map (stored_section []) (sections_in (tables_of es))) (map (computed_symbol (symbols_in es)) (take k (symbols_in es)))

-- before the relocations
abbrev pub started : List ℕ → Draft
started file = symboled (entries_in file) (length (symbols_in (entries_in file)))
