-- Segments as sections, by what is known of them (TIS OMF 1.1, "SEGDEF"; our profile).
use Rattle.std.specs.{Prelude.{ℕ, false, List, [], get_or, slice_get, Option}, Option.{option_map, unwrap_or}}
use Rattle.oc_linking.specs.declared.terms.Kind.{Kind}
use Rattle.oc_neutral.specs.Omf.Kinds.{omf_kind}
use Rattle.oc_omf.specs.{declared.structures.Segment.{Segment}, Known.{names_of}, Tables.{indexed}}
use Rattle.oc_omf_judge.specs.declared.defined.Defined.{Defined}

-- the name of an index
abbrev pub name_in : Defined → ℕ → List ℕ
name_in known index = unwrap_or (indexed (names_of known.names.items) index) []

-- the kind of segment k, counted from 0, where it exists
abbrev pub kind_in : Defined → ℕ → Option Kind
kind_in known k = option_map (λ (s : Segment). omf_kind (name_in known s.class) (get_or known.covered.items k false)) (slice_get known.segments.items k)
