-- How many segments, groups and externals the entries so far define, as a reader keeps it (our profile).
use Rattle.std.specs.Prelude.{◌≡◌, ℕ, Bool, min, if◌then◌else◌, List, length, Option, Some, None, Ok, Err}
use Rattle.oc_omf.specs.{Cursor.{Reading}, Structures.{External, external_read, communal_read}, Tables.{Tables}}
use Rattle.oc_omf_judge.specs.declared.counts.Counts.{Counts}

-- they are those of what is defined; an index is below 65,536
pub record AreCounts (t : Tables) (c : Counts) : Type 0 where
  pub segments_are : c.segments ≡ min (length t.segments) 65536
  pub groups_are : c.groups ≡ min (length t.groups) 65536
  pub externals_are : c.externals ≡ min (length t.externals) 65536

-- an external, or a communal
abbrev pub external_by : Bool → Bool → List ℕ → ℕ → Reading External
external_by communals local b at = if communals then communal_read b at else external_read local b at

-- the place after what is read
abbrev pub end_of : {X : Type 0} → Reading X → Option ℕ
end_of (Ok r) = Some r.1
end_of (Err c) = None
