-- What a reader knows of a module when it judges fixups (our profile).
use Rattle.std.specs.{Prelude.{ℕ, Bool, true, false, ◌&&◌, nat_eq, bytes_eq, List, [], codes, Option}, Option.{option_map_or, unwrap_or}}
use Rattle.oc_linking.specs.Keeping.{keeps}
use Rattle.oc_omf.specs.{declared.structures.Segment.{Segment}, declared.structures.Method.{Method}, Entries.{Entry, entries_in}}
use Rattle.oc_omf.specs.{Tables.{Tables, tables_of, indexed}, Sections.{segment_kind}, Targets.{Meaning, meaning_of}, Known.{names_of}, Fixups.{Fixed}}
use Rattle.oc_omf_judge.specs.{Judged.{IsFront}, declared.whole.Whole.{Whole}, Locals.{AreLocals}}
use Rattle.oc_omf.specs.RelocationFaults as faults

-- its entries, what they define, and what indexes mean
abbrev pub entries : Whole → List Entry
entries w = entries_in w.front.omf

abbrev pub tables : Whole → Tables
tables w = tables_of (entries w)

abbrev pub meaning : Whole → Meaning
meaning w = meaning_of (entries w)

-- what is kept is that of one file
pub record IsWhole (w : Whole) : Type 0 where
  pub front_is : IsFront w.front.omf w.front
  pub locals_are : AreLocals (tables w).publics w.locals

-- a fixup is judged
abbrev pub is_judged : Whole → Fixed → Bool
is_judged w x = faults.is_judged (tables w) w.keep x

-- fixups in data of the segment of an index are judged
abbrev pub is_kept_at : Whole → ℕ → Bool
is_kept_at w index = option_map_or (λ (s : Segment). keeps w.keep (segment_kind (tables w) index s)) (indexed (tables w).segments index) true

-- the same of a fixup in data of a segment, or after no data
abbrev pub is_judged_in : Whole → Option ℕ → Bool
is_judged_in w segment = option_map_or (is_kept_at w) segment true

-- a frame is the group FLAT
abbrev pub is_flat_group : Whole → Method → Bool
is_flat_group w frame =
    nat_eq frame.number 1
    && option_map_or (λ (g : ℕ). bytes_eq (unwrap_or (indexed (names_of w.front.defined.names.items) g) []) (codes "FLAT")) (indexed w.front.defined.groups.items frame.index) false
