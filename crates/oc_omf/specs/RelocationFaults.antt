-- What threads and fixups must meet (TIS OMF 1.1, "FIXUPP"; our profile).
use Rattle.std.specs.Prelude.{ℕ, Bool, true, false, not, nat_eq, if◌then◌else◌, List, [], ◌∷◌, ◌++◌, length, map, take, Option, Result, Ok, Err}
use Rattle.std.specs.{List.{list_any, enumerate_from}, Option.{option_map_or, is_some}}
use Rattle.oc_base.specs.{declared.code.Code.{Code}, declared.code.Code.TheVariants.{BadTable, RelocKind, BadOffset, BadTarget, TargetKind, Overlap}}
use Rattle.oc_base.specs.declared.fault.Fault.{Fault}
use Rattle.oc_base.specs.declared.fault.Phase.TheVariants as phase
use Rattle.oc_linking.specs.{declared.terms.Keep.{Keep}, Keeping.{keeps}, FirstFault.{Condition, Stage}, Targets.{Target}}
use Rattle.oc_neutral.specs.TargetSections.{each_of}
use Rattle.oc_omf.specs.{declared.constants.TheConstants.{OFFSET_32}, declared.cut.Cut.{Cut}, declared.structures.Segment.{Segment}}
use Rattle.oc_omf.specs.{declared.structures.Method.{Method}, declared.structures.Datum.{Datum}, declared.structures.Subrecord.{Subrecord}, Structures.{Piece}}
use Rattle.oc_omf.specs.{Entries.{Entry}, Tables.{Tables, indexed, is_there}, Sections.{segment_kind}}
use Rattle.oc_omf.specs.{Fixups.{PlacedSubrecord, subrecords_by, subrecords_upto, Fixed, fixed_of, fixed_in, is_inside, meet}, Targets.{Meaning, meaning_of}}
use Rattle.oc_omf.specs.Fields.{aim_of, row_of}
use Rattle.oc_omf.specs.declared.structures.Datum.TheVariants as datum
use Rattle.oc_omf.specs.declared.structures.Subrecord.TheVariants as subrecord

-- a fault of a thread or a fixup
abbrev pub relocation_fault : PlacedSubrecord → Code → Fault
relocation_fault x code = record { phase = phase.Relocation; index = x.index; code = code; place = x.at }

-- what a frame or a target names by an index exists; for one given by a thread, the thread is in force
abbrev pub is_datum_there : Tables → Datum → Option Method → Bool
is_datum_there before (datum.Explicit method) found = is_there before method
is_datum_there before (datum.Thread number) found = is_some found

-- the segment of some data is kept
abbrev pub is_kept : Tables → Keep → Piece → Bool
is_kept t keep d = option_map_or (λ (s : Segment). keeps keep (segment_kind t d.segment s)) (indexed t.segments d.segment) true

-- a fixup is judged: the data before it, if there are any, are kept
abbrev pub is_judged : Tables → Keep → Fixed → Bool
is_judged t keep x = option_map_or (is_kept t keep) x.piece true

-- a target has a row
abbrev pub has_row : Meaning → Fixed → Option Target → Bool
has_row m f target = option_map_or (λ t. is_some (row_of m f t)) target false

-- the conditions on a fixup, after these
unfoldable pub fixup_conditions : Meaning → List Fixed → PlacedSubrecord → Fixed → List Condition
fixup_conditions m earlier x f =
    (not (nat_eq f.fixup.location OFFSET_32), relocation_fault x RelocKind)
    ∷ (not (is_inside f), relocation_fault x BadOffset)
    ∷ (not (is_datum_there x.before f.fixup.target f.target), relocation_fault x BadTarget)
    ∷ (not (is_datum_there x.before f.fixup.frame f.frame), relocation_fault x BadTarget)
    ∷ (not (has_row m f (aim_of m f)), relocation_fault x TargetKind)
    ∷ (list_any (meet f) earlier, relocation_fault x Overlap)
    ∷ []

-- the conditions on a subrecord, by what is read of it
abbrev pub part_conditions : Meaning → Keep → List PlacedSubrecord → PlacedSubrecord → Result Subrecord Cut → List Condition
part_conditions m keep earlier x (Ok (subrecord.Thread t)) = (not (is_there x.before t.method), relocation_fault x BadTarget) ∷ []
part_conditions m keep earlier x (Ok (subrecord.Fixup f)) =
    if is_judged m.tables keep (fixed_of earlier x.before f) then fixup_conditions m (fixed_in earlier) x (fixed_of earlier x.before f) else []
part_conditions m keep earlier x (Err c) = (true, relocation_fault x BadTable) ∷ []

-- the conditions on a subrecord, after these
unfoldable pub relocation_conditions : Meaning → Keep → List PlacedSubrecord → PlacedSubrecord → List Condition
relocation_conditions m keep earlier x = part_conditions m keep earlier x x.part

-- the subrecords of an entry with its number, after those of the entries before it
abbrev pub relocation_stage : List Entry → Keep → ℕ × Entry → Stage
relocation_stage entries keep x = record {
  count = length (subrecords_by entries x);
  conditions = λ j. each_of (relocation_conditions (meaning_of entries) keep (subrecords_upto entries x.0 ++ take j (subrecords_by entries x))) (subrecords_by entries x) j;
}

-- the entries in their order
abbrev pub relocation_stages : List Entry → Keep → List Stage
relocation_stages entries keep = map (relocation_stage entries keep) (enumerate_from 0 entries)
