-- What the entries of a file must meet before their contents are looked at (TIS OMF 1.1, "Record Format"; our profile).
use Rattle.std.specs.Prelude.{◌≡◌, ℕ, ◌≤◌, Bool, not, ◌&&◌, ◌||◌, nat_eq, nat_lt, List, [], ◌∷◌, length, take, slice_range, get_or, None}
use Rattle.std.specs.List.{list_any, enumerate_from}
use Rattle.oc_base.specs.{declared.code.Code.{Code}, declared.code.Code.TheVariants.{Short, BadChecksum, BadTable, RecordKind}}
use Rattle.oc_base.specs.{declared.fault.Phase.TheVariants.{Header}, declared.fault.Fault.{Fault}}
use Rattle.oc_linking.specs.FirstFault.{Condition, Stage, stage_fault}
use Rattle.oc_neutral.specs.{KindRules.{has}, TargetSections.{each_of}}
use Rattle.oc_omf_records.specs.{declared.records.Entry.{Entry as Record}, NextEntry.{is_whole, is_summed, entry_of, end_of_entry}}
use Rattle.oc_omf.specs.declared.constants.TheConstants.{THEADR, COMENT, MODEND, EXTDEF, PUBDEF, LINNUM, LNAMES, SEGDEF, GRPDEF, FIXUPP, LEDATA, LIDATA, COMDEF, LEXTDEF, LPUBDEF, COMENT_WKEXT, COMENT_LZEXT}
use Rattle.oc_omf.specs.Entries.{even_of, is_kind, places_in}

-- the records of our profile
abbrev pub known_types : List ℕ
known_types =
    THEADR ∷ COMENT ∷ MODEND ∷ EXTDEF ∷ PUBDEF ∷ LINNUM ∷ LNAMES ∷ SEGDEF ∷ GRPDEF ∷ FIXUPP ∷ LEDATA ∷ LIDATA ∷ COMDEF ∷ LEXTDEF ∷ LPUBDEF ∷ []

-- a type is of one of them
abbrev pub is_known : ℕ → Bool
is_known kind = list_any (nat_eq (even_of kind)) known_types

-- a comment of a class that is refused: its first byte is a type, its second the class
abbrev pub is_refused : Record → Bool
is_refused r = is_kind COMENT r.kind && (nat_eq (get_or r.contents 1 0) COMENT_WKEXT || nat_eq (get_or r.contents 1 0) COMENT_LZEXT)

-- an end with a start address
abbrev pub has_start : Record → Bool
has_start r = is_kind MODEND r.kind && has (get_or r.contents 0 0) 0x40

-- the entry ends before a byte of it that counts
abbrev pub is_cut : Record → Bool
is_cut r = (is_kind COMENT r.kind && nat_lt (length r.contents) 2) || (is_kind MODEND r.kind && nat_lt (length r.contents) 1)

-- one of the entries at these places is a header
abbrev pub is_begun : List ℕ → List ℕ → Bool
is_begun file places = list_any (λ at. is_kind THEADR (entry_of file at).kind) places

-- a fault of an entry
abbrev pub entry_fault : ℕ × ℕ → Code → Fault
entry_fault x code = record { phase = Header; index = x.0; code = code; place = x.1 }

-- the conditions on an entry by its number and place, where an earlier one is a header or none is
abbrev pub record_conditions : Bool → ℕ × ℕ → Record → List Condition
record_conditions begun x r =
    (is_cut r, entry_fault x BadTable)
    ∷ (not (is_known r.kind), entry_fault x RecordKind)
    ∷ (is_kind THEADR r.kind && begun, entry_fault x RecordKind)
    ∷ (is_refused r, entry_fault x RecordKind)
    ∷ (has_start r, entry_fault x RecordKind)
    ∷ []

-- the conditions on what is at a place, by the number of the entry
unfoldable pub entry_conditions : List ℕ → Bool → ℕ × ℕ → List Condition
entry_conditions file begun x =
    (not (is_whole file x.1), entry_fault x Short)
    ∷ (not (is_summed (slice_range file x.1 (end_of_entry file x.1))), entry_fault x BadChecksum)
    ∷ record_conditions begun x (entry_of file x.1)

-- the entries in their order
abbrev pub header_stage : List ℕ → Stage
header_stage file = record {
  count = length (places_in file);
  conditions = λ i. each_of (entry_conditions file (is_begun file (take i (places_in file)))) (enumerate_from 0 (places_in file)) i;
}

-- a file that is small enough, and whose entries have no fault of this stage
pub record IsModule (file : List ℕ) : Type 0 where
  pub small : length file ≤ 67108864
  pub clean : stage_fault (header_stage file) ≡ None
