-- The fields of fixups, one for each copy (TIS OMF 1.1, "FIXUPP" and "LIDATA"; our profile).
use Rattle.std.specs.{Prelude.{◌≡◌, ℕ, ◌+◌, ◌-◌, ◌≤◌, Bool, ◌&&◌, nat_eq, if◌then◌else◌, List, [], map, flat_map, take, Option, Some, None}, List.{list_any}}
use Rattle.std.specs.Option.{option_and_then, option_map, option_map_or, unwrap_or}
use Rattle.oc_linking.specs.{declared.terms.Keep.{Keep}, Numbers.{or_else}}
use Rattle.oc_shows.specs.Built.{RelocMap}
use Rattle.oc_omf_records.specs.Blocks.{Blocks, copies_of, size_of}
use Rattle.oc_omf.specs.{declared.structures.Fixup.{Fixup}, declared.structures.Method.{Method}, Entries.{Entry, entries_in}}
use Rattle.oc_omf.specs.{Fixups.{Fixed, fixed_in, last_of, subrecords_upto}, Known.{AreInForce}, Sections.{blocks_in}, Tables.{tables_of}, Targets.{Meaning}}
use Rattle.oc_omf.specs.Structures as structures
use Rattle.oc_omf_read.specs.{declared.fields.Behind.{Behind}, declared.fields.FixupField.{FixupField}, declared.fix.Fix.{Fix}}
use Rattle.oc_omf_read.specs.{declared.fixes.FixupContext.{FixupContext}, declared.pieces.FoundPiece.{FoundPiece}, declared.searched.Searched.{Searched}}
use Rattle.oc_omf_read.specs.{Aims.{fix_for, fix_for_threads, meaning_seen, method_of_frame, method_of_target}, Given.{given_at}}
use Rattle.oc_omf_read.specs.Pieces.{ArePieces, IsPiece, row_in}

-- the fields that a fixup makes of the copies in data at an offset of a section
abbrev pub fields_at : ℕ → ℕ → Fix → List ℕ → List FixupField
fields_at section offset fix copies = map (λ (copy : ℕ). record { section = section; at = offset + copy; fix = fix }) copies

-- where copies lie in some data, none where no content holds the bytes
abbrev pub copies_in : Blocks → ℕ → List ℕ
copies_in row at = unwrap_or (copies_of row at) []

-- the fields of a fixup at an offset of some data
abbrev pub fields_in : FoundPiece → Fix → ℕ → List FixupField
fields_in p fix at = fields_at (p.segment - 1) p.offset fix (copies_in (row_in p.data) at)

-- the fields of a fixup of data of a segment at an offset, with that frame and that target
abbrev pub fields_by : Meaning → Keep → ℕ → ℕ → Blocks → Fixup → Option Method → Option Method → List FixupField
fields_by m keep segment offset row f frame target = option_map_or (λ (fix : Fix). fields_at (segment - 1) offset fix (copies_in row f.offset)) (fix_for m keep segment f frame target) []

-- the fields of a fixup, where it comes after data
abbrev pub fields_for : Meaning → Keep → Fixed → List FixupField
fields_for m keep x = option_map_or (λ (d : structures.Piece). fields_by m keep d.segment d.offset (blocks_in d.blocks) x.fixup x.frame x.target) x.piece []

-- those of some fixups
unfoldable pub fields_of : Meaning → Keep → List Fixed → List FixupField
fields_of m keep xs = flat_map (fields_for m keep) xs

-- ... as the program has them

-- the data that are held
abbrev pub held : Behind → Option FoundPiece
held b = option_map (λ (s : Searched). s.piece) b.piece

-- what a fixup after what is held does
abbrev pub fix_behind : Meaning → Keep → Behind → Fixup → Option Fix
fix_behind m keep b f = option_and_then (λ (p : FoundPiece). fix_for_threads m keep b.threads p.segment f) (held b)

-- the fields of a fixup after what is held
abbrev pub fields_behind : Meaning → Keep → Behind → Fixup → List FixupField
fields_behind m keep b f =
    option_map_or (λ (p : FoundPiece). fields_by m keep p.segment p.offset (row_in p.data) f (method_of_frame b.threads f) (method_of_target b.threads f)) (held b) []

-- data lie in a section that is small enough
abbrev pub IsLow : FoundPiece → Type 0
IsLow p = p.offset + size_of (row_in p.data) ≤ 2147483647

abbrev pub AreLow : Option FoundPiece → Type 0
AreLow None = Unit {0}
AreLow (Some p) = IsLow p

-- data that are held are the last
abbrev pub IsLast : Option FoundPiece → Option structures.Piece → Type 0
IsLast None o = o ≡ None
IsLast (Some p) o = (d : structures.Piece) × (o ≡ Some d) × IsPiece p d

-- the data of an entry are held, where it has some, or else those that were
pub record HasData (ds : List structures.Piece) (old new : Behind) : Type 0 where
  pub found : Option FoundPiece
  pub are : ArePieces found ds
  pub threads : new.threads ≡ old.threads
  pub piece : held new ≡ or_else found (held old)

-- the fields of the fixups in the first i entries, and what comes before entry i
pub record HasFields (s : FixupContext) (i : ℕ) (fields : List FixupField) (b : Behind) : Type 0 where
  pub made : fields ≡ fields_of (meaning_seen s) s.keep (fixed_in (subrecords_upto (entries_in s.omf.now) i))
  pub threads : AreInForce (subrecords_upto (entries_in s.omf.now) i) b.threads
  pub last : IsLast (held b) (last_of (tables_of (take i (entries_in s.omf.now))).pieces)
  pub low : AreLow (held b)

-- ... what is given

-- one of the fields is at an offset of the section at position s
abbrev pub is_among : List FixupField → ℕ → ℕ → Bool
is_among fields s at = list_any (λ (f : FixupField). nat_eq f.section s && nat_eq f.at at) fields

-- what is given for some fields
abbrev pub given_with : List Entry → Keep → List FixupField → RelocMap
given_with es keep fields s at = if is_among fields s at then given_at es keep s at else None
