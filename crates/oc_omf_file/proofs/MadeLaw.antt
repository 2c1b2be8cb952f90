-- The entries of the canonical file, as they read.
use Rattle.std.proofs.Common.{◌≡◌, ℕ, zero, suc, ◌+◌, ◌-◌, ◌^◌, ◌<◌, ◌≤◌, ◌⊎◌, Bool, true, false, List, [], ◌∷◌, ◌++◌, length, map, Some, None, Ok, refl, sym, ◌∙◌, ap, subst, arith, append_assoc}
use Rattle.std.specs.{Prelude.{flat_map, slice_get, slice_range, codes, if◌then◌else◌, nat_eq}, Option.{option_map_or}, List.{enumerate_from}}
use Rattle.std.proofs.lemmas.Option.{none-some, same_Some}
use Rattle.oc_linking.specs.declared.terms.Binding.{Binding}
use Rattle.oc_chains.specs.declared.field.Field.{Field}
use Rattle.oc_neutral.specs.{declared.section.Section.{Section}, declared.symbol.Symbol.{Symbol}, declared.reloc.Reloc.{Reloc}, declared.reloc.Target.{Target}}
use Rattle.oc_neutral.specs.{KeySymbols.{global_place}, Normal.{Place}, Objects.{Object}, Rows.{Row}, Omf.Relocs.{FixupFrame, ByTarget, BySelf}}
use Rattle.oc_neutral.specs.declared.reloc.Target.TheVariants as target
use Rattle.oc_omf_records.specs.Blocks.{none, content}
use Rattle.oc_shelf.proofs.{WritingLaws.MemberLemmas.{each_append, each_flat_map, each_map, each_filter_map, of_map}, WritingLaws.StandingLemmas.{stands_whole}}
use Rattle.oc_omf.specs.{declared.constants.TheConstants.{PUBDEF, FIXUPP, MODEND}, declared.structures.Subrecord.{Subrecord}, Structures.{subrecord_read}}
use Rattle.oc_omf.specs.{Entries.{Entry, is_kind, says_nothing, in_file, said_by, said_at, places_in, entries_in}, Bytes.{wide, index_bytes, name_bytes}}
use Rattle.oc_omf_file.specs.{Names.{names_of, filled_from, class_of, name_index}, Pieces.{pieces_of, fields_between}}
use Rattle.oc_omf_file.specs.Outputs.{Output, external_by, communal_by, public_by, external_output, communal_output, public_output, indexed_outputs, symbol_outputs, piece_outputs, data_outputs, segment_output, outputs_of}
use Rattle.oc_omf_file.specs.Fixups.{written_reloc, row_by, raw_of, target_method, is_row, field_fixup}
use Rattle.oc_omf_file.specs.Canonical.{segment_of, size_by, public_at, output_type, output_contents, output_bytes, omf_file}
use Rattle.oc_omf_file.specs.Outputs as output
use Rattle.oc_omf_file.proofs.CursorLaws.{Reads, placed, structures_read}
use Rattle.oc_omf_file.proofs.ModuleLaw.{Written, written_bytes, places_from, said_from, AreEntries, EndLast, entries_stand, places_read, said_read, entries_below}
use Rattle.oc_omf_file.proofs.SaidLaws.{near_communal, names_said, segment_said, header_said, group_said, end_said, external_said, communal_said, symbol_bytes, public_said, piece_said}
use Rattle.oc_omf_file.proofs.FixupLaws.{fixup_said, reads_fixup}

-- the row of a relocation is that one
abbrev pub is_row_of : FixupFrame → Reloc → Bool
is_row_of framed r = option_map_or (is_row framed) (row_by r) false

-- a fixup as it reads, of data that begin at an offset
abbrev pub made_fixup : Object → ℕ → Field Reloc → Subrecord
made_fixup n from x = fixup_said (is_row_of BySelf x.item) (is_row_of ByTarget x.item) (x.at - from) (target_method n (written_reloc n x.item).target)

-- the entry of a symbol that is defined at a place
abbrev pub made_public : ℕ → List ℕ → Place → Entry
made_public at name x = record (says_nothing at) {
  bases = record { at = at; part = Ok (record { group = 1; segment = x.0 + 1 }) } ∷ [];
  publics = record { at = at + 3 + length (index_bytes 1 ++ index_bytes (x.0 + 1)); part = Ok (record { local = false; name = name; segment = x.0 + 1; offset = x.1 }) } ∷ [];
}

-- an entry at a place, as it reads
abbrev pub made : Object → ℕ → Output → Entry
made n at output.Header = says_nothing at
made n at (output.Names names) = record (says_nothing at) { names = in_file at (placed name_bytes (λ name. name) 0 names) }
made n at (output.Segment k s) = record (says_nothing at) { segments = record { at = at; part = Ok (segment_of n s) } ∷ [] }
made n at output.Group = record (says_nothing at) { groups = record { at = at; part = Ok (record { name = 2; members = [] }) } ∷ [] }
made n at (output.External k s) = record (says_nothing at) { externals = record { at = at + 3 + 0; part = Ok (record { local = false; name = s.name; communal = None }) } ∷ [] }
made n at (output.Communal k s) = record (says_nothing at) { externals = record { at = at + 3 + 0; part = Ok (near_communal s.name (size_by s.binding)) } ∷ [] }
made n at (output.Public k s) = option_map_or (made_public at s.name) (global_place s.binding) (says_nothing at)
made n at (output.Data k s from to) = record (says_nothing at) {
  pieces = record { at = at; part = Ok (record { segment = k + 1; offset = from; blocks = Ok (content 1 0 (slice_range (raw_of n k s) from to) none) }) } ∷ [];
}
made n at (output.Fixups k s from to) = record (says_nothing at) { subrecords = in_file at (placed (field_fixup n from) (made_fixup n from) 0 (fields_between n k from to)) }
made n at output.End = record (says_nothing at) { ends = true }

-- a field has a row, lies near the front of its data, and has a target with an index
pub record IsWrittenField (n : Object) (from : ℕ) (x : Field Reloc) : Type 0 where
  pub row : Row
  pub row_is : row_by x.item ≡ Some row
  pub near : x.at - from < 1024
  pub small : (target_method n (written_reloc n x.item).target).index < 32768

-- the numbers of an entry fit their fields
abbrev pub Fits : Object → Output → Type 0
Fits n output.Header = Unit {0}
Fits n (output.Names names) = Unit {0}
Fits n (output.Segment k s) = (s.size < 2 ^ 32) × (name_index n s.name < 32768) × (name_index n (class_of s) < 32768)
Fits n output.Group = Unit {0}
Fits n (output.External k s) = Unit {0}
Fits n (output.Communal k s) = size_by s.binding < 2 ^ 32
Fits n (output.Public k s) = (x : Place) × (global_place s.binding ≡ Some x) × (x.0 + 1 < 32768) × (x.1 < 2 ^ 32)
Fits n (output.Data k s from to) = (k + 1 < 32768) × (from < 2 ^ 32)
Fits n (output.Fixups k s from to) = (j : ℕ) (x : Field Reloc) → slice_get (fields_between n k from to) j ≡ Some x → IsWrittenField n from x
Fits n output.End = Unit {0}

-- a target is written by method 0 or 2
method_by : (n : Object) (t : Target) → ((target_method n t).number ≡ 0) ⊎ ((target_method n t).number ≡ 2)
method_by n t = grind arith

-- a field's fixup
field_read : (n : Object) (from : ℕ) (x : Field Reloc) → IsWrittenField n from x → Reads (subrecord_read true) (field_fixup n from x) (made_fixup n from x)
field_read n from x f =
    let m = target_method n (written_reloc n x.item).target in
    rw f.row_is (reads_fixup (is_row BySelf f.row) (is_row ByTarget f.row) (x.at - from) m f.near (method_by n (written_reloc n x.item).target) f.small)

field_some : (n : Object) (from : ℕ) (x : Field Reloc) → IsWrittenField n from x → 1 ≤ length (field_fixup n from x)
field_some n from x f = rw f.row_is (omega arith)

fixups_said : (n : Object) (at k from : ℕ) (s : Section) (to : ℕ) → Fits n (output.Fixups k s from to)
    → said_by at (wide FIXUPP) (flat_map (field_fixup n from) (fields_between n k from to)) ≡ made n at (output.Fixups k s from to)
unfolding said_by
fixups_said n at k from s to fits =
    ap (λ xs. record (says_nothing at) { subrecords = in_file at xs })
    (structures_read (subrecord_read true) (field_fixup n from) (made_fixup n from) (flat_map (field_fixup n from) (fields_between n k from to)) 0 (fields_between n k from to)
    (λ j x h. field_read n from x (fits j x h)) (λ j x h. field_some n from x (fits j x h))
    (stands_whole (flat_map (field_fixup n from) (fields_between n k from to))) (omega arith))

-- a public's bytes begin with its base
public_is : (name : List ℕ) (x : Place) → public_at name x ≡ (index_bytes 1 ++ index_bytes (x.0 + 1)) ++ symbol_bytes name x.1
public_is name x = sym (append_assoc (index_bytes 1) (index_bytes (x.0 + 1)) (symbol_bytes name x.1))

public_made : (n : Object) (at k : ℕ) (s : Symbol) → Fits n (output.Public k s) → said_by at (wide PUBDEF) (output_contents n (output.Public k s)) ≡ made n at (output.Public k s)
unfolding output_contents
public_made n at k s f =
    rw f.1 (ap (said_by at (wide PUBDEF)) (public_is s.name f.0) ∙ public_said at (f.0.0 + 1) s.name f.0.1 f.2 f.3)

-- each entry says what it is made to say
pub output_said : (n : Object) (at : ℕ) (o : Output) → Fits n o → said_by at (output_type o) (output_contents n o) ≡ made n at o
unfolding output_contents
output_said n at output.Header f = header_said at (name_bytes (codes "objconv"))
output_said n at (output.Names names) f = names_said at names
output_said n at (output.Segment k s) f = segment_said at (segment_of n s).attributes s.size (name_index n s.name) (name_index n (class_of s)) 1 f.0 f.1 f.2 (omega arith)
output_said n at output.Group f = group_said at
output_said n at (output.External k s) f = external_said at s.name
output_said n at (output.Communal k s) f = communal_said at s.name (size_by s.binding) f
output_said n at (output.Public k s) f = public_made n at k s f
output_said n at (output.Data k s from to) f = piece_said at (k + 1) from (slice_range (raw_of n k s) from to) f.0 f.1
output_said n at (output.Fixups k s from to) f = fixups_said n at k from s to f
output_said n at output.End f = end_said at (0 ∷ [])

-- ... the whole

-- the entries from a place on, as they read
abbrev pub made_from : Object → ℕ → List Output → List Entry
made_from n at [] = []
made_from n at (o ∷ os) = made n at o ∷ made_from n (at + length (output_bytes n o)) os

-- an output as a type and contents
abbrev pub written_of : Object → Output → Written
written_of n o = (output_type o, output_contents n o)

said_made : (n : Object) (at : ℕ) (os : List Output) → ((j : ℕ) (o : Output) → slice_get os j ≡ Some o → Fits n o) → said_from at (map (written_of n) os) ≡ made_from n at os
said_made n at [] fits = refl
said_made n at (o ∷ os) fits =
    ap (λ e. e ∷ said_from (at + length (output_bytes n o)) (map (written_of n) os)) (output_said n at o (fits 0 o refl))
    ∙ ap (λ es. made n at o ∷ es) (said_made n (at + length (output_bytes n o)) os (λ j p h. fits (suc j) p h))

bytes_made : (n : Object) (os : List Output) → flat_map written_bytes (map (written_of n) os) ≡ flat_map (output_bytes n) os
bytes_made n [] = refl
bytes_made n (o ∷ os) = ap (λ xs. output_bytes n o ++ xs) (bytes_made n os)

-- ... all outputs but the end

abbrev pub IsInner : Output → Type 0
IsInner o = is_kind MODEND (output_type o) ≡ false

abbrev pub inner_outputs : Object → List Output
inner_outputs n =
    output.Header ∷ map output.Names (filled_from [] (names_of n))
    ++ (map segment_output (enumerate_from 0 n.sections)
    ++ (output.Group ∷ symbol_outputs n ++ flat_map (data_outputs n) (enumerate_from 0 n.sections)))

pub outputs_are : (n : Object) → outputs_of n ≡ inner_outputs n ++ output.End ∷ []
unfolding outputs_of
outputs_are n = simp append_assoc

external_inner : (x : ℕ × Symbol) (b : Binding) (o : Output) → external_by b x.0 x.1 ≡ Some o → IsInner o
external_inner x b o e = grind arith

communal_inner : (x : ℕ × Symbol) (b : Binding) (o : Output) → communal_by b x.0 x.1 ≡ Some o → IsInner o
communal_inner x b o e = grind arith

public_inner : (x : ℕ × Symbol) (b : Binding) (o : Output) → public_by b x.0 x.1 ≡ Some o → IsInner o
public_inner x b o e = grind arith

symbols_inner : (n : Object) (i : ℕ) (o : Output) → slice_get (symbol_outputs n) i ≡ Some o → IsInner o
unfolding symbol_outputs
symbols_inner n =
    each_append IsInner (indexed_outputs n) _
    (each_append IsInner _ _
    (each_filter_map IsInner external_output (enumerate_from 0 n.symbols) (λ j x h o e. external_inner x x.1.binding o e))
    (each_filter_map IsInner communal_output (enumerate_from 0 n.symbols) (λ j x h o e. communal_inner x x.1.binding o e)))
    (each_filter_map IsInner public_output (enumerate_from 0 n.symbols) (λ j x h o e. public_inner x x.1.binding o e))

piece_inner : (n : Object) (k : ℕ) (s : Section) (x : ℕ × ℕ) (empty : Bool) (i : ℕ) (o : Output)
    → slice_get (output.Data k s x.0 x.1 ∷ (if empty then [] else output.Fixups k s x.0 x.1 ∷ [])) i ≡ Some o → IsInner o
piece_inner n k s x empty zero o h = subst IsInner (same_Some (output.Data k s x.0 x.1) o h) refl
piece_inner n k s x true (suc i) o h = absurd (none-some o h)
piece_inner n k s x false (suc zero) o h = subst IsInner (same_Some (output.Fixups k s x.0 x.1) o h) refl
piece_inner n k s x false (suc (suc i)) o h = absurd (none-some o h)

all_inner : (n : Object) (i : ℕ) (o : Output) → slice_get (inner_outputs n) i ≡ Some o → IsInner o
all_inner n zero o h = subst IsInner (same_Some output.Header o h) refl
all_inner n (suc i) o h =
    each_append IsInner (map output.Names (filled_from [] (names_of n))) _
    (each_map IsInner output.Names (filled_from [] (names_of n)) (λ j x g. refl))
    (each_append IsInner (map segment_output (enumerate_from 0 n.sections)) _
    (each_map IsInner segment_output (enumerate_from 0 n.sections) (λ j x g. refl)) tail) i o h
  where
    data_inner : (j : ℕ) (p : Output) → slice_get (flat_map (data_outputs n) (enumerate_from 0 n.sections)) j ≡ Some p → IsInner p
    data_inner =
        each_flat_map IsInner (data_outputs n) (enumerate_from 0 n.sections)
        (λ j x g. each_flat_map IsInner (piece_outputs n x.0 x.1) (pieces_of n x.0 x.1) (λ m y f. piece_inner n x.0 x.1 y (nat_eq (length (fields_between n x.0 y.0 y.1)) 0)))

    tail : (j : ℕ) (p : Output) → slice_get (output.Group ∷ symbol_outputs n ++ flat_map (data_outputs n) (enumerate_from 0 n.sections)) j ≡ Some p → IsInner p
    tail zero p g = subst IsInner (same_Some output.Group p g) refl
    tail (suc j) p g = each_append IsInner (symbol_outputs n) _ (symbols_inner n) data_inner j p g

end_last : (n : Object) (os : List Output) → ((i : ℕ) (o : Output) → slice_get os i ≡ Some o → IsInner o) → EndLast (map (written_of n) (os ++ output.End ∷ []))
end_last n [] inner = refl
end_last n (o ∷ []) inner = (inner 0 o refl, refl)
end_last n (o ∷ p ∷ os) inner = (inner 0 o refl, end_last n (p ∷ os) (λ i q h. inner (suc i) q h))

-- ... the file

-- an output can be written
pub record IsSmall (n : Object) (o : Output) : Type 0 where
  pub fits : Fits n o
  pub small : length (output_contents n o) < 65535

module _ (n : Object) (small : (j : ℕ) (o : Output) → slice_get (outputs_of n) j ≡ Some o → IsSmall n o) where
  abbrev pub all_written : List Written
  all_written = map (written_of n) (outputs_of n)

  file_is : omf_file n ≡ flat_map written_bytes all_written
  unfolding omf_file
  file_is = sym (bytes_made n (outputs_of n))

  pub are_entries : AreEntries (omf_file n) 0 all_written
  are_entries =
      subst (λ b. AreEntries b 0 all_written) (sym file_is)
      (entries_stand (flat_map written_bytes all_written) 0 all_written
      (λ k x h. let o = of_map (written_of n) (outputs_of n) k x h in subst (λ (w : Written). length w.1 < 65535) o.2 (small k o.0 o.1).small)
      (stands_whole (flat_map written_bytes all_written)))

  ends : EndLast all_written
  ends = subst (λ os. EndLast (map (written_of n) os)) (sym (outputs_are n)) (end_last n (inner_outputs n) (all_inner n))

  pub places_are : places_in (omf_file n) ≡ places_from 0 all_written
  unfolding places_in
  places_are =
      let few = entries_below all_written in
      let long : length (omf_file n) ≡ length (flat_map written_bytes all_written) = ap length file_is in
      places_read (omf_file n) (length (omf_file n) + 1) 0 all_written are_entries ends (omega (arith, few, long))

  -- the entries of the canonical file are those that were made
  pub entries_made : entries_in (omf_file n) ≡ made_from n 0 (outputs_of n)
  unfolding entries_in
  entries_made =
      ap (map (said_at (omf_file n))) places_are
      ∙ said_read (omf_file n) 0 all_written are_entries
      ∙ said_made n 0 (outputs_of n) (λ j o h. (small j o h).fits)
