-- Subrecords in their places, and the fixups among them.
use Rattle.std.proofs.Common.{◌≡◌, ℕ, zero, suc, ◌+◌, ◌-◌, true, false, not, List, [], ◌∷◌, ◌++◌, length, map, Option, Some, Result, Ok, Err, refl, sym, ◌∙◌, ap, arith}
use Rattle.std.specs.{Prelude.{flat_map, slice_get}, List.{enumerate_from}, Option.{option_map_or}}
use Rattle.std.proofs.lemmas.Option.{none-some, same_Some}
use Rattle.oc_chains.specs.declared.field.Field.{Field}
use Rattle.oc_neutral.specs.{declared.section.Section.{Section}, declared.reloc.Reloc.{Reloc}, KeySymbols.{global_place}, Normal.{Place}, Objects.{Object}}
use Rattle.oc_neutral.specs.Omf.Relocs.{ByTarget, BySelf}
use Rattle.oc_shelf.proofs.WritingLaws.MemberLemmas.{member_first, member_second}
use Rattle.oc_omf.specs.{declared.cut.Cut.{Cut}, declared.structures.Method.{Method}, declared.structures.Fixup.{Fixup}}
use Rattle.oc_omf.specs.{declared.structures.Subrecord.{Subrecord}, Cursor.{Read}, Entries.{says_nothing, in_file}}
use Rattle.oc_omf.specs.Fixups.{PlacedSubrecord, method_of, last_of, Fixed, fixed_of, with_fixed, fixed_from}
use Rattle.oc_omf.specs.declared.structures.Datum.TheVariants as datum
use Rattle.oc_omf.specs.declared.structures.Subrecord.TheVariants as subrecord
use Rattle.oc_omf_file.specs.{Pieces.{fields_between}, Names.{names_of, filled_from}}
use Rattle.oc_omf_file.specs.Outputs.{Output, symbol_outputs, data_outputs, segment_output, outputs_of}
use Rattle.oc_omf_file.specs.{Fixups.{written_reloc, raw_of, target_method, field_fixup}, Canonical.{output_bytes}}
use Rattle.oc_omf_file.specs.Outputs as output
use Rattle.oc_omf_file.proofs.{CursorLaws.{placed}, FixupLaws.{frame_by}, MadeLaw.{is_row_of, made_fixup, made_public, made, made_from}}
use Rattle.oc_omf_file.proofs.GivenLaws.{window_piece}

-- a fixup as it reads
abbrev pub made_record : Object → ℕ → Field Reloc → Fixup
made_record n from x = record {
  segment_relative = not (is_row_of BySelf x.item);
  location = 9;
  offset = x.at - from;
  frame = datum.Explicit (frame_by (is_row_of ByTarget x.item));
  target = datum.Explicit (target_method n (written_reloc n x.item).target);
  displacement = 0;
}

-- with its data
abbrev pub made_fixed : Object → ℕ → Section → ℕ → ℕ → Field Reloc → Fixed
made_fixed n k s from to x = record {
  fixup = made_record n from x;
  piece = Some (window_piece k (raw_of n k s) (from, to));
  frame = Some (frame_by (is_row_of ByTarget x.item));
  target = Some (target_method n (written_reloc n x.item).target);
}

-- ... subrecords of entries

placed_member : {X Y : Type 0} (bytes : X → List ℕ) (value : X → Y) (place at : ℕ) (xs : List X) (m : ℕ) (r : Read Y)
    → slice_get (in_file place (placed bytes value at xs)) m ≡ Some r → (x : X) × (slice_get xs m ≡ Some x) × (r.part ≡ Ok (value x))
placed_member bytes value place at [] m r h = absurd (none-some r h)
placed_member {X} {Y} bytes value place at (x ∷ xs) zero r h = (x, refl, ap (λ (z : Read Y). z.part) (sym (same_Some _ r h)))
placed_member bytes value place at (x ∷ xs) (suc m) r h = placed_member bytes value place (at + length (bytes x)) xs m r h

pub placed_there : {X Y : Type 0} (bytes : X → List ℕ) (value : X → Y) (place at : ℕ) (xs : List X) (m : ℕ) (x : X) → slice_get xs m ≡ Some x
    → (r : Read Y) × (slice_get (in_file place (placed bytes value at xs)) m ≡ Some r) × (r.part ≡ Ok (value x))
placed_there bytes value place at [] m x h = absurd (none-some x h)
placed_there bytes value place at (y ∷ xs) zero x h = (_, refl, ap (λ z. Ok (value z)) (same_Some y x h))
placed_there bytes value place at (y ∷ xs) (suc m) x h = placed_there bytes value place (at + length (bytes y)) xs m x h

-- a subrecord is the fixup of a field
pub record IsSubrecord (n : Object) (o : Output) (m : ℕ) (part : Result Subrecord Cut) : Type 0 where
  pub k : ℕ
  pub s : Section
  pub from : ℕ
  pub to : ℕ
  pub is : o ≡ output.Fixups k s from to
  pub x : Field Reloc
  pub field : slice_get (fields_between n k from to) m ≡ Some x
  pub part_is : part ≡ Ok (subrecord.Fixup (made_record n from x))

public_silent : (at : ℕ) (name : List ℕ) (place : Option Place) → (option_map_or (made_public at name) place (says_nothing at)).subrecords ≡ []
public_silent at name place = grind arith

pub subrecord_is : (n : Object) (place : ℕ) (o : Output) (m : ℕ) (r : Read Subrecord) → slice_get (made n place o).subrecords m ≡ Some r → IsSubrecord n o m r.part
subrecord_is n place output.Header m r h = absurd (none-some r h)
subrecord_is n place (output.Names names) m r h = absurd (none-some r h)
subrecord_is n place (output.Segment k s) m r h = absurd (none-some r h)
subrecord_is n place output.Group m r h = absurd (none-some r h)
subrecord_is n place (output.External k s) m r h = absurd (none-some r h)
subrecord_is n place (output.Communal k s) m r h = absurd (none-some r h)
subrecord_is n place (output.Public k s) m r h = absurd (none-some r (ap (λ xs. slice_get xs m) (sym (public_silent place s.name (global_place s.binding))) ∙ h))
subrecord_is n place (output.Data k s from to) m r h = absurd (none-some r h)
subrecord_is n place (output.Fixups k s from to) m r h =
    let p = placed_member (field_fixup n from) (made_fixup n from) place 0 (fields_between n k from to) m r h in
    record { k = k; s = s; from = from; to = to; is = refl; x = p.0; field = p.1; part_is = p.2 }
subrecord_is n place output.End m r h = absurd (none-some r h)

-- ... fixups among subrecords

-- a subrecord that is a fixup without threads
pub record IsPlain (y : PlacedSubrecord) : Type 0 where
  pub fixup : Fixup
  pub frame : Method
  pub target : Method
  pub part : y.part ≡ Ok (subrecord.Fixup fixup)
  pub frame_is : fixup.frame ≡ datum.Explicit frame
  pub target_is : fixup.target ≡ datum.Explicit target

abbrev pub fixed_by : (y : PlacedSubrecord) → IsPlain y → Fixed
fixed_by y p = record { fixup = p.fixup; piece = last_of y.before.pieces; frame = Some p.frame; target = Some p.target }

pub fixed_plain : (earlier : List PlacedSubrecord) (y : PlacedSubrecord) (p : IsPlain y) → fixed_of earlier y.before p.fixup ≡ fixed_by y p
fixed_plain earlier y p =
    ap (λ d. record { fixup = p.fixup; piece = last_of y.before.pieces; frame = method_of earlier true d; target = method_of earlier false p.fixup.target }) p.frame_is
    ∙ ap (λ d. record { fixup = p.fixup; piece = last_of y.before.pieces; frame = Some p.frame; target = method_of earlier false d }) p.target_is

with_plain : (earlier : List PlacedSubrecord) (y : PlacedSubrecord) (p : IsPlain y) (rest : List Fixed) → with_fixed earlier y rest ≡ fixed_by y p ∷ rest
with_plain earlier y p rest =
    ap (λ (r : Result Subrecord Cut). elim r [ Ok (subrecord.Fixup f) ↦ fixed_of earlier y.before f ∷ rest | Ok (subrecord.Thread t) ↦ rest | Err c ↦ rest ]) p.part
    ∙ ap (λ f. f ∷ rest) (fixed_plain earlier y p)

-- each subrecord gives one fixup
abbrev pub ArePlain : List PlacedSubrecord → Type 0
ArePlain xs = (i : ℕ) (y : PlacedSubrecord) → slice_get xs i ≡ Some y → IsPlain y

pub of_fixed : (earlier xs : List PlacedSubrecord) (plain : ArePlain xs) (i : ℕ) (f : Fixed) → slice_get (fixed_from earlier xs) i ≡ Some f
    → (y : PlacedSubrecord) × (h : slice_get xs i ≡ Some y) × (f ≡ fixed_by y (plain i y h))
of_fixed earlier [] plain i f h = absurd (none-some f h)
of_fixed earlier (x ∷ xs) plain zero f h =
    let p = plain 0 x refl in
    (x, refl, sym (same_Some (fixed_by x p) f (ap (λ fs. slice_get fs 0) (sym (with_plain earlier x p (fixed_from (earlier ++ x ∷ []) xs))) ∙ h)))
of_fixed earlier (x ∷ xs) plain (suc i) f h =
    let p = plain 0 x refl in
    of_fixed (earlier ++ x ∷ []) xs (λ j y g. plain (suc j) y g) i f (ap (λ fs. slice_get fs (suc i)) (sym (with_plain earlier x p (fixed_from (earlier ++ x ∷ []) xs))) ∙ h)

-- that of a subrecord is there
plain_first : (earlier : List PlacedSubrecord) (x y : PlacedSubrecord) (rest : List Fixed) → x ≡ y → (p : IsPlain y) → slice_get (with_fixed earlier x rest) 0 ≡ Some (fixed_by y p)
plain_first earlier x y rest e p = ap (λ z. slice_get (with_fixed earlier z rest) 0) e ∙ ap (λ fs. slice_get fs 0) (with_plain earlier y p rest)

pub fixed_there : (earlier xs : List PlacedSubrecord) (plain : ArePlain xs) (i : ℕ) (y : PlacedSubrecord) → slice_get xs i ≡ Some y → (p : IsPlain y) → slice_get (fixed_from earlier xs) i ≡ Some (fixed_by y p)
fixed_there earlier [] plain i y h p = absurd (none-some y h)
fixed_there earlier (x ∷ xs) plain zero y h p = plain_first earlier x y (fixed_from (earlier ++ x ∷ []) xs) (same_Some x y h) p
fixed_there earlier (x ∷ xs) plain (suc i) y h p =
    let own = plain 0 x refl in
    ap (λ fs. slice_get fs (suc i)) (with_plain earlier x own (fixed_from (earlier ++ x ∷ []) xs)) ∙ fixed_there (earlier ++ x ∷ []) xs (λ j z g. plain (suc j) z g) i y h p

-- the last of more
pub last_more : {X : Type 0} (xs : List X) (x : X) → last_of (xs ++ x ∷ []) ≡ Some x
last_more [] x = refl
last_more (y ∷ []) x = refl
last_more (y ∷ z ∷ xs) x = last_more (z ∷ xs) x

pub made_there : (n : Object) (at i : ℕ) (os : List Output) (o : Output) → slice_get os i ≡ Some o → (place : ℕ) × (slice_get (made_from n at os) i ≡ Some (made n place o))
made_there n at i [] o h = absurd (none-some o h)
made_there n at zero (p ∷ os) o h = (at, ap (λ q. Some (made n at q)) (same_Some p o h))
made_there n at (suc i) (p ∷ os) o h = made_there n (at + length (output_bytes n p)) i os o h

-- an output of data is one of all
pub data_there : (n : Object) (j : ℕ) (o : Output) → slice_get (flat_map (data_outputs n) (enumerate_from 0 n.sections)) j ≡ Some o → (i : ℕ) × (slice_get (outputs_of n) i ≡ Some o)
unfolding outputs_of
data_there n j o h =
    let names : List Output = map output.Names (filled_from [] (names_of n)) in
    let segments : List Output = map segment_output (enumerate_from 0 n.sections) in
    let symbols : List Output = symbol_outputs n in
    let pieces : List Output = flat_map (data_outputs n) (enumerate_from 0 n.sections) in
    let a : slice_get (pieces ++ output.End ∷ []) j ≡ Some o = member_first pieces (output.End ∷ []) j o h in
    let b : slice_get (symbols ++ (pieces ++ output.End ∷ [])) (length symbols + j) ≡ Some o = member_second symbols (pieces ++ output.End ∷ []) j o a in
    let c : slice_get (segments ++ (output.Group ∷ symbols ++ (pieces ++ output.End ∷ []))) (length segments + suc (length symbols + j)) ≡ Some o
    = member_second segments (output.Group ∷ symbols ++ (pieces ++ output.End ∷ [])) (suc (length symbols + j)) o b in
    (suc (length names + (length segments + suc (length symbols + j))), member_second names (segments ++ (output.Group ∷ symbols ++ (pieces ++ output.End ∷ []))) (length segments + suc (length symbols + j)) o c)
