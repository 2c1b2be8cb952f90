-- The fixups of the canonical file, each with the data before it.
use Rattle.std.proofs.Common.{◌≡◌, ℕ, ◌+◌, ◌-◌, ◌*◌, ◌<◌, ◌≤◌, true, false, ◌&&◌, nat_lt, nat_le, nat_eq, if◌then◌else◌, List, [], ◌∷◌, ◌++◌, length, map, take, Some, None, Ok, refl, sym, ◌∙◌, ap, subst, arith}
use Rattle.std.specs.{Prelude.{flat_map, slice_get, slice_range}, List.{enumerate_from}, Option.{option_map, unwrap_or}}
use Rattle.std.proofs.lemmas.{Bool.Decides.{nat_tests}, Grind.{flat_map-append}, Option.{slice_get_within}}
use Rattle.oc_chains.specs.{declared.field.Field.{Field}, Lists.{list_of}}
use Rattle.oc_neutral.specs.{declared.section.Section.{Section}, declared.reloc.Reloc.{Reloc}, Objects.{Object, reloc_at}, Omf.Relocs.{ByTarget}}
use Rattle.oc_omf_records.specs.Blocks.{found, in_each}
use Rattle.oc_shelf.proofs.WritingLaws.MemberLemmas.{each_flat_map, member_enumerated, member_flat_map, member_map, of_map, of_enumerated, member_filter}
use Rattle.oc_omf.specs.{declared.structures.Subrecord.{Subrecord}, Cursor.{Read}, Entries.{Entry}, Tables.{Tables, tables_of}}
use Rattle.oc_omf.specs.Fixups.{PlacedSubrecord, subrecords_by, subrecords_upto, last_of, Fixed, fixed_from, copies_for, field_offsets, is_of_segment}
use Rattle.oc_omf.specs.declared.structures.Subrecord.TheVariants as subrecord
use Rattle.oc_omf_file.specs.Pieces.{offsets_of, pieces_of, fields_between}
use Rattle.oc_omf_file.specs.Outputs.{Output, symbol_outputs, piece_outputs, data_outputs, segment_output, outputs_of}
use Rattle.oc_omf_file.specs.Fixups.{written_reloc, raw_of, target_method, field_fixup}
use Rattle.oc_omf_file.specs.Outputs as output
use Rattle.oc_omf_file.proofs.{ListLemmas.{of_take, member_take}, FixupLaws.{frame_by}, MadeLaw.{is_row_of, made_fixup, made, made_from}}
use Rattle.oc_omf_file.proofs.{GivenLaws.{window_piece, pieces_by, given, tables_before, entry_made}, PieceLaws.{pieces_follow, piece_of, length-window}}
use Rattle.oc_omf_file.proofs.{BehindLaws.{IsDataAt}, CodedLaws.{IsForOmf, fields_apart, field_there, field_is, inside}}
use Rattle.oc_omf_file.proofs.SmallLaws.{length-raw, between, behind}
use Rattle.oc_omf_file.proofs.PlacedLaws.{made_record, made_fixed, placed_there, subrecord_is, IsPlain, fixed_by, ArePlain, of_fixed, fixed_there, last_more, made_there, data_there}

module _ (n : Object) (is : IsForOmf n) where
  abbrev outs : List Output
  outs = outputs_of n

  -- the entries that are read
  abbrev pub entries : List Entry
  entries = made_from n 0 (outputs_of n)

  -- ... subrecords in their places

  pub record IsPlacedField (q : ℕ) (y : PlacedSubrecord) : Type 0 where
    pub k : ℕ
    pub s : Section
    pub from : ℕ
    pub to : ℕ
    pub low : y.index < q
    pub here : slice_get (outputs_of n) y.index ≡ Some (output.Fixups k s from to)
    pub m : ℕ
    pub x : Field Reloc
    pub field : slice_get (fields_between n k from to) m ≡ Some x
    pub part : y.part ≡ Ok (subrecord.Fixup (made_record n from x))
    pub before : y.before ≡ given n (take y.index (outputs_of n))

  pub placed_is : (i : ℕ) (e : Entry) → slice_get entries i ≡ Some e → (m : ℕ) (y : PlacedSubrecord) → slice_get (subrecords_by entries (i, e)) m ≡ Some y
      → (y.index ≡ i) × (f : IsPlacedField (i + 1) y) × (f.m ≡ m)
  placed_is i e here m y h =
      let r = of_map (λ (s : Read Subrecord). record { index = i; at = s.at; part = s.part; before = tables_of (take i entries) }) e.subrecords m y h in
      let o = entry_made n 0 i outs e here in
      let f = subrecord_is n o.1 o.0 m r.0 (ap (λ (z : Entry). slice_get z.subrecords m) o.3 ∙ r.1) in
      let index : y.index ≡ i = ap (λ (z : PlacedSubrecord). z.index) (sym r.2) in (
        index,
        record {
          k = f.k;
          s = f.s;
          from = f.from;
          to = f.to;
          low = omega (arith, index);
          here = ap (slice_get outs) index ∙ o.2 ∙ ap (λ p. Some p) f.is;
          m = m;
          x = f.x;
          field = f.field;
          part = ap (λ (z : PlacedSubrecord). z.part) (sym r.2) ∙ f.part_is;
          before = ap (λ (z : PlacedSubrecord). z.before) (sym r.2) ∙ tables_before n i outs ∙ ap (λ j. given n (take j outs)) (sym index);
        },
        refl,
      )

  pub placed_upto_is : (q m : ℕ) (y : PlacedSubrecord) → slice_get (subrecords_upto entries q) m ≡ Some y → IsPlacedField q y
  unfolding subrecords_upto
  placed_upto_is q =
      each_flat_map (IsPlacedField q) (subrecords_by entries) (take q (enumerate_from 0 entries)) (λ j x h m y g.
      let t = of_take q (enumerate_from 0 entries) j x h in
      let z = of_enumerated 0 entries j x t.1 in
      let number : x.0 ≡ j = z.0 ∙ omega arith in
      let f = placed_is x.0 x.1 (ap (slice_get entries) number ∙ z.1) m y g in
      let l = t.0 in
      let i = f.0 in
      let own = f.1 in
      record { k = own.k; s = own.s; from = own.from; to = own.to; low = omega (arith, l, number, i); here = own.here; m = own.m; x = own.x; field = own.field; part = own.part; before = own.before })

  -- ... fixups

  -- the data before a subrecord
  data_before : (q : ℕ) (y : PlacedSubrecord) (f : IsPlacedField q y) → (before : List Output) × (take y.index outs ≡ before ++ output.Data f.k f.s f.from f.to ∷ []) × IsDataAt n before f.k f.s f.from f.to
  data_before q y f = behind n is y.index (output.Fixups f.k f.s f.from f.to) f.here

  abbrev pub plain_is : (q : ℕ) (y : PlacedSubrecord) → IsPlacedField q y → IsPlain y
  plain_is q y f = record { fixup = made_record n f.from f.x; frame = frame_by (is_row_of ByTarget f.x.item); target = target_method n (written_reloc n f.x.item).target; part = f.part; frame_is = refl; target_is = refl }

  -- a fixup that is read
  pub record IsFixed (q : ℕ) (f : Fixed) : Type 0 where
    pub index : ℕ
    pub k : ℕ
    pub s : Section
    pub from : ℕ
    pub to : ℕ
    pub before : List Output
    pub low : index < q
    pub here : slice_get (outputs_of n) index ≡ Some (output.Fixups k s from to)
    pub data_at : IsDataAt n before k s from to
    pub front : take index (outputs_of n) ≡ before ++ output.Data k s from to ∷ []
    pub m : ℕ
    pub x : Field Reloc
    pub field : slice_get (fields_between n k from to) m ≡ Some x
    pub is_made : f ≡ made_fixed n k s from to x

  pub record IsReadAs (q : ℕ) (y : PlacedSubrecord) (f : IsPlacedField q y) : Type 0 where
    pub fixed : IsFixed q (fixed_by y (plain_is q y f))
    pub index : fixed.index ≡ y.index
    pub k : fixed.k ≡ f.k
    pub m : fixed.m ≡ f.m
    pub x : fixed.x ≡ f.x

  pub fixed_is : (q : ℕ) (y : PlacedSubrecord) (f : IsPlacedField q y) → IsReadAs q y f
  fixed_is q y f =
      let d = data_before q y f in
      let piece : last_of y.before.pieces ≡ Some (window_piece f.k (raw_of n f.k f.s) (f.from, f.to))
      = ap (λ (t : Tables). last_of t.pieces) f.before ∙ ap (λ os. last_of (flat_map (pieces_by n) os)) d.1
      ∙ ap last_of (flat_map-append (pieces_by n) d.0 (output.Data f.k f.s f.from f.to ∷ [])) ∙ last_more (flat_map (pieces_by n) d.0) (window_piece f.k (raw_of n f.k f.s) (f.from, f.to)) in
      record {
        fixed = record {
          index = y.index;
          k = f.k;
          s = f.s;
          from = f.from;
          to = f.to;
          before = d.0;
          low = f.low;
          here = f.here;
          data_at = d.2;
          front = d.1;
          m = f.m;
          x = f.x;
          field = f.field;
          is_made = ap (λ p. record { fixup = made_record n f.from f.x; piece = p; frame = Some (frame_by (is_row_of ByTarget f.x.item)); target = Some (target_method n (written_reloc n f.x.item).target) }) piece;
        };
        index = refl;
        k = refl;
        m = refl;
        x = refl;
      }

  -- ... its field

  offset_of : (k : ℕ) (s : Section) (from to : ℕ) (x : Field Reloc) → from ≤ x.at → x.at + 4 ≤ to → to ≤ length s.bytes
      → copies_for (made_fixed n k s from to x) ≡ Some ((0 * (to - from) + (x.at - from - 0)) ∷ [])
  offset_of k s from to x low high inside =
      let raw = length-raw n k s in
      let w : List ℕ = slice_range (raw_of n k s) from to in
      let long : length w ≡ to - from = length-window from to (raw_of n k s) (omega (arith, low, high)) (omega (arith, inside, raw)) in
      let test : (nat_le 0 (x.at - from) && nat_le (x.at - from + 4) (0 + length w)) ≡ true = grind (arith, nat_tests) in
      ap (λ b. found (option_map (in_each 1 (length w)) (if b then Some ((x.at - from - 0) ∷ []) else None)) (1 * length w) None) test
      ∙ ap (λ m. Some ((0 * m + (x.at - from - 0)) ∷ [])) long

  pub record HasField (f : Fixed) (k at : ℕ) : Type 0 where
    pub some : (o : List ℕ) × (copies_for f ≡ Some o)
    pub offsets : field_offsets f ≡ at ∷ []
    pub segment : (j : ℕ) → is_of_segment f j ≡ nat_eq (k + 1) j

  pub bounds : (q : ℕ) (f : Fixed) (g : IsFixed q f) → (g.from ≤ g.x.at) × (g.x.at + 4 ≤ g.to)
  bounds q f g =
      let b = between n g.k g.from g.to g.m g.x g.field in
      let at = member_map (λ (x : Field Reloc). x.at) (list_of n.relocs g.k) b.index g.x b.here in
      (b.low, g.data_at.whole.uncut b.index g.x.at at b.low b.high)

  pub has_field : (q : ℕ) (f : Fixed) (g : IsFixed q f) → HasField f g.k g.x.at
  has_field q f g =
      let b = bounds q f g in
      let low = b.0 in
      let e = offset_of g.k g.s g.from g.to g.x b.0 b.1 g.data_at.inside in
      let same : g.from + (0 * (g.to - g.from) + (g.x.at - g.from - 0)) ≡ g.x.at = omega (arith, low) in
      subst (λ h. HasField h g.k g.x.at) (sym g.is_made)
      (record {
        some = (_, e);
        offsets = ap (λ o. map (λ place. g.from + place) (unwrap_or o [])) e ∙ ap (λ p. p ∷ []) same;
        segment = λ j. refl;
      })

  -- the relocation of its field
  pub reloc_of : (q : ℕ) (f : Fixed) (g : IsFixed q f) → reloc_at n g.k g.x.at ≡ Some g.x.item
  reloc_of q f g = let b = between n g.k g.from g.to g.m g.x g.field in field_is n is g.k b.index g.x b.here

  -- ... all fixups

  pub fixups_are : (q i : ℕ) (f : Fixed) → slice_get (fixed_from [] (subrecords_upto entries q)) i ≡ Some f → IsFixed q f
  fixups_are q i f h =
      let m = of_fixed [] (subrecords_upto entries q) (λ j y g. plain_is q y (placed_upto_is q j y g)) i f h in
      let own = fixed_is q m.0 (placed_upto_is q i m.0 m.1) in
      subst (IsFixed q) (sym m.2) own.fixed

  -- the fixup of a relocation is there
  pub fixup_there : (k : ℕ) (s : Section) → slice_get n.sections k ≡ Some s → (at : ℕ) (r : Reloc) → reloc_at n k at ≡ Some r
      → (i : ℕ) × (f : Fixed) × (g : IsFixed (length entries) f) × (slice_get (fixed_from [] (subrecords_upto entries (length entries))) i ≡ Some f) × (g.k ≡ k) × (g.x.at ≡ at)
  unfolding pieces_of subrecords_upto
  fixup_there k s here at r there =
      let x = field_there (list_of n.relocs k) at r there in
      let ends = inside n is k at r there s here in
      let p = piece_of (offsets_of n k) 0 (length s.bytes) (pieces_of n k s) at
      (pieces_follow (length s.bytes) (offsets_of n k) (length s.bytes) 0 (fields_apart n is k s here) (omega arith) (omega arith)) (omega arith) (omega (arith, ends)) in
      let low = p.low in
      let high = p.high in
      let place : x.1.at ≡ at = x.3 in
      let passes : (nat_le p.piece.0 x.1.at && nat_lt x.1.at p.piece.1) ≡ true = grind (arith, nat_tests) in
      let f = member_filter (λ (y : Field Reloc). nat_le p.piece.0 y.at && nat_lt y.at p.piece.1) (list_of n.relocs k) x.0 x.1 x.2 passes in
      let some = slice_get_within (fields_between n k p.piece.0 p.piece.1) f.0 x.1 f.1 in
      let full : nat_eq (length (fields_between n k p.piece.0 p.piece.1)) 0 ≡ false = grind (arith, nat_tests) in
      let o : Output = output.Fixups k s p.piece.0 p.piece.1 in
      let e : 0 + k ≡ k = omega arith in
      let own = member_flat_map (piece_outputs n k s) (pieces_of n k s) p.index 1 p.piece o p.here (ap (λ b. slice_get (output.Data k s p.piece.0 p.piece.1 ∷ (if b then [] else o ∷ [])) 1) full) in
      let all = member_flat_map (data_outputs n) (enumerate_from 0 n.sections) k own.0 (k, s) o (member_enumerated 0 n.sections k s here ∙ ap (λ i. Some (i, s)) e) own.1 in
      let out = data_there n all.0 o all.1 in
      finish out.0 x.1 f.0 f.1 out.1 place
    where
      finish : {from to : ℕ} (i : ℕ) (x : Field Reloc) (j : ℕ) → slice_get (fields_between n k from to) j ≡ Some x → slice_get outs i ≡ Some (output.Fixups k s from to) → x.at ≡ at
          → (i : ℕ) × (f : Fixed) × (g : IsFixed (length entries) f) × (slice_get (fixed_from [] (subrecords_upto entries (length entries))) i ≡ Some f) × (g.k ≡ k) × (g.x.at ≡ at)
      finish {from} {to} i x j field out place =
          let e = made_there n 0 i outs (output.Fixups k s from to) out in
          let r = placed_there (field_fixup n from) (made_fixup n from) e.0 0 (fields_between n k from to) j x field in
          let y : PlacedSubrecord = record { index = i; at = r.0.at; part = r.0.part; before = tables_of (take i entries) } in
          let member : slice_get (subrecords_by entries (i, made n e.0 (output.Fixups k s from to))) j ≡ Some y
          = member_map (λ (z : Read Subrecord). record { index = i; at = z.at; part = z.part; before = tables_of (take i entries) }) (made n e.0 (output.Fixups k s from to)).subrecords j r.0 r.1 in
          let z : 0 + i ≡ i = omega arith in
          let inside = slice_get_within entries i _ e.1 in
          let taken = member_take (length entries) (enumerate_from 0 entries) i (i, made n e.0 (output.Fixups k s from to)) inside (member_enumerated 0 entries i _ e.1 ∙ ap (λ m. Some (m, made n e.0 (output.Fixups k s from to))) z) in
          let all = member_flat_map (subrecords_by entries) (take (length entries) (enumerate_from 0 entries)) i j (i, made n e.0 (output.Fixups k s from to)) y taken member in
          let plain : ArePlain (subrecords_upto entries (length entries)) = λ a b c. plain_is (length entries) b (placed_upto_is (length entries) a b c) in
          let own : IsPlacedField (length entries) y
          = record { k = k; s = s; from = from; to = to; low = inside; here = out; m = j; x = x; field = field; part = r.2; before = tables_before n i outs } in
          let g = fixed_is (length entries) y own in
          (all.0, fixed_by y (plain_is (length entries) y own), g.fixed, fixed_there [] (subrecords_upto entries (length entries)) plain all.0 y all.1 (plain_is (length entries) y own), g.k, ap (λ (z : Field Reloc). z.at) g.x ∙ place)
