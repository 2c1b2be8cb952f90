-- No fixup of the canonical file has a fault.
use Rattle.std.proofs.Common.{◌≡◌, ℕ, zero, suc, ◌+◌, ◌<◌, ◌≤◌, ◌⊎◌, inl, inr, Bool, true, false, not, ◌&&◌, ◌||◌, nat_le, nat_lt, nat_eq, if◌then◌else◌, List, [], ◌∷◌, ◌++◌, take, filter, Some, Result, refl, sym, ◌∙◌, ap, subst, arith, append-nil}
use Rattle.std.specs.{Prelude.{flat_map, slice_get}, List.{enumerate_from, list_any, AllByRecursion}, Option.{option_map_or, is_some}}
use Rattle.std.proofs.lemmas.{Bool.{eqb-true}, Bool.Decides.{nat_tests}, Grind.{flat_map-append}, Option.{none-some, same_Some}}
use Rattle.oc_linking.specs.{FirstFault.{Condition}, Keeping.{all}}
use Rattle.oc_chains.specs.{Fields.{FollowFrom, end_of}, declared.field.Field.{Field}, Lists.{list_of}}
use Rattle.oc_neutral.specs.{declared.reloc.Reloc.{Reloc}, Objects.{Object, reloc_at}, Omf.Relocs.{ByTarget}}
use Rattle.oc_neutral.proofs.Positions.{there_at}
use Rattle.oc_shelf.proofs.ReadingLaws.StageLemmas.{Unbroken, IsUnbroken}
use Rattle.oc_shelf.proofs.WritingLaws.MemberLemmas.{each_append, none_passes, of_map, of_enumerated, all_members}
use Rattle.oc_omf.specs.{declared.cut.Cut.{Cut}, declared.structures.Subrecord.{Subrecord}, Structures.{Piece}, Entries.{Entry}, Tables.{Tables, is_there}}
use Rattle.oc_omf.specs.Fixups.{PlacedSubrecord, subrecords_by, subrecords_upto, Fixed, fixed_from, fixed_in, is_inside, is_of_segment, field_offsets, are_near, meet}
use Rattle.oc_omf.specs.{Targets.{Meaning, meaning_of}, Fields.{aim_of}}
use Rattle.oc_omf.specs.RelocationFaults.{is_judged, has_row, fixup_conditions, part_conditions, relocation_conditions, relocation_stage, relocation_stages}
use Rattle.oc_omf_file.specs.{Pieces.{fields_between}, Outputs.{Output, outputs_of}, Fixups.{written_reloc, target_method}}
use Rattle.oc_omf_file.specs.Outputs as output
use Rattle.oc_omf_file.proofs.{ListLemmas.{of_take, member_take}, FixupLaws.{frame_by}, MadeLaw.{is_row_of}}
use Rattle.oc_omf_file.proofs.{GivenLaws.{segments_by, groups_by, externals_by, given}, BehindLaws.{EndsBy, made_tables, flat}, CodedLaws.{IsForOmf, apart_by}}
use Rattle.oc_omf_file.proofs.FixedLaws.{entries, IsPlacedField, placed_is, placed_upto_is, plain_is, IsFixed, fixed_is, bounds, has_field, reloc_of}
use Rattle.oc_omf_file.proofs.{PlacedLaws.{IsPlain, fixed_by, fixed_plain, of_fixed}, TargetLaws.{meant, row_read, IsAimed, aim_read}}
use Rattle.oc_omf_file.proofs.ShowsLaw.{read, meaning_read}

unbroken_if : (b : Bool) (cs : List Condition) → Unbroken cs → Unbroken (if b then cs else [])
unbroken_if true cs u = u
unbroken_if false cs u = tt

-- ... the order of fields

filter_low : (test : Field Reloc → Bool) (p : ℕ) (xs : List (Field Reloc)) → FollowFrom p xs → (i : ℕ) (x : Field Reloc) → slice_get (filter test xs) i ≡ Some x → p ≤ x.at
filter_low test p [] f i x h = absurd (none-some x h)
filter_low test p (y ∷ xs) f i x h = by (λ j g. filter_low test (end_of y) xs f.2 j x g) (test y) i h
  where
    by : ((j : ℕ) → slice_get (filter test xs) j ≡ Some x → end_of y ≤ x.at) → (b : Bool) (i : ℕ) → slice_get (if b then y ∷ filter test xs else filter test xs) i ≡ Some x → p ≤ x.at
    by later b i h = grind arith

filter_rises : (test : Field Reloc → Bool) (p : ℕ) (xs : List (Field Reloc)) → FollowFrom p xs → (a b : ℕ) (x y : Field Reloc) → a < b
    → slice_get (filter test xs) a ≡ Some x → slice_get (filter test xs) b ≡ Some y → x.at < y.at
filter_rises test p [] f a b x y l h g = absurd (none-some x h)
filter_rises test p (z ∷ xs) f a b x y l h g = by (λ i j m u v. filter_rises test (end_of z) xs f.2 i j x y m u v) (λ j v. filter_low test (end_of z) xs f.2 j y v) (test z) a b l h g
  where
    by : ((i j : ℕ) → i < j → slice_get (filter test xs) i ≡ Some x → slice_get (filter test xs) j ≡ Some y → x.at < y.at) → ((j : ℕ) → slice_get (filter test xs) j ≡ Some y → end_of z ≤ y.at)
        → (t : Bool) (a b : ℕ) → a < b → slice_get (if t then z ∷ filter test xs else filter test xs) a ≡ Some x → slice_get (if t then z ∷ filter test xs else filter test xs) b ≡ Some y → x.at < y.at
    by later low true zero zero l h g = absurd (omega (arith, l))
    by later low true zero (suc b) l h g =
        let m = low b g in
        let wide = f.1 in
        let first : z.at ≡ x.at = ap (λ (u : Field Reloc). u.at) (same_Some z x h) in
        omega (arith, m, wide, first)
    by later low true (suc a) zero l h g = absurd (omega (arith, l))
    by later low true (suc a) (suc b) l h g = later a b (omega (arith, l)) h g
    by later low false a b l h g = later a b l h g

-- the section and the ends of fixups; of others there are none, and 0 stands for them
abbrev span_of : Output → ℕ × ℕ × ℕ
span_of output.Header = (0, 0, 0)
span_of (output.Names names) = (0, 0, 0)
span_of (output.Segment k s) = (0, 0, 0)
span_of output.Group = (0, 0, 0)
span_of (output.External k s) = (0, 0, 0)
span_of (output.Communal k s) = (0, 0, 0)
span_of (output.Public k s) = (0, 0, 0)
span_of (output.Data k s from to) = (0, 0, 0)
span_of (output.Fixups k s from to) = (k, from, to)
span_of output.End = (0, 0, 0)

module _ (n : Object) (is : IsForOmf n) where
  -- what stands before in one section ends before
  apart : (q : ℕ) (f g : Fixed) (a : IsFixed n is q f) (b : IsFixed n is q g) → (b.index < a.index) ⊎ ((b.index ≡ a.index) × (b.m < a.m)) → b.k ≡ a.k → b.x.at + 4 ≤ a.x.at
  apart q f g a b (inl before) same =
      let there : slice_get (take a.index (outputs_of n)) b.index ≡ Some (output.Fixups b.k b.s b.from b.to) = member_take a.index (outputs_of n) b.index _ before b.here in
      let front : slice_get (a.before ++ output.Data a.k a.s a.from a.to ∷ []) b.index ≡ Some (output.Fixups b.k b.s b.from b.to) = ap (λ os. slice_get os b.index) (sym a.front) ∙ there in
      let ends : EndsBy a.k a.from (output.Fixups b.k b.s b.from b.to)
      = each_append (λ o. o ≡ output.Fixups b.k b.s b.from b.to → EndsBy a.k a.from o) a.before (output.Data a.k a.s a.from a.to ∷ [])
      (λ i o h e. a.data_at.earlier i o h) last b.index _ front refl in
      let low = bounds n is q f a in
      let high = bounds n is q g b in
      let l = low.0 in
      let m = high.1 in
      elim ends [ inl e ↦ absurd (omega (arith, e, same)) | inr e ↦ let behind = e.1 in omega (arith, behind, l, m) ]
    where
      last : (i : ℕ) (o : Output) → slice_get (output.Data a.k a.s a.from a.to ∷ []) i ≡ Some o → o ≡ output.Fixups b.k b.s b.from b.to → EndsBy a.k a.from o
      last zero o h e = absurd (data_is_not (same_Some (output.Data a.k a.s a.from a.to) o h ∙ e))
        where
          data_is_not : output.Data a.k a.s a.from a.to ≡ output.Fixups b.k b.s b.from b.to → ⊥
          data_is_not e = absurd (cc)
      last (suc i) o h e = absurd (none-some o h)
  apart q f g a b (inr before) same =
      let one : output.Fixups b.k b.s b.from b.to ≡ output.Fixups a.k a.s a.from a.to = same_Some _ _ (sym b.here ∙ ap (slice_get (outputs_of n)) before.0 ∙ a.here) in
      let field : slice_get (fields_between n a.k a.from a.to) b.m ≡ Some b.x = ap (λ t. slice_get (fields_between n t.0 t.1 t.2) b.m) (sym (ap span_of one)) ∙ b.field in
      let rises = filter_rises (λ (x : Field Reloc). nat_le a.from x.at && nat_lt x.at a.to) 0 (list_of n.relocs a.k) (is.object.built.fields.apart a.k) b.m a.m b.x a.x before.1 field a.field in
      let own = reloc_of n is q g b in
      apart_by n is a.k b.x.at a.x.at b.x.item a.x.item (ap (λ j. reloc_at n j b.x.at) (sym same) ∙ own) (reloc_of n is q f a) rises

  -- so they do not meet
  misses : (q : ℕ) (f g : Fixed) (a : IsFixed n is q f) (b : IsFixed n is q g) → (b.index < a.index) ⊎ ((b.index ≡ a.index) × (b.m < a.m)) → meet f g ≡ false
  misses q f g a b before =
      let mine = has_field n is q f a in
      let theirs = has_field n is q g b in
      let piece : option_map_or (λ (d : Piece). is_of_segment g d.segment) f.piece false ≡ nat_eq (b.k + 1) (a.k + 1)
      = ap (λ (h : Fixed). option_map_or (λ (d : Piece). is_of_segment g d.segment) h.piece false) a.is_made ∙ theirs.segment (a.k + 1) in
      let offsets : list_any (λ at. list_any (are_near at) (field_offsets g)) (field_offsets f) ≡ ((are_near a.x.at b.x.at || false) || false)
      = ap (list_any (λ at. list_any (are_near at) (field_offsets g))) mine.offsets ∙ ap (λ xs. list_any (are_near a.x.at) xs || false) theirs.offsets in
      ap (λ t. t && list_any (λ at. list_any (are_near at) (field_offsets g)) (field_offsets f)) piece
      ∙ ap (λ t. nat_eq (b.k + 1) (a.k + 1) && t) offsets
      ∙ by (nat_eq (b.k + 1) (a.k + 1)) refl
    where
      by : (t : Bool) → nat_eq (b.k + 1) (a.k + 1) ≡ t → (t && ((are_near a.x.at b.x.at || false) || false)) ≡ false
      by false e = refl
      by true e =
          let same : b.k + 1 ≡ a.k + 1 = eqb-true (b.k + 1) (a.k + 1) e in
          let ends = apart q f g a b before (omega (arith, same)) in
          let far : nat_lt a.x.at (b.x.at + 4) ≡ false = grind (arith, nat_tests) in
          ap (λ t. ((t && nat_lt b.x.at (a.x.at + 4)) || false) || false) far

  -- ... what stands before a subrecord

  record IsEarlier (i j : ℕ) (y : PlacedSubrecord) : Type 0 where
    field : IsPlacedField n is (i + 1) y
    place : (y.index < i) ⊎ ((y.index ≡ i) × (field.m < j))

  earlier_are : (i : ℕ) (e : Entry) → slice_get (entries n is) i ≡ Some e → (j : ℕ) (m : ℕ) (y : PlacedSubrecord)
      → slice_get (subrecords_upto (entries n is) i ++ take j (subrecords_by (entries n is) (i, e))) m ≡ Some y → IsEarlier i j y
  earlier_are i e here j =
      each_append (IsEarlier i j) (subrecords_upto (entries n is) i) (take j (subrecords_by (entries n is) (i, e)))
      (λ m y h.
      let f = placed_upto_is n is i m y h in
      let low = f.low in
      record {
        field = record { k = f.k; s = f.s; from = f.from; to = f.to; low = omega (arith, low); here = f.here; m = f.m; x = f.x; field = f.field; part = f.part; before = f.before };
        place = inl f.low;
      })
      (λ m y h.
      let t = of_take j (subrecords_by (entries n is) (i, e)) m y h in
      let f = placed_is n is i e here m y t.1 in
      let low = t.0 in
      let same = f.2 in
      record { field = f.1; place = inr (f.0, omega (arith, low, same)) })

  -- ... one fixup

  -- what data leave as it is
  past_data : {X : Type 0} (g : Output → List X) (before : List Output) (o : Output) → g o ≡ [] → flat_map g (before ++ o ∷ []) ≡ flat_map g before
  past_data g before o none =
      flat_map-append g before (o ∷ []) ∙ ap (λ ys. flat_map g before ++ ys) (append-nil (g o) ∙ none) ∙ append-nil (flat_map g before)

  framed_there : (t : Tables) (home : Bool) → t.groups ≡ flat → is_there t (frame_by home) ≡ true
  framed_there t home groups = grind arith

  fixup_clean : (i : ℕ) (e : Entry) → slice_get (entries n is) i ≡ Some e → (j : ℕ) (y : PlacedSubrecord) → slice_get (subrecords_by (entries n is) (i, e)) j ≡ Some y
      → Unbroken (relocation_conditions (meant n) all (subrecords_upto (entries n is) i ++ take j (subrecords_by (entries n is) (i, e))) y)
  unfolding relocation_conditions fixup_conditions fixed_in
  fixup_clean i e here j y there =
      let m : Meaning = meant n in
      let before : List PlacedSubrecord = subrecords_upto (entries n is) i ++ take j (subrecords_by (entries n is) (i, e)) in
      let f = placed_is n is i e here j y there in
      let p : IsPlain y = plain_is n is (i + 1) y f.1 in
      let own : Fixed = fixed_by y p in
      let r = fixed_is n is (i + 1) y f.1 in
      let g : IsFixed n is (i + 1) own = r.fixed in
      let number : g.index ≡ i = r.index ∙ f.0 in
      let position : g.m ≡ j = r.m ∙ f.2 in
      let o : Output = output.Data g.k g.s g.from g.to in
      let tables : y.before ≡ given n (g.before ++ o ∷ []) = f.1.before ∙ ap (λ q. given n (take q (outputs_of n))) (sym r.index) ∙ ap (given n) g.front in
      let ready = g.data_at.ready in
      let segments : y.before.segments ≡ (made_tables n).segments = ap (λ (t : Tables). t.segments) tables ∙ past_data (segments_by n) g.before o refl ∙ ready.segments_are in
      let groups : y.before.groups ≡ flat = ap (λ (t : Tables). t.groups) tables ∙ past_data groups_by g.before o refl ∙ ready.groups_are in
      let externals : y.before.externals ≡ (made_tables n).externals = ap (λ (t : Tables). t.externals) tables ∙ past_data externals_by g.before o refl ∙ ready.externals_are in
      let item : Reloc = f.1.x.item in
      let same_item : g.x.item ≡ item = ap (λ (z : Field Reloc). z.item) r.x in
      let reloc : reloc_at n g.k g.x.at ≡ Some item = reloc_of n is (i + 1) own g ∙ ap (λ (z : Reloc). Some z) same_item in
      let aim : IsAimed n is item = aim_read n is g.k g.x.at item reloc in
      let inside : is_inside own ≡ true = (let h = has_field n is (i + 1) own g in ap is_some h.some.1) in
      let target : is_there y.before (target_method n (written_reloc n item).target) ≡ true = aim.there (target_method n (written_reloc n item).target) refl y.before segments externals in
      let frame : is_there y.before (frame_by (is_row_of ByTarget item)) ≡ true = framed_there y.before (is_row_of ByTarget item) groups in
      let row : has_row m own (aim_of m own) ≡ true
      = ap (has_row m own) aim.is_aim ∙ ap is_some (row_read n is (i + 1) own g aim.aim) in
      let overlap : list_any (meet own) (fixed_from [] before) ≡ false
      = none_passes (meet own) (fixed_from [] before) (λ l z h.
      let d = of_fixed [] before (λ a w c. plain_is n is (i + 1) w (earlier_are i e here j a w c).field) l z h in
      let at = earlier_are i e here j l d.0 d.1 in
      let b = fixed_is n is (i + 1) d.0 at.field in
      let index : b.fixed.index ≡ d.0.index = b.index in
      let place : b.fixed.m ≡ at.field.m = b.m in
      ap (meet own) d.2
      ∙ misses (i + 1) own (fixed_by d.0 (plain_is n is (i + 1) d.0 at.field)) g b.fixed (elim at.place [
        | inl w ↦ inl (omega (arith, w, index, number))
        | inr w ↦ let w0 = w.0 in let w1 = w.1 in inr (omega (arith, w0, index, number), omega (arith, w1, place, position))
      ])) in
      subst (λ (q : Result Subrecord Cut). Unbroken (part_conditions m all before y q)) (sym f.1.part)
      (subst (λ (x : Fixed). Unbroken (if is_judged m.tables all x then fixup_conditions m (fixed_in before) y x else [])) (sym (fixed_plain before y p))
      (unbroken_if (is_judged m.tables all own) _ (refl, (ap not inside, (ap not target, (ap not frame, (ap not row, (overlap, tt))))))))

  -- ... all

  meaning_is : meaning_of (entries n is) ≡ meant n
  meaning_is = ap meaning_of (sym (read n is)) ∙ meaning_read n is

  stage_clean : (i : ℕ) (e : Entry) → slice_get (entries n is) i ≡ Some e → IsUnbroken (relocation_stage (entries n is) all (i, e))
  stage_clean i e here j low =
      let y = there_at (subrecords_by (entries n is) (i, e)) j low in
      let earlier : List PlacedSubrecord = subrecords_upto (entries n is) i ++ take j (subrecords_by (entries n is) (i, e)) in
      subst Unbroken (sym (ap (λ o. option_map_or (relocation_conditions (meaning_of (entries n is)) all earlier) o []) y.1))
      (subst (λ m. Unbroken (relocation_conditions m all earlier y.0)) (sym meaning_is) (fixup_clean i e here j y.0 y.1))

  pub relocations_clean : AllByRecursion IsUnbroken (relocation_stages (entries n is) all)
  relocations_clean =
      all_members IsUnbroken (relocation_stages (entries n is) all) (λ j stage h.
      let x = of_map (relocation_stage (entries n is) all) (enumerate_from 0 (entries n is)) j stage h in
      let e = of_enumerated 0 (entries n is) j x.0 x.1 in
      let i : x.0.0 ≡ j = e.0 ∙ omega arith in
      subst IsUnbroken x.2 (stage_clean x.0.0 x.0.1 (ap (slice_get (entries n is)) i ∙ e.1)))
