-- Each entry of a plan can be put, and has the bytes of the canonical file.
use Rattle.std.proofs.Common.{◌≡◌, ℕ, suc, ◌+◌, ◌^◌, ◌<◌, ◌≤◌, Bool, true, false, cond, nat_eq, List, [], ◌∷◌, length, map, take, Some, refl, sym, ◌∙◌, ap, subst, arith, Vec, Global}
use Rattle.std.specs.{Prelude.{slice_get, slice_range, flat_map, bytes_eq}, List.{AllByRecursion, position_or_len}, Option.{option_map_or}}
use Rattle.std.proofs.lemmas.{List.{length-map}, Option.{slice_get_within}}
use Rattle.oc_chains.specs.{declared.field.Field.{Field}, Fields.{FollowFrom, end_of}, Lists.{list_of}}
use Rattle.oc_linking.specs.Parts.{is_local}
use Rattle.oc_neutral.specs.{declared.section.Section.{Section}, declared.symbol.Symbol.{Symbol}, declared.reloc.Reloc.{Reloc}, declared.reloc.Target.{Target}}
use Rattle.oc_neutral.specs.{Constants.{IsWide, with_contents}, Objects.{Object}}
use Rattle.oc_neutral.specs.declared.reloc.Target.TheVariants as target
use Rattle.oc_neutral.proofs.{ConstantObject.{within}, Positions.{each_at}}
use Rattle.oc_shelf.proofs.WritingLaws.MemberLemmas.{member_map}
use Rattle.oc_omf.specs.{declared.structures.Method.{Method}, Bytes.{segment_bytes, external_bytes, communal_bytes, data_bytes}}
use Rattle.oc_omf_file.specs.{Canonical.{segment_of, size_by, output_contents}, Fixups.{raw_of, written_reloc}, Names.{class_of}, Outputs.{Output, outputs_of}}
use Rattle.oc_omf_file.specs.Pieces.{fields_between}
use Rattle.oc_omf_file.specs.Outputs as output
use Rattle.oc_omf_file.proofs.{BehindLaws.{IsDataAt, Behind}, CodedLaws.{IsForOmf, field_is, inside, width_is}, MadeLaw.{Fits}}
use Rattle.oc_omf_file.proofs.SmallLaws.{between, segment_there, length-raw, behind, all_small}
use Rattle.oc_omf_write.specs.{declared.fixups.Fixup.{Fixup}, declared.tables.WrittenTables.{WrittenTables}, Entries.{entry_for}, Names.{segment_in}, Made.{IsMade}}
use Rattle.oc_omf_write.specs.{Pieces.{FollowWithin, fixups_at}, Raws.{sections_in}, Tables.{fixups_of, public_by, contents_by, CanPut}}
use Rattle.oc_omf_write.specs.Written.{fixup_bytes_of, IsSmallFixup, fixup_with}
use Rattle.oc_omf_write.proofs.{PieceLemmas.{few_between, follow_from}, FixupLemmas.{has_index}}
use Rattle.oc_omf_write.proofs.PlannedLemmas.{names_same, section_is, between_fields, fixup_is, fixups_are, fixups_counted, fixups_there, method_is}
use Rattle.oc_omf_write.specs.Written as written

-- an entry that can be put, with the bytes of an output
abbrev pub IsPut : Object → WrittenTables → Output → Type 0
IsPut n t o = CanPut t (entry_for o) × (contents_by t (entry_for o) ≡ output_contents n o)

-- the numbers of a frame are small
frame_low : (row : ℕ) → (written.frame_by row).number < 8
frame_low row = by (nat_eq row 1)
  where
    by : (b : Bool) → (cond {A = Method} b (record { number = 5; index = 0 }) (record { number = 1; index = 1 })).number < 8
    by true = omega arith
    by false = omega arith

frame_index_low : (row : ℕ) → (written.frame_by row).index < 32768
frame_index_low row = by (nat_eq row 1)
  where
    by : (b : Bool) → (cond {A = Method} b (record { number = 5; index = 0 }) (record { number = 1; index = 1 })).index < 32768
    by true = omega arith
    by false = omega arith

module _ (n : Object) (is : IsForOmf n) (t : WrittenTables) (numbers : List ℕ) (made : IsMade n t numbers) where
  pub section_there : (k : ℕ) (s : Section) → slice_get n.sections k ≡ Some s → slice_get t.sections.items k ≡ Some (with_contents (raw_of n k s) s)
  section_there k s here = ap (λ xs. slice_get xs k) made.sections ∙ section_is n k s here

  segment_is : (k : ℕ) (s : Section) → slice_get n.sections k ≡ Some s → slice_get t.segments.items k ≡ Some (segment_of n s)
  segment_is k s here =
      ap (λ xs. slice_get xs k) made.segments
      ∙ member_map (segment_in (sections_in n)) (sections_in n) k (with_contents (raw_of n k s) s) (section_is n k s here)
      ∙ ap (λ (names : List (List ℕ)). Some (record (segment_of n s) { name = position_or_len (bytes_eq s.name) names + 1; class = position_or_len (bytes_eq (class_of s)) names + 1 })) (names_same n)

  symbol_there : (k : ℕ) (s : Symbol) → slice_get n.symbols k ≡ Some s → slice_get t.symbols.items k ≡ Some s
  symbol_there k s here = ap (λ xs. slice_get xs k) made.symbols ∙ here

  short_name : (k : ℕ) (s : Symbol) → slice_get n.symbols k ≡ Some s → is_local s.binding ≡ false → length s.name ≤ 255
  short_name k s here outer = (is.meets.symbols k s here).name outer

  put_segment : (k : ℕ) (s : Section) → slice_get n.sections k ≡ Some s → Fits n (output.Segment k s) → IsPut n t (output.Segment k s)
  unfolding output_contents
  put_segment k s here fits =
      let there = segment_is k s here in
      (record { item = segment_of n s; here = there; passes = record { name = fits.1; class = fits.2; overlay = omega arith } }, ap (λ o. option_map_or segment_bytes o []) there)

  put_data : (k : ℕ) (s : Section) (from to : ℕ) (front : List Output) → IsDataAt n front k s from to → Fits n (output.Data k s from to) → IsPut n t (output.Data k s from to)
  unfolding output_contents
  put_data k s from to front d fits =
      let there = section_there k s d.section in
      let some = d.some in
      let inside = d.inside in
      let near = d.whole.near in
      let long = length-raw n k s in (
        record { item = with_contents (raw_of n k s) s; here = there; passes = (fits.0, omega (arith, some), omega (arith, inside, long), near) },
        ap (λ o. option_map_or (λ (x : Section). data_bytes (k + 1) from (slice_range x.bytes from to)) o []) there,
      )

  -- the fixups of the section at a position
  pub fixups_here : (k : ℕ) (s : Section) → slice_get n.sections k ≡ Some s → fixups_at (fixups_of t) k ≡ written.fixups_of numbers n k
  fixups_here k s here = ap (λ fs. fixups_at fs k) made.fixups ∙ fixups_there n numbers k s here

  -- each is small
  small_fixup : (k from to : ℕ) (s : Section) → Fits n (output.Fixups k s from to) → (j : ℕ) (x : Field Reloc) → slice_get (fields_between n k from to) j ≡ Some x → IsSmallFixup from (fixup_with numbers n x)
  small_fixup k from to s fits j x here =
      let b = between n k from to j x here in
      let f = fits j x here in
      let has = has_index n is numbers made.numbered k x.at x.item (field_is n is k b.index x b.here) in
      let method = method_is n numbers made.numbered (written_reloc n x.item).target has in
      record {
        low = b.low;
        near = f.near;
        frame = frame_low (written.row_number x.item);
        target = target_low (written_reloc n x.item).target;
        frame_index = frame_index_low (written.row_number x.item);
        target_index = subst (λ m. m.index < 32768) (sym method) f.small;
      }
    where
      target_low : (a : Target) → (written.method_by numbers a).number < 4
      target_low (target.Section k) = omega arith
      target_low (target.Symbol k) = omega arith

  -- the fixups of a section stand in it in order
  follow_fields : (k size p : ℕ) (xs : List (Field Reloc)) → FollowFrom p xs → ((j : ℕ) (x : Field Reloc) → slice_get xs j ≡ Some x → (x.width ≡ 4) × (x.at + 4 ≤ size)) → FollowWithin p size (map (fixup_with numbers n) xs)
  follow_fields k size p [] f each = tt
  follow_fields k size p (x ∷ xs) f each =
      let own = each 0 x refl in
      let wide : end_of x ≡ x.at + 4 = ap (λ w. x.at + w) own.0 in
      (f.0, own.1, follow_fields k size (x.at + 4) xs (subst (λ q. FollowFrom q xs) wide f.2) (λ j y h. each (suc j) y h))

  pub fixups_follow : (k : ℕ) (s : Section) → slice_get n.sections k ≡ Some s → FollowWithin 0 (length s.bytes) (written.fixups_of numbers n k)
  fixups_follow k s here =
      follow_fields k (length s.bytes) 0 (list_of n.relocs k) (is.object.built.fields.apart k) (λ j x h.
      let there = field_is n is k j x h in
      (each_at IsWide (list_of n.relocs k) j x ((within n.format n is.object).wide k) h ∙ width_is n is k x.at x.item there, inside n is k x.at x.item there s here))

  put_fixups : (k : ℕ) (s : Section) (from to : ℕ) (front : List Output) → IsDataAt n front k s from to → Fits n (output.Fixups k s from to) → IsPut n t (output.Fixups k s from to)
  unfolding output_contents
  put_fixups k s from to front d fits =
      let some = d.some in
      let here = fixups_here k s d.section in
      let fields = fields_between n k from to in
      let same : written.between from to (fixups_at (fixups_of t) k) ≡ map (fixup_with numbers n) fields
      = ap (written.between from to) here ∙ between_fields n numbers k from to in
      let count = counted k s d.section in
      let near = d.whole.near in
      let few = few_between 0 from to (written.fixups_of numbers n k) (follow_from 0 (length s.bytes) (written.fixups_of numbers n k) (fixups_follow k s d.section)) near in (
        (
          count,
          omega (arith, some),
          subst (AllByRecursion (IsSmallFixup from)) (sym same) (each_map-all (IsSmallFixup from) (fixup_with numbers n) fields (small_fixup k from to s fits)),
          subst (λ xs. length (written.between from to xs) ≤ 256) (sym here) few,
        ),
        ap (flat_map (fixup_bytes_of from)) same
            ∙ fixups_are n numbers from fields (λ j x h.
            let b = between n k from to j x h in
            let f = fits j x h in
            fixup_is n numbers made.numbered from x f.row f.row_is (has_index n is numbers made.numbered k x.at x.item (field_is n is k b.index x b.here))),
      )
    where
      counted : (k : ℕ) (s : Section) → slice_get n.sections k ≡ Some s → k < length t.fixups.items
      counted k s here =
          let low = slice_get_within n.sections k s here in
          let long = ap length made.fixups in
          let mapped = length-map t.fixups.items (λ (v : Vec Fixup Global). v.items) in
          let all = fixups_counted n numbers in
          omega (arith, low, long, mapped, all)

      each_map-all : {X Y : Type 0} (P : Y → Type 0) (f : X → Y) (xs : List X) → ((j : ℕ) (x : X) → slice_get xs j ≡ Some x → P (f x)) → AllByRecursion P (map f xs)
      each_map-all P f [] each = tt
      each_map-all P f (x ∷ xs) each = (each 0 x refl, each_map-all P f xs (λ j y h. each (suc j) y h))

  -- of an output, but one of names
  pub is_put : (front : List Output) (o : Output) → Behind n front o → Fits n o → ((names : List (List ℕ)) → o ≡ output.Names names → ⊥) → IsPut n t o
  unfolding output_contents
  is_put front output.Header b fits other = (tt, refl)
  is_put front (output.Names names) b fits other = absurd (other names refl)
  is_put front (output.Segment k s) b fits other = put_segment k s (segment_there n is front k s b) fits
  is_put front output.Group b fits other = (tt, refl)
  is_put front (output.External k s) b fits other =
      let here = b.of_symbol.0 in
      let there = symbol_there k s here in
      (record { item = s; here = there; passes = short_name k s here (ap is_local b.of_symbol.1) }, ap (λ o. option_map_or (λ (x : Symbol). external_bytes x.name) o []) there)
  is_put front (output.Communal k s) b fits other =
      let here = b.of_symbol.0 in
      let there = symbol_there k s here in
      (record { item = s; here = there; passes = record { name = short_name k s here (ap is_local b.of_symbol.3); size = b.of_symbol.1; align = b.of_symbol.2; is = b.of_symbol.3; small = subst (λ y. size_by y < 2 ^ 32) b.of_symbol.3 fits } }, ap (λ o. option_map_or (λ (x : Symbol). communal_bytes x.name (size_by x.binding)) o []) there)
  is_put front (output.Public k s) b fits other =
      let here = b.of_symbol.0 in
      let there = symbol_there k s here in (
        record {
          item = s;
          here = there;
          passes = record { name = short_name k s here (ap is_local b.of_symbol.2); place = fits.0; is = fits.1; small = fits.2 };
        },
        ap (λ o. option_map_or public_by o []) there,
      )
  is_put front (output.Data k s from to) b fits other = put_data k s from to front b fits
  is_put front (output.Fixups k s from to) b fits other = put_fixups k s from to b.0 b.2 fits
  is_put front output.End b fits other = (tt, refl)

  -- each output of the object, but those of names
  pub each_put : (i : ℕ) (o : Output) → slice_get (outputs_of n) i ≡ Some o → ((names : List (List ℕ)) → o ≡ output.Names names → ⊥) → IsPut n t o
  each_put i o here other = is_put (take i (outputs_of n)) o (behind n is i o here) (all_small n is i o here).fits other
