-- Each entry of the canonical file can be written: its numbers fit, and it is short.
use Rattle.std.proofs.Common.{◌≡◌, ℕ, suc, ◌+◌, ◌-◌, ◌*◌, ◌/◌, ◌%◌, ◌^◌, ◌<◌, ◌≤◌, Bool, true, false, ◌&&◌, nat_lt, nat_le, if◌then◌else◌, List, [], ◌∷◌, ◌++◌, length, take, filter, Some, refl, ◌∙◌, ap, subst, arith, length-append}
use Rattle.std.specs.{Prelude.{flat_map, slice_get, slice_range, max}, Option.{option_map_or}}
use Rattle.std.proofs.lemmas.{Bool.Decides.{nat_tests}, Option.{slice_get_within}}
use Rattle.oc_base.specs.Numbers.{bytes_of_number}
use Rattle.oc_base.proofs.NumberLaws.{length-bytes_of_number}
use Rattle.oc_linking.specs.{declared.terms.Value.{Value}, declared.terms.Binding.TheVariants.{Global}, Parts.{is_local}}
use Rattle.oc_linking.specs.declared.terms.Value.TheVariants as value
use Rattle.oc_chains.specs.{Fields.{FollowFrom, end_of}, declared.field.Field.{Field}, Lists.{list_of}}
use Rattle.oc_neutral.specs.{declared.section.Section.{Section}, declared.symbol.Symbol.{Symbol}, declared.reloc.Reloc.{Reloc}, Building.{is_zero}}
use Rattle.oc_neutral.specs.{Invariants.{IsBinding, HasItsBytes}, KeySymbols.{global_place}, Objects.{Object, reloc_at}, Omf.Relocs.{ByTarget, fixup_row}}
use Rattle.oc_neutral.proofs.Positions.{each_at}
use Rattle.oc_linking.proofs.Overlay.{length-overlay}
use Rattle.oc_omf.specs.Bytes.{frame_bytes, index_bytes, name_bytes, length_bytes}
use Rattle.oc_omf_file.specs.{Names.{class_of, name_index}, Pieces.{fields_between}, Outputs.{Output, outputs_of}}
use Rattle.oc_omf_file.specs.Fixups.{raw_of, field_patches, field_fixup, fixup_by, written_reloc, target_method, is_row}
use Rattle.oc_omf_file.specs.Canonical.{size_by, public_at, output_contents}
use Rattle.oc_omf_file.specs.Outputs as output
use Rattle.oc_omf_file.proofs.{MadeLaw.{IsSmall}, NameLaws.{name_within, section_named, section_classed, length-names}, PieceLaws.{length-window}}
use Rattle.oc_omf_file.proofs.{BehindLaws.{IsDataAt, IsSegmentAt, Behind}, OutputLaws.{each_behind}}
use Rattle.oc_omf_file.proofs.{CodedLaws.{IsForOmf, few_names, short_names, size_low, field_is, framed, row_is, fields_apart}, AimLaws.{symbol_is, index_low}}
use Rattle.oc_shelf.proofs.WritingLaws.MemberLemmas.{of_filter}

-- ... sizes

pub length-index : (k : ℕ) → length (index_bytes k) ≤ 2
length-index k = by (nat_lt k 128)
  where
    by : (b : Bool) → length (if b then k ∷ [] else (128 + k / 256) ∷ (k % 256) ∷ []) ≤ 2
    by b = grind arith

length-length : (size : ℕ) → length (length_bytes size) ≤ 5
unfolding length_bytes
length-length size = by (nat_le size 0x80) (nat_lt size (2 ^ 16)) (nat_lt size (2 ^ 24))
  where
    by : (a b c : Bool) → length (if a then size ∷ [] else if b then 0x81 ∷ bytes_of_number 2 size else if c then 0x84 ∷ bytes_of_number 3 size else 0x88 ∷ bytes_of_number 4 size) ≤ 5
    by a b c = grind (arith, length-bytes_of_number)

pub length-raw : (n : Object) (k : ℕ) (s : Section) → length (raw_of n k s) ≡ length s.bytes
unfolding raw_of
length-raw n k s = length-overlay (field_patches n k) 0 s.bytes

-- a field of a piece
pub record IsBetween (n : Object) (k from to : ℕ) (x : Field Reloc) : Type 0 where
  pub index : ℕ
  pub here : slice_get (list_of n.relocs k) index ≡ Some x
  pub low : from ≤ x.at
  pub high : x.at < to

pub between : (n : Object) (k from to j : ℕ) (x : Field Reloc) → slice_get (fields_between n k from to) j ≡ Some x → IsBetween n k from to x
between n k from to j x h =
    let m = of_filter (λ (y : Field Reloc). nat_le from y.at && nat_lt y.at to) (list_of n.relocs k) j x h in
    let t : (nat_le from x.at && nat_lt x.at to) ≡ true = m.2 in
    record { index = m.0; here = m.1; low = grind (arith, nat_tests); high = grind (arith, nat_tests) }

-- fields between two places are no more than the bytes between them
few_between : (from to p : ℕ) (xs : List (Field Reloc)) → FollowFrom p xs → length (filter (λ (x : Field Reloc). nat_le from x.at && nat_lt x.at to) xs) + max from p ≤ max to (max from p)
few_between from to p [] f = omega arith
few_between from to p (x ∷ xs) f = by (nat_le from x.at && nat_lt x.at to) refl (few_between from to (end_of x) xs f.2)
  where
    by : (b : Bool) → (nat_le from x.at && nat_lt x.at to) ≡ b → length (filter (λ (y : Field Reloc). nat_le from y.at && nat_lt y.at to) xs) + max from (end_of x) ≤ max to (max from (end_of x))
        → length (if b then x ∷ filter (λ (y : Field Reloc). nat_le from y.at && nat_lt y.at to) xs else filter (λ (y : Field Reloc). nat_le from y.at && nat_lt y.at to) xs) + max from p ≤ max to (max from p)
    by true e rest =
        let low : from ≤ x.at = grind (arith, nat_tests) in
        let high : x.at < to = grind (arith, nat_tests) in
        omega (arith, f.0, f.1, rest, low, high)
    by false e rest = omega (arith, f.0, f.1, rest)

module _ (n : Object) (is : IsForOmf n) where
  length-fixup : (k from : ℕ) (x : Field Reloc) → reloc_at n k x.at ≡ Some x.item → length (field_fixup n from x) ≤ 7
  length-fixup k from x there =
      let m = target_method n (written_reloc n x.item).target in
      let row = fixup_row (framed n is k x.at x.item there) in
      let e : field_fixup n from x ≡ fixup_by n (x.at - from) x.item row = ap (λ o. option_map_or (fixup_by n (x.at - from) x.item) o []) (row_is n is k x.at x.item there) in
      omega (arith, ap length e, by (is_row ByTarget row) m.index)
    where
      by : (b : Bool) (i : ℕ) → length (frame_bytes (if b then record { number = 5; index = 0 } else record { number = 1; index = 1 }) ++ index_bytes i) ≤ 4
      by b i = grind arith

  length-fixups : (k from : ℕ) (xs : List (Field Reloc)) → ((j : ℕ) (x : Field Reloc) → slice_get xs j ≡ Some x → reloc_at n k x.at ≡ Some x.item)
      → length (flat_map (field_fixup n from) xs) ≤ 7 * length xs
  length-fixups k from [] there = omega arith
  length-fixups k from (x ∷ xs) there =
      omega (arith, length-append (field_fixup n from x) (flat_map (field_fixup n from) xs), length-fixup k from x (there 0 x refl), length-fixups k from xs (λ j y h. there (suc j) y h))

  indexed_low : (k : ℕ) (s : Section) → slice_get n.sections k ≡ Some s → (name_index n s.name < 32768) × (name_index n (class_of s) < 32768)
  indexed_low k s here =
      let few = few_names n is in
      let a = name_within n s.name (section_named n k s here) in
      let b = name_within n (class_of s) (section_classed n k s here) in
      (omega (arith, few, a), omega (arith, few, b))

  name_low : (k : ℕ) (s : Symbol) → slice_get n.symbols k ≡ Some s → is_local s.binding ≡ false → length s.name ≤ 255
  name_low k s here outer = (is.meets.symbols k s here).name outer

  pub segment_there : (front : List Output) (k : ℕ) (s : Section) → IsSegmentAt n front k s → slice_get n.sections k ≡ Some s
  segment_there front k s a = ap (λ xs. slice_get xs k) a.sections ∙ ap (slice_get (a.done ++ s ∷ a.rest)) a.position ∙ at a.done
    where
      at : (xs : List Section) → slice_get (xs ++ s ∷ a.rest) (length xs) ≡ Some s
      at [] = refl
      at (x ∷ xs) = at xs

  small_public : (k : ℕ) (s : Symbol) (v : Value) → slice_get n.symbols k ≡ Some s → s.binding ≡ Global v → IsSmall n (output.Public k s)
  unfolding output_contents
  small_public k s (value.Absolute x) here e = absurd ((is.meets.symbols k s here).placed x e)
  small_public k s (value.Place a offset) here e =
      let held = subst (IsBinding n) e (symbol_is n is k s here).binding in
      let low = slice_get_within n.sections a held.0 held.1 in
      let few = is.meets.few in
      let size = size_low n is a held.0 held.1 in
      let within : offset ≤ held.0.size = held.2 in
      let place : global_place s.binding ≡ Some (a, offset) = ap global_place e in
      let name = name_low k s here (ap is_local e) in
      let contents : output_contents n (output.Public k s) ≡ public_at s.name (a, offset) = ap (λ o. option_map_or (public_at s.name) o []) place in
      let long = length-append (index_bytes 1) (index_bytes (a + 1) ++ (name_bytes s.name ++ (bytes_of_number 4 offset ++ 0 ∷ []))) in
      let long2 = length-append (index_bytes (a + 1)) (name_bytes s.name ++ (bytes_of_number 4 offset ++ 0 ∷ [])) in
      let long3 = length-append (name_bytes s.name) (bytes_of_number 4 offset ++ 0 ∷ []) in
      let long4 = length-append (bytes_of_number 4 offset) (0 ∷ []) in
      record {
        fits = ((a, offset), place, omega (arith, low, few), omega (arith, within, size));
        small = omega (arith, ap length contents, long, long2, long3, long4, length-index 1, length-index (a + 1), length-bytes_of_number 4 offset, name);
      }

  small_segment : (k : ℕ) (s : Section) → slice_get n.sections k ≡ Some s → IsSmall n (output.Segment k s)
  unfolding output_contents
  small_segment k s here =
      let low = size_low n is k s here in
      let i = indexed_low k s here in
      let x : List ℕ = index_bytes (name_index n s.name) in
      let y : List ℕ = index_bytes (name_index n (class_of s)) in
      let long = length-append (bytes_of_number 4 s.size) (x ++ (y ++ index_bytes 1)) in
      let long2 = length-append x (y ++ index_bytes 1) in
      let long3 = length-append y (index_bytes 1) in
      record {
        fits = (omega (arith, low), i.0, i.1);
        small = omega (arith, long, long2, long3, length-bytes_of_number 4 s.size, length-index (name_index n s.name), length-index (name_index n (class_of s)), length-index 1);
      }

  small_data : (front : List Output) (k : ℕ) (s : Section) (from to : ℕ) → IsDataAt n front k s from to → IsSmall n (output.Data k s from to)
  unfolding output_contents
  small_data front k s from to d =
      let low = slice_get_within n.sections k s d.section in
      let few = is.meets.few in
      let w : List ℕ = slice_range (raw_of n k s) from to in
      let some = d.some in
      let inside = d.inside in
      let near = d.whole.near in
      let raw = length-raw n k s in
      let window = length-window from to (raw_of n k s) (omega (arith, some)) (omega (arith, inside, raw)) in
      let size = has_bytes k s d.section in
      let long = length-append (index_bytes (k + 1)) (bytes_of_number 4 from ++ w) in
      let long2 = length-append (bytes_of_number 4 from) w in
      record {
        fits = (omega (arith, low, few), omega (arith, some, inside, size));
        small = omega (arith, long, long2, length-bytes_of_number 4 from, window, near, length-index (k + 1));
      }
    where
      has_bytes : (k : ℕ) (s : Section) → slice_get n.sections k ≡ Some s → length s.bytes ≤ 2147483647
      has_bytes k s here = by (is_zero s.kind) (each_at HasItsBytes n.sections k s is.object.built.bytes here) (size_low n is k s here)
        where
          by : (b : Bool) → length s.bytes ≡ (if b then 0 else s.size) → s.size ≤ 2147483647 → length s.bytes ≤ 2147483647
          by b e low = grind arith

  small_fixups : (front : List Output) (k : ℕ) (s : Section) (from to : ℕ) → IsDataAt n front k s from to → IsSmall n (output.Fixups k s from to)
  unfolding output_contents
  small_fixups front k s from to d =
      let near = d.whole.near in
      let there : (j : ℕ) (x : Field Reloc) → slice_get (fields_between n k from to) j ≡ Some x → reloc_at n k x.at ≡ Some x.item
      = λ j x h. let b = between n k from to j x h in field_is n is k b.index x b.here in
      let few = few_between from to 0 (list_of n.relocs k) (is.object.built.fields.apart k) in
      let some = d.some in
      let long = length-fixups k from (fields_between n k from to) there in
      record {
        fits = λ j x h.
            let b = between n k from to j x h in
            let low = b.low in
            let high = b.high in
            record {
              row = fixup_row (framed n is k x.at x.item (there j x h));
              row_is = row_is n is k x.at x.item (there j x h);
              near = omega (arith, low, high, near);
              small = index_low n is k x.at x.item (there j x h);
            };
        small = omega (arith, long, few, near, some);
      }

  -- each output can be written
  pub small_behind : (front : List Output) (o : Output) → Behind n front o → IsSmall n o
  unfolding output_contents
  small_behind front output.Header b = record { fits = tt; small = omega arith }
  small_behind front (output.Names names) b = record { fits = tt; small = omega (arith, length-names names, b) }
  small_behind front (output.Segment k s) b = small_segment k s (segment_there front k s b)
  small_behind front output.Group b = record { fits = tt; small = omega arith }
  small_behind front (output.External k s) b =
      let name = name_low k s b.of_symbol.0 (ap is_local b.of_symbol.1) in
      record { fits = tt; small = omega (arith, name, length-append (name_bytes s.name) (0 ∷ [])) }
  small_behind front (output.Communal k s) b =
      let e = b.of_symbol.3 in
      let name = name_low k s b.of_symbol.0 (ap is_local e) in
      let common = (is.meets.symbols k s b.of_symbol.0).common b.of_symbol.1 b.of_symbol.2 e in
      let size : size_by s.binding ≡ b.of_symbol.1 = ap size_by e in
      let small = common.small in
      record {
        fits = omega (arith, size, small);
        small = omega (arith, name, length-append (name_bytes s.name) (0 ∷ 0x62 ∷ length_bytes (size_by s.binding)), length-length (size_by s.binding));
      }
  small_behind front (output.Public k s) b = small_public k s b.of_symbol.1 b.of_symbol.0 b.of_symbol.2
  small_behind front (output.Data k s from to) b = small_data front k s from to b
  small_behind front (output.Fixups k s from to) b = small_fixups b.0 k s from to b.2
  small_behind front output.End b = record { fits = tt; small = omega arith }

  -- what stands before each output
  pub behind : (i : ℕ) (o : Output) → slice_get (outputs_of n) i ≡ Some o → Behind n (take i (outputs_of n)) o
  behind = each_behind n (short_names n is) (fields_apart n is)

  pub all_small : (j : ℕ) (o : Output) → slice_get (outputs_of n) j ≡ Some o → IsSmall n o
  all_small j o h = small_behind (take j (outputs_of n)) o (behind j o h)
