-- A plan of an object is its canonical file.
use Rattle.std.proofs.Common.{◌≡◌, ℕ, zero, suc, ◌+◌, ◌≤◌, Bool, true, false, true≢false, cond, nat_eq, List, [], ◌∷◌, ◌++◌, length, map, Some, refl, sym, ◌∙◌, ap, subst, arith}
use Rattle.std.specs.{Prelude.{slice_get, flat_map}, List.{AllByRecursion, enumerate_from, range_with_len}}
use Rattle.std.proofs.lemmas.{List.{length-map}, List.FromFn.{length-enumerate_from}, Option.{none-some, same_Some}}
use Rattle.oc_neutral.specs.{declared.section.Section.{Section}, Objects.{Object}}
use Rattle.oc_shelf.proofs.WritingLaws.MemberLemmas.{member_second, each_append, each_flat_map, each_map}
use Rattle.oc_omf_file.specs.{Canonical.{output_type, output_contents, output_bytes}, Names.{names_of, names_size, filled_from}}
use Rattle.oc_omf_file.specs.{Outputs.{Output, outputs_of, piece_outputs, data_outputs, segment_output, symbol_outputs}, Pieces.{fields_between, pieces_of}}
use Rattle.oc_omf_file.proofs.{BehindLaws.{OfSymbol, symbols_are}, CodedLaws.{IsForOmf, short_names}, ListLemmas.{all_both}, NameLaws.{filled_small}}
use Rattle.oc_omf_file.specs.Outputs as output
use Rattle.oc_omf.specs.Bytes.{entry_bytes}
use Rattle.oc_omf_write.specs.{declared.entries.Entry.{Entry}, declared.tables.WrittenTables.{WrittenTables}, Entries.{type_of, entry_for}, Made.{IsMade}}
use Rattle.oc_omf_write.specs.{Names.{names_entry, texts_in, IsRange}, Pieces.{data_entries}, Plans.{AreEntries, parts_by, omf_parts}, Raws.{addend_in}}
use Rattle.oc_omf_write.specs.{Written.{fixups_in}, Tables.{texts_of, fixups_of, bytes_by, CanPut}}
use Rattle.oc_omf_write.specs.declared.entries.Entry.TheVariants as entry
use Rattle.oc_plans.specs.Numbered.{section_with_numbers}
use Rattle.oc_omf_write.proofs.{EntryLemmas.{IsPut, each_put}, PlannedLemmas.{data_are}}
use Rattle.oc_plans.proofs.Turns.{map_append}

-- ... outputs behind the names

-- the outputs behind those of names
abbrev pub rest_of : Object → List Output
rest_of n = map segment_output (enumerate_from 0 n.sections)
    ++ (output.Group ∷ symbol_outputs n
    ++ (flat_map (data_outputs n) (enumerate_from 0 n.sections)
    ++ output.End ∷ []))

outputs_are : (n : Object) → outputs_of n ≡ (output.Header ∷ map output.Names (filled_from [] (names_of n))) ++ rest_of n
unfolding outputs_of
outputs_are n = refl

-- the entries of the segments
segments_are : (k : ℕ) (ss : List Section) → map entry_for (map segment_output (enumerate_from k ss)) ≡ map entry.Segment (range_with_len k (length ss))
segments_are k [] = refl
segments_are k (s ∷ ss) = ap (λ es. entry.Segment k ∷ es) (segments_are (k + 1) ss)

-- the entries behind those of names
rest_are : (n : Object) (numbers : List ℕ) (t : WrittenTables) (symbols : List Entry) → IsMade n t numbers → symbols ≡ map entry_for (symbol_outputs n) → length t.sections.items ≡ length n.sections
    → (bytes : List Entry) → bytes ≡ map entry_for (flat_map (data_outputs n) (enumerate_from 0 n.sections))
    → map entry.Segment (range_with_len 0 (length t.sections.items)) ++ (entry.Group ∷ symbols ++ (bytes ++ entry.End ∷ [])) ≡ map entry_for (rest_of n)
rest_are n numbers t symbols made of long bytes is =
    ap (λ m. map entry.Segment (range_with_len 0 m) ++ (entry.Group ∷ symbols ++ (bytes ++ entry.End ∷ []))) long
    ∙ ap (λ es. es ++ (entry.Group ∷ symbols ++ (bytes ++ entry.End ∷ []))) (sym (segments_are 0 n.sections))
    ∙ ap (λ es. map entry_for segments ++ (entry.Group ∷ es ++ (bytes ++ entry.End ∷ []))) of
    ∙ ap (λ es. map entry_for segments ++ (entry.Group ∷ map entry_for (symbol_outputs n) ++ (es ++ entry.End ∷ []))) is
    ∙ ap (λ es. map entry_for segments ++ (entry.Group ∷ map entry_for (symbol_outputs n) ++ es)) (sym (map_append entry_for pieces (output.End ∷ [])))
    ∙ ap (λ es. map entry_for segments ++ (entry.Group ∷ es)) (sym (map_append entry_for (symbol_outputs n) (pieces ++ output.End ∷ [])))
    ∙ sym (map_append entry_for segments (output.Group ∷ symbol_outputs n ++ (pieces ++ output.End ∷ [])))
  where
    segments : List Output
    segments = map segment_output (enumerate_from 0 n.sections)

    pieces : List Output
    pieces = flat_map (data_outputs n) (enumerate_from 0 n.sections)

-- ... none of these is of names

abbrev is_names : Output → Bool
is_names output.Header = false
is_names (output.Names names) = true
is_names (output.Segment k s) = false
is_names output.Group = false
is_names (output.External k s) = false
is_names (output.Communal k s) = false
is_names (output.Public k s) = false
is_names (output.Data k s from to) = false
is_names (output.Fixups k s from to) = false
is_names output.End = false

abbrev NoNames : Output → Type 0
NoNames o = is_names o ≡ false

of_symbol : (n : Object) (o : Output) → OfSymbol n o → NoNames o
of_symbol n output.Header of = absurd of
of_symbol n (output.Names names) of = absurd of
of_symbol n (output.Segment k s) of = absurd of
of_symbol n output.Group of = absurd of
of_symbol n (output.External k s) of = refl
of_symbol n (output.Communal k s) of = refl
of_symbol n (output.Public k s) of = refl
of_symbol n (output.Data k s from to) of = absurd of
of_symbol n (output.Fixups k s from to) of = absurd of
of_symbol n output.End of = absurd of

of_piece : (n : Object) (k : ℕ) (s : Section) (x : ℕ × ℕ) (j : ℕ) (o : Output) → slice_get (piece_outputs n k s x) j ≡ Some o → NoNames o
of_piece n k s x zero o h = subst NoNames (same_Some (output.Data k s x.0 x.1) o h) refl
of_piece n k s x (suc j) o h = by (nat_eq (length (fields_between n k x.0 x.1)) 0) j h
  where
    by : (b : Bool) (j : ℕ) → slice_get (cond b [] (output.Fixups k s x.0 x.1 ∷ [])) j ≡ Some o → NoNames o
    by true j h = absurd (none-some o h)
    by false zero h = subst NoNames (same_Some (output.Fixups k s x.0 x.1) o h) refl
    by false (suc j) h = absurd (none-some o h)

of_one : (o : Output) → NoNames o → (k : ℕ) (p : Output) → slice_get (o ∷ []) k ≡ Some p → NoNames p
of_one o other zero p h = subst NoNames (same_Some o p h) other
of_one o other (suc k) p h = absurd (none-some p h)

none_of_names : (n : Object) (k : ℕ) (o : Output) → slice_get (rest_of n) k ≡ Some o → NoNames o
none_of_names n =
    each_append NoNames (map segment_output (enumerate_from 0 n.sections)) _ (each_map NoNames segment_output (enumerate_from 0 n.sections) (λ j x h. refl))
    (each_append NoNames (output.Group ∷ []) _ (of_one output.Group refl)
    (each_append NoNames (symbol_outputs n) _ (λ i o h. of_symbol n o (symbols_are n i o h))
    (each_append NoNames (flat_map (data_outputs n) (enumerate_from 0 n.sections)) (output.End ∷ [])
    (each_flat_map NoNames (data_outputs n) (enumerate_from 0 n.sections) (λ j x h. each_flat_map NoNames (piece_outputs n x.0 x.1) (pieces_of n x.0 x.1) (λ i y g. of_piece n x.0 x.1 y)))
    (of_one output.End refl))))

-- ... entries of names

names_bytes : (n : Object) (t : WrittenTables) (ranges : List (ℕ × ℕ)) → map (bytes_by t) (map names_entry ranges) ≡ map (output_bytes n) (map output.Names (map (texts_in (texts_of t)) ranges))
unfolding output_contents
names_bytes n t [] = refl
names_bytes n t (x ∷ ranges) = ap (λ bs. bytes_by t (names_entry x) ∷ bs) (names_bytes n t ranges)

names_put : (t : WrittenTables) (ranges : List (ℕ × ℕ)) → AllByRecursion (IsRange (length (texts_of t))) ranges
    → ((k : ℕ) (xs : List (List ℕ)) → slice_get (map (texts_in (texts_of t)) ranges) k ≡ Some xs → names_size xs ≤ 1024) → AllByRecursion (CanPut t) (map names_entry ranges)
names_put t [] inside small = tt
names_put t (x ∷ ranges) inside small = ((inside.0, small 0 (texts_in (texts_of t) x) refl), names_put t ranges inside.1 (λ k xs h. small (suc k) xs h))

-- ... other entries

rest_bytes : (n : Object) (t : WrittenTables) (os : List Output) → ((k : ℕ) (o : Output) → slice_get os k ≡ Some o → IsPut n t o × NoNames o) → map (bytes_by t) (map entry_for os) ≡ map (output_bytes n) os
rest_bytes n t [] each = refl
rest_bytes n t (o ∷ os) each =
    let own = each 0 o refl in
    ap (λ b. b ∷ map (bytes_by t) (map entry_for os)) (ap (entry_bytes (type_of (entry_for o))) own.0.1 ∙ ap (λ type. entry_bytes type (output_contents n o)) (type_is o))
    ∙ ap (λ bs. output_bytes n o ∷ bs) (rest_bytes n t os (λ k p h. each (suc k) p h))
  where
    type_is : (o : Output) → type_of (entry_for o) ≡ output_type o
    type_is output.Header = refl
    type_is (output.Names names) = refl
    type_is (output.Segment k s) = refl
    type_is output.Group = refl
    type_is (output.External k s) = refl
    type_is (output.Communal k s) = refl
    type_is (output.Public k s) = refl
    type_is (output.Data k s from to) = refl
    type_is (output.Fixups k s from to) = refl
    type_is output.End = refl

rest_put : (n : Object) (t : WrittenTables) (os : List Output) → ((k : ℕ) (o : Output) → slice_get os k ≡ Some o → IsPut n t o × NoNames o) → AllByRecursion (CanPut t) (map entry_for os)
rest_put n t [] each = tt
rest_put n t (o ∷ os) each = ((each 0 o refl).0.0, rest_put n t os (λ k p h. each (suc k) p h))

-- ... all

-- the header is the same
header_same : (n : Object) (t : WrittenTables)
    → (bytes_by t entry.Header ∷ map (output_bytes n) (map output.Names (filled_from [] (names_of n)) ++ rest_of n)) ≡ map (output_bytes n) ((output.Header ∷ map output.Names (filled_from [] (names_of n))) ++ rest_of n)
unfolding output_contents
header_same n t = refl

module _ (n : Object) (is : IsForOmf n) (t : WrittenTables) (numbers : List ℕ) (made : IsMade n t numbers) (symbols entries : List Entry) (of : symbols ≡ map entry_for (symbol_outputs n)) (are : AreEntries t symbols entries) where
  -- how many sections there are
  counted : length t.sections.items ≡ length n.sections
  counted = ap length made.sections ∙ length-map (enumerate_from 0 n.sections) (section_with_numbers (addend_in n) n.relocs) ∙ length-enumerate_from 0 n.sections

  data_is : data_entries (fixups_of t) t.sections.items ≡ map entry_for (flat_map (data_outputs n) (enumerate_from 0 n.sections))
  data_is = ap (λ fs. data_entries fs t.sections.items) made.fixups ∙ ap (data_entries (fixups_in numbers n)) made.sections ∙ data_are n numbers

  each_rest : (k : ℕ) (o : Output) → slice_get (rest_of n) k ≡ Some o → IsPut n t o × NoNames o
  each_rest k o h =
      let front : List Output = output.Header ∷ map output.Names (filled_from [] (names_of n)) in
      let other = none_of_names n k o h in
      let here : slice_get (outputs_of n) (length front + k) ≡ Some o = ap (λ os. slice_get os (length front + k)) (outputs_are n) ∙ member_second front (rest_of n) k o h in
      (each_put n is t numbers made (length front + k) o here (λ names e. true≢false (sym (ap is_names e) ∙ other)), other)

  entries_are : entries ≡ entry.Header ∷ map names_entry are.ranges ++ map entry_for (rest_of n)
  entries_are = are.are ∙ ap (λ es. entry.Header ∷ map names_entry are.ranges ++ es) (rest_are n numbers t symbols made of counted (data_entries (fixups_of t) t.sections.items) data_is)

  filled_is : map (texts_in (texts_of t)) are.ranges ≡ filled_from [] (names_of n)
  filled_is = are.filled ∙ ap (filled_from []) made.texts

  -- all entries can be put
  pub entries_put : AllByRecursion (CanPut t) entries
  entries_put =
      subst (AllByRecursion (CanPut t)) (sym entries_are) (
        tt,
        all_both (CanPut t) (map names_entry are.ranges) (map entry_for (rest_of n))
            (names_put t are.ranges are.inside (λ k xs h. filled_small [] (names_of n) (omega arith) (short_names n is) k xs (ap (λ ys. slice_get ys k) (sym filled_is) ∙ h)))
            (rest_put n t (rest_of n) each_rest),
      )

  -- and are the canonical file
  pub entries_same : parts_by t entries ≡ omf_parts n
  entries_same =
      ap (map (bytes_by t)) entries_are
      ∙ ap (λ bs. bytes_by t entry.Header ∷ bs) (
      map_append (bytes_by t) (map names_entry are.ranges) (map entry_for (rest_of n))
      ∙ ap (λ bs. bs ++ map (bytes_by t) (map entry_for (rest_of n))) (names_bytes n t are.ranges ∙ ap (λ xs. map (output_bytes n) (map output.Names xs)) filled_is)
      ∙ ap (λ bs. map (output_bytes n) (map output.Names (filled_from [] (names_of n))) ++ bs) (rest_bytes n t (rest_of n) each_rest)
      ∙ sym (map_append (output_bytes n) (map output.Names (filled_from [] (names_of n))) (rest_of n)))
      ∙ header_same n t
      ∙ ap (map (output_bytes n)) (sym (outputs_are n))
