-- The entries of the canonical file, in their order: what stands before each, and what all define.
use Rattle.std.proofs.Common.{◌≡◌, ℕ, zero, suc, ◌+◌, Bool, List, [], ◌∷◌, ◌++◌, length, map, take, Some, refl, sym, ◌∙◌, ap, subst, arith, append_assoc}
use Rattle.std.specs.{Prelude.{flat_map, slice_get, nat_eq, if◌then◌else◌}, List.{enumerate_from}}
use Rattle.std.proofs.lemmas.{Grind.{flat_map-append}, Option.{none-some, same_Some}}
use Rattle.oc_neutral.specs.{declared.section.Section.{Section}, Objects.{Object}}
use Rattle.oc_shelf.proofs.WritingLaws.MemberLemmas.{each_append, each_flat_map, each_map}
use Rattle.oc_omf_file.specs.{Names.{names_of, filled_from}, Pieces.{pieces_of, fields_between}}
use Rattle.oc_omf_file.specs.{Outputs.{Output, symbol_outputs, piece_outputs, data_outputs, segment_output, outputs_of}, Canonical.{segment_of}}
use Rattle.oc_omf_file.specs.Outputs as output
use Rattle.oc_omf_file.proofs.GivenLaws.{names_by, segments_by, groups_by, publics_by, externals_by, pieces_by, mentions_by, given}
use Rattle.oc_omf_file.proofs.NameLaws.{filled_names, filled_small, IsShort}
use Rattle.oc_omf_file.proofs.BehindLaws.{AllBehind, all_append, behind_at, flat, Defines, all_segments, IsReady, OfSymbol, EndsBy, made_tables, Behind, more, still, symbols_are, symbol_silent, symbol_ends, names_walk, segments_walk, symbols_walk, HasApart, sections_walk}

module _ (n : Object) (short : (k : ℕ) (name : List ℕ) → slice_get (names_of n) k ≡ Some name → IsShort name) (apart : (j : ℕ) (s : Section) → slice_get n.sections j ≡ Some s → HasApart n j s) where
  -- the outputs up to the names, the segments, the group, the symbols, and the data
  abbrev fore : List Output
  fore = output.Header ∷ map output.Names (filled_from [] (names_of n))

  abbrev segmented : List Output
  segmented = fore ++ map segment_output (enumerate_from 0 n.sections)

  abbrev grouped : List Output
  grouped = segmented ++ output.Group ∷ []

  abbrev named : List Output
  named = grouped ++ symbol_outputs n

  abbrev filled : List Output
  filled = named ++ flat_map (data_outputs n) (enumerate_from 0 n.sections)

  outputs_cut : outputs_of n ≡ filled ++ output.End ∷ []
  unfolding outputs_of
  outputs_cut = simp append_assoc

  none_of_names : {X : Type 0} (g : Output → List X) → ((names : List (List ℕ)) → g (output.Names names) ≡ []) → (xs : List (List (List ℕ))) → flat_map g (map output.Names xs) ≡ []
  none_of_names g none [] = refl
  none_of_names g none (x ∷ xs) = rw (none x) (none_of_names g none xs)

  none_of_segments : {X : Type 0} (g : Output → List X) → ((k : ℕ) (s : Section) → g (output.Segment k s) ≡ []) → (xs : List (ℕ × Section)) → flat_map g (map segment_output xs) ≡ []
  none_of_segments g none [] = refl
  none_of_segments g none (x ∷ xs) = rw (none x.0 x.1) (none_of_segments g none xs)

  segments_of_sections : (at : ℕ) (ss : List Section) → flat_map (segments_by n) (map segment_output (enumerate_from at ss)) ≡ map (segment_of n) ss
  segments_of_sections at [] = refl
  segments_of_sections at (s ∷ ss) = ap (λ xs. segment_of n s ∷ xs) (segments_of_sections (at + 1) ss)

  fore_defines : Defines n fore [] [] [] []
  fore_defines = record {
    names = filled_names [] (names_of n);
    segments_are = none_of_names (segments_by n) (λ names. refl) (filled_from [] (names_of n));
    groups_are = none_of_names groups_by (λ names. refl) (filled_from [] (names_of n));
    publics_are = none_of_names publics_by (λ names. refl) (filled_from [] (names_of n));
    externals_are = none_of_names externals_by (λ names. refl) (filled_from [] (names_of n));
  }

  segmented_defines : Defines n segmented (all_segments n) [] [] []
  segmented_defines = record {
    names = still names_by fore _ (none_of_segments names_by (λ k s. refl) (enumerate_from 0 n.sections)) ∙ fore_defines.names;
    segments_are = flat_map-append (segments_by n) fore _ ∙ ap (λ ys. ys ++ flat_map (segments_by n) (map segment_output (enumerate_from 0 n.sections))) fore_defines.segments_are ∙ segments_of_sections 0 n.sections;
    groups_are = still groups_by fore _ (none_of_segments groups_by (λ k s. refl) (enumerate_from 0 n.sections)) ∙ fore_defines.groups_are;
    publics_are = still publics_by fore _ (none_of_segments publics_by (λ k s. refl) (enumerate_from 0 n.sections)) ∙ fore_defines.publics_are;
    externals_are = still externals_by fore _ (none_of_segments externals_by (λ k s. refl) (enumerate_from 0 n.sections)) ∙ fore_defines.externals_are;
  }

  grouped_defines : Defines n grouped (all_segments n) flat [] []
  grouped_defines = record {
    names = still names_by segmented (output.Group ∷ []) refl ∙ segmented_defines.names;
    segments_are = still (segments_by n) segmented (output.Group ∷ []) refl ∙ segmented_defines.segments_are;
    groups_are = more groups_by segmented output.Group ∙ ap (λ ys. ys ++ flat) segmented_defines.groups_are;
    publics_are = still publics_by segmented (output.Group ∷ []) refl ∙ segmented_defines.publics_are;
    externals_are = still externals_by segmented (output.Group ∷ []) refl ∙ segmented_defines.externals_are;
  }

  -- the outputs of symbols give nothing else
  none_of_symbols : {X : Type 0} (g : Output → List X) (os : List Output) → ((i : ℕ) (o : Output) → slice_get os i ≡ Some o → g o ≡ []) → flat_map g os ≡ []
  none_of_symbols g [] none = refl
  none_of_symbols g (o ∷ os) none = ap (λ ys. ys ++ flat_map g os) (none 0 o refl) ∙ none_of_symbols g os (λ i p h. none (suc i) p h)

  named_ready : IsReady n named
  named_ready = record {
    names = still names_by grouped _ (none_of_symbols names_by (symbol_outputs n) (λ i o h. (symbol_silent n o (symbols_are n i o h)).0)) ∙ grouped_defines.names;
    segments_are = still (segments_by n) grouped _ (none_of_symbols (segments_by n) (symbol_outputs n) (λ i o h. (symbol_silent n o (symbols_are n i o h)).1)) ∙ grouped_defines.segments_are;
    groups_are = still groups_by grouped _ (none_of_symbols groups_by (symbol_outputs n) (λ i o h. (symbol_silent n o (symbols_are n i o h)).2)) ∙ grouped_defines.groups_are;
    publics_are = flat_map-append publics_by grouped (symbol_outputs n) ∙ ap (λ ys. ys ++ flat_map publics_by (symbol_outputs n)) grouped_defines.publics_are;
    externals_are = flat_map-append externals_by grouped (symbol_outputs n) ∙ ap (λ ys. ys ++ flat_map externals_by (symbol_outputs n)) grouped_defines.externals_are;
  }

  -- what holds of each kind of output up to the data
  named_each : (P : Output → Type 0) → P output.Header → ((names : List (List ℕ)) → P (output.Names names)) → ((k : ℕ) (s : Section) → P (output.Segment k s)) → P output.Group
      → ((o : Output) → OfSymbol n o → P o) → (i : ℕ) (o : Output) → slice_get named i ≡ Some o → P o
  named_each P header names segment group symbol =
      each_append P grouped (symbol_outputs n)
      (each_append P segmented (output.Group ∷ [])
      (each_append P fore (map segment_output (enumerate_from 0 n.sections)) front
      (each_map P segment_output (enumerate_from 0 n.sections) (λ j x h. segment x.0 x.1))) last)
      (λ i o h. symbol o (symbols_are n i o h))
    where
      front : (i : ℕ) (o : Output) → slice_get fore i ≡ Some o → P o
      front zero o h = subst P (same_Some output.Header o h) header
      front (suc i) o h = each_map P output.Names (filled_from [] (names_of n)) (λ j x g. names x) i o h

      last : (i : ℕ) (o : Output) → slice_get (output.Group ∷ []) i ≡ Some o → P o
      last zero o h = subst P (same_Some output.Group o h) group
      last (suc i) o h = absurd (none-some o h)

  named_ends : (i : ℕ) (o : Output) → slice_get named i ≡ Some o → EndsBy 0 0 o
  named_ends = named_each (EndsBy 0 0) tt (λ names. tt) (λ k s. tt) tt (λ o e. symbol_ends n 0 0 o e)

  no_pieces : (i : ℕ) (o : Output) → slice_get named i ≡ Some o → pieces_by n o ≡ []
  no_pieces = named_each (λ o. pieces_by n o ≡ []) refl (λ names. refl) (λ k s. refl) refl (λ o e. (symbol_silent n o e).3)

  -- data give only pieces
  none_of_data : {X : Type 0} (g : Output → List X)
      → ((k : ℕ) (s : Section) (from to : ℕ) → (g (output.Data k s from to) ≡ []) × (g (output.Fixups k s from to) ≡ [])) → (xs : List (ℕ × Section))
      → flat_map g (flat_map (data_outputs n) xs) ≡ []
  none_of_data g none xs =
      none_of_symbols g (flat_map (data_outputs n) xs)
      (each_flat_map (λ o. g o ≡ []) (data_outputs n) xs (λ j x h. each_flat_map (λ o. g o ≡ []) (piece_outputs n x.0 x.1) (pieces_of n x.0 x.1) (λ m y f. one x.0 x.1 y (nat_eq (length (fields_between n x.0 y.0 y.1)) 0))))
    where
      one : (k : ℕ) (s : Section) (x : ℕ × ℕ) (empty : Bool) (i : ℕ) (o : Output) → slice_get (output.Data k s x.0 x.1 ∷ (if empty then [] else output.Fixups k s x.0 x.1 ∷ [])) i ≡ Some o → g o ≡ []
      one k s x empty i o h = grind arith

  filled_tables : given n filled ≡ made_tables n
  filled_tables =
      let pieces : List Output = flat_map (data_outputs n) (enumerate_from 0 n.sections) in
      let r = named_ready in
      rw (
        still names_by named pieces (none_of_data names_by (λ k s from to. (refl, refl)) (enumerate_from 0 n.sections)) ∙ r.names,
        still (segments_by n) named pieces (none_of_data (segments_by n) (λ k s from to. (refl, refl)) (enumerate_from 0 n.sections)) ∙ r.segments_are,
        still groups_by named pieces (none_of_data groups_by (λ k s from to. (refl, refl)) (enumerate_from 0 n.sections)) ∙ r.groups_are,
        still publics_by named pieces (none_of_data publics_by (λ k s from to. (refl, refl)) (enumerate_from 0 n.sections)) ∙ r.publics_are,
        still externals_by named pieces (none_of_data externals_by (λ k s from to. (refl, refl)) (enumerate_from 0 n.sections)) ∙ r.externals_are,
        flat_map-append (pieces_by n) named pieces ∙ ap (λ ys. ys ++ flat_map (pieces_by n) pieces) (none_of_symbols (pieces_by n) named no_pieces),
      ) refl

  -- all tables
  pub tables_given : given n (outputs_of n) ≡ made_tables n
  tables_given = ap (given n) outputs_cut ∙ last filled ∙ filled_tables
    where
      last : (os : List Output) → given n (os ++ output.End ∷ []) ≡ given n os
      last os =
          rw (
            still names_by os (output.End ∷ []) refl,
            still (segments_by n) os (output.End ∷ []) refl,
            still groups_by os (output.End ∷ []) refl,
            still publics_by os (output.End ∷ []) refl,
            still externals_by os (output.End ∷ []) refl,
            still (pieces_by n) os (output.End ∷ []) refl,
          ) refl

  -- what is mentioned
  pub mentions_by_symbols : flat_map mentions_by (outputs_of n) ≡ flat_map mentions_by (symbol_outputs n)
  mentions_by_symbols =
      let pieces : List Output = flat_map (data_outputs n) (enumerate_from 0 n.sections) in
      ap (flat_map mentions_by) outputs_cut
      ∙ still mentions_by filled (output.End ∷ []) refl
      ∙ still mentions_by named pieces (none_of_data mentions_by (λ k s from to. (refl, refl)) (enumerate_from 0 n.sections))
      ∙ flat_map-append mentions_by grouped (symbol_outputs n)
      ∙ ap (λ xs. xs ++ flat_map mentions_by (symbol_outputs n))
      (still mentions_by segmented (output.Group ∷ []) refl
      ∙ still mentions_by fore (map segment_output (enumerate_from 0 n.sections)) (none_of_segments mentions_by (λ k s. refl) (enumerate_from 0 n.sections))
      ∙ none_of_names mentions_by (λ names. refl) (filled_from [] (names_of n)))

  -- each output stands behind those before it
  all_behind : AllBehind (Behind n) [] (outputs_of n)
  all_behind =
      let sections : List (ℕ × Section) = enumerate_from 0 n.sections in
      let small = filled_small [] (names_of n) (omega arith) short in
      let a : AllBehind (Behind n) [] fore = (refl, names_walk n (output.Header ∷ []) (filled_from [] (names_of n)) small) in
      let b : AllBehind (Behind n) fore (map segment_output sections) = segments_walk n fore [] n.sections 0 refl refl fore_defines in
      let c : AllBehind (Behind n) named (flat_map (data_outputs n) sections)
      = sections_walk n named 0 n.sections (λ j s h. let e : 0 + j ≡ j = omega arith in ap (slice_get n.sections) e ∙ h) apart named_ready named_ends in
      let y : AllBehind (Behind n) grouped (symbol_outputs n) = symbols_walk n grouped [] (symbol_outputs n) refl (symbols_are n) grouped_defines in
      subst (AllBehind (Behind n) []) (sym outputs_cut)
      (all_append (Behind n) [] filled (output.End ∷ [])
      (all_append (Behind n) [] named (flat_map (data_outputs n) sections)
      (all_append (Behind n) [] grouped (symbol_outputs n)
      (all_append (Behind n) [] segmented (output.Group ∷ [])
      (all_append (Behind n) [] fore (map segment_output sections) a b)
      (segmented_defines, tt))
      y)
      c)
      (filled_tables, tt))

  pub each_behind : (i : ℕ) (o : Output) → slice_get (outputs_of n) i ≡ Some o → Behind n (take i (outputs_of n)) o
  each_behind i o h = behind_at (Behind n) [] (outputs_of n) i o all_behind h
