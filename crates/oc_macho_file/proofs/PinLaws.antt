-- The symbols that pairs name: each section that is named has its line, and no symbol of the object is taken.
use Rattle.std.proofs.Common.{◌≡◌, ℕ, Bool, true, false, ◌&&◌, ◌||◌, eqb, length, Option, Some, None, refl, sym, ◌∙◌, ap, subst, inl, inr, arith}
use Rattle.std.specs.{Prelude.{slice_get, nat_eq}, List.{enumerate_from, filter}, Option.{option_map_or}}
use Rattle.std.proofs.lemmas.{Bool.{true≢false, eq-eqb, ne_eqb}, Option.{same_Some}}
use Rattle.oc_base.specs.{declared.format.Word.{Word}, declared.format.Word.TheVariants.{W32, W64}, Formats.{word_for}}
use Rattle.oc_linking.specs.{declared.terms.Less.{Less}, Keeping.{all}}
use Rattle.oc_linking.specs.declared.terms.Less.TheVariants as less
use Rattle.oc_neutral.specs.{declared.section.Section.{Section}, declared.reloc.Reloc.{Reloc}, Mach.SectionSymbols.{names_section, needed_sections}}
use Rattle.oc_neutral.specs.{Mach.SelfReferences.{is_section, is_long_distance}, Normal.{takes_section}, Objects.{Object, reloc_at}}
use Rattle.oc_neutral.specs.{Rows.{TakesSection, taken_of}, Spelling.{written_row}, TargetRelocations.{section_taken}}
use Rattle.oc_neutral.specs.declared.reloc.Target.TheVariants as target
use Rattle.oc_target.specs.Meets.{IsTakenBy}
use Rattle.oc_shelf.proofs.{ReadingLaws.FirstsLemmas.{any_none}, WritingLaws.MemberLemmas.{none_passes, of_map, of_filter}}
use Rattle.oc_macho.specs.{declared.entries.Item.{Item}, MachHeader.{mach_format}, Sections.{is_kept}, Entries.{item_at, takes_symbol, is_taken_in, is_pinned}}
use Rattle.oc_macho_file.specs.Lines.{Line, OwnLine, LocalLine, OuterLine, lines_of, numbered_lines, own_number}
use Rattle.oc_macho_file.specs.Bodies.{WrittenReloc, taken_section, entries_of}
use Rattle.oc_macho_file.proofs.{TableLaws.{made_table, made_sections, made_tables}, CodedLaws.{IsForMach, word_back}, LineLaws.{own_found}}
use Rattle.oc_macho_file.proofs.{RowLaws.{IsKnown, KnownAlone, KnownPair, IsDifferenceRow, long_only}, ItemLaws.{item_of}}
use Rattle.oc_macho_file.proofs.EntryLaws.{written_pair, written_by, written_standing, pair_second, mach_reloc, meets, row, entry, row_is, known, standing, item_is}

-- a needed section, by its index
abbrev pub Needed : Object → ℕ → Type 0
Needed n k = (i : ℕ) × (slice_get (needed_sections n) i ≡ Some k)

taken_section_is : (l : Less) → taken_of l ≡ TakesSection → (k : ℕ) × (l ≡ less.Section k)
taken_section_is l e = grind arith

first_names : (a b c : Bool) → a ≡ true → (a || b || c) ≡ true
first_names a b c e = ap (λ x. x || b || c) e

second_names : (a b c : Bool) → b ≡ true → (a || b || c) ≡ true
second_names a b c e = grind arith

third_names : (a b c : Bool) → c ≡ true → (a || b || c) ≡ true
third_names a b c e = grind arith

module _ (w : Word) (n : Object) (is : IsForMach w n) where
  module _ (k at : ℕ) (r : Reloc) (there : reloc_at n k at ≡ Some r) where
    abbrev x : WrittenReloc
    x = standing w n is k at r there

    needed_by : w ≡ W64 → (j : ℕ) → names_section j k r ≡ true → Needed n j
    needed_by e j names = (mach_reloc w n is k at r there).needed j (ap mach_format e) names

    -- a section that is a target has its symbol
    pub target_needed : w ≡ W64 → (j : ℕ) → r.target ≡ target.Section j → Needed n j
    target_needed e j to =
        needed_by e j (first_names (is_section j r.target) (takes_section j r.form.less) (nat_eq k j && is_long_distance r.form) (ap (is_section j) to ∙ eq-eqb j j refl))

    -- what is taken by a pair: a section, or the field's own where its place is taken
    pub data IsTakenSection : Type 0 where
      Another : (j : ℕ) → r.form.less ≡ less.Section j → taken_section x ≡ j → IsTakenSection
      Own : w ≡ W64 → r.form.less ≡ less.Place → is_long_distance r.form ≡ true → taken_section x ≡ k → IsTakenSection

    pub taken_is : (entry w n is k at r there).row.taken ≡ TakesSection → IsDifferenceRow w (entry w n is k at r there) → IsTakenSection
    taken_is taken difference = by (meets w n is k at r there).is.taken
      where
        own : (row w n is k at r there).taken ≡ TakesSection
        own = sym (row_is w n is k at r there (λ y. y.taken)) ∙ taken

        long : w ≡ W64 → r.form.less ≡ less.Place → is_long_distance r.form ≡ true
        long e place =
            let m = meets w n is k at r there in
            let d : IsDifferenceRow W64 (entry w n is k at r there) = subst (λ v. IsDifferenceRow v (entry w n is k at r there)) e difference in
            long_only r.form r.hint (row w n is k at r there) (ap (λ f. written_row f r.form r.hint) (sym (ap mach_format e)) ∙ m.is.written) place m.is.base m.is.width m.is.check own
            (sym (row_is w n is k at r there (λ y. y.base)) ∙ d.0)
            (elim d.1 [
              | inl eight ↦ inl (sym (row_is w n is k at r there (λ y. y.width)) ∙ eight)
              | inr four ↦ inr (sym (row_is w n is k at r there (λ y. y.width)) ∙ four.0, sym (row_is w n is k at r there (λ y. y.check)) ∙ four.1)
            ])

        by : IsTakenBy (mach_format w) r.form.less (row w n is k at r there).taken → IsTakenSection
        by (inl same) =
            let j = taken_section_is r.form.less (sym same ∙ own) in
            Another j.0 j.1 (ap (λ l. option_map_or (λ j. j) (section_taken l) k) j.1)
        by (inr place) =
            let e : w ≡ W64 = sym (word_back w) ∙ ap word_for place.0 in
            Own e place.1 (long e place.1) (ap (λ l. option_map_or (λ j. j) (section_taken l) k) place.1)

    -- so it has its symbol
    pub taken_needed : w ≡ W64 → IsTakenSection → Needed n (taken_section x)
    taken_needed e (Another j l same) =
        subst (Needed n) (sym same)
        (needed_by e j (second_names (is_section j r.target) (takes_section j r.form.less) (nat_eq k j && is_long_distance r.form) (ap (takes_section j) l ∙ eq-eqb j j refl)))
    taken_needed e (Own v l long same) =
        subst (Needed n) (sym same)
        (needed_by e k (third_names (is_section k r.target) (takes_section k r.form.less) (nat_eq k k && is_long_distance r.form) (ap (λ b. b && is_long_distance r.form) (eq-eqb k k refl) ∙ long)))

  -- ... pins

  -- the line at a number is that of a symbol of the object
  abbrev pub IsOfObject : Line → Type 0
  IsOfObject (OwnLine k) = ⊥
  IsOfObject (LocalLine k s) = Unit {0}
  IsOfObject (OuterLine k s) = Unit {0}

  own_differs : w ≡ W64 → (j : ℕ) (y : Line) → slice_get (lines_of w n) j ≡ Some y → IsOfObject y → (k : ℕ) → Needed n k → eqb (own_number (numbered_lines w n) k) j ≡ false
  own_differs e j y here of k needed = ne_eqb (own_number (numbered_lines w n) k) j (λ same.
      let own = own_found w n e k needed.0 needed.1 in
      subst IsOfObject (same_Some y (OwnLine k) (sym here ∙ ap (slice_get (lines_of w n)) (sym same) ∙ own)) of)

  module _ (j : ℕ) (y : Line) (line : slice_get (lines_of w n) j ≡ Some y) (of : IsOfObject y) where
    pair_free : (v : Word) → w ≡ v → (s : WrittenReloc) (second : ℕ) → (w ≡ W64 → Needed n (taken_section s)) → takes_symbol v j (item_of (written_pair v n (numbered_lines w n) s second)) ≡ false
    pair_free W32 e s second needed = refl
    pair_free W64 e s second needed = own_differs e j y line of (taken_section s) (needed e)

    lone_free : (v : Word) (s : WrittenReloc) → takes_symbol v j (item_of (written_by v n (numbered_lines w n) s None)) ≡ false
    lone_free v s = grind arith

    reloc_free : (k at : ℕ) (r : Reloc) (there : reloc_at n k at ≡ Some r) → takes_symbol w j (item_of (written_standing w n (numbered_lines w n) (standing w n is k at r there))) ≡ false
    reloc_free k at r there = by (known w n is k at r there).known
      where
        s : WrittenReloc
        s = standing w n is k at r there

        by : IsKnown w (entry w n is k at r there) → takes_symbol w j (item_of (written_standing w n (numbered_lines w n) s)) ≡ false
        by (KnownAlone none alone lacks) =
            let second : s.row.second ≡ None = sym (row_is w n is k at r there (λ x. x.second)) ∙ none in
            ap (λ o. takes_symbol w j (item_of (written_by w n (numbered_lines w n) s o))) second ∙ lone_free w s
        by (KnownPair p taken d) =
            let q = pair_second w (entry w n is k at r there) p in
            let second : s.row.second ≡ Some q.0 = sym (row_is w n is k at r there (λ x. x.second)) ∙ q.1 in
            ap (λ o. takes_symbol w j (item_of (written_by w n (numbered_lines w n) s o))) second
            ∙ pair_free w refl s q.0 (λ e. taken_needed k at r there e (taken_is k at r there taken d))

    section_free : (k : ℕ) (s : Section) → is_taken_in w j (made_table w n (k, s)) ≡ false
    section_free k s = any_none (λ i. option_map_or (takes_symbol w j) (item_at w (entries_of w n (numbered_lines w n) k) i) false) (length (entries_of w n (numbered_lines w n) k))
        (λ i low. by i (item_at w (entries_of w n (numbered_lines w n) k) i) refl)
      where
        by : (i : ℕ) (o : Option Item) → item_at w (entries_of w n (numbered_lines w n) k) i ≡ o → option_map_or (takes_symbol w j) o false ≡ false
        by i None e = refl
        by i (Some item) e = let x = item_is w n is (numbered_lines w n) k i item e in ap (takes_symbol w j) x.is_item ∙ reloc_free k x.at x.reloc x.there

    -- no pair takes its address
    pub unpinned : is_pinned (made_tables w n) all j ≡ false
    unfolding is_pinned made_tables
    unpinned = none_passes (is_taken_in w j) (filter (is_kept all) (made_sections w n)) (λ i t h.
        let f = of_filter (is_kept all) (made_sections w n) i t h in
        let z = of_map (made_table w n) (enumerate_from 0 n.sections) f.0 t f.1 in
        ap (is_taken_in w j) (sym z.2) ∙ section_free z.0.0 z.0.1)
