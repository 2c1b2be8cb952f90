-- The relocation entries of a canonical file are well formed.
use Rattle.std.proofs.Common.{◌≡◌, ℕ, zero, suc, ◌+◌, ◌^◌, ◌<◌, ◌≤◌, inl, inr, Bool, true, false, not, ◌&&◌, ◌||◌, cond, [], ◌++◌, length, map, Option, Some, None, refl, sym, ◌∙◌, ap, subst, arith}
use Rattle.std.specs.{Prelude.{slice_get, nat_lt, nat_eq, is_none, is_some}, List.{range_with_len, AllByRecursion}}
use Rattle.std.specs.Option.{option_map, option_map_or, option_and_then}
use Rattle.std.proofs.lemmas.{Bool.{eq-eqb, cases_lt, and_right, and_left}, Bool.Decides.{nat_tests}, Option.{none-some}}
use Rattle.oc_base.specs.{declared.format.Word.{Word}, declared.format.Word.TheVariants.{W32, W64}}
use Rattle.oc_chains.specs.Lists.{list_of}
use Rattle.oc_linking.specs.declared.terms.Base.TheVariants as base
use Rattle.oc_linking.specs.{declared.terms.Width.{Width}, FirstFault.{Stage}, Fits.{bytes_of}, Keeping.{all}}
use Rattle.oc_neutral.specs.{declared.section.Section.{Section}, declared.reloc.Reloc.{Reloc}, declared.reloc.Target.{Target}, Dialects.{is_difference}}
use Rattle.oc_neutral.specs.{Invariants.{IsThere}, Mach.Relocs.{MachRow, length_of}, Objects.{Object, reloc_at}}
use Rattle.oc_neutral.specs.Rows.{TakesPlace, TakesSection, same_taken, same_base}
use Rattle.oc_neutral.specs.declared.reloc.Target.TheVariants as target
use Rattle.oc_neutral.proofs.{Positions.{there_at}, Adding.{or_left}}
use Rattle.oc_shelf.specs.Reading.Spans.{meets as spans_meet}
use Rattle.oc_shelf.proofs.{ReadingLaws.FirstsLemmas.{any_none}, ReadingLaws.StageLemmas.{Unbroken, IsUnbroken, unbroken_append}}
use Rattle.oc_macho.specs.{declared.entries.Item.{Item}, declared.referent.Referent.{Referent}, declared.referent.Referent.TheVariants.{Fit}}
use Rattle.oc_macho.specs.{declared.relocation_info.RelocationInfo.{RelocationInfo}, Aims.{Aim, section_aim, aim_in, target_in}}
use Rattle.oc_macho.specs.{Entries.{row_for, item_at, target_entry, taken_entry, taken_reference}, Fields.{FieldParts, field_parts_by, field_of}}
use Rattle.oc_macho.specs.{Referents.{fit_for, referent_by, referent_in, is_nothing, cannot_be_target, cannot_be_taken, reads_slot}, Sections.{is_kept}}
use Rattle.oc_macho.specs.Tables.{SectionTable, Tables}
use Rattle.oc_macho.specs.RelocationFaults.{is_lone_second, is_odd_second, is_unknown, are_pair, is_no_pair, span_of, span_at, meets_upto, is_outside, refers_to_nothing, refers_wrongly, is_too_wide, folds_too_wide, form_conditions, target_conditions, last_conditions, item_conditions, entry_conditions, entry_stage, no_stage, relocation_stage, relocation_stages}
use Rattle.oc_macho.specs.declared.relocation_info.Reference.TheVariants as reference
use Rattle.oc_macho_file.specs.{Bodies.{WrittenReloc, reference_to, plain_entry}, Lines.{numbered_lines, symbol_number}, Canonical.{section_header}}
use Rattle.oc_macho_file.proofs.{TableLaws.{IsCodable, made_table, made_tables}, CodedLaws.{IsForMach}, SectionLaws.{table_at, length-tables}}
use Rattle.oc_macho_file.proofs.{ItemLaws.{item_of, begin_of}, RowLaws.{IsPairRow, IsDifferenceRow, IsKnown, KnownAlone, KnownPair}}
use Rattle.oc_macho_file.proofs.EntryLaws.{written_pair, written_by, meets, entry, known, row_is, standing, first_row, first_is, first_length, first_at, inside, is_stored, has_size, apart_by, places_differ, written_all, IsOfReloc, item_is}
use Rattle.oc_macho_file.proofs.{FieldLaws.{own_item}, TargetLaws.{symbol_aimed}, GivenLaws.{IsGivenField}, ShowsLaw.{symbols_read, given_field}}
use Rattle.oc_macho_file.proofs.HeaderClean.{within_file}

-- the type of the second of a pair
abbrev second_of : Word → ℕ
second_of W32 = 1
second_of W64 = 0

power_of : (v : Width) → 2 ^ length_of v ≡ bytes_of v
power_of v = grind arith

-- bytes that end where others begin have none in common with them
no_meeting : (a b c d : ℕ) → d ≤ a → spans_meet (a, b) (c, d) ≡ false
no_meeting a b c d l = grind (arith, nat_tests)

no_meeting_back : (a b c d : ℕ) → b ≤ c → spans_meet (a, b) (c, d) ≡ false
no_meeting_back a b c d l = grind (arith, nat_tests)

-- a reference to what a field can refer to
aimed : (t : Tables) (x : RelocationInfo) (a : Aim) → target_in t x ≡ Some a → referent_in t x.refers ≡ fit_for a
aimed t x a h = by (aim_in t x.refers) refl h
  where
    by : (o : Option (Option Aim)) → aim_in t x.refers ≡ o → option_and_then (λ aim. aim) o ≡ Some a → referent_by (aim_in t x.refers) ≡ fit_for a
    by o e g = grind arith

module _ (w : Word) (n : Object) (is : IsForMach w n) (fits : IsCodable w n) (k : ℕ) (s : Section) (here : slice_get n.sections k ≡ Some s) where
  abbrev t : Tables
  t = made_tables w n

  abbrev c : SectionTable
  c = made_table w n (k, s)

  module _ (at : ℕ) (r : Reloc) (there : reloc_at n k at ≡ Some r) where
    abbrev own : Item
    own = own_item w n is k s here at r there

    abbrev x : WrittenReloc
    x = standing w n is k at r there

    abbrev e : MachRow
    e = entry w n is k at r there

    given : IsGivenField w n is (symbols_read w n is fits) k s here at r there
    given = given_field w n is fits k s here at r there

    -- ... types

    row_read : row_for w own.first ≡ Some e
    row_read = first_row w n is k at r there (numbered_lines w n)

    second_none : e.row.second ≡ None → x.row.second ≡ None
    second_none none = sym (row_is w n is k at r there (λ y. y.second)) ∙ none

    second_some : (v : Word) → IsPairRow v e → x.row.second ≡ Some (second_of v)
    second_some v p = grind arith

    -- the second of a pair of x86-64 could stand alone
    long_known : IsPairRow W64 e → e.row.taken ≡ TakesSection → (j : ℕ) → is_some (row_for W64 (plain_entry x 0 (reference.Symbol j))) ≡ true
    long_known p taken j =
        ap (λ m. is_some (row_for W64 (record { r_address = at; r_pcrel = m; r_length = length_of x.row.width; r_type = 0; refers = reference.Symbol j })))
        (sym (row_is w n is k at r there (λ y. cond (same_taken y.taken TakesPlace) 1 0)) ∙ ap (λ v. cond (same_taken v TakesPlace) 1 0) taken)
        ∙ ap (λ l. is_some (row_for W64 (record { r_address = at; r_pcrel = 0; r_length = l; r_type = 0; refers = reference.Symbol j }))) (sym (row_is w n is k at r there (λ y. length_of y.width)))
        ∙ p.2 at j

    pair_known : (v : Word) (p : IsPairRow v e) → e.row.taken ≡ TakesSection → option_map_or (is_odd_second v) (item_of (written_pair v n (numbered_lines w n) x (second_of v))).second false ≡ false
    pair_known W32 p taken = refl
    pair_known W64 p taken = by r.target
      where
        by : (u : Target) → is_odd_second W64 (plain_entry x 0 (reference_to W64 (numbered_lines w n) u)) ≡ false
        by u = grind arith

    no_unknown : is_unknown w own ≡ false
    unfolding is_unknown
    no_unknown =
        ap (λ o. is_none o && not (is_lone_second w own.first) || option_map_or (is_odd_second w) own.second false) row_read
        ∙ by (known w n is k at r there).known
      where
        by : IsKnown w e → option_map_or (is_odd_second w) own.second false ≡ false
        by (KnownAlone none alone lacks) = ap (λ o. option_map_or (is_odd_second w) (item_of (written_by w n (numbered_lines w n) x o)).second false) (second_none none)
        by (KnownPair p taken d) =
            ap (λ o. option_map_or (is_odd_second w) (item_of (written_by w n (numbered_lines w n) x o)).second false) (second_some w p) ∙ pair_known w p taken

    -- ... pairs

    alone_lone : (v : Word) (u : Target) → is_lone_second v (plain_entry x x.row.number (reference_to v (numbered_lines w n) u)) ≡ false
    alone_lone v u = grind arith

    pair_lone : (v : Word) (p : IsPairRow v e) → is_lone_second v (item_of (written_pair v n (numbered_lines w n) x (second_of v))).first ≡ false
    pair_lone v p = grind arith

    pair_paired : (v : Word) (p : IsPairRow v e)
        → option_map_or (are_pair v (item_of (written_pair v n (numbered_lines w n) x (second_of v))).first) (item_of (written_pair v n (numbered_lines w n) x (second_of v))).second false ≡ true
    pair_paired W32 p = refl
    pair_paired W64 p = by r.target
      where
        equal : (nat_eq (length_of x.row.width) (length_of x.row.width) && not (not (nat_eq at at))) ≡ true
        equal = ap (λ b. b && not (not (nat_eq at at))) (eq-eqb (length_of x.row.width) (length_of x.row.width) refl) ∙ ap (λ b. not (not b)) (eq-eqb at at refl)

        by : (u : Target) → are_pair W64 (plain_entry x x.row.number (reference.Symbol 0)) (plain_entry x 0 (reference_to W64 (numbered_lines w n) u)) ≡ true
        by u = grind arith

    no_lone : (known : IsKnown w e) → is_no_pair w own ≡ false
    unfolding is_no_pair
    no_lone (KnownAlone none alone lacks) =
        ap (λ b. is_lone_second w own.first || b && not (option_map_or (are_pair w own.first) own.second false)) (first_is w n is k at r there (numbered_lines w n) ∙ lacks)
        ∙ ap (λ o. is_lone_second w (item_of (written_by w n (numbered_lines w n) x o)).first || false) (second_none none)
        ∙ ap (λ b. b || false) (alone_lone w r.target)
    no_lone (KnownPair p taken d) =
        ap (λ b. is_lone_second w own.first || b && not (option_map_or (are_pair w own.first) own.second false)) (first_is w n is k at r there (numbered_lines w n) ∙ ap (λ v. same_taken v TakesSection) taken)
        ∙ ap (λ o. is_lone_second w (item_of (written_by w n (numbered_lines w n) x o)).first
        || not (option_map_or (are_pair w (item_of (written_by w n (numbered_lines w n) x o)).first) (item_of (written_by w n (numbered_lines w n) x o)).second false)) (second_some w p)
        ∙ ap (λ b. b || not (option_map_or (are_pair w (item_of (written_pair w n (numbered_lines w n) x (second_of w))).first) (item_of (written_pair w n (numbered_lines w n) x (second_of w))).second false)) (pair_lone w p)
        ∙ ap not (pair_paired w p)

    -- ... bytes

    span_is : span_of own ≡ (at, at + bytes_of r.form.width)
    span_is =
        ap (λ a. (a, a + 2 ^ own.first.r_length)) (first_at w n is k at r there (numbered_lines w n))
        ∙ ap (λ l. (at, at + 2 ^ l)) (first_length w n is k at r there (numbered_lines w n))
        ∙ ap (λ m. (at, at + m)) (power_of x.row.width ∙ ap bytes_of (meets w n is k at r there).is.width)

    no_outside : is_outside (section_header w n (k, s)) own ≡ false
    unfolding section_header
    no_outside =
        let ends = inside w n is k at r there s here in
        let size = has_size w n is k at r there s here in
        ap (λ b. b || nat_lt s.size (span_of own).1) (is_stored w n is k at r there s here)
        ∙ ap (λ (p : ℕ × ℕ). nat_lt s.size p.1) span_is
        ∙ within_file s.size (at + bytes_of r.form.width) (omega (arith, ends, size))

    -- ... what is referred to

    abbrev T : Option Aim
    T = option_and_then (target_in t) (taken_entry w own)

    made : Option Aim → Option FieldParts
    made o = option_map (λ target. record { row = e; target = target; taken = T }) o

    told : (target_in t (target_entry w own) ≡ Some given.how.target) × (T ≡ given.how.taken)
    unfolding field_parts_by made_tables made
    told = by (target_in t (target_entry w own)) (sym (ap (option_and_then (λ m. option_map (λ target. record { row = m; target = target; taken = T }) (target_in t (target_entry w own)))) row_read) ∙ given.how_is)
      where
        by : (o : Option Aim) → option_map (λ target. record { row = e; target = target; taken = T }) o ≡ Some given.how → (o ≡ Some given.how.target) × (T ≡ given.how.taken)
        by o g = grind arith

    target_fit : referent_in t (target_entry w own).refers ≡ fit_for given.how.target
    target_fit = aimed t (target_entry w own) given.how.target told.0

    taken_fine : (test : Referent → Bool) → ((external : Bool) → test (Fit external true) ≡ false) → option_map_or (λ y. test (referent_in t y)) (taken_reference w own) false ≡ false
    taken_fine test fine = by (taken_entry w own) refl
      where
        by : (o : Option RelocationInfo) → taken_entry w own ≡ o → option_map_or (λ y. test (referent_in t y)) (option_map (λ (y : RelocationInfo). y.refers) o) false ≡ false
        by None h = refl
        by (Some y) h = elim given.takes [
          | inl none ↦ absurd (none-some y (sym none ∙ h))
          | inr taken ↦
              let fit = aimed t y (section_aim t taken.0 taken.1) (sym (ap (option_and_then (target_in t)) h) ∙ told.1 ∙ taken.2) in
              ap test fit ∙ fine _
        ]

    no_nothing : refers_to_nothing t own ≡ false
    unfolding refers_to_nothing made_tables
    no_nothing = ap (λ y. is_nothing y || option_map_or (λ y. is_nothing (referent_in t y)) (taken_reference w own) false) target_fit ∙ taken_fine is_nothing (λ external. refl)

    -- an entry that stands alone refers to the target
    alone_refers : e.row.second ≡ None → (target_entry w own).refers ≡ reference_to w (numbered_lines w n) r.target
    alone_refers none = ap (λ o. (target_entry w (item_of (written_by w n (numbered_lines w n) x o))).refers) (second_none none) ∙ by w
      where
        by : (v : Word) → (target_entry v (item_of (written_by v n (numbered_lines w n) x None))).refers ≡ reference_to v (numbered_lines w n) r.target
        by v = grind arith

    slot_read : reads_slot (row_for w own.first) ≡ same_base e.row.base base.Slot
    slot_read = ap reads_slot row_read

    no_slot : same_base e.row.base base.Slot ≡ false → cannot_be_target (reads_slot (row_for w own.first)) (referent_in t (target_entry w own).refers) ≡ false
    no_slot none = ap (λ y. cannot_be_target (reads_slot (row_for w own.first)) y) target_fit ∙ and_left (reads_slot (row_for w own.first)) _ (slot_read ∙ none)

    based : (v : Word) → IsDifferenceRow v e → e.row.base ≡ base.Address
    based v d = grind arith

    target_fine : (known : IsKnown w e) → cannot_be_target (reads_slot (row_for w own.first)) (referent_in t (target_entry w own).refers) ≡ false
    target_fine (KnownPair p taken d) = no_slot (ap (λ b. same_base b base.Slot) (based w d))
    target_fine (KnownAlone none alone lacks) = by r.target refl
      where
        by : (u : Target) → r.target ≡ u → cannot_be_target (reads_slot (row_for w own.first)) (referent_in t (target_entry w own).refers) ≡ false
        by (target.Section j) to =
            no_slot (row_is w n is k at r there (λ y. same_base y.base base.Slot) ∙ ap (λ b. same_base b base.Slot) (meets w n is k at r there).is.base ∙ or_left (same_base r.form.base base.Slot) (same_base r.form.base base.GotBase) ((meets w n is k at r there).slot j to))
        by (target.Symbol j) to =
            let y = there_at n.symbols j (subst (IsThere n) to (meets w n is k at r there).normal.target) in
            let outer = (meets w n is k at r there).outer j y.0 to y.1 in
            ap (λ z. cannot_be_target (reads_slot (row_for w own.first)) (referent_in t z)) (alone_refers none ∙ ap (reference_to w (numbered_lines w n)) to ∙ named w)
            ∙ ap (λ o. cannot_be_target (reads_slot (row_for w own.first)) (referent_by o)) (symbol_aimed w n is j y.0 y.1 outer)
            ∙ and_right (reads_slot (row_for w own.first)) false refl
          where
            named : (v : Word) → reference_to v (numbered_lines w n) (target.Symbol j) ≡ reference.Symbol (symbol_number (numbered_lines w n) j)
            named v = grind arith

    no_wrong : refers_wrongly t own ≡ false
    unfolding refers_wrongly made_tables
    no_wrong =
        ap (λ b. b || option_map_or (λ y. cannot_be_taken (referent_in t y)) (taken_reference w own) false) (target_fine (known w n is k at r there).known)
        ∙ taken_fine cannot_be_taken (λ external. refl)

    -- ... values

    not_wide : is_too_wide t k c own ≡ false
    unfolding is_too_wide
    not_wide =
        ap (λ o. option_map_or (folds_too_wide t k c own.first.r_address) o false) given.how_is
        ∙ ap (λ a. folds_too_wide t k c a given.how) (first_at w n is k at r there (numbered_lines w n))
        ∙ and_left (is_difference (field_of t k at c given.how)) _ (ap is_difference (sym given.is_how) ∙ given.varies)

  -- ... all entries

  -- no field meets an earlier one
  apart : (j : ℕ) (i : Item) → IsOfReloc w n is (numbered_lines w n) k j i → meets_upto t c j i ≡ false
  unfolding made_tables
  apart j i d = any_none (λ m. option_map_or (spans_meet (span_of i)) (span_at t c m) false) j (λ m l. by m l (item_at w c.relocs m) refl)
    where
      span : (i : Item) (m : ℕ) (d : IsOfReloc w n is (numbered_lines w n) k m i) → span_of i ≡ (d.at, d.at + bytes_of d.reloc.form.width)
      span i m d = ap span_of d.is_item ∙ span_is d.at d.reloc d.there

      two : (m : ℕ) (y : Item) → m < j → IsOfReloc w n is (numbered_lines w n) k m y → spans_meet (span_of i) (span_of y) ≡ false
      two m y l f =
          ap (λ p. spans_meet p (span_of y)) (span i j d) ∙ ap (spans_meet (d.at, d.at + bytes_of d.reloc.form.width)) (span y m f)
          ∙ elim (cases_lt f.at d.at) [
            | inl before ↦ no_meeting d.at (d.at + bytes_of d.reloc.form.width) f.at (f.at + bytes_of f.reloc.form.width) (apart_by w n is k f.at d.at f.reloc d.reloc f.there d.there before)
            | inr not_before ↦ elim (cases_lt d.at f.at) [
              | inl behind ↦ no_meeting_back d.at (d.at + bytes_of d.reloc.form.width) f.at (f.at + bytes_of f.reloc.form.width) (apart_by w n is k d.at f.at d.reloc f.reloc d.there f.there behind)
              | inr not_behind ↦
                  let same : f.at ≡ d.at = omega (arith, not_before, not_behind) in
                  let position = places_differ 0 (list_of n.relocs k) (is.object.built.fields.apart k) f.position d.position f.field d.field f.among d.among (f.offset ∙ same ∙ sym d.offset) in
                  let index : m ≡ j = f.begins ∙ ap (begin_of (written_all w n is (numbered_lines w n) k)) position ∙ sym d.begins in
                  absurd (omega (arith, index, l))
            ]
          ]

      by : (m : ℕ) → m < j → (o : Option Item) → item_at w c.relocs m ≡ o → option_map_or (spans_meet (span_of i)) (option_map span_of (item_at w c.relocs m)) false ≡ false
      by m l None h = ap (λ o. option_map_or (spans_meet (span_of i)) (option_map span_of o) false) h
      by m l (Some y) h = ap (λ o. option_map_or (spans_meet (span_of i)) (option_map span_of o) false) h ∙ two m y l (item_is w n is (numbered_lines w n) k m y h)

  item_clean : (j : ℕ) (i : Item) → IsOfReloc w n is (numbered_lines w n) k j i → Unbroken (item_conditions t k c j i)
  unfolding form_conditions target_conditions made_tables
  item_clean j i d =
      let away = apart j i d in
      let a = sym d.is_item in
      unbroken_append (form_conditions t k c j i) (target_conditions t k c j i ++ last_conditions t k c j i) (
        subst (λ y. is_unknown w y ≡ false) a (no_unknown d.at d.reloc d.there),
        (
          subst (λ y. is_no_pair w y ≡ false) a (no_lone d.at d.reloc d.there (known w n is k d.at d.reloc d.there).known),
          (subst (λ y. is_outside (section_header w n (k, s)) y ≡ false) a (no_outside d.at d.reloc d.there), tt),
        ),
      )
      (unbroken_append (target_conditions t k c j i) (last_conditions t k c j i) (
        subst (λ y. refers_to_nothing t y ≡ false) a (no_nothing d.at d.reloc d.there),
        (subst (λ y. refers_wrongly t y ≡ false) a (no_wrong d.at d.reloc d.there), tt),
      )
      (away, (subst (λ y. is_too_wide t k c y ≡ false) a (not_wide d.at d.reloc d.there), tt)))

  entry_clean : (j : ℕ) → Unbroken (entry_conditions t k c j)
  unfolding entry_conditions made_tables
  entry_clean j = by (item_at w c.relocs j) refl
    where
      by : (o : Option Item) → item_at w c.relocs j ≡ o → Unbroken (option_map_or (item_conditions t k c j) o [])
      by None h = tt
      by (Some i) h = item_clean j i (item_is w n is (numbered_lines w n) k j i h)

  pub stage_clean : IsUnbroken (relocation_stage t all k)
  unfolding made_tables
  stage_clean = subst (λ o. IsUnbroken (option_map_or (λ x. cond (is_kept all x) (entry_stage t k x) no_stage) o no_stage)) (sym (table_at w n k s here)) (by (is_kept all c))
    where
      by : (b : Bool) → IsUnbroken (cond b (entry_stage t k c) no_stage)
      by true j low = entry_clean j
      by false j low = tt

all_range : (P : Stage → Type 0) (stage : ℕ → Stage) (lo m : ℕ) → ((i : ℕ) → i < m → P (stage (lo + i))) → AllByRecursion P (map stage (range_with_len lo m))
all_range P stage lo zero each = tt
all_range P stage lo (suc m) each =
    let z : lo + 0 ≡ lo = omega arith in
    (subst (λ i. P (stage i)) z (each 0 (omega arith)), all_range P stage (lo + 1) m (λ i l. let e : lo + suc i ≡ lo + 1 + i = omega arith in subst (λ j. P (stage j)) e (each (suc i) (omega (arith, l)))))

pub relocations_clean : (w : Word) (n : Object) → IsForMach w n → IsCodable w n → AllByRecursion IsUnbroken (relocation_stages (made_tables w n) all)
unfolding made_tables
relocations_clean w n is fits =
    let count = length-tables w n in
    all_range IsUnbroken (relocation_stage (made_tables w n) all) 0 (length (made_tables w n).sections) (λ i l.
    let e : 0 + i ≡ i = omega arith in
    let y = there_at n.sections i (omega (arith, l, count)) in
    subst (λ j. IsUnbroken (relocation_stage (made_tables w n) all j)) (sym e) (stage_clean w n is fits i y.0 y.1))
