-- The fields of the canonical file are the relocations of the object that is seen.
use Rattle.std.proofs.Common.{◌≡◌, ℕ, ◌+◌, ◌%◌, Bool, true, false, ◌&&◌, ◌||◌, cond, nat_eq, ℤ, List, [], ◌∷◌, length, replicate, Option, Some, None, Ok, refl, sym, ◌∙◌, ap, arith}
use Rattle.std.specs.{Prelude.{◌+ℤ◌, slice_get, pos, find}, List.{list_any}, Option.{option_map, option_map_or, option_and_then}}
use Rattle.std.proofs.lemmas.{Bool.{true≢false, eqb-true, eq-eqb}, Int.{ints}, Option.{none-some, same_Some}}
use Rattle.oc_base.specs.{declared.format.Word.TheVariants.{W32}, declared.format.Format.TheVariants.{Omf}, Formats.{word_for}, Numbers.{number_at}}
use Rattle.oc_linking.specs.{declared.terms.Width.{Width}, declared.terms.Width.TheVariants.{Four}, declared.terms.Check.{Check}, declared.terms.Base.{Base}}
use Rattle.oc_linking.specs.{declared.terms.Hint.TheVariants.{Plain}, declared.terms.Less.{Less}, Fits.{bytes_of, span}}
use Rattle.oc_linking.proofs.Storing.{field_holds}
use Rattle.oc_algebra.specs.{Residues.{reduced_number}, Fields.{extended, to_field_of, from_field_of}}
use Rattle.oc_algebra.proofs.Laws.{reduced_reduced}
use Rattle.oc_neutral.specs.{declared.section.Section.{Section}, declared.reloc.Reloc.{Reloc}, declared.reloc.Target.{Target}, Building.{is_zero}}
use Rattle.oc_neutral.specs.{Normal.{Place, at_section}, Objects.{Object, reloc_at}, Omf.Relocs.{FixupFrame, fixup_row}, Rows.{Row, shift_of}}
use Rattle.oc_shows.specs.{Manners.{omf_manner}, RowFields.{number_in, row_field}, RowValues.{row_reloc}, Seen.{section_place, seen_reloc, seen_target}}
use Rattle.oc_target.specs.Meets.{MeetsReloc}
use Rattle.oc_neutral.specs.Rows as rows
use Rattle.oc_target.proofs.MeetsRelocs.{no_error}
use Rattle.oc_neutral.proofs.ShiftLemmas.{four_bytes_hold}
use Rattle.oc_omf.specs.{Sections.{size_at, contents_of}, Fixups.{Fixed, fixed_from, has_field, subrecords_upto, is_of_segment, field_offsets}}
use Rattle.oc_omf.specs.{Targets.{target_of}, Fields.{row_of, aim_of, field_of, field_by, relocates}}
use Rattle.oc_omf_file.specs.Fixups.{written_reloc, row_by, number_or, number_by, field_number, field_patch, field_patches, raw_of, target_method}
use Rattle.oc_omf_file.proofs.{ListLemmas.{find_fails, find_there}, BehindLaws.{made_tables}}
use Rattle.oc_omf_file.proofs.CodedLaws.{IsForOmf, omf_reloc, meets, framed, row_is, row_takes, width_is, inside, apart_patches}
use Rattle.oc_omf_file.proofs.{SectionLaws.{made_contents, has_bytes, contents_made, size_made}, SeenLaws.{shown}}
use Rattle.oc_omf_file.proofs.{FixedLaws.{entries, IsFixed, has_field as field_is, reloc_of, fixups_are, fixup_there}, TargetLaws.{meant, row_read, IsAimed}}
use Rattle.oc_shows.proofs.FoundLaws.{holds_addend}

-- a number of four bytes is held
held_by : (shift a : ℤ) → (F : ℕ) × (to_field_of W32 Four shift a ≡ Ok F)
held_by shift a = no_error (to_field_of W32 Four shift a) (four_bytes_hold shift a)

-- a row of OMF has four bytes, and no hint
row_width : (f : FixupFrame) → (fixup_row f).width ≡ Four
row_width f = grind arith

row_hint : (f : FixupFrame) → (fixup_row f).hint ≡ Plain
row_hint f = grind arith

-- the form of what is written is the relocation's, and its addend is reduced
pub form_kept : (r : Reloc) (o : Option Place) → (at_section W32 r o).form ≡ r.form
form_kept r o = grind arith

addend_reduced : (r : Reloc) (o : Option Place) → reduced_number W32 (at_section W32 r o).addend ≡ (at_section W32 r o).addend
addend_reduced r None = reduced_reduced W32 _
addend_reduced r (Some place) = reduced_reduced W32 _

module _ (n : Object) (is : IsForOmf n) where
  -- ... the addend

  module _ (k : ℕ) (s : Section) (here : slice_get n.sections k ≡ Some s) (at : ℕ) (r : Reloc) (there : reloc_at n k at ≡ Some r) where
    abbrev x : Row
    x = fixup_row (framed n is k at r there)

    -- the number that is added, as it is read
    abbrev pub a : ℤ
    a = number_in x (made_contents n (k, s)) at +ℤ pos 0

    -- the section has its bytes
    stored : is_zero s.kind ≡ false
    stored = by (is_zero s.kind) refl (has_bytes n is k s here)
      where
        by : (b : Bool) → is_zero s.kind ≡ b → length s.bytes ≡ cond b 0 s.size → b ≡ false
        by true e none = let ends = inside n is k at r there s here in absurd (omega (arith, ends, none))
        by false e some = refl

    addend_back : reduced_number W32 (a +ℤ shift_of x) ≡ (written_reloc n r).addend
    unfolding raw_of field_number from_field_of
    addend_back =
        let q : Reloc = written_reloc n r in
        let holds = held_by (shift_of x) q.addend in
        let F : ℕ = holds.0 in
        let held = holds_addend W32 Four (shift_of x) q.addend F holds.1 in
        let four : q.form.width ≡ Four = ap (λ f. f.width) (form_kept r (section_place omf_manner n r)) ∙ (omf_reloc n is k at r there).width in
        let number : field_number n r ≡ F
        = ap (λ o. option_map_or (number_by q) o 0) (row_is n is k at r there)
        ∙ ap (λ w. number_or (to_field_of W32 w (shift_of x) q.addend)) four ∙ ap number_or holds.1 in
        let ends = inside n is k at r there s here in
        let wide = width_is n is k at r there in
        let read : number_at (made_contents n (k, s)) at 4 ≡ F
        = ap (λ b. number_at (cond b (replicate s.size 0) (raw_of n k s)) at 4) stored
        ∙ ap (number_at (raw_of n k s) at) (sym wide)
        ∙ field_holds (field_patches n k) (apart_patches n is k) s.bytes at (field_patch n r) (ap (option_map (field_patch n)) there) (omega (arith, ends, wide))
        ∙ ap (λ w. field_number n r % span w) (omf_reloc n is k at r there).width
        ∙ ap (λ f. f % span Four) number ∙ held.0 in
        let plain : extended Four F +ℤ pos 0 +ℤ shift_of x ≡ extended Four F +ℤ shift_of x = omega (arith, ints) in
        ap (λ w. reduced_number W32 (extended w (number_at (made_contents n (k, s)) at (bytes_of w)) +ℤ pos 0 +ℤ shift_of x)) (row_width (framed n is k at r there))
        ∙ ap (λ f. reduced_number W32 (extended Four f +ℤ pos 0 +ℤ shift_of x)) read
        ∙ ap (reduced_number W32) plain
        ∙ held.1
        ∙ addend_reduced r (section_place omf_manner n r)

    -- the relocation that its row makes of what is read is the one that is seen
    pub reloc_made : row_reloc W32 x k a (seen_target (shown n) (written_reloc n r).target) ≡ seen_reloc omf_manner n (shown n) r
    reloc_made =
        let m : MeetsReloc Omf n k at r = meets n is k at r there in
        let row = (omf_reloc n is k at r there).row in
        let t : Target = seen_target (shown n) (written_reloc n r).target in
        let made : Base → Less → Width → Check → ℤ → Reloc = λ base l width check a. record { target = t; form = record { base = base; less = l; width = width; check = check }; addend = a; hint = Plain } in
        let b : ℤ = (written_reloc n r).addend in
        let form : (written_reloc n r).form ≡ r.form = form_kept r (section_place omf_manner n r) in
        ap (λ h. record { target = t; form = record { base = x.base; less = rows.less_of x.taken k; width = x.width; check = x.check }; addend = reduced_number W32 (a +ℤ shift_of x); hint = h }) (row_hint (framed n is k at r there))
        ∙ ap (λ c. made x.base (rows.less_of x.taken k) x.width x.check c) addend_back
        ∙ ap (λ c. made c (rows.less_of x.taken k) x.width x.check b) (ap (λ (z : Row). z.base) row ∙ m.is.base)
        ∙ ap (λ l. made r.form.base l x.width x.check b) (row_takes n is k at r there k)
        ∙ ap (λ w. made r.form.base r.form.less w x.check b) (ap (λ (z : Row). z.width) row ∙ m.is.width)
        ∙ ap (λ c. made r.form.base r.form.less r.form.width c b) (ap (λ (z : Row). z.check) row ∙ m.is.check)
        ∙ ap (λ f. record { target = t; form = f; addend = b; hint = Plain }) (sym form)
        ∙ ap (λ w. record { target = seen_target (shown n) (at_section w r (section_place omf_manner n r)).target; form = (at_section w r (section_place omf_manner n r)).form; addend = (at_section w r (section_place omf_manner n r)).addend; hint = Plain })
        (sym (ap word_for is.format))

  -- ... fields

  abbrev pub fixups : List Fixed
  fixups = fixed_from [] (subrecords_upto (entries n is) (length (entries n is)))

  both : (p q : Bool) → (p && q) ≡ true → (p ≡ true) × (q ≡ true)
  both p q e = grind arith

  -- what relocates an offset of a section is the fixup of a field there
  relocated : (k at i : ℕ) (f : Fixed) (h : slice_get fixups i ≡ Some f) → relocates k at f ≡ true → let g = fixups_are n is (length (entries n is)) i f h in (g.k ≡ k) × (g.x.at ≡ at)
  relocated k at i f h e =
      let g = fixups_are n is (length (entries n is)) i f h in
      let p = field_is n is (length (entries n is)) f g in
      let one = both (has_field f (k + 1) at) _ e in
      let two = both (is_of_segment f (k + 1)) _ one.0 in
      let same : g.k + 1 ≡ k + 1 = eqb-true (g.k + 1) (k + 1) (sym (p.segment (k + 1)) ∙ two.0) in
      let place : list_any (nat_eq at) (g.x.at ∷ []) ≡ true = ap (list_any (nat_eq at)) (sym p.offsets) ∙ two.1 in
      (omega (arith, same), sym (eqb-true at g.x.at (only (nat_eq at g.x.at) place)))
    where
      only : (b : Bool) → (b || false) ≡ true → b ≡ true
      only b e = grind arith

  relocates_it : (k at i : ℕ) (f : Fixed) (g : IsFixed n is (length (entries n is)) f) → g.k ≡ k → g.x.at ≡ at → relocates k at f ≡ true
  relocates_it k at i f g ek eat =
      let p = field_is n is (length (entries n is)) f g in
      let segment : is_of_segment f (k + 1) ≡ true = p.segment (k + 1) ∙ eq-eqb (g.k + 1) (k + 1) (ap (λ j. j + 1) ek) in
      let offset : list_any (nat_eq at) (field_offsets f) ≡ true = ap (list_any (nat_eq at)) p.offsets ∙ ap (λ b. b || false) (eq-eqb at g.x.at (sym eat)) in
      let location : nat_eq f.fixup.location 9 ≡ true = ap (λ (h : Fixed). nat_eq h.fixup.location 9) g.is_made in
      rw (segment, offset, location) refl

  pub no_fixup : (k at : ℕ) → reloc_at n k at ≡ None → find (relocates k at) fixups ≡ None
  no_fixup k at none = find_fails (relocates k at) fixups (λ i f h. by i f h (relocates k at f) refl)
    where
      by : (i : ℕ) (f : Fixed) (h : slice_get fixups i ≡ Some f) (b : Bool) → relocates k at f ≡ b → b ≡ false
      by i f h true e =
          let g = fixups_are n is (length (entries n is)) i f h in
          let m = relocated k at i f h e in
          let r = reloc_of n is (length (entries n is)) f g in
          absurd (none-some g.x.item (sym none ∙ ap (λ j. reloc_at n j at) (sym m.0) ∙ ap (reloc_at n g.k) (sym m.1) ∙ r))
      by i f h false e = refl

  module _ (k : ℕ) (s : Section) (here : slice_get n.sections k ≡ Some s) (at : ℕ) (r : Reloc) (there : reloc_at n k at ≡ Some r) where
    pub field_made : (aim : IsAimed n is r) → option_and_then (field_by (meant n) k at) (find (relocates k at) fixups)
        ≡ Some (row_field W32 (fixup_row (framed n is k at r there)) k (a k s here at r there) k at aim.aim)
    unfolding field_by
    field_made aim =
        let m = fixup_there n is k s here at r there in
        let y = find_there (relocates k at) fixups m.0 m.1 m.3 (relocates_it k at m.0 m.1 m.2 m.4 m.5) in
        let g = fixups_are n is (length (entries n is)) y.0 y.1 y.2 in
        let e = relocated k at y.0 y.1 y.2 y.3 in
        let f : Fixed = y.1 in
        let own = reloc_of n is (length (entries n is)) f g in
        let item : g.x.item ≡ r = same_Some g.x.item r (sym own ∙ ap (λ j. reloc_at n j g.x.at) e.0 ∙ ap (reloc_at n k) e.1 ∙ there) in
        let aimed : aim_of (meant n) f ≡ Some aim.aim
        = ap (λ (h : Fixed). option_and_then (target_of (meant n)) h.target) g.is_made ∙ ap (λ i. target_of (meant n) (target_method n (written_reloc n i).target)) item ∙ aim.is_aim in
        let rows_same : fixup_row (framed n is g.k g.x.at g.x.item own) ≡ fixup_row (framed n is k at r there)
        = same_Some _ _ (sym (row_is n is g.k g.x.at g.x.item own) ∙ ap row_by item ∙ row_is n is k at r there) in
        let row : row_of (meant n) f aim.aim ≡ Some (fixup_row (framed n is k at r there)) = row_read n is (length (entries n is)) f g aim.aim ∙ ap (λ (z : Row). Some z) rows_same in
        let contents : contents_of (made_tables n) (k + 1) (size_at (made_tables n) (k + 1)) ≡ made_contents n (k, s) = ap (contents_of (made_tables n) (k + 1)) (size_made n is (made_tables n) refl k s here) ∙ contents_made n is k s here in
        let z : Row = fixup_row (framed n is k at r there) in
        ap (option_and_then (field_by (meant n) k at)) y.4
        ∙ ap (option_and_then (λ t. option_map (field_of (meant n) k at f t) (row_of (meant n) f t))) aimed
        ∙ ap (option_map (field_of (meant n) k at f aim.aim)) row
        ∙ ap (λ c. Some (row_field W32 z k (number_in z c at +ℤ pos f.fixup.displacement) k at aim.aim)) contents
        ∙ ap (λ (h : Fixed). Some (row_field W32 z k (number_in z (made_contents n (k, s)) at +ℤ pos h.fixup.displacement) k at aim.aim)) g.is_made
