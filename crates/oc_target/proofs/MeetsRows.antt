-- The row that is written for a form means that form, and stands in the table.
use Rattle.std.proofs.Common.{◌≡◌, ℕ, suc, Bool, true, false, cond, List, [], ◌∷◌, map, Option, Some, None, inl, inr, refl, sym, ◌∙◌, ap, subst, arith}
use Rattle.std.specs.Prelude.{◌⊎◌, slice_get, find}
use Rattle.std.proofs.lemmas.{Bool.{true≢false, and_parts}, Option.{none-some, same_Some}}
use Rattle.oc_base.specs.{declared.format.Format.{Format}, declared.format.Format.TheVariants.{Elf32, Elf64, Mac32, Mac64, BigElf32, BigElf64}}
use Rattle.oc_linking.specs.{declared.terms.Width.{Width}, declared.terms.Width.TheVariants.{One, Two, Four, Eight}, declared.terms.Check.{Check}}
use Rattle.oc_linking.specs.{declared.terms.Check.TheVariants.{Wrap, Signed, Unsigned, Either}, declared.terms.Hint.{Hint}}
use Rattle.oc_linking.specs.{declared.terms.Hint.TheVariants.{Plain, Call}, declared.terms.Base.{Base}}
use Rattle.oc_linking.specs.{declared.terms.Base.TheVariants.{Address, Slot, GotBase, HomeNumber}, declared.terms.Less.{Less}, Numbers.{or_else}}
use Rattle.oc_linking.specs.declared.terms.Less.TheVariants as less
use Rattle.oc_linking.proofs.Testing.{found_there}
use Rattle.oc_algebra.specs.declared.form.Form.{Form}
use Rattle.oc_target.specs.Meets.{has_calls, IsTakenBy, IsRowFor}
use Rattle.oc_neutral.specs.RelocTables.{rows_of}
use Rattle.oc_neutral.specs.Rows.{Row, Taken, TakesPlace, TakesSection, taken_of, same_width, same_check, same_base, same_taken, same_hint}
use Rattle.oc_neutral.specs.Spelling.{is_written, row_taking, written_row}
use Rattle.oc_neutral.proofs.Positions.{images_same}

-- ... tests that decide

pub width_is : (a b : Width) → same_width a b ≡ true → a ≡ b
width_is a b e = grind arith

check_is : (a b : Check) → same_check a b ≡ true → a ≡ b
check_is a b e = grind arith

base_is : (a b : Base) → same_base a b ≡ true → a ≡ b
base_is a b e = grind arith

pub taken_is : (a b : Taken) → same_taken a b ≡ true → a ≡ b
taken_is a b e = grind arith

hint_is : (a b : Hint) → same_hint a b ≡ true → a ≡ b
hint_is a b e = grind arith

-- ... facts of tables

-- what holds of each row of a table, as two lists are computed
pub of_table : {X : Type 0} (f g : Row → X) (rows : List Row) (k : ℕ) (row : Row) → map f rows ≡ map g rows → slice_get rows k ≡ Some row → f row ≡ g row
of_table f g rows k row same here = images_same f g rows rows same k row row here here

-- what is known of a row that takes this, and has the hint or none
pub record IsFoundRow (format : Format) (form : Form) (wanted : Hint) (t : Taken) (row : Row) : Type 0 where
  pub position : ℕ
  pub there : slice_get (rows_of format) position ≡ Some row
  pub canonical : row.canonical ≡ true
  pub width : row.width ≡ form.width
  pub check : row.check ≡ form.check
  pub base : row.base ≡ form.base
  pub taken : row.taken ≡ t
  pub hint : (row.hint ≡ wanted) ⊎ (row.hint ≡ Plain)

-- the place alone is taken so
place_alone : (l : Less) → same_taken (taken_of l) TakesPlace ≡ true → l ≡ less.Place
place_alone l e = grind arith

-- the form of four bytes that are called
abbrev call_form : Check → Form
call_form c = record { base = Address; less = less.Place; width = Four; check = c }

-- a distance
abbrev place_form : Base → Width → Check → Form
place_form b k c = record { base = b; less = less.Place; width = k; check = c }

-- mac32 has a distance wherever it has a difference of that form
mac32_places : (b : Base) (k : Width) (c : Check) (h : Hint) (row : Row)
    → row_taking Mac32 (place_form b k c) h TakesPlace ≡ None → row_taking Mac32 (place_form b k c) h TakesSection ≡ Some row → ⊥
mac32_places b One c h row none some = none-some row some
mac32_places b Two c h row none some = none-some row some
mac32_places b Eight c h row none some = none-some row some
mac32_places b Four Signed h row none some = none-some row some
mac32_places b Four Unsigned h row none some = none-some row some
mac32_places b Four Either h row none some = none-some row some
mac32_places Slot Four Wrap h row none some = none-some row some
mac32_places GotBase Four Wrap h row none some = none-some row some
mac32_places HomeNumber Four Wrap h row none some = none-some row some
mac32_places Address Four Wrap Plain row none some = none-some _ (sym none)
mac32_places Address Four Wrap Call row none some = none-some _ (sym none)

module _ (format : Format) (form : Form) where
  from_find : (wanted hint : Hint) (t : Taken) (row : Row) → (hint ≡ wanted) ⊎ (hint ≡ Plain) → find (is_written form hint t) (rows_of format) ≡ Some row → IsFoundRow format form wanted t row
  from_find wanted hint t row either e =
      let f = found_there (is_written form hint t) (rows_of format) row e in
      let a = and_parts _ _ f.2 in
      let b = and_parts _ _ a.0 in
      let c = and_parts _ _ b.0 in
      let d = and_parts _ _ c.0 in
      let g = and_parts _ _ d.0 in
      let own : row.hint ≡ hint = hint_is row.hint hint a.1 in
      record {
        position = f.0;
        there = f.1;
        canonical = g.0;
        width = width_is row.width form.width g.1;
        check = check_is row.check form.check d.1;
        base = base_is row.base form.base c.1;
        taken = taken_is row.taken t b.1;
        hint = elim either [ inl x ↦ inl (own ∙ x) | inr x ↦ inr (own ∙ x) ];
      }

  from_taking : (hint : Hint) (t : Taken) (row : Row) → row_taking format form hint t ≡ Some row → IsFoundRow format form hint t row
  from_taking hint t row e = by (find (is_written form hint t) (rows_of format)) refl e
    where
      by : (o : Option Row) → find (is_written form hint t) (rows_of format) ≡ o → or_else o (find (is_written form Plain t) (rows_of format)) ≡ Some row → IsFoundRow format form hint t row
      by None h e = from_find hint Plain t row (inr refl) e
      by (Some r) h e = from_find hint hint t row (inl refl) (h ∙ e)

-- a table in which nothing takes a section
takes_none : (format : Format) (form : Form) (hint : Hint) (row : Row) → map (λ r. same_taken r.taken TakesSection) (rows_of format) ≡ map (λ r. false) (rows_of format)
    → row_taking format form hint TakesSection ≡ Some row → ⊥
takes_none format form hint row lacks some =
    let f = from_taking format form hint TakesSection row some in
    true≢false (ap (λ t. same_taken t TakesSection) (sym f.taken) ∙ of_table (λ r. same_taken r.taken TakesSection) (λ r. false) (rows_of format) f.position row lacks f.there)

-- only mac64 takes a section where a place is taken
section_for_place : (format : Format) (form : Form) (hint : Hint) (row : Row) → form.less ≡ less.Place → row_taking format form hint TakesPlace ≡ None
    → row_taking format form hint TakesSection ≡ Some row → format ≡ Mac64
section_for_place Mac64 form hint row place none some = refl
section_for_place Mac32 form hint row place none some =
    let same : form ≡ place_form form.base form.width form.check = ap (λ l. record { base = form.base; less = l; width = form.width; check = form.check }) place in
    absurd (mac32_places form.base form.width form.check hint row (subst (λ f. row_taking Mac32 f hint TakesPlace ≡ None) same none) (subst (λ f. row_taking Mac32 f hint TakesSection ≡ Some row) same some))
section_for_place format form hint row place none some = absurd (takes_none format form hint row refl some)

-- a call has the row of a call, where the format has one
called : (format : Format) (c : Check) (row : Row) → written_row format (call_form c) Call ≡ Some row
    → (k : ℕ) → slice_get (rows_of format) k ≡ Some row → row.hint ≡ cond (has_calls format) Call Plain
unfolding written_row
called Elf32 Wrap row e k there = ap (λ (r : Row). r.hint) (sym (same_Some _ row e))
called BigElf32 Wrap row e k there = ap (λ (r : Row). r.hint) (sym (same_Some _ row e))
called Elf64 Signed row e k there = ap (λ (r : Row). r.hint) (sym (same_Some _ row e))
called BigElf64 Signed row e k there = ap (λ (r : Row). r.hint) (sym (same_Some _ row e))
called Mac64 Signed row e k there = ap (λ (r : Row). r.hint) (sym (same_Some _ row e))
called Elf32 c row e k there = absurd (none-some row e)
called BigElf32 c row e k there = absurd (none-some row e)
called Elf64 c row e k there = absurd (none-some row e)
called BigElf64 c row e k there = absurd (none-some row e)
called Mac64 c row e k there = absurd (none-some row e)
called format c row e k there = of_table (λ r. r.hint) (λ r. Plain) (rows_of format) k row refl there

-- a hint Call stands only with the distance from the field's place, in four bytes
abbrev pub IsCallForm : Form → Hint → Type 0
IsCallForm form hint = hint ≡ Call → (form.base ≡ Address) × (form.less ≡ less.Place) × (form.width ≡ Four)

-- the hint of the row
hinted : (format : Format) (form : Form) (hint : Hint) (row : Row) → IsCallForm form hint → written_row format form hint ≡ Some row
    → (k : ℕ) → slice_get (rows_of format) k ≡ Some row → (row.hint ≡ hint) ⊎ (row.hint ≡ Plain) → row.hint ≡ cond (has_calls format) hint Plain
hinted format form Plain row call e k there either =
    let plain : row.hint ≡ Plain = elim either [ inl x ↦ x | inr x ↦ x ] in
    plain ∙ one (has_calls format)
  where
    one : (b : Bool) → Plain ≡ cond b Plain Plain
    one true = refl
    one false = refl
hinted format form Call row call e k there either =
    let is = call refl in
    let with : Base → Less → Width → Form = λ b l w. record { base = b; less = l; width = w; check = form.check } in
    let same : form ≡ call_form form.check
    = ap (λ b. with b form.less form.width) is.0 ∙ ap (λ l. with Address l form.width) is.1 ∙ ap (with Address less.Place) is.2 in
    called format form.check row (subst (λ f. written_row format f Call ≡ Some row) same e) k there

-- so a row that is written for a form means it
pub row_means : (format : Format) (form : Form) (hint : Hint) (row : Row) → IsCallForm form hint → written_row format form hint ≡ Some row → IsRowFor format form hint row
unfolding written_row
row_means format form hint row call e = by (row_taking format form hint (taken_of form.less)) refl e
  where
    made : (t : Taken) → IsFoundRow format form hint t row → IsTakenBy format form.less t → IsRowFor format form hint row
    made t f taken = record {
      written = e;
      position = f.position;
      there = f.there;
      canonical = f.canonical;
      width = f.width;
      check = f.check;
      base = f.base;
      taken = subst (IsTakenBy format form.less) (sym f.taken) taken;
      hint = hinted format form hint row call e f.position f.there f.hint;
    }

    second : row_taking format form hint (taken_of form.less) ≡ None → (b : Bool) → same_taken (taken_of form.less) TakesPlace ≡ b
        → cond b (row_taking format form hint TakesSection) None ≡ Some row → IsRowFor format form hint row
    second none true p h =
        let place = place_alone form.less p in
        made TakesSection (from_taking format form hint TakesSection row h)
        (inr (section_for_place format form hint row place (ap (λ l. row_taking format form hint (taken_of l)) (sym place) ∙ none) h, place, refl))
    second none false p h = absurd (none-some row h)

    by : (o : Option Row) → row_taking format form hint (taken_of form.less) ≡ o
        → or_else o (cond (same_taken (taken_of form.less) TakesPlace) (row_taking format form hint TakesSection) None) ≡ Some row → IsRowFor format form hint row
    by None h e = second h (same_taken (taken_of form.less) TakesPlace) refl e
    by (Some r) h e = made (taken_of form.less) (from_taking format form hint (taken_of form.less) row (h ∙ e)) (inl refl)
