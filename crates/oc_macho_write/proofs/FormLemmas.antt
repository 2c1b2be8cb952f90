-- The row of a form, as a look-up tells it: the number of its types, and what the addend has beyond the field.
use Rattle.std.proofs.Common.{◌≡◌, ℕ, ◌+◌, ◌<◌, Bool, true, false, true≢false, ◌&&◌, cond, ℤ, IsOk, Option, Some, None, map, inl, inr, refl, sym, ◌∙◌, ap, subst, arith}
use Rattle.std.specs.{Prelude.{◌⊎◌, pos, neg_ℤ, ◌-ℤ◌, ◌+ℤ◌, slice_get, find, nat_lt, is_ok, is_some, Ok}, Option.{option_map, option_map_or}}
use Rattle.std.proofs.lemmas.{Bool.{and_parts}, Bool.Decides.{nat_tests}, Option.{none-some, same_Some}}
use Rattle.oc_base.specs.{declared.format.Word.{Word}, declared.format.Word.TheVariants.{W32, W64}}
use Rattle.oc_linking.specs.{declared.terms.Hint.{Hint}, declared.terms.Hint.TheVariants.{Plain}, Numbers.{or_else}}
use Rattle.oc_linking.specs.declared.terms.Width.TheVariants as width
use Rattle.oc_algebra.specs.{declared.form.Form.{Form}, Fields.{to_field_of}}
use Rattle.oc_neutral.specs.declared.reloc.Reloc.{Reloc}
use Rattle.oc_neutral.specs.Rows.{Row, Taken, TakesZero, TakesPlace, TakesGotBase, TakesImageBase, TakesHome, TakesSection, same_taken, taken_of, shift_of}
use Rattle.oc_neutral.specs.{RelocTables.{rows_of}, Shifts.{entry_target_shift, written_shift}}
use Rattle.oc_neutral.specs.{Spelling.{is_written, numbers_in, row_taking, spelling_of, written_row}, Objects.{Object}}
use Rattle.oc_neutral.proofs.Mapped.{from_mapped}
use Rattle.oc_linking.proofs.Testing.{found_there}
use Rattle.oc_target.proofs.MeetsRows.{of_table, taken_is, width_is}
use Rattle.oc_target.specs.{declared.forms.Spelling.{Spelling}, Lookup.{answer_of}}
use Rattle.oc_target.specs.declared.forms.Spelling.TheVariants as spelling
use Rattle.oc_macho.specs.MachHeader.{mach_format}
use Rattle.oc_macho_file.specs.{Addresses.{address_of}, Bodies.{end_address, field_shift, entry_target_of, written_reloc_at, taken_section}}
use Rattle.oc_macho_file.specs.Bodies as bodies
use Rattle.oc_macho_file.proofs.CodedLaws.{word_back}
use Rattle.oc_macho_write.specs.{declared.forms.FieldContext.{FieldContext}, declared.forms.SpelledReloc.{SpelledReloc}}
use Rattle.oc_macho_write.specs.Forms.{CanWrite, FieldHolds, HasForm, HasPlace, IsFor, IsStanding, IsWritten}

-- ... the rows of the tables

-- a row is of a pair exactly where it takes a section
pairs_table : (w : Word) → map (λ (x : Row). is_some x.second) (rows_of (mach_format w)) ≡ map (λ (x : Row). same_taken x.taken TakesSection) (rows_of (mach_format w))
pairs_table W32 = refl
pairs_table W64 = refl

-- types are numbers of a byte
first_table : (w : Word) → map (λ (x : Row). nat_lt x.number 256) (rows_of (mach_format w)) ≡ map (λ (x : Row). true) (rows_of (mach_format w))
first_table W32 = refl
first_table W64 = refl

second_table : (w : Word) → map (λ (x : Row). option_map_or (λ m. nat_lt m 256) x.second true) (rows_of (mach_format w)) ≡ map (λ (x : Row). true) (rows_of (mach_format w))
second_table W32 = refl
second_table W64 = refl

-- in x86-64 a value that takes the place is counted from 4 bytes behind it
abbrev behind_by : Word → Row → ℕ
behind_by W32 x = cond (same_taken x.taken TakesPlace) 4 0
behind_by W64 x = x.behind

behind_table : (w : Word) → map (behind_by w) (rows_of (mach_format w)) ≡ map (λ (x : Row). cond (same_taken x.taken TakesPlace) 4 0) (rows_of (mach_format w))
behind_table W32 = refl
behind_table W64 = refl

-- ... the row that is found

-- it stands alone and takes what the form takes, or is of a pair and takes a section
pub data IsSpelled (form : Form) (row : Row) : Type 0 where
  SpelledAlone : row.second ≡ None → row.taken ≡ taken_of form.less → IsSpelled form row
  SpelledPair : (second : ℕ) → row.second ≡ Some second → second < 256 → row.taken ≡ TakesSection → IsSpelled form row

pub record IsRow (w : Word) (form : Form) (row : Row) : Type 0 where
  pub width : row.width ≡ form.width
  pub number : row.number < 256
  pub behind : behind_by w row ≡ cond (same_taken row.taken TakesPlace) 4 0
  pub spelled : IsSpelled form row

record IsFound (w : Word) (form : Form) (t : Taken) (row : Row) : Type 0 where
  position : ℕ
  there : slice_get (rows_of (mach_format w)) position ≡ Some row
  width : row.width ≡ form.width
  taken : row.taken ≡ t

from_find : (w : Word) (form : Form) (hint : Hint) (t : Taken) (row : Row) → find (is_written form hint t) (rows_of (mach_format w)) ≡ Some row → IsFound w form t row
from_find w form hint t row e =
    let f = found_there (is_written form hint t) (rows_of (mach_format w)) row e in
    let a = and_parts _ _ f.2 in
    let b = and_parts _ _ a.0 in
    let c = and_parts _ _ b.0 in
    let d = and_parts _ _ c.0 in
    let g = and_parts _ _ d.0 in
    record { position = f.0; there = f.1; width = width_is row.width form.width g.1; taken = taken_is row.taken t b.1 }

from_taking : (w : Word) (form : Form) (hint : Hint) (t : Taken) (row : Row) → row_taking (mach_format w) form hint t ≡ Some row → IsFound w form t row
from_taking w form hint t row e = by (find (is_written form hint t) (rows_of (mach_format w))) refl e
  where
    by : (o : Option Row) → find (is_written form hint t) (rows_of (mach_format w)) ≡ o → or_else o (find (is_written form Plain t) (rows_of (mach_format w))) ≡ Some row → IsFound w form t row
    by None h e = from_find w form Plain t row e
    by (Some r) h e = from_find w form hint t row (h ∙ e)

made_row : (w : Word) (form : Form) (t : Taken) (row : Row) → IsFound w form t row → (t ≡ taken_of form.less) ⊎ (t ≡ TakesSection) → IsRow w form row
made_row w form t row f takes = record {
  width = f.width;
  number = (let e : nat_lt row.number 256 ≡ true = of_table (λ (x : Row). nat_lt x.number 256) (λ (x : Row). true) (rows_of (mach_format w)) f.position row (first_table w) f.there in grind (arith, nat_tests, e));
  behind = of_table (behind_by w) (λ (x : Row). cond (same_taken x.taken TakesPlace) 4 0) (rows_of (mach_format w)) f.position row (behind_table w) f.there;
  spelled = by row.second refl
      (of_table (λ (x : Row). is_some x.second) (λ (x : Row). same_taken x.taken TakesSection) (rows_of (mach_format w)) f.position row (pairs_table w) f.there)
      (of_table (λ (x : Row). option_map_or (λ m. nat_lt m 256) x.second true) (λ (x : Row). true) (rows_of (mach_format w)) f.position row (second_table w) f.there)
      takes;
}
  where
    by : (o : Option ℕ) → row.second ≡ o → is_some row.second ≡ same_taken row.taken TakesSection → option_map_or (λ m. nat_lt m 256) row.second true ≡ true → (t ≡ taken_of form.less) ⊎ (t ≡ TakesSection) → IsSpelled form row
    by None e pair low (inl own) = SpelledAlone e (f.taken ∙ own)
    by None e pair low (inr section) = absurd (true≢false (ap (λ x. same_taken x TakesSection) (sym (f.taken ∙ section)) ∙ sym pair ∙ ap is_some e))
    by (Some m) e pair low takes =
        let small : nat_lt m 256 ≡ true = ap (λ o. option_map_or (λ m. nat_lt m 256) o true) (sym e) ∙ low in
        SpelledPair m e (grind (arith, nat_tests, small)) (taken_is row.taken TakesSection (sym pair ∙ ap is_some e))

-- the row that is written for a form
pub row_is : (w : Word) (form : Form) (hint : Hint) (row : Row) → written_row (mach_format w) form hint ≡ Some row → IsRow w form row
unfolding written_row
row_is w form hint row e = by (row_taking (mach_format w) form hint (taken_of form.less)) refl e
  where
    section_less : (b : Bool) → cond b (row_taking (mach_format w) form hint TakesSection) None ≡ Some row → IsRow w form row
    section_less false h = absurd (none-some row h)
    section_less true h = made_row w form TakesSection row (from_taking w form hint TakesSection row h) (inr refl)

    by : (o : Option Row) → row_taking (mach_format w) form hint (taken_of form.less) ≡ o
        → or_else o (cond (same_taken (taken_of form.less) TakesPlace) (row_taking (mach_format w) form hint TakesSection) None) ≡ Some row → IsRow w form row
    by None h e = section_less (same_taken (taken_of form.less) TakesPlace) e
    by (Some r) h e = made_row w form (taken_of form.less) row (from_taking w form hint (taken_of form.less) row (h ∙ e)) (inl refl)

-- ... what a look-up tells

-- one number is told exactly of a row that stands alone, and two of one of a pair
pub one_told : (a m : ℕ) (o : Option ℕ) → answer_of (Some (numbers_in a o)) ≡ Ok (spelling.One m) → (o ≡ None) × (a ≡ m)
one_told a m None e = (refl, cc e)
one_told a m (Some b) e = absurd (cc e)

pub pair_told : (a m k : ℕ) (o : Option ℕ) → answer_of (Some (numbers_in a o)) ≡ Ok (spelling.Pair m k) → (o ≡ Some k) × (a ≡ m)
pair_told a m k None e = absurd (cc e)
pair_told a m k (Some b) e = (ap (λ z. Some z) (cc e), cc e)

-- a relocation with a row of its format
abbrev standing : ℕ → ℕ → Reloc → Row → bodies.WrittenReloc
standing s at r row = record { section = s; at = at; reloc = r; row = row }

-- where the format has its form, a look-up tells how it is written
pub has_answer : (w : Word) (s at : ℕ) (r : Reloc) → HasForm w s at r → IsOk (answer_of (spelling_of (mach_format w) r.form r.hint))
has_answer w s at r has =
    let row = from_mapped (standing s at r) (written_row (mach_format w) r.form r.hint) has.written has.there in
    subst (λ (o : Option Row). IsOk (answer_of (option_map (λ (y : Row). numbers_in y.number y.second) o))) (sym row.1) refl

pub told : (w : Word) (s at : ℕ) (r : Reloc) (x : Spelling) → answer_of (spelling_of (mach_format w) r.form r.hint) ≡ Ok x
    → (is : bodies.WrittenReloc) → written_reloc_at w s at r ≡ Some is → IsWritten w (record { section = s; at = at; reloc = r; spelling = x }) is
told w s at r x e is there =
    let row = from_mapped (standing s at r) (written_row (mach_format w) r.form r.hint) is there in
    subst (IsWritten w (record { section = s; at = at; reloc = r; spelling = x })) row.2 (record {
      section = refl;
      at = refl;
      reloc = refl;
      row = row.1;
      spelled = ap (λ (o : Option Row). answer_of (option_map (λ (y : Row). numbers_in y.number y.second) o)) (sym row.1) ∙ e;
    })

-- ... a relocation that stands

-- the answer of a field is the one for the number that is written
pub field_same : (w v : Word) (n : Object) (y : SpelledReloc) (is : bodies.WrittenReloc) (shift addend : ℤ) → v ≡ w → IsWritten w y is → shift ≡ field_shift w n is → addend ≡ y.reloc.addend
    → to_field_of v y.reloc.form.width shift addend ≡ to_field_of w is.reloc.form.width (field_shift w n is) is.reloc.addend
field_same w v n y is shift addend word written shifted same =
    ap (λ z. to_field_of z y.reloc.form.width shift addend) word
    ∙ ap (λ z. to_field_of w y.reloc.form.width z addend) shifted
    ∙ ap (to_field_of w y.reloc.form.width (field_shift w n is)) same
    ∙ ap (λ (r : Reloc). to_field_of w r.form.width (field_shift w n is) r.addend) written.reloc

-- which is a number
pub field_held : (w : Word) (n : Object) (y : SpelledReloc) (is : bodies.WrittenReloc) (shift addend : ℤ) → IsWritten w y is → shift ≡ field_shift w n is → addend ≡ y.reloc.addend → FieldHolds w n is
    → IsOk (to_field_of w y.reloc.form.width shift addend)
field_held w n y is shift addend written shifted same holds =
    ap is_ok (field_same w w n y is shift addend refl written shifted same ∙ ap (λ v. to_field_of v is.reloc.form.width (field_shift w n is) is.reloc.addend) (sym (word_back w)) ∙ holds.1)

module _ (w : Word) (y : SpelledReloc) (is : bodies.WrittenReloc) (written : IsWritten w y is) where
  -- its row
  pub its_row : IsRow w y.reloc.form is.row
  its_row = subst (λ (r : Reloc). IsRow w r.form is.row) (sym written.reloc) (row_is w is.reloc.form is.reloc.hint is.row written.row)

  pub spelled_one : (m : ℕ) → y.spelling ≡ spelling.One m → (is.row.second ≡ None) × (is.row.number ≡ m)
  spelled_one m e = one_told is.row.number m is.row.second (written.spelled ∙ ap (λ z. Ok z) e)

  pub spelled_pair : (m k : ℕ) → y.spelling ≡ spelling.Pair m k → (is.row.second ≡ Some k) × (is.row.number ≡ m)
  spelled_pair m k e = pair_told is.row.number m k is.row.second (written.spelled ∙ ap (λ z. Ok z) e)

-- what it refers to is there
pub stands_for : (x : FieldContext) (y : SpelledReloc) (s at : ℕ) (r : Reloc) (can : CanWrite x s at r) → IsWritten x.word y can.form.written → IsStanding x y
stands_for x y s at r can written =
    let is = can.form.written in
    let own = (from_mapped (standing s at r) (written_row (mach_format x.word) r.form r.hint) is can.form.there).2 in
    let section : s ≡ y.section = ap (λ (z : bodies.WrittenReloc). z.section) own ∙ sym written.section in
    let reloc : r ≡ y.reloc = ap (λ (z : bodies.WrittenReloc). z.reloc) own ∙ sym written.reloc in
    record {
      there = subst (λ k. IsFor x k y.reloc) section (subst (IsFor x s) reloc can.there);
      ends = λ short first second pair. subst (λ (q : Reloc). HasPlace x q.target) reloc (can.ends short (ap is_some (spelled_pair x.word y is written first second pair).0));
    }

-- where it takes nothing, or what its form takes
alone_takes : (form : Form) (row : Row) → IsSpelled form row → row.second ≡ None → row.taken ≡ taken_of form.less
alone_takes form row (SpelledAlone none taken) e = taken
alone_takes form row (SpelledPair m some low taken) e = absurd (none-some m (sym e ∙ some))

pub pair_takes : (form : Form) (row : Row) (k : ℕ) → IsSpelled form row → row.second ≡ Some k → (row.taken ≡ TakesSection) × (k < 256)
pair_takes form row k (SpelledAlone none taken) e = absurd (none-some k (sym none ∙ e))
pair_takes form row k (SpelledPair m some low taken) e = (taken, subst (λ z. z < 256) (same_Some m k (sym some ∙ e)) low)

-- an entry that stands alone is self-relative where the form takes the place, and one of a pair never
pub alone_relative : (w : Word) (y : SpelledReloc) (is : bodies.WrittenReloc) → IsWritten w y is → is.row.second ≡ None → same_taken is.row.taken TakesPlace ≡ same_taken (taken_of y.reloc.form.less) TakesPlace
alone_relative w y is written none = ap (λ t. same_taken t TakesPlace) (alone_takes y.reloc.form is.row (its_row w y is written).spelled none)

pub pair_absolute : (w : Word) (y : SpelledReloc) (is : bodies.WrittenReloc) (k : ℕ) → IsWritten w y is → is.row.second ≡ Some k → same_taken is.row.taken TakesPlace ≡ false
pair_absolute w y is k written some = ap (λ t. same_taken t TakesPlace) (pair_takes y.reloc.form is.row k (its_row w y is written).spelled some).0

-- ... what the addend has beyond the field

module _ (n : Object) (y : SpelledReloc) (is : bodies.WrittenReloc) (written : IsWritten W32 y is) where
  pub alone_32 : (m taken said : ℕ) → y.spelling ≡ spelling.One m → taken ≡ cond (same_taken (taken_of y.reloc.form.less) TakesPlace) (address_of n y.section + y.at) 0
      → neg_ℤ (pos said) ≡ entry_target_shift (entry_target_of n y.reloc.target) → pos taken -ℤ pos said ≡ field_shift W32 n is
  alone_32 m taken said one takes says =
      let none = (spelled_one W32 y is written m one).0 in
      let same = alone_relative W32 y is written none in
      ap (λ z. pos z +ℤ neg_ℤ (pos said)) takes
      ∙ ap (λ z. pos (cond (same_taken (taken_of y.reloc.form.less) TakesPlace) (address_of n y.section + y.at) 0) +ℤ z) says
      ∙ ap (λ z. z +ℤ entry_target_shift (entry_target_of n y.reloc.target)) (by (same_taken (taken_of y.reloc.form.less) TakesPlace))
      ∙ ap (λ b. cond b (pos (address_of n y.section + y.at)) (pos 0) +ℤ entry_target_shift (entry_target_of n y.reloc.target)) (sym same)
      ∙ ap (λ s. cond (same_taken is.row.taken TakesPlace) (pos (address_of n s + y.at)) (pos 0) +ℤ entry_target_shift (entry_target_of n y.reloc.target)) written.section
      ∙ ap (λ p. cond (same_taken is.row.taken TakesPlace) (pos (address_of n is.section + p)) (pos 0) +ℤ entry_target_shift (entry_target_of n y.reloc.target)) written.at
      ∙ ap (λ (r : Reloc). cond (same_taken is.row.taken TakesPlace) (pos (address_of n is.section + is.at)) (pos 0) +ℤ entry_target_shift (entry_target_of n r.target)) written.reloc
      ∙ ap (λ o. option_map_or (λ (second : ℕ). bodies.pair_shift n is) o (bodies.alone_shift n is)) (sym none)
    where
      by : (b : Bool) → pos (cond b (address_of n y.section + y.at) 0) ≡ cond b (pos (address_of n y.section + y.at)) (pos 0)
      by true = refl
      by false = refl

  pub pair_32 : (m k less address : ℕ) → y.spelling ≡ spelling.Pair m k → less ≡ address_of n (taken_section is) → address ≡ end_address n y.reloc.target → pos less -ℤ pos address ≡ field_shift W32 n is
  pair_32 m k less address pair takes ends =
      ap (λ z. pos z -ℤ pos address) takes ∙ ap (λ z. pos (address_of n (taken_section is)) -ℤ pos z) (ends ∙ ap (λ (r : Reloc). end_address n r.target) written.reloc)
      ∙ ap (λ o. option_map_or (λ (second : ℕ). bodies.pair_shift n is) o (bodies.alone_shift n is)) (sym (spelled_pair W32 y is written m k pair).0)

-- nothing is taken that is both
apart : (t : Taken) → (same_taken t TakesSection && same_taken t TakesPlace) ≡ false
apart TakesZero = refl
apart TakesPlace = refl
apart TakesGotBase = refl
apart TakesImageBase = refl
apart TakesHome = refl
apart TakesSection = refl

module _ (n : Object) (y : SpelledReloc) (is : bodies.WrittenReloc) (written : IsWritten W64 y is) where
  shifted : written_shift y.at y.reloc.form.less is.row ≡ field_shift W64 n is
  shifted = ap (λ p. written_shift p y.reloc.form.less is.row) written.at ∙ ap (λ (r : Reloc). written_shift is.at r.form.less is.row) written.reloc

  pub alone_64 : is.row.second ≡ None → neg_ℤ (pos (cond (same_taken (taken_of y.reloc.form.less) TakesPlace) 4 0)) ≡ field_shift W64 n is
  alone_64 none =
      let row = its_row W64 y is written in
      let taken = alone_takes y.reloc.form is.row row.spelled none in
      let behind : is.row.behind ≡ cond (same_taken (taken_of y.reloc.form.less) TakesPlace) 4 0 = row.behind ∙ ap (λ t. cond (same_taken t TakesPlace) 4 0) taken in
      ap (λ z. neg_ℤ (pos z)) (sym behind)
      ∙ ap (λ b. cond b (pos y.at) (shift_of is.row)) (sym (apart (taken_of y.reloc.form.less)))
      ∙ ap (λ t. cond (same_taken t TakesSection && same_taken (taken_of y.reloc.form.less) TakesPlace) (pos y.at) (shift_of is.row)) (sym taken)
      ∙ shifted

  pub pair_64 : (k : ℕ) → is.row.second ≡ Some k → cond (same_taken (taken_of y.reloc.form.less) TakesPlace) (pos y.at) (pos 0) ≡ field_shift W64 n is
  pair_64 k some =
      let row = its_row W64 y is written in
      let taken = (pair_takes y.reloc.form is.row k row.spelled some).0 in
      let behind : is.row.behind ≡ 0 = row.behind ∙ ap (λ t. cond (same_taken t TakesPlace) 4 0) taken in
      ap (λ z. cond (same_taken (taken_of y.reloc.form.less) TakesPlace) (pos y.at) (neg_ℤ (pos z))) (sym behind)
      ∙ ap (λ t. cond (same_taken t TakesSection && same_taken (taken_of y.reloc.form.less) TakesPlace) (pos y.at) (shift_of is.row)) (sym taken)
      ∙ shifted

  -- where no place is taken it is 0
  pub none_64 : same_taken (taken_of y.reloc.form.less) TakesPlace ≡ false → pos 0 ≡ field_shift W64 n is
  none_64 other = by is.row.second refl
    where
      by : (o : Option ℕ) → is.row.second ≡ o → pos 0 ≡ field_shift W64 n is
      by None e = ap (λ b. neg_ℤ (pos (cond b 4 0))) (sym other) ∙ alone_64 e
      by (Some k) e = ap (λ b. cond b (pos y.at) (pos 0)) (sym other) ∙ pair_64 k e
