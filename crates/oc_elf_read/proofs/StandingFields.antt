-- The fields of a file without faults, each with the relocation that is given for it.
use Rattle.std.proofs.Common.{◌≡◌, ℕ, ◌+◌, ◌<◌, ◌≤◌, ◌⊎◌, inl, inr, Bool, true, false, cond, Option, None, Some, refl, sym, ◌∙◌, ap, subst, arith}
use Rattle.std.specs.{Prelude.{◌&&◌, slice_get}, Option.{option_map_or, option_and_then}}
use Rattle.std.proofs.lemmas.{Bool.{true≢false}, Option.{none-some, same_Some}}
use Rattle.oc_linking.specs.{declared.terms.Keep.{Keep}, declared.terms.Width.{Width}, Fits.{bytes_of}, Keeping.{keeps}, Numbers.{first_upto}, Rules.{Field}}
use Rattle.oc_linking.specs.declared.terms.Less.TheVariants as less
use Rattle.oc_linking.specs.Parts as parts
use Rattle.oc_neutral.specs.{declared.reloc.Reloc.{Reloc}, Dialects.{kept_fields}, Faces.{shown_symbols}, Objects.{Object}}
use Rattle.oc_neutral.specs.Rows.{Row, Taken, TakesSection, less_of, same_taken}
use Rattle.oc_shows.specs.Built.{AreApart, AreOfFile, DifferencesFit, IsField, IsFree, IsGiven}
use Rattle.oc_elf.specs.{declared.rel.Rel.{Rel}, CarriedSections.{sections_of}, Elf.{elf_dialect}, Fields.{field_by, is_idle, rel_at, row_for, width_of}}
use Rattle.oc_elf.specs.{Frames.{FileFrame}, Laid.{IsFrame}, RelocRules.{entry_fault}, Sections.{kind_of}, Tables.{reloc_count, reloc_of}}
use Rattle.oc_elf_read.specs.Given.{given_at, reloc_by}
use Rattle.oc_elf_read.proofs.{ApartEntries.{IsFit, apart_at, fit_at}, CarriedLemmas.{IsHere, kind_here, number_here, section_here}}
use Rattle.oc_elf_read.proofs.{FoundFields.{IsClean, IsEntry, entries_clean, entry_found, kept_here, none_here}, GivenFields.{IsMeant, meant}}
use Rattle.oc_elf_read.proofs.RowLemmas.{IsRow, is_row}
use Rattle.oc_elf_judge.proofs.{RelocLemmas.{IsGood}, SectionLemmas.{here}}
use Rattle.oc_shows.proofs.GivenLaws as laws

-- a row of ELF takes no section
no_section : (row : Row) (k : ℕ) → IsRow row → less_of row.taken 0 ≡ less.Section k → ⊥
no_section row k is e = by row.taken is.alone e
  where
    by : (t : Taken) → same_taken t TakesSection ≡ false → less_of t 0 ≡ less.Section k → ⊥
    by t n e = grind arith

-- the width of a field is that of its row
row_width : (f : FileFrame) (r : Rel) (row : Row) → row_for f r ≡ Some row → width_of f r ≡ bytes_of row.width
row_width f r row e = ap (λ (o : Option Row). option_map_or (λ (x : Row). bytes_of x.width) o 0) e

module _ (f : FileFrame) (keep : Keep) (frame : IsFrame f) (clean : IsClean f keep) (n : Object) (symbols : shown_symbols n ≡ (elf_dialect f.class).rules.symbols f.file keep) where
  -- an entry stands at an offset of the section at position s
  pub record IsStanding (s at : ℕ) : Type 0 where
    pub x : parts.Section
    pub there : slice_get (sections_of f) s ≡ Some x
    pub kept : keeps keep x.kind ≡ true
    pub k : ℕ
    pub below : k < reloc_count f x.number
    pub busy : is_idle (reloc_of f x.number k) ≡ false
    pub entries : first_upto (entry_fault f x.number) (reloc_count f x.number) ≡ None
    pub good : IsGood f x.number (reloc_of f x.number k)
    pub meant : IsMeant f keep frame clean n symbols s x.contents (reloc_of f x.number k) good.row
    pub offset : (reloc_of f x.number k).r_offset ≡ at
    pub field : kept_fields (elf_dialect f.class) f.file keep s at ≡ Some meant.field
    pub given : given_at f keep s at ≡ Some meant.reloc

  -- what is given in a kept section
  given_here : (s at : ℕ) (x : parts.Section) → slice_get (sections_of f) s ≡ Some x → given_at f keep s at ≡ cond (keeps keep x.kind) (option_and_then (reloc_by f x.contents) (rel_at f x.number at)) None
  unfolding given_at
  given_here s at x e = ap (λ (o : Option parts.Section). option_and_then (λ (y : parts.Section). cond (keeps keep y.kind) (option_and_then (reloc_by f y.contents) (rel_at f y.number at)) None) o) e

  given_nowhere : (s at : ℕ) → slice_get (sections_of f) s ≡ None → given_at f keep s at ≡ None
  unfolding given_at
  given_nowhere s at e = ap (λ (o : Option parts.Section). option_and_then (λ (y : parts.Section). cond (keeps keep y.kind) (option_and_then (reloc_by f y.contents) (rel_at f y.number at)) None) o) e

  -- the entries of a section that is kept have no fault
  pub section_clean : (s : ℕ) (x : parts.Section) → slice_get (sections_of f) s ≡ Some x → keeps keep x.kind ≡ true → first_upto (entry_fault f x.number) (reloc_count f x.number) ≡ None
  section_clean s x there kept =
      let m : IsHere f s x = section_here f s x there in
      subst (λ (i : ℕ). first_upto (entry_fault f i) (reloc_count f i) ≡ None) (sym (number_here f s x m))
      (entries_clean f keep m.k clean.relocs m.low
      (ap (λ b. b && keeps keep (kind_of f (here f m.k))) m.carried ∙ ap (keeps keep) (sym (kind_here f s x m)) ∙ kept))

  -- what is found at an offset stands there
  pub stands : (s at : ℕ) (x : parts.Section) (r : Rel) → slice_get (sections_of f) s ≡ Some x → keeps keep x.kind ≡ true → rel_at f x.number at ≡ Some r → IsStanding s at
  stands s at x r e kept rel =
      let entry : IsEntry f x.number at r = entry_found f x.number at r rel in
      let entries = section_clean s x e kept in
      let fit : IsFit f x.number entry.k = fit_at f x.number entries entry.k entry.below entry.busy in
      let m : IsMeant f keep frame clean n symbols s x.contents (reloc_of f x.number entry.k) fit.good.row = meant f keep frame clean n symbols s x.contents x.number (reloc_of f x.number entry.k) fit.good in
      record {
        x = x;
        there = e;
        kept = kept;
        k = entry.k;
        below = entry.below;
        busy = entry.busy;
        entries = entries;
        good = fit.good;
        meant = m;
        offset = ap (λ (q : Rel). q.r_offset) entry.is ∙ entry.offset;
        field = kept_here f frame keep s at x e ∙ ap (λ b. cond b (option_and_then (field_by f s x.contents) (rel_at f x.number at)) None) kept ∙ ap (option_and_then (field_by f s x.contents)) rel
            ∙ ap (field_by f s x.contents) (sym entry.is) ∙ m.here;
        given = given_here s at x e ∙ ap (λ b. cond b (option_and_then (reloc_by f x.contents) (rel_at f x.number at)) None) kept ∙ ap (option_and_then (reloc_by f x.contents)) rel
            ∙ ap (reloc_by f x.contents) (sym entry.is) ∙ m.there;
      }

  -- at each offset stands an entry, or nothing is given
  pub each_offset : (s at : ℕ) → IsFree (elf_dialect f.class) f.file keep (given_at f keep) s at ⊎ IsStanding s at
  each_offset s at = by (slice_get (sections_of f) s) refl
    where
      by : (o : Option parts.Section) → slice_get (sections_of f) s ≡ o → IsFree (elf_dialect f.class) f.file keep (given_at f keep) s at ⊎ IsStanding s at
      by None e = inl (record { field = none_here f frame keep s at e; none = given_nowhere s at e })
      by (Some x) e = of (keeps keep x.kind) (rel_at f x.number at) refl refl
        where
          of : (b : Bool) (o : Option Rel) → keeps keep x.kind ≡ b → rel_at f x.number at ≡ o → IsFree (elf_dialect f.class) f.file keep (given_at f keep) s at ⊎ IsStanding s at
          of false o kept rel = inl (record {
            field = kept_here f frame keep s at x e ∙ ap (λ b. cond b (option_and_then (field_by f s x.contents) (rel_at f x.number at)) None) kept;
            none = given_here s at x e ∙ ap (λ b. cond b (option_and_then (reloc_by f x.contents) (rel_at f x.number at)) None) kept;
          })
          of true None kept rel = inl (record {
            field = kept_here f frame keep s at x e ∙ ap (λ b. cond b (option_and_then (field_by f s x.contents) (rel_at f x.number at)) None) kept ∙ ap (option_and_then (field_by f s x.contents)) rel;
            none = given_here s at x e ∙ ap (λ b. cond b (option_and_then (reloc_by f x.contents) (rel_at f x.number at)) None) kept ∙ ap (option_and_then (reloc_by f x.contents)) rel;
          })
          of true (Some r) kept rel = inr (stands s at x r e kept rel)

  -- what stands there is given
  standing_given : (s at : ℕ) → IsStanding s at → IsGiven (elf_dialect f.class) f.file keep n (given_at f keep) s at
  standing_given s at m = record {
    field = m.meant.field;
    reloc = m.meant.reloc;
    here = m.field;
    there = m.given;
    is = subst (λ (x : ℕ). IsField (elf_dialect f.class) f.file keep n s x m.meant.reloc m.meant.field) m.offset m.meant.is;
  }

  pub free_or_given : (s at : ℕ) → IsFree (elf_dialect f.class) f.file keep (given_at f keep) s at ⊎ IsGiven (elf_dialect f.class) f.file keep n (given_at f keep) s at
  free_or_given s at = elim (each_offset s at) [ inl free ↦ inl free | inr m ↦ inr (standing_given s at m) ]

  -- a field that stands there
  pub field_standing : (s at : ℕ) (x : Field) → kept_fields (elf_dialect f.class) f.file keep s at ≡ Some x → IsStanding s at
  field_standing s at x e = elim (each_offset s at) [ inl free ↦ absurd (none-some x (sym free.field ∙ e)) | inr m ↦ m ]

  pub given_standing : (s at : ℕ) (r : Reloc) → given_at f keep s at ≡ Some r → IsStanding s at
  given_standing s at r e = elim (each_offset s at) [ inl free ↦ absurd (none-some r (sym free.none ∙ e)) | inr m ↦ m ]

  -- what is given are fields of the file
  pub are_of_file : AreOfFile (elf_dialect f.class) f.file keep n (given_at f keep)
  are_of_file = laws.are_of_file (elf_dialect f.class) f.file keep n (given_at f keep) free_or_given

  -- its width
  field_width : (s at : ℕ) (x : Field) → kept_fields (elf_dialect f.class) f.file keep s at ≡ Some x → (m : IsStanding s at) → bytes_of x.width ≡ width_of f (reloc_of f m.x.number m.k)
  field_width s at x e m =
      ap (λ (y : Field). bytes_of y.width) (same_Some x m.meant.field (sym e ∙ m.field))
      ∙ ap (λ (w : Width). bytes_of w) (sym m.meant.is.width ∙ ap (λ g. g.width) m.meant.form)
      ∙ sym (row_width f (reloc_of f m.x.number m.k) m.good.row m.good.listed)

  -- no two fields meet
  pub are_apart : AreApart (elf_dialect f.class) f.file keep
  are_apart s i j x y first second less =
      by (field_standing s i x first) (field_standing s j y second) (field_width s i x first (field_standing s i x first))
    where
      by : (a : IsStanding s i) (b : IsStanding s j) → bytes_of x.width ≡ width_of f (reloc_of f a.x.number a.k) → i + bytes_of x.width ≤ j
      by a b width =
          let same : b.x.number ≡ a.x.number = ap (λ (z : parts.Section). z.number) (same_Some b.x a.x (sym b.there ∙ a.there)) in
          let below : b.k < reloc_count f a.x.number = subst (λ (q : ℕ). b.k < reloc_count f q) same b.below in
          let busy : is_idle (reloc_of f a.x.number b.k) ≡ false = subst (λ (q : ℕ). is_idle (reloc_of f q b.k) ≡ false) same b.busy in
          let offset : (reloc_of f a.x.number b.k).r_offset ≡ j = subst (λ (q : ℕ). (reloc_of f q b.k).r_offset ≡ j) same b.offset in
          let start : (reloc_of f a.x.number a.k).r_offset ≡ i = a.offset in
          let rises : (reloc_of f a.x.number a.k).r_offset < (reloc_of f a.x.number b.k).r_offset = omega (arith, offset, start, less) in
          let ends = apart_at f a.x.number a.entries a.k b.k a.below below a.busy busy rises in
          omega (arith, ends, offset, start, width)

  -- none is a difference
  pub differences_fit : DifferencesFit (elf_dialect f.class) f.file keep
  differences_fit =
      laws.differences_fit (elf_dialect f.class) f.file keep n (given_at f keep) free_or_given (λ s at r e k same.
      let m = given_standing s at r e in
      let form = sym (ap (λ g. g.less) m.meant.form) ∙ ap (λ (q : Reloc). q.form.less) (same_Some m.meant.reloc r (sym m.given ∙ e)) in
      no_section m.good.row k (is_row f (reloc_of f m.x.number m.k) m.good.row m.good.listed) (form ∙ same))
