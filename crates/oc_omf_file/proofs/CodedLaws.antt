-- What OMF can say of an object that is ready for it: its sections, and the rows and the fields of its relocations.
use Rattle.std.proofs.Common.{◌≡◌, ℕ, suc, ◌+◌, ◌<◌, ◌≤◌, Bool, true, false, cond, eqb, List, [], ◌∷◌, length, Some, None, refl, sym, ◌∙◌, ap, subst, inl, inr, arith}
use Rattle.std.specs.Prelude.{slice_get}
use Rattle.std.proofs.lemmas.{Bool.{eqb-true, cases_lt}, Option.{none-some, same_Some}}
use Rattle.oc_base.specs.declared.format.Format.TheVariants.{Omf}
use Rattle.oc_linking.specs.{declared.terms.Patch.{Patch}, declared.terms.Less.{Less}, Fits.{bytes_of}, Shows.{Apart}}
use Rattle.oc_linking.specs.declared.terms.Less.TheVariants as less
use Rattle.oc_chains.specs.{declared.field.Field.{Field}, Lists.{list_of}}
use Rattle.oc_neutral.specs.{declared.section.Section.{Section}, declared.reloc.Reloc.{Reloc}, Invariants.{IsObject}, Objects.{Object, reloc_at, reloc_among}}
use Rattle.oc_neutral.specs.{Omf.Relocs.{FixupFrame, fixup_row}, Rows.{Row, taken_of}}
use Rattle.oc_target.specs.{Fitted.{IsFitted}, Meets.{MeetsReloc}, OmfMeets.{MeetsOmf, OmfSection, OmfReloc}}
use Rattle.oc_neutral.specs.Rows as rows
use Rattle.oc_neutral.proofs.{Mapped.{from_mapped}, Positions.{each_at, there_at}, Standing.{ends_by, wide_in}}
use Rattle.oc_target.proofs.MeetsOmf.{meets_omf}
use Rattle.oc_shelf.proofs.WritingLaws.MemberLemmas.{of_map}
use Rattle.oc_omf_file.specs.{Names.{names_of}, Pieces.{offsets_of}, Fixups.{row_by, field_patch, field_patches}}
use Rattle.oc_omf_file.proofs.{NameLaws.{IsClassed, IsShort, names_bounded, names_short}, PieceLaws.{AreApart}}
use Rattle.oc_shows.proofs.FoundLaws.{found_in, empty_past}

-- an object that is ready for OMF, and what it meets
pub record IsForOmf (n : Object) : Type 0 where
  pub object : IsObject n
  pub format : n.format ≡ Omf
  pub meets : MeetsOmf n

pub for_omf : (n : Object) → IsFitted Omf n → IsForOmf n
for_omf n fits = record { object = fits.object; format = fits.format; meets = meets_omf n fits }

-- what is found is among the fields
pub field_there : (xs : List (Field Reloc)) (at : ℕ) (r : Reloc) → reloc_among xs at ≡ Some r → (i : ℕ) × (x : Field Reloc) × (slice_get xs i ≡ Some x) × (x.at ≡ at) × (x.item ≡ r)
field_there [] at r h = absurd (none-some r h)
field_there (y ∷ xs) at r h = by (λ g. field_there xs at r g) (eqb y.at at) refl h
  where
    by : (reloc_among xs at ≡ Some r → (i : ℕ) × (x : Field Reloc) × (slice_get xs i ≡ Some x) × (x.at ≡ at) × (x.item ≡ r))
        → (b : Bool) → eqb y.at at ≡ b → cond b (Some y.item) (reloc_among xs at) ≡ Some r → (i : ℕ) × (x : Field Reloc) × (slice_get (y ∷ xs) i ≡ Some x) × (x.at ≡ at) × (x.item ≡ r)
    by later true e h = (0, y, refl, eqb-true y.at at e, same_Some y.item r h)
    by later false e h = let m = later h in (suc m.0, m.1, m.2, m.3, m.4)

-- what a fixup's row takes is what is taken
less_back : (framed : FixupFrame) (l : Less) → (fixup_row framed).taken ≡ taken_of l → (k : ℕ) → rows.less_of (fixup_row framed).taken k ≡ l
less_back framed l e k = grind arith

module _ (n : Object) (is : IsForOmf n) where
  pub section_is : (k : ℕ) (s : Section) → slice_get n.sections k ≡ Some s → OmfSection s
  section_is k s here = is.meets.sections k s here

  pub classed : (k : ℕ) (s : Section) → slice_get n.sections k ≡ Some s → IsClassed s
  classed k s here = let m = section_is k s here in (m.class, m.classed)

  pub few_names : length (names_of n) ≤ 30006
  few_names = let few = names_bounded n classed in let sections = is.meets.few in omega (arith, few, sections)

  pub short_names : (k : ℕ) (name : List ℕ) → slice_get (names_of n) k ≡ Some name → IsShort name
  short_names = names_short n (λ k s here. let m = section_is k s here in ((m.class, m.classed), m.name))

  pub size_low : (k : ℕ) (s : Section) → slice_get n.sections k ≡ Some s → s.size ≤ 2147483647
  size_low k s here = each_at (λ (y : Section). y.size ≤ 2147483647) n.sections k s is.object.built.limits.each here

  -- ... relocations

  -- the relocation of a field
  pub field_is : (k i : ℕ) (x : Field Reloc) → slice_get (list_of n.relocs k) i ≡ Some x → reloc_at n k x.at ≡ Some x.item
  field_is k i x h = (found_in 0 (list_of n.relocs k) (is.object.built.fields.apart k) i x h).1

  module _ (k at : ℕ) (r : Reloc) (there : reloc_at n k at ≡ Some r) where
    pub omf_reloc : OmfReloc n k at r
    omf_reloc = is.meets.relocs k at r there

    abbrev pub meets : MeetsReloc Omf n k at r
    meets = omf_reloc.meets

    abbrev pub framed : FixupFrame
    framed = omf_reloc.framed

    pub row_is : row_by r ≡ Some (fixup_row framed)
    row_is = meets.is.written ∙ ap (λ (x : Row). Some x) (sym omf_reloc.row)

    pub row_takes : (j : ℕ) → rows.less_of (fixup_row framed).taken j ≡ r.form.less
    row_takes j = less_back framed r.form.less (ap (λ (x : Row). x.taken) omf_reloc.row ∙ omf_reloc.taken) j

    pub width_is : bytes_of r.form.width ≡ 4
    width_is = ap bytes_of omf_reloc.width

    -- it stands in its section
    pub inside : (s : Section) → slice_get n.sections k ≡ Some s → at + 4 ≤ length s.bytes
    inside s here =
        let same = same_Some meets.section s (sym meets.there ∙ here) in
        let wide = width_is in
        let ends : at + bytes_of r.form.width ≤ length s.bytes = subst (λ (x : Section). at + bytes_of r.form.width ≤ length x.bytes) same meets.inside in
        omega (arith, ends, wide)

  -- no relocation stands in a section that is not there
  pub none_past : (k at : ℕ) → length n.sections ≤ k → reloc_at n k at ≡ None
  none_past k at high =
      let counted = is.object.built.fields.counted in
      ap (λ xs. reloc_among xs at) (empty_past n.relocs k (omega (arith, counted, high)))

  pub apart_by : (k i j : ℕ) (r q : Reloc) → reloc_at n k i ≡ Some r → reloc_at n k j ≡ Some q → i < j → i + 4 ≤ j
  apart_by k i j r q here there before = elim (cases_lt k (length n.sections)) [
    | inl low ↦
        let s = there_at n.sections k low in
        let ends = ends_by 0 (list_of n.relocs k) (is.object.built.fields.apart k) (wide_in n is.object k s.0 s.1) i j r q here there before in
        let wide = width_is k i r here in
        omega (arith, ends, wide)
    | inr high ↦ absurd (none-some r (sym (none_past k i (omega (arith, high))) ∙ here))
  ]

  pub apart_patches : (k : ℕ) → Apart (field_patches n k)
  apart_patches k i j q r here there before =
      let a = from_mapped (field_patch n) (reloc_at n k i) q here in
      let b = from_mapped (field_patch n) (reloc_at n k j) r there in
      let ends = apart_by k i j a.0 b.0 a.1 b.1 before in
      let wide : bytes_of q.width ≡ bytes_of a.0.form.width = ap (λ (x : Patch). bytes_of x.width) (sym a.2) in
      let four = width_is k i a.0 a.1 in
      omega (arith, ends, wide, four)

  -- the offsets of a section's fields
  pub fields_apart : (k : ℕ) (s : Section) → slice_get n.sections k ≡ Some s → AreApart (offsets_of n k) (length s.bytes)
  fields_apart k s here = record {
    inside = λ i at h.
        let x = of_map (λ (x : Field Reloc). x.at) (list_of n.relocs k) i at h in
        subst (λ a. a + 4 ≤ length s.bytes) x.2 (inside k x.0.at x.0.item (field_is k i x.0 x.1) s here);
    apart = λ i j a b h g l.
        let x = of_map (λ (x : Field Reloc). x.at) (list_of n.relocs k) i a h in
        let y = of_map (λ (x : Field Reloc). x.at) (list_of n.relocs k) j b g in
        let ex : x.0.at ≡ a = x.2 in
        let ey : y.0.at ≡ b = y.2 in
        let ends = apart_by k x.0.at y.0.at x.0.item y.0.item (field_is k i x.0 x.1) (field_is k j y.0 y.1) (omega (arith, ex, ey, l)) in
        omega (arith, ends, ex, ey);
  }
