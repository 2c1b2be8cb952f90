-- The fixups of the sections, one after another.
use Rattle.std.proofs.Common.{◌≡◌, ℕ, ◌+◌, List, [], ◌∷◌, ◌++◌, map, inl, inr, Some, sym, ◌∙◌, ap, subst, arith}
use Rattle.std.specs.{Prelude.{is_err}, List.{AllByRecursion}}
use Rattle.oc_base.specs.declared.format.Word.TheVariants.{W32}
use Rattle.oc_linking.specs.declared.terms.Width.TheVariants.{Four}
use Rattle.oc_algebra.specs.Fields.{to_field_of}
use Rattle.oc_neutral.specs.{declared.symbol.Symbol.{Symbol}, Rows.{shift_of}, declared.reloc.Reloc.{Reloc}, Objects.{Object, reloc_at}}
use Rattle.oc_neutral.proofs.ShiftLemmas.{four_bytes_hold}
use Rattle.oc_shows.specs.{Manners.{omf_manner}, Seen.{section_place}}
use Rattle.oc_plans.specs.Numbered.{AreAll}
use Rattle.oc_target.proofs.{MeetsRelocs.{no_error}, Giving.{all_given}, Steps.{more_done}}
use Rattle.std.proofs.lemmas.Option.{slice_get_within}
use Rattle.oc_chains.specs.{declared.field.Field.{Field}, Lists.{list_of}}
use Rattle.oc_omf_file.specs.Fixups.{written_reloc}
use Rattle.oc_omf_file.proofs.{AimLaws.{aimed}, CodedLaws.{IsForOmf, field_is, meets, omf_reloc}, LineLaws.{number_low}, FieldLaws.{form_kept}}
use Rattle.oc_omf_write.specs.{declared.fixups.Fixup.{Fixup}, Numbers.{AreNumbers}, Raws.{CanWrite}, Written.{HasIndex, HasRow, fixup_with, fixups_of}}
use Rattle.oc_shelf.proofs.WritingLaws.MemberLemmas.{all_members}

-- the index of a target fits
pub has_index : (n : Object) → IsForOmf n → (numbers : List ℕ) → AreNumbers n numbers → (k at : ℕ) (r : Reloc) → reloc_at n k at ≡ Some r → HasIndex numbers (written_reloc n r).target
has_index n is numbers are k at r there = elim (aimed n is k at r there) [
  | inl a ↦
      let low = slice_get_within n.sections a.position a.section a.here in
      let few = is.meets.few in
      subst (HasIndex numbers) (sym a.aim) (omega (arith, low, few))
  | inr a ↦
      let low = slice_get_within n.symbols a.position a.symbol a.here in
      let counted = are.counted in
      let own = are.each a.position low in
      let small = number_low n is a.position a.symbol a.here a.external in
      subst (HasIndex numbers) (sym a.aim) (omega (arith, low, counted), omega (arith, own, small))
]

-- ... the numbers

module _ (n : Object) (is : IsForOmf n) where
  -- a relocation has its row
  pub has_row : (k at : ℕ) (r : Reloc) → reloc_at n k at ≡ Some r → HasRow r.form r.hint
  has_row k at r there = let m = meets n is k at r there in record { row = m.row; written = m.is.written }

  -- it can be written: its field of four bytes holds every addend
  can_write : (symbols : List Symbol) → n.symbols ≡ symbols → (k at : ℕ) (r : Reloc) → reloc_at n k at ≡ Some r → CanWrite symbols r
  can_write symbols of k at r there =
      let shift = shift_of (has_row k at r there).row in
      let w : Reloc = written_reloc n r in
      let four : w.form.width ≡ Four = ap (λ f. f.width) (form_kept r (section_place omf_manner n r)) ∙ (omf_reloc n is k at r there).width in
      record {
        object = n;
        symbols_of = of;
        has = has_row k at r there;
        holds = no_error (to_field_of W32 w.form.width shift w.addend) (ap (λ k. is_err (to_field_of W32 k shift w.addend)) four ∙ four_bytes_hold shift w.addend);
      }

  -- so can all
  pub all_can : (symbols : List Symbol) → n.symbols ≡ symbols → (k : ℕ) → AreAll (λ at r. CanWrite symbols r) (list_of n.relocs k)
  all_can symbols of k =
      all_members (λ (y : Field Reloc). CanWrite symbols y.item) (list_of n.relocs k)
      (λ j y here. can_write symbols of k y.at y.item (field_is n is k j y here))

-- ... the loop

-- the fixups that are made, where those of the fields that are left are still to be
pub record IsMaking (n : Object) (numbers : List ℕ) (k : ℕ) (now : List Fixup) (left : List (Field Reloc)) : Type 0 where
  pub all : now ++ map (fixup_with numbers n) left ≡ fixups_of numbers n k
  pub rows : AllByRecursion (λ (y : Field Reloc). HasRow y.item.form y.item.hint) left
  pub have : AllByRecursion (λ (y : Field Reloc). HasIndex numbers (written_reloc n y.item).target) left

module _ (n : Object) (numbers : List ℕ) (k : ℕ) where
  pub making_begun : IsForOmf n → AreNumbers n numbers → (now : List Fixup) (left : List (Field Reloc)) → now ≡ [] → left ≡ list_of n.relocs k → IsMaking n numbers k now left
  making_begun is are now left none same = record {
    all = ap (λ rs. rs ++ map (fixup_with numbers n) left) none ∙ ap (map (fixup_with numbers n)) same;
    rows =
        subst (λ ys. AllByRecursion (λ (y : Field Reloc). HasRow y.item.form y.item.hint) ys) (sym same)
        (all_members (λ (y : Field Reloc). HasRow y.item.form y.item.hint) (list_of n.relocs k) (λ j y here. has_row n is k y.at y.item (field_is n is k j y here)));
    have =
        subst (λ ys. AllByRecursion (λ (y : Field Reloc). HasIndex numbers (written_reloc n y.item).target) ys) (sym same)
        (all_members (λ (y : Field Reloc). HasIndex numbers (written_reloc n y.item).target) (list_of n.relocs k) (λ j y here. has_index n is numbers are k y.at y.item (field_is n is k j y here)));
  }

  pub making_row : (now : List Fixup) (left : List (Field Reloc)) (y : Field Reloc) (rest : List (Field Reloc)) → left ≡ y ∷ rest → IsMaking n numbers k now left → HasRow y.item.form y.item.hint
  making_row now left y rest step is = (subst (λ ys. AllByRecursion (λ (z : Field Reloc). HasRow z.item.form z.item.hint) ys) step is.rows).0

  pub making_has : (now : List Fixup) (left : List (Field Reloc)) (y : Field Reloc) (rest : List (Field Reloc)) → left ≡ y ∷ rest → IsMaking n numbers k now left → HasIndex numbers (written_reloc n y.item).target
  making_has now left y rest step is = (subst (λ ys. AllByRecursion (λ (z : Field Reloc). HasIndex numbers (written_reloc n z.item).target) ys) step is.have).0

  pub making_more : (now : List Fixup) (left : List (Field Reloc)) (y : Field Reloc) (rest : List (Field Reloc)) → left ≡ y ∷ rest → IsMaking n numbers k now left
      → (f : Fixup) → f ≡ fixup_with numbers n y → (after : List Fixup) → after ≡ now ++ f ∷ [] → IsMaking n numbers k after rest
  making_more now left y rest step is f made after pushed = record {
    all =
        ap (λ rs. rs ++ map (fixup_with numbers n) rest) (pushed ∙ ap (λ z. now ++ z ∷ []) made)
        ∙ more_done now (map (fixup_with numbers n) left) (fixups_of numbers n k) (map (fixup_with numbers n) rest) (fixup_with numbers n y)
        is.all (ap (map (fixup_with numbers n)) step);
    rows = (subst (λ ys. AllByRecursion (λ (z : Field Reloc). HasRow z.item.form z.item.hint) ys) step is.rows).1;
    have = (subst (λ ys. AllByRecursion (λ (z : Field Reloc). HasIndex numbers (written_reloc n z.item).target) ys) step is.have).1;
  }

  pub making_done : (now : List Fixup) (left : List (Field Reloc)) → left ≡ [] → IsMaking n numbers k now left → now ≡ fixups_of numbers n k
  making_done now left none is = all_given now (map (fixup_with numbers n) left) (fixups_of numbers n k) (ap (map (fixup_with numbers n)) none) is.all
