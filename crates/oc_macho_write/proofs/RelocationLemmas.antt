-- The relocation entries of the sections, one after another.
use Rattle.std.proofs.Common.{◌≡◌, ℕ, cond, List, [], ◌∷◌, ◌++◌, flat_map, Option, Some, None, refl, sym, ◌∙◌, ap, subst}
use Rattle.oc_base.specs.{declared.format.Word.{Word}, declared.format.Word.TheVariants.{W32, W64}}
use Rattle.oc_linking.specs.declared.terms.Width.{Width}
use Rattle.oc_chains.specs.{declared.field.Field.{Field}, Lists.{list_of}}
use Rattle.oc_neutral.specs.{declared.reloc.Reloc.{Reloc}, Mach.Relocs.{length_of}, Objects.{Object}, Rows.{TakesPlace, same_taken}}
use Rattle.oc_plans.specs.Numbered.{AreAll}
use Rattle.oc_shelf.specs.Writing.Parts.{Laid}
use Rattle.oc_target.proofs.Giving.{all_given, more_given}
use Rattle.oc_macho.specs.{declared.relocation_info.Reference.{Reference}, declared.relocation_info.RelocationInfo.{RelocationInfo}}
use Rattle.oc_macho.specs.declared.relocation_info.Reference.TheVariants as reference
use Rattle.oc_macho_file.specs.Bodies as bodies
use Rattle.oc_macho_file.specs.Bodies.{entries_at, entries_of, pair_entries, plain_entry, reference_to, standing_entries, taken_section}
use Rattle.oc_macho_file.specs.Lines.{Line, numbered_lines, own_number}
use Rattle.oc_macho_write.specs.{declared.forms.FieldContext.{FieldContext}, declared.forms.SpelledReloc.{SpelledReloc}, Forms.{CanWrite, IsWritten}}
use Rattle.oc_macho_write.proofs.FormLemmas.{its_row, pair_absolute}

-- ... the entries of a relocation that stands

module _ (w : Word) (n : Object) (lines : List (Laid Line)) (y : SpelledReloc) (is : bodies.WrittenReloc) (written : IsWritten w y is) where
  -- an entry, field by field
  pub plain_same : (pcrel type other : ℕ) (refers to : Reference) → pcrel ≡ cond (same_taken is.row.taken TakesPlace) 1 0 → type ≡ other → refers ≡ to
      → record { r_address = y.at; r_pcrel = pcrel; r_length = length_of y.reloc.form.width; r_type = type; refers = refers } ≡ plain_entry is other to
  plain_same pcrel type other refers to p t r =
      let made : ℕ → ℕ → Width → ℕ → Reference → RelocationInfo = λ a p l t z. record { r_address = a; r_pcrel = p; r_length = length_of l; r_type = t; refers = z } in
      ap (λ a. made a pcrel y.reloc.form.width type refers) written.at
      ∙ ap (λ z. made is.at z y.reloc.form.width type refers) p
      ∙ ap (λ l. made is.at (cond (same_taken is.row.taken TakesPlace) 1 0) l type refers) (sym (its_row w y is written).width)
      ∙ ap (λ z. made is.at (cond (same_taken is.row.taken TakesPlace) 1 0) is.row.width z refers) t
      ∙ ap (λ z. made is.at (cond (same_taken is.row.taken TakesPlace) 1 0) is.row.width other z) r

  -- one that stands alone
  pub alone_entries : (pcrel type : ℕ) (refers : Reference) → is.row.second ≡ None → pcrel ≡ cond (same_taken is.row.taken TakesPlace) 1 0 → is.row.number ≡ type → refers ≡ reference_to w lines y.reloc.target
      → record { r_address = y.at; r_pcrel = pcrel; r_length = length_of y.reloc.form.width; r_type = type; refers = refers } ∷ [] ≡ standing_entries w n lines is
  unfolding standing_entries
  alone_entries pcrel type refers none p t r =
      ap (λ (e : RelocationInfo). e ∷ []) (plain_same pcrel type is.row.number refers (reference_to w lines is.reloc.target) p (sym t) (r ∙ ap (λ z. reference_to w lines z.target) written.reloc))
      ∙ ap (λ (o : Option ℕ). elim o [ None ↦ plain_entry is is.row.number (reference_to w lines is.reloc.target) ∷ [] | Some second ↦ pair_entries w n lines is second ]) (sym none)

  -- a pair
  pub pair_standing : (second : ℕ) → is.row.second ≡ Some second → pair_entries w n lines is second ≡ standing_entries w n lines is
  unfolding standing_entries
  pair_standing second some =
      ap (λ (o : Option ℕ). elim o [ None ↦ plain_entry is is.row.number (reference_to w lines is.reloc.target) ∷ [] | Some second ↦ pair_entries w n lines is second ]) (sym some)

module _ (n : Object) (lines : List (Laid Line)) (y : SpelledReloc) (is : bodies.WrittenReloc) where
  pub pair_64 : (written : IsWritten W64 y is) → (first second : ℕ) (own to : Reference) → is.row.number ≡ first → is.row.second ≡ Some second → own ≡ reference.Symbol (own_number lines (taken_section is)) → to ≡ reference_to W64 lines y.reloc.target
      → record { r_address = y.at; r_pcrel = 0; r_length = length_of y.reloc.form.width; r_type = first; refers = own }
      ∷ record { r_address = y.at; r_pcrel = 0; r_length = length_of y.reloc.form.width; r_type = second; refers = to } ∷ [] ≡ pair_entries W64 n lines is second
  pair_64 written first second own to f some owns refers =
      let flat : 0 ≡ cond (same_taken is.row.taken TakesPlace) 1 0 = ap (λ b. cond b 1 0) (sym (pair_absolute W64 y is second written some)) in
      let behind : RelocationInfo = record { r_address = y.at; r_pcrel = 0; r_length = length_of y.reloc.form.width; r_type = second; refers = to } in
      ap (λ (e : RelocationInfo). e ∷ behind ∷ []) (plain_same W64 n lines y is written 0 first is.row.number own (reference.Symbol (own_number lines (taken_section is))) flat (sym f) owns)
      ∙ ap (λ (e : RelocationInfo). plain_entry is is.row.number (reference.Symbol (own_number lines (taken_section is))) ∷ e ∷ []) (plain_same W64 n lines y is written 0 second second to (reference_to W64 lines is.reloc.target) flat refl (refers ∙ ap (λ z. reference_to W64 lines z.target) written.reloc))

-- in x86-64, whatever the word is called
pub pair_by : (w : Word) → w ≡ W64 → (n : Object) (lines : List (Laid Line)) (y : SpelledReloc) (is : bodies.WrittenReloc) → IsWritten w y is → (first second : ℕ) (own to : Reference) (one two : RelocationInfo) → is.row.number ≡ first → is.row.second ≡ Some second
    → own ≡ reference.Symbol (own_number lines (taken_section is)) → to ≡ reference_to w lines y.reloc.target
    → one ≡ record { r_address = y.at; r_pcrel = 0; r_length = length_of y.reloc.form.width; r_type = first; refers = own }
    → two ≡ record { r_address = y.at; r_pcrel = 0; r_length = length_of y.reloc.form.width; r_type = second; refers = to } → one ∷ two ∷ [] ≡ pair_entries w n lines is second
pair_by W32 e n lines y is written first second own to one two f some owns refers a b = absurd (cc e)
pair_by W64 e n lines y is written first second own to one two f some owns refers a b =
    ap (λ (z : RelocationInfo). z ∷ two ∷ []) a ∙ ap (λ (z : RelocationInfo). record { r_address = y.at; r_pcrel = 0; r_length = length_of y.reloc.form.width; r_type = first; refers = own } ∷ z ∷ []) b
    ∙ pair_64 n lines y is written first second own to f some owns refers

-- ... those of a section

-- the entries that are made, where those of the fields that are left are still to be
pub record IsMaking (x : FieldContext) (n : Object) (k : ℕ) (now : List RelocationInfo) (left : List (Field Reloc)) : Type 0 where
  pub all : now ++ flat_map (entries_at x.word n (numbered_lines x.word n) k) left ≡ entries_of x.word n (numbered_lines x.word n) k
  pub can : AreAll (CanWrite x k) left

module _ (x : FieldContext) (n : Object) (k : ℕ) where
  abbrev make : Field Reloc → List RelocationInfo
  make = entries_at x.word n (numbered_lines x.word n) k

  abbrev whole : List RelocationInfo
  whole = entries_of x.word n (numbered_lines x.word n) k

  pub making_begun : AreAll (CanWrite x k) (list_of n.relocs k) → (now : List RelocationInfo) (left : List (Field Reloc)) → now ≡ [] → left ≡ list_of n.relocs k → IsMaking x n k now left
  unfolding entries_of
  making_begun can now left none same = record {
    all = ap (λ es. es ++ flat_map make left) none ∙ ap (flat_map make) same;
    can = subst (AreAll (CanWrite x k)) (sym same) can;
  }

  pub making_can : (now : List RelocationInfo) (left : List (Field Reloc)) (y : Field Reloc) (rest : List (Field Reloc)) → left ≡ y ∷ rest → IsMaking x n k now left → CanWrite x k y.at y.item
  making_can now left y rest step is = (subst (AreAll (CanWrite x k)) step is.can).0

  pub making_more : (now : List RelocationInfo) (left : List (Field Reloc)) (y : Field Reloc) (rest : List (Field Reloc)) → left ≡ y ∷ rest → IsMaking x n k now left
      → (after : List RelocationInfo) → after ≡ now ++ make y → IsMaking x n k after rest
  making_more now left y rest step is after added = record {
    all = more_given now after (flat_map make left) (flat_map make rest) (make y) whole added (ap (flat_map make) step) is.all;
    can = (subst (AreAll (CanWrite x k)) step is.can).1;
  }

  pub making_done : (now : List RelocationInfo) (left : List (Field Reloc)) → left ≡ [] → IsMaking x n k now left → now ≡ whole
  making_done now left none is = all_given now (flat_map make left) whole (ap (flat_map make) none) is.all
