-- What is given are the fields of the module, of which no two meet and none is a difference.
use Rattle.std.proofs.Common.{◌≡◌, ℕ, ◌+◌, ◌≤◌, List, None, Some, sym, ◌∙◌, ap, arith}
use Rattle.oc_linking.specs.{declared.terms.Hint.TheVariants.{Call}, declared.terms.Keep.{Keep}, declared.terms.Width.TheVariants.{Four}}
use Rattle.oc_linking.specs.{FirstFault.{first_fault, stage_fault}, Fits.{bytes_of}, Rules.{Field}}
use Rattle.oc_linking.specs.declared.terms.Less.TheVariants as less
use Rattle.oc_neutral.specs.{declared.reloc.Reloc.{Reloc}, Dialects.{kept_fields}, Faces.{shown_symbols}, Objects.{Object}, Omf.Relocs.{fixup_row}}
use Rattle.oc_shows.specs.Built.{AreApart, AreOfFile, DifferencesFit, IsField}
use Rattle.oc_neutral.specs.Rows as rows
use Rattle.oc_omf.specs.{Entries.{entries_in}, RelocationFaults.{relocation_stages}, Rules.{omf_dialect}, SectionFaults.{section_stage}}
use Rattle.oc_omf.specs.Targets.{Meaning, meaning_of}
use Rattle.oc_omf_read.specs.{declared.fix.FixupFrame.{FixupFrame}, Fixing.{framed_as}, Given.{given_at}}
use Rattle.oc_omf_read.specs.declared.fix.FixupFrame.TheVariants as framed
use Rattle.oc_omf_read.proofs.{GivenFields.{free_or_given}, ListedFields.{IsStanding, given_standing}, PlacedFixups.{apart_at}}
use Rattle.oc_shows.proofs.GivenLaws as laws

-- no section is taken
pub takes_none : (f : FixupFrame) (s k : ℕ) → rows.less_of (fixup_row (framed_as f)).taken s ≡ less.Section k → ⊥
takes_none f s k e = grind arith

width_four : (f : FixupFrame) → (fixup_row (framed_as f)).width ≡ Four
width_four f = grind arith

no_call : (f : FixupFrame) → (fixup_row (framed_as f)).hint ≡ Call → ⊥
no_call f e = grind arith

-- ... what stands

module _ (file : List ℕ) (keep : Keep) (sections : stage_fault (section_stage (entries_in file)) ≡ None) (relocs : first_fault (relocation_stages (entries_in file) keep) ≡ None) where
  abbrev Standing : ℕ → ℕ → Reloc → Type 0
  Standing s at r = IsStanding file keep sections relocs s at r

  pub standing_width : (s at : ℕ) (r : Reloc) → Standing s at r → r.form.width ≡ Four
  standing_width s at r d = ap (λ (q : Reloc). q.form.width) (sym d.reloc) ∙ width_four d.fix.framed

  pub standing_less : (s at : ℕ) (r : Reloc) → Standing s at r → (k : ℕ) → r.form.less ≡ less.Section k → ⊥
  standing_less s at r d k e = takes_none d.fix.framed s k (ap (λ (q : Reloc). q.form.less) d.reloc ∙ e)

  pub standing_hint : (s at : ℕ) (r : Reloc) → Standing s at r → r.hint ≡ Call → ⊥
  standing_hint s at r d e = no_call d.fix.framed (ap (λ (q : Reloc). q.hint) d.reloc ∙ e)

  pub standing_target : (s at : ℕ) (r : Reloc) (d : Standing s at r) → r.target ≡ d.fix.target
  standing_target s at r d = ap (λ (q : Reloc). q.target) (sym d.reloc)

module _ (file : List ℕ) (keep : Keep) (sections : stage_fault (section_stage (entries_in file)) ≡ None) (relocs : first_fault (relocation_stages (entries_in file) keep) ≡ None)
    (n : Object) (shown : shown_symbols n ≡ omf_dialect.rules.symbols file keep) where
  abbrev m : Meaning
  m = meaning_of (entries_in file)

  -- what is given is a field
  pub are_of_file : AreOfFile omf_dialect file keep n (given_at (entries_in file) keep)
  are_of_file = laws.are_of_file omf_dialect file keep n (given_at (entries_in file) keep) (free_or_given file keep n shown)

  -- each field is given
  field_given : (s at : ℕ) (x : Field) → kept_fields omf_dialect file keep s at ≡ Some x → (r : Reloc) × (given_at (entries_in file) keep s at ≡ Some r) × IsField omf_dialect file keep n s at r x
  field_given = laws.field_given omf_dialect file keep n (given_at (entries_in file) keep) (free_or_given file keep n shown)

  -- ... all

  -- no two fields meet
  pub are_apart : AreApart omf_dialect file keep
  are_apart s i j x y at_i at_j low = by (field_given s i x at_i) (field_given s j y at_j)
    where
      by : (r : Reloc) × (given_at (entries_in file) keep s i ≡ Some r) × IsField omf_dialect file keep n s i r x → (r : Reloc) × (given_at (entries_in file) keep s j ≡ Some r) × IsField omf_dialect file keep n s j r y
          → i + bytes_of x.width ≤ j
      by p q =
          let a = given_standing file keep sections relocs s i p.0 p.1 in
          let d = given_standing file keep sections relocs s j q.0 q.1 in
          let ends = apart_at file keep sections relocs s i j a.p d.p a.f d.f a.is_at d.is_at low in
          let width : bytes_of x.width ≡ 4 = ap bytes_of (sym p.2.width ∙ standing_width file keep sections relocs s i p.0 a) in
          omega (arith, ends, width)

  -- none is a difference
  pub differences_fit : DifferencesFit omf_dialect file keep
  differences_fit =
      laws.differences_fit omf_dialect file keep n (given_at (entries_in file) keep) (free_or_given file keep n shown)
      (λ s at r e k same. standing_less file keep sections relocs s at r (given_standing file keep sections relocs s at r e) k same)
