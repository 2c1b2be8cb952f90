-- An object of one section of data, and nothing else, is one, and can be fitted to every format of its word.
use Rattle.std.proofs.Common.{◌≡◌, ◌≢◌, refl, ℕ, zero, suc, true, false, true≢false, [], ◌∷◌, Option, Some, None, Ok, sym, subst, ◌∙◌, ap, arith, codes}
use Rattle.std.specs.{Prelude.{slice_get}, List.{AllByRecursion}}
use Rattle.std.proofs.lemmas.Option.{none-some, same_Some}
use Rattle.oc_base.specs.{declared.format.Format.{Format}, declared.format.Word.{Word}, declared.format.Word.TheVariants.{W32, W64}, Formats.{word_for}}
use Rattle.oc_linking.specs.{declared.terms.Kind.{Kind}, declared.terms.Kind.TheVariants.{Data, Note}}
use Rattle.oc_chains.specs.{declared.field.Field.{Field}, Lists.{Lists, list_of}}
use Rattle.oc_neutral.specs.{declared.fault.BuildFault.{BuildFault}, declared.reloc.Reloc.{Reloc}, declared.section.Section.{Section}}
use Rattle.oc_neutral.specs.{Building.{Draft, empty_draft, limit_passed, section_added, section_by}, Elf.Family.{elf_gives}, Elf.Kinds.{elf_kind}}
use Rattle.oc_neutral.specs.{GivenTags.{can_have, is_blank_type}, Invariants.{AreBegun, IsComplete, IsHinted, NamesOriginal}, Objects.{Object}}
use Rattle.oc_target.specs.Fitted.{CanFit}
use Rattle.oc_shows.specs.Readable.{IsReadable}
use Rattle.oc_neutral.proofs.MoreSections.{sectioned}
use Rattle.oc_plans.specs.Alone.{IsData, elf_of}

-- a section that was added
section_got : (d e : Draft) (x : Section) → section_added d x ≡ Ok e → e ≡ sectioned d x
unfolding section_added
section_got d e x added = by (limit_passed d.object.sections x) added
  where
    by : (o : Option BuildFault) → section_by d x o ≡ Ok e → e ≡ sectioned d x
    by None added = cc added
    by (Some f) added = absurd (cc added)

module _ (w : Word) (x : Section) (is : IsData x) where
  -- the object of the section
  abbrev alone : Object
  alone = (sectioned (empty_draft (elf_of w)) x).object

  -- what was built of it is that object
  pub built_alone : (start first : Draft) → start ≡ empty_draft (elf_of w) → section_added start x ≡ Ok first → first.object ≡ alone
  built_alone start first begun added = ap (λ (d : Draft). d.object) (section_got start first x added ∙ ap (λ d. sectioned d x) begun)

  -- no section has a field
  abbrev none_held : Lists Reloc
  none_held = [] ∷ []

  none_at : (s : ℕ) → list_of none_held s ≡ []
  none_at zero = refl
  none_at (suc s) = refl

  pub complete : IsComplete alone
  complete = record {
    keys = record { differ = λ i j g h l a b. absurd (none-some g a); full = tt };
    begun = subst (λ g. AreBegun 0 0 (g ∷ [])) (sym is.alone) (tt, refl);
    aligns = ((4, omega arith, is.align), tt);
    symbols = tt;
    hints = λ s. subst (AllByRecursion (λ (f : Field Reloc). IsHinted f.item)) (sym (none_at s)) tt;
    originals = λ s. subst (AllByRecursion (λ (f : Field Reloc). NamesOriginal [] f.item.target)) (sym (none_at s)) tt;
  }

  tagged : (w : Word) → can_have (elf_of w) Data (codes ".data") 11 ≡ true
  unfolding elf_gives elf_kind
  tagged W32 = refl
  tagged W64 = refl

  blank : (w : Word) → is_blank_type (elf_of w) 11 ≡ false
  blank W32 = refl
  blank W64 = refl

  only : (k : ℕ) (s : Section) → slice_get (x ∷ []) k ≡ Some s → s ≡ x
  only zero s at = sym (same_Some x s at)
  only (suc k) s at = absurd (none-some s at)

  readable : IsReadable alone
  readable = record {
    tags = (
      ap (λ k. can_have (elf_of w) k x.name x.tag) is.kind
          ∙ ap (λ name. can_have (elf_of w) Data name x.tag) is.name
          ∙ ap (can_have (elf_of w) Data (codes ".data")) is.tag
          ∙ tagged w,
      tt,
    );
    blanks = λ k s at typed. absurd (true≢false (sym typed ∙ ap (is_blank_type (elf_of w)) (ap (λ (s : Section). s.tag) (only k s at) ∙ is.tag) ∙ blank w));
  }

  not_note : (k : Kind) → k ≡ Data → k ≢ Note
  not_note k same e = absurd (cc (same, e))

  word : (w : Word) → w ≡ word_for (elf_of w)
  word W32 = refl
  word W64 = refl

  -- it can be fitted
  pub can_fit : (target : Format) → word_for target ≡ w → CanFit target alone
  can_fit target same = record {
    word = same ∙ word w;
    few_symbols = omega arith;
    notes = λ k s at note. absurd (not_note s.kind (ap (λ (s : Section). s.kind) (only k s at) ∙ is.kind) note);
    readable = readable;
  }
