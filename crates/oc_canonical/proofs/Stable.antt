-- The canonical file of each object that is ready is given again by a conversion to its own format.
use Rattle.std.proofs.Common.{◌≡◌, ℕ, List, Ok, refl, sym, ◌∙◌, ap, arith}
use Rattle.oc_linking.specs.{declared.terms.Keep.{Keep}, Keeping.{all, keeps}, Numbers.{or_else}}
use Rattle.oc_neutral.specs.{Objects.{Object}, Dialects.{Dialect}}
use Rattle.oc_shows.specs.{Computed.{object_in}, Seen.{seen}}
use Rattle.oc_target.specs.{Fitted.{IsFitted}, Targets.{WritesCanonical}}
use Rattle.oc_target.proofs.SeenLaws.{seen_is_object_law}
use Rattle.oc_shows.proofs.ShownComputed.{shown_is_computed}
use Rattle.oc_names.specs.{Wishes.{no_wishes}, Edited.{edited}, Kept.{keep_for}}
use Rattle.oc_equations.specs.Edited.{fitted_or_fault, refusal_after_reading}
use Rattle.oc_equations.proofs.LawProofs.{refusal_is_least}
use Rattle.oc_convert.specs.{Refusals.{kept_of_file}, Converted.{on_ok}}
use Rattle.oc_elf.specs.{declared.class.ElfClass.{ElfClass}, Elf.{elf_dialect}}
use Rattle.oc_elf_file.specs.Canonical.{elf_file}
use Rattle.oc_elf_file.proofs.{CodedLaws.{for_elf}, WrittenLaw.{elf_is_written}}
use Rattle.oc_names.proofs.Unedited.{nothing_edited}
use Rattle.oc_canonical.proofs.{FittedStays.{fitted_stays}, ElfAgain.{elf_file_again}, ElfStays.{elf_seen_fitted}, CoffAgain.{coff_file_again}}
use Rattle.oc_canonical.proofs.{CoffStays.{coff_seen_fitted}, MachAgain.{mach_file_again}, MachStays.{mach_seen_fitted}}
use Rattle.oc_base.specs.declared.format.Word.{Word}
use Rattle.oc_coff.specs.{declared.form.CoffForm.{CoffForm}, Rules.{coff_dialect}}
use Rattle.oc_coff_file.specs.Canonical.{coff_file}
use Rattle.oc_coff_file.proofs.{CodedLaws.{for_coff}, WrittenLaw.{coff_is_written}}
use Rattle.oc_macho.specs.Rules.{mach_dialect}
use Rattle.oc_macho_file.specs.Canonical.{mach_file}
use Rattle.oc_macho_file.proofs.{CodedLaws.{for_mach}, WrittenLaw.{mach_is_written}}
use Rattle.oc_canonical.specs.Stable.{IsStable, IsReadBack, ReadsBack, CanonicalIsStable, ElfReadsBack, CoffReadsBack, MachReadsBack}
use Rattle.oc_linking.proofs.Whole.{keeps-all}

module _ (g : Dialect) (canonical : Object → List ℕ) (laws : ReadsBack g canonical) (n : Object) (fits : IsFitted g.format n) where
  abbrev c : List ℕ
  c = canonical n

  abbrev keep : Keep
  keep = kept_of_file no_wishes g g.format

  abbrev m : Object
  m = seen n

  ready : IsFitted g.format m
  ready = laws.fitted n fits

  own : IsReadBack g n c
  own = laws.own n fits

  unedited : edited no_wishes g.format m ≡ Ok m
  unedited = nothing_edited no_wishes g.format m ready.object refl (λ k s here. ap (λ f. keeps (keep_for no_wishes f g.format) s.kind) ready.format ∙ own.kept k s here) ready.few_symbols

  pub stable : IsStable g canonical c
  stable =
      let refusal = refusal_is_least no_wishes g.format m ready.object in
      record {
        accepted =
            ap (λ o. or_else o (refusal_after_reading no_wishes g.format (object_in g c keep))) own.well_formed
            ∙ ap (refusal_after_reading no_wishes g.format) own.object
            ∙ refusal.target m unedited
            ∙ ready.expressible;
        planned =
            ap (λ x. on_ok canonical (fitted_or_fault no_wishes g.format x)) own.object
            ∙ ap (on_ok canonical) (refusal.written m unedited)
            ∙ ap (λ x. Ok (canonical x)) (fitted_stays g.format m ready)
            ∙ ap Ok (laws.file n fits);
      }

pub canonical_is_stable : CanonicalIsStable
canonical_is_stable g canonical laws n fits = stable g canonical laws n fits

-- where everything is kept on the way to the same format
pub own_of_all : (g : Dialect) (canonical : Object → List ℕ) → WritesCanonical g canonical → kept_of_file no_wishes g g.format ≡ all → (n : Object) → IsFitted g.format n → IsReadBack g n (canonical n)
own_of_all g canonical law every n fits =
    let written = law.written n fits in
    record {
      well_formed = ap (g.rules.fault (canonical n)) every ∙ written.well_formed;
      object = ap (object_in g (canonical n)) every ∙ sym (shown_is_computed g (canonical n) all (seen n) (seen_is_object_law g.format n fits) written.shows);
      kept = λ k s here. ap (λ keep. keeps keep s.kind) every ∙ keeps-all s.kind;
    }

elf_keeps : (class : ElfClass) → kept_of_file no_wishes (elf_dialect class) (elf_dialect class).format ≡ all
elf_keeps class = grind arith

pub elf_reads_back : ElfReadsBack
elf_reads_back class = record {
  fitted = λ n fits. elf_seen_fitted class n fits;
  file = λ n fits. elf_file_again class n (for_elf class n fits);
  own = λ n fits. own_of_all (elf_dialect class) (elf_file class) (elf_is_written class) (elf_keeps class) n fits;
}

coff_keeps : (w : CoffForm) → kept_of_file no_wishes (coff_dialect w) (coff_dialect w).format ≡ all
coff_keeps w = grind arith

pub coff_reads_back : CoffReadsBack
coff_reads_back w = record {
  fitted = λ n fits. coff_seen_fitted w n fits;
  file = λ n fits. coff_file_again w n (for_coff w n fits);
  own = λ n fits. own_of_all (coff_dialect w) (coff_file w) (coff_is_written w) (coff_keeps w) n fits;
}

mach_keeps : (w : Word) → kept_of_file no_wishes (mach_dialect w) (mach_dialect w).format ≡ all
mach_keeps w = grind arith

pub mach_reads_back : MachReadsBack
mach_reads_back w = record {
  fitted = λ n fits. mach_seen_fitted w n fits;
  file = λ n fits. mach_file_again w n (for_mach w n fits);
  own = λ n fits. own_of_all (mach_dialect w) (mach_file w) (mach_is_written w) (mach_keeps w) n fits;
}
