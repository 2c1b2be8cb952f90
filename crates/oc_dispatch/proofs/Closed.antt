-- Each output is a file of its format, and a conversion to that format gives it again.
use Rattle.std.proofs.Common.{◌≡◌, ℕ, true, cond, List, ◌∷◌, Option, Some, None, Ok, refl, sym, ◌∙◌, ap, subst}
use Rattle.oc_base.specs.{declared.format.Word.{Word}, declared.format.Word.TheVariants.{W32, W64}, declared.format.Format.{Format}}
use Rattle.oc_base.specs.declared.format.Format.TheVariants.{Elf32, Elf64, Coff32, Coff64, Mac32, Mac64, Omf, BigElf32, BigElf64, BigCoff32, BigCoff64}
use Rattle.oc_base.specs.{declared.code.Code.TheVariants.{WordSize}, declared.fault.Fault.{Fault}, Formats.{word_for}}
use Rattle.oc_linking.specs.Numbers.{or_else}
use Rattle.oc_neutral.specs.{Families.{same_word}, Dialects.{Dialect}, Objects.{Object}}
use Rattle.oc_target.specs.Fitted.{IsFitted}
use Rattle.oc_names.specs.Wishes.{no_wishes}
use Rattle.oc_convert.specs.{Converted.{planned_file}, Dispatched.{IsClosed, dispatch_refusal, refusal_from, header_refusal}, Identified.{identified}}
use Rattle.oc_convert.specs.Refusals.{first_refusal}
use Rattle.oc_built.specs.Built.{built, reader_of, writer_of}
use Rattle.oc_elf.specs.{declared.class.ElfClass.{ElfClass}, declared.class.ElfClass.TheVariants.{Class32, Class64, Big32, Big64}, Classes.{format_of}}
use Rattle.oc_elf.specs.Elf.{elf_dialect}
use Rattle.oc_elf_file.specs.Canonical.{elf_file}
use Rattle.oc_elf_file.proofs.CodedLaws.{for_elf}
use Rattle.oc_coff.specs.{declared.form.CoffForm.{CoffForm}, Rules.{coff_dialect}}
use Rattle.oc_coff.specs.declared.form.CoffForm.TheVariants as form
use Rattle.oc_coff.specs.Forms as coff_forms
use Rattle.oc_coff_file.specs.Canonical.{coff_file}
use Rattle.oc_macho.specs.{MachHeader.{mach_format}, Rules.{mach_dialect}}
use Rattle.oc_macho_file.specs.Canonical.{mach_file}
use Rattle.oc_omf_file.specs.Canonical.{omf_file}
use Rattle.oc_canonical.specs.Stable.{IsStable}
use Rattle.oc_canonical.proofs.{Stable.{canonical_is_stable, elf_reads_back, coff_reads_back, mach_reads_back}, OmfStable.{omf_reads_back}}
use Rattle.oc_canonical.proofs.FirstBytes.{elf_known, coff_known, mach_known, omf_known}
use Rattle.oc_omf.specs.Rules.{omf_dialect}

elf_stable : (class : ElfClass) (n : Object) → IsFitted (format_of class) n → IsStable (elf_dialect class) (elf_file class) (elf_file class n)
elf_stable class n fits = canonical_is_stable (elf_dialect class) (elf_file class) (elf_reads_back class) n fits

coff_stable : (f : CoffForm) (n : Object) → IsFitted (coff_forms.format_of f) n → IsStable (coff_dialect f) (coff_file f) (coff_file f n)
coff_stable f n fits = canonical_is_stable (coff_dialect f) (coff_file f) (coff_reads_back f) n fits

mach_stable : (w : Word) (n : Object) → IsFitted (mach_format w) n → IsStable (mach_dialect w) (mach_file w) (mach_file w n)
mach_stable w n fits = canonical_is_stable (mach_dialect w) (mach_file w) (mach_reads_back w) n fits

omf_stable : (n : Object) → IsFitted Omf n → IsStable omf_dialect omf_file (omf_file n)
omf_stable n fits = canonical_is_stable omf_dialect omf_file omf_reads_back n fits

closed : (to : Format) (f : Dialect) (canonical : Object → List ℕ) (c : List ℕ) → reader_of to ≡ f → (writer_of to).canonical ≡ canonical → f.format ≡ to → same_word (word_for to) (word_for to) ≡ true
    → identified c ≡ Some to → IsStable f canonical c → IsClosed built to c
unfolding built
closed to f canonical c reader writer format word known stable = record {
  identified = known;
  accepted =
      ap (refusal_from built no_wishes to c) known
      ∙ ap (λ t. or_else (cond t None (Some (header_refusal WordSize))) (first_refusal no_wishes (reader_of to) to c)) word
      ∙ ap (λ (g : Dialect). first_refusal no_wishes g to c) reader
      ∙ ap (λ t. first_refusal no_wishes f t c) (sym format)
      ∙ stable.accepted;
  planned =
      ap (λ (g : Dialect). planned_file no_wishes g to (writer_of to).canonical c) reader
      ∙ ap (λ (file : Object → List ℕ). planned_file no_wishes f to file c) writer
      ∙ ap (λ t. planned_file no_wishes f t canonical c) (sym format)
      ∙ stable.planned;
}

pub written_is_closed : (to : Format) (n : Object) → IsFitted to n → IsClosed built to ((built.writer to).canonical n)
unfolding built
written_is_closed Elf32 n fits = closed Elf32 (reader_of Elf32) (writer_of Elf32).canonical (elf_file Class32 n) refl refl refl refl (elf_known Class32 n (for_elf Class32 n fits)) (elf_stable Class32 n fits)
written_is_closed Elf64 n fits = closed Elf64 (reader_of Elf64) (writer_of Elf64).canonical (elf_file Class64 n) refl refl refl refl (elf_known Class64 n (for_elf Class64 n fits)) (elf_stable Class64 n fits)
written_is_closed Coff32 n fits = closed Coff32 (reader_of Coff32) (writer_of Coff32).canonical (coff_file form.Usual32 n) refl refl refl refl (coff_known form.Usual32 n) (coff_stable form.Usual32 n fits)
written_is_closed Coff64 n fits = closed Coff64 (reader_of Coff64) (writer_of Coff64).canonical (coff_file form.Usual64 n) refl refl refl refl (coff_known form.Usual64 n) (coff_stable form.Usual64 n fits)
written_is_closed Mac32 n fits = closed Mac32 (reader_of Mac32) (writer_of Mac32).canonical (mach_file W32 n) refl refl refl refl (mach_known W32 n) (mach_stable W32 n fits)
written_is_closed Mac64 n fits = closed Mac64 (reader_of Mac64) (writer_of Mac64).canonical (mach_file W64 n) refl refl refl refl (mach_known W64 n) (mach_stable W64 n fits)
written_is_closed Omf n fits = closed Omf (reader_of Omf) (writer_of Omf).canonical (omf_file n) refl refl refl refl (omf_known n) (omf_stable n fits)
written_is_closed BigElf32 n fits = closed BigElf32 (reader_of BigElf32) (writer_of BigElf32).canonical (elf_file Big32 n) refl refl refl refl (elf_known Big32 n (for_elf Big32 n fits)) (elf_stable Big32 n fits)
written_is_closed BigElf64 n fits = closed BigElf64 (reader_of BigElf64) (writer_of BigElf64).canonical (elf_file Big64 n) refl refl refl refl (elf_known Big64 n (for_elf Big64 n fits)) (elf_stable Big64 n fits)
written_is_closed BigCoff32 n fits = closed BigCoff32 (reader_of BigCoff32) (writer_of BigCoff32).canonical (coff_file form.Big32 n) refl refl refl refl (coff_known form.Big32 n) (coff_stable form.Big32 n fits)
written_is_closed BigCoff64 n fits = closed BigCoff64 (reader_of BigCoff64) (writer_of BigCoff64).canonical (coff_file form.Big64 n) refl refl refl refl (coff_known form.Big64 n) (coff_stable form.Big64 n fits)
