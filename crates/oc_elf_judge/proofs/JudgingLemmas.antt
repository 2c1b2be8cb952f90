-- The stages of reading together.
use Rattle.std.proofs.Common.{◌≡◌, ℕ, ◌<◌, ◌^◌, true, cond, List, length, Option, None, sym, ◌∙◌, ap, arith, inl, inr}
use Rattle.std.proofs.lemmas.Bool.{true≢false, and_parts}
use Rattle.oc_base.specs.{declared.fault.Fault.{Fault}, declared.stop.Stop.{Stop}, Stops.{IsStop}}
use Rattle.oc_base.specs.declared.stop.Stop.TheVariants as stop
use Rattle.oc_linking.specs.{declared.terms.Keep.{Keep}, FirstFault.{fault_of, first_fault, stage_fault}, Numbers.{first_upto, or_else}}
use Rattle.oc_shelf.proofs.ReadingLaws.StageLemmas.{clean_at, first_fault-append}
use Rattle.oc_elf.specs.{declared.class.ElfClass.{ElfClass}, Elf.{fault_in, rest_stages}, Frames.{FileFrame, framed, header_at}, Headers.{header_stages}}
use Rattle.oc_elf.specs.{Laid.{IsFrame}, RelocRules.{entry_fault, is_kept_section, reloc_stage}, Sections.{is_carried}, SectionRules.{section_stage}}
use Rattle.oc_elf.specs.Tables.{reloc_count}
use Rattle.oc_elf_judge.proofs.SectionLemmas.{here, null_first, sound_at}

-- the stage of a section that is kept, and of one that is not
pub kept_stage : (f : FileFrame) (keep : Keep) (i : ℕ) → is_kept_section f keep i ≡ true → stage_fault (reloc_stage f keep i) ≡ first_upto (entry_fault f i) (reloc_count f i)
kept_stage f keep i is = ap (λ b. first_upto (entry_fault f i) (cond b (reloc_count f i) 0)) is

-- a kept section is small
pub kept_small : (f : FileFrame) (keep : Keep) (i : ℕ) → IsFrame f → stage_fault (section_stage f) ≡ None → i < length f.headers → is_kept_section f keep i ≡ true → (header_at f.headers i).sh_size < 2 ^ 32
kept_small f keep i frame clean low is =
    let carried = (and_parts _ _ is).0 in
    elim (sound_at f i (clean_at (fault_of (section_stage f)) (length f.headers) i clean low)) as (λ _. (here f i).sh_size < 2 ^ 32) [
      | inl none ↦ absurd (true≢false (sym carried ∙ ap (λ (j : ℕ). is_carried (here f j)) none ∙ ap is_carried (null_first f frame)))
      | inr sound ↦ let size = (sound.carried carried).size in omega (arith, size)
    ]

pub fault_parts : (class : ElfClass) (file : List ℕ) (keep : Keep) → fault_in class file keep ≡ or_else (first_fault (header_stages class file)) (first_fault (rest_stages (framed class file) keep))
unfolding fault_in
fault_parts class file keep = first_fault-append (header_stages class file) (rest_stages (framed class file) keep)

-- a fault of the header is that of the file
pub header_stops : (class : ElfClass) (file : List ℕ) (keep : Keep) (s : Stop) → IsStop (first_fault (header_stages class file)) s → IsStop (fault_in class file keep) s
header_stops class file keep (stop.Refused fault) is = fault_parts class file keep ∙ ap (λ (o : Option Fault). or_else o (first_fault (rest_stages (framed class file) keep))) is
header_stops class file keep stop.NoMemory is = tt

pub header_clean : (class : ElfClass) (file : List ℕ) (keep : Keep) → first_fault (header_stages class file) ≡ None → fault_in class file keep ≡ first_fault (rest_stages (framed class file) keep)
header_clean class file keep clean = fault_parts class file keep ∙ ap (λ (o : Option Fault). or_else o (first_fault (rest_stages (framed class file) keep))) clean
