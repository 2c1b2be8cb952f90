-- What is read of a file without faults.
use Rattle.std.proofs.Common.{◌≡◌, ℕ, ◌≤◌, List, length, Option, None, subst}
use Rattle.std.specs.Option.{unwrap_or}
use Rattle.oc_linking.specs.{declared.terms.Keep.{Keep}, FirstFault.{first_fault}}
use Rattle.oc_neutral.specs.{Building.{Draft}, Invariants.{AreBytes, IsComplete, IsDraft}, Objects.{Object}}
use Rattle.oc_shows.specs.{Built.{HasAdded, IsStarted}, Readable.{IsReadable}, Shows.{Shows}}
use Rattle.oc_shows.proofs.BuiltWhole.{built_is_complete, built_is_readable}
use Rattle.oc_elf.specs.{declared.class.ElfClass.{ElfClass}, Elf.{elf_dialect, rest_stages}, Frames.{FileFrame, framed, header_at}, Laid.{IsFrame}}
use Rattle.oc_elf.specs.{Sections.{symtab_among}, Tables.{symbol_count}}
use Rattle.oc_elf_read.specs.{Built.{symboled}, Given.{given_at}}
use Rattle.oc_elf_judge.specs.Known.{IsSymtab}
use Rattle.oc_elf_read.proofs.{CompleteLemmas.{complete}, FoundFields.{IsClean, stages_clean}, ReadableLemmas.{readable}, ShowableLemmas.{is_started}}
use Rattle.oc_elf_read.proofs.ShownFile.{are_final, clean_is_shown, leaves_blanks}
use Rattle.oc_elf_judge.proofs.TableLemmas.{symtab_is}

module _ (f : FileFrame) (keep : Keep) (frame : IsFrame f) (none : first_fault (rest_stages f keep) ≡ None) (draft : IsDraft (symboled f (symbol_count f))) (d : Draft)
    (added : HasAdded (symboled f (symbol_count f)) d (given_at f keep)) where
  started : IsStarted (elf_dialect f.class) f.file keep (symboled f (symbol_count f))
  started = is_started f frame keep draft

  clean : IsClean f keep
  clean = stages_clean f keep none

  pub read_complete : AreBytes f.file → symbol_count f ≤ 67108864 → IsComplete d.object
  read_complete bytes few =
      built_is_complete (elf_dialect f.class) f.file keep (symboled f (symbol_count f)) d (given_at f keep) started added (complete f frame bytes clean.sections clean.symbols few)
      (are_final f keep frame clean started)

  pub read_readable : IsReadable d.object
  read_readable =
      built_is_readable (elf_dialect f.class) f.file keep (symboled f (symbol_count f)) d (given_at f keep) started added (readable f frame clean.sections) (leaves_blanks f keep frame clean started)

  pub read_shows : Shows (elf_dialect f.class) f.file keep d.object
  read_shows = clean_is_shown f keep d frame none started added

-- the symbol table that was found
pub symtab_found : (f : FileFrame) (keep : Keep) → IsFrame f → first_fault (rest_stages f keep) ≡ None → (o : Option ℕ) → o ≡ symtab_among f (length f.headers) → IsSymtab f (header_at f.headers (unwrap_or o 0))
symtab_found f keep frame none = symtab_is f frame (stages_clean f keep none).sections

-- a file that is framed shows what its frame does
pub framed_shows : (class : ElfClass) (file : List ℕ) (keep : Keep) (f : FileFrame) (n : Object) → f ≡ framed class file → Shows (elf_dialect f.class) f.file keep n → Shows (elf_dialect class) file keep n
unfolding framed
framed_shows class file keep f n is = subst (λ (g : FileFrame). Shows (elf_dialect g.class) g.file keep n) is
