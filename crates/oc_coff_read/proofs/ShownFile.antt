-- A file without faults shows what is built of it, which can be finished and read.
use Rattle.oc_coff.specs.{Files.{CoffFile, tables_in}, HeaderFaults.{header_stage}, RelocationFaults.{relocation_stage}}
use Rattle.oc_coff.specs.{Rules.{dialect_by, fault_by, stages_of}, SectionFaults.{section_stage}, SymbolFaults.{symbol_stage}, Symbols.{symbols_in}}
use Rattle.oc_coff.specs.Head.{IsHeaded}
use Rattle.std.proofs.Common.{◌≡◌, ℕ, ◌<◌, length, Option, None, Some, refl, sym, ◌∙◌, ap, subst, arith}
use Rattle.std.specs.Prelude.{slice_get}
use Rattle.std.proofs.lemmas.Bool.{true≢false}
use Rattle.oc_base.specs.{declared.format.Word.{Word}, declared.fault.Fault.{Fault}}
use Rattle.oc_linking.specs.{declared.terms.Keep.{Keep}, FirstFault.{first_fault, stage_fault}, Numbers.{or_else}}
use Rattle.oc_neutral.specs.{declared.reloc.Reloc.{Reloc}, declared.reloc.Target.{Target}, Building.{Draft}}
use Rattle.oc_neutral.specs.Invariants.{AreBytes, IsComplete, IsDraft, NamesOriginal}
use Rattle.oc_neutral.specs.declared.reloc.Target.TheVariants as target
use Rattle.oc_shows.specs.{Built.{HasAdded, IsStarted}, Finished.{AreFinal}, Readable.{IsReadable}, Shows.{Shows}}
use Rattle.oc_shows.proofs.BuiltWhole.{built_is_complete, built_is_readable}
use Rattle.oc_coff_read.specs.{Adding.{started}, Given.{given_at}, Shown.{CleanIsShown}}
use Rattle.oc_coff_judge.specs.Relocs.{rest_stages}
use Rattle.oc_coff_read.proofs.{AddedSymbols.{narrow}, CompleteLemmas.{complete}, NamedDefaults.{are_named}, ReadableLemmas.{blank_is, readable}}
use Rattle.oc_coff_read.proofs.{RowLemmas.{is_row, no_call}, StandingFields.{IsStanding, form_of, given_standing}, StartedFile.{built_is_shown, is_started}}
use Rattle.oc_coff_read.proofs.WholeSymbols.{original_there}
use Rattle.oc_coff_judge.proofs.NumberedSymbols.{symbol_stands}

-- ... stages

-- the stages behind the header have no fault
pub record IsClean (w : Word) (file : CoffFile) (keep : Keep) : Type 0 where
  pub sections : stage_fault (section_stage file.bytes (tables_in file)) ≡ None
  pub symbols : stage_fault (symbol_stage (tables_in file)) ≡ None
  pub relocs : stage_fault (relocation_stage w (tables_in file) keep) ≡ None

none_of : (a b : Option Fault) → or_else a b ≡ None → (a ≡ None) × (b ≡ None)
none_of a b e = grind arith

pub stages_clean : (w : Word) (file : CoffFile) (keep : Keep) → first_fault (rest_stages w file keep) ≡ None → IsClean w file keep
stages_clean w file keep none =
    let a = none_of (stage_fault (section_stage file.bytes (tables_in file))) _ none in
    let b = none_of (stage_fault (symbol_stage (tables_in file))) _ a.1 in
    let c = none_of (stage_fault (relocation_stage w (tables_in file) keep)) _ b.1 in
    record { sections = a.0; symbols = b.0; relocs = c.0 }

-- those of a file are its header's and the rest
pub fault_is : (w : Word) (file : CoffFile) (keep : Keep) → fault_by w file.shape file.bytes keep ≡ or_else (stage_fault (header_stage file.shape file.bytes)) (first_fault (rest_stages w file keep))
unfolding fault_by stages_of
fault_is w file keep = refl

pub clean_is_shown : CleanIsShown
clean_is_shown w file keep d small none start has =
    let head = (none_of (stage_fault (header_stage file.shape file.bytes)) _ (sym (fault_is w file keep) ∙ none)).0 in
    built_is_shown w file (record { clean = head; small = small }) keep d start has

-- ... what is given

module _ (w : Word) (file : CoffFile) (head : IsHeaded file) (bytes : AreBytes file.bytes) (keep : Keep) (clean : IsClean w file keep) (draft : IsDraft (started w file)) where
  pub start : IsStarted (dialect_by w file.shape) file.bytes keep (started w file)
  start = is_started w file head keep (are_named (tables_in file) clean.symbols (narrow file head clean.symbols bytes)) draft

  standing : (s at : ℕ) (r : Reloc) → given_at w (tables_in file) keep s at ≡ Some r → IsStanding w file head keep (started w file).object start.symbols clean.relocs s at r
  standing = given_standing w file head keep (started w file).object start.symbols clean.relocs

  original : (s at : ℕ) (r : Reloc) (m : IsStanding w file head keep (started w file).object start.symbols clean.relocs s at r) (u : Target) → m.made.against.at ≡ u → NamesOriginal (started w file).object.symbols u
  original s at r m (target.Section k) same = tt
  original s at r m (target.Symbol p) same =
      let x = m.made.against.symbol p same in
      original_there w file head bytes clean.symbols p x.0 (ap (slice_get (symbols_in (tables_in file))) (sym x.2) ∙ symbol_stands file head m.made.place m.made.symbol x.0 m.made.there x.1)

  are_final : AreFinal (started w file).object (given_at w (tables_in file) keep)
  are_final = record {
    hints = λ s at r e call.
        let m = standing s at r e in
        absurd (no_call m.good.row (is_row w m.entry.Type m.good.row m.good.listed) (sym (form_of w file head keep (started w file).object start.symbols clean.relocs s at r m).2 ∙ call));
    originals = λ s at r e.
        let m = standing s at r e in
        subst (λ (q : Reloc). NamesOriginal (started w file).object.symbols q.target) m.made.against.is (original s at r m m.made.against.at refl);
  }

  module _ (d : Draft) (has : HasAdded (started w file) d (given_at w (tables_in file) keep)) where
    pub read_complete : length (tables_in file).entries < 4294967296 → IsComplete d.object
    read_complete few =
        built_is_complete (dialect_by w file.shape) file.bytes keep (started w file) d (given_at w (tables_in file) keep) start has (complete w file head bytes clean.symbols few) are_final

    pub read_readable : IsReadable d.object
    read_readable =
        built_is_readable (dialect_by w file.shape) file.bytes keep (started w file) d (given_at w (tables_in file) keep) start has (readable w file bytes) (λ s x there blank at. absurd (true≢false (sym blank ∙ blank_is w (tables_in file).shape x.tag)))

    pub read_shows : Shows (dialect_by w file.shape) file.bytes keep d.object
    read_shows = built_is_shown w file head keep d start has
