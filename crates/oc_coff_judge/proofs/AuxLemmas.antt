-- What the first auxiliary entry of an entry says of a section.
use Rattle.oc_coff.specs.{Files.{CoffFile, slot_in, tables_in}, declared.section_aux.SectionAux.{SectionAux}, declared.weak_aux.WeakAux.{WeakAux}}
use Rattle.oc_coff.specs.{Tables.{Slot}, Head.{IsHeaded}}
use Rattle.std.proofs.Common.{◌≡◌, ℕ, ◌+◌, ◌<◌, ◌≤◌, Bool, true, false, cond, eqb, length, Option, None, Some, refl, sym, ◌∙◌, ap, eq-eqb}
use Rattle.std.specs.{Option.{option_map}, Prelude.{slice_get}}
use Rattle.std.proofs.lemmas.{Bool.{ne_eqb}, Option.{slice_get_past}}
use Rattle.oc_coff_judge.specs.Numbered.{entry_by, entry_place}
use Rattle.oc_coff.proofs.HeadLemmas.{entry_there}

abbrev pub said : Option Slot → Option SectionAux
said o = option_map (λ (x : Slot). x.section) o

abbrev follow : CoffFile → ℕ → ℕ
follow file j = (slot_in file (entry_place file j)).symbol.NumberOfAuxSymbols

pub aux_none : (file : CoffFile) (j : ℕ) → (slot_in file (entry_place file j)).symbol.NumberOfAuxSymbols ≡ 0 → None ≡ said (entry_by file j).aux
unfolding entry_by
aux_none file j none = sym (ap (λ b. said (cond b None (slice_get (tables_in file).entries (j + 1)))) (eq-eqb (follow file j) 0 none))

pub aux_past : (file : CoffFile) (j : ℕ) → length (tables_in file).entries ≤ j + 1 → None ≡ said (entry_by file j).aux
unfolding entry_by
aux_past file j past = by (eqb (follow file j) 0)
  where
    by : (b : Bool) → None ≡ said (cond b None (slice_get (tables_in file).entries (j + 1)))
    by true = refl
    by false = sym (ap said (slice_get_past (tables_in file).entries (j + 1) past))

pub aux_there : (file : CoffFile) → IsHeaded file → (j : ℕ) → ((slot_in file (entry_place file j)).symbol.NumberOfAuxSymbols ≡ 0 → ⊥) → j + 1 < length (tables_in file).entries
    → Some (slot_in file (entry_place file (j + 1))).section ≡ said (entry_by file j).aux
unfolding entry_by
aux_there file is j some low =
    sym (ap (λ b. said (cond b None (slice_get (tables_in file).entries (j + 1)))) (ne_eqb (follow file j) 0 some)
    ∙ ap said (entry_there file is (j + 1) low))

-- ... and of a default

abbrev pub defaulted : Option Slot → Option WeakAux
defaulted o = option_map (λ (x : Slot). x.weak) o

pub weak_none : (file : CoffFile) (j : ℕ) → (slot_in file (entry_place file j)).symbol.NumberOfAuxSymbols ≡ 0 → None ≡ defaulted (entry_by file j).aux
unfolding entry_by
weak_none file j none = sym (ap (λ b. defaulted (cond b None (slice_get (tables_in file).entries (j + 1)))) (eq-eqb (follow file j) 0 none))

pub weak_past : (file : CoffFile) (j : ℕ) → length (tables_in file).entries ≤ j + 1 → None ≡ defaulted (entry_by file j).aux
unfolding entry_by
weak_past file j past = by (eqb (follow file j) 0)
  where
    by : (b : Bool) → None ≡ defaulted (cond b None (slice_get (tables_in file).entries (j + 1)))
    by true = refl
    by false = sym (ap defaulted (slice_get_past (tables_in file).entries (j + 1) past))

pub weak_there : (file : CoffFile) → IsHeaded file → (j : ℕ) → ((slot_in file (entry_place file j)).symbol.NumberOfAuxSymbols ≡ 0 → ⊥) → j + 1 < length (tables_in file).entries
    → Some (slot_in file (entry_place file (j + 1))).weak ≡ defaulted (entry_by file j).aux
unfolding entry_by
weak_there file is j some low =
    sym (ap (λ b. defaulted (cond b None (slice_get (tables_in file).entries (j + 1)))) (ne_eqb (follow file j) 0 some)
    ∙ ap defaulted (entry_there file is (j + 1) low))
