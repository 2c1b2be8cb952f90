-- The symbols that weak externals tag.
use Rattle.oc_coff.specs.{Files.{CoffFile, tables_in}, declared.constants.TheConstants.{IMAGE_SYM_CLASS_WEAK_EXTERNAL}, Tables.{Tables}}
use Rattle.oc_coff.specs.{Entries.{Entry, entries_in, entry_numbered, is_class}, Sections.{sections_in}, Symbols.{tag_of, tagged_by}}
use Rattle.oc_coff.specs.{SymbolFaults.{can_be_tagged, symbol_stage}, Head.{IsHeaded}}
use Rattle.std.proofs.Common.{◌≡◌, ℕ, ◌<◌, true, false, length, Option, None, Some, refl, sym, ◌∙◌, ap, subst}
use Rattle.std.specs.{Prelude.{nat_eq, slice_get}, Option.{option_and_then, option_map_or}}
use Rattle.std.proofs.lemmas.Bool.{eqb-true, true≢false}
use Rattle.oc_linking.specs.FirstFault.{stage_fault}
use Rattle.oc_coff_judge.specs.{Numbered.{entry_by}, Tagged.{IsSymbolEntry}}
use Rattle.oc_coff_judge.proofs.{EntryLemmas.{IsEntry, entries_sound, find_from}, SoundSymbols.{sound_symbol}}
use Rattle.oc_neutral.proofs.Positions.{each_at}

module _ (file : CoffFile) (head : IsHeaded file) (clean : stage_fault (symbol_stage (tables_in file)) ≡ None) where
  abbrev t : Tables
  t = tables_in file

  pub entry_at : (p : ℕ) (e : Entry) → slice_get (entries_in t) p ≡ Some e → IsEntry file e
  entry_at p e there = each_at (IsEntry file) (entries_in t) p e (entries_sound file head) there

  -- the symbol that a weak external tags
  pub record IsTag (j d : ℕ) : Type 0 where
    pub low : d < length t.entries
    pub is : tagged_by (entries_in t) (entry_by file j) ≡ Some (entry_by file d)

  pub tag_there : (j : ℕ) → IsSymbolEntry file j → is_class IMAGE_SYM_CLASS_WEAK_EXTERNAL (entry_by file j).symbol ≡ true → (d : ℕ) → tag_of (entry_by file j) ≡ Some d → IsTag j d
  tag_there j here weak d tag =
      by (entry_numbered (entries_in t) d) refl
      (sym (ap (λ (o : Option ℕ). option_map_or (λ (d : Entry). can_be_tagged (sections_in t) d.symbol) (option_and_then (entry_numbered (entries_in t)) o) false) tag) ∙ (sound_symbol t clean here.place (entry_by file j) here.there).tags weak)
    where
      by : (o : Option Entry) → entry_numbered (entries_in t) d ≡ o → option_map_or (λ (d : Entry). can_be_tagged (sections_in t) d.symbol) o false ≡ true → IsTag j d
      by None e h = absurd (true≢false (sym h))
      by (Some x) e h =
          let m = find_from (λ (y : Entry). nat_eq y.number d) (entries_in t) x e in
          let entry = entry_at m.place x m.there in
          let number : x.number ≡ d = eqb-true x.number d m.passes in
          record {
            low = subst (λ (k : ℕ). k < length t.entries) number entry.low;
            is = ap (option_and_then (entry_numbered (entries_in t))) tag ∙ e ∙ ap Some (entry.is ∙ ap (entry_by file) number);
          }
