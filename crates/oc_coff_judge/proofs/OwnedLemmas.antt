-- The first symbols of each section, and what they say.
use Rattle.oc_coff.specs.{Files.{CoffFile, slot_in, tables_in}, declared.constants.TheConstants.{IMAGE_SYM_CLASS_EXTERNAL}}
use Rattle.oc_coff.specs.{declared.section_aux.SectionAux.{SectionAux}, Entries.{Entry, entries_in, is_class, is_in}, Comdat.{key_symbol, selects, symbols_of}}
use Rattle.oc_coff.specs.Head.{IsHeaded}
use Rattle.std.proofs.Common.{◌≡◌, ℕ, ◌<◌, Bool, true, cond, length, Option, None, Some, refl, sym, ◌∙◌, ap, subst}
use Rattle.std.specs.{Prelude.{slice_get}, Option.{option_map, option_and_then}}
use Rattle.std.proofs.lemmas.{Bool.{true≢false}, Option.{none-some, same_Some}}
use Rattle.oc_coff_judge.specs.Numbered.{entry_by, entry_place, symbol_in}
use Rattle.oc_coff_judge.proofs.EntryLemmas.{IsEntry, entries_sound, filter_from}
use Rattle.oc_neutral.proofs.Positions.{each_at}

-- entry j is symbol i of section number k
pub record IsOwner (file : CoffFile) (i k j : ℕ) : Type 0 where
  pub low : j < length (tables_in file).entries
  pub is : slice_get (symbols_of (entries_in (tables_in file)) k) i ≡ Some (entry_by file j)

pub owner_is : (file : CoffFile) → IsHeaded file → (i k j : ℕ) → symbol_in (tables_in file) i k ≡ Some j → IsOwner file i k j
owner_is file head i k j is = by (slice_get (symbols_of (entries_in (tables_in file)) k) i) refl is
  where
    by : (o : Option Entry) → slice_get (symbols_of (entries_in (tables_in file)) k) i ≡ o → option_map (λ (e : Entry). e.number) o ≡ Some j → IsOwner file i k j
    by None e h = absurd (none-some j h)
    by (Some x) e h =
        let p = filter_from (λ (e : Entry). is_in k e.symbol) (entries_in (tables_in file)) i x e in
        let m = each_at (IsEntry file) (entries_in (tables_in file)) p.place x (entries_sound file head) p.there in
        let number = same_Some x.number j h in
        record {
          low = subst (λ (n : ℕ). n < length (tables_in file).entries) number m.low;
          is = e ∙ ap Some (m.is ∙ ap (entry_by file) number);
        }

-- ... what the first says

-- ... keys

pub second_is : (file : CoffFile) (k j : ℕ) (b : Bool) → IsOwner file 1 k j → is_class IMAGE_SYM_CLASS_EXTERNAL (slot_in file (entry_place file j)).symbol ≡ b
    → key_symbol (entries_in (tables_in file)) k ≡ cond b (Some (entry_by file j)) None
unfolding entry_by
second_is file k j b owner is =
    ap (option_and_then (λ (e : Entry). cond (is_class IMAGE_SYM_CLASS_EXTERNAL e.symbol) (Some e) None)) owner.is
    ∙ ap (λ b. cond b (Some (entry_by file j)) None) is

-- what is selected is said
pub selected_some : (s : ℕ) (o : Option SectionAux) → selects s o ≡ true → (d : SectionAux) × (o ≡ Some d)
selected_some s None e = absurd (true≢false (sym e))
selected_some s (Some d) e = (d, refl)
