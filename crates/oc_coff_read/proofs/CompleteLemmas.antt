-- What is built of a file without faults is complete before its relocations.
use Rattle.oc_coff.specs.{Files.{CoffFile, tables_in}, Tables.{Tables}, Names.{is_nothing}, Comdat.{led_key}, Entries.{Entry, entries_in, is_class, name_of}}
use Rattle.oc_coff.specs.{Sections.{align_bits, align_of, sections_in}, SymbolFaults.{is_external, symbol_stage}, Symbols.{symbol_of, symbols_in}}
use Rattle.oc_coff.specs.{declared.constants.TheConstants.{IMAGE_SYM_CLASS_WEAK_EXTERNAL}, Head.{IsHeaded}}
use Rattle.std.proofs.Common.{◌≡◌, ◌≢◌, ℕ, ◌+◌, ◌-◌, ◌^◌, ◌<◌, Bool, true, false, cond, List, [], ◌∷◌, length, map, Option, None, Some, refl, sym, ◌∙◌, ap, subst, arith}
use Rattle.std.specs.{Prelude.{◌&&◌, ◌||◌, bytes_eq, nat_eq, slice_get}, List.{AllByRecursion, position_or_len}, Option.{option_map, option_and_then}}
use Rattle.std.proofs.lemmas.{Bool.{true≢false}, List.{length-map}, Option.{none-some}}
use Rattle.oc_base.specs.declared.format.Word.{Word}
use Rattle.oc_linking.specs.FirstFault.{stage_fault}
use Rattle.oc_linking.specs.Parts as parts
use Rattle.oc_chains.specs.declared.field.Field.{Field}
use Rattle.oc_neutral.specs.{declared.group.Group.{Group}, declared.reloc.Reloc.{Reloc}, declared.section.Section.{Section}}
use Rattle.oc_neutral.specs.Invariants.{AreBegun, AreBytes, HaveKeys, IsAlign, IsComplete, IsHinted, IsSymbol, NamesOriginal, groups_of}
use Rattle.oc_shows.specs.{Computed.{computed_symbol, keys_after}, Started.{groups_by, stored_section}}
use Rattle.oc_shows.proofs.{StartedLaws.{fieldless_at}, KeyListLemmas.{keys_all, keys_apart, keys_begin}}
use Rattle.oc_shelf.proofs.{ReadingLaws.CollectedLemmas.{IsFrom, collected-from, all_mapped}, WritingLaws.MemberLemmas.{of_map}}
use Rattle.oc_coff_read.specs.{Adding.{started}, Built.{keys_of}}
use Rattle.oc_coff_judge.specs.Led.{leader_of, section_at, symbol_at}
use Rattle.oc_coff_read.proofs.{BegunLemmas.{section_group}, WholeSymbols.{IsOf, section_by, symbol_whole, symbols_same}}
use Rattle.oc_coff_judge.proofs.{CollectLemmas.{sections_are, symbols_are}, LedLemmas.{IsLeading, key_led, leading}, NumberedSymbols.{IsAt, stands_at}}
use Rattle.oc_coff_judge.proofs.{SoundSymbols.{sound_symbol}, PlacedLemmas.{section_from}}
use Rattle.oc_neutral.proofs.Positions.{each_at}

-- the groups of sections that are stored
groups_are : (keys : List (List ℕ)) (xs : List parts.Section)
    → map (option_map (λ key. position_or_len (bytes_eq key) keys)) (map (λ (x : parts.Section). x.group) xs) ≡ groups_of (map (stored_section keys) xs)
groups_are keys [] = refl
groups_are keys (x ∷ xs) = ap (λ (gs : List (Option ℕ)). option_map (λ key. position_or_len (bytes_eq key) keys) x.group ∷ gs) (groups_are keys xs)

align_aligns : (flags : ℕ) → IsAlign (align_of flags)
align_aligns flags = by (nat_eq (align_bits flags) 0)
  where
    by : (b : Bool) → IsAlign (cond b 16 (2 ^ (align_bits flags - 1)))
    by true = (4, omega arith, refl)
    by false = (align_bits flags - 1, omega arith, refl)

symbol_is : (t : Tables) (k : ℕ) (e : Entry) → slice_get (entries_in t) k ≡ Some e → symbol_at t k ≡ symbol_of t.strings (sections_in t) (entries_in t) e
unfolding symbol_at
symbol_is t k e here = ap (option_and_then (symbol_of t.strings (sections_in t) (entries_in t))) here

module _ (w : Word) (file : CoffFile) (head : IsHeaded file) (bytes : AreBytes file.bytes) (symbols : stage_fault (symbol_stage (tables_in file)) ≡ None) (few : length (tables_in file).entries < 4294967296) where
  abbrev t : Tables
  t = tables_in file

  -- ... groups

  -- a key is not empty
  led_full : (g : ℕ) (key : List ℕ) → led_key t g ≡ Some key → key ≢ []
  led_full g key is none = by (leading t g key is)
    where
      by : IsLeading t g key → ⊥
      by m =
          let external : is_external m.symbol.symbol ≡ true = ap (λ b. b || is_class IMAGE_SYM_CLASS_WEAK_EXTERNAL m.symbol.symbol) m.external in
          true≢false (sym (ap (λ b. b && is_nothing (name_of t.strings m.symbol)) external ∙ ap is_nothing (m.named ∙ none)) ∙ (sound_symbol t symbols m.place m.symbol m.there).full)

  key_full : (k : ℕ) (key : List ℕ) → slice_get (map (λ (x : parts.Section). x.group) (sections_in t)) k ≡ Some (Some key) → key ≢ []
  key_full k key there = by (of_map (λ (x : parts.Section). x.group) (sections_in t) k (Some key) there)
    where
      held : (o : Option ℕ) → option_and_then (led_key t) o ≡ Some key → key ≢ []
      held None e = absurd (none-some key e)
      held (Some g) e = led_full g key e

      by : (x : parts.Section) × (slice_get (sections_in t) k ≡ Some x) × (x.group ≡ Some key) → key ≢ []
      by m = of (section_from t k m.0 m.1)
        where
          of : IsFrom (section_at t) (length t.sections) k m.0 → key ≢ []
          of from = held (leader_of t (from.k + 1)) (sym (key_led t (from.k + 1)) ∙ sym (section_group t from.k m.0 from.is) ∙ m.2)

  -- the sections by which keys are told are the carried ones
  abbrev groups : List (Option (List ℕ))
  groups = map (λ (x : parts.Section). x.group) (sections_in t)

  keys_same : keys_of t ≡ keys_after [] groups
  keys_same = ap (λ (xs : List parts.Section). keys_after [] (map (λ (x : parts.Section). x.group) xs)) (sym (sections_are t))

  have_keys : HaveKeys (groups_by (keys_of t))
  have_keys = record {
    differ = differ;
    full = all_mapped (λ (g : Group). g.key ≢ []) (λ key. record { key = key }) (keys_of t) (λ k key there. each_at (λ (l : List ℕ). l ≢ []) (keys_of t) k key
        (subst (AllByRecursion (λ (l : List ℕ). l ≢ [])) (sym keys_same) (keys_all (λ (l : List ℕ). l ≢ []) [] groups key_full)) there);
  }
    where
      differ : (i j : ℕ) (g h : Group) → i < j → slice_get (groups_by (keys_of t)) i ≡ Some g → slice_get (groups_by (keys_of t)) j ≡ Some h → g.key ≢ h.key
      differ i j g h low at_i at_j same = by (of_map (λ key. record { key = key }) (keys_of t) i g at_i) (of_map (λ key. record { key = key }) (keys_of t) j h at_j)
        where
          by : (k : List ℕ) × (slice_get (keys_of t) i ≡ Some k) × (record { key = k } ≡ g) → (l : List ℕ) × (slice_get (keys_of t) j ≡ Some l) × (record { key = l } ≡ h) → ⊥
          by a b =
              keys_apart [] groups i j a.0 b.0 low (ap (λ (ks : List (List ℕ)). slice_get ks i) (sym keys_same) ∙ a.1) (ap (λ (ks : List (List ℕ)). slice_get ks j) (sym keys_same) ∙ b.1)
              (ap (λ (x : Group). x.key) a.2 ∙ same ∙ sym (ap (λ (x : Group). x.key) b.2))

  begun : AreBegun (length (groups_by (keys_of t))) 0 (groups_of (map (stored_section (keys_of t)) (sections_in t)))
  begun =
      let made : List ℕ → Group = λ key. record { key = key } in
      subst (λ n. AreBegun n 0 (groups_of (map (stored_section (keys_of t)) (sections_in t)))) (sym (length-map (keys_of t) made))
      (subst (AreBegun (length (keys_of t)) 0) (groups_are (keys_of t) (sections_in t)) (keys_begin (keys_of t) [] groups keys_same))

  -- ... sections

  aligned : (s : ℕ) (x : parts.Section) → slice_get (sections_in t) s ≡ Some x → IsAlign x.align
  aligned s x there = by (section_from t s x there)
    where
      by : IsFrom (section_at t) (length t.sections) s x → IsAlign x.align
      by from = of (section_by t from.k x from.is)
        where
          of : IsOf t from.k x → IsAlign x.align
          of o = subst (λ (y : parts.Section). IsAlign y.align) o.is (align_aligns o.table.header.Characteristics)

  -- ... all

  pub complete : IsComplete (started w file).object
  complete = record {
    keys = have_keys;
    begun = begun;
    aligns = all_mapped (λ (x : Section). IsAlign x.align) (stored_section (keys_of t)) (sections_in t) aligned;
    symbols = subst (AllByRecursion (IsSymbol (started w file).object)) (symbols_same w file head bytes symbols) (all_mapped (IsSymbol (started w file).object) (computed_symbol (symbols_in t)) (symbols_in t) whole);
    hints = λ s. subst (AllByRecursion (λ (x : Field Reloc). IsHinted x.item)) (sym (fieldless_at {T = Reloc} (map (stored_section (keys_of t)) (sections_in t)) s)) tt;
    originals = λ s. subst (AllByRecursion (λ (x : Field Reloc). NamesOriginal (started w file).object.symbols x.item.target))
        (sym (fieldless_at {T = Reloc} (map (stored_section (keys_of t)) (sections_in t)) s)) tt;
  }
    where
      whole : (k : ℕ) (x : parts.Symbol) → slice_get (symbols_in t) k ≡ Some x → IsSymbol (started w file).object (computed_symbol (symbols_in t) x)
      whole k x there = by (collected-from (symbol_at t) (length (entries_in t)) k x (sym (ap (λ (xs : List parts.Symbol). slice_get xs k) (symbols_are t)) ∙ there))
        where
          by : IsFrom (symbol_at t) (length (entries_in t)) k x → IsSymbol (started w file).object (computed_symbol (symbols_in t) x)
          by from = of (stands_at t from.k x from.is)
            where
              of : IsAt t from.k x → IsSymbol (started w file).object (computed_symbol (symbols_in t) x)
              of m = symbol_whole w file head bytes symbols from.k m.entry m.there x (sym (symbol_is t from.k m.entry m.there) ∙ from.is) few
