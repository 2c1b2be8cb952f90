-- Symbols, added one after the other.
use Rattle.oc_coff.specs.Files.{CoffFile, tables_in}
use Rattle.oc_coff.specs.declared.constants.TheConstants.{IMAGE_SYM_SECTION_MAX_EX, IMAGE_SYM_ABSOLUTE, IMAGE_SYM_DEBUG, IMAGE_SYM_UNDEFINED, IMAGE_SYM_CLASS_EXTERNAL, IMAGE_SYM_CLASS_LABEL, IMAGE_SYM_CLASS_STATIC, IMAGE_SYM_CLASS_WEAK_EXTERNAL}
use Rattle.oc_coff.specs.{declared.symbol.SymbolEntry.{SymbolEntry}, Tables.{Tables}, Names.{is_nothing}}
use Rattle.oc_coff.specs.{Entries.{Entry, entries_in, entry_numbered, is_class, name_of}, Forms.{format_by}}
use Rattle.oc_coff.specs.Sections.{position_from, sections_in, position_of as section_position}
use Rattle.oc_coff.specs.Symbols.{binding_of, external_binding, is_own, local_binding, symbol_of, symbol_with, symbols_in, tag_of, value_of, weak_binding}
use Rattle.oc_coff.specs.{SymbolFaults.{can_be_tagged, symbol_stage}, Head.{IsHeaded}}
use Rattle.std.proofs.Common.{◌≡◌, ℕ, ◌+◌, ◌<◌, Bool, true, false, cond, List, [], ◌∷◌, length, map, Option, None, Some, Ok, refl, sym, ◌∙◌, ap, subst, arith}
use Rattle.std.specs.Prelude.{not, ◌&&◌, ◌||◌, nat_eq, nat_le, is_some, slice_get, slice_index_or}
use Rattle.std.specs.Option.{option_and_then, option_map, option_map_or, unwrap_or}
use Rattle.std.proofs.lemmas.{Bool.{eqb-true, true≢false}, List.{map-append}, Option.{none-some}}
use Rattle.oc_base.specs.declared.format.Word.{Word}
use Rattle.oc_linking.specs.{declared.terms.Binding.{Binding}, declared.terms.Binding.TheVariants.{Local, Global, Undefined, Common, Weak}}
use Rattle.oc_linking.specs.{declared.terms.Value.{Value}, FirstFault.{stage_fault}, Parts.{is_local}}
use Rattle.oc_linking.specs.declared.terms.Fallback.TheVariants as fallback
use Rattle.oc_linking.specs.declared.terms.Value.TheVariants as value
use Rattle.oc_linking.specs.Parts as parts
use Rattle.oc_neutral.specs.{declared.symbol.Symbol.{Symbol}, Building.{Draft, symbol_added}, Invariants.{AreBytes}, Keeping.{is_again}, Powers.{natural_align}}
use Rattle.oc_shows.specs.{Computed.{computed_symbol, placed_binding, position_of}, Started.{groups_by, plain_draft, stored_section}}
use Rattle.oc_shows.proofs.{BuiltSteps.{name_is_new}, StartedLaws.{symbol_more}}
use Rattle.oc_shelf.specs.{Reading.Collected.{collected}, Reading.Slots.{AreSlots}}
use Rattle.oc_shelf.proofs.ReadingLaws.CollectedLemmas.{IsFrom, collected-from, collected-none, collected-some}
use Rattle.oc_coff_read.specs.Built.{keys_of, symboled}
use Rattle.oc_coff_judge.specs.{Led.{symbol_at}, Numbered.{entry_by}, Tagged.{carried_position, symbol_as, symbol_position}}
use Rattle.oc_coff_judge.specs.Tagged as tagged
use Rattle.oc_coff_read.proofs.{ByteLemmas.{entry_small}, NamedDefaults.{IsDefault, default_of, external_carried}}
use Rattle.oc_coff_judge.proofs.{EntryLemmas.{find_from}, NumberedSymbols.{IsAt, carried_symbol, stands_at}, SoundSymbols.{is_seen, seen_once, sound_symbol}}
use Rattle.oc_coff_judge.proofs.TagLemmas.{entry_at}

-- ... which other files see

-- a symbol of section -2 has no value
debug_none : (t : Tables) (s : SymbolEntry) → nat_eq s.SectionNumber IMAGE_SYM_DEBUG ≡ true → external_binding (sections_in t) s ≡ None
unfolding value_of section_position
debug_none t s is =
    let number : s.SectionNumber ≡ 4294967294 = eqb-true s.SectionNumber 4294967294 is in
    ap
    (λ (n : ℕ). cond (nat_eq n 0) (cond (nat_eq s.Value 0) (Some Undefined) (Some (Common s.Value (natural_align s.Value))))
    (option_map Global (cond (nat_eq n IMAGE_SYM_ABSOLUTE) (Some (value.Absolute s.Value)) (option_map (λ k. value.Place k s.Value) (cond (nat_le n IMAGE_SYM_SECTION_MAX_EX) (position_from 0 (sections_in t) n) None)))))
    number

module _ (t : Tables) (clean : stage_fault (symbol_stage t) ≡ None) where
  -- a carried symbol that is not Local is seen by other files
  pub seen_by : (p : ℕ) (e : Entry) (b : Binding) → slice_get (entries_in t) p ≡ Some e → binding_of (sections_in t) (entries_in t) (name_of t.strings e) e ≡ Some b → is_local b ≡ false → is_seen t clean e ≡ true
  unfolding binding_of
  seen_by p e b there is other =
      by (is_class IMAGE_SYM_CLASS_EXTERNAL e.symbol) (is_class IMAGE_SYM_CLASS_WEAK_EXTERNAL e.symbol) (is_class IMAGE_SYM_CLASS_STATIC e.symbol || is_class IMAGE_SYM_CLASS_LABEL e.symbol) (nat_eq e.symbol.SectionNumber IMAGE_SYM_DEBUG) refl refl refl is
    where
      local : (o : Option Value) → option_map Local o ≡ Some b → ⊥
      local o g = grind arith

      own : (a : Bool) (o : Option Value) → cond a None (option_map Local o) ≡ Some b → ⊥
      own a o g = grind arith

      undefined : is_class IMAGE_SYM_CLASS_WEAK_EXTERNAL e.symbol ≡ true → nat_eq e.symbol.SectionNumber IMAGE_SYM_DEBUG ≡ true → ⊥
      undefined weak debug =
          let none : nat_eq e.symbol.SectionNumber IMAGE_SYM_UNDEFINED ≡ false = ap (λ (n : ℕ). nat_eq n IMAGE_SYM_UNDEFINED) (eqb-true e.symbol.SectionNumber 4294967294 debug) in
          true≢false (sym (ap (λ b. b && not (nat_eq e.symbol.SectionNumber IMAGE_SYM_UNDEFINED)) weak ∙ ap not none) ∙ (sound_symbol t clean p e there).undefined)

      by : (a w s d : Bool) → is_class IMAGE_SYM_CLASS_EXTERNAL e.symbol ≡ a → is_class IMAGE_SYM_CLASS_WEAK_EXTERNAL e.symbol ≡ w → nat_eq e.symbol.SectionNumber IMAGE_SYM_DEBUG ≡ d
          → cond a (external_binding (sections_in t) e.symbol) (cond w (weak_binding (sections_in t) (entries_in t) e) (cond s (local_binding (sections_in t) (entries_in t) (name_of t.strings e) e) None)) ≡ Some b
          → ((a || w) && not d) ≡ true
      by true w s false g h i k = refl
      by true w s true g h i k = absurd (none-some b (sym (debug_none t e.symbol i) ∙ k))
      by false true s false g h i k = refl
      by false true s true g h i k = absurd (undefined h i)
      by false false true d g h i k = absurd (own (is_own (entries_in t) e || is_nothing (name_of t.strings e)) (value_of (sections_in t) e.symbol) k)
      by false false false d g h i k = absurd (none-some b k)

-- ... defaults

-- an EXTERNAL symbol that can be tagged has another section than -2
pub tagged_other : (d : Entry) (sections : List parts.Section) → is_class IMAGE_SYM_CLASS_EXTERNAL d.symbol ≡ true → can_be_tagged sections d.symbol ≡ true → nat_eq d.symbol.SectionNumber IMAGE_SYM_DEBUG ≡ false
tagged_other d sections external can =
    let static : is_class IMAGE_SYM_CLASS_STATIC d.symbol ≡ false = ap (λ (c : ℕ). nat_eq c IMAGE_SYM_CLASS_STATIC) (eqb-true d.symbol.StorageClass IMAGE_SYM_CLASS_EXTERNAL external) in
    last (is_class IMAGE_SYM_CLASS_STATIC d.symbol) _ (is_class IMAGE_SYM_CLASS_EXTERNAL d.symbol) (nat_eq d.symbol.SectionNumber IMAGE_SYM_DEBUG) static can
  where
    last : (a b c e : Bool) → a ≡ false → ((a && b) || (c && not e)) ≡ true → e ≡ false
    last a b c e g h = grind arith

module _ (file : CoffFile) (head : IsHeaded file) (clean : stage_fault (symbol_stage (tables_in file)) ≡ None) where
  abbrev t : Tables
  t = tables_in file

  module _ (bytes : AreBytes file.bytes) where
    pub narrow : (p : ℕ) (e : Entry) → slice_get (entries_in t) p ≡ Some e → e.symbol.SectionNumber < 4294967296
    narrow p e there = let m = entry_at file head clean p e there in subst (λ (x : Entry). x.symbol.SectionNumber < 4294967296) (sym m.is) (entry_small file bytes e.number).section

    -- an EXTERNAL symbol of another section than -2 is carried
    pub external_entry : (p : ℕ) (d : Entry) → slice_get (entries_in t) p ≡ Some d → is_class IMAGE_SYM_CLASS_EXTERNAL d.symbol ≡ true → nat_eq d.symbol.SectionNumber IMAGE_SYM_DEBUG ≡ false
        → (y : parts.Symbol) × (symbol_of t.strings (sections_in t) (entries_in t) d ≡ Some y)
    unfolding symbol_of binding_of
    external_entry p d there external other = by (external_binding (sections_in t) d.symbol) refl (external_carried t clean narrow p d there external other)
      where
        by : (o : Option Binding) → external_binding (sections_in t) d.symbol ≡ o → is_some o ≡ true → (y : parts.Symbol) × (symbol_of t.strings (sections_in t) (entries_in t) d ≡ Some y)
        by None g h = absurd (true≢false (sym h))
        by (Some b) g h = (
          symbol_with (name_of t.strings d) d b,
          ap (option_map (symbol_with (name_of t.strings d) d))
              (ap (λ c. cond c (external_binding (sections_in t) d.symbol) (cond (is_class IMAGE_SYM_CLASS_WEAK_EXTERNAL d.symbol) (weak_binding (sections_in t) (entries_in t) d)
              (cond (is_class IMAGE_SYM_CLASS_STATIC d.symbol || is_class IMAGE_SYM_CLASS_LABEL d.symbol) (local_binding (sections_in t) (entries_in t) (name_of t.strings d) d) None))) external ∙ g),
        )

  module _ (bytes : AreBytes file.bytes) (slots : List (Option ℕ)) (are : AreSlots (symbol_position t) (length t.entries) slots) where
    -- a default that is named has a position
    named_position : (p : ℕ) (e : Entry) (number : ℕ) → slice_get (entries_in t) p ≡ Some e → binding_of (sections_in t) (entries_in t) (name_of t.strings e) e ≡ Some (Weak (fallback.Name number))
        → unwrap_or (slice_index_or slots number None) number ≡ position_of (symbols_in t) number
    named_position p e number there is = of (default_of t (name_of t.strings e) e number is)
      where
        of : IsDefault t e number → unwrap_or (slice_index_or slots number None) number ≡ position_of (symbols_in t) number
        of f = found (tag_of e) f.tagged
          where
            can : can_be_tagged (sections_in t) f.default.symbol ≡ true
            can = sym (ap (λ (o : Option Entry). option_map_or (λ (d : Entry). can_be_tagged (sections_in t) d.symbol) o false) f.tagged) ∙ (sound_symbol t clean p e there).tags f.weak

            position : (q : ℕ) → slice_get (entries_in t) q ≡ Some f.default → entry_numbered (entries_in t) number ≡ Some f.default → (y : parts.Symbol) → symbol_of t.strings (sections_in t) (entries_in t) f.default ≡ Some y
                → unwrap_or (slice_index_or slots number None) number ≡ position_of (symbols_in t) number
            position q at found y is =
                let low : number < length t.entries = subst (λ (k : ℕ). k < length t.entries) f.same (entry_at file head clean q f.default at).low in
                let carried = carried_symbol t f.default y is in
                ap (λ (o : Option ℕ). unwrap_or o number) (are.each number low ∙ ap (option_and_then (carried_position t)) found ∙ ap (option_map (λ (x : parts.Symbol). position_of (symbols_in t) x.number)) is)
                ∙ ap (position_of (symbols_in t)) (sym (ap (λ (x : parts.Symbol). x.number) carried.is) ∙ f.same)

            found : (o : Option ℕ) → option_and_then (entry_numbered (entries_in t)) o ≡ Some f.default → unwrap_or (slice_index_or slots number None) number ≡ position_of (symbols_in t) number
            found None g = absurd (none-some f.default g)
            found (Some j) g =
                let m = find_from (λ (y : Entry). nat_eq y.number j) (entries_in t) f.default g in
                let same : number ≡ j = sym f.same ∙ eqb-true f.default.number j m.passes in
                let y = external_entry bytes m.place f.default m.there f.external (tagged_other f.default (sections_in t) f.external can) in
                position m.place m.there (ap (entry_numbered (entries_in t)) same ∙ g) y.0 y.1

    -- a binding with positions
    pub placed_is : (p : ℕ) (e : Entry) (b : Binding) → slice_get (entries_in t) p ≡ Some e → binding_of (sections_in t) (entries_in t) (name_of t.strings e) e ≡ Some b
        → tagged.placed_binding slots b ≡ placed_binding (symbols_in t) b
    placed_is p e (Local v) there is = refl
    placed_is p e (Global v) there is = refl
    placed_is p e Undefined there is = refl
    placed_is p e (Common size align) there is = refl
    placed_is p e (Weak (fallback.Place k offset)) there is = refl
    placed_is p e (Weak fallback.Zero) there is = refl
    placed_is p e (Weak (fallback.Name number)) there is = ap (λ (n : ℕ). Weak (fallback.Name n)) (named_position p e number there is)

  -- ... a symbol more

  module _ (w : Word) (i j : ℕ) (here : slice_get (entries_in t) i ≡ Some (entry_by file j)) where
    abbrev e : Entry
    e = entry_by file j

    at_here : symbol_at t i ≡ symbol_of t.strings (sections_in t) (entries_in t) e
    unfolding symbol_at
    at_here = ap (option_and_then (symbol_of t.strings (sections_in t) (entries_in t))) here

    -- an entry that is not carried leaves the draft
    pub symbol_left : binding_of (sections_in t) (entries_in t) (name_of t.strings e) e ≡ None → symboled w t i ≡ symboled w t (i + 1)
    unfolding symbol_of
    symbol_left none =
        ap (λ (xs : List parts.Symbol). plain_draft (format_by w t.shape) (groups_by (keys_of t)) (map (stored_section (keys_of t)) (sections_in t)) (map (computed_symbol (symbols_in t)) xs))
        (sym (collected-none (symbol_at t) i (at_here ∙ ap (option_map (symbol_with (name_of t.strings e) e)) none)))

    module _ (b : Binding) (is : binding_of (sections_in t) (entries_in t) (name_of t.strings e) e ≡ Some b) where
      abbrev y : parts.Symbol
      y = symbol_with (name_of t.strings e) e b

      made : symbol_at t i ≡ Some y
      unfolding symbol_of
      made = at_here ∙ ap (option_map (symbol_with (name_of t.strings e) e)) is

      as_computed : symbol_as file j (placed_binding (symbols_in t) b) ≡ computed_symbol (symbols_in t) y
      unfolding entry_by
      as_computed = refl

      -- a name that no nonlocal symbol before has
      is_new : is_again (map (computed_symbol (symbols_in t)) (collected (symbol_at t) i)) (computed_symbol (symbols_in t) y) ≡ false
      is_new = name_is_new (symbols_in t) (collected (symbol_at t) i) y each
        where
          each : (k : ℕ) (x : parts.Symbol) → slice_get (collected (symbol_at t) i) k ≡ Some x → is_local x.binding ≡ false → is_local y.binding ≡ false → x.name ≡ y.name → ⊥
          each k x there other own same = apart (collected-from (symbol_at t) i k x there)
            where
              apart : IsFrom (symbol_at t) i k x → ⊥
              apart m = of (stands_at t m.k x m.is)
                where
                  of : IsAt t m.k x → ⊥
                  of n =
                      let local : is_local n.carried.binding ≡ false = ap (λ (z : parts.Symbol). is_local z.binding) n.carried.is ∙ other in
                      let names : name_of t.strings n.entry ≡ name_of t.strings e = ap (λ (z : parts.Symbol). z.name) n.carried.is ∙ same in
                      let one : m.k ≡ i = seen_once t clean m.k i n.entry e n.there here (seen_by t clean m.k n.entry n.carried.binding n.there n.carried.bound local) (seen_by t clean i e b here is own) names in
                      let below = m.below in
                      omega (arith, one, below)

      -- it is added
      symbol_taken : symbol_added (symboled w t i) (symbol_as file j (placed_binding (symbols_in t) b)) ≡ Ok (symboled w t (i + 1))
      symbol_taken =
          let sections = map (stored_section (keys_of t)) (sections_in t) in
          ap (symbol_added (symboled w t i)) as_computed
          ∙ symbol_more (format_by w t.shape) (groups_by (keys_of t)) sections (map (computed_symbol (symbols_in t)) (collected (symbol_at t) i)) (computed_symbol (symbols_in t) y) is_new
          ∙ ap (λ (ys : List Symbol). Ok (plain_draft (format_by w t.shape) (groups_by (keys_of t)) sections ys))
          (sym (map-append (computed_symbol (symbols_in t)) (collected (symbol_at t) i) (y ∷ [])) ∙ ap (map (computed_symbol (symbols_in t))) (sym (collected-some (symbol_at t) i y made)))

      -- in the words of what adds it
      pub can_symbol : AreBytes file.bytes → (slots : List (Option ℕ)) → AreSlots (symbol_position t) (length t.entries) slots → (d : Draft) (x : Symbol) (p : Binding) → d ≡ symboled w t i
          → p ≡ tagged.placed_binding slots b → x ≡ symbol_as file j p → symbol_added d x ≡ Ok (symboled w t (i + 1))
      can_symbol bytes slots are d x p before placed same =
          ap (λ (e : Draft). symbol_added e x) before ∙ ap (symbol_added (symboled w t i)) (same ∙ ap (symbol_as file j) (placed ∙ placed_is bytes slots are i e b here is)) ∙ symbol_taken
