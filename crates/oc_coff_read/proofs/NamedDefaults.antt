-- The default of a weak external that is a symbol of other files is carried.
use Rattle.std.proofs.Common.{◌≡◌, ℕ, zero, suc, ◌<◌, Bool, true, false, cond, eqb, List, [], ◌∷◌, length, take, Option, None, Some, refl, sym, ◌∙◌, ap, subst, arith}
use Rattle.std.specs.{Prelude.{not, ◌&&◌, ◌||◌, nat_eq, nat_lt, nat_le, is_none, is_some, slice_get}, Option.{option_and_then, option_map, option_map_or}}
use Rattle.std.proofs.lemmas.{Bool.{eq-eqb, eqb-true, true≢false}, Bool.Decides.{nat_tests}, Option.{none-some, same_Some}}
use Rattle.oc_linking.specs.{declared.terms.Binding.{Binding}, declared.terms.Binding.TheVariants.{Local, Global, Undefined, Common, Weak}}
use Rattle.oc_linking.specs.{declared.terms.Fallback.{Fallback}, declared.terms.Value.{Value}, FirstFault.{stage_fault}, Values.{numbered}}
use Rattle.oc_linking.specs.declared.terms.Fallback.TheVariants as fallback
use Rattle.oc_linking.specs.declared.terms.Value.TheVariants as value
use Rattle.oc_linking.specs.Parts as parts
use Rattle.oc_neutral.specs.Powers.{natural_align}
use Rattle.oc_shelf.proofs.{ReadingLaws.CollectedLemmas.{IsFrom, collected-from}, WritingLaws.MemberLemmas.{member_filter_map}}
use Rattle.oc_coff.specs.declared.constants.TheConstants.{IMAGE_SYM_SECTION_MAX_EX, IMAGE_SYM_ABSOLUTE, IMAGE_SYM_DEBUG, IMAGE_SYM_CLASS_EXTERNAL, IMAGE_SYM_CLASS_LABEL, IMAGE_SYM_CLASS_STATIC, IMAGE_SYM_CLASS_WEAK_EXTERNAL}
use Rattle.oc_coff.specs.{declared.symbol.SymbolEntry.{SymbolEntry}, Tables.{Tables}, Names.{is_nothing}}
use Rattle.oc_coff.specs.{Entries.{Entry, entries_in, entry_numbered, has_section, is_class, name_of}, Sections.{position_of, sections_in}}
use Rattle.oc_coff.specs.Symbols.{binding_of, external_binding, fallback_at, fallback_by, is_own, local_binding, symbol_of, symbol_with, symbols_in, tag_of, tagged_by, value_of, weak_binding}
use Rattle.oc_coff.specs.SymbolFaults.{can_be_tagged, is_uncarried, symbol_stage}
use Rattle.oc_coff_judge.specs.Led.{symbol_at}
use Rattle.oc_coff_judge.proofs.{CollectLemmas.{symbols_are}, EntryLemmas.{find_from}, NumberedSymbols.{IsAt, stands_at}}
use Rattle.oc_coff_judge.proofs.SoundSymbols.{IsSoundSymbol, sound_symbol}
use Rattle.oc_coff_read.proofs.StartedFile.{AreNamed}

-- ... what a weak binding that names a symbol comes from

-- a weak external whose default is that symbol
pub record IsDefault (t : Tables) (e : Entry) (number : ℕ) : Type 0 where
  pub weak : is_class IMAGE_SYM_CLASS_WEAK_EXTERNAL e.symbol ≡ true
  pub default : Entry
  pub tagged : tagged_by (entries_in t) e ≡ Some default
  pub external : is_class IMAGE_SYM_CLASS_EXTERNAL default.symbol ≡ true
  pub same : default.number ≡ number

-- which fallback a binding has, and which number a fallback
held : Binding → Option Fallback
held (Local v) = None
held (Global v) = None
held Undefined = None
held (Common size align) = None
held (Weak f) = Some f

held_number : Fallback → Option ℕ
held_number (fallback.Place k offset) = None
held_number fallback.Zero = None
held_number (fallback.Name number) = Some number

none_held : (b : Binding) (f : Fallback) → held b ≡ None → Some b ≡ Some (Weak f) → ⊥
unfolding held
none_held b f none e = none-some f (sym none ∙ ap held (same_Some b (Weak f) e))

module _ (t : Tables) where
  external_other : (s : SymbolEntry) (f : Fallback) → external_binding (sections_in t) s ≡ Some (Weak f) → ⊥
  unfolding held
  external_other s f e = by (nat_eq s.SectionNumber 0) (nat_eq s.Value 0) (value_of (sections_in t) s) e
    where
      by : (a b : Bool) (o : Option Value) → cond a (cond b (Some Undefined) (Some (Common s.Value (natural_align s.Value)))) (option_map Global o) ≡ Some (Weak f) → ⊥
      by a b o e = grind arith

  local_other : (name : List ℕ) (x : Entry) (f : Fallback) → local_binding (sections_in t) (entries_in t) name x ≡ Some (Weak f) → ⊥
  unfolding held
  local_other name x f e = by (is_own (entries_in t) x || is_nothing name) (value_of (sections_in t) x.symbol) e
    where
      by : (a : Bool) (o : Option Value) → cond a None (option_map Local o) ≡ Some (Weak f) → ⊥
      by a o e = grind arith

  default_by : (number : ℕ) (d : Entry) → fallback_by (sections_in t) d ≡ Some (fallback.Name number) → (is_class IMAGE_SYM_CLASS_EXTERNAL d.symbol ≡ true) × (d.number ≡ number)
  unfolding held_number
  default_by number d e = by (is_class IMAGE_SYM_CLASS_EXTERNAL d.symbol) refl (value_of (sections_in t) d.symbol) e
    where
      by : (a : Bool) → is_class IMAGE_SYM_CLASS_EXTERNAL d.symbol ≡ a → (o : Option Value) → cond a (Some (fallback.Name d.number)) (option_map fallback_at o) ≡ Some (fallback.Name number)
          → (is_class IMAGE_SYM_CLASS_EXTERNAL d.symbol ≡ true) × (d.number ≡ number)
      by true g o e = (g, same_Some d.number number (ap held_number (same_Some (fallback.Name d.number) (fallback.Name number) e)))
      by false g None e = absurd (none-some (fallback.Name number) e)
      by false g (Some (value.Place k offset)) e = absurd (none-some number (ap held_number (same_Some (fallback.Place k offset) (fallback.Name number) e)))
      by false g (Some (value.Absolute n)) e = absurd (none-some number (ap held_number (same_Some fallback.Zero (fallback.Name number) e)))

  pub default_of : (name : List ℕ) (x : Entry) (number : ℕ) → binding_of (sections_in t) (entries_in t) name x ≡ Some (Weak (fallback.Name number)) → IsDefault t x number
  unfolding binding_of held
  default_of name x number e = by (is_class IMAGE_SYM_CLASS_EXTERNAL x.symbol) (is_class IMAGE_SYM_CLASS_WEAK_EXTERNAL x.symbol) refl (is_class IMAGE_SYM_CLASS_STATIC x.symbol || is_class IMAGE_SYM_CLASS_LABEL x.symbol) e
    where
      weak : is_class IMAGE_SYM_CLASS_WEAK_EXTERNAL x.symbol ≡ true → (o : Option Entry) → tagged_by (entries_in t) x ≡ o → option_map Weak (option_and_then (fallback_by (sections_in t)) o) ≡ Some (Weak (fallback.Name number)) → IsDefault t x number
      weak g None h e = absurd (none-some (Weak (fallback.Name number)) e)
      weak g (Some d) h e = of (fallback_by (sections_in t) d) refl e
        where
          of : (p : Option Fallback) → fallback_by (sections_in t) d ≡ p → option_map Weak p ≡ Some (Weak (fallback.Name number)) → IsDefault t x number
          of None i e = absurd (none-some (Weak (fallback.Name number)) e)
          of (Some f) i e =
              let inner : f ≡ fallback.Name number = same_Some f (fallback.Name number) (ap held (same_Some (Weak f) (Weak (fallback.Name number)) e)) in
              let both = default_by number d (i ∙ ap Some inner) in
              record { weak = g; default = d; tagged = h; external = both.0; same = both.1 }

      by : (a b : Bool) → is_class IMAGE_SYM_CLASS_WEAK_EXTERNAL x.symbol ≡ b → (c : Bool)
          → cond a (external_binding (sections_in t) x.symbol) (cond b (weak_binding (sections_in t) (entries_in t) x) (cond c (local_binding (sections_in t) (entries_in t) name x) None)) ≡ Some (Weak (fallback.Name number))
          → IsDefault t x number
      by true b g c e = absurd (external_other x.symbol (fallback.Name number) e)
      by false true g c e = weak g (tagged_by (entries_in t) x) refl e
      by false false g true e = absurd (local_other name x (fallback.Name number) e)
      by false false g false e = absurd (none-some (Weak (fallback.Name number)) e)

-- ... it is carried

numbered_there : (symbols : List parts.Symbol) (j : ℕ) (y : parts.Symbol) → slice_get symbols j ≡ Some y → is_some (numbered symbols y.number) ≡ true
numbered_there [] j y here = absurd (none-some y here)
numbered_there (x ∷ xs) j y here = by (eqb x.number y.number) refl j here (λ k there. numbered_there xs k y there)
  where
    by : (b : Bool) → eqb x.number y.number ≡ b → (j : ℕ) → slice_get (x ∷ xs) j ≡ Some y → ((k : ℕ) → slice_get xs k ≡ Some y → is_some (numbered xs y.number) ≡ true)
        → is_some (cond b (Some x) (numbered xs y.number)) ≡ true
    by true e j here rest = refl
    by false e zero here rest = absurd (true≢false (sym (eq-eqb x.number y.number (ap (λ (s : parts.Symbol). s.number) (same_Some x y here))) ∙ e))
    by false e (suc k) here rest = rest k here

module _ (t : Tables) (clean : stage_fault (symbol_stage t) ≡ None) (narrow : (p : ℕ) (e : Entry) → slice_get (entries_in t) p ≡ Some e → e.symbol.SectionNumber < 4294967296) where
  -- an EXTERNAL symbol of another section than -2
  pub external_carried : (p : ℕ) (d : Entry) → slice_get (entries_in t) p ≡ Some d → is_class IMAGE_SYM_CLASS_EXTERNAL d.symbol ≡ true → nat_eq d.symbol.SectionNumber IMAGE_SYM_DEBUG ≡ false
      → is_some (external_binding (sections_in t) d.symbol) ≡ true
  unfolding value_of
  external_carried p d there external other = by (nat_eq n 0) refl (nat_eq d.symbol.Value 0) (nat_eq n IMAGE_SYM_ABSOLUTE) refl (position_of (sections_in t) n) refl
    where
      n : ℕ
      n = d.symbol.SectionNumber

      sound : IsSoundSymbol t (take p (entries_in t)) d
      sound = sound_symbol t clean p d there

      few : n < 4294967296
      few = narrow p d there

      second : (a b : Bool) → a ≡ true → (a && b) ≡ false → b ≡ false
      second a b e h = grind arith

      first : (a b : Bool) → b ≡ true → (a && b) ≡ false → a ≡ false
      first a b e h = grind arith

      nowhere : nat_eq n 0 ≡ false → nat_eq n IMAGE_SYM_ABSOLUTE ≡ false → position_of (sections_in t) n ≡ None → ⊥
      nowhere some relative none =
          let uncarried : (has_section d.symbol && is_none (position_of (sections_in t) n)) ≡ false = second (is_class IMAGE_SYM_CLASS_EXTERNAL d.symbol) (is_uncarried (sections_in t) d.symbol) external sound.carried in
          let no : has_section d.symbol ≡ false = first (has_section d.symbol) (is_none (position_of (sections_in t) n)) (ap is_none none) uncarried in
          let one : nat_le 1 n ≡ true = grind (arith, nat_tests, some) in
          let past : nat_le n IMAGE_SYM_SECTION_MAX_EX ≡ false = second (nat_le 1 n) (nat_le n IMAGE_SYM_SECTION_MAX_EX) one no in
          let high : nat_lt n IMAGE_SYM_DEBUG ≡ false = sym (ap (λ b. cond b (nat_lt (length t.sections) n) (nat_lt n IMAGE_SYM_DEBUG)) past) ∙ sound.section in
          apart n few other relative high
        where
          apart : (m : ℕ) → m < 4294967296 → nat_eq m 4294967294 ≡ false → nat_eq m 4294967295 ≡ false → nat_lt m 4294967294 ≡ false → ⊥
          apart m low one two high = grind (arith, nat_tests)

      by : (a : Bool) → nat_eq n 0 ≡ a → (b c : Bool) → nat_eq n IMAGE_SYM_ABSOLUTE ≡ c → (o : Option ℕ) → position_of (sections_in t) n ≡ o
          → is_some (cond a (cond b (Some Undefined) (Some (Common d.symbol.Value (natural_align d.symbol.Value)))) (option_map Global (cond c (Some (value.Absolute d.symbol.Value)) (option_map (λ k. value.Place k d.symbol.Value) o)))) ≡ true
      by true e true c g o h = refl
      by true e false c g o h = refl
      by false e b true g o h = refl
      by false e b false g (Some k) h = refl
      by false e b false g None h = absurd (nowhere e g h)

  carried_number : (p : ℕ) (d : Entry) → slice_get (entries_in t) p ≡ Some d → is_class IMAGE_SYM_CLASS_EXTERNAL d.symbol ≡ true → is_some (external_binding (sections_in t) d.symbol) ≡ true
      → is_some (numbered (symbols_in t) d.number) ≡ true
  unfolding symbol_of binding_of symbols_in
  carried_number p d there external some = by (external_binding (sections_in t) d.symbol) refl some
    where
      by : (o : Option Binding) → external_binding (sections_in t) d.symbol ≡ o → is_some o ≡ true → is_some (numbered (symbols_in t) d.number) ≡ true
      by None e h = absurd (true≢false (sym h))
      by (Some b) e h =
          let y : parts.Symbol = symbol_with (name_of t.strings d) d b in
          let bound : binding_of (sections_in t) (entries_in t) (name_of t.strings d) d ≡ Some b
          = ap (λ c. cond c (external_binding (sections_in t) d.symbol) (cond (is_class IMAGE_SYM_CLASS_WEAK_EXTERNAL d.symbol) (weak_binding (sections_in t) (entries_in t) d)
          (cond (is_class IMAGE_SYM_CLASS_STATIC d.symbol || is_class IMAGE_SYM_CLASS_LABEL d.symbol) (local_binding (sections_in t) (entries_in t) (name_of t.strings d) d) None))) external ∙ e in
          let is : symbol_of t.strings (sections_in t) (entries_in t) d ≡ Some y = ap (option_map (symbol_with (name_of t.strings d) d)) bound in
          let m = member_filter_map (symbol_of t.strings (sections_in t) (entries_in t)) (entries_in t) p d y there is in
          numbered_there (symbols_in t) m.0 y m.1

  pub are_named : AreNamed t
  are_named k number s there named = at (stands_at t from.k s from.is)
    where
      from : IsFrom (symbol_at t) (length (entries_in t)) k s
      from = collected-from (symbol_at t) (length (entries_in t)) k s (sym (ap (λ (xs : List parts.Symbol). slice_get xs k) (symbols_are t)) ∙ there)

      at : IsAt t from.k s → is_some (numbered (symbols_in t) number) ≡ true
      at m = default (default_of t (name_of t.strings m.entry) m.entry number (m.carried.bound ∙ ap Some (ap (λ (x : parts.Symbol). x.binding) m.carried.is ∙ named)))
        where
          default : IsDefault t m.entry number → is_some (numbered (symbols_in t) number) ≡ true
          default f =
              let sound = sound_symbol t clean from.k m.entry m.there in
              let can : can_be_tagged (sections_in t) f.default.symbol ≡ true = sym (ap (λ (o : Option Entry). option_map_or (λ (d : Entry). can_be_tagged (sections_in t) d.symbol) o false) f.tagged) ∙ sound.tags f.weak in
              let place = found (tag_of m.entry) f.tagged in
              subst (λ (j : ℕ). is_some (numbered (symbols_in t) j) ≡ true) f.same
              (carried_number place.0 f.default place.1 f.external (external_carried place.0 f.default place.1 f.external (other f.default f.external can)))
            where
              found : (o : Option ℕ) → option_and_then (entry_numbered (entries_in t)) o ≡ Some f.default → (p : ℕ) × (slice_get (entries_in t) p ≡ Some f.default)
              found None e = absurd (none-some f.default e)
              found (Some j) e = let p = find_from (λ (y : Entry). nat_eq y.number j) (entries_in t) f.default e in (p.place, p.there)

              other : (d : Entry) → is_class IMAGE_SYM_CLASS_EXTERNAL d.symbol ≡ true → can_be_tagged (sections_in t) d.symbol ≡ true → nat_eq d.symbol.SectionNumber IMAGE_SYM_DEBUG ≡ false
              other d external can =
                  let static : is_class IMAGE_SYM_CLASS_STATIC d.symbol ≡ false = ap (λ (c : ℕ). nat_eq c IMAGE_SYM_CLASS_STATIC) (eqb-true d.symbol.StorageClass IMAGE_SYM_CLASS_EXTERNAL external) in
                  last (is_class IMAGE_SYM_CLASS_STATIC d.symbol) _ (is_class IMAGE_SYM_CLASS_EXTERNAL d.symbol) (nat_eq d.symbol.SectionNumber IMAGE_SYM_DEBUG) static can
                where
                  last : (a b c e : Bool) → a ≡ false → ((a && b) || (c && not e)) ≡ true → e ≡ false
                  last a b c e g h = grind arith
