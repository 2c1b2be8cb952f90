-- What a symbol has that has no fault, and that two symbols which other files see differ in their names.
use Rattle.std.proofs.Common.{◌≡◌, ℕ, zero, suc, ◌+◌, ◌<◌, inl, inr, Bool, true, false, cond, List, [], ◌∷◌, ◌++◌, length, take, Option, None, Some, refl, sym, ◌∙◌, ap, arith}
use Rattle.std.specs.{Prelude.{not, ◌&&◌, ◌||◌, nat_eq, nat_lt, bytes_eq, is_none, is_some, slice_get}, List.{list_any}, Option.{option_map_or}}
use Rattle.std.proofs.lemmas.{Bool.{cases_eq, cases_lt, true≢false, not-false}, Option.{none-some, same_Some, slice_get_within}, Slice.Eq.{bytes_eq-Decides}}
use Rattle.oc_base.specs.declared.code.Code.TheVariants.{BadSymbol, BadName, SymbolKind, SymbolPastEnd}
use Rattle.oc_linking.specs.FirstFault.{Condition, fault_of, first_broken, stage_fault}
use Rattle.oc_shelf.proofs.ReadingLaws.StageLemmas.{all_hold, clean_at, clean_both}
use Rattle.oc_coff.specs.{declared.constants.TheConstants.{IMAGE_SYM_DEBUG, IMAGE_SYM_CLASS_EXTERNAL, IMAGE_SYM_CLASS_WEAK_EXTERNAL}, Tables.{Tables}}
use Rattle.oc_coff.specs.{Names.{is_nothing, symbol_name}, Entries.{Entry, entries_in, is_class, name_of}, Sections.{sections_in}, Symbols.{tagged_by}}
use Rattle.oc_coff.specs.SymbolFaults.{can_be_tagged, is_external, is_known, is_named, is_no_section, is_past_end, is_static, is_uncarried, is_undefined, name_conditions, symbol_conditions, symbol_fault, symbol_stage, tag_conditions}

-- what symbol e has that has no fault, where those are the ones before it
pub record IsSoundSymbol (t : Tables) (earlier : List Entry) (e : Entry) : Type 0 where
  pub fits : nat_lt (length t.entries) (e.number + 1 + e.symbol.NumberOfAuxSymbols) ≡ false
  pub named : is_some (symbol_name t.strings e.symbol.Name) ≡ true
  pub section : is_no_section (length t.sections) e.symbol.SectionNumber ≡ false
  pub known : is_known e.symbol ≡ true
  pub placed : (is_static e.symbol && is_undefined e.symbol) ≡ false
  pub undefined : (is_class IMAGE_SYM_CLASS_WEAK_EXTERNAL e.symbol && not (is_undefined e.symbol)) ≡ false
  pub inside : is_past_end t e.symbol ≡ false
  pub tags : is_class IMAGE_SYM_CLASS_WEAK_EXTERNAL e.symbol ≡ true → option_map_or (λ (d : Entry). can_be_tagged (sections_in t) d.symbol) (tagged_by (entries_in t) e) false ≡ true
  pub carried : (is_class IMAGE_SYM_CLASS_EXTERNAL e.symbol && is_uncarried (sections_in t) e.symbol) ≡ false
  pub full : (is_external e.symbol && is_nothing (name_of t.strings e)) ≡ false
  pub once : (is_named t.strings (name_of t.strings e) e && list_any (is_named t.strings (name_of t.strings e)) earlier) ≡ false

some_not : {X : Type 0} (o : Option X) → is_none o ≡ false → is_some o ≡ true
some_not None e = absurd (true≢false e)
some_not (Some x) e = refl

abbrev first_conditions : Tables → Entry → List Condition
first_conditions t e =
    (nat_lt (length t.entries) (e.number + 1 + e.symbol.NumberOfAuxSymbols), symbol_fault t e BadSymbol)
    ∷ (is_none (symbol_name t.strings e.symbol.Name), symbol_fault t e BadName)
    ∷ (is_no_section (length t.sections) e.symbol.SectionNumber, symbol_fault t e BadSymbol)
    ∷ (not (is_known e.symbol), symbol_fault t e SymbolKind)
    ∷ (is_static e.symbol && is_undefined e.symbol, symbol_fault t e SymbolKind)
    ∷ (is_class IMAGE_SYM_CLASS_WEAK_EXTERNAL e.symbol && not (is_undefined e.symbol), symbol_fault t e SymbolKind)
    ∷ (is_past_end t e.symbol, symbol_fault t e SymbolPastEnd)
    ∷ []

pub sound_by : (t : Tables) (earlier : List Entry) (e : Entry) → first_broken (symbol_conditions t earlier e) ≡ None → IsSoundSymbol t earlier e
unfolding symbol_conditions
sound_by t earlier e clean =
    let tag : List Condition = cond (is_class IMAGE_SYM_CLASS_WEAK_EXTERNAL e.symbol) (tag_conditions t e (tagged_by (entries_in t) e)) [] in
    let parts = clean_both (first_conditions t e) (tag ++ name_conditions t earlier (name_of t.strings e) e) clean in
    let rest = clean_both tag (name_conditions t earlier (name_of t.strings e) e) parts.1 in
    let first = all_hold (first_conditions t e) parts.0 in
    let names = all_hold (name_conditions t earlier (name_of t.strings e) e) rest.1 in
    record {
      fits = first.0;
      named = some_not (symbol_name t.strings e.symbol.Name) first.1.0;
      section = first.1.1.0;
      known = not-false (is_known e.symbol) first.1.1.1.0;
      placed = first.1.1.1.1.0;
      undefined = first.1.1.1.1.1.0;
      inside = first.1.1.1.1.1.1.0;
      tags = λ weak.
          let holds = all_hold (tag_conditions t e (tagged_by (entries_in t) e)) (sym (ap (λ b. first_broken (cond b (tag_conditions t e (tagged_by (entries_in t) e)) [])) weak) ∙ rest.0) in
          not-false (option_map_or (λ (d : Entry). can_be_tagged (sections_in t) d.symbol) (tagged_by (entries_in t) e) false) holds.1.0;
      carried = names.0;
      full = names.1.0;
      once = names.1.1.0;
    }

module _ (t : Tables) (clean : stage_fault (symbol_stage t) ≡ None) where
  pub sound_symbol : (i : ℕ) (e : Entry) → slice_get (entries_in t) i ≡ Some e → IsSoundSymbol t (take i (entries_in t)) e
  sound_symbol i e here =
      sound_by t (take i (entries_in t)) e
      (sym (ap (λ (o : Option Entry). first_broken (option_map_or (symbol_conditions t (take i (entries_in t))) o [])) here)
      ∙ clean_at (fault_of (symbol_stage t)) (length (entries_in t)) i clean (slice_get_within (entries_in t) i e here))

  -- other files see it
  abbrev pub is_seen : Entry → Bool
  is_seen e = is_external e.symbol && not (nat_eq e.symbol.SectionNumber IMAGE_SYM_DEBUG)

  any_before : (test : Entry → Bool) (xs : List Entry) (p q : ℕ) (e : Entry) → p < q → slice_get xs p ≡ Some e → test e ≡ true → list_any test (take q xs) ≡ true
  any_before test [] p q e less here passes = absurd (none-some e here)
  any_before test (x ∷ xs) p zero e less here passes = absurd (omega (arith, less))
  any_before test (x ∷ xs) zero (suc q) e less here passes = ap (λ b. b || list_any test (take q xs)) (ap test (same_Some x e here) ∙ passes)
  any_before test (x ∷ xs) (suc p) (suc q) e less here passes = ap (λ b. test x || b) (any_before test xs p q e (omega (arith, less)) here passes) ∙ right (test x)
    where
      right : (b : Bool) → (b || true) ≡ true
      right true = refl
      right false = refl

  named_so : (name : List ℕ) (e : Entry) → is_seen e ≡ true → name_of t.strings e ≡ name → is_named t.strings name e ≡ true
  named_so name e seen same = ap (λ b. b && bytes_eq (name_of t.strings e) name) seen ∙ (bytes_eq-Decides (name_of t.strings e) name).1 same

  seen_apart : (p q : ℕ) (e f : Entry) → p < q → slice_get (entries_in t) p ≡ Some e → slice_get (entries_in t) q ≡ Some f → is_seen e ≡ true → is_seen f ≡ true → name_of t.strings e ≡ name_of t.strings f → ⊥
  seen_apart p q e f less at_p at_q seen_e seen_f same =
      let sound = sound_symbol q f at_q in
      let own = named_so (name_of t.strings f) f seen_f refl in
      let other = any_before (is_named t.strings (name_of t.strings f)) (entries_in t) p q e less at_p (named_so (name_of t.strings f) e seen_e same) in
      true≢false (sym (ap (λ b. b && list_any (is_named t.strings (name_of t.strings f)) (take q (entries_in t))) own ∙ other) ∙ sound.once)

  -- symbols that other files see and that have one name are one
  pub seen_once : (p q : ℕ) (e f : Entry) → slice_get (entries_in t) p ≡ Some e → slice_get (entries_in t) q ≡ Some f → is_seen e ≡ true → is_seen f ≡ true → name_of t.strings e ≡ name_of t.strings f → p ≡ q
  seen_once p q e f at_p at_q seen_e seen_f same = elim (cases_eq p q) [
    | inl one ↦ one
    | inr ne ↦ elim (cases_lt p q) [
      | inl less ↦ absurd (seen_apart p q e f less at_p at_q seen_e seen_f same)
      | inr past ↦ absurd (seen_apart q p f e (omega (arith, past, ne)) at_q at_p seen_f seen_e (sym same))
    ]
  ]
