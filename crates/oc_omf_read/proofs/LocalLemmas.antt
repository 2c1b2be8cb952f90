-- In a module without a fault of symbols, each symbol of the module alone is defined in it.
use Rattle.std.proofs.Common.{◌≡◌, ℕ, zero, suc, ◌+◌, ◌<◌, ◌⊎◌, inl, inr, Bool, true, false, cond, List, [], ◌∷◌, ◌++◌, length, map, get_or, Option, None, Some, Result, Ok, Err, refl, sym, ◌∙◌, ap, subst, arith}
use Rattle.std.specs.{Prelude.{◌&&◌, ◌||◌, not, find, slice_get}, List.{AllByRecursion, enumerate_from, list_any}, Option.{is_some, option_map, option_map_or}}
use Rattle.std.proofs.lemmas.{Bool.{true≢false}, Option.{none-some, same_Some}}
use Rattle.oc_base.specs.{declared.code.Code.TheVariants.{BadSymbol, DuplicateName, SymbolKind}, declared.fault.Fault.{Fault}}
use Rattle.oc_linking.specs.{FirstFault.{Condition, Stage, fault_of, first_broken, first_fault, stage_fault}, Numbers.{or_else}}
use Rattle.oc_shelf.proofs.ReadingLaws.StageLemmas.{all_hold, clean_at, clean_both}
use Rattle.oc_omf.specs.{declared.cut.Cut.{Cut}, Cursor.{Read}, Structures.{External, Public}, Entries.{Entry, all_read}}
use Rattle.oc_omf.specs.Symbols.{Mention, external_mention, public_mention, public_of, same_symbol}
use Rattle.oc_omf.specs.SymbolFaults.{base_conditions, communal_conditions, external_conditions, externals_before, is_empty, is_other_length, is_undefined, symbol_fault, public_conditions, symbol_stage, symbol_stages, symbol_table, read_conditions}
use Rattle.oc_omf.specs.Tables.{tables_of}
use Rattle.oc_omf.specs.SymbolFaults as faults
use Rattle.oc_omf_read.specs.Declarations.{Declaration, of_external, of_public, declarations_by, declarations_in}
use Rattle.oc_omf_read.specs.Mentioned.{mention_of, mentioned_symbols, place_by, place_in, place_said}
use Rattle.oc_omf_read.proofs.{BindingLemmas.{places_are}, ContentLemmas.{all_append, all_flat}, MentionLemmas.{any_mentioned}}
use Rattle.oc_omf_judge.proofs.MentionLemmas.{same_is, same_self}
use Rattle.oc_omf.proofs.EntryLemmas.{numbered_at}
use Rattle.oc_neutral.proofs.Positions.{each_at}

-- ... stages

pub none_of : (a b : Option Fault) → or_else a b ≡ None → (a ≡ None) × (b ≡ None)
none_of a b e = grind arith

pub stage_clean : {X : Type 0} (stage : X → Stage) (xs : List X) (k : ℕ) (x : X) → first_fault (map stage xs) ≡ None → slice_get xs k ≡ Some x → stage_fault (stage x) ≡ None
stage_clean stage [] k x clean here = absurd (none-some x here)
stage_clean stage (y ∷ ys) zero x clean here = ap (λ (o : Option _). option_map_or (λ z. stage_fault (stage z)) o None) (sym here) ∙ (none_of (stage_fault (stage y)) (first_fault (map stage ys)) clean).0
stage_clean stage (y ∷ ys) (suc k) x clean here = stage_clean stage ys k x (none_of (stage_fault (stage y)) (first_fault (map stage ys)) clean).1 here

pub all_lists : (css : List (List Condition)) → ((j : ℕ) → j < length css → first_broken (get_or css j []) ≡ None) → AllByRecursion (λ (cs : List Condition). first_broken cs ≡ None) css
all_lists [] each = tt
all_lists (cs ∷ css) each = (each 0 (omega arith), all_lists css (λ j low. each (suc j) (omega (arith, low))))

pub behind : {X : Type 0} (P : X → Type 0) (xs ys : List X) → AllByRecursion P (xs ++ ys) → AllByRecursion P ys
behind P [] ys all = all
behind P (x ∷ xs) ys all = behind P xs ys all.1

-- an external of the module alone is defined in it
abbrev IsDefined : faults.EntryContext → External → Type 0
IsDefined x y = is_undefined x.all y ≡ false

external_defined : (x : faults.EntryContext) (j : ℕ) (at : ℕ × ℕ) (y : External) → first_broken (external_conditions x j at y) ≡ None → IsDefined x y
unfolding external_conditions
external_defined x j at y clean =
    let rest : List Condition =
    (is_undefined x.all y, symbol_fault at BadSymbol) ∷ (is_empty y.name, symbol_fault at SymbolKind)
    ∷ (option_map_or (λ c. list_any (is_other_length y.name c) (externals_before x j)) y.communal false, symbol_fault at DuplicateName) ∷ [] in
    let both = clean_both (option_map_or (communal_conditions at) y.communal []) rest clean in
    (all_hold rest both.1).0

externals_defined : (x : faults.EntryContext) (n : ℕ) (ss : List (Read External))
    → AllByRecursion (λ (cs : List Condition). first_broken cs ≡ None) (map (λ (y : ℕ × Read External). read_conditions x.index (external_conditions x y.0) y.1) (enumerate_from n ss)) → AllByRecursion (IsDefined x) (all_read ss)
externals_defined x n [] all = tt
externals_defined x n (s ∷ ss) all = by s.part all.0 (externals_defined x (n + 1) ss all.1)
  where
    by : (r : Result External Cut) → first_broken (read_conditions x.index (external_conditions x n) (record { at = s.at; part = r })) ≡ None → AllByRecursion (IsDefined x) (all_read ss)
        → AllByRecursion (IsDefined x) (all_read (record { at = s.at; part = r } ∷ ss))
    by (Ok y) clean rest = (external_defined x n (x.index, s.at) y clean, rest)
    by (Err c) clean rest = absurd (none-some _ (sym clean))

entry_defined : (x : faults.EntryContext) → stage_fault (symbol_stage x) ≡ None → AllByRecursion (IsDefined x) (all_read x.entry.externals)
unfolding symbol_table
entry_defined x clean =
    let all = all_lists (symbol_table x) (λ j low. clean_at (fault_of (symbol_stage x)) (length (symbol_table x)) j clean low) in
    externals_defined x 0 x.entry.externals
    (behind (λ (cs : List Condition). first_broken cs ≡ None) (map (λ (p : ℕ × Read Public). read_conditions x.index (public_conditions x p.0) p.1) (enumerate_from 0 x.entry.publics)) _
    (behind (λ (cs : List Condition). first_broken cs ≡ None) (map (read_conditions x.index (base_conditions (length x.before.groups) (length x.before.segments))) x.entry.bases) _ all))

pub all_defined : (es : List Entry) → first_fault (symbol_stages es) ≡ None → (i : ℕ) (e : Entry) → slice_get es i ≡ Some e → AllByRecursion (λ (y : External). is_undefined (tables_of es) y ≡ false) (all_read e.externals)
all_defined es clean i e here = entry_defined (faults.entry_context es (i, e)) (stage_clean (λ x. symbol_stage (faults.entry_context es x)) (enumerate_from 0 es) i (i, e) clean (numbered_at es i e here))

-- ... mentions

-- a symbol of the module alone has a place
abbrev pub HasPlace : List Entry → Declaration → Type 0
HasPlace es t = t.local ≡ true → is_some (place_in (mention_of t) (declarations_in es)) ≡ true

public_found : (x : Mention) (ps : List Public) → list_any (λ p. same_symbol x (public_mention p)) ps ≡ true → is_some (find (λ p. same_symbol x (public_mention p)) ps) ≡ true
public_found x [] e = absurd (true≢false (sym e))
public_found x (p ∷ ps) e = by (same_symbol x (public_mention p)) e (public_found x ps)
  where
    by : (b : Bool) → (b || list_any (λ p. same_symbol x (public_mention p)) ps) ≡ true → (list_any (λ p. same_symbol x (public_mention p)) ps ≡ true → is_some (find (λ p. same_symbol x (public_mention p)) ps) ≡ true)
        → is_some (cond b (Some p) (find (λ p. same_symbol x (public_mention p)) ps)) ≡ true
    by true f rest = refl
    by false f rest = rest f

some_map : {X Y : Type 0} (f : X → Y) (o : Option X) → is_some o ≡ true → is_some (option_map f o) ≡ true
some_map f o e = grind arith

external_placed : (es : List Entry) (y : External) → is_undefined (tables_of es) y ≡ false → HasPlace es (of_external y)
external_placed es y defined local =
    ap is_some (places_are (external_mention y) es)
    ∙ some_map _ (public_of (tables_of es) (external_mention y)) (public_found (external_mention y) (tables_of es).publics (by y.local (list_any (λ p. same_symbol (external_mention y) (public_mention p)) (tables_of es).publics) local defined))
  where
    by : (a b : Bool) → a ≡ true → (a && not b) ≡ false → b ≡ true
    by a b e f = grind arith

place_there : (ts : List Declaration) (k : ℕ) (t : Declaration) → slice_get ts k ≡ Some t → is_some (place_said t.says) ≡ true → is_some (place_in (mention_of t) ts) ≡ true
place_there [] k t here some = absurd (none-some t here)
place_there (u ∷ us) zero t here some =
    subst (λ (u : Declaration). is_some (or_else (place_by (mention_of t) u) (place_in (mention_of t) us)) ≡ true) (sym (same_Some u t here))
    (first (place_by (mention_of t) t) (place_in (mention_of t) us) (ap (λ b. is_some (cond b (place_said t.says) None)) (same_self (mention_of t)) ∙ some))
  where
    first : (a b : Option (ℕ × ℕ)) → is_some a ≡ true → is_some (or_else a b) ≡ true
    first a b e = grind arith
place_there (u ∷ us) (suc k) t here some = second (place_by (mention_of t) u) (place_in (mention_of t) us) (place_there us k t here some)
  where
    second : (a b : Option (ℕ × ℕ)) → is_some b ≡ true → is_some (or_else a b) ≡ true
    second a b e = grind arith

-- a mention says where its symbol is, or has one that is placed
abbrev IsGood : List Entry → Declaration → Type 0
IsGood es t = (is_some (place_said t.says) ≡ true) ⊎ HasPlace es t

publics_good : (es : List Entry) (ps : List Public) → AllByRecursion (IsGood es) (map of_public ps)
publics_good es [] = tt
publics_good es (p ∷ ps) = (inl refl, publics_good es ps)

externals_good : (es : List Entry) (ys : List External) → AllByRecursion (λ (y : External). is_undefined (tables_of es) y ≡ false) ys → AllByRecursion (IsGood es) (map of_external ys)
externals_good es [] all = tt
externals_good es (y ∷ ys) all = (inr (external_placed es y all.0), externals_good es ys all.1)

module _ (es : List Entry) (clean : first_fault (symbol_stages es) ≡ None) where
  told_good : AllByRecursion (IsGood es) (declarations_in es)
  unfolding declarations_in
  told_good = all_flat (IsGood es) declarations_by es (λ i e here.
      all_append (IsGood es) (map of_public (all_read e.publics)) (map of_external (all_read e.externals)) (publics_good es (all_read e.publics)) (externals_good es (all_read e.externals) (all_defined es clean i e here)))

  -- each mention of a symbol of the module alone is of one that is placed
  told_placed : (k : ℕ) (t : Declaration) → slice_get (declarations_in es) k ≡ Some t → HasPlace es t
  told_placed k t here local = elim (each_at (IsGood es) (declarations_in es) k t told_good here) [
    | inl some ↦ place_there (declarations_in es) k t here some
    | inr placed ↦ placed local
  ]

  pub any_there : (x : Mention) (ts : List Declaration) → list_any (same_symbol x) (map mention_of ts) ≡ true → (k : ℕ) × (t : Declaration) × (slice_get ts k ≡ Some t) × (mention_of t ≡ x)
  any_there x [] e = absurd (true≢false (sym e))
  any_there x (t ∷ ts) e = by (same_symbol x (mention_of t)) refl e (any_there x ts)
    where
      by : (b : Bool) → same_symbol x (mention_of t) ≡ b → (b || list_any (same_symbol x) (map mention_of ts)) ≡ true
          → (list_any (same_symbol x) (map mention_of ts) ≡ true → (k : ℕ) × (t : Declaration) × (slice_get ts k ≡ Some t) × (mention_of t ≡ x)) → (k : ℕ) × (u : Declaration) × (slice_get (t ∷ ts) k ≡ Some u) × (mention_of u ≡ x)
      by true f h rest = (0, t, refl, sym (same_is x (mention_of t) f))
      by false f h rest = let m = rest h in (suc m.0, m.1, m.2, m.3)

  pub any_at : (ms : List Mention) (k : ℕ) (x : Mention) → slice_get ms k ≡ Some x → list_any (same_symbol x) ms ≡ true
  any_at [] k x here = absurd (none-some x here)
  any_at (m ∷ ms) zero x here = ap (λ b. b || list_any (same_symbol x) ms) (ap (same_symbol x) (same_Some m x here) ∙ same_self x)
  any_at (m ∷ ms) (suc k) x here = ap (λ b. same_symbol x m || b) (any_at ms k x here) ∙ or_true (same_symbol x m)
    where
      or_true : (a : Bool) → (a || true) ≡ true
      or_true a = grind arith

  -- each symbol of the module alone has a place
  pub local_placed : (k : ℕ) (x : Mention) → slice_get (mentioned_symbols (declarations_in es)) k ≡ Some x → x.local ≡ true → is_some (place_in x (declarations_in es)) ≡ true
  local_placed k x here local =
      let m = any_there x (declarations_in es) (sym (any_mentioned x (declarations_in es)) ∙ any_at (mentioned_symbols (declarations_in es)) k x here) in
      subst (λ (z : Mention). is_some (place_in z (declarations_in es)) ≡ true) m.3 (told_placed m.0 m.1 m.2 (ap (λ (z : Mention). z.local) m.3 ∙ local))
