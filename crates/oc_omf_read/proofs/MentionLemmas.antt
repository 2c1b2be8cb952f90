-- Symbols by their mentions.
use Rattle.std.proofs.Common.{◌≡◌, ℕ, suc, ◌+◌, ◌<◌, Bool, true, false, cond, List, [], ◌∷◌, ◌++◌, length, map, set, Option, None, Some, refl, sym, ◌∙◌, ap, arith}
use Rattle.std.specs.{Prelude.{◌||◌, not, filter_map, fold}, List.{cons_option, list_any}}
use Rattle.std.proofs.lemmas.{Bool.{true≢false, or_parts}, List.{map-append}, List.Folds.{list_any-append}, Grind.{fold-append}}
use Rattle.std.proofs.Math.Bool.{or-false}
use Rattle.oc_linking.specs.Numbers.{or_else}
use Rattle.oc_omf.specs.Symbols.{Mention, number_of, same_symbol, with_new}
use Rattle.oc_omf_read.specs.Declarations.{Declaration}
use Rattle.oc_omf_read.specs.Mentioned.{ModuleSymbol, blank, external_number, external_said, length_by, length_in, length_said, mention_of, mentioned_symbols, number_among, place_by, place_in, place_said, seen_in, seen_more}
use Rattle.oc_omf_judge.proofs.MentionLemmas.{same_is, same_self}
use Rattle.oc_shows.proofs.BegunLaws.{or_true}
use Rattle.oc_shelf.proofs.ReadingLaws.StageLemmas.{or_else-none, or_else-assoc}

-- ... some symbols

abbrev pub Unlike : Mention → List Mention → Type 0
Unlike x ms = list_any (same_symbol x) ms ≡ false

-- one more
pub any_push : (x y : Mention) (ms : List Mention) → list_any (same_symbol x) (ms ++ y ∷ []) ≡ (list_any (same_symbol x) ms || same_symbol x y)
any_push x y ms = list_any-append (same_symbol x) ms (y ∷ []) ∙ ap (λ b. list_any (same_symbol x) ms || b) (or-false (same_symbol x y))

pub any_new : (x y : Mention) (ms : List Mention) → list_any (same_symbol x) (with_new ms y) ≡ (list_any (same_symbol x) ms || same_symbol x y)
any_new x y ms = by (list_any (same_symbol y) ms) refl
  where
    by : (b : Bool) → list_any (same_symbol y) ms ≡ b → list_any (same_symbol x) (cond b ms (ms ++ y ∷ [])) ≡ (list_any (same_symbol x) ms || same_symbol x y)
    by false e = any_push x y ms
    by true e = among (same_symbol x y) refl
      where
        among : (s : Bool) → same_symbol x y ≡ s → list_any (same_symbol x) ms ≡ (list_any (same_symbol x) ms || s)
        among false f = sym (or-false (list_any (same_symbol x) ms))
        among true f = (ap (λ (z : Mention). list_any (same_symbol z) ms) (same_is x y f) ∙ e) ∙ sym (or_true (list_any (same_symbol x) ms))

-- the symbols are those that are mentioned
pub any_mentioned : (x : Mention) (ts : List Declaration) → list_any (same_symbol x) (mentioned_symbols ts) ≡ list_any (same_symbol x) (map mention_of ts)
any_mentioned x ts = by [] (map mention_of ts)
  where
    by : (init ms : List Mention) → list_any (same_symbol x) (fold with_new init ms) ≡ (list_any (same_symbol x) init || list_any (same_symbol x) ms)
    by init [] = sym (or-false (list_any (same_symbol x) init))
    by init (m ∷ ms) = by (with_new init m) ms ∙ ap (λ b. b || list_any (same_symbol x) ms) (any_new x m init) ∙ over (list_any (same_symbol x) init) (same_symbol x m) (list_any (same_symbol x) ms)
      where
        over : (a b c : Bool) → ((a || b) || c) ≡ (a || (b || c))
        over a b c = grind arith

pub symbols_push : (ts : List Declaration) (t : Declaration) → mentioned_symbols (ts ++ t ∷ []) ≡ with_new (mentioned_symbols ts) (mention_of t)
symbols_push ts t = ap (fold with_new []) (map-append mention_of ts (t ∷ [])) ∙ fold-append with_new [] (map mention_of ts) (mention_of t ∷ [])

-- ... each once

abbrev pub AreApart : List Mention → Type 0
AreApart [] = Unit {0}
AreApart (m ∷ ms) = Unlike m ms × AreApart ms

apart_push : (ms : List Mention) (y : Mention) → AreApart ms → Unlike y ms → AreApart (ms ++ y ∷ [])
apart_push [] y apart new = (refl, tt)
apart_push (m ∷ ms) y apart new =
    let both = or_parts (same_symbol y m) (list_any (same_symbol y) ms) new in
    (any_push m y ms ∙ ap (λ b. b || same_symbol m y) apart.0 ∙ other (same_symbol m y) refl both.0, apart_push ms y apart.1 both.1)
  where
    other : (b : Bool) → same_symbol m y ≡ b → same_symbol y m ≡ false → b ≡ false
    other false e f = refl
    other true e f = absurd (true≢false (sym (same_self m) ∙ ap (λ (z : Mention). same_symbol z m) (same_is m y e) ∙ f))

apart_new : (ms : List Mention) (y : Mention) → AreApart ms → AreApart (with_new ms y)
apart_new ms y apart = by (list_any (same_symbol y) ms) refl
  where
    by : (b : Bool) → list_any (same_symbol y) ms ≡ b → AreApart (cond b ms (ms ++ y ∷ []))
    by true e = apart
    by false e = apart_push ms y apart e

pub symbols_apart : (ts : List Declaration) → AreApart (mentioned_symbols ts)
symbols_apart ts = by [] (map mention_of ts) tt
  where
    by : (init ms : List Mention) → AreApart init → AreApart (fold with_new init ms)
    by init [] apart = apart
    by init (m ∷ ms) apart = by (with_new init m) ms (apart_new init m apart)

-- ... numbers

pub number_front : (x y : Mention) (ms : List Mention) → list_any (same_symbol x) ms ≡ true → number_of (ms ++ y ∷ []) x ≡ number_of ms x
number_front x y [] there = absurd (true≢false (sym there))
number_front x y (m ∷ ms) there = by (same_symbol x m) there (number_front x y ms)
  where
    by : (b : Bool) → (b || list_any (same_symbol x) ms) ≡ true → (list_any (same_symbol x) ms ≡ true → number_of (ms ++ y ∷ []) x ≡ number_of ms x)
        → cond (not b) (1 + number_of (ms ++ y ∷ []) x) 0 ≡ cond (not b) (1 + number_of ms x) 0
    by true e rest = refl
    by false e rest = ap (λ (n : ℕ). 1 + n) (rest e)

number_last : (x : Mention) (ms : List Mention) → Unlike x ms → number_of (ms ++ x ∷ []) x ≡ length ms
number_last x [] new = ap (λ b. cond (not b) (1 + 0) 0) (same_self x)
number_last x (m ∷ ms) new =
    let both = or_parts (same_symbol x m) (list_any (same_symbol x) ms) new in
    ap (λ b. cond (not b) (1 + number_of (ms ++ x ∷ []) x) 0) both.0 ∙ (let rest = number_last x ms both.1 in let one : 1 + number_of (ms ++ x ∷ []) x ≡ suc (length ms) = omega (arith, rest) in one)

pub number_low : (x : Mention) (ms : List Mention) → list_any (same_symbol x) ms ≡ true → number_of ms x < length ms
number_low x [] there = absurd (true≢false (sym there))
number_low x (m ∷ ms) there = by (same_symbol x m) there (number_low x ms)
  where
    by : (b : Bool) → (b || list_any (same_symbol x) ms) ≡ true → (list_any (same_symbol x) ms ≡ true → number_of ms x < length ms) → cond (not b) (1 + number_of ms x) 0 < suc (length ms)
    by b e rest = grind arith

-- a symbol that is new has the next number, and the others keep theirs
pub among_push : (ms : List Mention) (y x : Mention) → Unlike y ms → number_among (ms ++ y ∷ []) x ≡ cond (same_symbol y x) (Some (length ms)) (number_among ms x)
among_push ms y x new = by (same_symbol y x) refl
  where
    apart : (b : Bool) → same_symbol x y ≡ b → same_symbol y x ≡ false → b ≡ false
    apart false e f = refl
    apart true e f = absurd (true≢false (sym (same_self y) ∙ ap (same_symbol y) (sym (same_is x y e)) ∙ f))

    old : (b : Bool) → list_any (same_symbol x) ms ≡ b → cond b (Some (number_of (ms ++ y ∷ []) x)) None ≡ cond b (Some (number_of ms x)) None
    old true e = ap (λ (n : ℕ). Some n) (number_front x y ms e)
    old false e = refl

    by : (s : Bool) → same_symbol y x ≡ s → number_among (ms ++ y ∷ []) x ≡ cond s (Some (length ms)) (number_among ms x)
    by true e =
        ap (number_among (ms ++ y ∷ [])) (sym (same_is y x e))
        ∙ ap (λ b. cond b (Some (number_of (ms ++ y ∷ []) y)) None) (any_push y y ms ∙ ap (λ b. list_any (same_symbol y) ms || b) (same_self y) ∙ or_true (list_any (same_symbol y) ms))
        ∙ ap (λ (n : ℕ). Some n) (number_last y ms new)
    by false e =
        ap (λ b. cond b (Some (number_of (ms ++ y ∷ []) x)) None) (any_push x y ms ∙ ap (λ b. list_any (same_symbol x) ms || b) (apart (same_symbol x y) refl e) ∙ or-false (list_any (same_symbol x) ms))
        ∙ old (list_any (same_symbol x) ms) refl

-- ... what is said

pub place_push : (x : Mention) (ts : List Declaration) (t : Declaration) → place_in x (ts ++ t ∷ []) ≡ or_else (place_in x ts) (place_by x t)
place_push x [] t = or_else-none (place_by x t)
place_push x (s ∷ ts) t = ap (or_else (place_by x s)) (place_push x ts t) ∙ sym (or_else-assoc (place_by x s) (place_in x ts) (place_by x t))

pub length_push : (x : Mention) (ts : List Declaration) (t : Declaration) → length_in x (ts ++ t ∷ []) ≡ or_else (length_in x ts) (length_by x t)
length_push x [] t = or_else-none (length_by x t)
length_push x (s ∷ ts) t = ap (or_else (length_by x s)) (length_push x ts t) ∙ sym (or_else-assoc (length_by x s) (length_in x ts) (length_by x t))

-- nothing is said of a symbol that is not mentioned
place_none : (x : Mention) (ts : List Declaration) → Unlike x (map mention_of ts) → place_in x ts ≡ None
place_none x [] new = refl
place_none x (t ∷ ts) new =
    let both = or_parts (same_symbol x (mention_of t)) (list_any (same_symbol x) (map mention_of ts)) new in
    ap (λ b. or_else (cond b (place_said t.says) None) (place_in x ts)) both.0 ∙ place_none x ts both.1

length_none : (x : Mention) (ts : List Declaration) → Unlike x (map mention_of ts) → length_in x ts ≡ None
length_none x [] new = refl
length_none x (t ∷ ts) new =
    let both = or_parts (same_symbol x (mention_of t)) (list_any (same_symbol x) (map mention_of ts)) new in
    ap (λ b. or_else (cond b (length_said t.says) None) (length_in x ts)) both.0 ∙ length_none x ts both.1

seen_none : (ts : List Declaration) (x : Mention) → Unlike x (mentioned_symbols ts) → seen_in ts x ≡ blank x
seen_none ts x new =
    let new_told : Unlike x (map mention_of ts) = sym (any_mentioned x ts) ∙ new in
    ap (λ (o : Option (ℕ × ℕ)). record { local = x.local; name = x.name; place = o; length = length_in x ts }) (place_none x ts new_told)
    ∙ ap (λ (o : Option ℕ). record { local = x.local; name = x.name; place = None; length = o }) (length_none x ts new_told)

-- what is seen of the symbols, with the next one, where that is new
pub seen_with : (ts : List Declaration) (y : Mention) (seen : List ModuleSymbol) → seen ≡ cond (list_any (same_symbol y) (mentioned_symbols ts)) (map (seen_in ts) (mentioned_symbols ts)) (map (seen_in ts) (mentioned_symbols ts) ++ blank y ∷ [])
    → seen ≡ map (seen_in ts) (with_new (mentioned_symbols ts) y)
seen_with ts y seen is = is ∙ by (list_any (same_symbol y) (mentioned_symbols ts)) refl
  where
    by : (b : Bool) → list_any (same_symbol y) (mentioned_symbols ts) ≡ b → cond b (map (seen_in ts) (mentioned_symbols ts)) (map (seen_in ts) (mentioned_symbols ts) ++ blank y ∷ []) ≡ map (seen_in ts) (cond b (mentioned_symbols ts) (mentioned_symbols ts ++ y ∷ []))
    by true e = refl
    by false e = ap (λ (s : ModuleSymbol). map (seen_in ts) (mentioned_symbols ts) ++ s ∷ []) (sym (seen_none ts y e)) ∙ sym (map-append (seen_in ts) (mentioned_symbols ts) (y ∷ []))

-- ... one mention more

seen_other : (ts : List Declaration) (t : Declaration) (y : Mention) → same_symbol y (mention_of t) ≡ false → seen_in (ts ++ t ∷ []) y ≡ seen_in ts y
seen_other ts t y other =
    ap (λ (o : Option (ℕ × ℕ)). record { local = y.local; name = y.name; place = o; length = length_in y (ts ++ t ∷ []) })
    (place_push y ts t ∙ ap (λ b. or_else (place_in y ts) (cond b (place_said t.says) None)) other ∙ or_else-none (place_in y ts))
    ∙ ap (λ (o : Option ℕ). record { local = y.local; name = y.name; place = place_in y ts; length = o })
    (length_push y ts t ∙ ap (λ b. or_else (length_in y ts) (cond b (length_said t.says) None)) other ∙ or_else-none (length_in y ts))

seen_same : (ts : List Declaration) (t : Declaration) → seen_in (ts ++ t ∷ []) (mention_of t) ≡ seen_more t.says (seen_in ts (mention_of t))
seen_same ts t =
    let x : Mention = mention_of t in
    ap (λ (o : Option (ℕ × ℕ)). record { local = x.local; name = x.name; place = o; length = length_in x (ts ++ t ∷ []) })
    (place_push x ts t ∙ ap (λ b. or_else (place_in x ts) (cond b (place_said t.says) None)) (same_self x))
    ∙ ap (λ (o : Option ℕ). record { local = x.local; name = x.name; place = or_else (place_in x ts) (place_said t.says); length = o })
    (length_push x ts t ∙ ap (λ b. or_else (length_in x ts) (cond b (length_said t.says) None)) (same_self x))

seen_others : (ts : List Declaration) (t : Declaration) (ms : List Mention) → Unlike (mention_of t) ms → map (seen_in (ts ++ t ∷ [])) ms ≡ map (seen_in ts) ms
seen_others ts t [] new = refl
seen_others ts t (m ∷ ms) new =
    let both = or_parts (same_symbol (mention_of t) m) (list_any (same_symbol (mention_of t)) ms) new in
    ap (λ (s : ModuleSymbol). s ∷ map (seen_in (ts ++ t ∷ [])) ms) (seen_other ts t m (apart (same_symbol m (mention_of t)) refl both.0)) ∙ ap (λ (ss : List ModuleSymbol). seen_in ts m ∷ ss) (seen_others ts t ms both.1)
  where
    apart : (b : Bool) → same_symbol m (mention_of t) ≡ b → same_symbol (mention_of t) m ≡ false → b ≡ false
    apart false e f = refl
    apart true e f = absurd (true≢false (sym (same_self m) ∙ ap (λ (z : Mention). same_symbol z m) (same_is m (mention_of t) e) ∙ f))

-- the symbol of the mention is changed alone
pub seen_set : (ts : List Declaration) (t : Declaration) (ms : List Mention) → AreApart ms → list_any (same_symbol (mention_of t)) ms ≡ true
    → set (map (seen_in ts) ms) (number_of ms (mention_of t)) (seen_more t.says (seen_in ts (mention_of t))) ≡ map (seen_in (ts ++ t ∷ [])) ms
seen_set ts t [] apart there = absurd (true≢false (sym there))
seen_set ts t (m ∷ ms) apart there = by (same_symbol (mention_of t) m) refl there (seen_set ts t ms apart.1)
  where
    by : (b : Bool) → same_symbol (mention_of t) m ≡ b → (b || list_any (same_symbol (mention_of t)) ms) ≡ true
        → (list_any (same_symbol (mention_of t)) ms ≡ true → set (map (seen_in ts) ms) (number_of ms (mention_of t)) (seen_more t.says (seen_in ts (mention_of t))) ≡ map (seen_in (ts ++ t ∷ [])) ms)
        → set (seen_in ts m ∷ map (seen_in ts) ms) (cond (not b) (1 + number_of ms (mention_of t)) 0) (seen_more t.says (seen_in ts (mention_of t))) ≡ seen_in (ts ++ t ∷ []) m ∷ map (seen_in (ts ++ t ∷ [])) ms
    by true e h rest =
        let is : mention_of t ≡ m = same_is (mention_of t) m e in
        let new : Unlike (mention_of t) ms = ap (λ (z : Mention). list_any (same_symbol z) ms) is ∙ apart.0 in
        ap (λ (s : ModuleSymbol). s ∷ map (seen_in ts) ms) (sym (seen_same ts t) ∙ ap (seen_in (ts ++ t ∷ [])) is) ∙ ap (λ (ss : List ModuleSymbol). seen_in (ts ++ t ∷ []) m ∷ ss) (sym (seen_others ts t ms new))
    by false e h rest =
        let step : 1 + number_of ms (mention_of t) ≡ suc (number_of ms (mention_of t)) = omega arith in
        ap (λ (n : ℕ). set (seen_in ts m ∷ map (seen_in ts) ms) n (seen_more t.says (seen_in ts (mention_of t)))) step
        ∙ ap (λ (ss : List ModuleSymbol). seen_in ts m ∷ ss) (rest h) ∙ ap (λ (s : ModuleSymbol). s ∷ map (seen_in (ts ++ t ∷ [])) ms) (sym (seen_other ts t m (unlike_back (same_symbol m (mention_of t)) refl)))
      where
        unlike_back : (b : Bool) → same_symbol m (mention_of t) ≡ b → b ≡ false
        unlike_back false f = refl
        unlike_back true f = absurd (true≢false (sym (same_self m) ∙ ap (λ (z : Mention). same_symbol z m) (same_is m (mention_of t) f) ∙ e))

-- ... externals

-- their symbols keep their numbers
pub externals_keep : (ms : List Mention) (y : Mention) (ts : List Declaration) → ((t : Declaration) → list_any (same_symbol (mention_of t)) (map mention_of ts) ≡ true → list_any (same_symbol (mention_of t)) ms ≡ true)
    → filter_map (external_number (with_new ms y)) ts ≡ filter_map (external_number ms) ts
externals_keep ms y ts there = by (list_any (same_symbol y) ms)
  where
    one : (t : Declaration) → list_any (same_symbol (mention_of t)) ms ≡ true → external_number (ms ++ y ∷ []) t ≡ external_number ms t
    one t e = ap (λ (n : ℕ). external_said n t.says) (number_front (mention_of t) y ms e)

    grown : (us : List Declaration) → ((t : Declaration) → list_any (same_symbol (mention_of t)) (map mention_of us) ≡ true → list_any (same_symbol (mention_of t)) ms ≡ true)
        → filter_map (external_number (ms ++ y ∷ [])) us ≡ filter_map (external_number ms) us
    grown [] all = refl
    grown (u ∷ us) all =
        ap (λ (o : Option ℕ). cons_option o (filter_map (external_number (ms ++ y ∷ [])) us)) (one u (all u (ap (λ b. b || list_any (same_symbol (mention_of u)) (map mention_of us)) (same_self (mention_of u)))))
        ∙ ap (λ (ns : List ℕ). cons_option (external_number ms u) ns) (grown us (λ t e. all t (ap (λ b. same_symbol (mention_of t) (mention_of u) || b) e ∙ or_true (same_symbol (mention_of t) (mention_of u)))))

    by : (b : Bool) → filter_map (external_number (cond b ms (ms ++ y ∷ []))) ts ≡ filter_map (external_number ms) ts
    by true = refl
    by false = grown ts there
