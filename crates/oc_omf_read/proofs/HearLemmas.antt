-- What is held of mentions, one mention after the other.
use Rattle.std.proofs.Common.{◌≡◌, ℕ, zero, suc, ◌+◌, ◌<◌, ◌≤◌, Bool, true, false, cond, List, [], ◌∷◌, ◌++◌, length, map, take, set, get_or, Option, None, Some, refl, sym, ◌∙◌, ap, subst, arith, length-append}
use Rattle.std.specs.{Prelude.{◌||◌, not, filter_map, fold, slice_get}, List.{cons_option, list_any}, Option.{option_map}}
use Rattle.std.proofs.lemmas.{Bool.{true≢false}, List.{length-map, map-append}, Option.{same_Some, slice_get-get_or, slice_get-map}}
use Rattle.std.proofs.lemmas.List.Elements.{filter_map-append}
use Rattle.oc_neutral.proofs.FieldLists.{take_here}
use Rattle.oc_omf.specs.Symbols.{Mention, number_of, same_symbol, with_new}
use Rattle.oc_omf_read.specs.{declared.mentioned.Mentioned.{Mentioned}, declared.mentioned.Mentions.{Mentions}}
use Rattle.oc_omf_read.specs.{declared.declarations.DeclarationRef.{DeclarationRef}, Declarations.{Declaration, all_declarations, declaration_of}}
use Rattle.oc_omf_read.specs.Mentioned.{AreNumbered, HasDeclarations, ModuleSymbol, blank, external_number, external_said, held, mention_of, mentioned_symbols, number_among, number_held, seen_in, seen_more, seen_of, symbol_of}
use Rattle.oc_omf_judge.proofs.MentionLemmas.{same_is, same_self}
use Rattle.oc_omf_read.proofs.MentionLemmas.{AreApart, Unlike, among_push, any_mentioned, externals_keep, number_low, seen_set, seen_with, symbols_apart, symbols_push}
use Rattle.oc_shelf.proofs.WritingLaws.MemberLemmas.{map-map}

-- ... what is held

map_self : (ts : List Declaration) (ms : List Mention) → map (λ (x : Mention). symbol_of (seen_in ts x)) ms ≡ ms
map_self ts [] = refl
map_self ts (m ∷ ms) = ap (λ (xs : List Mention). m ∷ xs) (map_self ts ms)

pub held_is : (m : Mentions) (ts : List Declaration) (ms : List Mention) → map seen_of m.symbols.items ≡ map (seen_in ts) ms → held m ≡ ms
held_is m ts ms is = sym (map-map symbol_of seen_of m.symbols.items) ∙ ap (map symbol_of) is ∙ map-map symbol_of (seen_in ts) ms ∙ map_self ts ms

-- a number that is held is one of a symbol that is
pub among_some : (ms : List Mention) (x : Mention) (k : ℕ) → number_among ms x ≡ Some k → (list_any (same_symbol x) ms ≡ true) × (number_of ms x ≡ k)
among_some ms x k e = by (list_any (same_symbol x) ms) refl e
  where
    by : (b : Bool) → list_any (same_symbol x) ms ≡ b → cond b (Some (number_of ms x)) None ≡ Some k → (list_any (same_symbol x) ms ≡ true) × (number_of ms x ≡ k)
    by b f g = grind arith

-- a symbol more is numbered
pub numbered_push : (old new : Mentions) (x : Mention) → AreNumbered old → Unlike x (held old) → held new ≡ held old ++ x ∷ []
    → ((y : Mention) → number_held new y ≡ cond (same_symbol x y) (Some (length (held old))) (number_held old y)) → AreNumbered new
numbered_push old new x numbered unlike grown taken y =
    taken y ∙ ap (λ (o : Option ℕ). cond (same_symbol x y) (Some (length (held old))) o) (numbered y) ∙ sym (among_push (held old) x y unlike) ∙ ap (λ (ms : List Mention). number_among ms y) (sym grown)

pub length_held : (m : Mentions) → length (held m) ≡ length m.symbols.items
length_held m = length-map m.symbols.items (λ (s : Mentioned). symbol_of (seen_of s))

-- a mention more
module _ (ts : List Declaration) (t : Declaration) (old mid new : Mentions) (k : ℕ) (before : HasDeclarations ts old)
    (numbered : AreNumbered mid) (number : number_among (held mid) (mention_of t) ≡ Some k)
    (symbols : map seen_of mid.symbols.items ≡ cond (list_any (same_symbol (mention_of t)) (held old)) (map seen_of old.symbols.items) (map seen_of old.symbols.items ++ blank (mention_of t) ∷ [])) where
  -- what is held with the symbol of the mention
  pub mid_seen : map seen_of mid.symbols.items ≡ map (seen_in ts) (with_new (mentioned_symbols ts) (mention_of t))
  mid_seen = seen_with ts (mention_of t) (map seen_of mid.symbols.items)
      (symbols
      ∙ ap (λ (hs : List Mention). cond (list_any (same_symbol (mention_of t)) hs) (map seen_of old.symbols.items) (map seen_of old.symbols.items ++ blank (mention_of t) ∷ [])) (held_is old ts (mentioned_symbols ts) before.symbols)
      ∙ ap (λ (ss : List ModuleSymbol). cond (list_any (same_symbol (mention_of t)) (mentioned_symbols ts)) ss (ss ++ blank (mention_of t) ∷ [])) before.symbols)

  pub mid_held : held mid ≡ with_new (mentioned_symbols ts) (mention_of t)
  mid_held = held_is mid ts (with_new (mentioned_symbols ts) (mention_of t)) mid_seen

  pub number_is : (list_any (same_symbol (mention_of t)) (with_new (mentioned_symbols ts) (mention_of t)) ≡ true) × (number_of (with_new (mentioned_symbols ts) (mention_of t)) (mention_of t) ≡ k)
  number_is = among_some (with_new (mentioned_symbols ts) (mention_of t)) (mention_of t) k (ap (λ (hs : List Mention). number_among hs (mention_of t)) (sym mid_held) ∙ number)

  externals_before : filter_map (external_number (mentioned_symbols (ts ++ t ∷ []))) ts ≡ filter_map (external_number (mentioned_symbols ts)) ts
  externals_before =
      ap (λ (ms : List Mention). filter_map (external_number ms) ts) (symbols_push ts t) ∙ externals_keep (mentioned_symbols ts) (mention_of t) ts (λ u e. any_mentioned (mention_of u) ts ∙ e)

  external_last : external_number (mentioned_symbols (ts ++ t ∷ [])) t ≡ external_said k t.says
  external_last = ap (λ (ms : List Mention). external_number ms t) (symbols_push ts t) ∙ ap (λ (n : ℕ). external_said n t.says) number_is.1

  pub externals_with : filter_map (external_number (mentioned_symbols (ts ++ t ∷ []))) (ts ++ t ∷ []) ≡ old.externals.items ++ cons_option (external_said k t.says) []
  externals_with =
      filter_map-append (external_number (mentioned_symbols (ts ++ t ∷ []))) ts (t ∷ []) ∙ ap (λ (ns : List ℕ). ns ++ filter_map (external_number (mentioned_symbols (ts ++ t ∷ []))) (t ∷ [])) (externals_before ∙ sym before.externals)
      ∙ ap (λ (o : Option ℕ). old.externals.items ++ cons_option o []) external_last

-- ... a mention is heard

symbols_few : (ms : List Mention) (xs : List Mention) → length (fold with_new ms xs) ≤ length ms + length xs
symbols_few ms [] = omega arith
symbols_few ms (x ∷ xs) = let more = symbols_few (with_new ms x) xs in let one = by (list_any (same_symbol x) ms) in omega (arith, more, one)
  where
    by : (b : Bool) → length (cond b ms (ms ++ x ∷ [])) ≤ length ms + 1
    by true = omega arith
    by false = let sum = length-append ms (x ∷ []) in omega (arith, sum)

-- there are no more symbols than mentions
pub few_symbols : (ts : List Declaration) → length (mentioned_symbols ts) ≤ length ts
few_symbols ts = let few = symbols_few [] (map mention_of ts) in let same = length-map ts mention_of in omega (arith, few, same)

pub few_held : (ts : List Declaration) (m : Mentions) → HasDeclarations ts m → length m.symbols.items ≤ length ts
few_held ts m has =
    let long = ap length (held_is m ts (mentioned_symbols ts) has.symbols) in
    let same = length_held m in
    let few = few_symbols ts in
    omega (arith, long, same, few)

pub declarations_take : (declarations : List DeclarationRef) (i : ℕ) (h : DeclarationRef) → slice_get declarations i ≡ Some h → all_declarations (take (i + 1) declarations) ≡ all_declarations (take i declarations) ++ declaration_of h ∷ []
declarations_take declarations i h here = ap all_declarations (take_here declarations i h here) ∙ map-append declaration_of (take i declarations) (h ∷ [])

map_set : {X Y : Type 0} (f : X → Y) (xs : List X) (k : ℕ) (x : X) → map f (set xs k x) ≡ set (map f xs) k (f x)
map_set f [] k x = refl
map_set f (y ∷ ys) zero x = refl
map_set {X} {Y} f (y ∷ ys) (suc k) x = ap (λ (zs : List Y). f y ∷ zs) (map_set f ys k x)

map_at : {X Y : Type 0} (f : X → Y) (xs : List X) (k : ℕ) (x : X) (y : Y) (ys : List Y) → slice_get xs k ≡ Some x → map f xs ≡ ys → slice_get ys k ≡ Some y → f x ≡ y
map_at f xs k x y ys here same there =
    same_Some (f x) y (sym (ap (option_map f) here) ∙ sym (slice_get-map f xs k) ∙ ap (λ zs. slice_get zs k) same ∙ there)

-- the symbol of a number
pub symbol_at : (ms : List Mention) (x : Mention) → list_any (same_symbol x) ms ≡ true → slice_get ms (number_of ms x) ≡ Some x
symbol_at [] x there = absurd (true≢false (sym there))
symbol_at (m ∷ ms) x there = by (same_symbol x m) refl there (symbol_at ms x)
  where
    by : (b : Bool) → same_symbol x m ≡ b → (b || list_any (same_symbol x) ms) ≡ true → (list_any (same_symbol x) ms ≡ true → slice_get ms (number_of ms x) ≡ Some x)
        → slice_get (m ∷ ms) (cond (not b) (1 + number_of ms x) 0) ≡ Some x
    by true e h rest = ap (λ (z : Mention). Some z) (sym (same_is x m e))
    by false e h rest = let one : 1 + number_of ms x ≡ suc (number_of ms x) = omega arith in ap (slice_get (m ∷ ms)) one ∙ rest h

-- all that is held of one mention more
pub heard_more : (ts : List Declaration) (t : Declaration) (old mid new : Mentions) (k : ℕ) (was is : Mentioned) → HasDeclarations ts old → AreNumbered mid → number_among (held mid) (mention_of t) ≡ Some k
    → map seen_of mid.symbols.items ≡ cond (list_any (same_symbol (mention_of t)) (held old)) (map seen_of old.symbols.items) (map seen_of old.symbols.items ++ blank (mention_of t) ∷ [])
    → slice_get mid.symbols.items k ≡ Some was → seen_of is ≡ seen_more t.says (seen_of was) → new.symbols.items ≡ set mid.symbols.items k is
    → ((x : Mention) → number_held new x ≡ number_held mid x) → new.externals.items ≡ old.externals.items ++ cons_option (external_said k t.says) [] → HasDeclarations (ts ++ t ∷ []) new
heard_more ts t old mid new k was is before numbered number symbols there said_is set_is maps externals = record {
  symbols = seen_is;
  numbered = λ x. maps x ∙ numbered x ∙ ap (λ (hs : List Mention). number_among hs x) (mid_held_is ∙ sym new_held);
  externals = externals ∙ sym (externals_with ts t old mid mid k before numbered number symbols);
}
  where
    x : Mention
    x = mention_of t

    mid_seen_is : map seen_of mid.symbols.items ≡ map (seen_in ts) (with_new (mentioned_symbols ts) (mention_of t))
    mid_seen_is = mid_seen ts t old mid mid k before numbered number symbols

    mid_held_is : held mid ≡ with_new (mentioned_symbols ts) (mention_of t)
    mid_held_is = mid_held ts t old mid mid k before numbered number symbols

    is_number : (list_any (same_symbol (mention_of t)) (with_new (mentioned_symbols ts) (mention_of t)) ≡ true) × (number_of (with_new (mentioned_symbols ts) (mention_of t)) (mention_of t) ≡ k)
    is_number = number_is ts t old mid mid k before numbered number symbols

    seen_was : seen_of was ≡ seen_in ts (mention_of t)
    seen_was = map_at seen_of mid.symbols.items k was (seen_in ts (mention_of t)) (map (seen_in ts) (with_new (mentioned_symbols ts) (mention_of t))) there mid_seen_is
        (slice_get-map (seen_in ts) (with_new (mentioned_symbols ts) (mention_of t)) k
        ∙ ap (option_map (seen_in ts)) (ap (slice_get (with_new (mentioned_symbols ts) (mention_of t))) (sym is_number.1) ∙ symbol_at (with_new (mentioned_symbols ts) (mention_of t)) (mention_of t) is_number.0))

    seen_is : map seen_of new.symbols.items ≡ map (seen_in (ts ++ t ∷ [])) (mentioned_symbols (ts ++ t ∷ []))
    seen_is =
        ap (map seen_of) set_is ∙ map_set seen_of mid.symbols.items k is
        ∙ ap (λ (ss : List ModuleSymbol). set ss k (seen_of is)) mid_seen_is
        ∙ ap (λ (s : ModuleSymbol). set (map (seen_in ts) (with_new (mentioned_symbols ts) (mention_of t))) k s) (said_is ∙ ap (seen_more t.says) seen_was)
        ∙ ap (λ (n : ℕ). set (map (seen_in ts) (with_new (mentioned_symbols ts) (mention_of t))) n (seen_more t.says (seen_in ts (mention_of t)))) (sym is_number.1)
        ∙ seen_set ts t (with_new (mentioned_symbols ts) (mention_of t)) (subst AreApart (symbols_push ts t) (symbols_apart (ts ++ t ∷ []))) is_number.0
        ∙ ap (map (seen_in (ts ++ t ∷ []))) (sym (symbols_push ts t))

    new_held : held new ≡ with_new (mentioned_symbols ts) (mention_of t)
    new_held = held_is new (ts ++ t ∷ []) (mentioned_symbols (ts ++ t ∷ [])) seen_is ∙ symbols_push ts t

-- a number that is held is one of a symbol
pub number_inside : (m : Mentions) (x : Mention) (k : ℕ) → number_among (held m) x ≡ Some k → k < length m.symbols.items
number_inside m x k number =
    let some = among_some (held m) x k number in
    let low = number_low x (held m) some.0 in
    let is = some.1 in
    let long = length_held m in
    omega (arith, low, is, long)

-- ... numbers in maps

pub held_push : (old new : Mentions) (s : Mentioned) → new.symbols.items ≡ old.symbols.items ++ s ∷ [] → held new ≡ held old ++ symbol_of (seen_of s) ∷ []
held_push old new s grown = ap (map (λ (s : Mentioned). symbol_of (seen_of s))) grown ∙ map-append (λ (s : Mentioned). symbol_of (seen_of s)) old.symbols.items (s ∷ [])

pub number_next : (ms : List Mention) (x : Mention) → Unlike x ms → number_among (ms ++ x ∷ []) x ≡ Some (length ms)
number_next ms x unlike = among_push ms x x unlike ∙ ap (λ b. cond b (Some (length ms)) (number_among ms x)) (same_self x)

-- mention i is taken up
pub heard_next : (declarations : List DeclarationRef) (i : ℕ) (d : DeclarationRef) → i < length declarations → (old mid new : Mentions) (k : ℕ) (was is : Mentioned) → HasDeclarations (all_declarations (take i declarations)) old → AreNumbered mid
    → number_among (held mid) (mention_of (declaration_of (get_or declarations i d))) ≡ Some k
    → map seen_of mid.symbols.items ≡ cond (list_any (same_symbol (mention_of (declaration_of (get_or declarations i d)))) (held old)) (map seen_of old.symbols.items) (map seen_of old.symbols.items ++ blank (mention_of (declaration_of (get_or declarations i d))) ∷ [])
    → was ≡ get_or mid.symbols.items k was → seen_of is ≡ seen_more (get_or declarations i d).says (seen_of was) → new.symbols.items ≡ set mid.symbols.items k is
    → ((x : Mention) → number_held new x ≡ number_held mid x) → new.externals.items ≡ old.externals.items ++ cons_option (external_said k (get_or declarations i d).says) [] → HasDeclarations (all_declarations (take (i + 1) declarations)) new
heard_next declarations i d low old mid new k was is before numbered number symbols was_is said_is set_is maps externals =
    let t : Declaration = declaration_of (get_or declarations i d) in
    let inside : k < length mid.symbols.items = number_inside mid (mention_of t) k number in
    let there : slice_get mid.symbols.items k ≡ Some was = slice_get-get_or mid.symbols.items k was inside ∙ ap (λ (m : Mentioned). Some m) (sym was_is) in
    subst (λ (ts : List Declaration). HasDeclarations ts new) (sym (declarations_take declarations i (get_or declarations i d) (slice_get-get_or declarations i d low)))
    (heard_more (all_declarations (take i declarations)) t old mid new k was is before numbered number symbols there said_is set_is maps externals)
