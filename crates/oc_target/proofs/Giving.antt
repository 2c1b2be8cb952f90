-- Names that are given to a string table, one after another.
use Rattle.std.proofs.Common.{◌≡◌, refl, ℕ, suc, ◌+◌, ◌<◌, ◌≤◌, ◌&&◌, Bool, true, false, cond, List, [], ◌∷◌, ◌++◌, length, map, Some, ◌∙◌, ap, sym, arith}
use Rattle.std.specs.{Prelude.{slice_get, drop, filter, not, ◌-◌}, List.{flat_map, range_with_len}}
use Rattle.std.proofs.lemmas.{List.{append_assoc, append-nil}, List.Elements.{filter-append}}
use Rattle.oc_linking.specs.{declared.terms.Value.{Value}, Parts.{is_local}}
use Rattle.oc_neutral.specs.{declared.symbol.Symbol.{Symbol}, Bindings.{is_written_by}}
use Rattle.oc_neutral.specs.{Coff.Strings.{is_long, defaults_of, is_tabled, names_where, key_strings, coff_strings}, KeySymbols.{is_key}, Objects.{Object}}
use Rattle.oc_neutral.proofs.FieldLists.{drop_here}

-- more is given, and less is left
pub more_given : {Y : Type 0} (before now rest left some all : List Y) → now ≡ before ++ some → rest ≡ some ++ left → before ++ rest ≡ all → now ++ left ≡ all
more_given before now rest left some all e step done =
    ap (λ ys. ys ++ left) e ∙ append_assoc before some left ∙ ap (λ ys. before ++ ys) (sym step) ∙ done

-- nothing is left
pub all_given : {Y : Type 0} (now left all : List Y) → left ≡ [] → now ++ left ≡ all → now ≡ all
all_given now left all none done = sym (append-nil now) ∙ ap (λ ys. now ++ ys) (sym none) ∙ done

-- the long names of the symbols that pass
abbrev pub long_names : (Symbol → Bool) → List Symbol → List (List ℕ)
long_names test xs = filter is_long (map (λ (s : Symbol). s.name) (filter test xs))

-- of a symbol and those behind it
pub long_step : (test : Symbol → Bool) (xs : List Symbol) (k : ℕ) (x : Symbol) (name : List ℕ) (b : Bool) → slice_get xs k ≡ Some x → name ≡ x.name → b ≡ test x
    → long_names test (drop k xs) ≡ cond b (filter is_long (name ∷ [])) [] ++ long_names test (drop (k + 1) xs)
long_step test xs k x name b here named tested =
    ap (long_names test) (drop_here xs k x here) ∙ by (test x)
    ∙ ap (λ m. cond (test x) (filter is_long (m ∷ [])) [] ++ long_names test (drop (k + 1) xs)) (sym named)
    ∙ ap (λ c. cond c (filter is_long (name ∷ [])) [] ++ long_names test (drop (k + 1) xs)) (sym tested)
  where
    rest : List Symbol
    rest = filter test (drop (k + 1) xs)

    one : (l : Bool) → cond l (x.name ∷ filter is_long (map (λ (s : Symbol). s.name) rest)) (filter is_long (map (λ (s : Symbol). s.name) rest))
        ≡ cond l (x.name ∷ []) [] ++ filter is_long (map (λ (s : Symbol). s.name) rest)
    one true = refl
    one false = refl

    by : (c : Bool)
        → filter is_long (map (λ (s : Symbol). s.name) (cond c (x ∷ rest) rest)) ≡ cond c (filter is_long (x.name ∷ [])) [] ++ filter is_long (map (λ (s : Symbol). s.name) rest)
    by true = one (is_long x.name)
    by false = refl

-- what is made of an item and of those behind it
pub flat_step : {X Y : Type 0} (f : X → List Y) (xs : List X) (k : ℕ) (x : X) → slice_get xs k ≡ Some x → flat_map f (drop k xs) ≡ f x ++ flat_map f (drop (k + 1) xs)
flat_step f xs k x here = ap (flat_map f) (drop_here xs k x here)

-- the names of a symbol that is not Local and of those behind it
pub nonlocal_step : (xs : List Symbol) (k : ℕ) (x : Symbol) → slice_get xs k ≡ Some x
    → map (λ (s : Symbol). s.name) (filter (λ (s : Symbol). not (is_local s.binding)) (drop k xs))
    ≡ cond (is_local x.binding) [] (x.name ∷ []) ++ map (λ (s : Symbol). s.name) (filter (λ (s : Symbol). not (is_local s.binding)) (drop (k + 1) xs))
nonlocal_step xs k x here = ap (λ ys. map (λ (s : Symbol). s.name) (filter (λ (s : Symbol). not (is_local s.binding)) ys)) (drop_here xs k x here) ∙ by (is_local x.binding)
  where
    rest : List Symbol
    rest = filter (λ (s : Symbol). not (is_local s.binding)) (drop (k + 1) xs)

    by : (b : Bool) → map (λ (s : Symbol). s.name) (cond (not b) (x ∷ rest) rest) ≡ cond b [] (x.name ∷ []) ++ map (λ (s : Symbol). s.name) rest
    by true = refl
    by false = refl

-- the names of sections that stand in the table, from position k on
pub tabled_step : (names : List (List ℕ)) (k : ℕ) (name : List ℕ) → slice_get names k ≡ Some name → filter is_tabled (drop k names) ≡ filter is_tabled (name ∷ []) ++ filter is_tabled (drop (k + 1) names)
tabled_step names k name here = ap (filter is_tabled) (drop_here names k name here) ∙ filter-append is_tabled (name ∷ []) (drop (k + 1) names)

-- what is given for the key symbols in the sections from position k on
abbrev pub keys_from : Object → ℕ → List (List ℕ)
keys_from n k = flat_map (key_strings n) (range_with_len k (length n.sections - k))

pub keys_step : (n : Object) (k : ℕ) → k < length n.sections → keys_from n k ≡ key_strings n k ++ keys_from n (k + 1)
keys_step n k low = let e : length n.sections - k ≡ suc (length n.sections - (k + 1)) = omega (arith, low) in ap (λ m. flat_map (key_strings n) (range_with_len k m)) e

-- none is left
pub keys_none : (n : Object) (k : ℕ) → length n.sections ≤ k → keys_from n k ≡ []
keys_none n k past = let e : length n.sections - k ≡ 0 = omega (arith, past) in ap (λ m. flat_map (key_strings n) (range_with_len k m)) e

-- what is given for sections, for key symbols, for Locals, for fallbacks and for others is all
pub strings_whole : (writes_local : List ℕ → Value → Bool) (names : List (List ℕ)) (n : Object) (zeroth first second third fourth : List (List ℕ))
    → zeroth ≡ filter is_tabled names
    → first ≡ zeroth ++ flat_map (key_strings n) (range_with_len 0 (length n.sections))
    → second ≡ first ++ filter is_long (names_where (λ (s : Symbol). is_local s.binding && is_written_by writes_local s.name s.binding) n)
    → third ≡ second ++ filter is_long (flat_map (λ (s : Symbol). defaults_of s.name s.binding) n.symbols)
    → fourth ≡ third ++ filter is_long (names_where (λ (s : Symbol). not (is_local s.binding) && not (is_key n s)) n)
    → fourth ≡ coff_strings writes_local names n
unfolding coff_strings
strings_whole writes_local names n zeroth first second third fourth d e f g h =
    h ∙ ap (λ xs. xs ++ others) (g ∙ ap (λ xs. xs ++ fallbacks) (f ∙ ap (λ xs. xs ++ locals) (e ∙ ap (λ xs. xs ++ keys) d)))
    ∙ ap (λ xs. xs ++ others) (append_assoc (sections ++ keys) locals fallbacks) ∙ append_assoc (sections ++ keys) (locals ++ fallbacks) others
    ∙ append_assoc sections keys ((locals ++ fallbacks) ++ others)
    ∙ ap (λ xs. sections ++ (keys ++ xs)) (sym (filter-append is_long (own_locals ++ own_fallbacks) own_others ∙ ap (λ xs. xs ++ others) (filter-append is_long own_locals own_fallbacks)))
  where
    own_locals : List (List ℕ)
    own_locals = names_where (λ (s : Symbol). is_local s.binding && is_written_by writes_local s.name s.binding) n

    own_fallbacks : List (List ℕ)
    own_fallbacks = flat_map (λ (s : Symbol). defaults_of s.name s.binding) n.symbols

    own_others : List (List ℕ)
    own_others = names_where (λ (s : Symbol). not (is_local s.binding) && not (is_key n s)) n

    sections : List (List ℕ)
    sections = filter is_tabled names

    keys : List (List ℕ)
    keys = flat_map (key_strings n) (range_with_len 0 (length n.sections))

    locals : List (List ℕ)
    locals = filter is_long own_locals

    fallbacks : List (List ℕ)
    fallbacks = filter is_long own_fallbacks

    others : List (List ℕ)
    others = filter is_long own_others
