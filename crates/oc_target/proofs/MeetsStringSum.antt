-- The string table of a COFF output has fewer than 2^31 bytes.
use Rattle.std.proofs.Common.{◌≡◌, ℕ, zero, suc, ◌+◌, ◌*◌, ◌^◌, ◌<◌, ◌≤◌, Bool, true, false, cond, not, ◌&&◌, List, [], ◌∷◌, ◌++◌, length, refl, sym, ◌∙◌, ap, arith, length-append}
use Rattle.std.specs.{Prelude.{sum_by, codes, filter, flat_map, nat_eq}, List.{range_with_len}, Option.{option_map_or}}
use Rattle.std.proofs.lemmas.{Bool.{and_parts, eqb-true}, List.Sums.{sum_by-cons, sum_by-append}}
use Rattle.oc_base.specs.declared.format.Format.{Format}
use Rattle.oc_linking.specs.{declared.terms.Binding.{Binding}, declared.terms.Binding.TheVariants.{Local, Global, Undefined, Common, Weak}, Parts.{is_local}}
use Rattle.oc_neutral.specs.{declared.section.Section.{Section}, declared.symbol.Symbol.{Symbol}}
use Rattle.oc_neutral.specs.Coff.Strings.{is_long, is_tabled, has_default, default_name, defaults_of, names_where, key_strings, symbol_names, coff_strings}
use Rattle.oc_neutral.specs.{Families.{family_of}, HomeNames.{output_names}, KeySymbols.{global_place, is_key_at, is_key}, Normal.{Place}, Objects.{Object}}
use Rattle.oc_neutral.specs.WrittenSymbols.{is_written}
use Rattle.oc_target.specs.{CoffMeets.{strings_of}, Meets.{text_sum}}
use Rattle.oc_target.proofs.{MeetsConditions.{own_names}, MeetsParts.{some_passes}}
use Rattle.oc_neutral.proofs.LeftObject.{sum_map}

-- the bytes of a name with its NUL
abbrev bytes_of : List ℕ → ℕ
bytes_of name = length name + 1

-- those of names
abbrev bytes_sum : List (List ℕ) → ℕ
bytes_sum names = sum_by bytes_of names

-- of a symbol's name
abbrev own_bytes : Symbol → ℕ
own_bytes s = bytes_of s.name

-- a filter leaves no more
filter_less : {X : Type 0} (f : X → ℕ) (test : X → Bool) (xs : List X) → sum_by f (filter test xs) ≤ sum_by f xs
filter_less f test [] = omega arith
filter_less {X} f test (x ∷ xs) =
    let all = sum_by-cons f x xs in
    let rest = filter_less f test xs in
    let this : sum_by f (cond (test x) (x ∷ filter test xs) (filter test xs)) ≤ f x + sum_by f xs = by (test x) rest in
    omega (arith, all, this)
  where
    by : (b : Bool) → sum_by f (filter test xs) ≤ sum_by f xs → sum_by f (cond b (x ∷ filter test xs) (filter test xs)) ≤ f x + sum_by f xs
    by true rest = let one = sum_by-cons f x (filter test xs) in omega (arith, one, rest)
    by false rest = omega (arith, rest)

-- what is made of each is no more than this
flat_less : {X : Type 0} (f : X → List (List ℕ)) (g : X → ℕ) → ((x : X) → bytes_sum (f x) ≤ g x) → (xs : List X) → bytes_sum (flat_map f xs) ≤ sum_by g xs
flat_less f g each [] = omega arith
flat_less f g each (x ∷ xs) =
    let parts = sum_by-append bytes_of (f x) (flat_map f xs) in
    let here = each x in
    let rest = flat_less f g each xs in
    let all = sum_by-cons g x xs in
    omega (arith, parts, here, rest, all)

-- so many more for each
sum_more : {X : Type 0} (f : X → ℕ) (c : ℕ) (xs : List X) → sum_by (λ x. f x + c) xs ≡ sum_by f xs + length xs * c
sum_more f c [] = omega arith
sum_more f c (x ∷ xs) =
    let rest = sum_more f c xs in
    let all = sum_by-cons (λ y. f y + c) x xs in
    let left = sum_by-cons f x xs in
    omega (arith, rest, all, left)

-- of positions at most one of which passes, what they count together
module _ (p : ℕ → Bool) (v : ℕ) (once : (j k : ℕ) → p j ≡ true → p k ≡ true → j ≡ k) where
  abbrev counted : List ℕ → ℕ
  counted ks = sum_by (λ k. cond (p k) v 0) ks

  -- after one that passes none does
  none_after : (j i count : ℕ) → p j ≡ true → j < i → counted (range_with_len i count) ≡ 0
  none_after j i zero passes l = refl
  none_after j i (suc count) passes l =
      let rest = none_after j (i + 1) count passes (omega (arith, l)) in
      let all = sum_by-cons (λ k. cond (p k) v 0) i (range_with_len (i + 1) count) in
      let this = by (p i) refl in
      omega (arith, rest, all, this)
    where
      by : (b : Bool) → p i ≡ b → cond b v 0 ≡ 0
      by true e = absurd (let same : j ≡ i = once j i passes e in omega (arith, same, l))
      by false e = refl

  at_most_one : (i count : ℕ) → counted (range_with_len i count) ≤ v
  at_most_one i zero = omega arith
  at_most_one i (suc count) =
      let all = sum_by-cons (λ k. cond (p k) v 0) i (range_with_len (i + 1) count) in
      let step : cond (p i) v 0 + counted (range_with_len (i + 1) count) ≤ v = by (p i) refl (at_most_one (i + 1) count) in
      omega (arith, all, step)
    where
      by : (b : Bool) → p i ≡ b → counted (range_with_len (i + 1) count) ≤ v → cond b v 0 + counted (range_with_len (i + 1) count) ≤ v
      by true e rest = let l : i < i + 1 = omega arith in let later = none_after i (i + 1) count e l in omega (arith, later)
      by false e rest = omega (arith, rest)

-- each of a list is counted at one position
counted_once : {X : Type 0} (f : X → ℕ) (p : ℕ → X → Bool) → ((j k : ℕ) (x : X) → p j x ≡ true → p k x ≡ true → j ≡ k) → (xs : List X) (count : ℕ)
    → sum_by (λ k. sum_by f (filter (p k) xs)) (range_with_len 0 count) ≤ sum_by f xs
counted_once f p once [] count = zeros (range_with_len 0 count)
  where
    zeros : (ks : List ℕ) → sum_by (λ k. 0) ks ≤ 0
    zeros [] = omega arith
    zeros (k ∷ ks) = let all = sum_by-cons (λ (k : ℕ). 0) k ks in let rest = zeros ks in omega (arith, all, rest)
counted_once {X} f p once (x ∷ xs) count =
    let rest = counted_once f p once xs count in
    let here = at_most_one (λ k. p k x) (f x) (λ j k. once j k x) 0 count in
    let all = sum_by-cons f x xs in
    let parts = parted (range_with_len 0 count) in
    omega (arith, rest, here, all, parts)
  where
    one : (b : Bool) (ws : List X) → sum_by f (cond b (x ∷ ws) ws) ≡ cond b (f x) 0 + sum_by f ws
    one true ws = sum_by-cons f x ws
    one false ws = omega arith

    parted : (ks : List ℕ) → sum_by (λ k. sum_by f (filter (p k) (x ∷ xs))) ks ≡ sum_by (λ k. cond (p k x) (f x) 0) ks + sum_by (λ k. sum_by f (filter (p k) xs)) ks
    parted [] = refl
    parted (k ∷ ks) =
        let rest = parted ks in
        let all = sum_by-cons (λ k. sum_by f (filter (p k) (x ∷ xs))) k ks in
        let left = sum_by-cons (λ k. cond (p k x) (f x) 0) k ks in
        let right = sum_by-cons (λ k. sum_by f (filter (p k) xs)) k ks in
        let this = one (p k x) (filter (p k) xs) in
        omega (arith, rest, all, left, right, this)

-- a symbol is the key symbol of its own section alone
key_once : (n : Object) (j k : ℕ) (s : Symbol) → is_key_at n j s ≡ true → is_key_at n k s ≡ true → j ≡ k
key_once n j k s first second =
    let a = some_passes (λ (place : Place). nat_eq place.0 j) (global_place s.binding) (and_parts _ _ first).0 in
    let b : nat_eq a.0.0 k ≡ true = sym (ap (λ o. option_map_or (λ (place : Place). nat_eq place.0 k) o false) a.1) ∙ (and_parts _ _ second).0 in
    sym (eqb-true a.0.0 j a.2) ∙ eqb-true a.0.0 k b

-- the names of fallbacks
default_less : (s : Symbol) → bytes_sum (defaults_of s.name s.binding) ≤ own_bytes s + 14
default_less s = by s.binding
  where
    of_weak : (b : Bool) → bytes_sum (cond b (default_name s.name ∷ []) []) ≤ own_bytes s + 14
    of_weak true =
        let all : length (default_name s.name) ≡ length (codes ".weak.") + length (s.name ++ codes ".default") = length-append (codes ".weak.") (s.name ++ codes ".default") in
        let rest : length (s.name ++ codes ".default") ≡ length s.name + length (codes ".default") = length-append s.name (codes ".default") in
        let one = sum_by-cons bytes_of (default_name s.name) [] in
        omega (arith, all, rest, one)
    of_weak false = omega arith

    by : (b : Binding) → bytes_sum (defaults_of s.name b) ≤ own_bytes s + 14
    by (Local v) = omega arith
    by (Global v) = omega arith
    by Undefined = omega arith
    by (Common size align) = omega arith
    by (Weak f) = of_weak (has_default f)

module _ (format : Format) (n : Object) (own : n.format ≡ format) where
  -- the names of symbols that pass
  where_less : (test : Symbol → Bool) → bytes_sum (names_where test n) ≤ sum_by own_bytes n.symbols
  where_less test =
      let made = sum_map bytes_of (λ (s : Symbol). s.name) (filter test n.symbols) in
      let less = filter_less own_bytes test n.symbols in
      omega (arith, made, less)

  -- all names of other symbols
  others_less : bytes_sum (filter is_long (symbol_names (family_of format).writes_local n)) ≤ 3 * sum_by own_bytes n.symbols + length n.symbols * 14
  others_less =
      let locals = names_where (λ (s : Symbol). is_local s.binding && is_written format s) n in
      let fallbacks = flat_map (λ (s : Symbol). defaults_of s.name s.binding) n.symbols in
      let rest = names_where (λ (s : Symbol). not (is_local s.binding) && not (is_key n s)) n in
      let kept = filter_less bytes_of is_long (symbol_names (family_of format).writes_local n) in
      let first = sum_by-append bytes_of (locals ++ fallbacks) rest in
      let second = sum_by-append bytes_of locals fallbacks in
      let a = where_less (λ (s : Symbol). is_local s.binding && is_written format s) in
      let b = flat_less (λ (s : Symbol). defaults_of s.name s.binding) (λ (s : Symbol). own_bytes s + 14) default_less n.symbols in
      let more = sum_more own_bytes 14 n.symbols in
      let c = where_less (λ (s : Symbol). not (is_local s.binding) && not (is_key n s)) in
      omega (arith, kept, first, second, a, b, c, more)

  -- what is given for the key symbol in the section at a position
  key_less : (k : ℕ) → bytes_sum (key_strings n k) ≤ sum_by own_bytes (filter (is_key_at n k) n.symbols)
  key_less k =
      let kept = filter_less bytes_of is_long (names_where (is_key_at n k) n) in
      let made = sum_map bytes_of (λ (s : Symbol). s.name) (filter (is_key_at n k) n.symbols) in
      omega (arith, kept, made)

  pub strings_fit : length n.sections ≤ 4194304 → length n.symbols ≤ 2 ^ 24 → text_sum n ≤ 2 ^ 28 → bytes_sum (strings_of format n) ≤ 2 ^ 31
  unfolding coff_strings
  strings_fit few symbols texts =
      let names : List (List ℕ) = output_names format n in
      let places : List ℕ = range_with_len 0 (length n.sections) in
      let keys : List (List ℕ) = flat_map (key_strings n) places in
      let others : List (List ℕ) = filter is_long (symbol_names (family_of format).writes_local n) in
      let parts = sum_by-append bytes_of (filter is_tabled names) (keys ++ others) in
      let rest = sum_by-append bytes_of keys others in
      let tabled = filter_less bytes_of is_tabled names in
      let mine : bytes_sum names ≡ sum_by (λ (s : Section). bytes_of s.name) n.sections
      = ap bytes_sum (own_names format n own) ∙ sum_map bytes_of (λ (s : Section). s.name) n.sections in
      let nuls = sum_more (λ (s : Section). length s.name) 1 n.sections in
      let placed = flat_less (key_strings n) (λ k. sum_by own_bytes (filter (is_key_at n k) n.symbols)) key_less places in
      let once = counted_once own_bytes (is_key_at n) (key_once n) n.symbols (length n.sections) in
      let least = others_less in
      let each = sum_more (λ (s : Symbol). length s.name) 1 n.symbols in
      omega (arith, parts, rest, tabled, mine, nuls, placed, once, least, each, few, symbols, texts)
