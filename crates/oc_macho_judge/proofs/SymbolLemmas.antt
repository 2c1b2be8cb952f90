-- Symbols, judged one after the other.
use Rattle.std.proofs.Common.{◌≡◌, ℕ, zero, suc, ◌+◌, ◌<◌, Bool, true, false, cond, List, [], ◌∷◌, ◌++◌, length, map, take, Option, None, Some, refl, sym, ◌∙◌, ap, arith}
use Rattle.std.specs.{Prelude.{is_some, slice_get, MatchOption}, Option.{option_map, option_map_or, option_copied, option_flatten}}
use Rattle.std.proofs.lemmas.{List.{length-map, map-append}, Option.{none-some, same_Some, slice_get-map}}
use denote.Ref.{Bor}
use Rattle.oc_linking.specs.{Numbers.{first_upto}, FirstFault.{first_broken, fault_of}}
use Rattle.oc_linking.proofs.FirstFaultLaws.{first_upto_none}
use Rattle.oc_strings.specs.{declared.repeats.Repeat.{Repeat}, Repeats.{NameList, name_at, names_of, repeat_at, first_repeat}}
use Rattle.oc_shelf.proofs.ReadingLaws.StageLemmas.{all_hold, clean_both}
use Rattle.oc_macho.specs.{declared.nlist.Nlist.{Nlist}, Tables.{Tables}, Symbols.{is_stab}}
use Rattle.oc_macho.specs.SymbolFaults.{kind_conditions, home_conditions, name_conditions, symbol_conditions, symbol_stage, public_names, public_name}
use Rattle.oc_macho_judge.specs.Judged.{ends_at}
use Rattle.oc_shows.proofs.RepeatLaws as laws

-- ... repeats

-- nothing repeats at a position without a name
unnamed : (names : NameList) (k : ℕ) → name_at names k ≡ None → repeat_at names k ≡ None
unnamed names k none = rw none refl

-- the name at a position is that of the symbol
named_at : (t : Tables) (k : ℕ) (s : Nlist) → slice_get t.symbols k ≡ Some s → name_at (public_names t) k ≡ public_name t s
named_at t k s here = ap option_flatten (slice_get-map (public_name t) t.symbols k ∙ ap (option_map (public_name t)) here)

-- a symbol without a fault has a name of its own
no_repeat : (t : Tables) (k : ℕ) (s : Nlist) → slice_get t.symbols k ≡ Some s → fault_of (symbol_stage t) k ≡ None → is_some (repeat_at (public_names t) k) ≡ false
unfolding symbol_conditions
no_repeat t k s here clean =
    by (is_stab s) refl (sym (ap (λ (o : Option Nlist). first_broken (option_map_or (λ s. symbol_conditions t k s (is_some (repeat_at (public_names t) k))) o [])) here) ∙ clean)
  where
    by : (b : Bool) → is_stab s ≡ b
        → first_broken (cond b [] (kind_conditions t k s ++ (home_conditions t k s ++ name_conditions t k s (is_some (repeat_at (public_names t) k))))) ≡ None
        → is_some (repeat_at (public_names t) k) ≡ false
    by true stab e = ap is_some (unnamed (public_names t) k (named_at t k s here ∙ rw stab refl))
    by false stab e =
        let rest = (clean_both (kind_conditions t k s) (home_conditions t k s ++ name_conditions t k s (is_some (repeat_at (public_names t) k))) e).1 in
        let names = (clean_both (home_conditions t k s) (name_conditions t k s (is_some (repeat_at (public_names t) k))) rest).1 in
        (all_hold (name_conditions t k s (is_some (repeat_at (public_names t) k))) names).1.0

-- the same, by the number alone
no_repeat_at : (t : Tables) (k : ℕ) → fault_of (symbol_stage t) k ≡ None → is_some (repeat_at (public_names t) k) ≡ false
no_repeat_at t k clean = by (slice_get t.symbols k) refl
  where
    by : (o : Option Nlist) → slice_get t.symbols k ≡ o → is_some (repeat_at (public_names t) k) ≡ false
    by None h = ap is_some (unnamed (public_names t) k (ap option_flatten (slice_get-map (public_name t) t.symbols k ∙ ap (option_map (public_name t)) h)))
    by (Some s) h = no_repeat t k s h clean

-- while no symbol has a fault, the first repeat ends at a symbol exactly where its name stood before
pub repeat_ends : (t : Tables) (found : Option Repeat) (k : ℕ) → found ≡ first_repeat (public_names t) → k < length t.symbols → first_upto (fault_of (symbol_stage t)) k ≡ None
    → ends_at found k ≡ is_some (repeat_at (public_names t) k)
repeat_ends t found k is low clean =
    laws.repeat_ends (public_names t) found k is (omega (arith, low, length-map t.symbols (public_name t))) (λ j before. no_repeat_at t j (first_upto_none (fault_of (symbol_stage t)) k clean j before))

-- the fault of a symbol, where it is told whether a repeat ends there
pub symbol_broken : (t : Tables) (found : Option Repeat) (k : ℕ) (s : Nlist) (again : Bool) → found ≡ first_repeat (public_names t) → k < length t.symbols → first_upto (fault_of (symbol_stage t)) k ≡ None
    → slice_get t.symbols k ≡ Some s → again ≡ ends_at found k → fault_of (symbol_stage t) k ≡ first_broken (symbol_conditions t k s again)
symbol_broken t found k s again is low clean here ends =
    ap (λ (o : Option Nlist). first_broken (option_map_or (λ s. symbol_conditions t k s (is_some (repeat_at (public_names t) k))) o [])) here
    ∙ ap (λ (b : Bool). first_broken (symbol_conditions t k s b)) (sym (ends ∙ repeat_ends t found k is low clean))

-- ... lists of names

-- what a slice holds, as a name
pub copied : (o : Option (Bor (List ℕ))) (p : Option (List ℕ)) → MatchOption o (p ≡ None) (λ (name : Bor (List ℕ)). p ≡ Some name.now) → option_copied o ≡ p
copied None p e = sym e
copied (Some x) p e = sym e

-- one entry more of a list
take_one : {X : Type 0} (xs : List X) (k : ℕ) (x : X) → slice_get xs k ≡ Some x → take (suc k) xs ≡ take k xs ++ x ∷ []
take_one [] k x e = absurd (none-some x e)
take_one (y ∷ xs) zero x e = ap (λ z. z ∷ []) (same_Some y x e)
take_one {X} (y ∷ xs) (suc k) x e = ap (λ (zs : List X). y ∷ zs) (take_one xs k x e)

-- one name more
pub names_more : (t : Tables) (slices : List (Option (Bor (List ℕ)))) (x : Option (Bor (List ℕ))) (k : ℕ) (s : Nlist) → names_of slices ≡ map (public_name t) (take k t.symbols) → slice_get t.symbols k ≡ Some s
    → option_copied x ≡ public_name t s → names_of (slices ++ x ∷ []) ≡ map (public_name t) (take (k + 1) t.symbols)
names_more t slices x k s so here is =
    map-append option_copied slices (x ∷ []) ∙ ap (λ (names : NameList). names ++ option_copied x ∷ []) so ∙ ap (λ (o : Option (List ℕ)). map (public_name t) (take k t.symbols) ++ o ∷ []) is
    ∙ sym (map-append (public_name t) (take k t.symbols) (s ∷ [])) ∙ sym (ap (map (public_name t)) (take_one t.symbols k s here))
    ∙ (let e : suc k ≡ k + 1 = omega arith in ap (λ (n : ℕ). map (public_name t) (take n t.symbols)) e)

-- all of a list
take_all : {X : Type 0} (xs : List X) → take (length xs) xs ≡ xs
take_all [] = refl
take_all {X} (x ∷ xs) = ap (λ (ys : List X). x ∷ ys) (take_all xs)

pub all_names : (t : Tables) (n : ℕ) → n ≡ length t.symbols → map (public_name t) (take n t.symbols) ≡ public_names t
all_names t n is = ap (λ (m : ℕ). map (public_name t) (take m t.symbols)) is ∙ ap (map (public_name t)) (take_all t.symbols)
