-- Keys of groups, looked through one after the other.
use Rattle.std.proofs.Common.{◌≡◌, ℕ, ◌+◌, Bool, true, false, cond, List, Option, None, Some, refl, sym, ◌∙◌, ap, is_some}
use Rattle.std.specs.{Prelude.{◌||◌, bytes_eq}, BTreeMap.{BTreeMap}, Map.{update}, Option.{option_and_then, option_map, option_map_or}}
use Rattle.std.proofs.lemmas.Slice.Eq.{bytes_eq-Decides}
use denote.Ref.{Bor}
use Rattle.oc_linking.specs.Numbers.{or_else}
use Rattle.oc_strings.specs.{declared.repeats.Repeat.{Repeat}, Repeats.{NameList, name_at, place_of, repeat_at}}
use Rattle.oc_shelf.proofs.ReadingLaws.FirstsLemmas.{first_more}
use Rattle.oc_elf_judge.specs.Stood.{HaveStood, value_at}

-- a key stands again where it stood before
pub repeats_where : (names : NameList) (k : ℕ) (name : List ℕ) → name_at names k ≡ Some name → is_some (repeat_at names k) ≡ is_some (place_of names k name)
repeats_where names k name here =
    ap (λ (o : Option (List ℕ)). is_some (option_map {U = Repeat} (λ place. record { earlier = place; later = k }) (option_and_then (place_of names k) o))) here ∙ by (place_of names k name)
  where
    by : (o : Option ℕ) → is_some (option_map {U = Repeat} (λ place. record { earlier = place; later = k }) o) ≡ is_some o
    by None = refl
    by (Some place) = refl

-- a position without a key repeats none
pub repeats_none : (names : NameList) (k : ℕ) → name_at names k ≡ None → is_some (repeat_at names k) ≡ false
repeats_none names k none = ap (λ (o : Option (List ℕ)). is_some (option_map {U = Repeat} (λ place. record { earlier = place; later = k }) (option_and_then (place_of names k) o))) none

-- ... one position more

either : {X : Type 0} (a b : Option X) → is_some (or_else a b) ≡ (is_some a || is_some b)
either None b = refl
either (Some x) b = refl

stood_step : (names : NameList) (n : ℕ) (key : List ℕ) → is_some (place_of names (n + 1) key) ≡ (is_some (place_of names n key) || option_map_or (bytes_eq key) (name_at names n) false)
stood_step names n key =
    ap is_some (first_more (λ k. cond (option_map_or (bytes_eq key) (name_at names k) false) (Some k) None) n)
    ∙ either (place_of names n key) (cond (option_map_or (bytes_eq key) (name_at names n) false) (Some n) None)
    ∙ ap (λ b. is_some (place_of names n key) || b) (by (option_map_or (bytes_eq key) (name_at names n) false))
  where
    by : (b : Bool) → is_some (cond b (Some n) None) ≡ b
    by true = refl
    by false = refl

same_way : (xs ys : List ℕ) → bytes_eq xs ys ≡ bytes_eq ys xs
same_way xs ys = by (bytes_eq xs ys) (bytes_eq ys xs) refl refl
  where
    by : (a b : Bool) → bytes_eq xs ys ≡ a → bytes_eq ys xs ≡ b → a ≡ b
    by true b e h = sym ((bytes_eq-Decides ys xs).1 (sym ((bytes_eq-Decides xs ys).0 e))) ∙ h
    by false true e h = sym e ∙ (bytes_eq-Decides xs ys).1 (sym ((bytes_eq-Decides ys xs).0 h))
    by false false e h = refl

-- a key is taken up
pub stood_more : (names : NameList) (n value : ℕ) (key : List ℕ) (old new : BTreeMap (Bor (List ℕ)) ℕ) → HaveStood names n old → name_at names n ≡ Some key
    → ((other : List ℕ) → value_at new other ≡ update bytes_eq (value_at old) key (Some value) other) → HaveStood names (n + 1) new
stood_more names n value key old new are here taken other =
    ap is_some (taken other) ∙ by (bytes_eq key other) (value_at old other) (is_some (place_of names n other)) (are other)
    ∙ sym (stood_step names n other ∙ ap (λ (o : Option (List ℕ)). is_some (place_of names n other) || option_map_or (bytes_eq other) o false) here ∙ ap (λ b. is_some (place_of names n other) || b) (same_way other key))
  where
    by : (c : Bool) (o : Option ℕ) (s : Bool) → is_some o ≡ s → is_some (cond c (Some value) o) ≡ (s || c)
    by true o true e = refl
    by true o false e = refl
    by false o true e = e
    by false o false e = e

-- there is none
pub stood_none : (names : NameList) (n : ℕ) (stood : BTreeMap (Bor (List ℕ)) ℕ) → HaveStood names n stood → name_at names n ≡ None → HaveStood names (n + 1) stood
stood_none names n stood are none other =
    are other ∙ sym (stood_step names n other ∙ ap (λ (o : Option (List ℕ)). is_some (place_of names n other) || option_map_or (bytes_eq other) o false) none ∙ right (is_some (place_of names n other)))
  where
    right : (b : Bool) → (b || false) ≡ b
    right true = refl
    right false = refl
