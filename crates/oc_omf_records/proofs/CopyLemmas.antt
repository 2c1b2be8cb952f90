-- Where the copies of content bytes stand.
use Rattle.std.proofs.Common.{◌≡◌, ℕ, zero, suc, ◌+◌, ◌-◌, ◌*◌, ◌<◌, Bool, true, false, ◌&&◌, nat_lt, nat_le, List, [], ◌∷◌, length, All, refl, sym, ◌∙◌, ap, arith, Option, Some, None}
use Rattle.std.specs.Option.{option_map}
use Rattle.std.proofs.lemmas.{Bool.Decides.{nat_tests}, List.Elements.{All-nil, All-cons, All-append, All-map, All-weaker}}
use Rattle.oc_omf_records.specs.{Blocks.{Blocks, none, content, nested, append, size_of, moved, in_each, in_content, found, copies_of}, Seeking.{kept}}

-- moved by nothing
pub moved-nothing : (places : List ℕ) → moved 0 places ≡ places
moved-nothing [] = refl
moved-nothing (place ∷ places) = let e : 0 + place ≡ place = omega arith in rw (e, moved-nothing places) refl

-- moved twice
pub moved-moved : (a b : ℕ) (places : List ℕ) → moved a (moved b places) ≡ moved (a + b) places
moved-moved a b [] = refl
moved-moved a b (place ∷ places) = let e : a + (b + place) ≡ a + b + place = omega arith in rw (e, moved-moved a b places) refl

-- no place in a piece is no place in its copies
pub in_each-nothing : (n size : ℕ) → in_each n size [] ≡ []
in_each-nothing zero size = refl
in_each-nothing (suc n) size = rw (in_each-nothing n size) refl

-- what is found at the front
pub found-front : (x : Option (List ℕ)) → found None 0 x ≡ x
found-front None = refl
found-front (Some places) = ap Some (moved-nothing places)

-- what is found in three parts
pub found-found : (x y z : Option (List ℕ)) (s t : ℕ) → found x s (found y t z) ≡ found (found x s y) (s + t) z
found-found (Some places) y z s t = refl
found-found None (Some places) z s t = refl
found-found None None None s t = refl
found-found None None (Some places) s t = ap Some (moved-moved s t places)

-- nothing behind
pub found-last : (x : Option (List ℕ)) (s : ℕ) → found x s None ≡ x
found-last None s = refl
found-last (Some places) s = refl

-- the copies in two rows
pub copies_of-append : (a b : Blocks) (at : ℕ) → copies_of (append a b) at ≡ found (copies_of a at) (size_of a) (copies_of b at)
copies_of-append none b at = sym (found-front (copies_of b at))
copies_of-append (content count place bytes rest) b at =
    ap (found (option_map (in_each count (length bytes)) (in_content at place (length bytes))) (count * length bytes)) (copies_of-append rest b at)
    ∙ found-found (option_map (in_each count (length bytes)) (in_content at place (length bytes))) (copies_of rest at) (copies_of b at) (count * length bytes) (size_of rest)
copies_of-append (nested count inside rest) b at =
    ap (found (option_map (in_each count (size_of inside)) (copies_of inside at)) (count * size_of inside)) (copies_of-append rest b at)
    ∙ found-found (option_map (in_each count (size_of inside)) (copies_of inside at)) (copies_of rest at) (copies_of b at) (count * size_of inside) (size_of rest)

-- each place, if any, is below the size
abbrev pub IsWithin : ℕ → Option (List ℕ) → Type 0
IsWithin size None = Unit {0}
IsWithin size (Some places) = All (λ place. place < size) places

pub IsWithin-found : (x y : Option (List ℕ)) (s t : ℕ) → IsWithin s x → IsWithin t y → IsWithin (s + t) (found x s y)
IsWithin-found (Some places) y s t left right = All-weaker (λ place. place < s) (λ place. place < s + t) (λ place l. omega arith) places left
IsWithin-found None None s t left right = tt
IsWithin-found None (Some places) s t left right =
    All-map (λ place. place < s + t) (λ place. s + place) places (All-weaker (λ place. place < t) (λ place. s + place < s + t) (λ place l. omega arith) places right)

in_each-within : (n size : ℕ) (places : List ℕ) → All (λ place. place < size) places → All (λ place. place < n * size) (in_each n size places)
in_each-within zero size places all = All-nil (λ place. place < 0 * size)
in_each-within (suc n) size places all =
    All-append (λ place. place < suc n * size) (in_each n size places) (moved (n * size) places)
    (All-weaker (λ place. place < n * size) (λ place. place < suc n * size) (λ place l. grind arith) (in_each n size places) (in_each-within n size places all))
    (All-map (λ place. place < suc n * size) (λ place. n * size + place) places (All-weaker (λ place. place < size) (λ place. n * size + place < suc n * size) (λ place l. grind arith) places all))

IsWithin-in_each : (n size : ℕ) (x : Option (List ℕ)) → IsWithin size x → IsWithin (n * size) (option_map (in_each n size) x)
IsWithin-in_each n size None all = tt
IsWithin-in_each n size (Some places) all = in_each-within n size places all

pub in_content-within : (at place size : ℕ) → IsWithin size (in_content at place size)
in_content-within at place size = by_test (nat_le place at && nat_le (at + 4) (place + size)) refl
  where
    by_test : (test : Bool) → (nat_le place at && nat_le (at + 4) (place + size)) ≡ test → IsWithin size (in_content at place size)
    by_test true e = rw e (All-cons (λ p. p < size) (at - place) [] (grind (arith, nat_tests)) (All-nil (λ p. p < size)))
    by_test false e = rw e tt

-- copies stand among the bytes
pub copies_of-within : (row : Blocks) (at : ℕ) → IsWithin (size_of row) (copies_of row at)
copies_of-within none at = tt
copies_of-within (content count place bytes rest) at =
    IsWithin-found _ _ (count * length bytes) (size_of rest) (IsWithin-in_each count (length bytes) _ (in_content-within at place (length bytes))) (copies_of-within rest at)
copies_of-within (nested count inside rest) at =
    IsWithin-found _ _ (count * size_of inside) (size_of rest) (IsWithin-in_each count (size_of inside) _ (copies_of-within inside at)) (copies_of-within rest at)

-- under a count of 0, no place is kept
pub kept-in_each : (live : Bool) (count size : ℕ) (x : Option (List ℕ)) → kept live (option_map (in_each count size) x) ≡ option_map (in_each count size) (kept live x)
kept-in_each true count size x = refl
kept-in_each false count size None = refl
kept-in_each false count size (Some places) = ap Some (sym (in_each-nothing count size))

pub kept-repeated : (live : Bool) (count size : ℕ) (x : Option (List ℕ))
    → kept live (option_map (in_each count size) x) ≡ option_map (in_each count size) (kept (live && nat_lt 0 count) x)
kept-repeated true zero size None = refl
kept-repeated true zero size (Some places) = refl
kept-repeated true (suc n) size x =
    let test : nat_lt 0 (suc n) ≡ true = grind (arith, nat_tests) in
    rw test refl
kept-repeated false count size None = refl
kept-repeated false count size (Some places) = ap Some (sym (in_each-nothing count size))
