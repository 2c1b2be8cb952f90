-- The numbers of names' last bytes decide as the names do.
use Rattle.std.proofs.Common.{◌≡◌, ℕ, zero, suc, ◌+◌, ◌-◌, ◌*◌, ◌^◌, ◌<◌, ◌≤◌, List, [], ◌∷◌, length, reverse, get_or, drop, Ordering, refl, sym, ◌∙◌, ap, arith, ⊎_elim}
use Rattle.std.proofs.lemmas.{List.{get_or-reverse, get_or-drop, get_or_past, length-drop, length-reverse}, Bool.{cases_lt, cases_order}}
use Rattle.std.proofs.lemmas.{Cmp.{back_total, nat_cmp_total, nat_list_cmp_total, on_total, then_total}, Nat.{le_bytes_8}}
use Rattle.std.specs.{Cmp.{IsTotalOrder, nat_cmp_is}, Int.{w64, from_le_bytes, to_le_bytes}, Ordering.{nat_cmp, ordering_then}, Cmp.Lexicographic.{slice_cmp}}
use Rattle.std.specs.declared.cmp.Ordering.TheVariants.{Less, Equal, Greater}
use Rattle.oc_strings.specs.{declared.order.Entry.{Entry}, Keys.{back_number, entry_order, full_order, IsKeyed}, Order.{SharesEnd}}

-- each number of the list is a byte
abbrev pub AreBytes : List ℕ → Type 0
AreBytes xs = (k : ℕ) → get_or xs k 0 < 256

-- the number of the first n bytes, the first the highest, 0 for those that are not there
abbrev front : ℕ → List ℕ → ℕ
front zero xs = 0
front (suc n) xs = get_or xs 0 0 * 256 ^ n + front n (drop 1 xs)

rest_bytes : (xs : List ℕ) → AreBytes xs → AreBytes (drop 1 xs)
rest_bytes [] b k = omega (arith, b k)
rest_bytes (x ∷ xs) b k = b (suc k)

scaled : (x y p : ℕ) → x < y → x * p + p ≤ y * p
scaled x zero p l = absurd (omega (arith, l))
scaled zero (suc y) p l = omega arith
scaled (suc x) (suc y) p l = omega (arith, scaled x y p (omega (arith, l)))

front_below : (n : ℕ) (xs : List ℕ) → AreBytes xs → front n xs < 256 ^ n
front_below zero xs b = omega arith
front_below (suc n) xs b =
    omega (arith, scaled (get_or xs 0 0) 256 (256 ^ n) (b 0), front_below n (drop 1 xs) (rest_bytes xs b))

front_nil : (n : ℕ) → front n [] ≡ 0
front_nil zero = refl
front_nil (suc n) = omega (arith, front_nil n)

less : (m n : ℕ) → m < n → nat_cmp m n ≡ Less
less m n l = sym (nat_cmp_is m n Less l)

pub equal : (m n : ℕ) → m ≡ n → nat_cmp m n ≡ Equal
equal m n e = sym (nat_cmp_is m n Equal e)

greater : (m n : ℕ) → n < m → nat_cmp m n ≡ Greater
greater m n l = sym (nat_cmp_is m n Greater l)

-- what is decided stays, where nothing or the same was decided before
kept : (m n : ℕ) (o : Ordering) → m < n → o ≡ Less → ordering_then (nat_cmp m n) o ≡ o
kept m n o l e = ap (λ t. ordering_then t o) (less m n l) ∙ sym e

kept_above : (m n : ℕ) (o : Ordering) → n < m → o ≡ Greater → ordering_then (nat_cmp m n) o ≡ o
kept_above m n o l e = ap (λ t. ordering_then t o) (greater m n l) ∙ sym e

kept_equal : (m n : ℕ) (o : Ordering) → m ≡ n → ordering_then (nat_cmp m n) o ≡ o
kept_equal m n o e = ap (λ t. ordering_then t o) (equal m n e)

shifted : (c m n : ℕ) → nat_cmp (c + m) (c + n) ≡ nat_cmp m n
shifted c m n =
    ⊎_elim
    (λ same. equal (c + m) (c + n) (omega (arith, same)) ∙ sym (equal m n same))
    (λ differ. ⊎_elim
    (λ low. less (c + m) (c + n) (omega (arith, low)) ∙ sym (less m n low))
    (λ high. greater (c + m) (c + n) (omega (arith, high)) ∙ sym (greater m n high))
    differ)
    (cases_order m n)

-- the numbers of the first bytes decide as the lists do
front_decides : (n : ℕ) (xs ys : List ℕ) → AreBytes xs → AreBytes ys → ordering_then (nat_cmp (front n xs) (front n ys)) (slice_cmp nat_cmp xs ys) ≡ slice_cmp nat_cmp xs ys
front_decides zero xs ys a b = refl
front_decides (suc n) [] [] a b = kept_equal (front (suc n) []) (front (suc n) []) Equal refl
front_decides (suc n) [] (y ∷ ys) a b =
    ⊎_elim
    (λ low. kept (front (suc n) []) (front (suc n) (y ∷ ys)) Less low refl)
    (λ other. kept_equal (front (suc n) []) (front (suc n) (y ∷ ys)) Less (omega (arith, other, front_nil (suc n))))
    (cases_lt (front (suc n) []) (front (suc n) (y ∷ ys)))
front_decides (suc n) (x ∷ xs) [] a b =
    ⊎_elim
    (λ low. kept_above (front (suc n) (x ∷ xs)) (front (suc n) []) Greater low refl)
    (λ other. kept_equal (front (suc n) (x ∷ xs)) (front (suc n) []) Greater (omega (arith, other, front_nil (suc n))))
    (cases_lt (front (suc n) []) (front (suc n) (x ∷ xs)))
front_decides (suc n) (x ∷ xs) (y ∷ ys) a b =
    let p : ℕ = 256 ^ n in
    let o : Ordering = slice_cmp nat_cmp xs ys in
    let rest_a = front_below n xs (λ k. a (suc k)) in
    let rest_b = front_below n ys (λ k. b (suc k)) in
    ⊎_elim
    (λ same.
    let heads : ordering_then (nat_cmp x y) o ≡ o = kept_equal x y o same in
    ap (λ t. ordering_then t (ordering_then (nat_cmp x y) o)) (ap (λ c. nat_cmp (x * p + front n xs) (c * p + front n ys)) (sym same) ∙ shifted (x * p) (front n xs) (front n ys))
    ∙ ap (ordering_then (nat_cmp (front n xs) (front n ys))) heads
    ∙ front_decides n xs ys (λ k. a (suc k)) (λ k. b (suc k)) ∙ sym heads)
    (λ differ. ⊎_elim
    (λ low.
    kept (x * p + front n xs) (y * p + front n ys) (ordering_then (nat_cmp x y) o) (omega (arith, scaled x y p low, rest_a, rest_b)) (ap (λ t. ordering_then t o) (less x y low)))
    (λ high.
    kept_above (x * p + front n xs) (y * p + front n ys) (ordering_then (nat_cmp x y) o) (omega (arith, scaled y x p high, rest_a, rest_b)) (ap (λ t. ordering_then t o) (greater x y high)))
    differ)
    (cases_order x y)

-- the same number, with the bytes by their places from k on
abbrev spread : ℕ → ℕ → List ℕ → ℕ
spread zero k xs = 0
spread (suc n) k xs = get_or xs k 0 * 256 ^ n + spread n (suc k) xs

one_more : (k : ℕ) (xs : List ℕ) → drop 1 (drop k xs) ≡ drop (suc k) xs
one_more zero xs = refl
one_more (suc k) [] = refl
one_more (suc k) (x ∷ xs) = one_more k xs

first_at : (k : ℕ) (xs : List ℕ) → get_or (drop k xs) 0 0 ≡ get_or xs k 0
first_at zero xs = refl
first_at (suc k) [] = refl
first_at (suc k) (x ∷ xs) = first_at k xs

spread_is : (n k : ℕ) (xs : List ℕ) → front n (drop k xs) ≡ spread n k xs
spread_is zero k xs = refl
spread_is (suc n) k xs =
    ap (λ b. b * 256 ^ n + front n (drop 1 (drop k xs))) (first_at k xs)
    ∙ ap (λ t. get_or xs k 0 * 256 ^ n + t) (ap (front n) (one_more k xs) ∙ spread_is n (suc k) xs)

-- the number of a name is that of its first eight bytes, read from the last one on
back_is : (name : List ℕ) → back_number name ≡ front 8 (reverse name)
unfolding back_number
back_is name =
    let here : back_number name ≡ spread 8 0 (reverse name) = omega arith in
    here ∙ sym (spread_is 8 0 (reverse name))

reversed_bytes : (name : List ℕ) → AreBytes name → AreBytes (reverse name)
reversed_bytes name b k =
    ⊎_elim
    (λ within. omega (arith, get_or-reverse name k 0 within, b (length name - 1 - k)))
    (λ past. omega (arith, get_or_past (reverse name) k 0 (omega (arith, past, length-reverse name))))
    (cases_lt k (length name))

-- byte i of a name, counted from the last one on, among its last eight
turned : (name : List ℕ) (at i j : ℕ) → length name ≡ at + 8 → i + j ≡ 7 → get_or (reverse name) i 0 ≡ get_or (drop at name) j 0
turned name at i j l e =
    let same : length name - 1 - i ≡ at + j = omega (arith, l, e) in
    get_or-reverse name i 0 (omega (arith, l, e)) ∙ ap (λ k. get_or name k 0) same ∙ sym (get_or-drop at name j 0)

-- the number of a name is that of its last eight bytes, the first of them the lowest
pub word_is : (name : List ℕ) (at : ℕ) → length name ≡ at + 8 → back_number name ≡ from_le_bytes w64 (drop at name)
unfolding back_number
word_is name at l =
    omega (arith, turned name at 0 7 l refl, turned name at 1 6 l refl, turned name at 2 5 l refl, turned name at 3 4 l refl, turned name at 4 3 l refl, turned name at 5 2 l refl, turned name at 6 1 l refl, turned name at 7 0 l refl)

-- the last eight bytes are those of the number
word_bytes : (name : List ℕ) → AreBytes name → 8 ≤ length name → to_le_bytes w64 (back_number name) ≡ drop (length name - 8) name
word_bytes name b l =
    let at : ℕ = length name - 8 in
    le_bytes_8 (drop at name) (back_number name) (omega (arith, l, length-drop at name))
    (λ k. omega (arith, get_or-drop at name k 0, b (at + k))) (word_is name at (omega (arith, l)))

-- names of eight bytes and more share the last eight where the numbers of these are the same
pub shares_from : (a b : List ℕ) → AreBytes a → AreBytes b → 8 ≤ length a → 8 ≤ length b → back_number a ≡ back_number b → SharesEnd 8 a b
shares_from a b x y l m same = (l, m, sym (word_bytes a x l) ∙ ap (to_le_bytes w64) same ∙ word_bytes b y m)

pub shares_to : (a b : List ℕ) → SharesEnd 8 a b → back_number a ≡ back_number b
shares_to a b s =
    word_is a (length a - 8) (omega (arith, s.0)) ∙ ap (from_le_bytes w64) s.2 ∙ sym (word_is b (length b - 8) (omega (arith, s.1)))

-- the numbers decide as the names do, read from their last bytes on
pub numbers_decide : (a b : List ℕ) → AreBytes a → AreBytes b
    → ordering_then (nat_cmp (back_number a) (back_number b)) (slice_cmp nat_cmp (reverse a) (reverse b)) ≡ slice_cmp nat_cmp (reverse a) (reverse b)
numbers_decide a b x y =
    let xs : List ℕ = reverse a in
    let ys : List ℕ = reverse b in
    ap (λ m. ordering_then (nat_cmp m (back_number b)) (slice_cmp nat_cmp xs ys)) (back_is a)
    ∙ ap (λ m. ordering_then (nat_cmp (front 8 xs) m) (slice_cmp nat_cmp xs ys)) (back_is b)
    ∙ front_decides 8 xs ys (reversed_bytes a x) (reversed_bytes b y)

-- what was decided by the numbers is the order of the names
pub numbers_decided : (a b : List ℕ) (o : Ordering) → AreBytes a → AreBytes b → o ≡ nat_cmp (back_number a) (back_number b) → (o ≡ Equal → ⊥)
    → o ≡ slice_cmp nat_cmp (reverse a) (reverse b)
numbers_decided a b o x y is apart =
    let s : Ordering = slice_cmp nat_cmp (reverse a) (reverse b) in
    stays o s apart ∙ ap (λ t. ordering_then t s) is ∙ numbers_decide a b x y
  where
    stays : (o s : Ordering) → (o ≡ Equal → ⊥) → o ≡ ordering_then o s
    stays Less s apart = refl
    stays Equal s apart = absurd (apart refl)
    stays Greater s apart = refl

-- the order of entries is a total one, whatever their numbers
pub entry_order_total : IsTotalOrder entry_order
entry_order_total = then_total (on_total (λ (e : Entry). e.back) nat_cmp_total) (on_total (λ (e : Entry). reverse e.name.now) nat_list_cmp_total)

pub full_order_total : IsTotalOrder full_order
full_order_total = then_total entry_order_total (back_total (on_total (λ (e : Entry). e.number) nat_cmp_total))

-- the order of entries is that of their names, where the numbers are those of the names
pub entry_order_is : (a b : Entry) → IsKeyed a → IsKeyed b → entry_order a b ≡ slice_cmp nat_cmp (reverse a.name.now) (reverse b.name.now)
entry_order_is a b ka kb =
    let o : Ordering = slice_cmp nat_cmp (reverse a.name.now) (reverse b.name.now) in
    ap (λ m. ordering_then (nat_cmp m b.back) o) ka.back
    ∙ ap (λ m. ordering_then (nat_cmp (back_number a.name.now) m) o) kb.back ∙ numbers_decide a.name.now b.name.now ka.bytes kb.bytes
