-- What an image holds: in each field its residue, lowest byte first, and elsewhere the contents.
use Rattle.std.proofs.Common.{◌≡◌, ℕ, zero, suc, ◌+◌, ◌-◌, ◌/◌, ◌%◌, ◌^◌, ◌<◌, ◌≤◌, inl, inr, true, cond, List, [], ◌∷◌, length, get_or, Option, Some, None, refl, sym, ◌∙◌, ap, subst, arith}
use Rattle.std.specs.{Prelude.{nat_le}, Option.{option_and_then, unwrap_or}}
use Rattle.std.proofs.Math.Nat.{pow-suc, div-div-eq-div-mul}
use Rattle.std.proofs.lemmas.{Bool.{cases_eq, le-leb, lt-ltb}, Option.{none-some}}
use Rattle.oc_base.specs.Numbers.{number_at}
use Rattle.oc_linking.specs.{declared.terms.Width.{Width}, declared.terms.Patch.{Patch}, Numbers.{or_else, first_upto}, Fits.{bytes_of, span, stored}}
use Rattle.oc_linking.specs.{Images.{byte_by, byte_upto, overlay}, Shows.{Apart}}
use Rattle.oc_linking.proofs.{Upto.{first_upto_from}, Apart.{byte_from, same_start}, Bytes.{mod-byte}}

-- of items of which one is there, that one is the first
first_upto_one : (item : ℕ → Option ℕ) (n k x : ℕ) → item k ≡ Some x → k < n → ((j y : ℕ) → item j ≡ Some y → j ≡ k) → first_upto item n ≡ Some x
first_upto_one item zero k x here l alone = absurd (omega arith)
first_upto_one item (suc n) k x here l alone =
    elim (first_upto item n) as (λ o. first_upto item n ≡ o → or_else o (item n) ≡ Some x) [
      | Some y ↦ λ found. let m = first_upto_from item n y found in
          sym (subst (λ j. item j ≡ Some y) (alone m.0 y m.2) m.2) ∙ here
      | None ↦ λ none. elim (cases_eq k n) [
        | inl same ↦ subst (λ j. item j ≡ Some x) same here
        | inr other ↦ absurd (none-some x (sym none ∙ first_upto_one item n k x here (omega arith) alone))
      ]
    ] refl

-- of items of which none is there, there is no first
first_upto_none : (item : ℕ → Option ℕ) (n : ℕ) → ((j y : ℕ) → item j ≡ Some y → ⊥) → first_upto item n ≡ None
first_upto_none item zero never = refl
first_upto_none item (suc n) never =
    elim (item n) as (λ o. item n ≡ o → or_else (first_upto item n) (item n) ≡ None) [
      | Some y ↦ λ h. absurd (never n y h)
      | None ↦ λ h. rw (first_upto_none item n never) h
    ] refl

-- byte i of an image
get_or-overlay : (o : ℕ → Option Patch) (i j : ℕ) (xs : List ℕ) → j < length xs → get_or (overlay o i xs) j 0 ≡ unwrap_or (byte_upto o (i + j) 8) (get_or xs j 0)
get_or-overlay o i j [] l = absurd (omega arith)
get_or-overlay o i zero (x ∷ xs) l = let e : i + 0 ≡ i = omega arith in rw e refl
get_or-overlay o i (suc j) (x ∷ xs) l =
    let e : i + 1 + j ≡ i + suc j = omega arith in
    get_or-overlay o (i + 1) j xs (omega arith) ∙ ap (λ k. unwrap_or (byte_upto o k 8) (get_or xs j 0)) e

-- from the first byte on
pub byte_of_image : (o : ℕ → Option Patch) (i : ℕ) (xs : List ℕ) → i < length xs → get_or (overlay o 0 xs) i 0 ≡ unwrap_or (byte_upto o i 8) (get_or xs i 0)
byte_of_image o i xs l = let e : 0 + i ≡ i = omega arith in get_or-overlay o 0 i xs l ∙ ap (λ k. unwrap_or (byte_upto o k 8) (get_or xs i 0)) e

-- a field has 8 bytes at most
pub few : (width : Width) → bytes_of width ≤ 8
few width = grind arith

-- what a field gives at one of its bytes
pub byte_of_field : (o : ℕ → Option Patch) (at back : ℕ) (q : Patch) → o at ≡ Some q → back < bytes_of q.width → byte_by o (at + back) back ≡ Some (q.residue / 256 ^ back % 256)
byte_of_field o at back q here l =
    let e : at + back - back ≡ at = omega arith in
    let into : nat_le back (at + back) ≡ true = le-leb back (at + back) (omega arith) in
    ap (λ b. cond b (option_and_then (stored back) (o (at + back - back))) None) into
    ∙ ap (λ k. option_and_then (stored back) (o k)) e
    ∙ ap (option_and_then (stored back)) here
    ∙ ap (λ b. cond b (Some (q.residue / 256 ^ back % 256)) None) (lt-ltb back (bytes_of q.width) l)

-- a byte of a field
pub byte-of_field : (o : ℕ → Option Patch) → Apart o → (xs : List ℕ) (at back : ℕ) (q : Patch) → o at ≡ Some q → back < bytes_of q.width → at + bytes_of q.width ≤ length xs
    → get_or (overlay o 0 xs) (at + back) 0 ≡ q.residue / 256 ^ back % 256
byte-of_field o apart xs at back q here l inside =
    let own : byte_by o (at + back) back ≡ Some (q.residue / 256 ^ back % 256) = byte_of_field o at back q here l in
    let first : byte_upto o (at + back) 8 ≡ Some (q.residue / 256 ^ back % 256) =
    first_upto_one (byte_by o (at + back)) 8 back _ own (let f = few q.width in omega (arith, f, l)) (λ j y there. same_start o apart (at + back) j back y _ there own) in
    byte_of_image o (at + back) xs (omega (arith, l, inside)) ∙ ap (λ b. unwrap_or b (get_or xs (at + back) 0)) first

-- k bytes of a number, from byte j of it on, are that part of it
number_of_bytes : (ys : List ℕ) (r k at j : ℕ) → ((b : ℕ) → b < k → get_or ys (at + b) 0 ≡ r / 256 ^ (j + b) % 256) → number_at ys at k ≡ r / 256 ^ j % 256 ^ k
unfolding number_at
number_of_bytes ys r zero at j each = omega arith
number_of_bytes ys r (suc k) at j each =
    let here : at + 0 ≡ at = omega arith in
    let low : j + 0 ≡ j = omega arith in
    let first : get_or ys at 0 ≡ r / 256 ^ j % 256 = ap (λ i. get_or ys i 0) (sym here) ∙ each 0 (omega arith) ∙ ap (λ i. r / 256 ^ i % 256) low in
    let rest : number_at ys (suc at) k ≡ r / 256 ^ suc j % 256 ^ k = number_of_bytes ys r k (suc at) (suc j) (λ b l.
    let next : suc at + b ≡ at + suc b = omega arith in
    let higher : j + suc b ≡ suc j + b = omega arith in
    ap (λ i. get_or ys i 0) next ∙ each (suc b) (omega (arith, l)) ∙ ap (λ i. r / 256 ^ i % 256) higher) in
    let shift : r / 256 ^ suc j ≡ r / 256 ^ j / 256 = ap (λ (p : ℕ). r / p) (pow-suc 256 j) ∙ sym (div-div-eq-div-mul r (256 ^ j) 256) in
    rw (first, rest, shift, mod-byte (r / 256 ^ j) k) (omega arith)

-- as many bytes as a field has hold a number of its bits
span_of : (width : Width) → 256 ^ bytes_of width ≡ span width
span_of width = grind arith

-- the bytes of a field hold its residue
pub field_holds : (o : ℕ → Option Patch) → Apart o → (xs : List ℕ) (at : ℕ) (q : Patch) → o at ≡ Some q → at + bytes_of q.width ≤ length xs
    → number_at (overlay o 0 xs) at (bytes_of q.width) ≡ q.residue % span q.width
field_holds o apart xs at q here inside =
    number_of_bytes (overlay o 0 xs) q.residue (bytes_of q.width) at 0 (λ b l.
    let same : b ≡ 0 + b = omega arith in byte-of_field o apart xs at b q here l inside ∙ ap (λ i. q.residue / 256 ^ i % 256) same)
    ∙ ap (λ m. q.residue / 256 ^ 0 % m) (span_of q.width)
    ∙ (let whole : q.residue / 256 ^ 0 ≡ q.residue = omega arith in ap (λ n. n % span q.width) whole)

-- a byte of no field is as it was
pub others_stay : (o : ℕ → Option Patch) (xs : List ℕ) (i : ℕ) → i < length xs → ((at : ℕ) (q : Patch) → o at ≡ Some q → at ≤ i → i < at + bytes_of q.width → ⊥)
    → get_or (overlay o 0 xs) i 0 ≡ get_or xs i 0
others_stay o xs i l free =
    let none : byte_upto o i 8 ≡ None = first_upto_none (byte_by o i) 8 (λ back y here.
    let m = byte_from o i back y here in free (i - back) m.1 m.2 (omega (arith, m.0)) (omega (arith, m.0, m.3))) in
    byte_of_image o i xs l ∙ ap (λ b. unwrap_or b (get_or xs i 0)) none
