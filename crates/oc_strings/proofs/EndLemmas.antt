-- Names that are the tails of texts.
use Rattle.std.proofs.Common.{◌≡◌, ℕ, ◌+◌, ◌-◌, ◌≤◌, true, List, [], ◌∷◌, ◌++◌, length, take, drop, refl, sym, ◌∙◌, ap, arith, append_assoc, length-append}
use Rattle.std.proofs.Math.Seq.{drop-append-add}
use Rattle.std.proofs.lemmas.{List.{append_cancel_right, take-append-drop}, Bool.Decides.{Decides-eqb}, Slice.Eq.{ends_is}}
use Rattle.std.specs.Cmp.{both_ways}
use Rattle.oc_base.specs.Strings.{ends}
use Rattle.oc_strings.specs.Order.{SharesEnd}

-- the text is a front and then the name
pub record IsTail (name text : List ℕ) : Type 0 where
  pub front : List ℕ
  pub is : text ≡ front ++ name

pub ends_split : (name text : List ℕ) → ends name text ≡ true → IsTail name text
ends_split name text e = record {
  front = take (length text - length name) text;
  is = (ends_is Decides-eqb text name (ends name text) refl).0 e;
}

pub ends_from : (name text front : List ℕ) → text ≡ front ++ name → ends name text ≡ true
ends_from name text front e = (ends_is Decides-eqb text name (ends name text) refl).1 front e

pub ends_self : (name : List ℕ) → ends name name ≡ true
ends_self name = ends_from name name [] refl

pub ends_trans : (a b c : List ℕ) → ends a b ≡ true → ends b c ≡ true → ends a c ≡ true
ends_trans a b c ab bc =
    let p = ends_split a b ab in
    let q = ends_split b c bc in
    ends_from a c (q.front ++ p.front) (q.is ∙ ap (λ t. q.front ++ t) p.is ∙ sym (append_assoc q.front p.front a))

-- a tail as long as the text is the text
pub ends_whole : (name text : List ℕ) → ends name text ≡ true → length text ≤ length name → name ≡ text
ends_whole name text e l =
    let p = ends_split name text e in
    let none : length p.front ≡ 0 = omega (arith, ap length p.is, length-append p.front name) in
    sym (p.is ∙ ap (λ t. t ++ name) (empty p.front none))
  where
    empty : (xs : List ℕ) → length xs ≡ 0 → xs ≡ []
    empty [] e = refl
    empty (x ∷ xs) e = absurd (omega arith)

-- a tail of n bytes and more shares the last n
pub ends_shares : (n : ℕ) (name text : List ℕ) → ends name text ≡ true → n ≤ length name → SharesEnd n name text
ends_shares n name text e l =
    let p = ends_split name text e in
    let count : length text ≡ length p.front + length name = ap length p.is ∙ length-append p.front name in
    let cut : length text - n ≡ length p.front + (length name - n) = omega (arith, l, count) in (
      l,
      omega (arith, l, count),
      sym (
          ap (drop (length text - n)) p.is ∙ ap (λ k. drop k (p.front ++ name)) cut ∙ drop-append-add p.front name (length name - n)),
    )

-- which name ends which does not change where the same bytes are cut from the end of both
pub same_ends : (n : ℕ) (a b : List ℕ) → SharesEnd n a b → ends a b ≡ ends (take (length a - n) a) (take (length b - n) b)
same_ends n a b s =
    let t : List ℕ = drop (length a - n) a in
    let a_left : List ℕ = take (length a - n) a in
    let b_left : List ℕ = take (length b - n) b in
    let a_is : a ≡ a_left ++ t = sym (take-append-drop (length a - n) a) in
    let b_is : b ≡ b_left ++ t = sym (take-append-drop (length b - n) b) ∙ ap (λ d. b_left ++ d) (sym s.2) in
    both_ways (ends a b) (ends a_left b_left)
    (λ e. let p = ends_split a b e in
    ends_from a_left b_left p.front (append_cancel_right b_left (p.front ++ a_left) t (sym b_is ∙ p.is ∙ ap (λ x. p.front ++ x) a_is ∙ sym (append_assoc p.front a_left t))))
    (λ e. let p = ends_split a_left b_left e in
    ends_from a b p.front (b_is ∙ ap (λ x. x ++ t) p.is ∙ append_assoc p.front a_left t ∙ ap (λ x. p.front ++ x) (sym a_is)))
