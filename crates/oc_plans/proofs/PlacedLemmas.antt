-- Things that are laid, and the files of their parts.
use Rattle.std.proofs.Common.{◌≡◌, ℕ, zero, suc, ◌+◌, ◌-◌, ◌<◌, ◌≤◌, List, [], ◌∷◌, ◌++◌, length, map, get_or, replicate, Option, Some, refl, sym, ◌∙◌, ap, subst, arith}
use Rattle.std.specs.{Prelude.{flat_map}, List.{AllByRecursion}}
use Rattle.std.proofs.lemmas.List.{length-map}
use Rattle.oc_shelf.specs.declared.writing.layout.Layout.{Layout}
use Rattle.oc_shelf.specs.Writing.Parts.{Laid, laid, laid_end, behind, joined, aligned, table_of, file_of, pieces_at, pieces_by, AreInOrder, AreLaid, IsPlaced}
use Rattle.oc_shelf.proofs.WritingLaws.PartLemmas.{length-joined, places_more, end_more}
use Rattle.oc_plans.proofs.Turns.{length-laid}

-- ... parts that are laid

module _ {X : Type 0} (begin : ℕ → X → ℕ) (size : X → ℕ) (f : X → List ℕ) where
  abbrev piece : Laid X → Laid (List ℕ)
  piece l = record { at = l.at; part = f l.part }

  pub pieces_laid : (at : ℕ) (xs : List X) → pieces_at (map (λ (l : Laid X). l.at) (laid begin size at xs)) (map f xs) ≡ map piece (laid begin size at xs)
  pieces_laid at [] = refl
  pieces_laid at (x ∷ xs) = ap (λ ps. record { at = begin at x; part = f x } ∷ ps) (pieces_laid (begin at x + size x) xs)

  module _ (sized : (x : X) → length (f x) ≡ size x) where
    pub order_laid : ((at : ℕ) (x : X) → at ≤ begin at x) → (at : ℕ) (xs : List X) → AreInOrder at (map piece (laid begin size at xs))
    order_laid up at [] = tt
    order_laid up at (x ∷ xs) = (up at x, subst (λ p. AreInOrder (begin at x + p) (map piece (laid begin size (begin at x + size x) xs))) (sym (sized x)) (order_laid up (begin at x + size x) xs))

pub joined_pieces : {X : Type 0} (f : X → List ℕ) (at : ℕ) (ls : List (Laid X)) → joined (λ (x : List ℕ). x) at (map (λ (l : Laid X). record { at = l.at; part = f l.part }) ls) ≡ joined f at ls
joined_pieces f at [] = refl
joined_pieces f at (l ∷ ls) = ap (λ zs. replicate (l.at - at) 0 ++ (f l.part ++ zs)) (joined_pieces f (l.at + length (f l.part)) ls)

-- ... things at their positions

pub mapped_at : {X Y : Type 0} (f : X → Y) (xs : List X) (k : ℕ) (d : X) (e : Y) → k < length xs → get_or (map f xs) k e ≡ f (get_or xs k d)
mapped_at f [] k d e low = absurd (omega (arith, low))
mapped_at f (x ∷ xs) zero d e low = refl
mapped_at f (x ∷ xs) (suc k) d e low = mapped_at f xs k d e (omega (arith, low))

-- ... which parts they are

pub mapped_in : {A X Y : Type 0} (into : A → Option X) (f : A → Y) (g : X → Y) (these : List A) (xs : List X) → map into these ≡ map Some xs
    → ((a : A) (x : X) → into a ≡ Some x → f a ≡ g x) → map f these ≡ map g xs
mapped_in into f g [] [] are same = refl
mapped_in into f g [] (x ∷ xs) are same = absurd (let e = ap length are in omega (arith, e))
mapped_in into f g (a ∷ these) [] are same = absurd (let e = ap length are in omega (arith, e))
mapped_in {A} {X} {Y} into f g (a ∷ these) (x ∷ xs) are same =
    let first : into a ≡ Some x = ap (λ os. head_or os (Some x)) are in
    let rest : map into these ≡ map Some xs = ap tail_of are in
    ap (λ (y : Y). y ∷ map f these) (same a x first) ∙ ap (λ ys. g x ∷ ys) (mapped_in into f g these xs rest same)
  where
    head_or : List (Option X) → Option X → Option X
    head_or [] d = d
    head_or (o ∷ os) d = o

    tail_of : List (Option X) → List (Option X)
    tail_of [] = []
    tail_of (o ∷ os) = os

pub all_get : {X : Type 0} (P : X → Type 0) (xs : List X) (k : ℕ) (d : X) → AllByRecursion P xs → k < length xs → P (get_or xs k d)
all_get P [] k d all low = absurd (omega (arith, low))
all_get P (x ∷ xs) zero d all low = all.0
all_get P (x ∷ xs) (suc k) d all low = all_get P xs k d all.1 (omega (arith, low))

-- ... files that are laid

-- each place is a multiple of 1
pub aligned_one : (at : ℕ) → aligned 1 at ≡ at
aligned_one at = omega arith

module _ {X : Type 0} (begin : ℕ → X → ℕ) (size : X → ℕ) where
  -- nothing is laid yet
  pub none_laid : (layout : Layout) → layout.places.items ≡ [] → layout.end ≡ 0 → AreLaid begin size layout []
  none_laid layout places end = record { begins = places; ends = end }

  -- one thing more
  pub laid_more : (xs : List X) (x : X) (old new : Layout) (at : ℕ) → AreLaid begin size old xs → at ≡ begin old.end x → new.places.items ≡ old.places.items ++ at ∷ [] → new.end ≡ at + size x → AreLaid begin size new (xs ++ x ∷ [])
  laid_more xs x old new at before is_begin begins ends =
      let here : at ≡ begin (laid_end begin size 0 xs) x = is_begin ∙ ap (λ p. begin p x) before.ends in
      record {
        begins = begins ∙ ap (λ ps. ps ++ at ∷ []) before.begins ∙ ap (λ p. map (λ (l : Laid X). l.at) (laid begin size 0 xs) ++ p ∷ []) here ∙ sym (places_more begin size 0 xs x);
        ends = ends ∙ ap (λ p. p + size x) here ∙ sym (end_more begin size 0 xs x);
      }

  module _ (rises : (at : ℕ) (x : X) → at ≤ begin at x) where
    end_from : (at : ℕ) (xs : List X) → at ≤ laid_end begin size at xs
    end_from at [] = omega arith
    end_from at (x ∷ xs) = omega (arith, rises at x, end_from (begin at x + size x) xs)

    -- a thing ends where those behind it do, or before
    pub end_low : (at : ℕ) (xs : List X) (x : X) (ys : List X) → begin (laid_end begin size at xs) x + size x ≤ laid_end begin size at (xs ++ x ∷ ys)
    end_low at [] x ys = end_from (begin at x + size x) ys
    end_low at (y ∷ xs) x ys = end_low (begin at y + size y) xs x ys

  module _ (f : X → List ℕ) (xs : List X) (layout : Layout) (are : AreLaid begin size layout xs) where
    pieces_are : pieces_by layout (map f xs) ≡ map (piece begin size f) (laid begin size 0 xs)
    pieces_are = ap (λ ps. pieces_at ps (map f xs)) are.begins ∙ pieces_laid begin size f 0 xs

    -- the file of the parts of things that are laid
    pub file_laid : file_of (pieces_by layout (map f xs)) ≡ joined f 0 (laid begin size 0 xs)
    file_laid = ap file_of pieces_are ∙ joined_pieces f 0 (laid begin size 0 xs)

    -- the parts are placed
    pub placed_laid : ((at : ℕ) (x : X) → at ≤ begin at x) → ((x : X) → length (f x) ≡ size x) → IsPlaced layout (map f xs)
    placed_laid rises sized = record {
      counted = ap length are.begins ∙ length-map (laid begin size 0 xs) (λ (l : Laid X). l.at) ∙ length-laid begin size 0 xs ∙ sym (length-map xs f);
      order = subst (AreInOrder 0) (sym pieces_are) (order_laid begin size f sized rises 0 xs);
      ends =
          let whole = length-joined begin size rises f 0 xs (λ k x h. sized x) in
          let same = ap length file_laid in
          let ends = are.ends in
          omega (arith, ends, whole, same);
    }

-- the bytes that are made of things, one behind another, are those of a table of them
pub joined_rows : {X : Type 0} (f : X → List ℕ) (xs : List X) → flat_map f xs ≡ table_of (map f xs)
joined_rows f [] = refl
joined_rows f (x ∷ xs) = ap (λ zs. f x ++ zs) (joined_rows f xs)

-- so are the bytes of a file of parts each of which begins where the one before ends
pub joined_table : {X : Type 0} (f : X → List ℕ) (at : ℕ) (xs : List X) → joined f at (laid behind (λ x. length (f x)) at xs) ≡ table_of (map f xs)
joined_table f at [] = refl
joined_table f at (x ∷ xs) =
    let none : at - at ≡ 0 = omega arith in
    ap (λ m. replicate m 0 ++ (f x ++ joined f (at + length (f x)) (laid behind (λ y. length (f y)) (at + length (f x)) xs))) none
    ∙ ap (λ ys. f x ++ ys) (joined_table f (at + length (f x)) xs)
