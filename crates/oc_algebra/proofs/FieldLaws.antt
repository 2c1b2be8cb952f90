-- What fields and addends promise each other.
use Rattle.std.proofs.Common.{◌≡◌, ℕ, ◌+◌, ◌<◌, ◌≤◌, refl, sym, ◌∙◌, ap, arith, Bool, true, false, cond, true≢false, Ok, Err, MatchResult}
use Rattle.std.specs.Prelude.{ℤ, pos, negsuc, ◌+ℤ◌, ◌-ℤ◌}
use borrow.Author.Differences.{ints}
use Rattle.std.proofs.lemmas.Bool.Decides.{nat_tests}
use Rattle.oc_base.specs.{declared.format.Word.{Word}, declared.format.Word.TheVariants.{W32, W64}}
use Rattle.oc_linking.specs.{declared.terms.Width.{Width}, declared.terms.Width.TheVariants.{One, Two, Four, Eight}, Numbers.{modulus}, Fits.{span, half}}
use Rattle.oc_algebra.specs.{Residues.{modulo, residue_of, reduced_number, is_signed_in}, Fields.{extended, field_for, from_field_of, to_field_of, too_wide}}
use Rattle.oc_algebra.specs.Promises.{Holds, Written, ReadAgain}
use Rattle.oc_algebra.proofs.Laws.{residue_reduced, reduced_same}

-- the field of a number extends to the number
extended-modulo : (k : Width) (n : ℤ) → is_signed_in (half k) n ≡ true → extended k (modulo (span k) n) ≡ n
unfolding extended
extended-modulo One (pos n) l = grind (arith, ints, nat_tests)
extended-modulo One (negsuc n) l = grind (arith, ints, nat_tests)
extended-modulo Two (pos n) l = grind (arith, ints, nat_tests)
extended-modulo Two (negsuc n) l = grind (arith, ints, nat_tests)
extended-modulo Four (pos n) l = grind (arith, ints, nat_tests)
extended-modulo Four (negsuc n) l = grind (arith, ints, nat_tests)
extended-modulo Eight (pos n) l = grind (arith, ints, nat_tests)
extended-modulo Eight (negsuc n) l = grind (arith, ints, nat_tests)

-- a field is below its span
modulo_small : (k : Width) (n : ℤ) → modulo (span k) n < span k
modulo_small One n = omega (arith, ints)
modulo_small Two n = omega (arith, ints)
modulo_small Four n = omega (arith, ints)
modulo_small Eight n = omega (arith, ints)

-- what a field holds is a signed number of its width, also once it is reduced
extended_held : (w : Word) (k : Width) (f : ℕ) → is_signed_in (half k) (reduced_number w (extended k f)) ≡ true
unfolding extended residue_of reduced_number
extended_held W32 One f = grind (arith, ints, nat_tests)
extended_held W32 Two f = grind (arith, ints, nat_tests)
extended_held W32 Four f = grind (arith, ints, nat_tests)
extended_held W32 Eight f = grind (arith, ints, nat_tests)
extended_held W64 One f = grind (arith, ints, nat_tests)
extended_held W64 Two f = grind (arith, ints, nat_tests)
extended_held W64 Four f = grind (arith, ints, nat_tests)
extended_held W64 Eight f = grind (arith, ints, nat_tests)

-- a shift that was taken is added again
back : (w : Word) (n a s : ℤ) → residue_of w n ≡ residue_of w (a -ℤ s) → residue_of w (n +ℤ s) ≡ residue_of w a
unfolding residue_of
back W32 n a s e = omega (arith, ints)
back W64 n a s e = omega (arith, ints)

-- a shift that was added is taken again
forth : (w : Word) (n a s : ℤ) → residue_of w (n +ℤ s) ≡ residue_of w a → residue_of w n ≡ residue_of w (a -ℤ s)
unfolding residue_of
forth W32 n a s e = omega (arith, ints)
forth W64 n a s e = omega (arith, ints)

-- the field of an addend holds the addend
pub from_to : (w : Word) (k : Width) (s a : ℤ) → is_signed_in (half k) (reduced_number w (a -ℤ s)) ≡ true
    → from_field_of w k s (modulo (span k) (reduced_number w (a -ℤ s))) ≡ reduced_number w a
unfolding from_field_of
from_to w k s a l =
    rw (extended-modulo k (reduced_number w (a -ℤ s)) l)
    (reduced_same w _ _ (back w (reduced_number w (a -ℤ s)) a s (residue_reduced w (a -ℤ s))))

-- an addend that is refused stands in no field, since what a field holds is a signed number of its width
no_field : (w : Word) (k : Width) (s a : ℤ) → is_signed_in (half k) (reduced_number w (a -ℤ s)) ≡ false → (f : ℕ) → Holds w k s a f → ⊥
unfolding from_field_of
no_field w k s a l f (small, e) =
    let same = sym (residue_reduced w (extended k f +ℤ s)) ∙ ap (residue_of w) e ∙ residue_reduced w a in
    let is = reduced_same w _ _ (forth w (extended k f) a s same) in
    true≢false (sym (extended_held w k f) ∙ ap (is_signed_in (half k)) is ∙ l)

-- what is written for an addend
pub written_law : (w : Word) (k : Width) (s a : ℤ) → Written w k s a
unfolding to_field_of field_for
written_law w k s a = by (is_signed_in (half k) (reduced_number w (a -ℤ s))) refl where
  by : (b : Bool) → is_signed_in (half k) (reduced_number w (a -ℤ s)) ≡ b
      → MatchResult (cond b (Ok (modulo (span k) (reduced_number w (a -ℤ s)))) (Err too_wide)) (Holds w k s a) (λ e. (f : ℕ) → Holds w k s a f → ⊥)
  by true l = (modulo_small k (reduced_number w (a -ℤ s)), from_to w k s a l)
  by false l = no_field w k s a l

-- a field no wider than the word is its number modulo its span
modulo-extended : (w : Word) (k : Width) (f : ℕ) → f < span k → span k ≤ modulus w → modulo (span k) (reduced_number w (extended k f)) ≡ f
unfolding extended residue_of reduced_number
modulo-extended W32 One f small narrow = grind (arith, ints, nat_tests)
modulo-extended W32 Two f small narrow = grind (arith, ints, nat_tests)
modulo-extended W32 Four f small narrow = grind (arith, ints, nat_tests)
modulo-extended W32 Eight f small narrow = absurd (omega arith)
modulo-extended W64 One f small narrow = grind (arith, ints, nat_tests)
modulo-extended W64 Two f small narrow = grind (arith, ints, nat_tests)
modulo-extended W64 Four f small narrow = grind (arith, ints, nat_tests)
modulo-extended W64 Eight f small narrow = grind (arith, ints, nat_tests)

-- the addend that any field holds is written as a field
pub to_from : (w : Word) (k : Width) (s : ℤ) (f : ℕ) → to_field_of w k s (from_field_of w k s f) ≡ Ok (modulo (span k) (reduced_number w (extended k f)))
unfolding to_field_of from_field_of field_for
to_from w k s f =
    let same = forth w (extended k f) (reduced_number w (extended k f +ℤ s)) s (sym (residue_reduced w (extended k f +ℤ s))) in
    rw (sym (reduced_same w _ _ same), extended_held w k f) refl

-- a field no wider than the word is written again as it was read
pub read_law : (w : Word) (k : Width) (s : ℤ) (f : ℕ) → ReadAgain w k s f
read_law w k s f small narrow = to_from w k s f ∙ ap Ok (modulo-extended w k f small narrow)
