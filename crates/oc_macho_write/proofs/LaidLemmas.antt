-- The places of the parts of an output, as they are laid.
use Rattle.std.proofs.Common.{◌≡◌, ℕ, zero, suc, ◌+◌, ◌^◌, ◌<◌, List, [], ◌∷◌, ◌++◌, length, take, drop, Option, Some, None, refl, sym, ◌∙◌, ap, arith}
use Rattle.std.specs.{Prelude.{slice_get, IsSome}, Option.{option_map}}
use Rattle.std.proofs.lemmas.{Bool.{true≢false}, Option.{none-some, same_Some, slice_get_within}}
use Rattle.oc_base.specs.declared.format.Word.{Word}
use Rattle.oc_neutral.specs.{declared.section.Section.{Section}, Objects.{Object}}
use Rattle.oc_shelf.specs.Writing.Parts.{laid_end, aligned}
use Rattle.oc_macho_file.specs.Layout.{Part, Relocs, entries_align, parts_of, part_begin, part_size, relocs_of}
use Rattle.oc_macho_file.proofs.{CodedLaws.{IsForMach}, FileSize.{small_file}, PartLaws.{length-mach_file, rises}}
use Rattle.oc_plans.proofs.PlacedLemmas.{end_low}

split_at : {X : Type 0} (xs : List X) (k : ℕ) (x : X) → slice_get xs k ≡ Some x → take k xs ++ x ∷ drop (k + 1) xs ≡ xs
split_at [] k x here = absurd (none-some x here)
split_at (y ∷ xs) zero x here = ap (λ z. z ∷ xs) (sym (same_Some y x here))
split_at (y ∷ xs) (suc k) x here = let e : suc k + 1 ≡ suc (k + 1) = omega arith in ap (λ m. y ∷ take k xs ++ x ∷ drop m (y ∷ xs)) e ∙ ap (λ zs. y ∷ zs) (split_at xs k x here)

module _ (w : Word) (n : Object) where
  -- where the last ends
  abbrev pub end_by : List Part → ℕ
  end_by xs = laid_end (part_begin w n) (part_size w n) 0 xs

  -- ... room

  pub part_room : IsForMach w n → (k : ℕ) (x : Part) → slice_get (parts_of n) k ≡ Some x → part_begin w n (end_by (take k (parts_of n))) x + part_size w n x < 2 ^ 32
  part_room is k x here =
      let l = end_low (part_begin w n) (part_size w n) (rises w n) 0 (take k (parts_of n)) x (drop (k + 1) (parts_of n)) in
      let e = ap end_by (split_at (parts_of n) k x here) in
      let small = small_file w n is in
      let long = length-mach_file w n in
      omega (arith, l, e, small, long)

-- ... the part of a section

-- the section is there
pub part_within : (n : Object) (made : ℕ → Section → Part) (k : ℕ) → IsSome (option_map (made k) (slice_get n.sections k)) → k < length n.sections
part_within n made k there = by (slice_get n.sections k) refl there
  where
    by : (o : Option Section) → slice_get n.sections k ≡ o → IsSome (option_map (made k) o) → k < length n.sections
    by None e g = absurd (true≢false (sym g))
    by (Some s) e g = slice_get_within n.sections k s e

-- its entries begin at a multiple of an address's bytes
pub begin_of : (w : Word) (n : Object) (at k : ℕ) (is : Part) → option_map (Relocs k) (slice_get n.sections k) ≡ Some is → aligned (entries_align w (length (relocs_of w n k))) at ≡ part_begin w n at is
begin_of w n at k is here = by (slice_get n.sections k) here
  where
    by : (o : Option Section) → option_map (Relocs k) o ≡ Some is → aligned (entries_align w (length (relocs_of w n k))) at ≡ part_begin w n at is
    by None g = absurd (none-some is g)
    by (Some s) g = ap (part_begin w n at) (same_Some (Relocs k s) is g)
