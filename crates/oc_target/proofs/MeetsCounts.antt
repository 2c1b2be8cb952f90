-- The counts and sums of an object that is ready to be written are bounded.
use Rattle.std.proofs.Common.{◌≡◌, ℕ, suc, ◌+◌, ◌^◌, ◌≤◌, Bool, true, false, cond, List, [], ◌∷◌, ◌++◌, length, Option, Some, None, refl, ◌∙◌, ap, arith}
use Rattle.std.specs.{Prelude.{slice_get, sum_by, nat_eq}, List.{AllByRecursion}, Option.{option_map_or}}
use Rattle.std.proofs.lemmas.List.Sums.{sum_by-cons}
use Rattle.oc_base.specs.declared.format.Format.{Format}
use Rattle.oc_linking.specs.FirstFault.{Condition}
use Rattle.oc_linking.proofs.Testing.{not_below}
use Rattle.oc_chains.specs.{declared.field.Field.{Field}, Fields.{FollowFrom, end_of}, Lists.{Lists, list_of, held_in}}
use Rattle.oc_neutral.specs.{declared.section.Section.{Section}, declared.reloc.Reloc.{Reloc}, Building.{stored_size, stored_sum}, Families.{family_of}}
use Rattle.oc_neutral.specs.{HomeNames.{output_names}, Invariants.{AreBegun, begun_with, groups_of, HasItsBytes, IsHeld}, Objects.{Object}}
use Rattle.oc_neutral.specs.TargetSymbols.{bounded, names_length, limited}
use Rattle.oc_target.specs.{Fitted.{IsFitted}, Meets.{text_sum, AreBounded}}
use Rattle.oc_target.proofs.MeetsConditions.{AreMet, own_names, symbol_count_met}
use Rattle.oc_neutral.proofs.{Positions.{each_at}, LeftObject.{sum_map}}

-- ... fields

-- fields that follow one another from an offset on have a byte each before the end
fields_fit : (p end : ℕ) (xs : List (Field Reloc)) → FollowFrom p xs → AllByRecursion (λ (x : Field Reloc). end_of x ≤ end) xs → p ≤ end → p + length xs ≤ end
fields_fit p end [] follow inside low = omega (arith, low)
fields_fit p end (x ∷ xs) follow inside low =
    let rest : end_of x + length xs ≤ end = fields_fit (end_of x) end xs follow.2 inside.1 inside.0 in
    let begins : p ≤ x.at = follow.0 in
    let wide : 1 ≤ x.width = follow.1 in
    omega (arith, rest, begins, wide)

-- of what is held, where it ends
ends : (n : Object) (s : ℕ) (bytes : List ℕ) (xs : List (Field Reloc)) → AllByRecursion (IsHeld n s bytes) xs → AllByRecursion (λ (x : Field Reloc). end_of x ≤ length bytes) xs
ends n s bytes [] held = tt
ends n s bytes (x ∷ xs) held = (held.0.inside, ends n s bytes xs held.1)

-- lists of which each has no more than its section
sums_fit : (lists : Lists Reloc) (sections : List Section) → length lists ≡ length sections
    → ((k : ℕ) (s : Section) → slice_get sections k ≡ Some s → length (list_of lists k) ≤ stored_size s) → held_in lists ≤ stored_sum sections
sums_fit [] [] same each = omega arith
sums_fit [] (s ∷ sections) same each = absurd (omega (arith, same))
sums_fit (xs ∷ lists) [] same each = absurd (omega (arith, same))
sums_fit (xs ∷ lists) (s ∷ sections) same each =
    let here : length xs ≤ stored_size s = each 0 s refl in
    let rest : held_in lists ≤ stored_sum sections = sums_fit lists sections (omega (arith, same)) (λ k x h. each (suc k) x h) in
    let left = sum_by-cons (λ (x : List (Field Reloc)). length x) xs lists in
    let right = sum_by-cons stored_size s sections in
    omega (arith, here, rest, left, right)

-- ... groups

-- no more groups are begun than there are sections
groups_few : (count begun : ℕ) (groups : List (Option ℕ)) → AreBegun count begun groups → count ≤ begun + length groups
groups_few count begun [] are = omega (arith, are)
groups_few count begun (g ∷ groups) are =
    let rest : count ≤ begun_with begun g + length groups = groups_few count (begun_with begun g) groups are.1 in
    let step : begun_with begun g ≤ begun + 1 = one g in
    omega (arith, rest, step)
  where
    more : (b : Bool) → cond b (begun + 1) begun ≤ begun + 1
    more true = omega arith
    more false = omega arith

    one : (o : Option ℕ) → begun_with begun o ≤ begun + 1
    one None = omega arith
    one (Some h) = more (nat_eq h begun)

length_groups : (sections : List Section) → length (groups_of sections) ≡ length sections
length_groups [] = refl
length_groups (s ∷ sections) = ap suc (length_groups sections)

-- ... conditions

-- of two lists of conditions that are met, each is met
pub met_parts : (xs ys : List Condition) → AreMet (xs ++ ys) → AreMet xs × AreMet ys
met_parts [] ys met = (tt, met)
met_parts (c ∷ xs) ys met = let rest = met_parts xs ys met.1 in ((met.0, rest.0), rest.1)

module _ (format : Format) (n : Object) (fits : IsFitted format n) where
  -- the number of symbols is not above its bound
  pub symbols_bounded : AreMet (option_map_or bounded ((family_of format).symbols n) [])
  symbols_bounded = (met_parts (option_map_or bounded ((family_of format).symbols n) []) (limited (names_length format n)) (symbol_count_met format n fits)).0

  texts : text_sum n ≤ 2 ^ 28
  texts =
      let low : names_length format n ≤ 268435456
      = not_below 268435456 (names_length format n) (met_parts (option_map_or bounded ((family_of format).symbols n) []) (limited (names_length format n)) (symbol_count_met format n fits)).1.0 in
      let own : sum_by length (output_names format n) ≡ sum_by (λ (s : Section). length s.name) n.sections
      = ap (sum_by length) (own_names format n fits.format) ∙ sum_map length (λ (s : Section). s.name) n.sections in
      omega (arith, low, own)

  fields_in : (k : ℕ) (s : Section) → slice_get n.sections k ≡ Some s → length (list_of n.relocs k) ≤ length s.bytes
  fields_in k s here =
      let fit : 0 + length (list_of n.relocs k) ≤ length s.bytes
      = fields_fit 0 (length s.bytes) (list_of n.relocs k) (fits.object.built.fields.apart k)
      (ends n k s.bytes (list_of n.relocs k) (fits.object.built.fields.each k s here)) (omega arith) in
      omega (arith, fit)

  fields : held_in n.relocs ≤ 2 ^ 26
  fields =
      let sum : held_in n.relocs ≤ stored_sum n.sections
      = sums_fit n.relocs n.sections fits.object.built.fields.counted (λ k s here.
      let own : length s.bytes ≡ stored_size s = each_at HasItsBytes n.sections k s fits.object.built.bytes here in
      let few = fields_in k s here in
      omega (arith, own, few)) in
      let low = fits.object.built.limits.bytes in
      omega (arith, sum, low)

  pub bounded_object : AreBounded n
  bounded_object = record {
    sizes = let low = fits.object.built.limits.sum in omega (arith, low);
    stored = let low = fits.object.built.limits.bytes in omega (arith, low);
    symbols = fits.few_symbols;
    texts = texts;
    groups =
        let few : length n.groups ≤ 0 + length (groups_of n.sections) = groups_few (length n.groups) 0 (groups_of n.sections) fits.object.complete.begun in
        let same = length_groups n.sections in
        omega (arith, few, same);
    fields = fields;
    fields_in = fields_in;
  }
