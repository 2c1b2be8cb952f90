-- The indexes of the names of sections, and the codes of their alignments.
use Rattle.std.proofs.Common.{◌≡◌, ℕ, zero, suc, ◌+◌, ◌-◌, ◌^◌, ◌<◌, ◌≤◌, Bool, true, false, ◌||◌, cond, nat_eq, eq-eqb, None, List, [], ◌∷◌, length, map, Some, refl, ◌∙◌, ap, arith}
use Rattle.std.specs.{Prelude.{slice_get, bytes_eq, is_some}, List.{AllByRecursion, enumerate_from, list_any, position_or_len}}
use Rattle.std.proofs.lemmas.Option.{none-some, same_Some}
use Rattle.oc_neutral.specs.{Omf.Family.{omf_aligns}, declared.section.Section.{Section}, Objects.{Object}}
use Rattle.oc_plans.specs.Numbered.{section_with_numbers}
use Rattle.oc_base.specs.declared.format.Format.TheVariants.{Omf}
use Rattle.oc_omf_file.specs.Names.{class_of, names_of}
use Rattle.oc_omf_file.proofs.{CodedLaws.{IsForOmf}, NameLaws.{section_named, section_classed, name_within}}
use Rattle.oc_omf_write.specs.{declared.names.Names.{Names}, Names.{names_for, AreNames, IsIndexed, IsSegment}, Raws.{addend_in, sections_in}}

-- a text that is among them has an index
indexed : (sections : List Section) (names : Names) (text : List ℕ) → AreNames sections (names_for sections) names → list_any (bytes_eq text) (names_for sections) ≡ true
    → position_or_len (bytes_eq text) (names_for sections) + 1 ≤ length (names_for sections) → length (names_for sections) < 2 ^ 15 - 1 → IsIndexed names text
indexed sections names text are among within few = record {
  place = position_or_len (bytes_eq text) (names_for sections);
  there = are.places text ∙ ap (λ b. cond b (Some (position_or_len (bytes_eq text) (names_for sections))) None) among;
  small = omega (arith, within, few);
}

-- an object of these sections
abbrev of_sections : List Section → Object
of_sections sections = record { format = Omf; groups = []; sections = sections; symbols = []; relocs = [] }

module _ (sections : List Section) (names : Names) (are : AreNames sections (names_for sections) names) (few : length (names_for sections) < 2 ^ 15 - 1) (k : ℕ) (s : Section) (here : slice_get sections k ≡ Some s) where
  pub name_indexed : IsIndexed names s.name
  unfolding names_of
  name_indexed = indexed sections names s.name are (section_named (of_sections sections) k s here) (name_within (of_sections sections) s.name (section_named (of_sections sections) k s here)) few

  pub class_indexed : IsIndexed names (class_of s)
  unfolding names_of
  class_indexed = indexed sections names (class_of s) are (section_classed (of_sections sections) k s here) (name_within (of_sections sections) (class_of s) (section_classed (of_sections sections) k s here)) few

-- ... alignments

any_here : (test : ℕ → Bool) (xs : List ℕ) (k x : ℕ) → slice_get xs k ≡ Some x → test x ≡ true → list_any test xs ≡ true
any_here test [] k x here is = absurd (none-some x here)
any_here test (y ∷ xs) zero x here is = ap (λ (b : Bool). b || list_any test xs) (ap test (same_Some y x here) ∙ is)
any_here test (y ∷ xs) (suc k) x here is = ap (λ (b : Bool). test y || b) (any_here test xs k x here is) ∙ right (test y)
  where
    right : (b : Bool) → (b || true) ≡ true
    right true = refl
    right false = refl

segments_from : (n : Object) (i : ℕ) (xs : List Section) → ((k : ℕ) (s : Section) → slice_get xs k ≡ Some s → IsSegment s)
    → AllByRecursion IsSegment (map (section_with_numbers (addend_in n) n.relocs) (enumerate_from i xs))
segments_from n i [] each = tt
segments_from n i (x ∷ xs) each = let own = each 0 x refl in (record { align = own.align; class = own.class }, segments_from n (i + 1) xs (λ k s h. each (suc k) s h))

-- the sections of an object that is ready for OMF can be segments
pub are_segments : (n : Object) → IsForOmf n → AllByRecursion IsSegment (sections_in n)
are_segments n is =
    segments_from n 0 n.sections (λ k s here.
    let m = is.meets.sections k s here in
    record { align = any_here (nat_eq s.align) omf_aligns m.exponent s.align m.align (eq-eqb s.align s.align refl); class = ap is_some m.classed })
