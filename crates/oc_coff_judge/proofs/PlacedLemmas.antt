-- The positions of sections, by their numbers.
use Rattle.std.proofs.Common.{◌≡◌, ℕ, suc, ◌+◌, ◌-◌, ◌<◌, ◌≤◌, Bool, true, false, cond, List, [], ◌∷◌, length, Option, None, Some, refl, sym, ◌∙◌, ap, subst, arith}
use Rattle.std.specs.{Prelude.{nat_eq, nat_le, slice_get, slice_index_or}, List.{AllByRecursion}, Option.{option_and_then, option_map}}
use Rattle.std.proofs.lemmas.{Bool.{eqb-true, ne_eqb}, Option.{none-some, same_Some}}
use Rattle.oc_linking.specs.declared.terms.Kind.{Kind}
use Rattle.oc_linking.specs.declared.terms.Value.TheVariants as value
use Rattle.oc_coff.specs.{declared.symbol.SymbolEntry.{SymbolEntry}, Symbols.{value_of}, declared.constants.TheConstants.{IMAGE_SYM_SECTION_MAX_EX}}
use Rattle.oc_coff.specs.Tables.{SectionTable, Tables}
use Rattle.oc_coff.specs.Sections.{Carried, carried_of, is_stored, kind_in, position_from, position_of, section_of, sections_in}
use Rattle.oc_linking.specs.Parts as parts
use Rattle.oc_shelf.specs.Reading.Slots.{AreSlots}
use Rattle.oc_shelf.proofs.{ReadingLaws.CollectedLemmas.{IsFrom, collected-all, collected-from}, ReadingLaws.SlotLemmas.{slot_anywhere}}
use Rattle.oc_coff_judge.specs.Led.{carried_at, section_at}
use Rattle.oc_coff_judge.proofs.CollectLemmas.{sections_are}

-- the number of a section is one more than its place
pub section_number : (t : Tables) (i : ℕ) (s : parts.Section) → section_at t i ≡ Some s → s.number ≡ i + 1
unfolding carried_at carried_of
section_number t i s is = by (slice_get t.sections i) is
  where
    by : (o : Option SectionTable) → option_map (λ (c : Carried). c.section) (option_and_then (λ (x : SectionTable). carried_of t (i + 1, x)) o) ≡ Some s → s.number ≡ i + 1
    by None h = absurd (none-some s h)
    by (Some x) h = kind (kind_in t.strings x.header) h
      where
        kind : (k : Option Kind)
            → option_map (λ (c : Carried). c.section) (option_map (λ kind. record { section = section_of t (i + 1) x kind; stored = is_stored (Some kind) x.header; relocs_at = x.relocs_at; relocs = x.relocs }) k) ≡ Some s
            → s.number ≡ i + 1
        kind None h = absurd (none-some s h)
        kind (Some k) h = sym (ap (λ (y : parts.Section). y.number) (same_Some (section_of t (i + 1) x k) s h))

numbers_low : (t : Tables) → AllByRecursion (λ (s : parts.Section). s.number ≤ length t.sections) (sections_in t)
numbers_low t =
    subst (AllByRecursion (λ (s : parts.Section). s.number ≤ length t.sections)) (sym (sections_are t))
    (collected-all (section_at t) (λ (s : parts.Section). s.number ≤ length t.sections) (length t.sections) (λ i s low is. let number = section_number t i s is in omega (arith, low, number)))

none_from : (n k : ℕ) → n < k → (i : ℕ) (xs : List parts.Section) → AllByRecursion (λ (s : parts.Section). s.number ≤ n) xs → position_from i xs k ≡ None
none_from n k past i [] all = refl
none_from n k past i (s ∷ xs) all =
    let first = all.0 in
    ap (λ b. cond b (Some i) (position_from (i + 1) xs k)) (ne_eqb s.number k (λ e. omega (arith, first, past, e))) ∙ none_from n k past (i + 1) xs all.1

-- no section has a number past the last
pub position_past : (t : Tables) (k : ℕ) → length t.sections + 1 ≤ k → position_of (sections_in t) k ≡ None
unfolding position_of
position_past t k past = by (nat_le k IMAGE_SYM_SECTION_MAX_EX)
  where
    by : (b : Bool) → cond b (position_from 0 (sections_in t) k) None ≡ None
    by true = none_from (length t.sections) k (omega (arith, past)) 0 (sections_in t) (numbers_low t)
    by false = refl

-- the slots have the position of any number
pub position_anywhere : (t : Tables) (slots : List (Option ℕ)) → AreSlots (position_of (sections_in t)) (length t.sections + 1) slots → (k : ℕ) → slice_index_or slots k None ≡ position_of (sections_in t) k
position_anywhere t slots are k = slot_anywhere (position_of (sections_in t)) (length t.sections + 1) slots are (λ j past. position_past t j past) k

-- the value of a symbol that is no number
value_by : (t : Tables) (s : SymbolEntry) (o : Option ℕ) → (s.SectionNumber ≡ 4294967295 → ⊥) → position_of (sections_in t) s.SectionNumber ≡ o → value_of (sections_in t) s ≡ option_map (λ k. value.Place k s.Value) o
unfolding value_of
value_by t s o other is =
    ap (λ b. cond b (Some (value.Absolute s.Value)) (option_map (λ k. value.Place k s.Value) (position_of (sections_in t) s.SectionNumber))) (ne_eqb s.SectionNumber 4294967295 other)
    ∙ ap (option_map (λ k. value.Place k s.Value)) is

pub value_some : (t : Tables) (s : SymbolEntry) → (s.SectionNumber ≡ 4294967295 → ⊥) → (k : ℕ) → position_of (sections_in t) s.SectionNumber ≡ Some k → Some (value.Place k s.Value) ≡ value_of (sections_in t) s
value_some t s other k is = sym (value_by t s (Some k) other is)

pub value_none : (t : Tables) (s : SymbolEntry) → (s.SectionNumber ≡ 4294967295 → ⊥) → position_of (sections_in t) s.SectionNumber ≡ None → None ≡ value_of (sections_in t) s
value_none t s other is = sym (value_by t s None other is)

-- the section at the position of a number
pub from_at : (i : ℕ) (xs : List parts.Section) (number k : ℕ) → position_from i xs number ≡ Some k → (s : parts.Section) × (slice_get xs (k - i) ≡ Some s) × (s.number ≡ number) × (i ≤ k)
from_at i [] number k is = absurd (none-some k is)
from_at i (x ∷ xs) number k is = by (nat_eq x.number number) refl is (from_at (i + 1) xs number k)
  where
    by : (b : Bool) → nat_eq x.number number ≡ b → cond b (Some i) (position_from (i + 1) xs number) ≡ Some k
        → (position_from (i + 1) xs number ≡ Some k → (s : parts.Section) × (slice_get xs (k - (i + 1)) ≡ Some s) × (s.number ≡ number) × (i + 1 ≤ k)) → (s : parts.Section) × (slice_get (x ∷ xs) (k - i) ≡ Some s) × (s.number ≡ number) × (i ≤ k)
    by true e g rest =
        let same : i ≡ k = same_Some i k g in
        let none : k - i ≡ 0 = omega (arith, same) in
        (x, ap (slice_get (x ∷ xs)) none, eqb-true x.number number e, omega (arith, same))
    by false e g rest =
        let m = rest g in
        let low = m.3 in
        let one : k - i ≡ suc (k - (i + 1)) = omega (arith, low) in
        (m.0, ap (slice_get (x ∷ xs)) one ∙ m.1, m.2, omega (arith, low))

pub section_from : (t : Tables) (k : ℕ) (s : parts.Section) → slice_get (sections_in t) k ≡ Some s → IsFrom (section_at t) (length t.sections) k s
section_from t k s there = collected-from (section_at t) (length t.sections) k s (sym (ap (λ (xs : List parts.Section). slice_get xs k) (sections_are t)) ∙ there)
