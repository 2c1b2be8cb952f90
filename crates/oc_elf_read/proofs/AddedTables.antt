-- What is given, table by table and entry by entry.
use Rattle.std.proofs.Common.{◌≡◌, ℕ, ◌+◌, ◌^◌, ◌<◌, ◌≤◌, inl, inr, Bool, true, false, cond, List, length, take, Option, None, Some, refl, sym, ◌∙◌, ap, subst, arith, get_or}
use Rattle.std.specs.{Prelude.{◌&&◌, nat_lt, slice_get, is_some}, List.Sorted.{IsPermutation}, Option.{option_map_or, option_and_then}}
use Rattle.std.proofs.lemmas.{Bool.{cases_eq, cases_lt, true≢false, and_parts}, Bool.Decides.{nat_tests}, Option.{same_Some}}
use Rattle.oc_linking.specs.{declared.terms.Keep.{Keep}, Keeping.{keeps}, Numbers.{first_upto}}
use Rattle.oc_linking.specs.Parts as parts
use Rattle.oc_neutral.specs.{declared.reloc.Reloc.{Reloc}, declared.elf.TheConstants.{SHT_NOBITS}, Building.{Draft}}
use Rattle.oc_shows.specs.Built.{HasAdded, IsStarted}
use Rattle.oc_shelf.specs.{declared.reading.order.PlacedEntry.{PlacedEntry}, Reading.Collected.{collected}, Reading.Order.{is_among}}
use Rattle.oc_shelf.proofs.{ReadingLaws.CollectedLemmas.{collected-at}, ReadingLaws.PlacedLemmas.{among_all, not_among}}
use Rattle.oc_elf.specs.{declared.rel.Rel.{Rel}, CarriedSections.{position_of, section_of, section_with, sections_of}, Elf.{elf_dialect}}
use Rattle.oc_elf.specs.{Fields.{is_idle, rel_at, width_of}, Frames.{FileFrame}, Laid.{IsFrame}, RelocRules.{entry_fault, is_kept_section}}
use Rattle.oc_elf.specs.{Sections.{contents_of, is_carried, is_type, kind_of}, Tables.{reloc_count, reloc_of, symbol_count}}
use Rattle.oc_elf_read.specs.{Built.{IsPlaced, symboled}, Given.{given_at, given_before, given_with, is_before, placed, reloc_by}}
use Rattle.oc_elf_read.proofs.{AddedRelocs.{Standing, addable}, ApartEntries.{differ_at, fit_at}, BuildLemmas.{length-contents, placed_at}}
use Rattle.oc_elf_read.proofs.CarriedLemmas.{IsHere, kind_here, number_here, section_here}
use Rattle.oc_elf_read.proofs.FoundFields.{IsClean, IsEntry, entries_clean, entry_found, entry_there}
use Rattle.oc_elf_read.proofs.{PlacedEntries.{IsPlacedEntry, differ, placed_at as entry_placed, placed_some}, StandingFields.{given_standing, stands}}
use Rattle.oc_elf_judge.proofs.{PlaceLemmas.{section_some}, RelocLemmas.{IsGood, field_inside, nameable_there}, SectionLemmas.{here}}
use Rattle.oc_shows.proofs.AddedLaws.{IsTaken, entry_taken, lt_next, lt_self, lt_stays, table_done as all_done}

-- the first entry at the offset of an entry is that entry
rel_is : (f : FileFrame) (i k : ℕ) → first_upto (entry_fault f i) (reloc_count f i) ≡ None → k < reloc_count f i → is_idle (reloc_of f i k) ≡ false → rel_at f i (reloc_of f i k).r_offset ≡ Some (reloc_of f i k)
rel_is f i k clean low busy = by (rel_at f i (reloc_of f i k).r_offset) refl
  where
    by : (o : Option Rel) → rel_at f i (reloc_of f i k).r_offset ≡ o → o ≡ Some (reloc_of f i k)
    by None e = absurd (true≢false (sym (entry_there f i k low busy) ∙ ap (λ (o : Option Rel). is_some o) e))
    by (Some r) e = of (entry_found f i (reloc_of f i k).r_offset r e)
      where
        of : IsEntry f i (reloc_of f i k).r_offset r → Some r ≡ Some (reloc_of f i k)
        of m = elim (cases_eq m.k k) [
          | inl same ↦ ap Some (sym m.is ∙ ap (reloc_of f i) same)
          | inr other ↦ absurd (apart other)
        ]
          where
            offset : (reloc_of f i m.k).r_offset ≡ (reloc_of f i k).r_offset
            offset = ap (λ (q : Rel). q.r_offset) m.is ∙ m.offset

            apart : (m.k ≡ k → ⊥) → ⊥
            apart other = elim (cases_lt m.k k) [
              | inl before ↦ differ_at f i clean m.k k before low m.busy busy offset
              | inr later ↦ differ_at f i clean k m.k (let below = m.below in ne_lt m.k k later other) m.below busy m.busy (sym offset)
            ]
              where
                ne_lt : (a b : ℕ) → b ≤ a → (a ≡ b → ⊥) → b < a
                ne_lt a b le ne = elim (cases_eq a b) [ inl same ↦ absurd (ne same) | inr other ↦ omega (arith, le, other) ]

-- the section at the position of section i
at_position : (f : FileFrame) (i p : ℕ) → i < length f.headers → is_carried (here f i) ≡ true → position_of f i ≡ Some p → slice_get (sections_of f) p ≡ Some (section_with f i (here f i))
at_position f i p low carried position =
    subst (λ (q : ℕ). slice_get (sections_of f) q ≡ Some (section_with f i (here f i)))
    (same_Some (length (collected (section_of f) i)) p (sym (ap (λ (o : Option parts.Section). cond (is_some o) (Some (length (collected (section_of f) i))) None) (section_some f i carried)) ∙ position))
    (collected-at (section_of f) i (length f.headers) (section_with f i (here f i)) (section_some f i carried) low)

number_of : (f : FileFrame) (i : ℕ) → (section_with f i (here f i)).number ≡ i
unfolding section_with
number_of f i = refl

kind_of_it : (f : FileFrame) (i : ℕ) → (section_with f i (here f i)).kind ≡ kind_of f (here f i)
unfolding section_with
kind_of_it f i = refl

contents_of_it : (f : FileFrame) (i : ℕ) → (section_with f i (here f i)).contents ≡ contents_of f (here f i)
unfolding section_with
contents_of_it f i = refl

kept_parts : (f : FileFrame) (keep : Keep) (i : ℕ) → is_kept_section f keep i ≡ true → (is_carried (here f i) ≡ true) × (keeps keep (kind_of f (here f i)) ≡ true)
kept_parts f keep i kept = and_parts (is_carried (here f i)) (keeps keep (kind_of f (here f i))) kept

-- a section that is kept has a position
pub kept_position : (f : FileFrame) (keep : Keep) (i : ℕ) → is_kept_section f keep i ≡ true → is_some (position_of f i) ≡ true
kept_position f keep i kept =
    ap (λ (o : Option parts.Section). is_some (cond (is_some o) (Some (length (collected (section_of f) i))) None)) (section_some f i (kept_parts f keep i kept).0)

-- ... sections

module _ (f : FileFrame) (keep : Keep) (frame : IsFrame f) where
  -- nothing is given for no sections
  pub given_none : (t x : ℕ) → given_before f keep 0 t x ≡ None
  unfolding given_at
  given_none t x = by (slice_get (sections_of f) t)
    where
      by : (o : Option parts.Section) → cond (option_map_or (λ (y : parts.Section). nat_lt y.number 0) o true)
          (option_and_then (λ (y : parts.Section). cond (keeps keep y.kind) (option_and_then (reloc_by f y.contents) (rel_at f y.number x)) None) o) None ≡ None
      by None = refl
      by (Some y) = ap (λ b. cond b (cond (keeps keep y.kind) (option_and_then (reloc_by f y.contents) (rel_at f y.number x)) None) None) (low y.number)
        where
          low : (n : ℕ) → nat_lt n 0 ≡ false
          low n = grind (arith, nat_tests)

  -- for all sections all is given
  pub given_all : (t x : ℕ) → given_before f keep (length f.headers) t x ≡ given_at f keep t x
  given_all t x = by (slice_get (sections_of f) t) refl
    where
      by : (o : Option parts.Section) → slice_get (sections_of f) t ≡ o → cond (option_map_or (λ (y : parts.Section). nat_lt y.number (length f.headers)) o true) (given_at f keep t x) None ≡ given_at f keep t x
      by None e = refl
      by (Some y) e =
          let m : IsHere f t y = section_here f t y e in
          ap (λ b. cond b (given_at f keep t x) None) (ap (λ (n : ℕ). nat_lt n (length f.headers)) (number_here f t y m) ∙ below m.k (length f.headers) m.low)
        where
          below : (a b : ℕ) → a < b → nat_lt a b ≡ true
          below a b l = grind (arith, nat_tests)

  -- a section that is left out is given nothing
  pub given_left : (i : ℕ) → is_kept_section f keep i ≡ false → (t x : ℕ) → given_before f keep i t x ≡ given_before f keep (i + 1) t x
  unfolding given_at
  given_left i left t x = by (slice_get (sections_of f) t) refl
    where
      by : (o : Option parts.Section) → slice_get (sections_of f) t ≡ o
          → cond (option_map_or (λ (y : parts.Section). nat_lt y.number i) o true)
          (option_and_then (λ (y : parts.Section). cond (keeps keep y.kind) (option_and_then (reloc_by f y.contents) (rel_at f y.number x)) None) o) None
          ≡ cond (option_map_or (λ (y : parts.Section). nat_lt y.number (i + 1)) o true)
          (option_and_then (λ (y : parts.Section). cond (keeps keep y.kind) (option_and_then (reloc_by f y.contents) (rel_at f y.number x)) None) o) None
      by None e = refl
      by (Some y) e = elim (cases_eq y.number i) [
        | inl same ↦ both (nat_lt y.number i) (nat_lt y.number (i + 1)) (keeps keep y.kind) (unkept same)
        | inr other ↦ ap (λ b. cond b (cond (keeps keep y.kind) (option_and_then (reloc_by f y.contents) (rel_at f y.number x)) None) None) (sym (lt_stays y.number i other))
      ]
        where
          m : IsHere f t y
          m = section_here f t y e

          unkept : y.number ≡ i → keeps keep y.kind ≡ false
          unkept same =
              let k : m.k ≡ i = sym (number_here f t y m) ∙ same in
              ap (keeps keep) (kind_here f t y m)
              ∙ sym (ap (λ b. b && keeps keep (kind_of f (here f m.k))) m.carried)
              ∙ ap (λ (j : ℕ). is_kept_section f keep j) k ∙ left

          both : (a b c : Bool) → c ≡ false → cond a (cond c (option_and_then (reloc_by f y.contents) (rel_at f y.number x)) None) None ≡ cond b (cond c (option_and_then (reloc_by f y.contents) (rel_at f y.number x)) None) None
          both a b c e = grind arith

-- ... entries

module _ (f : FileFrame) (keep : Keep) (frame : IsFrame f) (clean : IsClean f keep) (started : IsStarted (elf_dialect f.class) f.file keep (symboled f (symbol_count f)))
    (i p : ℕ) (low : i < length f.headers) (kept : is_kept_section f keep i ≡ true) (position : position_of f i ≡ Some p) where
  entries_are : first_upto (entry_fault f i) (reloc_count f i) ≡ None
  entries_are = entries_clean f keep i clean.relocs low kept

  there : slice_get (sections_of f) p ≡ Some (section_with f i (here f i))
  there = at_position f i p low (kept_parts f keep i kept).0 position

  number_at : is_before f i p ≡ false
  number_at = ap (λ (o : Option parts.Section). option_map_or (λ (y : parts.Section). nat_lt y.number i) o true) there ∙ ap (λ (n : ℕ). nat_lt n i) (number_of f i) ∙ lt_self i

  passed_at : is_before f (i + 1) p ≡ true
  passed_at = ap (λ (o : Option parts.Section). option_map_or (λ (y : parts.Section). nat_lt y.number (i + 1)) o true) there ∙ ap (λ (n : ℕ). nat_lt n (i + 1)) (number_of f i) ∙ lt_next i

  -- another position has another number
  other_number : (t : ℕ) (y : parts.Section) → slice_get (sections_of f) t ≡ Some y → (t ≡ p → ⊥) → y.number ≡ i → ⊥
  other_number t y e other same =
      let m : IsHere f t y = section_here f t y e in
      let k : m.k ≡ i = sym (number_here f t y m) ∙ same in
      other (same_Some t p (sym m.at ∙ ap (position_of f) k ∙ position))

  others_stay : (t : ℕ) → (t ≡ p → ⊥) → is_before f (i + 1) t ≡ is_before f i t
  others_stay t other = by (slice_get (sections_of f) t) refl
    where
      by : (o : Option parts.Section) → slice_get (sections_of f) t ≡ o → option_map_or (λ (y : parts.Section). nat_lt y.number (i + 1)) o true ≡ option_map_or (λ (y : parts.Section). nat_lt y.number i) o true
      by None e = refl
      by (Some y) e = lt_stays y.number i (other_number t y e other)

  -- an entry stands at its offset
  pub record IsNext (k : ℕ) : Type 0 where
    pub standing : Standing f keep frame clean started p (reloc_of f i k).r_offset
    pub is : reloc_by f (contents_of f (here f i)) (reloc_of f i k) ≡ Some standing.meant.reloc
    pub lies : (here f i).sh_offset + (here f i).sh_size ≤ length f.file
    pub stored : is_type SHT_NOBITS (here f i) ≡ false
    pub named : (reloc_of f i k).r_sym < symbol_count f
    pub inside : (reloc_of f i k).r_offset + width_of f (reloc_of f i k) ≤ length (contents_of f (here f i))
    pub small : (reloc_of f i k).r_offset < 2 ^ 32

  pub next_at : (k : ℕ) → k < reloc_count f i → is_idle (reloc_of f i k) ≡ false → IsNext k
  next_at k below busy = record {
    standing = m;
    is = ap (λ (xs : List ℕ). reloc_by f xs (reloc_of f i k)) (sym (ap (λ (y : parts.Section). y.contents) section ∙ contents_of_it f i)) ∙ ap (reloc_by f m.x.contents) (sym same ∙ ap (λ (q : ℕ). reloc_of f q m.k) (sym number)) ∙ m.meant.there;
    lies = placed.lies good.stored;
    stored = good.stored;
    named = nameable_there f (reloc_of f i k).r_sym good.nameable;
    inside = let ends = field_inside f i (reloc_of f i k) good in let long = length-contents f (here f i) placed in omega (arith, ends, long);
    small = let ends = field_inside f i (reloc_of f i k) good in let size = placed.size in omega (arith, ends, size);
  }
    where
      carried : is_carried (here f i) ≡ true
      carried = (kept_parts f keep i kept).0

      placed : IsPlaced f (here f i)
      placed = placed_at f frame clean.sections i low carried

      good : IsGood f i (reloc_of f i k)
      good = (fit_at f i entries_are k below busy).good

      x : parts.Section
      x = section_with f i (here f i)

      rel : rel_at f x.number (reloc_of f i k).r_offset ≡ Some (reloc_of f i k)
      rel = ap (λ (j : ℕ). rel_at f j (reloc_of f i k).r_offset) (number_of f i) ∙ rel_is f i k entries_are below busy

      kept_it : keeps keep x.kind ≡ true
      kept_it = ap (keeps keep) (kind_of_it f i) ∙ (kept_parts f keep i kept).1

      m : Standing f keep frame clean started p (reloc_of f i k).r_offset
      m = stands f keep frame clean (symboled f (symbol_count f)).object started.symbols p (reloc_of f i k).r_offset x (reloc_of f i k) there kept_it rel

      section : m.x ≡ x
      section = same_Some m.x x (sym m.there ∙ there)

      number : m.x.number ≡ i
      number = ap (λ (y : parts.Section). y.number) section ∙ number_of f i

      same : reloc_of f i m.k ≡ reloc_of f i k
      same =
          let lower : m.k < reloc_count f i = subst (λ (q : ℕ). m.k < reloc_count f q) number m.below in
          let busier : is_idle (reloc_of f i m.k) ≡ false = subst (λ (q : ℕ). is_idle (reloc_of f q m.k) ≡ false) number m.busy in
          let offset : (reloc_of f i m.k).r_offset ≡ (reloc_of f i k).r_offset = subst (λ (q : ℕ). (reloc_of f q m.k).r_offset ≡ (reloc_of f i k).r_offset) number m.offset in
          same_Some (reloc_of f i m.k) (reloc_of f i k) (sym (rel_is f i m.k entries_are lower busier) ∙ ap (rel_at f i) offset ∙ rel_is f i k entries_are below busy)

  module _ (entries : List PlacedEntry) (are : IsPermutation (collected (placed f i) (reloc_count f i)) entries) where
    -- entry j stands at its offset
    pub next_of : (j : ℕ) (e : PlacedEntry) → j < length entries → IsNext (get_or entries j e).index
    next_of j e below = let is : IsPlacedEntry f i (get_or entries j e) = entry_placed f i entries are j e below in next_at (get_or entries j e).index is.low is.busy

    -- its relocation, as it was read, is added
    pub ready : (j : ℕ) (e : PlacedEntry) → j < length entries → (d : Draft) → HasAdded (symboled f (symbol_count f)) d (given_with f keep i p (take j entries)) → (r : Rel) → r ≡ reloc_of f i (get_or entries j e).index
        → (o : Reloc) → reloc_by f (contents_of f (here f i)) r ≡ Some o → IsTaken (symboled f (symbol_count f)) d p r.r_offset o (given_with f keep i p (take (j + 1) entries))
    ready j e below d has r read o made =
        let is : IsPlacedEntry f i (get_or entries j e) = entry_placed f i entries are j e below in
        let n : IsNext (get_or entries j e).index = next_of j e below in
        let same : n.standing.meant.reloc ≡ o = same_Some n.standing.meant.reloc o (sym n.is ∙ ap (reloc_by f (contents_of f (here f i))) (sym read) ∙ made) in
        entry_taken (symboled f (symbol_count f)) (given_at f keep) (addable f keep frame clean started) (is_before f i) p number_at entries j e below
        (not_among (placed f i) (reloc_count f i) entries are (differ f i entries_are) j e below) d has r.r_offset (ap (λ (q : Rel). q.r_offset) read ∙ is.place) o
        (ap (λ (q : Rel). given_at f keep p q.r_offset) read ∙ n.standing.given ∙ ap Some same)

    -- with all entries the section is done
    pub table_done : (t x : ℕ) → given_with f keep i p (take (length entries) entries) t x ≡ given_before f keep (i + 1) t x
    table_done = all_done (given_at f keep) (is_before f i) (is_before f (i + 1)) p others_stay passed_at entries among
      where
        among : (x : ℕ) (r : Reloc) → given_at f keep p x ≡ Some r → is_among entries x ≡ true
        among x r e =
            let m : Standing f keep frame clean started p x = given_standing f keep frame clean (symboled f (symbol_count f)).object started.symbols p x r e in
            let section : m.x ≡ section_with f i (here f i) = same_Some m.x (section_with f i (here f i)) (sym m.there ∙ there) in
            let number : m.x.number ≡ i = ap (λ (y : parts.Section). y.number) section ∙ number_of f i in
            let offset : (reloc_of f i m.k).r_offset ≡ x = subst (λ (q : ℕ). (reloc_of f q m.k).r_offset ≡ x) number m.offset in
            sym (ap (is_among entries) offset)
            ∙ among_all (placed f i) (reloc_count f i) entries are m.k (record { place = (reloc_of f i m.k).r_offset; index = m.k }) (subst (λ (q : ℕ). m.k < reloc_count f q) number m.below)
            (placed_some f i m.k (subst (λ (q : ℕ). is_idle (reloc_of f q m.k) ≡ false) number m.busy))
