-- What is given, section by section and field by field.
use Rattle.std.proofs.Common.{Bool, List, None, Option, Some, [], ap, arith, cond, false, get_or, inl, inr, length, nat_eq, nat_lt, refl, slice_get, subst, suc, sym, take, true, true≢false, zero, ℕ, ◌&&◌, ◌+◌, ◌<◌, ◌^◌, ◌||◌, ◌∙◌, ◌≡◌, ◌≤◌}
use Rattle.std.proofs.lemmas.{Bool.Decides.{nat_tests}, Bool.{cases_eq, cases_lt}, Option.{none-some, same_Some, slice_get_past}}
use Rattle.std.specs.{List.Sorted.{IsPermutation}, Option.{option_and_then, option_map}, Prelude.{IsSome}}
use Rattle.oc_base.specs.declared.format.Word.{Word}
use Rattle.oc_linking.specs.{FirstFault.{first_fault}, declared.terms.Keep.{Keep}}
use Rattle.oc_macho_judge.proofs.SectionLemmas.{there}
use Rattle.oc_macho.specs.{Entries.{begins, item_at}, Fields.{FieldParts, item_for, number_of}, Framed.{IsTable, table_at}, Rules.{mach_dialect}}
use Rattle.oc_macho.specs.{Sections.{is_kept}, Tables.{SectionTable, Tables, tables_of}, declared.entries.Item.{Item}}
use Rattle.oc_macho.specs.declared.section_header.SectionHeader.{SectionHeader}
use Rattle.oc_macho_read.proofs.ItemLemmas.{IsGoodItem, are_aimed, found_as, found_is, good_item, items_apart}
use Rattle.oc_macho_read.proofs.PlacedLemmas.{Differ, IsPlacedItem, differ_placed, entry_placed, item_begins, offset_among}
use Rattle.oc_macho_read.proofs.{StandingLemmas.{IsItemAt, item_found, item_none}, AddedLemmas.{addable}}
use Rattle.oc_macho_read.specs.{Adding.{IsClean, IsReady}, Built.{started}}
use Rattle.oc_macho_read.specs.Given.{AreAimed, given_at, given_before, given_with, placed, reloc_as, reloc_by, reloc_in}
use Rattle.oc_neutral.specs.{Building.{Draft}, declared.reloc.Reloc.{Reloc}}
use Rattle.oc_shows.specs.Built.{HasAdded, IsStarted}
use Rattle.oc_shelf.specs.{Reading.Collected.{collected}, declared.reading.order.PlacedEntry.{PlacedEntry}, Reading.Order.{is_among}}
use Rattle.oc_macho.specs.RelocationFaults as faults
use Rattle.oc_shows.proofs.AddedLaws.{IsTaken, entry_taken, given_all as all_given, given_passed, lt_next, lt_self, lt_stays, table_done as section_done}
use Rattle.oc_shelf.proofs.ReadingLaws.PlacedLemmas.{not_among}

-- ... sections

module _ (t : Tables) (keep : Keep) where
  -- nothing is given for no sections
  pub given_none : (s at : ℕ) → given_before t keep 0 s at ≡ None
  given_none s at = ap (λ b. cond b (given_at t keep s at) None) (low s)
    where
      low : (n : ℕ) → nat_lt n 0 ≡ false
      low n = grind (arith, nat_tests)

  -- past the last section nothing is given
  past_none : (s at : ℕ) → length t.sections ≤ s → given_at t keep s at ≡ None
  unfolding given_at
  past_none s at past = ap (option_and_then (λ (c : SectionTable). cond (is_kept keep c) (reloc_in t keep s at c) None)) (slice_get_past t.sections s past)

  -- for all sections all is given
  pub given_all : (p : ℕ) → length t.sections ≤ p → (s at : ℕ) → given_before t keep p s at ≡ given_at t keep s at
  given_all p all = all_given (given_at t keep) p (λ s at past. past_none s at (omega (arith, past, all)))

  -- a section that is left out is given nothing
  pub given_left : (p : ℕ) (c : SectionTable) → slice_get t.sections p ≡ Some c → is_kept keep c ≡ false → (s at : ℕ) → given_before t keep p s at ≡ given_before t keep (p + 1) s at
  unfolding given_at
  given_left p c here left =
      given_passed (given_at t keep) (λ s. nat_lt s p) (λ s. nat_lt s (p + 1)) p (λ s other. lt_stays s p other)
      (λ at. ap (option_and_then (λ (c : SectionTable). cond (is_kept keep c) (reloc_in t keep p at c) None)) here ∙ ap (λ b. cond b (reloc_in t keep p at c) None) left)

  -- before the first field
  pub given_first : (p s at : ℕ) → given_before t keep p s at ≡ given_with t keep p [] s at
  given_first p s at = by (nat_lt s p) (nat_eq s p)
    where
      by : (a b : Bool) → cond a (given_at t keep s at) None ≡ cond (a || b && false) (given_at t keep s at) None
      by a b = grind arith

-- ... fields of a section

positive : (n : ℕ) → 1 ≤ 2 ^ n
positive zero = omega arith
positive (suc n) = let rest = positive n in omega (arith, rest)

module _ (t : Tables) (keep : Keep) (clean : first_fault (faults.relocation_stages t keep) ≡ None) (p : ℕ) (c : SectionTable) (here : slice_get t.sections p ≡ Some c) (kept : is_kept keep c ≡ true) where
  pub differ : Differ t c
  differ a b x y less low at_a at_b same =
      let good = good_item t keep clean p c here kept b y low at_b in
      true≢false (sym (met x.first.r_address y.first.r_address (2 ^ x.first.r_length) (2 ^ y.first.r_length) same (positive x.first.r_length) (positive y.first.r_length))
      ∙ items_apart t p c a b x y good at_a less)
    where
      met : (x y m n : ℕ) → x ≡ y → 1 ≤ m → 1 ≤ n → (nat_lt y (x + m) && nat_lt x (y + n)) ≡ true
      met x y m n e f g = both (nat_lt y (x + m)) (nat_lt x (y + n)) (below y (x + m) (omega (arith, e, f))) (below x (y + n) (omega (arith, e, g)))
        where
          below : (a b : ℕ) → a < b → nat_lt a b ≡ true
          below a b l = grind (arith, nat_tests)

          both : (a b : Bool) → a ≡ true → b ≡ true → (a && b) ≡ true
          both a b e f = grind arith

  -- the field that begins with an entry is the first at its offset
  pub item_first : (k : ℕ) (item : Item) → k < length c.relocs → item_at t.word c.relocs k ≡ Some item → item_for t c item.first.r_address ≡ Some item
  item_first k item low is = by (item_for t c item.first.r_address) refl
    where
      by : (o : Option Item) → item_for t c item.first.r_address ≡ o → o ≡ Some item
      by None e = absurd (item_none t c item.first.r_address k item e low is refl)
      by (Some other) e = of (item_found t c item.first.r_address other e)
        where
          of : IsItemAt t c item.first.r_address other → Some other ≡ Some item
          of m = elim (cases_eq m.k k) [
            | inl same ↦ sym m.is ∙ ap (item_at t.word c.relocs) same ∙ is
            | inr ne ↦ elim (cases_lt m.k k) [
              | inl before ↦ absurd (differ m.k k other item before low m.is is m.offset)
              | inr past ↦ absurd (differ k m.k item other (omega (arith, past, ne)) m.low is m.is (sym m.offset))
            ]
          ]

  -- its relocation is what is given there
  pub item_given : (k : ℕ) (item : Item) (o : Reloc) → k < length c.relocs → item_at t.word c.relocs k ≡ Some item → reloc_by t keep p c item ≡ Some o → given_at t keep p item.first.r_address ≡ Some o
  unfolding given_at
  item_given k item o low is made =
      ap (option_and_then (λ (c : SectionTable). cond (is_kept keep c) (reloc_in t keep p item.first.r_address c) None)) here
      ∙ ap (λ b. cond b (reloc_in t keep p item.first.r_address c) None) kept
      ∙ ap (option_and_then (reloc_by t keep p c)) (item_first k item low is) ∙ made

  -- and it is made
  pub item_made : (k : ℕ) (item : Item) → k < length c.relocs → item_at t.word c.relocs k ≡ Some item → (o : Reloc) × (reloc_by t keep p c item ≡ Some o)
  unfolding reloc_by
  item_made k item low is =
      let good = good_item t keep clean p c here kept k item low is in
      let x = found_as t p c k item good in (
        reloc_as t keep p item.first.r_address (number_of c item.first.r_address x) item x,
        ap (option_map (λ (x : FieldParts). reloc_as t keep p item.first.r_address (number_of c item.first.r_address x) item x)) (found_is t p c k item good),
      )

  -- what is given there is that of a field
  item_of_given : (at : ℕ) (r : Reloc) → given_at t keep p at ≡ Some r → (item : Item) × IsItemAt t c at item
  unfolding given_at
  item_of_given at r e =
      by (item_for t c at) refl
      (sym (ap (option_and_then (λ (c : SectionTable). cond (is_kept keep c) (reloc_in t keep p at c) None)) here ∙ ap (λ b. cond b (reloc_in t keep p at c) None) kept) ∙ e)
    where
      by : (o : Option Item) → item_for t c at ≡ o → option_and_then (reloc_by t keep p c) o ≡ Some r → (item : Item) × IsItemAt t c at item
      by None g h = absurd (none-some r h)
      by (Some item) g h = (item, item_found t c at item g)

  module _ (entries : List PlacedEntry) (are : IsPermutation (collected (placed t c) (length c.relocs)) entries) where
    -- with all fields the section is done
    pub table_done : (s at : ℕ) → given_with t keep p (take (length entries) entries) s at ≡ given_before t keep (p + 1) s at
    table_done = section_done (given_at t keep) (λ s. nat_lt s p) (λ s. nat_lt s (p + 1)) p (λ s other. lt_stays s p other) (lt_next p) entries among
      where
        among : (at : ℕ) (r : Reloc) → given_at t keep p at ≡ Some r → is_among entries at ≡ true
        among at r e = by (item_of_given at r e)
          where
            by : (item : Item) × IsItemAt t c at item → is_among entries at ≡ true
            by n = sym (ap (is_among entries) n.1.offset) ∙ offset_among t c entries are n.1.k n.0 n.1.low n.1.is

-- ... a field more

-- its relocation is added
abbrev Next : Keep → Tables → Type 0
Next keep u =
    (p : ℕ) (c : SectionTable) → slice_get u.sections p ≡ Some c → is_kept keep c ≡ true → (entries : List PlacedEntry) → IsPermutation (collected (placed u c) (length c.relocs)) entries
    → (j : ℕ) (e : PlacedEntry) → j < length entries → (d : Draft) → HasAdded (started u keep) d (given_with u keep p (take j entries))
    → (item : Item) → item_at u.word c.relocs (get_or entries j e).index ≡ Some item → (r : Reloc) → reloc_by u keep p c item ≡ Some r → IsTaken (started u keep) d p item.first.r_address r (given_with u keep p (take (j + 1) entries))

next_in : (w : Word) (file : List ℕ) (keep : Keep) (clean : IsClean (tables_of w file) keep) → IsStarted (mach_dialect w) file keep (started (tables_of w file) keep) → Next keep (tables_of w file)
next_in w file keep clean start p c here kept entries are j e below d added item is r made =
    let t = tables_of w file in
    let m = entry_placed t c entries are j e below in
    let same : m.item ≡ item = same_Some m.item item (sym m.is ∙ is) in
    entry_taken (started t keep) (given_at t keep) (addable w file keep clean start) (λ s. nat_lt s p) p (lt_self p) entries j e below
    (not_among (placed t c) (length c.relocs) entries are (differ_placed t c (differ t keep clean.relocs p c here kept)) j e below) d added
    item.first.r_address (sym (ap (λ (i : Item). i.first.r_address) same) ∙ m.place) r (item_given t keep clean.relocs p c here kept (get_or entries j e).index item r m.low is made)

pub ready_next : (t : Tables) (keep : Keep) (positions : List (Option ℕ)) → IsReady t keep positions → Next keep t
ready_next t keep positions ready =
    subst (Next keep) (sym ready.tables)
    (next_in ready.word ready.file keep (subst (λ (u : Tables). IsClean u keep) ready.tables ready.clean)
    (subst (λ (u : Tables). IsStarted (mach_dialect ready.word) ready.file keep (started u keep)) ready.tables ready.start))

-- ... in the words of what adds it

module _ (t : Tables) (keep : Keep) (positions : List (Option ℕ)) (ready : IsReady t keep positions) (i : ℕ) (h : SectionHeader) (table : IsTable t i h) (kept : is_kept keep (table_at t i) ≡ true)
    (entries : List PlacedEntry) (are : IsPermutation (collected (placed t (table_at t i)) h.nreloc) entries) where
  abbrev c : SectionTable
  c = table_at t i

  listed : IsPermutation (collected (placed t c) (length c.relocs)) entries
  listed = subst (λ (n : ℕ). IsPermutation (collected (placed t c) n) entries) (sym table.long) are

  here : slice_get t.sections i ≡ Some c
  here = there t i table.there

  pub all_done : (n : ℕ) → n ≡ length entries → (s at : ℕ) → given_with t keep i (take n entries) s at ≡ given_before t keep (i + 1) s at
  all_done n end s at = ap (λ (m : ℕ). given_with t keep i (take m entries) s at) end ∙ table_done t keep ready.clean.relocs i c here kept entries listed s at

  module _ (j : ℕ) (e : PlacedEntry) (below : j < length entries) where
    placed_here : IsPlacedItem t c (get_or entries j e)
    placed_here = entry_placed t c entries listed j e below

    pub index_low : (get_or entries j e).index < h.nreloc
    index_low = let low = placed_here.low in let long = table.long in omega (arith, low, long)

    pub index_begins : begins t.word c.relocs (get_or entries j e).index ≡ true
    index_begins = item_begins t.word c.relocs (get_or entries j e).index placed_here.item placed_here.is

    module _ (item : Item) (is : item_at t.word c.relocs (get_or entries j e).index ≡ Some item) where
      good_here : IsGoodItem t i c (get_or entries j e).index item
      good_here = good_item t keep ready.clean.relocs i c here kept (get_or entries j e).index item placed_here.low is

      pub item_aimed : AreAimed t item
      item_aimed = are_aimed t i c (get_or entries j e).index item good_here

      pub item_inside : faults.is_outside h item ≡ false
      item_inside = ap (λ (g : SectionHeader). faults.is_outside g item) table.is ∙ good_here.outside

      pub item_some : (o : Option Reloc) → o ≡ reloc_by t keep i c item → IsSome o
      item_some o same =
          let m = item_made t keep ready.clean.relocs i c here kept (get_or entries j e).index item placed_here.low is in
          subst (λ (x : Option Reloc). IsSome x) (sym (same ∙ m.1)) refl

      pub item_next : (d : Draft) → HasAdded (started t keep) d (given_with t keep i (take j entries)) → (r : Reloc) → reloc_by t keep i c item ≡ Some r → IsTaken (started t keep) d i item.first.r_address r (given_with t keep i (take (j + 1) entries))
      item_next d added r made = ready_next t keep positions ready i c here kept entries listed j e below d added item is r made
