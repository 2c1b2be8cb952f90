-- The fields of a section, judged one after the other.
use Rattle.std.proofs.Common.{◌≡◌, ℕ, ◌+◌, ◌*◌, ◌<◌, ◌≤◌, Bool, true, false, cond, List, [], Option, None, Some, refl, sym, ◌∙◌, ap, subst, arith}
use Rattle.std.specs.{Prelude.{◌||◌, length, nat_lt, slice_get}, Option.{option_map, option_map_or}}
use Rattle.std.proofs.lemmas.{Bool.{true≢false}, Bool.Decides.{nat_tests}}
use Rattle.oc_base.specs.declared.format.Word.{Word}
use Rattle.oc_linking.specs.{FirstFault.{first_broken}, Numbers.{first_upto, or_else}}
use Rattle.oc_shelf.specs.Reading.Bitmaps.{has, is_between, room}
use Rattle.oc_shelf.proofs.{ReadingLaws.BitmapLemmas.{bytes_more, bytes_none, bytes_same}, ReadingLaws.StageLemmas.{all_hold, broken_of_three}}
use Rattle.oc_macho.specs.{declared.entries.Item.{Item}, Tables.{SectionTable, Tables}}
use Rattle.oc_macho.specs.RelocationFaults.{entry_conditions, form_conditions, is_outside, item_conditions, last_conditions, refers_wrongly, span_at, span_of, stored_size, target_conditions}
use Rattle.oc_macho.specs.{Sections.{is_zerofill}, declared.relocation_info.RelocationInfo.{RelocationInfo}, Entries.{begins, is_first, item_at, item_with}}
use Rattle.oc_macho_judge.specs.Judged.{AreTaken, entry_fault}

-- the entries of the field that begins with an entry
pub item_there : (w : Word) (entries : List RelocationInfo) (k : ℕ) (e : RelocationInfo) → begins w entries k ≡ true → slice_get entries k ≡ Some e
    → item_at w entries k ≡ Some (item_with w entries k e)
unfolding item_at
item_there w entries k e is here =
    ap (λ (b : Bool). cond b (option_map (item_with w entries k) (slice_get entries k)) None) is ∙ ap (option_map (item_with w entries k)) here

-- the same, where it is known whether that is the first of a pair
pub item_is : (w : Word) (entries : List RelocationInfo) (k : ℕ) (e : RelocationInfo) (b : Bool) → begins w entries k ≡ true → slice_get entries k ≡ Some e → b ≡ is_first w e
    → item_at w entries k ≡ Some (record { first = e; second = cond b (slice_get entries (k + 1)) None })
item_is w entries k e b is here first =
    item_there w entries k e is here ∙ ap (λ (b : Bool). Some (record { first = e; second = cond b (slice_get entries (k + 1)) None })) (sym first)

-- ... the bytes of fields

pub taken_none : (t : Tables) (x : SectionTable) (words : List ℕ) → ((q : ℕ) → has words q ≡ false) → stored_size x.header ≤ room words → AreTaken t x 0 words
taken_none t x words none enough = record { fields = bytes_none (span_at t x) words none; room = enough }

pub taken_same : (t : Tables) (x : SectionTable) (k : ℕ) (words : List ℕ) → AreTaken t x k words → span_at t x k ≡ None → AreTaken t x (k + 1) words
taken_same t x k words are none = record { fields = bytes_same (span_at t x) k words are.fields none; room = are.room }

pub taken_more : (t : Tables) (x : SectionTable) (k begin end : ℕ) (old new : List ℕ) → AreTaken t x k old → span_at t x k ≡ Some (begin, end) → begin < end → length new ≡ length old
    → ((q : ℕ) → has new q ≡ (is_between begin end q || has old q)) → AreTaken t x (k + 1) new
taken_more t x k begin end old new are is some long taken = record {
  fields = bytes_more (span_at t x) k begin end old new are.fields is some taken;
  room = subst (λ n. stored_size x.header ≤ 64 * n) (sym long) are.room;
}

-- a field that lies in bytes of the section ends in the room
pub field_in_room : (t : Tables) (x : SectionTable) (k : ℕ) (words : List ℕ) (item : Item) → AreTaken t x k words → is_outside x.header item ≡ false → (span_of item).1 ≤ room words
field_in_room t x k words item are inside = by (is_zerofill x.header) refl inside
  where
    by : (b : Bool) → is_zerofill x.header ≡ b → (b || nat_lt x.header.size (span_of item).1) ≡ false → (span_of item).1 ≤ room words
    by true e h = absurd (true≢false h)
    by false e h =
        let size : stored_size x.header ≡ x.header.size = ap (λ b. cond b 0 x.header.size) e in
        let enough = are.room in
        let low : (span_of item).1 ≤ x.header.size = past (span_of item).1 x.header.size h in
        omega (arith, low, size, enough)
      where
        past : (a size : ℕ) → nat_lt size a ≡ false → a ≤ size
        past a size h = grind (arith, nat_tests)

-- ... faults

-- no field begins with an entry
pub idle_clean : (t : Tables) (i : ℕ) (x : SectionTable) (k : ℕ) → begins t.word x.relocs k ≡ false → (entry_fault t i x k ≡ None) × (span_at t x k ≡ None)
unfolding entry_conditions item_at
idle_clean t i x k idle = (rw idle refl, rw idle refl)

-- the fault of a field is that of the first part that has one
pub item_broken : (t : Tables) (i : ℕ) (x : SectionTable) (k : ℕ) (item : Item) → item_at t.word x.relocs k ≡ Some item
    → entry_fault t i x k ≡ or_else (first_broken (form_conditions t i x k item)) (or_else (first_broken (target_conditions t i x k item)) (first_broken (last_conditions t i x k item)))
unfolding entry_conditions
item_broken t i x k item here =
    ap (λ (o : Option Item). first_broken (option_map_or (item_conditions t i x k) o [])) here
    ∙ broken_of_three (form_conditions t i x k item) (target_conditions t i x k item) (last_conditions t i x k item)

-- a field that meets the conditions by its entries lies in bytes of the section, and one that meets those by what it refers to does so as it can
pub inside_of : (t : Tables) (i : ℕ) (x : SectionTable) (k : ℕ) (item : Item) → first_broken (form_conditions t i x k item) ≡ None → is_outside x.header item ≡ false
unfolding form_conditions
inside_of t i x k item clean = (all_hold (form_conditions t i x k item) clean).1.1.0

pub kinds_of : (t : Tables) (i : ℕ) (x : SectionTable) (k : ℕ) (item : Item) → first_broken (target_conditions t i x k item) ≡ None → refers_wrongly t item ≡ false
unfolding target_conditions
kinds_of t i x k item clean = (all_hold (target_conditions t i x k item) clean).1.0

pub span_is : (t : Tables) (x : SectionTable) (k : ℕ) (item : Item) → item_at t.word x.relocs k ≡ Some item → span_at t x k ≡ Some (span_of item)
span_is t x k item here = ap (option_map span_of) here

-- the entries so far have no fault, and the bytes taken are those of their fields; and it is known whether a field begins with the next
pub record IsJudging (t : Tables) (i : ℕ) (x : SectionTable) (k : ℕ) (begun : Bool) (words : List ℕ) : Type 0 where
  pub clean : first_upto (entry_fault t i x) k ≡ None
  pub taken : AreTaken t x k words
  pub is : begun ≡ begins t.word x.relocs k
