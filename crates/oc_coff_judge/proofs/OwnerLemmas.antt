-- The first two symbols of each section.
use Rattle.oc_coff.specs.{Files.{CoffFile, tables_in}, declared.symbol.SymbolEntry.{SymbolEntry}, declared.constants.TheConstants.{IMAGE_SYM_CLASS_EXTERNAL}}
use Rattle.oc_coff.specs.{declared.section_header.SectionHeader.{SectionHeader}, Tables.{SectionTable, section_table}}
use Rattle.oc_coff.specs.Entries.{Entry, entries_in, has_section, is_class, is_in}
use Rattle.oc_coff.specs.{Comdat.{definition_in, definition_of, is_comdat, key_symbol, own_definition, symbols_of}, Head.{IsHeaded}}
use Rattle.std.proofs.Common.{◌≡◌, ℕ, zero, suc, ◌+◌, ◌-◌, ◌<◌, ◌≤◌, Bool, true, false, cond, eqb, List, [], ◌∷◌, ◌++◌, length, map, replicate, set, Option, None, Some, refl, sym, ◌∙◌, ap, subst, arith}
use Rattle.std.specs.{Prelude.{not, ◌&&◌, nat_le, filter, is_none, slice_get, slice_index_or}, List.{AllByRecursion}}
use Rattle.std.specs.Option.{option_and_then, option_map, option_map_or}
use Rattle.std.proofs.lemmas.{Bool.{eqb-true, le-leb, true≢false}, Bool.Decides.{nat_tests}, List.{map-append}, Option.{none-some, same_Some}}
use Rattle.oc_shelf.specs.Reading.Slots.{AreSlots}
use Rattle.oc_shelf.proofs.ReadingLaws.SlotLemmas.{slots_empty, slots_filled}
use Rattle.oc_coff_judge.specs.{Judged.{firsts_with, is_owner, owner_among, seconds_with}, Numbered.{AreNumbers, AreOwners, entry_by, symbol_in}}
use Rattle.oc_coff_judge.proofs.{NumberLemmas.{IsPassing, follow_of, passing_end, passing_more, passing_none, slots_of}, EntryLemmas.{number_is}}

-- the first and the second symbols are those of these numbers
pub record IsOwning (file : CoffFile) (numbers : List ℕ) (firsts seconds : List (Option ℕ)) : Type 0 where
  pub firsts_are : AreSlots (owner_among file numbers 0) (length (tables_in file).sections + 1) firsts
  pub seconds_are : AreSlots (owner_among file numbers 1) (length (tables_in file).sections + 1) seconds

filter_push : (p : Entry → Bool) (es : List Entry) (e : Entry) → filter p (es ++ e ∷ []) ≡ filter p es ++ cond (p e) (e ∷ []) []
filter_push p [] e = refl
filter_push p (x ∷ es) e = elim (p x) as (λ b. cond b (x ∷ filter p (es ++ e ∷ [])) (filter p (es ++ e ∷ [])) ≡ cond b (x ∷ filter p es) (filter p es) ++ cond (p e) (e ∷ []) []) [
  | true ↦ ap (λ (ys : List Entry). x ∷ ys) (filter_push p es e)
  | false ↦ filter_push p es e
]

-- the number of an entry of a list
abbrev numbered : List Entry → ℕ → Option ℕ
numbered es i = option_map (λ (e : Entry). e.number) (slice_get es i)

first_push : (xs : List Entry) (e : Entry) (b : Bool) → numbered (xs ++ cond b (e ∷ []) []) 0 ≡ cond (b && is_none (numbered xs 0)) (Some e.number) (numbered xs 0)
first_push [] e true = refl
first_push [] e false = refl
first_push (x ∷ xs) e true = refl
first_push (x ∷ xs) e false = refl

second_push : (xs : List Entry) (e : Entry) (b : Bool) → numbered (xs ++ cond b (e ∷ []) []) 1 ≡ cond (b && not (is_none (numbered xs 0)) && is_none (numbered xs 1)) (Some e.number) (numbered xs 1)
second_push [] e true = refl
second_push [] e false = refl
second_push (x ∷ []) e true = refl
second_push (x ∷ []) e false = refl
second_push (x ∷ y ∷ xs) e true = refl
second_push (x ∷ y ∷ xs) e false = refl

-- the symbol of entry j
abbrev symbol_of : CoffFile → ℕ → SymbolEntry
symbol_of file j = (entry_by file j).symbol

owned_push : (file : CoffFile) (numbers : List ℕ) (j k : ℕ) → symbols_of (map (entry_by file) (numbers ++ j ∷ [])) k ≡ symbols_of (map (entry_by file) numbers) k ++ cond (is_in k (symbol_of file j)) (entry_by file j ∷ []) []
owned_push file numbers j k =
    ap (λ (es : List Entry). symbols_of es k) (map-append (entry_by file) numbers (j ∷ []))
    ∙ filter_push (λ (e : Entry). is_in k e.symbol) (map (entry_by file) numbers) (entry_by file j)

first_more : (file : CoffFile) (numbers : List ℕ) (j k : ℕ) → owner_among file (numbers ++ j ∷ []) 0 k ≡ cond (is_in k (symbol_of file j) && is_none (owner_among file numbers 0 k)) (Some j) (owner_among file numbers 0 k)
first_more file numbers j k =
    ap (λ (es : List Entry). numbered es 0) (owned_push file numbers j k)
    ∙ first_push (symbols_of (map (entry_by file) numbers) k) (entry_by file j) (is_in k (symbol_of file j))
    ∙ ap (λ (n : ℕ). cond (is_in k (symbol_of file j) && is_none (owner_among file numbers 0 k)) (Some n) (owner_among file numbers 0 k)) (number_is file j)

second_more : (file : CoffFile) (numbers : List ℕ) (j k : ℕ)
    → owner_among file (numbers ++ j ∷ []) 1 k
    ≡ cond (is_in k (symbol_of file j) && not (is_none (owner_among file numbers 0 k)) && is_none (owner_among file numbers 1 k)) (Some j) (owner_among file numbers 1 k)
second_more file numbers j k =
    ap (λ (es : List Entry). numbered es 1) (owned_push file numbers j k)
    ∙ second_push (symbols_of (map (entry_by file) numbers) k) (entry_by file j) (is_in k (symbol_of file j))
    ∙ ap (λ (n : ℕ). cond (is_in k (symbol_of file j) && not (is_none (owner_among file numbers 0 k)) && is_none (owner_among file numbers 1 k)) (Some n) (owner_among file numbers 1 k)) (number_is file j)

-- a slot that is filled, or not
slots_with : (f g : ℕ → Option ℕ) (n at j : ℕ) (b : Bool) (xs : List (Option ℕ)) → AreSlots f n xs → (b ≡ true → at < n) → ((k : ℕ) → k < n → g k ≡ cond (b && eqb at k) (Some j) (f k))
    → AreSlots g n (cond b (set xs at (Some j)) xs)
slots_with f g n at j true xs are low is =
    let filled = slots_filled f (λ k. cond (eqb at k) (Some j) (f k)) n at j xs are (low refl) (λ k. refl) in
    record { long = filled.long; each = λ k l. filled.each k l ∙ sym (is k l) }
slots_with f g n at j false xs are low is = record { long = are.long; each = λ k l. are.each k l ∙ sym (is k l) }

-- where a test says that two others agree
first_test : (h l u e v : Bool) → (e ≡ true → (l ≡ true) × (u ≡ v)) → ((h && e) && v) ≡ (((h && l) && u) && e)
first_test false l u e v f = refl
first_test true true true false v f = refl
first_test true true false false v f = refl
first_test true false u false v f = refl
first_test true false u true v f = absurd (true≢false (sym (f refl).0))
first_test true true true true v f = sym (f refl).1
first_test true true false true v f = sym (f refl).1

second_test : (h l u w e v x : Bool) → (e ≡ true → (l ≡ true) × ((u ≡ v) × (w ≡ x))) → (((h && e) && v) && x) ≡ ((((h && l) && u) && w) && e)
second_test false l u w e v x f = refl
second_test true true true true false v x f = refl
second_test true true true false false v x f = refl
second_test true true false w false v x f = refl
second_test true false u w false v x f = refl
second_test true false u w true v x f = absurd (true≢false (sym (f refl).0))
second_test true true true true true v x f = rw (← (f refl).1.0, ← (f refl).1.1) refl
second_test true true true false true v x f = rw (← (f refl).1.0, ← (f refl).1.1) refl
second_test true true false w true v x f = rw (← (f refl).1.0) refl

low_number : (count k at : ℕ) → k < count + 1 → eqb at k ≡ true → nat_le at count ≡ true
low_number count k at low e = let same = eqb-true at k e in le-leb at count (omega (arith, low, same))

slot_same : (f : ℕ → Option ℕ) (n k at : ℕ) (xs : List (Option ℕ)) → AreSlots f n xs → k < n → eqb at k ≡ true → slice_index_or xs at None ≡ f k
slot_same f n k at xs are low e = ap (λ (i : ℕ). slice_index_or xs i None) (eqb-true at k e) ∙ are.each k low

owner_low : (count at : ℕ) (h w : Bool) → ((h && nat_le at count) && w) ≡ true → at < count + 1
owner_low count at true w e = by (nat_le at count) refl e
  where
    by : (b : Bool) → nat_le at count ≡ b → (b && w) ≡ true → at < count + 1
    by true h f = grind (arith, nat_tests)
    by false h f = absurd (true≢false (sym f))
owner_low count at false w e = absurd (true≢false (sym e))

-- one symbol more
pub owning_more : (file : CoffFile) (numbers : List ℕ) (firsts seconds newer later : List (Option ℕ)) (j : ℕ) → IsOwning file numbers firsts seconds
    → newer ≡ firsts_with (tables_in file) (entry_by file j).symbol j firsts → later ≡ seconds_with (tables_in file) (entry_by file j).symbol j firsts seconds
    → IsOwning file (numbers ++ j ∷ []) newer later
owning_more file numbers firsts seconds newer later j are first second = record {
  firsts_are = subst (AreSlots (owner_among file (numbers ++ j ∷ []) 0) n) (sym first)
      (slots_with (owner_among file numbers 0) (owner_among file (numbers ++ j ∷ []) 0) n at j (is_owner (tables_in file) s && is_none (slice_index_or firsts at None)) firsts are.firsts_are
      (owner_low count at (has_section s) (is_none (slice_index_or firsts at None)))
      (λ k low. first_more file numbers j k
      ∙ ap (λ b. cond b (Some j) (owner_among file numbers 0 k))
      (first_test (has_section s) (nat_le at count) (is_none (slice_index_or firsts at None)) (eqb at k) (is_none (owner_among file numbers 0 k))
      (λ e. (low_number count k at low e, ap is_none (slot_same (owner_among file numbers 0) n k at firsts are.firsts_are low e))))));
  seconds_are = subst (AreSlots (owner_among file (numbers ++ j ∷ []) 1) n) (sym second)
      (slots_with (owner_among file numbers 1) (owner_among file (numbers ++ j ∷ []) 1) n at j
      (is_owner (tables_in file) s && not (is_none (slice_index_or firsts at None)) && is_none (slice_index_or seconds at None)) seconds are.seconds_are
      (λ e. owner_low count at (has_section s) (not (is_none (slice_index_or firsts at None))) (both (is_owner (tables_in file) s && not (is_none (slice_index_or firsts at None))) (is_none (slice_index_or seconds at None)) e))
      (λ k low. second_more file numbers j k
      ∙ ap (λ b. cond b (Some j) (owner_among file numbers 1 k))
      (second_test (has_section s) (nat_le at count) (not (is_none (slice_index_or firsts at None))) (is_none (slice_index_or seconds at None)) (eqb at k)
      (not (is_none (owner_among file numbers 0 k))) (is_none (owner_among file numbers 1 k))
      (λ e. (
        low_number count k at low e,
        (
          ap (λ (o : Option ℕ). not (is_none o)) (slot_same (owner_among file numbers 0) n k at firsts are.firsts_are low e),
          ap is_none (slot_same (owner_among file numbers 1) n k at seconds are.seconds_are low e),
        ),
      )))));
}
  where
    s : SymbolEntry
    s = (entry_by file j).symbol

    at : ℕ
    at = s.SectionNumber

    count : ℕ
    count = length (tables_in file).sections

    n : ℕ
    n = count + 1

    both : (a b : Bool) → (a && b) ≡ true → a ≡ true
    both true b e = refl
    both false b e = absurd (true≢false (sym e))

-- all symbols
pub owning_end : (file : CoffFile) (numbers all : List ℕ) (firsts seconds : List (Option ℕ)) → IsOwning file numbers firsts seconds → AreNumbers file all → numbers ≡ all → AreOwners (tables_in file) firsts seconds
owning_end file numbers all firsts seconds are those same = record {
  firsts_are = subst (λ (es : List Entry). AreSlots (λ k. numbered (symbols_of es k) 0) (length (tables_in file).sections + 1) firsts) (sym here) are.firsts_are;
  seconds_are = subst (λ (es : List Entry). AreSlots (λ k. numbered (symbols_of es k) 1) (length (tables_in file).sections + 1) seconds) (sym here) are.seconds_are;
}
  where
    here : entries_in (tables_in file) ≡ map (entry_by file) numbers
    here = those.are ∙ ap (map (entry_by file)) (sym same)

-- ... the numbers of the symbols of any file

record HasPassing (file : CoffFile) (j : ℕ) : Type 0 where
  auxiliary : ℕ
  numbers : List ℕ
  passing : IsPassing file j auxiliary numbers

passing_upto : (file : CoffFile) → IsHeaded file → (j : ℕ) → j ≤ length (slots_of file) → HasPassing file j
passing_upto file is zero le = record { auxiliary = 0; numbers = []; passing = passing_none file }
passing_upto file is (suc j) le =
    let before = passing_upto file is j (omega (arith, le)) in
    let e : j + 1 ≡ suc j = omega arith in
    let left : ℕ = cond (eqb before.auxiliary 0) (follow_of file j) (before.auxiliary - 1) in
    let more : List ℕ = cond (eqb before.auxiliary 0) (before.numbers ++ j ∷ []) before.numbers in
    record {
      auxiliary = left;
      numbers = more;
      passing = subst (λ (k : ℕ). IsPassing file k left more) e (passing_more file is j before.auxiliary left before.numbers more before.passing (omega (arith, le)) refl refl);
    }

pub record HasNumbers (file : CoffFile) : Type 0 where
  pub numbers : List ℕ
  pub are : AreNumbers file numbers

pub has_numbers : (file : CoffFile) → IsHeaded file → HasNumbers file
has_numbers file is =
    let all = passing_upto file is (length (slots_of file)) (omega arith) in
    record { numbers = all.numbers; are = passing_end file (length (slots_of file)) all.auxiliary all.numbers all.passing refl }

-- the entry is the one of its number, which is in the table
pub record IsEntry (file : CoffFile) (e : Entry) : Type 0 where
  pub is : e ≡ entry_by file e.number
  pub low : e.number < length (tables_in file).entries

pub entries_are : (file : CoffFile) (numbers : List ℕ) → AllByRecursion (λ i. i < length (tables_in file).entries) numbers → AllByRecursion (IsEntry file) (map (entry_by file) numbers)
entries_are file [] all = tt
entries_are file (j ∷ numbers) all = (
  record { is = ap (entry_by file) (sym (number_is file j)); low = subst (λ (n : ℕ). n < length (tables_in file).entries) (sym (number_is file j)) all.0 },
  entries_are file numbers all.1,
)

pub all_filter : (P : Entry → Type 0) (p : Entry → Bool) (es : List Entry) → AllByRecursion P es → AllByRecursion P (filter p es)
all_filter P p [] all = tt
all_filter P p (e ∷ es) all = elim (p e) as (λ b. AllByRecursion P (cond b (e ∷ filter p es) (filter p es))) [ true ↦ (all.0, all_filter P p es all.1) | false ↦ all_filter P p es all.1 ]

pub all_get : (P : Entry → Type 0) (es : List Entry) (i : ℕ) (e : Entry) → AllByRecursion P es → slice_get es i ≡ Some e → P e
all_get P [] i e all is = absurd (none-some e is)
all_get P (x ∷ es) zero e all is = subst P (same_Some x e is) all.0
all_get P (x ∷ es) (suc i) e all is = all_get P es i e all.1 is

-- what is found of a section's symbol
pub record IsOwned (file : CoffFile) (i k j : ℕ) : Type 0 where
  pub is : slice_get (symbols_of (entries_in (tables_in file)) k) i ≡ Some (entry_by file j)
  pub low : j < length (tables_in file).entries

pub owner_there : (file : CoffFile) → IsHeaded file → (i k j : ℕ) → symbol_in (tables_in file) i k ≡ Some j → IsOwned file i k j
owner_there file is i k j found = by (slice_get (symbols_of (entries_in (tables_in file)) k) i) refl found
  where
    all : AllByRecursion (IsEntry file) (entries_in (tables_in file))
    all = let has = has_numbers file is in subst (AllByRecursion (IsEntry file)) (sym has.are.are) (entries_are file has.numbers has.are.there)

    by : (o : Option Entry) → slice_get (symbols_of (entries_in (tables_in file)) k) i ≡ o → option_map (λ (e : Entry). e.number) o ≡ Some j → IsOwned file i k j
    by None h e = absurd (none-some j e)
    by (Some x) h e =
        let entry = all_get (IsEntry file) (symbols_of (entries_in (tables_in file)) k) i x (all_filter (IsEntry file) (λ (e : Entry). is_in k e.symbol) (entries_in (tables_in file)) all) h in
        let number : x.number ≡ j = same_Some x.number j e in
        record {
          is = h ∙ ap (λ (y : Entry). Some y) (entry.is ∙ ap (entry_by file) number);
          low = subst (λ (n : ℕ). n < length (tables_in file).entries) number entry.low;
        }

-- ... what is said of a section

commented : (file : CoffFile) (k : ℕ) (h : SectionHeader) → eqb k 0 ≡ false → slice_get (tables_in file).sections (k - 1) ≡ Some (section_table file.bytes h)
    → definition_in (tables_in file) k ≡ cond (is_comdat h) (definition_of (entries_in (tables_in file)) k) None
unfolding definition_in section_table
commented file k h some here =
    ap (λ (o : Option SectionTable). cond (option_map_or (λ (x : SectionTable). is_comdat x.header) o false) (definition_of (entries_in (tables_in file)) k) None)
    (ap (λ b. cond b None (slice_get (tables_in file).sections (k - 1))) some ∙ here)

pub defined_not : (file : CoffFile) (k : ℕ) (h : SectionHeader) → eqb k 0 ≡ false → slice_get (tables_in file).sections (k - 1) ≡ Some (section_table file.bytes h) → is_comdat h ≡ false → definition_in (tables_in file) k ≡ None
defined_not file k h some here not_one = commented file k h some here ∙ ap (λ b. cond b (definition_of (entries_in (tables_in file)) k) None) not_one

pub defined_some : (file : CoffFile) (k j : ℕ) (h : SectionHeader) → eqb k 0 ≡ false → slice_get (tables_in file).sections (k - 1) ≡ Some (section_table file.bytes h) → is_comdat h ≡ true → IsOwned file 0 k j
    → definition_in (tables_in file) k ≡ own_definition (entry_by file j)
defined_some file k j h some here one owned =
    commented file k h some here ∙ ap (λ b. cond b (definition_of (entries_in (tables_in file)) k) None) one ∙ ap (λ (o : Option Entry). option_and_then own_definition o) owned.is

pub key_there : (file : CoffFile) (k j : ℕ) (b : Bool) → IsOwned file 1 k j → b ≡ is_class IMAGE_SYM_CLASS_EXTERNAL (entry_by file j).symbol → not b ≡ is_none (key_symbol (entries_in (tables_in file)) k)
key_there file k j b owned is =
    ap not is ∙ by (is_class IMAGE_SYM_CLASS_EXTERNAL (entry_by file j).symbol)
    ∙ sym (ap (λ (o : Option Entry). is_none (option_and_then (λ (e : Entry). cond (is_class IMAGE_SYM_CLASS_EXTERNAL e.symbol) (Some e) None) o)) owned.is)
  where
    by : (b : Bool) → not b ≡ is_none (cond b (Some (entry_by file j)) None)
    by true = refl
    by false = refl

-- no symbols at first
pub owning_none : (file : CoffFile) (n : ℕ) (firsts seconds : List (Option ℕ)) → n ≡ length (tables_in file).sections + 1 → firsts ≡ replicate n None → seconds ≡ replicate n None → IsOwning file [] firsts seconds
owning_none file n firsts seconds long first second = record {
  firsts_are = subst (AreSlots (owner_among file [] 0) (length (tables_in file).sections + 1)) (sym (first ∙ ap (λ (m : ℕ). replicate m None) long)) (slots_empty (owner_among file [] 0) (length (tables_in file).sections + 1) (λ k. refl));
  seconds_are = subst (AreSlots (owner_among file [] 1) (length (tables_in file).sections + 1)) (sym (second ∙ ap (λ (m : ℕ). replicate m None) long)) (slots_empty (owner_among file [] 1) (length (tables_in file).sections + 1) (λ k. refl));
}
