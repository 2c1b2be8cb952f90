-- Where carried symbols stand, symbol by symbol.
use Rattle.oc_coff.specs.{declared.form.Shape.{Shape}, declared.form.Shape.TheVariants.{Usual, Big}, Forms.{symbol_size}, FileHeader.{file_header_of}}
use Rattle.oc_coff.specs.{Files.{CoffFile, tables_in}, Tables.{Slot, Tables}, Entries.{Entry, entries_in, entry_numbered, symbols_from}, Sections.{sections_in}}
use Rattle.oc_coff.specs.{Symbols.{symbol_of, symbols_in}, Head.{IsHeaded}}
use Rattle.std.proofs.Common.{◌≡◌, ℕ, zero, suc, ◌+◌, ◌<◌, ◌≤◌, Bool, true, false, cond, eqb, List, [], ◌∷◌, ◌++◌, length, take, set, get_or, Option, None, Some, refl, sym, ◌∙◌, ap, subst, arith, ◌*◌}
use Rattle.std.specs.{Prelude.{nat_eq, find, is_some, slice_get}, Option.{option_and_then, option_map}}
use Rattle.std.proofs.lemmas.{Bool.{eqb-true, ne_eqb, true≢false}, Option.{none-some, same_Some, slice_get-map, slice_get-get_or, slice_get_within}}
use Rattle.oc_linking.specs.Numbers.{or_else}
use Rattle.oc_linking.specs.Parts as parts
use Rattle.oc_shows.specs.Computed.{position_of}
use Rattle.oc_shelf.specs.{Reading.Collected.{collected}, Reading.Slots.{AreSlots}}
use Rattle.oc_shelf.proofs.{ReadingLaws.CollectedLemmas.{collected-at, collected-none, collected-some}, ReadingLaws.SlotLemmas.{slots_filled, slots_same}}
use Rattle.oc_shelf.proofs.ReadingLaws.NumberedLemmas.{one_position, stands_numbered}
use Rattle.oc_coff_judge.specs.{Numbered.{AreNumbers, entry_by}, Tagged.{carried_position}, Led.{symbol_at}}
use Rattle.oc_coff_judge.proofs.{CollectLemmas.{symbols_are}, EntryLemmas.{Rise, entries_rise, number_is, rise_apart}, NumberedSymbols.{symbols_numbered}}
use Rattle.oc_coff.proofs.HeadLemmas.{headed, length-entries}

-- ... entries by number

find_next : (test : Entry → Bool) (es : List Entry) (i : ℕ) (e : Entry) → slice_get es i ≡ Some e → find test (take (i + 1) es) ≡ or_else (find test (take i es)) (cond (test e) (Some e) None)
find_next test [] i e here = absurd (none-some e here)
find_next test (x ∷ es) zero e here =
    let one : 0 + 1 ≡ suc 0 = omega arith in
    ap (λ (n : ℕ). find test (take n (x ∷ es))) one ∙ ap (λ (y : Entry). cond (test y) (Some y) None) (same_Some x e here)
find_next test (x ∷ es) (suc i) e here =
    let one : suc i + 1 ≡ suc (i + 1) = omega arith in
    ap (λ (n : ℕ). find test (take n (x ∷ es))) one ∙ by (test x) (find_next test es i e here)
  where
    by : (b : Bool) → find test (take (i + 1) es) ≡ or_else (find test (take i es)) (cond (test e) (Some e) None)
        → cond b (Some x) (find test (take (i + 1) es)) ≡ or_else (cond b (Some x) (find test (take i es))) (cond (test e) (Some e) None)
    by true rest = refl
    by false rest = rest

none_before : (m : ℕ) (es : List Entry) (i : ℕ) (e : Entry) → Rise m es → slice_get es i ≡ Some e → find (λ (y : Entry). nat_eq y.number e.number) (take i es) ≡ None
none_before m [] i e rise here = absurd (none-some e here)
none_before m (x ∷ es) zero e rise here = refl
none_before m (x ∷ es) (suc i) e rise here =
    let less = rise_apart m (x ∷ es) 0 (suc i) x e rise (omega arith) refl here in
    ap (λ b. cond b (Some x) (find (λ (y : Entry). nat_eq y.number e.number) (take i es))) (ne_eqb x.number e.number (λ same. absurd (omega (arith, less, same))))
    ∙ none_before (x.number + 1) es i e rise.1 here

-- the entry of a number among the first i, and among one more
pub found_next : (file : CoffFile) → IsHeaded file → (i : ℕ) (e : Entry) (j : ℕ) → slice_get (entries_in (tables_in file)) i ≡ Some e
    → entry_numbered (take (i + 1) (entries_in (tables_in file))) j ≡ cond (eqb e.number j) (Some e) (entry_numbered (take i (entries_in (tables_in file))) j)
found_next file head i e j here =
    find_next (λ (y : Entry). nat_eq y.number j) (entries_in (tables_in file)) i e here ∙ by (eqb e.number j) refl (entry_numbered (take i (entries_in (tables_in file))) j) refl
  where
    by : (b : Bool) → eqb e.number j ≡ b → (o : Option Entry) → entry_numbered (take i (entries_in (tables_in file))) j ≡ o → or_else o (cond b (Some e) None) ≡ cond b (Some e) o
    by true g None h = refl
    by true g (Some x) h =
        absurd (none-some x (sym (none_before 0 (entries_in (tables_in file)) i e (entries_rise file head) here)
        ∙ ap (λ (k : ℕ). find (λ (y : Entry). nat_eq y.number k) (take i (entries_in (tables_in file)))) (eqb-true e.number j g) ∙ h))
    by false g None h = refl
    by false g (Some x) h = refl

-- ... positions

-- the position of entry j among the carried symbols, where it is one of the first i
abbrev pub position_upto : Tables → ℕ → ℕ → Option ℕ
position_upto t i j = option_and_then (carried_position t) (entry_numbered (take i (entries_in t)) j)

-- the slots have those, and the position of the next is known
pub record AreStanding (file : CoffFile) (i position : ℕ) (slots : List (Option ℕ)) : Type 0 where
  pub slots_are : AreSlots (position_upto (tables_in file) i) (length (tables_in file).entries) slots
  pub next : position ≡ length (collected (symbol_at (tables_in file)) i)

module _ (file : CoffFile) (head : IsHeaded file) (i : ℕ) (e : Entry) (here : slice_get (entries_in (tables_in file)) i ≡ Some e) where
  abbrev t : Tables
  t = tables_in file

  symbol_here : symbol_at t i ≡ symbol_of t.strings (sections_in t) (entries_in t) e
  unfolding symbol_at
  symbol_here = ap (option_and_then (symbol_of t.strings (sections_in t) (entries_in t))) here

  -- a carried symbol stands behind those before it
  standing_at : (x : parts.Symbol) → symbol_of t.strings (sections_in t) (entries_in t) e ≡ Some x → position_of (symbols_in t) x.number ≡ length (collected (symbol_at t) i)
  standing_at x is =
      let there : slice_get (symbols_in t) (length (collected (symbol_at t) i)) ≡ Some x
      = ap (λ (xs : List parts.Symbol). slice_get xs (length (collected (symbol_at t) i))) (symbols_are t)
      ∙ collected-at (symbol_at t) i (length (entries_in t)) x (symbol_here ∙ is) (slice_get_within (entries_in t) i e here) in
      one_position (symbols_in t) (symbols_numbered file head) (position_of (symbols_in t) x.number) (length (collected (symbol_at t) i)) x
      (stands_numbered (symbols_in t) (symbols_numbered file head) (length (collected (symbol_at t) i)) x there) there

  -- one symbol more
  pub standing_more : (position : ℕ) (slots : List (Option ℕ)) (b : Bool) → AreStanding file i position slots → e.number < length t.entries → b ≡ is_some (symbol_of t.strings (sections_in t) (entries_in t) e)
      → AreStanding file (i + 1) (cond b (position + 1) position) (cond b (set slots e.number (Some position)) slots)
  standing_more position slots b are low is = by (symbol_of t.strings (sections_in t) (entries_in t) e) refl b is
    where
      next_at : (j : ℕ) → position_upto t (i + 1) j ≡ option_and_then (carried_position t) (cond (eqb e.number j) (Some e) (entry_numbered (take i (entries_in t)) j))
      next_at j = ap (option_and_then (carried_position t)) (found_next file head i e j here)

      longer : (x : parts.Symbol) → symbol_of t.strings (sections_in t) (entries_in t) e ≡ Some x → position + 1 ≡ length (collected (symbol_at t) (i + 1))
      longer x g =
          let now = are.next in
          let one : length (collected (symbol_at t) (i + 1)) ≡ length (collected (symbol_at t) i) + 1 = ap length (collected-some (symbol_at t) i x (symbol_here ∙ g)) ∙ more (collected (symbol_at t) i) x in
          omega (arith, now, one)
        where
          more : (xs : List parts.Symbol) (x : parts.Symbol) → length (xs ++ x ∷ []) ≡ length xs + 1
          more [] x = refl
          more (y ∷ xs) x = let rest = more xs x in omega (arith, rest)

      by : (o : Option parts.Symbol) → symbol_of t.strings (sections_in t) (entries_in t) e ≡ o → (b : Bool) → b ≡ is_some o
          → AreStanding file (i + 1) (cond b (position + 1) position) (cond b (set slots e.number (Some position)) slots)
      by None g false h = record {
        slots_are = slots_same (position_upto t i) (position_upto t (i + 1)) (length t.entries) slots are.slots_are (λ j. next_at j ∙ of j (eqb e.number j) refl);
        next = are.next ∙ sym (ap length (collected-none (symbol_at t) i (symbol_here ∙ g)));
      }
        where
          of : (j : ℕ) (b : Bool) → eqb e.number j ≡ b → option_and_then (carried_position t) (cond b (Some e) (entry_numbered (take i (entries_in t)) j)) ≡ position_upto t i j
          of j false k = refl
          of j true k =
              ap (option_map (λ (x : parts.Symbol). position_of (symbols_in t) x.number)) g
              ∙ sym (ap (λ (n : ℕ). position_upto t i n) (sym (eqb-true e.number j k)) ∙ ap (option_and_then (carried_position t)) (none_before 0 (entries_in t) i e (entries_rise file head) here))
      by None g true h = absurd (true≢false h)
      by (Some x) g true h = record {
        slots_are = slots_filled (position_upto t i) (position_upto t (i + 1)) (length t.entries) e.number position slots are.slots_are low (λ j. next_at j ∙ of j (eqb e.number j));
        next = longer x g;
      }
        where
          of : (j : ℕ) (b : Bool) → option_and_then (carried_position t) (cond b (Some e) (entry_numbered (take i (entries_in t)) j)) ≡ cond b (Some position) (position_upto t i j)
          of j false = refl
          of j true = ap (option_map (λ (x : parts.Symbol). position_of (symbols_in t) x.number)) g ∙ ap Some (standing_at x g ∙ sym are.next)
      by (Some x) g false h = absurd (true≢false (sym h))

-- symbol i of all is the entry of its number
pub number_here : (file : CoffFile) (numbers : List ℕ) (i d : ℕ) → AreNumbers file numbers → i < length numbers → slice_get (entries_in (tables_in file)) i ≡ Some (entry_by file (get_or numbers i d))
number_here file numbers i d all low =
    ap (λ (es : List Entry). slice_get es i) all.are ∙ slice_get-map (entry_by file) numbers i ∙ ap (option_map (entry_by file)) (slice_get-get_or numbers i d low)

-- in the words of what fills them
pub standing_step : (file : CoffFile) → IsHeaded file → (numbers : List ℕ) (i j d position next : ℕ) (slots new : List (Option ℕ)) (b : Bool) → AreNumbers file numbers → i < length numbers → j ≡ get_or numbers i d
    → j < length (tables_in file).entries → AreStanding file i position slots → b ≡ is_some (symbol_of (tables_in file).strings (sections_in (tables_in file)) (entries_in (tables_in file)) (entry_by file j))
    → new ≡ cond b (set slots j (Some position)) slots → next ≡ cond b (position + 1) position → AreStanding file (i + 1) next new
standing_step file head numbers i j d position next slots new b all low is below are carried filled one =
    let here : slice_get (entries_in (tables_in file)) i ≡ Some (entry_by file j) = number_here file numbers i d all low ∙ ap (λ (n : ℕ). Some (entry_by file n)) (sym is) in
    let number : (entry_by file j).number ≡ j = number_is file j in
    let more : AreStanding file (i + 1) (cond b (position + 1) position) (cond b (set slots (entry_by file j).number (Some position)) slots)
    = standing_more file head i (entry_by file j) here position slots b are (omega (arith, number, below)) carried in
    subst (λ (q : ℕ). AreStanding file (i + 1) q new) (sym one)
    (subst (AreStanding file (i + 1) (cond b (position + 1) position)) (sym (filled ∙ ap (λ (n : ℕ). cond b (set slots n (Some position)) slots) (sym number))) more)

-- a file has few symbols
from_few : (i a : ℕ) (xs : List Slot) → length (symbols_from i a xs) ≤ length xs
from_few i a [] = by a
  where
    by : (a : ℕ) → length (symbols_from i a []) ≤ 0
    by zero = omega arith
    by (suc a) = omega arith
from_few i zero (x ∷ xs) = let rest = from_few (i + 1) x.symbol.NumberOfAuxSymbols xs in omega (arith, rest)
from_few i (suc a) (x ∷ xs) = let rest = from_few (i + 1) a xs in omega (arith, rest)

least_entries : (z : Shape) (n : ℕ) → n ≤ symbol_size z * n
least_entries Usual n = omega arith
least_entries Big n = omega arith

pub entries_few : (file : CoffFile) → IsHeaded file → length (tables_in file).entries ≤ 67108864
entries_few file head =
    let lies = (headed file head).symbols in
    let small = head.small in
    let long = length-entries file head in
    let least = least_entries file.shape (file_header_of file.shape file.bytes).NumberOfSymbols in
    omega (arith, lies, small, long, least)

pub symbols_few : (file : CoffFile) → IsHeaded file → length (entries_in (tables_in file)) ≤ 67108864
unfolding entries_in
symbols_few file head = let few = entries_few file head in let less = from_few 0 0 (tables_in file).entries in omega (arith, few, less)
