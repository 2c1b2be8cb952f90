-- The entries that are symbols.
use Rattle.oc_coff.specs.{Files.{CoffFile, tables_in}, Entries.{Entry, entries_in, entry_numbered}, Symbols.{tag_of, tagged_by}, Head.{IsHeaded}}
use Rattle.std.proofs.Common.{◌≡◌, ℕ, ◌<◌, ◌≤◌, Bool, true, false, cond, eqb, ◌||◌, List, [], ◌∷◌, ◌++◌, length, map, get_or, replicate, set, Option, None, Some, refl, sym, ◌∙◌, ap, subst, arith}
use Rattle.std.specs.{Prelude.{find, nat_eq, slice_get}, Option.{is_some, option_and_then, option_map}}
use Rattle.std.proofs.lemmas.{Bool.{eqb-true}, List.{map-append}, Option.{none-some, same_Some, slice_get-get_or, slice_get-map}}
use Rattle.oc_shelf.specs.Reading.Slots.{AreSlots}
use Rattle.oc_shelf.proofs.ReadingLaws.SlotLemmas.{slot_anywhere, slots_empty, slots_filled, slots_same}
use Rattle.oc_coff_judge.specs.{Found.{IsTagOf, start_of}, Numbered.{AreNumbers, entry_by}}
use Rattle.oc_coff_judge.proofs.EntryLemmas.{IsEntry, entries_sound, find_from, number_is}
use Rattle.oc_neutral.proofs.Positions.{each_at}

-- ... symbol by symbol

-- the same among the symbols of these numbers
abbrev pub start_among : CoffFile → List ℕ → ℕ → Option ℕ
start_among file numbers j = cond (is_some (entry_numbered (map (entry_by file) numbers) j)) (Some j) None

find_push : {X : Type 0} (p : X → Bool) (xs : List X) (x : X) → is_some (find p (xs ++ x ∷ [])) ≡ (p x || is_some (find p xs))
find_push p [] x = elim (p x) as (λ b. is_some (cond b (Some x) (find p [])) ≡ (b || is_some (find p []))) [ true ↦ refl | false ↦ refl ]
find_push {X} p (y ∷ xs) x = elim (p y) as (λ b. is_some (cond b (Some y) (find p (xs ++ x ∷ []))) ≡ (p x || is_some (cond b (Some y) (find p xs)))) [
  | true ↦ either (p x)
  | false ↦ find_push p xs x
]
  where
    either : (b : Bool) → true ≡ (b || true)
    either true = refl
    either false = refl

among_more : (file : CoffFile) (numbers : List ℕ) (k j : ℕ) → start_among file (numbers ++ k ∷ []) j ≡ cond (eqb k j) (Some k) (start_among file numbers j)
among_more file numbers k j =
    ap (λ (es : List Entry). cond (is_some (entry_numbered es j)) (Some j) None) (map-append (entry_by file) numbers (k ∷ []))
    ∙ ap (λ b. cond b (Some j) None) (find_push (λ (e : Entry). nat_eq e.number j) (map (entry_by file) numbers) (entry_by file k))
    ∙ ap (λ (n : ℕ). cond (nat_eq n j || is_some (entry_numbered (map (entry_by file) numbers) j)) (Some j) None) (number_is file k)
    ∙ by (eqb k j) refl
  where
    by : (b : Bool) → eqb k j ≡ b → cond (b || is_some (entry_numbered (map (entry_by file) numbers) j)) (Some j) None ≡ cond b (Some k) (start_among file numbers j)
    by true e = ap (λ (n : ℕ). Some n) (sym (eqb-true k j e))
    by false e = refl

pub starts_none : (file : CoffFile) (n : ℕ) (slots : List (Option ℕ)) → n ≡ length (tables_in file).entries → slots ≡ replicate n None → AreSlots (start_among file []) (length (tables_in file).entries) slots
starts_none file n slots long is =
    subst (AreSlots (start_among file []) (length (tables_in file).entries)) (sym (is ∙ ap (λ (m : ℕ). replicate m None) long)) (slots_empty (start_among file []) (length (tables_in file).entries) (λ j. refl))

pub starts_more : (file : CoffFile) (numbers : List ℕ) (k : ℕ) (old new : List (Option ℕ)) → AreSlots (start_among file numbers) (length (tables_in file).entries) old → k < length (tables_in file).entries → new ≡ set old k (Some k)
    → AreSlots (start_among file (numbers ++ k ∷ [])) (length (tables_in file).entries) new
starts_more file numbers k old new are low is =
    subst (AreSlots (start_among file (numbers ++ k ∷ [])) (length (tables_in file).entries)) (sym is)
    (slots_filled (start_among file numbers) (start_among file (numbers ++ k ∷ [])) (length (tables_in file).entries) k k old are low (among_more file numbers k))

pub starts_end : (file : CoffFile) (numbers all : List ℕ) (slots : List (Option ℕ)) → AreSlots (start_among file numbers) (length (tables_in file).entries) slots → AreNumbers file all → numbers ≡ all
    → AreSlots (start_of (tables_in file)) (length (tables_in file).entries) slots
starts_end file numbers all slots are those same =
    slots_same (start_among file numbers) (start_of (tables_in file)) (length (tables_in file).entries) slots are
    (λ j. ap (λ (es : List Entry). cond (is_some (entry_numbered es j)) (Some j) None) (those.are ∙ ap (map (entry_by file)) (sym same)))

-- ... what a slot says

-- symbol number j stands at a place among all
pub record IsStart (file : CoffFile) (j d : ℕ) : Type 0 where
  pub same : j ≡ d
  pub low : j < length (tables_in file).entries
  pub is : entry_numbered (entries_in (tables_in file)) j ≡ Some (entry_by file j)
  pub place : ℕ
  pub there : slice_get (entries_in (tables_in file)) place ≡ Some (entry_by file j)

module _ (file : CoffFile) (head : IsHeaded file) where
  pub start_there : (j d : ℕ) → start_of (tables_in file) j ≡ Some d → IsStart file j d
  start_there j d is = by (entry_numbered (entries_in (tables_in file)) j) refl is
    where
      by : (o : Option Entry) → entry_numbered (entries_in (tables_in file)) j ≡ o → cond (is_some o) (Some j) None ≡ Some d → IsStart file j d
      by None e h = absurd (none-some d h)
      by (Some x) e h =
          let p = find_from (λ (y : Entry). nat_eq y.number j) (entries_in (tables_in file)) x e in
          let own = each_at (IsEntry file) (entries_in (tables_in file)) p.place x (entries_sound file head) p.there in
          let number : x.number ≡ j = eqb-true x.number j p.passes in
          let entry : x ≡ entry_by file j = own.is ∙ ap (entry_by file) number in
          record {
            same = same_Some j d h;
            low = subst (λ (n : ℕ). n < length (tables_in file).entries) number own.low;
            is = e ∙ ap (λ (y : Entry). Some y) entry;
            place = p.place;
            there = p.there ∙ ap (λ (y : Entry). Some y) entry;
          }

  pub start_none : (j : ℕ) → start_of (tables_in file) j ≡ None → entry_numbered (entries_in (tables_in file)) j ≡ None
  start_none j is = by (entry_numbered (entries_in (tables_in file)) j) is
    where
      by : (o : Option Entry) → cond (is_some o) (Some j) None ≡ None → o ≡ None
      by None h = refl
      by (Some x) h = absurd (none-some j (sym h))

  -- the slot of any number
  pub start_anywhere : (starts : List (Option ℕ)) → AreSlots (start_of (tables_in file)) (length (tables_in file).entries) starts → (j : ℕ) → get_or starts j None ≡ start_of (tables_in file) j
  start_anywhere starts are j = slot_anywhere (start_of (tables_in file)) (length (tables_in file).entries) starts are (λ k past. by k past (start_of (tables_in file) k) refl) j
    where
      by : (k : ℕ) → length (tables_in file).entries ≤ k → (o : Option ℕ) → start_of (tables_in file) k ≡ o → o ≡ None
      by k past None e = refl
      by k past (Some d) e = let low = (start_there k d e).low in absurd (omega (arith, past, low))

  -- what a symbol tags
  pub tag_there : (starts : List (Option ℕ)) → AreSlots (start_of (tables_in file)) (length (tables_in file).entries) starts → (j tag d : ℕ)
      → tag_of (entry_by file j) ≡ Some tag → get_or starts tag None ≡ Some d → IsTagOf file j d
  tag_there starts are j tag d is found =
      let s = start_there tag d (sym (start_anywhere starts are tag) ∙ found) in
      record {
        low = subst (λ (n : ℕ). n < length (tables_in file).entries) s.same s.low;
        is = ap (option_and_then (entry_numbered (entries_in (tables_in file)))) is ∙ s.is ∙ ap (λ (n : ℕ). Some (entry_by file n)) s.same;
      }

  pub tag_lost : (starts : List (Option ℕ)) → AreSlots (start_of (tables_in file)) (length (tables_in file).entries) starts → (j tag : ℕ)
      → tag_of (entry_by file j) ≡ Some tag → get_or starts tag None ≡ None → tagged_by (entries_in (tables_in file)) (entry_by file j) ≡ None
  tag_lost starts are j tag is found =
      ap (option_and_then (entry_numbered (entries_in (tables_in file)))) is ∙ start_none tag (sym (start_anywhere starts are tag) ∙ found)

  pub tag_none : (j : ℕ) → tag_of (entry_by file j) ≡ None → tagged_by (entries_in (tables_in file)) (entry_by file j) ≡ None
  tag_none j is = ap (option_and_then (entry_numbered (entries_in (tables_in file)))) is

-- the symbol at a place among all is the entry of its number
pub symbol_here : (file : CoffFile) (numbers : List ℕ) → AreNumbers file numbers → (i : ℕ) → i < length numbers → slice_get (entries_in (tables_in file)) i ≡ Some (entry_by file (get_or numbers i 0))
symbol_here file numbers all i low =
    ap (λ (es : List Entry). slice_get es i) all.are ∙ slice_get-map (entry_by file) numbers i ∙ ap (option_map (entry_by file)) (slice_get-get_or numbers i 0 low)
