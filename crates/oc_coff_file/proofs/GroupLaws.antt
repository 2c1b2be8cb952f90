-- The groups of a canonical file are those of its object.
use Rattle.std.proofs.Common.{◌≡◌, ℕ, zero, suc, ◌+◌, ◌<◌, ◌≤◌, Bool, true, false, cond, ◌&&◌, ◌||◌, List, [], ◌∷◌, ◌++◌, length, map, Option, Some, None, refl, sym, ◌∙◌, ap, subst, arith, append_assoc}
use Rattle.std.specs.{Prelude.{slice_get, nat_eq, nat_le, filter, find, flat_map, bytes_eq}, List.{enumerate_from, list_any}}
use Rattle.std.specs.Option.{option_map_or, option_and_then}
use Rattle.std.proofs.lemmas.{Bool.{true≢false, eqb-true, eq-eqb, ne_eqb, le-leb, and_parts}, Option.{none-some, same_Some, slice_get_within}}
use Rattle.std.proofs.lemmas.{Slice.Eq.{bytes_eq-Decides}, Map.Keys.{any_passes_from_place}}
use Rattle.oc_coff.specs.{declared.form.CoffForm.{CoffForm}, Entries.{Entry, is_in}, Comdat.{symbols_of}, Values.{numbers_by}}
use Rattle.oc_linking.specs.declared.terms.Value.TheVariants as value
use Rattle.oc_linking.specs.{declared.terms.Binding.{Binding}, declared.terms.Binding.TheVariants.{Local, Global, Undefined, Common, Weak}}
use Rattle.oc_neutral.specs.{declared.section.Section.{Section}, declared.symbol.Symbol.{Symbol}, Objects.{Object}, Faces.{key_of}}
use Rattle.oc_neutral.specs.{KeySymbols.{global_place, group_at, is_key_name, is_key_at, lies_in}, Normal.{Place}}
use Rattle.oc_target.specs.Meets.{HasKeySymbol}
use Rattle.oc_shelf.specs.Writing.Parts.{laid, laid_end, behind}
use Rattle.oc_shelf.proofs.WritingLaws.MemberLemmas.{each_map, each_enumerated, member_enumerated, member_map, member_filter}
use Rattle.oc_coff_file.specs.Lines.{Line, SectionLine, OuterLine, placed_symbols, lines_where, section_lines, lines_of, line_size, numbered_lines}
use Rattle.oc_coff_file.specs.Canonical.{leader_number, leads}
use Rattle.oc_coff_file.proofs.{EntryLaws.{made_entry}, LineLaws.{each_filter}}

and_false : (a : Bool) → (a && false) ≡ false
and_false a = grind arith

-- what passes a test that something passes
pub record IsOne {X : Type 0} (test : X → Bool) (xs : List X) : Type 0 where
  pub index : ℕ
  pub one : X
  pub here : slice_get xs index ≡ Some one
  pub passes : test one ≡ true
  pub found : find test xs ≡ Some one

pub first_passing : {X : Type 0} (test : X → Bool) (xs : List X) → list_any test xs ≡ true → IsOne test xs
first_passing test [] e = absurd (true≢false (sym e))
first_passing {X} test (x ∷ xs) e = by (test x) refl e (λ h. first_passing test xs h)
  where
    by : (b : Bool) → test x ≡ b → (b || list_any test xs) ≡ true → (list_any test xs ≡ true → IsOne test xs) → IsOne test (x ∷ xs)
    by true h e later = record { index = 0; one = x; here = refl; passes = h; found = ap (λ c. cond c (Some x) (find test xs)) h }
    by false h e later =
        let o = later e in
        record { index = suc o.index; one = o.one; here = o.here; passes = o.passes; found = ap (λ c. cond c (Some x) (find test xs)) h ∙ o.found }

-- ... what groups say

-- a place that passes a test
placed_by : (test : Place → Bool) (o : Option Place) → option_map_or test o false ≡ true → (q : Place) × (o ≡ Some q) × (test q ≡ true)
placed_by test o e = grind arith

numbered_by : (test : ℕ → Bool) (o : Option ℕ) → option_map_or test o false ≡ true → (g : ℕ) × (o ≡ Some g) × (test g ≡ true)
numbered_by test o e = grind arith

-- what has the place of a Global is one
global_numbers : (b : Binding) (place : Place) → global_place b ≡ Some place → (numbers_by b ≡ (place.1, place.0 + 1)) × (b ≡ Global (value.Place place.0 place.1))
global_numbers (Local v) place e = absurd (none-some place e)
global_numbers (Global (value.Place k offset)) place e =
    let same : (k, offset) ≡ place = same_Some (k, offset) place e in
    (ap (λ (q : Place). (q.1, q.0 + 1)) same, ap (λ (q : Place). Global (value.Place q.0 q.1)) same)
global_numbers (Global (value.Absolute x)) place e = absurd (none-some place e)
global_numbers Undefined place e = absurd (none-some place e)
global_numbers (Common size align) place e = absurd (none-some place e)
global_numbers (Weak f) place e = absurd (none-some place e)

module _ (n : Object) where
  -- the key symbol of the section at a position
  pub record IsKeyOf (k : ℕ) (t : Symbol) : Type 0 where
    pub offset : ℕ
    pub binding : t.binding ≡ Global (value.Place k offset)
    pub group : ℕ
    pub member : group_at n k ≡ Some group
    pub key : key_of n.groups group ≡ Some t.name

  key_named : (name : List ℕ) (g : ℕ) → is_key_name n name g ≡ true → key_of n.groups g ≡ Some name
  key_named name g e = by (key_of n.groups g) e
    where
      by : (o : Option (List ℕ)) → option_map_or (bytes_eq name) o false ≡ true → o ≡ Some name
      by None e = absurd (true≢false (sym e))
      by (Some key) e = ap Some (sym ((bytes_eq-Decides name key).0 e))

  pub key_is : (k : ℕ) (t : Symbol) → is_key_at n k t ≡ true → IsKeyOf k t
  key_is k t e =
      let parts = and_parts _ _ e in
      let q = placed_by (λ (place : Place). nat_eq place.0 k) (global_place t.binding) parts.0 in
      let g = numbered_by (is_key_name n t.name) (group_at n k) parts.1 in
      let at : q.0.0 ≡ k = eqb-true q.0.0 k q.2 in
      record {
        offset = q.0.1;
        binding = (global_numbers t.binding q.0 q.1).1 ∙ ap (λ j. Global (value.Place j q.0.1)) at;
        group = g.0;
        member = g.1;
        key = key_named t.name g.0 g.2;
      }

  -- the section of a group
  of_group : (k g : ℕ) → group_at n k ≡ Some g → (x : Section) × (slice_get n.sections k ≡ Some x) × (x.group ≡ Some g)
  of_group k g e = by (slice_get n.sections k) refl e
    where
      by : (o : Option Section) → slice_get n.sections k ≡ o → option_and_then (λ (x : Section). x.group) o ≡ Some g → (x : Section) × (slice_get n.sections k ≡ Some x) × (x.group ≡ Some g)
      by o h e = grind arith

  -- the section that leads a group
  pub record IsLeader (g : ℕ) : Type 0 where
    pub position : ℕ
    pub section : Section
    pub here : slice_get n.sections position ≡ Some section
    pub group : section.group ≡ Some g
    pub leads : leads n position ≡ true
    pub number : leader_number n g ≡ position + 1

  pub leader_of : (g : ℕ) → HasKeySymbol n g → IsLeader g
  unfolding leader_number
  leader_of g has =
      let own : (lies_in n g has.symbol && is_key_name n has.symbol.name g) ≡ true
      = ap (λ o. option_map_or (λ (place : Place). option_map_or (nat_eq g) (group_at n place.0) false) o false && is_key_name n has.symbol.name g) has.placed
      ∙ ap (λ o. option_map_or (nat_eq g) o false && is_key_name n has.symbol.name g) has.member
      ∙ ap (λ b. b && is_key_name n has.symbol.name g) (eq-eqb g g refl)
      ∙ ap (λ o. option_map_or (bytes_eq has.symbol.name) o false) has.key
      ∙ (bytes_eq-Decides has.symbol.name has.symbol.name).1 refl in
      let o = first_passing (λ (s : Symbol). lies_in n g s && is_key_name n s.name g) n.symbols
      (any_passes_from_place (λ (s : Symbol). lies_in n g s && is_key_name n s.name g) n.symbols has.position has.symbol has.there own) in
      let parts = and_parts _ _ o.passes in
      let q = placed_by (λ (place : Place). option_map_or (nat_eq g) (group_at n place.0) false) (global_place o.one.binding) parts.0 in
      let m = numbered_by (nat_eq g) (group_at n q.0.0) q.2 in
      let same : m.0 ≡ g = sym (eqb-true g m.0 m.2) in
      let member : group_at n q.0.0 ≡ Some g = m.1 ∙ ap Some same in
      let x = of_group q.0.0 g member in
      let key : is_key_at n q.0.0 o.one ≡ true
      = ap (λ p. option_map_or (λ (place : Place). nat_eq place.0 q.0.0) p false && option_map_or (is_key_name n o.one.name) (group_at n q.0.0) false) q.1
      ∙ ap (λ b. b && option_map_or (is_key_name n o.one.name) (group_at n q.0.0) false) (eq-eqb q.0.0 q.0.0 refl)
      ∙ ap (λ p. option_map_or (is_key_name n o.one.name) p false) member ∙ parts.1 in
      record {
        position = q.0.0;
        section = x.0;
        here = x.1;
        group = x.2;
        leads = any_passes_from_place (is_key_at n q.0.0) n.symbols o.index o.one o.here key;
        number = ap (λ p. option_map_or (λ (place : Place). place.0 + 1) (option_and_then (λ (s : Symbol). global_place s.binding) p) 0) o.found
            ∙ ap (λ p. option_map_or (λ (place : Place). place.0 + 1) p 0) q.1;
      }

-- ... the symbols of a section

module _ (w : CoffForm) (n : Object) where
  -- the entries of lines from a number on
  abbrev entries_from : ℕ → List Line → List Entry
  entries_from at lines = map (made_entry w n) (laid behind line_size at lines)

  abbrev in_section : ℕ → Entry → Bool
  in_section k e = is_in (k + 1) e.symbol

  -- lines of which none is in a section
  skipped : (k at : ℕ) (xs ys : List Line) → ((i p : ℕ) (x : Line) → slice_get xs i ≡ Some x → in_section k (made_entry w n (record { at = p; part = x })) ≡ false)
      → filter (in_section k) (entries_from at (xs ++ ys)) ≡ filter (in_section k) (entries_from (laid_end behind line_size at xs) ys)
  skipped k at [] ys none = refl
  skipped k at (x ∷ xs) ys none =
      ap (λ b. cond b (made_entry w n (record { at = at; part = x }) ∷ filter (in_section k) (entries_from (at + line_size x) (xs ++ ys))) (filter (in_section k) (entries_from (at + line_size x) (xs ++ ys)))) (none 0 at x refl)
      ∙ skipped k (at + line_size x) xs ys (λ i p y h. none (suc i) p y h)

  -- a section's own symbol is in it, and in no other
  own_in : (k at : ℕ) (s : Section) → k < 4194304 → in_section k (made_entry w n (record { at = at; part = SectionLine k s })) ≡ true
  own_in k at s low =
      ap (λ b. (b && nat_le (k + 1) 0x7FFFFFFF) && nat_eq (k + 1) (k + 1)) (le-leb 1 (k + 1) (omega arith))
      ∙ ap (λ b. b && nat_eq (k + 1) (k + 1)) (le-leb (k + 1) 0x7FFFFFFF (omega (arith, low))) ∙ eq-eqb (k + 1) (k + 1) refl

  other_in : (j k at : ℕ) (s : Section) → j < k → in_section k (made_entry w n (record { at = at; part = SectionLine j s })) ≡ false
  other_in j k at s low = ap (λ b. (nat_le 1 (j + 1) && nat_le (j + 1) 0x7FFFFFFF) && b) (ne_eqb (j + 1) (k + 1) (λ e. omega (arith, low, e))) ∙ and_false (nat_le 1 (j + 1) && nat_le (j + 1) 0x7FFFFFFF)

  key_number : (j : ℕ) (t : Symbol) → IsKeyOf n j t → (numbers_by t.binding).1 ≡ j + 1
  key_number j t key = ap (λ b. (numbers_by b).1) key.binding

  key_in : (j at i : ℕ) (t : Symbol) → j < 4194304 → IsKeyOf n j t → in_section j (made_entry w n (record { at = at; part = OuterLine i t })) ≡ true
  key_in j at i t low key =
      ap (λ m. (nat_le 1 m && nat_le m 0x7FFFFFFF) && nat_eq m (j + 1)) (key_number j t key)
      ∙ ap (λ b. (b && nat_le (j + 1) 0x7FFFFFFF) && nat_eq (j + 1) (j + 1)) (le-leb 1 (j + 1) (omega arith))
      ∙ ap (λ b. b && nat_eq (j + 1) (j + 1)) (le-leb (j + 1) 0x7FFFFFFF (omega (arith, low))) ∙ eq-eqb (j + 1) (j + 1) refl

  key_out : (j k at i : ℕ) (t : Symbol) → j < k → IsKeyOf n j t → in_section k (made_entry w n (record { at = at; part = OuterLine i t })) ≡ false
  key_out j k at i t low key =
      ap (λ m. (nat_le 1 m && nat_le m 0x7FFFFFFF) && nat_eq m (k + 1)) (key_number j t key)
      ∙ ap (λ b. (nat_le 1 (j + 1) && nat_le (j + 1) 0x7FFFFFFF) && b) (ne_eqb (j + 1) (k + 1) (λ e. omega (arith, low, e))) ∙ and_false (nat_le 1 (j + 1) && nat_le (j + 1) 0x7FFFFFFF)

  -- the lines of key symbols of a section
  abbrev keys_of : ℕ → List Line
  keys_of k = lines_where OuterLine (is_key_at n k) n

  -- a line of a key symbol
  abbrev IsKeyLine : ℕ → Line → Type 0
  IsKeyLine k x = (i : ℕ) × (t : Symbol) × (x ≡ OuterLine i t) × IsKeyOf n k t

  key_lines : (k : ℕ) (i : ℕ) (x : Line) → slice_get (keys_of k) i ≡ Some x → IsKeyLine k x
  key_lines k =
      each_map (IsKeyLine k) (λ (y : ℕ × Symbol). OuterLine y.0 y.1) (filter (λ (y : ℕ × Symbol). is_key_at n k y.1) (placed_symbols n))
      (each_filter (λ (y : ℕ × Symbol). IsKeyLine k (OuterLine y.0 y.1)) (λ (y : ℕ × Symbol). is_key_at n k y.1) (placed_symbols n) (λ j y h e. (y.0, y.1, refl, key_is n k y.1 e)))

  -- the first symbol of a section is its own, and what follows are the lines of key symbols
  pub record BeginsWith (k : ℕ) (s : Section) (es : List Entry) : Type 0 where
    pub at : ℕ
    pub more : List Line
    pub is : es ≡ made_entry w n (record { at = at; part = SectionLine k s }) ∷ filter (in_section k) (entries_from (at + 2) (keys_of k ++ more))

  begins_from : (i j at : ℕ) (xs : List Section) (s : Section) (rest : List Line) → slice_get xs j ≡ Some s → i + j < 4194304
      → BeginsWith (i + j) s (filter (in_section (i + j)) (entries_from at (flat_map (section_lines n) (enumerate_from i xs) ++ rest)))
  begins_from i j at [] s rest here low = absurd (none-some s here)
  begins_from i zero at (x ∷ xs) s rest here low =
      let k : i ≡ i + 0 = omega arith in
      let same : x ≡ s = same_Some x s here in
      let later : List Line = flat_map (section_lines n) (enumerate_from (i + 1) xs) ++ rest in
      subst (λ m. BeginsWith m s (filter (in_section m) (entries_from at (flat_map (section_lines n) (enumerate_from i (x ∷ xs)) ++ rest)))) k (record {
        at = at;
        more = later;
        is = ap (λ ls. filter (in_section i) (entries_from at ls)) (by (keys_of i) (flat_map (section_lines n) (enumerate_from (i + 1) xs)))
            ∙ ap (λ b. cond b (made_entry w n (record { at = at; part = SectionLine i x }) ∷ filter (in_section i) (entries_from (at + 2) (keys_of i ++ later))) (filter (in_section i) (entries_from (at + 2) (keys_of i ++ later))))
            (own_in i at x (omega (arith, low)))
            ∙ ap (λ y. made_entry w n (record { at = at; part = SectionLine i y }) ∷ filter (in_section i) (entries_from (at + 2) (keys_of i ++ later))) same;
      })
    where
      by : (ks ls : List Line) → ((SectionLine i x ∷ ks) ++ ls) ++ rest ≡ SectionLine i x ∷ (ks ++ (ls ++ rest))
      by ks ls = ap (λ zs. SectionLine i x ∷ zs) (append_assoc ks ls rest)
  begins_from i (suc j) at (x ∷ xs) s rest here low =
      let k : i + 1 + j ≡ i + suc j = omega arith in
      let block : List Line = section_lines n (i, x) in
      let later : List Line = flat_map (section_lines n) (enumerate_from (i + 1) xs) in
      let before : i < i + suc j = omega arith in
      let rest_is = subst (λ m. BeginsWith m s (filter (in_section m) (entries_from (laid_end behind line_size at block) (later ++ rest)))) k (begins_from (i + 1) j (laid_end behind line_size at block) xs s rest here (omega (arith, low))) in
      record {
        at = rest_is.at;
        more = rest_is.more;
        is = ap (λ ls. filter (in_section (i + suc j)) (entries_from at ls)) (append_assoc block later rest)
            ∙ skipped (i + suc j) at block (later ++ rest) (none before) ∙ rest_is.is;
      }
    where
      none : i < i + suc j → (a p : ℕ) (y : Line) → slice_get (section_lines n (i, x)) a ≡ Some y → in_section (i + suc j) (made_entry w n (record { at = p; part = y })) ≡ false
      none before zero p y h = subst (λ z. in_section (i + suc j) (made_entry w n (record { at = p; part = z })) ≡ false) (same_Some (SectionLine i x) y h) (other_in i (i + suc j) p x before)
      none before (suc a) p y h =
          let key = key_lines i a y h in
          subst (λ z. in_section (i + suc j) (made_entry w n (record { at = p; part = z })) ≡ false) (sym key.2) (key_out i (i + suc j) p key.0 key.1 before key.3)

  pub first_symbols : (k : ℕ) (s : Section) → slice_get n.sections k ≡ Some s → length n.sections ≤ 4194304 → BeginsWith k s (symbols_of (map (made_entry w n) (numbered_lines w n)) (k + 1))
  unfolding lines_of
  first_symbols k s here few =
      let low : k < length n.sections = slice_get_within n.sections k s here in
      let e : 0 + k ≡ k = omega arith in
      subst (λ m. BeginsWith m s (symbols_of (map (made_entry w n) (numbered_lines w n)) (m + 1))) e (begins_from 0 k 0 n.sections s _ here (omega (arith, low, few)))

  -- the second symbol of a section that leads a group is the key symbol
  pub record IsSecond (k : ℕ) (es : List Entry) : Type 0 where
    pub at : ℕ
    pub position : ℕ
    pub symbol : Symbol
    pub key : IsKeyOf n k symbol
    pub there : slice_get n.symbols position ≡ Some symbol
    pub is : slice_get es 1 ≡ Some (made_entry w n (record { at = at; part = OuterLine position symbol }))

  -- a line of a key symbol, which is there
  abbrev IsPlacedKey : ℕ → Line → Type 0
  IsPlacedKey k x = (i : ℕ) × (t : Symbol) × (x ≡ OuterLine i t) × IsKeyOf n k t × (slice_get n.symbols i ≡ Some t)

  placed_keys : (k : ℕ) (i : ℕ) (x : Line) → slice_get (keys_of k) i ≡ Some x → IsPlacedKey k x
  placed_keys k =
      each_map (IsPlacedKey k) (λ (y : ℕ × Symbol). OuterLine y.0 y.1) (filter (λ (y : ℕ × Symbol). is_key_at n k y.1) (placed_symbols n))
      (each_filter (λ (y : ℕ × Symbol). IsPlacedKey k (OuterLine y.0 y.1)) (λ (y : ℕ × Symbol). is_key_at n k y.1) (placed_symbols n)
      (each_enumerated (λ (y : ℕ × Symbol). is_key_at n k y.1 ≡ true → IsPlacedKey k (OuterLine y.0 y.1)) 0 n.symbols (λ j t here e.
      let at : 0 + j ≡ j = omega arith in
      (0 + j, t, refl, key_is n k t e, ap (slice_get n.symbols) at ∙ here))))

  some_key : (k : ℕ) → leads n k ≡ true → (x : Line) × (slice_get (keys_of k) 0 ≡ Some x)
  some_key k e =
      let o = first_passing (is_key_at n k) n.symbols e in
      let m = member_filter (λ (y : ℕ × Symbol). is_key_at n k y.1) (placed_symbols n) o.index (0 + o.index, o.one) (member_enumerated 0 n.symbols o.index o.one o.here) o.passes in
      first_there (keys_of k) m.0 (OuterLine (0 + o.index) o.one)
      (member_map (λ (y : ℕ × Symbol). OuterLine y.0 y.1) (filter (λ (y : ℕ × Symbol). is_key_at n k y.1) (placed_symbols n)) m.0 (0 + o.index, o.one) m.1)
    where
      first_there : (xs : List Line) (i : ℕ) (x : Line) → slice_get xs i ≡ Some x → (y : Line) × (slice_get xs 0 ≡ Some y)
      first_there [] i x h = absurd (none-some x h)
      first_there (y ∷ xs) i x h = (y, refl)

  pub second_symbol : (k : ℕ) (s : Section) (es : List Entry) → BeginsWith k s es → k < 4194304 → leads n k ≡ true → IsSecond k es
  second_symbol k s es begins low e =
      let x = some_key k e in
      let key = placed_keys k 0 x.0 x.1 in
      let line : slice_get (keys_of k) 0 ≡ Some (OuterLine key.0 key.1) = x.1 ∙ ap Some key.2 in
      record {
        at = begins.at + 2;
        position = key.0;
        symbol = key.1;
        key = key.3;
        there = key.4;
        is = ap (λ zs. slice_get zs 1) begins.is ∙ by (keys_of k) key.0 key.1 line (key_in k (begins.at + 2) key.0 key.1 low key.3);
      }
    where
      by : (ks : List Line) (i : ℕ) (t : Symbol) → slice_get ks 0 ≡ Some (OuterLine i t) → in_section k (made_entry w n (record { at = begins.at + 2; part = OuterLine i t })) ≡ true
          → slice_get (filter (in_section k) (entries_from (begins.at + 2) (ks ++ begins.more))) 0 ≡ Some (made_entry w n (record { at = begins.at + 2; part = OuterLine i t }))
      by [] i t h passes = absurd (none-some (OuterLine i t) h)
      by (y ∷ ks) i t h passes =
          let same : y ≡ OuterLine i t = same_Some y (OuterLine i t) h in
          let rest : Line → List Entry = λ z. filter (in_section k) (entries_from (begins.at + 2 + line_size z) (ks ++ begins.more)) in
          ap (λ z. slice_get (cond (in_section k (made_entry w n (record { at = begins.at + 2; part = z }))) (made_entry w n (record { at = begins.at + 2; part = z }) ∷ rest z) (rest z)) 0) same
          ∙ ap (λ b. slice_get (cond b (made_entry w n (record { at = begins.at + 2; part = OuterLine i t }) ∷ rest (OuterLine i t)) (rest (OuterLine i t))) 0) passes
