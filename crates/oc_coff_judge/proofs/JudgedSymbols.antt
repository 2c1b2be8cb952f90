-- Symbols, judged one after the other.
use Rattle.oc_coff.specs.{Files.{CoffFile, slot_in, tables_in}, declared.constants.TheConstants.{IMAGE_SYM_CLASS_WEAK_EXTERNAL, IMAGE_SYM_DEBUG}}
use Rattle.oc_coff.specs.{declared.symbol.SymbolEntry.{SymbolEntry}, Tables.{Tables, tables_of}, Entries.{Entry, entries_in, is_class, name_of}}
use Rattle.oc_coff.specs.{Sections.{sections_in}, Symbols.{tagged_by}, SymbolFaults.{can_be_tagged, is_external, is_named, symbol_conditions, symbol_stage}}
use Rattle.std.proofs.Common.{◌≡◌, ℕ, zero, suc, ◌+◌, ◌<◌, ◌≤◌, inl, inr, Bool, true, false, not, cond, ◌&&◌, ◌||◌, List, [], ◌∷◌, ◌++◌, length, map, take, get_or, bytes_eq, Option, None, Some, refl, sym, ◌∙◌, ap, arith}
use Rattle.std.specs.{Prelude.{nat_eq, slice_get, MatchOption}, List.{list_any}}
use Rattle.std.specs.Option.{is_some, option_and_then, option_copied, option_flatten, option_map, option_map_or}
use Rattle.std.proofs.lemmas.{Cmp.{nat_list_eq_equiv}, List.{length-map, map-append, take_more}, List.Folds.{list_any_more}}
use Rattle.std.proofs.lemmas.{Option.{get_or_from_slice_get, slice_get-map, slice_get_cases, slice_get_within}, Slice.Eq.{bytes_eq-Decides}}
use denote.Ref.{Bor}
use Rattle.oc_base.specs.{declared.code.Code.TheVariants.{BadSymbol, SymbolKind}, declared.fault.Fault.{Fault}}
use Rattle.oc_linking.specs.{Numbers.{first_upto, or_else}, FirstFault.{Condition, fault_of, first_broken}}
use Rattle.oc_linking.proofs.FirstFaultLaws.{first_upto_none}
use Rattle.oc_strings.specs.{declared.repeats.Repeat.{Repeat}, Repeats.{NameList, name_at, names_of, place_of, repeat_at, first_repeat}}
use Rattle.oc_shelf.proofs.ReadingLaws.StageLemmas.{first_broken-append}
use Rattle.oc_coff_judge.specs.Classed.{classes_of, ends_at, parts_of, places_of, public_name, public_names, symbol_fault_at, tagged_of, tags_of}
use Rattle.oc_coff_judge.specs.Numbered.{AreNumbers, entry_by, entry_place}
use Rattle.oc_coff_judge.specs.Classed as classed
use Rattle.oc_coff_judge.proofs.{EntryLemmas.{number_is}, SoundSymbols.{sound_by}, StartLemmas.{symbol_here}}
use Rattle.oc_shows.proofs.RepeatLaws as laws

-- ... part by part

pub parts_broken : (t : Tables) (e : Entry) (again : Bool)
    → first_broken (parts_of t e again)
    ≡ or_else (first_broken (places_of t e.number e.symbol))
    (or_else (first_broken (classes_of t e.number e.symbol)) (or_else (first_broken (tags_of t e)) (first_broken (classed.names_of t e.number e.symbol (name_of t.strings e) again))))
parts_broken t e again =
    let names : List Condition = classed.names_of t e.number e.symbol (name_of t.strings e) again in
    first_broken-append (places_of t e.number e.symbol) (classes_of t e.number e.symbol ++ (tags_of t e ++ names))
    ∙ ap (or_else (first_broken (places_of t e.number e.symbol)))
    (first_broken-append (classes_of t e.number e.symbol) (tags_of t e ++ names) ∙ ap (or_else (first_broken (classes_of t e.number e.symbol))) (first_broken-append (tags_of t e) names))

-- the same, as it is computed
pub parts_told : (file : CoffFile) (j : ℕ) (s : SymbolEntry) (again : Bool) (place class tag name rest behind all : Option Fault) → s ≡ (entry_by file j).symbol
    → place ≡ first_broken (places_of (tables_in file) j s) → class ≡ first_broken (classes_of (tables_in file) j s) → tag ≡ first_broken (tags_of (tables_in file) (entry_by file j))
    → name ≡ first_broken (classed.names_of (tables_in file) j s (name_of (tables_in file).strings (entry_by file j)) again)
    → behind ≡ or_else tag name → rest ≡ or_else class behind → all ≡ or_else place rest → all ≡ first_broken (parts_of (tables_in file) (entry_by file j) again)
parts_told file j s again place class tag name rest behind all same place_is class_is tag_is name_is behind_is rest_is all_is =
    let t = tables_in file in
    let e = entry_by file j in
    let names : ℕ → SymbolEntry → Option Fault = λ n s. first_broken (classed.names_of t n s (name_of t.strings e) again) in
    let places : ℕ → SymbolEntry → Option Fault = λ n s. first_broken (places_of t n s) in
    let classes : ℕ → SymbolEntry → Option Fault = λ n s. first_broken (classes_of t n s) in
    all_is
    ∙ ap (or_else place) (rest_is ∙ ap (or_else class) behind_is)
    ∙ ap (λ o. or_else o (or_else class (or_else tag name))) (place_is ∙ ap (places j) same ∙ ap (λ (n : ℕ). places n e.symbol) (sym (number_is file j)))
    ∙ ap (λ o. or_else (places e.number e.symbol) (or_else o (or_else tag name))) (class_is ∙ ap (classes j) same ∙ ap (λ (n : ℕ). classes n e.symbol) (sym (number_is file j)))
    ∙ ap (λ o. or_else (places e.number e.symbol) (or_else (classes e.number e.symbol) (or_else o name))) tag_is
    ∙ ap (λ o. or_else (places e.number e.symbol) (or_else (classes e.number e.symbol) (or_else (first_broken (tags_of t e)) o))) (name_is ∙ ap (names j) same ∙ ap (λ (n : ℕ). names n e.symbol) (sym (number_is file j)))
    ∙ sym (parts_broken t e again)

-- whether the name of a symbol stands among those before
abbrev pub stands_again : Tables → List Entry → Entry → Bool
stands_again t earlier e = is_named t.strings (name_of t.strings e) e && list_any (is_named t.strings (name_of t.strings e)) earlier

pub conditions_are : (file : CoffFile) (earlier : List Entry) (e : Entry) → symbol_conditions (tables_in file) earlier e ≡ parts_of (tables_in file) e (stands_again (tables_in file) earlier e)
unfolding symbol_conditions tables_of
conditions_are file earlier e = refl

-- ... repeats

module _ (t : Tables) where
  name_here : (k : ℕ) (e : Entry) → slice_get (entries_in t) k ≡ Some e → name_at (public_names t) k ≡ public_name t.strings e
  name_here k e here = ap option_flatten (slice_get-map (public_name t.strings) (entries_in t) k ∙ ap (option_map (public_name t.strings)) here)

  abbrev place : List ℕ → ℕ → Option ℕ
  place name k = cond (option_map_or (bytes_eq name) (name_at (public_names t) k) false) (Some k) None

  -- a symbol has a name exactly where the name has a place at it
  place_some : (name : List ℕ) (k : ℕ) (e : Entry) → slice_get (entries_in t) k ≡ Some e → is_some (place name k) ≡ is_named t.strings name e
  place_some name k e here =
      ap (λ (o : Option (List ℕ)). is_some (cond (option_map_or (bytes_eq name) o false) (Some k) None)) (name_here k e here) ∙ by (is_external e.symbol && not (nat_eq e.symbol.SectionNumber IMAGE_SYM_DEBUG))
    where
      some : (b : Bool) → is_some (cond b (Some k) None) ≡ b
      some true = refl
      some false = refl

      by : (b : Bool) → is_some (cond (option_map_or (bytes_eq name) (cond b (Some (name_of t.strings e)) None) false) (Some k) None) ≡ (b && bytes_eq (name_of t.strings e) name)
      by true = some (bytes_eq name (name_of t.strings e)) ∙ nat_list_eq_equiv.symm name (name_of t.strings e)
      by false = refl

  -- a name is among those of the first n symbols exactly where it has a place there
  has_place : (name : List ℕ) (n : ℕ) → n ≤ length (entries_in t) → list_any (is_named t.strings name) (take n (entries_in t)) ≡ is_some (place_of (public_names t) n name)
  has_place name zero low = none (entries_in t)
    where
      none : (es : List Entry) → list_any (is_named t.strings name) (take 0 es) ≡ false
      none [] = refl
      none (e ∷ es) = refl
  has_place name (suc n) low = elim (slice_get_cases (entries_in t) n).1 [
    | inl f ↦ more f.0 f.2 (has_place name n (omega (arith, low)))
    | inr past ↦ absurd (omega (arith, past.0, low))
  ]
    where
      joined : (o p : Option ℕ) → is_some (or_else o p) ≡ (is_some o || is_some p)
      joined None p = refl
      joined (Some x) p = refl

      more : (e : Entry) → slice_get (entries_in t) n ≡ Some e → list_any (is_named t.strings name) (take n (entries_in t)) ≡ is_some (place_of (public_names t) n name)
          → list_any (is_named t.strings name) (take (suc n) (entries_in t)) ≡ is_some (or_else (place_of (public_names t) n name) (place name n))
      more e here before =
          let next : suc n ≡ n + 1 = omega arith in
          ap (λ (k : ℕ). list_any (is_named t.strings name) (take k (entries_in t))) next
          ∙ list_any_more (is_named t.strings name) (entries_in t) n e (omega (arith, low))
          ∙ ap (λ (x : Entry). list_any (is_named t.strings name) (take n (entries_in t)) || is_named t.strings name x) (get_or_from_slice_get (entries_in t) n e e here)
          ∙ ap (λ b. list_any (is_named t.strings name) (take n (entries_in t)) || b) (sym (place_some name n e here))
          ∙ ap (λ b. b || is_some (place name n)) before
          ∙ sym (joined (place_of (public_names t) n name) (place name n))

  -- a symbol's name stands among those before exactly where a repeat ends there
  pub again_at : (k : ℕ) (e : Entry) → slice_get (entries_in t) k ≡ Some e → stands_again t (take k (entries_in t)) e ≡ is_some (repeat_at (public_names t) k)
  again_at k e here =
      by (is_external e.symbol && not (nat_eq e.symbol.SectionNumber IMAGE_SYM_DEBUG)) (has_place (name_of t.strings e) k (omega (arith, slice_get_within (entries_in t) k e here)))
      ∙ sym (ap (λ (o : Option (List ℕ)). is_some (option_map (λ p. pair p) (option_and_then (place_of (public_names t) k) o))) (name_here k e here))
    where
      pair : ℕ → Repeat
      pair p = record { earlier = p; later = k }

      mapped : (o : Option ℕ) → is_some o ≡ is_some (option_map (λ p. pair p) o)
      mapped None = refl
      mapped (Some p) = refl

      before : Bool
      before = list_any (is_named t.strings (name_of t.strings e)) (take k (entries_in t))

      by : (b : Bool) → before ≡ is_some (place_of (public_names t) k (name_of t.strings e))
          → ((b && bytes_eq (name_of t.strings e) (name_of t.strings e)) && before) ≡ is_some (option_map (λ p. pair p) (option_and_then (place_of (public_names t) k) (cond b (Some (name_of t.strings e)) None)))
      by true has = ap (λ b. b && before) ((bytes_eq-Decides (name_of t.strings e) (name_of t.strings e)).1 refl) ∙ has ∙ mapped (place_of (public_names t) k (name_of t.strings e))
      by false has = refl

-- the fault of symbol i of all
pub symbol_broken : (file : CoffFile) (numbers : List ℕ) → AreNumbers file numbers → (i : ℕ) → i < length numbers
    → fault_of (symbol_stage (tables_in file)) i ≡ first_broken (parts_of (tables_in file) (entry_by file (get_or numbers i 0)) (is_some (repeat_at (public_names (tables_in file)) i)))
symbol_broken file numbers all i low =
    let t = tables_in file in
    let e = entry_by file (get_or numbers i 0) in
    let here = symbol_here file numbers all i low in
    ap (λ (o : Option Entry). first_broken (option_map_or (symbol_conditions t (take i (entries_in t))) o [])) here
    ∙ ap first_broken (conditions_are file (take i (entries_in t)) e)
    ∙ ap (λ b. first_broken (parts_of t e b)) (again_at t i e here)

-- ... while no symbol has a fault

-- a symbol without a fault has a name of its own
no_repeat : (t : Tables) (k : ℕ) → k < length (entries_in t) → fault_of (symbol_stage t) k ≡ None → is_some (repeat_at (public_names t) k) ≡ false
no_repeat t k low clean = elim (slice_get_cases (entries_in t) k).1 [
  | inl f ↦
      sym (again_at t k f.0 f.2)
      ∙ (sound_by t (take k (entries_in t)) f.0 (sym (ap (λ (o : Option Entry). first_broken (option_map_or (symbol_conditions t (take k (entries_in t))) o [])) f.2) ∙ clean)).once
  | inr past ↦ absurd (omega (arith, past.0, low))
]

-- the first repeat ends at a symbol exactly where its name stood before
pub repeat_ends : (t : Tables) (found : Option Repeat) (i : ℕ) → found ≡ first_repeat (public_names t) → i < length (entries_in t) → first_upto (fault_of (symbol_stage t)) i ≡ None
    → ends_at found i ≡ is_some (repeat_at (public_names t) i)
repeat_ends t found i is low clean =
    laws.repeat_ends (public_names t) found i is (omega (arith, low, length-map (entries_in t) (public_name t.strings)))
    (λ j before. no_repeat t j (omega (arith, before, low)) (first_upto_none (fault_of (symbol_stage t)) i clean j before))

-- ... lists of names

-- what a slice holds, as a name
pub copied : (o : Option (Bor (List ℕ))) (p : Option (List ℕ)) → MatchOption o (p ≡ None) (λ (name : Bor (List ℕ)). p ≡ Some name.now) → option_copied o ≡ p
copied None p e = sym e
copied (Some x) p e = sym e

-- one name more
pub names_more : (slices : List (Option (Bor (List ℕ)))) (x : Option (Bor (List ℕ))) (item : ℕ → Option (List ℕ)) (numbers : List ℕ) (i : ℕ) → i < length numbers
    → names_of slices ≡ map item (take i numbers) → option_copied x ≡ item (get_or numbers i 0) → names_of (slices ++ x ∷ []) ≡ map item (take (i + 1) numbers)
names_more slices x item numbers i low so is =
    map-append option_copied slices (x ∷ []) ∙ ap (λ (names : NameList). names ++ option_copied x ∷ []) so ∙ ap (λ (o : Option (List ℕ)). map item (take i numbers) ++ o ∷ []) is
    ∙ sym (ap (map item) (take_more numbers i 0 low) ∙ map-append item (take i numbers) (get_or numbers i 0 ∷ []))

-- all names
pub names_end : (file : CoffFile) (numbers : List ℕ) → AreNumbers file numbers → map (λ j. public_name (tables_in file).strings (entry_by file j)) numbers ≡ public_names (tables_in file)
names_end file numbers all = two numbers ∙ sym (ap (map (public_name (tables_in file).strings)) all.are)
  where
    two : (ns : List ℕ) → map (λ j. public_name (tables_in file).strings (entry_by file j)) ns ≡ map (public_name (tables_in file).strings) (map (entry_by file) ns)
    two [] = refl
    two (n ∷ ns) = ap (λ (names : NameList). public_name (tables_in file).strings (entry_by file n) ∷ names) (two ns)

-- ... one symbol more

pub symbols_long : (file : CoffFile) (numbers : List ℕ) → AreNumbers file numbers → length (entries_in (tables_in file)) ≡ length numbers
symbols_long file numbers all = ap length all.are ∙ length-map numbers (entry_by file)

-- the fault of symbol i of all, as it is computed
pub judged_fault : (file : CoffFile) (numbers : List ℕ) (found : Option Repeat) (i j : ℕ) (again : Bool) (own : Option Fault) → AreNumbers file numbers → i < length numbers
    → found ≡ first_repeat (public_names (tables_in file)) → first_upto (fault_of (symbol_stage (tables_in file))) i ≡ None
    → j ≡ get_or numbers i 0 → again ≡ ends_at found i → own ≡ first_broken (parts_of (tables_in file) (entry_by file j) again) → fault_of (symbol_stage (tables_in file)) i ≡ own
judged_fault file numbers found i j again own all low repeat clean j_is again_is own_is =
    let t = tables_in file in
    let long = symbols_long file numbers all in
    let same : again ≡ is_some (repeat_at (public_names t) i) = again_is ∙ repeat_ends t found i repeat (omega (arith, low, long)) clean in
    symbol_broken file numbers all i low
    ∙ ap (λ b. first_broken (parts_of t (entry_by file (get_or numbers i 0)) b)) (sym same)
    ∙ ap (λ (k : ℕ). first_broken (parts_of t (entry_by file k) again)) (sym j_is)
    ∙ sym own_is

-- the symbol of an entry, as it is read
pub entry_symbol : (file : CoffFile) (j : ℕ) (s : SymbolEntry) → s ≡ (slot_in file (entry_place file j)).symbol → s ≡ (entry_by file j).symbol
unfolding entry_by
entry_symbol file j s is = is

-- ... what a symbol tags

module _ (file : CoffFile) (j : ℕ) (s : SymbolEntry) (b : Bool) (same : s ≡ (slot_in file (entry_place file j)).symbol) (is : b ≡ is_class IMAGE_SYM_CLASS_WEAK_EXTERNAL s) where
  tags_by : first_broken (tags_of (tables_in file) (entry_by file j)) ≡ first_broken (cond b (tagged_of (tables_in file) j (tagged_by (entries_in (tables_in file)) (entry_by file j))) [])
  tags_by =
      ap (λ b. first_broken (cond b (tagged_of (tables_in file) (entry_by file j).number (tagged_by (entries_in (tables_in file)) (entry_by file j))) []))
      (ap (is_class IMAGE_SYM_CLASS_WEAK_EXTERNAL) (sym (entry_symbol file j s same)) ∙ sym is)
      ∙ ap (λ (n : ℕ). first_broken (cond b (tagged_of (tables_in file) n (tagged_by (entries_in (tables_in file)) (entry_by file j))) [])) (number_is file j)

  pub tags_none : b ≡ false → None ≡ first_broken (tags_of (tables_in file) (entry_by file j))
  tags_none strong = sym (tags_by ∙ ap (λ b. first_broken (cond b (tagged_of (tables_in file) j (tagged_by (entries_in (tables_in file)) (entry_by file j))) [])) strong)

  pub tags_lost : b ≡ true → tagged_by (entries_in (tables_in file)) (entry_by file j) ≡ None → Some (symbol_fault_at (tables_in file) j BadSymbol) ≡ first_broken (tags_of (tables_in file) (entry_by file j))
  tags_lost weak lost =
      sym (tags_by ∙ ap (λ b. first_broken (cond b (tagged_of (tables_in file) j (tagged_by (entries_in (tables_in file)) (entry_by file j))) [])) weak
      ∙ ap (λ (o : Option Entry). first_broken (tagged_of (tables_in file) j o)) lost)

  pub tags_told : (d : ℕ) (x : SymbolEntry) (can : Bool) → b ≡ true → tagged_by (entries_in (tables_in file)) (entry_by file j) ≡ Some (entry_by file d) → x ≡ (slot_in file (entry_place file d)).symbol
      → can ≡ can_be_tagged (sections_in (tables_in file)) x → cond can None (Some (symbol_fault_at (tables_in file) j SymbolKind)) ≡ first_broken (tags_of (tables_in file) (entry_by file j))
  tags_told d x can weak found x_is can_is =
      either can
      ∙ sym (tags_by ∙ ap (λ b. first_broken (cond b (tagged_of (tables_in file) j (tagged_by (entries_in (tables_in file)) (entry_by file j))) [])) weak
      ∙ ap (λ (o : Option Entry). first_broken (tagged_of (tables_in file) j o)) found
      ∙ ap (λ b. cond (not b) (Some (symbol_fault_at (tables_in file) j SymbolKind)) None) (ap (can_be_tagged (sections_in (tables_in file))) (sym (entry_symbol file d x x_is)) ∙ sym can_is))
    where
      either : (c : Bool) → cond c None (Some (symbol_fault_at (tables_in file) j SymbolKind)) ≡ cond (not c) (Some (symbol_fault_at (tables_in file) j SymbolKind)) None
      either true = refl
      either false = refl
