-- What the names of an object export, in order.
use Rattle.std.proofs.Common.{◌≡◌, ◌≢◌, ℕ, zero, suc, ◌+◌, ◌<◌, Bool, true, false, cond, not, ◌||◌, List, [], ◌∷◌, ◌++◌, length, map, get_or, Option, Some, None, refl, sym, ◌∙◌, ap, arith}
use Rattle.std.specs.{Prelude.{bytes_eq, filter, slice_get}, List.{AllByRecursion, IsDistinct, flat_map, list_any}, List.Sorted.{IsSortedBy}}
use Rattle.std.specs.{Option.{option_flatten, option_map, option_map_or}, Ordering.{is_lt, nat_cmp}, Cmp.Lexicographic.{slice_cmp}}
use Rattle.std.proofs.lemmas.{Bool.{true≢false}, Cmp.{nat_list_eq_equiv}, List.{get_or-map, length-map}, List.Sorted.{list_any-IsPermutation}}
use Rattle.std.proofs.lemmas.{Map.Keys.{IsDistinct-IsPermutation}, Option.{none-some, same_Some, slice_get-map}, Slice.Eq.{bytes_eq-Decides}}
use Rattle.oc_base.specs.Formats.{word_for}
use Rattle.oc_linking.specs.{declared.terms.Binding.{Binding}, declared.terms.Binding.TheVariants.{Local, Global, Undefined, Common, Weak}, Numbers.{or_else}}
use Rattle.oc_linking.specs.{Parts.{Symbol, by_name, is_local}, Linking.{Export, export_at, exports}}
use Rattle.oc_neutral.specs.{Objects.{Object}, Faces.{shown_symbol, shown_symbols}, Invariants.{IsObject}}
use Rattle.oc_strings.specs.Repeats.{NameList, name_at, nonlocal_name}
use Rattle.oc_strings.proofs.RepeatLemmas.{named_within}
use Rattle.oc_place.specs.{declared.index.NamedSymbol.{NamedSymbol}, Indexes.{IsIndex, IsNamed, present, texts}, Placings.{Placing}, Written.{names_of}}
use Rattle.oc_place.proofs.IndexLemmas.{length-names, name_from, names, one_name}
use Rattle.oc_link.specs.{Texts.{exported_text, in_order, name_text, nonlocal_names}, Pieces.{export_in, exports_text_of, symbol_text_of}, Values.{given, laid}}
use Rattle.oc_link.proofs.OrderLemmas.{has-in_order, same_order, strict-in_order, strict_sorted}

-- ... the names

-- the names that are there are those of the symbols that are not Local
present_names : (symbols : List Symbol) → present (names_of symbols) ≡ nonlocal_names symbols
present_names [] = refl
present_names (s ∷ symbols) = by (present_names symbols) (is_local s.binding)
  where
    by : present (names_of symbols) ≡ nonlocal_names symbols → (b : Bool)
        → present (cond b None (Some s.name) ∷ names_of symbols)
        ≡ map (λ (y : Symbol). y.name) (cond (not b) (s ∷ filter (λ (y : Symbol). not (is_local y.binding)) symbols) (filter (λ (y : Symbol). not (is_local y.binding)) symbols))
    by rest true = rest
    by rest false = ap (λ xs. s.name ∷ xs) rest

-- a name that is there has a position
position : (all : NameList) (name : List ℕ) → list_any (bytes_eq name) (present all) ≡ true → (k : ℕ) × (name_at all k ≡ Some name)
position [] name e = absurd (true≢false (sym e))
position (None ∷ all) name e = let m = position all name e in (suc m.0, m.1)
position (Some x ∷ all) name e = by (position all name) (bytes_eq name x) refl e
  where
    by : (list_any (bytes_eq name) (present all) ≡ true → (k : ℕ) × (name_at all k ≡ Some name)) → (b : Bool) → bytes_eq name x ≡ b → (b || list_any (bytes_eq name) (present all)) ≡ true
        → (k : ℕ) × (name_at (Some x ∷ all) k ≡ Some name)
    by rest true d h = (0, ap Some (sym ((bytes_eq-Decides name x).0 d)))
    by rest false d h = let m = rest h in (suc m.0, m.1)

-- names of which none is at two positions differ
all_differ : (all : NameList) → ((j k : ℕ) (name : List ℕ) → name_at all j ≡ Some name → name_at all k ≡ Some name → j ≡ k) → IsDistinct bytes_eq (present all)
unfolding IsDistinct
all_differ [] one = record {}
all_differ (None ∷ all) one = all_differ all (λ j k name a b. let e = one (suc j) (suc k) name a b in omega (arith, e))
all_differ (Some x ∷ all) one = (
  each (present all) (by (list_any (bytes_eq x) (present all)) refl),
  all_differ all (λ j k name a b. let e = one (suc j) (suc k) name a b in omega (arith, e)),
)
  where
    by : (b : Bool) → list_any (bytes_eq x) (present all) ≡ b → list_any (bytes_eq x) (present all) ≡ false
    by false e = e
    by true e = let m = position all x e in absurd (let same = one 0 (suc m.0) x refl m.1 in omega (arith, same))

    each : (xs : List (List ℕ)) → list_any (bytes_eq x) xs ≡ false → AllByRecursion (λ y. bytes_eq x y ≡ false) xs
    each [] none = tt
    each (y ∷ xs) none = let m = both (bytes_eq x y) (list_any (bytes_eq x) xs) none in (m.0, each xs m.1)
      where
        both : (a b : Bool) → (a || b) ≡ false → (a ≡ false) × (b ≡ false)
        both true b e = absurd (true≢false e)
        both false b e = (refl, e)

module _ (n : Object) (fine : IsObject n) (entries : List NamedSymbol) (index : IsIndex (names_of (shown_symbols n)) entries) where
  -- the names of the entries are those of the symbols, in order
  ordered : texts entries ≡ in_order (nonlocal_names (shown_symbols n))
  ordered =
      let all : NameList = names n in
      let differ : IsDistinct bytes_eq (present all) = all_differ all (one_name n fine.built.distinct) in
      let strict = strict_sorted (texts entries) sorted (IsDistinct-IsPermutation bytes_eq nat_list_eq_equiv.symm (present all) (texts entries) index.moved differ) in
      same_order (texts entries) (in_order (present all)) strict (strict-in_order (present all) differ)
      (λ q. sym (list_any-IsPermutation (bytes_eq q) (present all) (texts entries) index.moved) ∙ sym (has-in_order (present all) q))
      ∙ ap in_order (present_names (shown_symbols n))
    where
      nobody : NamedSymbol
      nobody = record { name = record { ref_ptr = (0, 0); now = [] }; at = 0 }

      named_at : (k : ℕ) (d : List ℕ) → k < length entries → get_or (texts entries) k d ≡ (get_or entries k nobody).name.now
      named_at k d l = get_or-map (λ (x : NamedSymbol). x.name.now) entries k nobody d l

      sorted : IsSortedBy (λ a b. is_lt (slice_cmp nat_cmp a b)) (texts entries)
      sorted k d low l =
          let long = length-map entries (λ (x : NamedSymbol). x.name.now) in
          ap (λ a. is_lt (slice_cmp nat_cmp a (get_or (texts entries) k d))) (named_at (k + 1) d (omega (arith, l, long)))
          ∙ ap (λ b. is_lt (slice_cmp nat_cmp (get_or entries (k + 1) nobody).name.now b)) (named_at k d (omega (arith, l, long)))
          ∙ index.sorted k nobody low (omega (arith, l, long))

-- ... what they export

module _ {X : Type 0} (of : Symbol → Option X) (name : List ℕ) where
  -- no symbol of the name gives anything
  by_none : (symbols : List Symbol) → ((j : ℕ) (z : Symbol) → slice_get symbols j ≡ Some z → z.name ≡ name → of z ≡ None) → by_name of symbols name ≡ None
  by_none [] none = refl
  by_none (s ∷ symbols) none =
      ap (λ o. or_else o (by_name of symbols name)) (head (bytes_eq s.name name) refl) ∙ by_none symbols (λ j z here is. none (suc j) z here is)
    where
      head : (b : Bool) → bytes_eq s.name name ≡ b → cond b (of s) None ≡ None
      head true e = none 0 s refl ((bytes_eq-Decides s.name name).0 e)
      head false e = refl

  -- only one of the symbols of the name may give something
  by_only : (symbols : List Symbol) (k : ℕ) (y : Symbol) → slice_get symbols k ≡ Some y → y.name ≡ name
      → ((j : ℕ) (z : Symbol) → j ≢ k → slice_get symbols j ≡ Some z → z.name ≡ name → of z ≡ None) → by_name of symbols name ≡ of y
  by_only [] k y here is none = absurd (none-some y here)
  by_only (s ∷ symbols) zero y here is none =
      let same : s ≡ y = same_Some s y here in
      let own : bytes_eq s.name name ≡ true = (bytes_eq-Decides s.name name).1 (ap (λ (z : Symbol). z.name) same ∙ is) in
      ap (λ b. or_else (cond b (of s) None) (by_name of symbols name)) own
      ∙ ap (or_else (of s)) (by_none symbols (λ j z there e. none (suc j) z (λ f. omega (arith, f)) there e)) ∙ alone (of s) ∙ ap of same
    where
      alone : (o : Option X) → or_else o None ≡ o
      alone None = refl
      alone (Some x) = refl
  by_only (s ∷ symbols) (suc k) y here is none =
      ap (λ o. or_else o (by_name of symbols name)) (head (bytes_eq s.name name) refl)
      ∙ by_only symbols k y here is (λ j z other there e. none (suc j) z (λ f. other (omega (arith, f))) there e)
    where
      head : (b : Bool) → bytes_eq s.name name ≡ b → cond b (of s) None ≡ None
      head true e = none 0 s (λ f. omega (arith, f)) refl ((bytes_eq-Decides s.name name).0 e)
      head false e = refl

module _ (n : Object) (fine : IsObject n) (x : Placing) where
  -- what a symbol exports
  abbrev own : Symbol → Option Export
  own s = export_in n x s

  -- a Local exports nothing
  local_none : (s : Symbol) → is_local s.binding ≡ true → own s ≡ None
  local_none s local = by s.binding local
    where
      by : (b : Binding) → is_local b ≡ true → export_at (word_for n.format) (laid n x) (given n x) (shown_symbols n) s.name b ≡ None
      by (Local v) e = refl
      by (Global v) e = absurd (true≢false (sym e))
      by Undefined e = refl
      by (Common size align) e = absurd (true≢false (sym e))
      by (Weak f) e = absurd (true≢false (sym e))

  -- the name at a position, of the symbol there
  name_shown : (j : ℕ) (z : Symbol) → slice_get (shown_symbols n) j ≡ Some z → name_at (names_of (shown_symbols n)) j ≡ nonlocal_name z.binding z.name
  name_shown j z here = ap option_flatten (slice_get-map (λ (y : Symbol). nonlocal_name y.binding y.name) (shown_symbols n) j ∙ ap (option_map (λ (y : Symbol). nonlocal_name y.binding y.name)) here)

  -- an entry exports what its name does
  entry_is : (e : NamedSymbol) → IsNamed (names_of (shown_symbols n)) e
      → symbol_text_of n x e.at ≡ name_text (word_for n.format) (exports (word_for n.format) (laid n x) (given n x) (shown_symbols n)) e.name.now
  entry_is e named =
      let m = name_from n e.at e.name.now named in
      let y : Symbol = shown_symbol n.symbols m.symbol in
      let here : slice_get (shown_symbols n) e.at ≡ Some y = slice_get-map (shown_symbol n.symbols) n.symbols e.at ∙ ap (option_map (shown_symbol n.symbols)) m.here in
      let only : by_name own (shown_symbols n) e.name.now ≡ own y = by_only own e.name.now (shown_symbols n) e.at y here m.same (λ j z other there is. none j z other there is) in
      ap (λ o. option_map_or (λ (s : Symbol). exported_text (word_for n.format) s.name (own s)) o []) here
      ∙ ap (λ name. exported_text (word_for n.format) name (own y)) m.same ∙ ap (exported_text (word_for n.format) e.name.now) (sym only)
    where
      none : (j : ℕ) (z : Symbol) → j ≢ e.at → slice_get (shown_symbols n) j ≡ Some z → z.name ≡ e.name.now → own z ≡ None
      none j z other there is = by (is_local z.binding) refl
        where
          by : (b : Bool) → is_local z.binding ≡ b → own z ≡ None
          by true local = local_none z local
          by false nonlocal = absurd (other (one_name n fine.built.distinct j e.at e.name.now
              (name_shown j z there ∙ ap (λ b. cond b None (Some z.name)) nonlocal ∙ ap Some is) named))

  -- of all
  entries_are : (es : List NamedSymbol) → ((k : ℕ) (d : NamedSymbol) → k < length es → IsNamed (names_of (shown_symbols n)) (get_or es k d))
      → flat_map (λ (e : NamedSymbol). symbol_text_of n x e.at) es
      ≡ flat_map (name_text (word_for n.format) (exports (word_for n.format) (laid n x) (given n x) (shown_symbols n))) (texts es)
  entries_are [] each = refl
  entries_are (e ∷ es) each =
      ap (λ t. t ++ flat_map (λ (f : NamedSymbol). symbol_text_of n x f.at) es) (entry_is e (each 0 e (omega arith)))
      ∙ ap (λ t. name_text (word_for n.format) (exports (word_for n.format) (laid n x) (given n x) (shown_symbols n)) e.name.now ++ t) (entries_are es (λ k d l. each (suc k) d (omega (arith, l))))

  -- in order
  pub exports_are : (entries : List NamedSymbol) → IsIndex (names_of (shown_symbols n)) entries → flat_map (λ (e : NamedSymbol). symbol_text_of n x e.at) entries ≡ exports_text_of n x
  exports_are entries index =
      entries_are entries (λ k d l. index.each k d l)
      ∙ ap (flat_map (name_text (word_for n.format) (exports (word_for n.format) (laid n x) (given n x) (shown_symbols n)))) (ordered n fine entries index)
