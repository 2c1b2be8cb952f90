-- Which section holds an address, as it is looked up.
use Rattle.std.proofs.Common.{◌≡◌, ℕ, zero, suc, ◌+◌, ◌-◌, ◌^◌, ◌<◌, ◌≤◌, inl, inr, ◌⊎◌, Bool, true, false, cond, eqb, List, [], ◌∷◌, length, get_or, Option, None, Some, refl, sym, ◌∙◌, ap, subst, arith, zero-add}
use Rattle.std.specs.{Prelude.{not, ◌&&◌, ◌||◌, nat_eq, nat_le, nat_lt, is_none, is_some, find, slice_index_or, IfSome}, Cmp.{eq_by_cmp_equiv, nat_cmp_total}}
use Rattle.std.specs.List.{All, AllByRecursion, Any, Contains, cons_option, enumerate_from, filter_map}
use Rattle.std.specs.{List.Sorted.{IsNonDecreasingBy, IsPartitionPoint, IsStrictlySortedBy}, Map.{keys_of}, Option.{option_map}, Ordering.{is_eq, nat_cmp}}
use Rattle.std.specs.declared.cmp.Ordering.TheVariants.{Less}
use Rattle.std.proofs.lemmas.{List.{get_or-map, length-map}, Bool.{cases_eq, cases_lt, eq-eqb, ne_eqb, true≢false}, Bool.Decides.{nat_tests}}
use Rattle.std.proofs.lemmas.List.Elements.{All-cons, All-contains, All-contains_itself, All-from_get_or, All-head, All-nil, All-tail, All-weaker, Contains-get_or}
use Rattle.std.proofs.lemmas.{Map.Keys.{IsDistinct-from_sorted, sorted_head, sorted_tail}, Map.Views.{lookup-from_Contains}, Option.{none-some}}
use Rattle.oc_linking.specs.Numbers.{first_upto, or_else}
use Rattle.oc_linking.proofs.FirstFaultLaws.{first_upto_none}
use Rattle.oc_shelf.proofs.ReadingLaws.StageLemmas.{first_upto-head, first_upto-same, upto_none}
use Rattle.oc_macho_judge.specs.declared.holders.Edge.{Edge}
use Rattle.oc_macho_judge.specs.Holders.{AreEdges, AreHolders, AreInOrder, IsAbove, IsEdgeOf, IsLastUpto, edge_of, first_among, has_byte, holder_by, is_edge, number_by, places_of}
use Rattle.oc_macho.specs.{declared.section_header.SectionHeader.{SectionHeader}, Tables.{SectionTable, Tables}, Sections.{holder_of, lies_at, lies_in}}
use Rattle.oc_macho.specs.Framed.{no_header, table_at}

-- ... by what is searched

-- the first of the numbered sections that passes a test
searched : (test : SectionHeader → Bool) (n : ℕ) (xs : List SectionTable) → option_map (λ (x : ℕ × SectionTable). x.0) (find (λ (x : ℕ × SectionTable). test x.1.header) (enumerate_from n xs))
    ≡ first_upto (λ i. cond (test (slice_index_or xs i (record { header = no_header; raw = []; relocs = [] })).header) (Some (i + n)) None) (length xs)
searched test n [] = refl
searched test n (x ∷ xs) =
    by (searched test (n + 1) xs) (test x.header) refl
    ∙ sym (first_upto-head (λ i. cond (test (slice_index_or (x ∷ xs) i (record { header = no_header; raw = []; relocs = [] })).header) (Some (i + n)) None) (length xs))
  where
    rest : first_upto (λ i. cond (test (slice_index_or xs i (record { header = no_header; raw = []; relocs = [] })).header) (Some (i + (n + 1))) None) (length xs)
        ≡ first_upto (λ i. cond (test (slice_index_or xs i (record { header = no_header; raw = []; relocs = [] })).header) (Some (suc i + n)) None) (length xs)
    rest =
        first_upto-same (λ i. cond (test (slice_index_or xs i (record { header = no_header; raw = []; relocs = [] })).header) (Some (i + (n + 1))) None)
        (λ i. cond (test (slice_index_or xs i (record { header = no_header; raw = []; relocs = [] })).header) (Some (suc i + n)) None) (length xs)
        (λ i low. let e : i + (n + 1) ≡ suc i + n = omega arith in ap (λ (k : ℕ). cond (test (slice_index_or xs i (record { header = no_header; raw = []; relocs = [] })).header) (Some k) None) e)

    by : option_map (λ (x : ℕ × SectionTable). x.0) (find (λ (x : ℕ × SectionTable). test x.1.header) (enumerate_from (n + 1) xs))
        ≡ first_upto (λ i. cond (test (slice_index_or xs i (record { header = no_header; raw = []; relocs = [] })).header) (Some (i + (n + 1))) None) (length xs)
        → (b : Bool) → test x.header ≡ b
        → option_map (λ (x : ℕ × SectionTable). x.0) (cond b (Some (n, x)) (find (λ (x : ℕ × SectionTable). test x.1.header) (enumerate_from (n + 1) xs)))
        ≡ or_else (cond (test x.header) (Some (0 + n)) None) (first_upto (λ i. cond (test (slice_index_or xs i (record { header = no_header; raw = []; relocs = [] })).header) (Some (suc i + n)) None) (length xs))
    by behind true is = ap (λ (k : ℕ). Some k) (sym (zero-add n)) ∙ ap (λ (b : Bool). or_else (cond b (Some (0 + n)) None) (first_upto (λ i. cond (test (slice_index_or xs i (record { header = no_header; raw = []; relocs = [] })).header) (Some (suc i + n)) None) (length xs))) (sym is)
    by behind false is = behind ∙ rest ∙ ap (λ (b : Bool). or_else (cond b (Some (0 + n)) None) (first_upto (λ i. cond (test (slice_index_or xs i (record { header = no_header; raw = []; relocs = [] })).header) (Some (suc i + n)) None) (length xs))) (sym is)

mapped_or : {X Y : Type 0} (f : X → Y) (a b : Option X) → option_map f (or_else a b) ≡ or_else (option_map f a) (option_map f b)
mapped_or f None b = refl
mapped_or f (Some x) b = refl

-- the section that holds an address: the first that has a byte there, or else the first that begins or ends there
holder_is : (t : Tables) (v : ℕ) → holder_of t v ≡ or_else (first_among (has_byte v) t (length t.sections)) (first_among (is_edge v) t (length t.sections))
unfolding holder_of
holder_is t v =
    mapped_or (λ (x : ℕ × SectionTable). x.0) (find (lies_in v) (enumerate_from 1 t.sections)) (find (lies_at v) (enumerate_from 1 t.sections))
    ∙ ap (λ (o : Option ℕ). or_else o (option_map (λ (x : ℕ × SectionTable). x.0) (find (lies_at v) (enumerate_from 1 t.sections)))) (searched (has_byte v) 1 t.sections)
    ∙ ap (or_else (first_among (has_byte v) t (length t.sections))) (searched (is_edge v) 1 t.sections)

-- ... looked up

-- where a section begins or ends there is a number
edge_there : (t : Tables) (i q : ℕ) → i < length t.sections → is_edge q (table_at t i).header ≡ true → is_some (first_among (is_edge q) t (length t.sections)) ≡ true
edge_there t i q low is = by (first_among (is_edge q) t (length t.sections)) refl
  where
    by : (o : Option ℕ) → first_among (is_edge q) t (length t.sections) ≡ o → is_some o ≡ true
    by (Some k) e = refl
    by None e =
        absurd (none-some (i + 1) (sym (first_upto_none (λ i. cond (is_edge q (table_at t i).header) (Some (i + 1)) None) (length t.sections) e i low) ∙ ap (λ (b : Bool). cond b (Some (i + 1)) None) is))

begins_there : (addr size : ℕ) → (nat_eq addr addr || nat_eq addr (addr + size)) ≡ true
begins_there addr size = ap (λ (b : Bool). b || nat_eq addr (addr + size)) (eq-eqb addr addr refl)

ends_there : (addr size : ℕ) → (nat_eq (addr + size) addr || nat_eq (addr + size) (addr + size)) ≡ true
ends_there addr size = ap (λ (b : Bool). nat_eq (addr + size) addr || b) (eq-eqb (addr + size) (addr + size) refl) ∙ last (nat_eq (addr + size) addr)
  where
    last : (b : Bool) → (b || true) ≡ true
    last true = refl
    last false = refl

-- a section has a byte at an address exactly where it has one at the greatest edge up to it
same_byte : (v at addr end : ℕ) → at ≤ v → (addr ≤ v → addr ≤ at) → (end ≤ v → end ≤ at) → (nat_le addr v && nat_lt v end) ≡ (nat_le addr at && nat_lt at end)
same_byte v at addr end low first last = elim (cases_lt v addr) [
  | inl before ↦ grind (arith, nat_tests)
  | inr behind ↦
      let begins = first behind in
      elim (cases_lt v end) [
        | inl inside ↦ grind (arith, nat_tests)
        | inr past ↦ let ends = last past in grind (arith, nat_tests)
      ]
]

-- where an edge is the greatest up to an address, it tells the section that holds this
told : (t : Tables) (v : ℕ) (e : Edge) → IsEdgeOf t e → e.at ≤ v → ((q : ℕ) → q ≤ v → is_some (first_among (is_edge q) t (length t.sections)) ≡ true → q ≤ e.at) → holder_by e v ≡ holder_of t v
told t v e is low greatest = sym (holder_is t v ∙ ap (λ (o : Option ℕ). or_else o (first_among (is_edge v) t (length t.sections))) (same ∙ is.byte) ∙ ap (or_else e.byte) (beside (first_among (is_edge v) t (length t.sections)) refl))
  where
    pointwise : (i : ℕ) → i < length t.sections → cond (has_byte v (table_at t i).header) (Some (i + 1)) None ≡ cond (has_byte e.at (table_at t i).header) (Some (i + 1)) None
    pointwise i inside =
        let h = (table_at t i).header in
        ap (λ (b : Bool). cond b (Some (i + 1)) None)
        (same_byte v e.at h.addr (h.addr + h.size) low (λ le. greatest h.addr le (edge_there t i h.addr inside (begins_there h.addr h.size)))
        (λ le. greatest (h.addr + h.size) le (edge_there t i (h.addr + h.size) inside (ends_there h.addr h.size))))

    same : first_among (has_byte v) t (length t.sections) ≡ first_among (has_byte e.at) t (length t.sections)
    same =
        first_upto-same (λ i. cond (has_byte v (table_at t i).header) (Some (i + 1)) None) (λ i. cond (has_byte e.at (table_at t i).header) (Some (i + 1)) None) (length t.sections) pointwise

    beside : (o : Option ℕ) → first_among (is_edge v) t (length t.sections) ≡ o → o ≡ cond (eqb e.at v) (Some e.number) None
    beside o there = elim (cases_eq e.at v) [
      | inl here ↦ sym there ∙ ap (λ (q : ℕ). first_among (is_edge q) t (length t.sections)) (sym here) ∙ is.number ∙ sym (ap (λ (b : Bool). cond b (Some e.number) None) (eq-eqb e.at v here))
      | inr apart ↦ none o there apart ∙ sym (ap (λ (b : Bool). cond b (Some e.number) None) (ne_eqb e.at v apart))
    ]
      where
        none : (o : Option ℕ) → first_among (is_edge v) t (length t.sections) ≡ o → (e.at ≡ v → ⊥) → o ≡ None
        none None there apart = refl
        none (Some k) there apart = let up : v ≤ e.at = greatest v (omega arith) (ap is_some there) in absurd (apart (omega (arith, low, up)))

-- addresses of edges that are in order are in order
pub places_in_order : (edges : List Edge) → AreInOrder edges → IsNonDecreasingBy (λ (n : ℕ). n) (places_of edges)
places_in_order edges order i j d le low =
    let inside : j < length edges = subst (λ n. j < n) (length-map edges (λ (e : Edge). e.at)) low in
    let first = get_or-map (λ (e : Edge). e.at) edges i none d (omega (arith, le, inside)) in
    let second = get_or-map (λ (e : Edge). e.at) edges j none d inside in
    let up = order i j none le inside in
    omega (arith, first, second, up)
  where
    none : Edge
    none = record { at = 0; number = 0; byte = None }

-- a point that parts the addresses parts the edges
pub point_of_edges : (v upto : ℕ) (edges : List Edge) (places : List ℕ) → places ≡ places_of edges → IsPartitionPoint (λ n. nat_le n v ≡ true) (λ n. nat_le n v ≡ false) places upto → upto ≤ length places
    → IsPartitionPoint (λ (e : Edge). nat_le e.at v ≡ true) (λ (e : Edge). nat_le e.at v ≡ false) edges upto
point_of_edges v upto edges places are point bound = (
  λ k d from low. subst (λ n. nat_le n v ≡ true) (same k d (omega (arith, low, inside))) (point.0 k d.at from low),
  λ k d from low. subst (λ n. nat_le n v ≡ false) (same k d low) (point.1 k d.at from (omega (arith, low, long))),
)
  where
    long : length places ≡ length edges
    long = ap length are ∙ length-map edges (λ (e : Edge). e.at)

    inside : upto ≤ length edges
    inside = omega (arith, bound, long)

    same : (k : ℕ) (d : Edge) → k < length edges → get_or places k d.at ≡ (get_or edges k d).at
    same k d low = ap (λ ps. get_or ps k d.at) are ∙ get_or-map (λ (e : Edge). e.at) edges k d d.at low

-- where a point parts the edges up to an address from those above it, the one before the point is the last of them
pub last_before : (v : ℕ) (edges : List Edge) (d : Edge) (upto : ℕ) → AreInOrder edges → (upto ≡ 0 → ⊥) → upto ≤ length edges
    → IsPartitionPoint (λ (e : Edge). nat_le e.at v ≡ true) (λ (e : Edge). nat_le e.at v ≡ false) edges upto → IsLastUpto v edges (get_or edges (upto - 1) d)
last_before v edges d upto order some inside point = record {
  held = Contains-get_or edges (upto - 1) d (omega (arith, some, inside));
  below = let low = point.0 (upto - 1) d (omega arith) (omega (arith, some)) in grind (arith, nat_tests, low);
  greatest = All-from_get_or (λ (x : Edge). x.at ≤ v → x.at ≤ (get_or edges (upto - 1) d).at) edges d (λ k low le. elim (cases_lt k upto) [
    | inl before ↦ order k (upto - 1) d (omega (arith, before)) (omega (arith, some, inside))
    | inr behind ↦ let up = point.1 k d behind low in absurd (grind (arith, nat_tests, up, le))
  ]);
}

pub none_before : (v : ℕ) (edges : List Edge) (upto : ℕ) → upto ≡ 0 → IsPartitionPoint (λ (e : Edge). nat_le e.at v ≡ true) (λ (e : Edge). nat_le e.at v ≡ false) edges upto → All (IsAbove v) edges
none_before v edges upto none point k d low = let up = point.1 k d (omega (arith, none)) low in grind (arith, nat_tests, up)

-- the last edge up to an address of 32 bits tells the section that holds it
pub looked_up : (t : Tables) (v : ℕ) (edges : List Edge) (e : Edge) → v < 2 ^ 32 → AreHolders t edges → IsLastUpto v edges e → holder_by e v ≡ holder_of t v
looked_up t v edges e small are last = told t v e (All-contains (IsEdgeOf t) edges e are.each last.held) last.below greatest
  where
    greatest : (q : ℕ) → q ≤ v → is_some (first_among (is_edge q) t (length t.sections)) ≡ true → q ≤ e.at
    greatest q le is =
        let x = are.all q (omega (arith, le, small)) is in
        subst (λ (n : ℕ). n ≤ e.at) x.4 (All-contains (λ (x : Edge). x.at ≤ v → x.at ≤ e.at) edges x.1 last.greatest (x.0, x.2, x.3) (subst (λ (n : ℕ). n ≤ v) (sym x.4) le))

-- where all edges are above an address of 32 bits, none holds it
pub none_up : (t : Tables) (v : ℕ) (edges : List Edge) → v < 2 ^ 32 → AreHolders t edges → All (IsAbove v) edges → None ≡ holder_of t v
none_up t v edges small are above =
    sym (holder_is t v ∙ ap (λ (o : Option ℕ). or_else o (first_among (is_edge v) t (length t.sections))) (upto_none (λ i. cond (has_byte v (table_at t i).header) (Some (i + 1)) None) (length t.sections) pointwise)
    ∙ beside (first_among (is_edge v) t (length t.sections)) refl)
  where
    free : (q : ℕ) → q ≤ v → is_some (first_among (is_edge q) t (length t.sections)) ≡ true → ⊥
    free q le is =
        let x = are.all q (omega (arith, le, small)) is in
        let up : v < x.1.at = All-contains (IsAbove v) edges x.1 above (x.0, x.2, x.3) in
        let same : x.1.at ≡ q = x.4 in
        absurd (omega (arith, up, same, le))

    outside : (addr end : ℕ) → (addr ≤ v → ⊥) → (nat_le addr v && nat_lt v end) ≡ false
    outside addr end h = elim (cases_lt v addr) [
      | inl before ↦ grind (arith, nat_tests)
      | inr behind ↦ absurd (h behind)
    ]

    pointwise : (i : ℕ) → i < length t.sections → cond (has_byte v (table_at t i).header) (Some (i + 1)) None ≡ None
    pointwise i inside =
        let h = (table_at t i).header in
        ap (λ (b : Bool). cond b (Some (i + 1)) None) (outside h.addr (h.addr + h.size) (λ le. free h.addr le (edge_there t i h.addr inside (begins_there h.addr h.size))))

    beside : (o : Option ℕ) → first_among (is_edge v) t (length t.sections) ≡ o → o ≡ None
    beside None there = refl
    beside (Some k) there = absurd (free v (omega arith) (ap is_some there))

-- ... listed

-- what holds of one more, where there is one, and of each
each-option : {X : Type 0} (P : X → Type 0) (o : Option X) (xs : List X) → IfSome o P → All P xs → All P (cons_option o xs)
each-option P None xs here all = all
each-option P (Some x) xs here all = All-cons P x xs here all

any-option : {X : Type 0} (P : X → Type 0) (o : Option X) (xs : List X) → Any P xs → Any P (cons_option o xs)
any-option P None xs any = any
any-option P (Some y) xs (k, x, low, is, holds) = (suc k, x, omega (arith, low), is, holds)

module _ (bytes : List (ℕ × ℕ)) where
  -- what is listed of an address
  listed : (P : Edge → Type 0) (x : ℕ × ℕ) → P (record { at = x.0; number = x.1; byte = number_by bytes x.0 }) → IfSome (edge_of bytes x) P
  listed P x here = by (nat_lt x.0 (2 ^ 32))
    where
      by : (b : Bool) → IfSome (cond b (Some (record { at = x.0; number = x.1; byte = number_by bytes x.0 })) None) P
      by true = here
      by false = tt

  -- none is below an address that all are above
  above : (low : ℕ) (es : List (ℕ × ℕ)) → AllByRecursion (λ k. nat_cmp low k ≡ Less) (keys_of es) → All (λ (e : Edge). low ≤ e.at) (filter_map (edge_of bytes) es)
  above low [] up = All-nil (λ (e : Edge). low ≤ e.at)
  above low (x ∷ es) up =
      each-option (λ (e : Edge). low ≤ e.at) (edge_of bytes x) (filter_map (edge_of bytes) es) (listed (λ (e : Edge). low ≤ e.at) x (let less = up.0 in grind (arith, nat_tests))) (above low es up.1)

  -- they are in order
  pub listed_in_order : (es : List (ℕ × ℕ)) → IsStrictlySortedBy nat_cmp (keys_of es) → AreInOrder (filter_map (edge_of bytes) es)
  listed_in_order [] up = λ i j d le low. absurd (omega (arith, low))
  listed_in_order (x ∷ es) up =
      by (listed_in_order es (sorted_tail nat_cmp x.0 (keys_of es) up)) (above x.0 es (sorted_head nat_cmp x.0 (keys_of es) up)) (edge_of bytes x) (listed (λ (e : Edge). e.at ≡ x.0) x refl)
    where
      by : AreInOrder (filter_map (edge_of bytes) es) → All (λ (e : Edge). x.0 ≤ e.at) (filter_map (edge_of bytes) es) → (o : Option Edge) → IfSome o (λ (e : Edge). e.at ≡ x.0)
          → AreInOrder (cons_option o (filter_map (edge_of bytes) es))
      by rest high None is i j d le low = rest i j d le low
      by rest high (Some e) is zero zero d le low = omega arith
      by rest high (Some e) is zero (suc j) d le low = let up : x.0 ≤ (get_or (filter_map (edge_of bytes) es) j d).at = high j d (omega (arith, low)) in omega (arith, is, up)
      by rest high (Some e) is (suc i) zero d le low = absurd (omega (arith, le))
      by rest high (Some e) is (suc i) (suc j) d le low = rest i j d (omega (arith, le)) (omega (arith, low))

  -- each tells what the numbers are
  tells : (t : Tables) (edges : List (ℕ × ℕ)) → AreEdges t (length t.sections) edges
      → ((q : ℕ) → is_some (number_by edges q) ≡ true → number_by bytes q ≡ first_among (has_byte q) t (length t.sections))
      → (es : List (ℕ × ℕ)) → All (λ (x : ℕ × ℕ). number_by edges x.0 ≡ Some x.1) es → All (IsEdgeOf t) (filter_map (edge_of bytes) es)
  tells t edges are given [] found = All-nil (IsEdgeOf t)
  tells t edges are given (x ∷ es) found =
      let here : number_by edges x.0 ≡ Some x.1 = All-head (λ (x : ℕ × ℕ). number_by edges x.0 ≡ Some x.1) x es found in
      each-option (IsEdgeOf t) (edge_of bytes x) (filter_map (edge_of bytes) es)
      (listed (IsEdgeOf t) x (record { number = sym (are.are x.0) ∙ here; byte = sym (given x.0 (ap is_some here)) }))
      (tells t edges are given es (All-tail (λ (x : ℕ × ℕ). number_by edges x.0 ≡ Some x.1) x es found))

  -- there is one at each address of 32 bits that has a number
  listed_at : (v : ℕ) → v < 2 ^ 32 → (es : List (ℕ × ℕ)) → is_some (number_by es v) ≡ true → Any (λ (e : Edge). e.at ≡ v) (filter_map (edge_of bytes) es)
  listed_at v small [] is = absurd (true≢false (sym is))
  listed_at v small (x ∷ es) is = by (listed_at v small es) (is_eq (nat_cmp v x.0)) refl is
    where
      here : (b : Bool) → nat_lt x.0 (2 ^ 32) ≡ b → v ≡ x.0 → Any (λ (e : Edge). e.at ≡ v) (cons_option (cond b (Some (record { at = x.0; number = x.1; byte = number_by bytes x.0 })) None) (filter_map (edge_of bytes) es))
      here true low same = (0, record { at = x.0; number = x.1; byte = number_by bytes x.0 }, omega arith, refl, sym same)
      here false high same = absurd (grind (arith, nat_tests))

      by : (is_some (number_by es v) ≡ true → Any (λ (e : Edge). e.at ≡ v) (filter_map (edge_of bytes) es)) → (b : Bool) → is_eq (nat_cmp v x.0) ≡ b → is_some (cond b (Some x.1) (number_by es v)) ≡ true
          → Any (λ (e : Edge). e.at ≡ v) (filter_map (edge_of bytes) (x ∷ es))
      by rest true same is = here (nat_lt x.0 (2 ^ 32)) refl (grind (arith, nat_tests))
      by rest false apart is = any-option (λ (e : Edge). e.at ≡ v) (edge_of bytes x) (filter_map (edge_of bytes) es) (rest is)

-- they tell which sections hold addresses
pub listed_are : (t : Tables) (edges bytes : List (ℕ × ℕ)) → IsStrictlySortedBy nat_cmp (keys_of edges) → AreEdges t (length t.sections) edges
    → ((q : ℕ) → is_some (number_by edges q) ≡ true → number_by bytes q ≡ first_among (has_byte q) t (length t.sections)) → AreHolders t (filter_map (edge_of bytes) edges)
listed_are t edges bytes sorted are given = record {
  each = tells bytes t edges are given edges
      (All-weaker (Contains edges) (λ (x : ℕ × ℕ). number_by edges x.0 ≡ Some x.1)
      (λ x held. lookup-from_Contains (eq_by_cmp_equiv nat_cmp_total) x.0 x.1 edges (IsDistinct-from_sorted nat_cmp (keys_of edges) sorted) held) edges (All-contains_itself edges));
  all = λ v small is. listed_at bytes v small edges (ap is_some (are.are v) ∙ is);
}

-- ... given

-- the number at an address is what it was, and it is free as it was
pub record IsKept (free bytes free_now bytes_now : List (ℕ × ℕ)) (q : ℕ) : Type 0 where
  pub open_as : number_by free_now q ≡ number_by free q
  pub number_as : number_by bytes_now q ≡ number_by bytes q

-- it was free, lies between two addresses, and has this number now
pub record IsGiven (free free_now bytes_now : List (ℕ × ℕ)) (begin end number q : ℕ) : Type 0 where
  pub was : is_some (number_by free q) ≡ true
  pub above : begin ≤ q
  pub below : q < end
  pub taken : number_by free_now q ≡ None
  pub numbered : number_by bytes_now q ≡ Some number

-- each address is one of these
pub record AreShared (free bytes free_now bytes_now : List (ℕ × ℕ)) (begin end number : ℕ) : Type 0 where
  pub each : (q : ℕ) → IsKept free bytes free_now bytes_now q ⊎ IsGiven free free_now bytes_now begin end number q

-- one address more is given
pub shared_more : (free bytes free_now bytes_now free_new bytes_new : List (ℕ × ℕ)) (begin end number at : ℕ) → AreShared free bytes free_now bytes_now begin end number
    → is_some (number_by free_now at) ≡ true → begin ≤ at → at < end → ((q : ℕ) → number_by free_new q ≡ cond (eqb q at) None (number_by free_now q))
    → ((q : ℕ) → number_by bytes_new q ≡ cond (eqb q at) (Some number) (number_by bytes_now q)) → AreShared free bytes free_new bytes_new begin end number
shared_more free bytes free_now bytes_now free_new bytes_new begin end number at are is above below frees gives = record {
  each = λ q. elim (cases_eq q at) [
    | inl same ↦ inr (record {
      was = was q same (are.each q);
      above = omega (arith, same, above);
      below = omega (arith, same, below);
      taken = frees q ∙ ap (λ (b : Bool). cond b None (number_by free_now q)) (eq-eqb q at same);
      numbered = gives q ∙ ap (λ (b : Bool). cond b (Some number) (number_by bytes_now q)) (eq-eqb q at same);
    })
    | inr other ↦ rest q (frees q ∙ ap (λ (b : Bool). cond b None (number_by free_now q)) (ne_eqb q at other)) (gives q ∙ ap (λ (b : Bool). cond b (Some number) (number_by bytes_now q)) (ne_eqb q at other)) (are.each q)
  ];
}
  where
    was : (q : ℕ) → q ≡ at → IsKept free bytes free_now bytes_now q ⊎ IsGiven free free_now bytes_now begin end number q → is_some (number_by free q) ≡ true
    was q same (inl kept) = ap is_some (sym kept.open_as) ∙ ap (λ (k : ℕ). is_some (number_by free_now k)) same ∙ is
    was q same (inr given) = given.was

    rest : (q : ℕ) → number_by free_new q ≡ number_by free_now q → number_by bytes_new q ≡ number_by bytes_now q → IsKept free bytes free_now bytes_now q ⊎ IsGiven free free_now bytes_now begin end number q
        → IsKept free bytes free_new bytes_new q ⊎ IsGiven free free_new bytes_new begin end number q
    rest q f b (inl kept) = inl (record { open_as = f ∙ kept.open_as; number_as = b ∙ kept.number_as })
    rest q f b (inr given) = inr (record { was = given.was; above = given.above; below = given.below; taken = f ∙ given.taken; numbered = b ∙ given.numbered })

between : (begin end q : ℕ) → begin ≤ q → q < end → (nat_le begin q && nat_lt q end) ≡ true
between begin end q a b = grind (arith, nat_tests)

-- where no address between the two is free, this is what was given
pub shared_all : (free bytes free_now bytes_now : List (ℕ × ℕ)) (begin end number : ℕ) → AreShared free bytes free_now bytes_now begin end number
    → ((q : ℕ) → begin ≤ q → q < end → number_by free_now q ≡ None) → (q : ℕ)
    → (is_some (number_by free_now q) ≡ (is_some (number_by free q) && not (nat_le begin q && nat_lt q end)))
    × (number_by bytes_now q ≡ cond (is_some (number_by free q) && (nat_le begin q && nat_lt q end)) (Some number) (number_by bytes q))
shared_all free bytes free_now bytes_now begin end number are none q = by (are.each q)
  where
    inside : (number_by free_now q ≡ number_by free q) → (b : Bool) → (nat_le begin q && nat_lt q end) ≡ b → (b ≡ true → number_by free q ≡ None) → (is_some (number_by free q) && b) ≡ false
    inside same true e h = ap (λ (o : Option ℕ). is_some o && true) (h refl)
    inside same false e h = last (is_some (number_by free q))
      where
        last : (b : Bool) → (b && false) ≡ false
        last true = refl
        last false = refl

    outer : (b : Bool) → (is_some (number_by free q) && b) ≡ false → is_some (number_by free q) ≡ (is_some (number_by free q) && not b)
    outer true e = sides (is_some (number_by free q)) e
      where
        sides : (a : Bool) → (a && true) ≡ false → a ≡ (a && false)
        sides true e = e
        sides false e = refl
    outer false e = sides (is_some (number_by free q))
      where
        sides : (a : Bool) → a ≡ (a && true)
        sides true = refl
        sides false = refl

    by : IsKept free bytes free_now bytes_now q ⊎ IsGiven free free_now bytes_now begin end number q
        → (is_some (number_by free_now q) ≡ (is_some (number_by free q) && not (nat_le begin q && nat_lt q end)))
        × (number_by bytes_now q ≡ cond (is_some (number_by free q) && (nat_le begin q && nat_lt q end)) (Some number) (number_by bytes q))
    by (inl kept) =
        let out = inside kept.open_as (nat_le begin q && nat_lt q end) refl (λ e. sym kept.open_as ∙ none q (low e) (high e)) in
        (ap is_some kept.open_as ∙ outer (nat_le begin q && nat_lt q end) out, kept.number_as ∙ sym (ap (λ (b : Bool). cond b (Some number) (number_by bytes q)) out))
      where
        low : (nat_le begin q && nat_lt q end) ≡ true → begin ≤ q
        low e = grind (arith, nat_tests)

        high : (nat_le begin q && nat_lt q end) ≡ true → q < end
        high e = grind (arith, nat_tests)
    by (inr given) =
        let in_it = between begin end q given.above given.below in
        (ap is_some given.taken ∙ sym (rw (given.was, in_it) refl), given.numbered ∙ sym (rw (given.was, in_it) refl))

-- ... the bytes of all sections

-- the numbers of the first i sections at each edge, and which edges have none yet
pub record AreBytes (t : Tables) (i : ℕ) (edges free bytes : List (ℕ × ℕ)) : Type 0 where
  pub given : (q : ℕ) → is_some (number_by edges q) ≡ true → number_by bytes q ≡ first_among (has_byte q) t i
  pub left : (q : ℕ) → is_some (number_by free q) ≡ (is_some (number_by edges q) && is_none (first_among (has_byte q) t i))
