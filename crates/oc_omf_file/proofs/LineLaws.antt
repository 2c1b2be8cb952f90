-- The symbols of the canonical file: they stand in the order of the symbol table, once each.
use Rattle.std.proofs.Common.{◌≡◌, ℕ, ◌+◌, ◌<◌, ◌≤◌, inl, inr, Bool, true, false, List, [], ◌∷◌, ◌++◌, length, map, Some, refl, sym, ◌∙◌, ap, arith, length-append, nat_eq, cond, append_assoc}
use Rattle.std.specs.{Prelude.{slice_get, filter, filter_map, count_by}, List.{enumerate_from, cons_option}}
use Rattle.std.proofs.lemmas.{Bool.{eq-eqb, ne_eqb, true≢false, cases_lt}, List.{map-append}, List.Sums.{sum_by-cons}, Option.{slice_get_within}}
use Rattle.oc_linking.specs.{declared.terms.Value.{Value}, declared.terms.Binding.{Binding}}
use Rattle.oc_linking.specs.{declared.terms.Binding.TheVariants.{Local, Global, Undefined, Common, Weak}, Parts.{is_local}}
use Rattle.oc_linking.specs.declared.terms.Value.TheVariants as value
use Rattle.oc_neutral.specs.{declared.symbol.Symbol.{Symbol}, Bindings.{is_external}, Dressing.{is_common}, Objects.{Object}}
use Rattle.oc_shows.specs.SymbolLines.{Line, is_undefined, is_global, is_weak_with, omf_lines}
use Rattle.oc_shows.proofs.SeenFamilies.{omf_table}
use Rattle.oc_shelf.proofs.WritingLaws.MemberLemmas.{member_enumerated, member_filter_map, member_first, member_second, member_map, position_first}
use Rattle.oc_omf_file.specs.Outputs.{Output, external_by, communal_by, external_output, communal_output, public_output, indexed_outputs, symbol_outputs, is_of_symbol, symbol_number}
use Rattle.oc_omf_file.specs.Outputs as output
use Rattle.oc_omf_file.proofs.{GivenLaws.{mentions_by, mention_of}, BehindLaws.{OfSymbol, symbols_are}, CodedLaws.{IsForOmf}}

-- the position of the symbol of an output; of others there is none, and 0 stands for it
abbrev pub key_of : Output → ℕ
key_of output.Header = 0
key_of (output.Names names) = 0
key_of (output.Segment k s) = 0
key_of output.Group = 0
key_of (output.External k s) = k
key_of (output.Communal k s) = k
key_of (output.Public k s) = k
key_of (output.Data k s from to) = 0
key_of (output.Fixups k s from to) = 0
key_of output.End = 0

-- the name of its symbol; of others there is none, and the empty one stands for it
abbrev pub name_by : Output → List ℕ
name_by output.Header = []
name_by (output.Names names) = []
name_by (output.Segment k s) = []
name_by output.Group = []
name_by (output.External k s) = s.name
name_by (output.Communal k s) = s.name
name_by (output.Public k s) = s.name
name_by (output.Data k s from to) = []
name_by (output.Fixups k s from to) = []
name_by output.End = []

-- its line
abbrev pub line_by : ℕ → Line
line_by k = record { entries = 1; shows = Some k }

abbrev pub line_of : Output → Line
line_of o = line_by (key_of o)

-- ... the lines of all

abbrev where_lines : (Binding → Bool) → List (ℕ × Symbol) → List Line
where_lines test xs = map (λ (x : ℕ × Symbol). line_by x.0) (filter (λ (x : ℕ × Symbol). test x.1.binding) xs)

external_lines : (xs : List (ℕ × Symbol)) → map line_of (filter_map external_output xs) ≡ where_lines is_undefined xs
external_lines [] = refl
external_lines (x ∷ xs) = by x.1.binding refl (external_lines xs)
  where
    by : (b : Binding) → x.1.binding ≡ b → map line_of (filter_map external_output xs) ≡ where_lines is_undefined xs
        → map line_of (filter_map external_output (x ∷ xs)) ≡ where_lines is_undefined (x ∷ xs)
    by Undefined e rest = rw e (ap (λ ls. line_by x.0 ∷ ls) rest)
    by (Local v) e rest = rw e rest
    by (Global v) e rest = rw e rest
    by (Common size align) e rest = rw e rest
    by (Weak f) e rest = rw e rest

communal_lines : (xs : List (ℕ × Symbol)) → map line_of (filter_map communal_output xs) ≡ where_lines is_common xs
communal_lines [] = refl
communal_lines (x ∷ xs) = by x.1.binding refl (communal_lines xs)
  where
    by : (b : Binding) → x.1.binding ≡ b → map line_of (filter_map communal_output xs) ≡ where_lines is_common xs → map line_of (filter_map communal_output (x ∷ xs)) ≡ where_lines is_common (x ∷ xs)
    by b e rest = grind arith

public_lines : (xs : List (ℕ × Symbol)) → map line_of (filter_map public_output xs) ≡ where_lines is_global xs
public_lines [] = refl
public_lines (x ∷ xs) = by x.1.binding refl (public_lines xs)
  where
    by : (b : Binding) → x.1.binding ≡ b → map line_of (filter_map public_output xs) ≡ where_lines is_global xs → map line_of (filter_map public_output (x ∷ xs)) ≡ where_lines is_global (x ∷ xs)
    by b e rest = grind arith

pub lines_are : (n : Object) → map line_of (symbol_outputs n) ≡ omf_lines n
unfolding symbol_outputs
lines_are n =
    let xs : List (ℕ × Symbol) = enumerate_from 0 n.symbols in
    map-append line_of (indexed_outputs n) (filter_map public_output xs)
    ∙ ap (λ ls. ls ++ map line_of (filter_map public_output xs)) (map-append line_of (filter_map external_output xs) (filter_map communal_output xs))
    ∙ rw (external_lines xs, communal_lines xs, public_lines xs) (append_assoc (where_lines is_undefined xs) (where_lines is_common xs) (where_lines is_global xs))

-- ... externals are few

externals_counted : (i : ℕ) (xs : List Symbol)
    → length (filter_map external_output (enumerate_from i xs)) + length (filter_map communal_output (enumerate_from i xs)) ≡ count_by (λ (s : Symbol). is_external s.binding) xs
externals_counted i [] = refl
externals_counted i (x ∷ xs) = by x.binding refl (externals_counted (i + 1) xs)
  where
    ys : List (ℕ × Symbol)
    ys = enumerate_from (i + 1) xs

    count : count_by (λ (s : Symbol). is_external s.binding) (x ∷ xs) ≡ cond (is_external x.binding) 1 0 + count_by (λ (s : Symbol). is_external s.binding) xs
    count = sum_by-cons (λ (s : Symbol). cond (is_external s.binding) 1 0) x xs

    step : (k : ℕ) → cond (is_external x.binding) 1 0 ≡ k
        → length (filter_map external_output ((i, x) ∷ ys)) + length (filter_map communal_output ((i, x) ∷ ys)) ≡ k + (length (filter_map external_output ys) + length (filter_map communal_output ys))
        → length (filter_map external_output ys) + length (filter_map communal_output ys) ≡ count_by (λ (s : Symbol). is_external s.binding) xs
        → length (filter_map external_output ((i, x) ∷ ys)) + length (filter_map communal_output ((i, x) ∷ ys)) ≡ count_by (λ (s : Symbol). is_external s.binding) (x ∷ xs)
    step k own more rest = omega (arith, own, more, rest, count)

    by : (b : Binding) → x.binding ≡ b
        → length (filter_map external_output ys) + length (filter_map communal_output ys) ≡ count_by (λ (s : Symbol). is_external s.binding) xs
        → length (filter_map external_output ((i, x) ∷ ys)) + length (filter_map communal_output ((i, x) ∷ ys)) ≡ count_by (λ (s : Symbol). is_external s.binding) (x ∷ xs)
    by Undefined e rest =
        step 1 (rw e refl) (omega (arith, ap (λ b. length (cons_option (external_by b i x) (filter_map external_output ys))) e, ap (λ b. length (cons_option (communal_by b i x) (filter_map communal_output ys))) e)) rest
    by (Common size align) e rest =
        step 1 (rw e refl) (omega (arith, ap (λ b. length (cons_option (external_by b i x) (filter_map external_output ys))) e, ap (λ b. length (cons_option (communal_by b i x) (filter_map communal_output ys))) e)) rest
    by (Local v) e rest =
        step 0 (rw e refl) (omega (arith, ap (λ b. length (cons_option (external_by b i x) (filter_map external_output ys))) e, ap (λ b. length (cons_option (communal_by b i x) (filter_map communal_output ys))) e)) rest
    by (Global v) e rest =
        step 0 (rw e refl) (omega (arith, ap (λ b. length (cons_option (external_by b i x) (filter_map external_output ys))) e, ap (λ b. length (cons_option (communal_by b i x) (filter_map communal_output ys))) e)) rest
    by (Weak f) e rest =
        step 0 (rw e refl) (omega (arith, ap (λ b. length (cons_option (external_by b i x) (filter_map external_output ys))) e, ap (λ b. length (cons_option (communal_by b i x) (filter_map communal_output ys))) e)) rest

module _ (n : Object) (is : IsForOmf n) where
  pub few_externals : length (indexed_outputs n) ≤ 32767
  few_externals =
      let xs : List (ℕ × Symbol) = enumerate_from 0 n.symbols in
      let long = length-append (filter_map external_output xs) (filter_map communal_output xs) in
      let count = externals_counted 0 n.symbols in
      let most = is.meets.externals in
      omega (arith, long, count, most)

  pub strong : (k : ℕ) (s : Symbol) → slice_get n.symbols k ≡ Some s → is_weak_with (λ f. true) s.binding ≡ false
  strong k s here = by s.binding refl
    where
      by : (b : Binding) → s.binding ≡ b → is_weak_with (λ f. true) b ≡ false
      by (Local v) e = refl
      by (Global v) e = refl
      by Undefined e = refl
      by (Common size align) e = refl
      by (Weak f) e = absurd ((is.meets.symbols k s here).strong f e)

  -- a symbol stands once
  pub once : (i j : ℕ) (o p : Output) → slice_get (symbol_outputs n) i ≡ Some o → slice_get (symbol_outputs n) j ≡ Some p → key_of o ≡ key_of p → i ≡ j
  once i j o p here there same =
      let line : (a : ℕ) (q : Output) → slice_get (symbol_outputs n) a ≡ Some q → slice_get (omf_lines n) a ≡ Some (line_of q)
      = λ a q h. ap (λ ls. slice_get ls a) (sym (lines_are n)) ∙ member_map line_of (symbol_outputs n) a q h in
      (omf_table n strong).table.once i j (line_of o) (line_of p) (key_of o) (line i o here) (line j p there) refl (ap Some (sym same))

  -- what an output of a symbol says
  pub record SaysSymbol (o : Output) : Type 0 where
    pub symbol : Symbol
    pub there : slice_get n.symbols (key_of o) ≡ Some symbol
    pub outer : is_local symbol.binding ≡ false
    pub named : name_by o ≡ symbol.name
    pub mentions : mentions_by o ≡ mention_of (name_by o) ∷ []
    pub found : (k : ℕ) → is_of_symbol k o ≡ nat_eq (key_of o) k

  listed_public : (k : ℕ) (s : Symbol) (v : Value) → slice_get n.symbols k ≡ Some s → s.binding ≡ Global v → mentions_by (output.Public k s) ≡ mention_of s.name ∷ []
  listed_public k s (value.Place a b) here e = rw e refl
  listed_public k s (value.Absolute x) here e = absurd ((is.meets.symbols k s here).placed x e)

  pub listed : (o : Output) → OfSymbol n o → SaysSymbol o
  listed output.Header e = absurd e
  listed (output.Names names) e = absurd e
  listed (output.Segment k s) e = absurd e
  listed output.Group e = absurd e
  listed (output.External k s) e = record { symbol = s; there = e.0; outer = ap is_local e.1; named = refl; mentions = refl; found = λ j. refl }
  listed (output.Communal k s) e = record { symbol = s; there = e.0; outer = ap is_local e.3; named = refl; mentions = refl; found = λ j. refl }
  listed (output.Public k s) e = record { symbol = s; there = e.0; outer = ap is_local e.2; named = refl; mentions = listed_public k s e.1 e.0 e.2; found = λ j. refl }
  listed (output.Data k s from to) e = absurd e
  listed (output.Fixups k s from to) e = absurd e
  listed output.End e = absurd e

  pub listed_at : (i : ℕ) (o : Output) → slice_get (symbol_outputs n) i ≡ Some o → SaysSymbol o
  listed_at i o h = listed o (symbols_are n i o h)

  -- names differ
  pub names_once : (i j : ℕ) (o p : Output) → slice_get (symbol_outputs n) i ≡ Some o → slice_get (symbol_outputs n) j ≡ Some p → name_by o ≡ name_by p → i ≡ j
  names_once i j o p a b alike =
      let x = listed_at i o a in
      let y = listed_at j p b in
      let same : x.symbol.name ≡ y.symbol.name = sym x.named ∙ alike ∙ y.named in
      once i j o p a b (elim (cases_lt (key_of o) (key_of p)) [
        | inl l ↦ absurd (is.object.built.distinct (key_of o) (key_of p) x.symbol y.symbol l x.there y.there x.outer y.outer same)
        | inr l ↦ elim (cases_lt (key_of p) (key_of o)) [
          | inl m ↦ absurd (is.object.built.distinct (key_of p) (key_of o) y.symbol x.symbol m y.there x.there y.outer x.outer (sym same))
          | inr m ↦ omega (arith, l, m)
        ]
      ])

  -- the number of a symbol is the place of its output
  pub number_is : (i : ℕ) (o : Output) → slice_get (symbol_outputs n) i ≡ Some o → symbol_number n (key_of o) ≡ i
  number_is i o here =
      position_first (is_of_symbol (key_of o)) (symbol_outputs n) i o here ((listed_at i o here).found (key_of o) ∙ eq-eqb (key_of o) (key_of o) refl)
      (λ j p l h. (listed_at j p h).found (key_of o) ∙ ne_eqb (key_of p) (key_of o) (λ same. omega (arith, l, once j i p o h here same)))

  -- ... where a symbol stands

  -- an external or a communal
  pub record IsIndexed (k : ℕ) : Type 0 where
    pub index : ℕ
    pub output : Output
    pub here : slice_get (indexed_outputs n) index ≡ Some output
    pub key : key_of output ≡ k

  pub indexed_there : (k : ℕ) (s : Symbol) → slice_get n.symbols k ≡ Some s → is_external s.binding ≡ true → IsIndexed k
  indexed_there k s here external = by s.binding refl external
    where
      xs : List (ℕ × Symbol)
      xs = enumerate_from 0 n.symbols

      by : (b : Binding) → s.binding ≡ b → is_external b ≡ true → IsIndexed k
      by Undefined e f =
          let m = member_filter_map external_output xs k (0 + k, s) (output.External (0 + k) s) (member_enumerated 0 n.symbols k s here) (rw e refl) in
          record { index = m.0; output = output.External (0 + k) s; here = member_first (filter_map external_output xs) (filter_map communal_output xs) m.0 _ m.1; key = omega arith }
      by (Common size align) e f =
          let m = member_filter_map communal_output xs k (0 + k, s) (output.Communal (0 + k) s) (member_enumerated 0 n.symbols k s here) (rw e refl) in
          record { index = length (filter_map external_output xs) + m.0; output = output.Communal (0 + k) s; here = member_second (filter_map external_output xs) (filter_map communal_output xs) m.0 _ m.1; key = omega arith }
      by (Local v) e f = absurd (true≢false (sym f))
      by (Global v) e f = absurd (true≢false (sym f))
      by (Weak w) e f = absurd (true≢false (sym f))

  pub symbol_there : (i : ℕ) (o : Output) → slice_get (indexed_outputs n) i ≡ Some o → slice_get (symbol_outputs n) i ≡ Some o
  unfolding symbol_outputs
  symbol_there i o h = member_first (indexed_outputs n) (filter_map public_output (enumerate_from 0 n.symbols)) i o h

  -- an external's index fits
  pub number_low : (k : ℕ) (s : Symbol) → slice_get n.symbols k ≡ Some s → is_external s.binding ≡ true → symbol_number n k + 1 < 32768
  number_low k s here external =
      let m = indexed_there k s here external in
      let low = slice_get_within (indexed_outputs n) m.index m.output m.here in
      let few = few_externals in
      let e : symbol_number n k ≡ m.index = ap (symbol_number n) (sym m.key) ∙ number_is m.index m.output (symbol_there m.index m.output m.here) in
      omega (arith, low, few, e)
