-- What externals, groups and segments are that frames and targets name.
use Rattle.std.proofs.Common.{◌≡◌, ℕ, zero, suc, ◌+◌, ◌-◌, ◌<◌, Bool, true, false, cond, List, [], ◌∷◌, ◌++◌, length, map, Option, None, Some, refl, sym, ◌∙◌, ap, arith}
use Rattle.std.specs.{Prelude.{◌&&◌, nat_eq, bytes_eq, codes, filter_map, flat_map, slice_get}, List.{enumerate_from, list_any}}
use Rattle.std.specs.Option.{option_and_then, option_map, option_map_or}
use Rattle.std.proofs.lemmas.{Bool.{eq-eqb, ne_eqb}, List.{length-map, append_assoc, map-append}}
use Rattle.std.proofs.lemmas.{Option.{none-some, same_Some, slice_get-map, slice_get_past, slice_get_within}, Map.Keys.{any_passes_from_place}}
use Rattle.oc_linking.specs.{declared.terms.Keep.{Keep}, declared.terms.Kind.{Kind}, Keeping.{keeps}, Targets.{named_by, symbol_target}, Values.{numbered}}
use Rattle.oc_linking.specs.Parts as parts
use Rattle.oc_linking.specs.Rules as rules
use Rattle.oc_linking.specs.Targets as file
use Rattle.oc_shows.specs.Computed.{position_of}
use Rattle.oc_neutral.specs.declared.reloc.Target.TheVariants as target
use Rattle.oc_shelf.proofs.WritingLaws.MemberLemmas.{each_flat_map, member_flat_map, member_map, member_second, of_map}
use Rattle.oc_omf.specs.{declared.structures.Communal.{Communal}, declared.structures.Method.{Method}, declared.structures.Segment.{Segment}}
use Rattle.oc_omf.specs.{Entries.{Entry, all_read}, Sections.{segment_kind}, Structures.{External, Group, Public}}
use Rattle.oc_omf.specs.{Symbols.{Mention, external_mention, mentions_in, number_of, same_symbol, symbol_of, symbols_in}, Tables.{indexed, name_at, tables_of}}
use Rattle.oc_omf.specs.Targets.{external_at, is_flat, meaning_of}
use Rattle.oc_omf.specs.Tables as all
use Rattle.oc_omf.proofs.EntryLemmas.{numbered_at}
use Rattle.oc_omf_judge.specs.{declared.defined.Defined.{Defined}, Defined.{IsDefined}}
use Rattle.oc_omf_read.specs.{declared.mentioned.Mentioned.{Mentioned}, declared.mentioned.Mentions.{Mentions}, Aims.{external_aim, is_kept, symbol_named}}
use Rattle.oc_omf_read.specs.{Bindings.{binding_seen, place_binding}, Declarations.{Declaration, of_external, of_public, declarations_by, declarations_in}}
use Rattle.oc_omf_read.specs.{Mentioned.{HasDeclarations, ModuleSymbol, external_number, mention_of, mentioned_symbols, seen_in, seen_of}, Sections.{kind_in}}
use Rattle.oc_omf_read.proofs.{BindingLemmas.{binding_is, mentions_are}, ContentLemmas.{indexed_is, known_kind}, GivenFields.{number_stands}}
use Rattle.oc_omf_read.proofs.{HearLemmas.{symbol_at}, MentionLemmas.{any_mentioned}, StartLemmas.{symbol_number}}
use Rattle.oc_omf_judge.proofs.MentionLemmas.{same_self}

-- ... numbers of externals

no_number : (ms : List Mention) (ps : List Public) (rest : List Declaration) → filter_map (external_number ms) (map of_public ps ++ rest) ≡ filter_map (external_number ms) rest
no_number ms [] rest = refl
no_number ms (p ∷ ps) rest = no_number ms ps rest

their_numbers : (ms : List Mention) (ys : List External) (rest : List Declaration)
    → filter_map (external_number ms) (map of_external ys ++ rest) ≡ map (λ y. number_of ms (external_mention y)) ys ++ filter_map (external_number ms) rest
their_numbers ms [] rest = refl
their_numbers ms (y ∷ ys) rest = by y.communal (their_numbers ms ys rest)
  where
    by : (c : Option Communal) → filter_map (external_number ms) (map of_external ys ++ rest) ≡ map (λ y. number_of ms (external_mention y)) ys ++ filter_map (external_number ms) rest
        → filter_map (external_number ms) (of_external (record { local = y.local; name = y.name; communal = c }) ∷ (map of_external ys ++ rest))
        ≡ number_of ms (external_mention y) ∷ (map (λ y. number_of ms (external_mention y)) ys ++ filter_map (external_number ms) rest)
    by None e = ap (λ (ns : List ℕ). number_of ms (external_mention y) ∷ ns) e
    by (Some c) e = ap (λ (ns : List ℕ). number_of ms (external_mention y) ∷ ns) e

numbers_in : (ms : List Mention) (es : List Entry) → filter_map (external_number ms) (flat_map declarations_by es) ≡ map (λ y. number_of ms (external_mention y)) (flat_map (λ (e : Entry). all_read e.externals) es)
numbers_in ms [] = refl
numbers_in ms (e ∷ es) =
    let ps : List Public = all_read e.publics in
    let ys : List External = all_read e.externals in
    ap (filter_map (external_number ms)) (append_assoc (map of_public ps) (map of_external ys) (flat_map declarations_by es))
    ∙ no_number ms ps (map of_external ys ++ flat_map declarations_by es)
    ∙ their_numbers ms ys (flat_map declarations_by es)
    ∙ ap (λ (ns : List ℕ). map (λ y. number_of ms (external_mention y)) ys ++ ns) (numbers_in ms es)
    ∙ sym (map-append (λ y. number_of ms (external_mention y)) ys (flat_map (λ (e : Entry). all_read e.externals) es))

-- ... symbols by their numbers

numbered_from : (n : ℕ) (ss : List parts.Symbol) → ((i : ℕ) (s : parts.Symbol) → slice_get ss i ≡ Some s → s.number ≡ n + i) → (k : ℕ) (s : parts.Symbol) → slice_get ss k ≡ Some s → numbered ss (n + k) ≡ Some s
numbered_from n [] each k s here = absurd (none-some s here)
numbered_from n (t ∷ ts) each zero s here =
    let same : t.number ≡ n + 0 = each 0 t refl in
    ap (λ b. cond b (Some t) (numbered ts (n + 0))) (eq-eqb t.number (n + 0) same) ∙ here
numbered_from n (t ∷ ts) each (suc k) s here =
    let own : t.number ≡ n + 0 = each 0 t refl in
    let one : n + 1 + k ≡ n + suc k = omega arith in
    ap (λ b. cond b (Some t) (numbered ts (n + suc k))) (ne_eqb t.number (n + suc k) (λ e. omega (arith, e, own)))
    ∙ ap (numbered ts) (sym one)
    ∙ numbered_from (n + 1) ts (λ i u there. let more = each (suc i) u there in omega (arith, more)) k s here

-- what a binding names
named_seen : (number : ℕ) (s : ModuleSymbol) → named_by number (binding_seen s) ≡ Some (symbol_named s number)
named_seen number s = by s.place s.length
  where
    placed : (local : Bool) (place : ℕ × ℕ) → named_by number (place_binding local place) ≡ Some (cond local (rules.Sectional (place.0 - 1)) (rules.Symbolic number))
    placed local place = grind arith

    by : (p : Option (ℕ × ℕ)) (n : Option ℕ) → named_by number (binding_seen (record { local = s.local; name = s.name; place = p; length = n })) ≡ Some (symbol_named (record { local = s.local; name = s.name; place = p; length = n }) number)
    by p n = grind arith

module _ (es : List Entry) where
  abbrev ms : List Mention
  ms = mentioned_symbols (declarations_in es)

  abbrev ss : List parts.Symbol
  ss = symbols_in es

  abbrev made : ℕ → Mention → parts.Symbol
  made k x = symbol_of (tables_of es) (k, x)

  symbol_here : (k : ℕ) (x : Mention) → slice_get ms k ≡ Some x → slice_get ss k ≡ Some (made k x)
  unfolding symbols_in
  symbol_here k x here =
      slice_get-map (symbol_of (tables_of es)) (enumerate_from 0 (mentions_in es)) k
      ∙ ap (option_map (symbol_of (tables_of es))) (numbered_at (mentions_in es) k x (ap (λ (xs : List Mention). slice_get xs k) (mentions_are es) ∙ here))

  symbol_found : (k : ℕ) (x : Mention) → slice_get ms k ≡ Some x → numbered ss k ≡ Some (made k x)
  symbol_found k x here =
      let front : 0 + k ≡ k = omega arith in
      ap (numbered ss) (sym front) ∙ numbered_from 0 ss (λ i s there. symbol_number es i s there ∙ (let same : i ≡ 0 + i = omega arith in same)) k (made k x) (symbol_here k x here)

  -- an external is mentioned
  mentioned : (j : ℕ) (y : External) → slice_get (tables_of es).externals j ≡ Some y → list_any (same_symbol (external_mention y)) ms ≡ true
  unfolding tables_of declarations_in
  mentioned j y here =
      any_mentioned (external_mention y) (declarations_in es)
      ∙ each_flat_map (λ (y : External). list_any (same_symbol (external_mention y)) (map mention_of (declarations_in es)) ≡ true) (λ (e : Entry). all_read e.externals) es
      (λ i e at_i k z at_k.
      let at = member_second (map of_public (all_read e.publics)) (map of_external (all_read e.externals)) k (of_external z) (member_map of_external (all_read e.externals) k z at_k) in
      let all_at = member_flat_map declarations_by es i (length (map of_public (all_read e.publics)) + k) e (of_external z) at_i at in
      any_passes_from_place (same_symbol (external_mention z)) (map mention_of (declarations_in es)) all_at.0 (external_mention z) (member_map mention_of (declarations_in es) all_at.0 (of_external z) all_at.1) (same_self (external_mention z)))
      j y here

  module _ (m : Mentions) (has : HasDeclarations (declarations_in es) m) where
    numbers_are : m.externals.items ≡ map (λ y. number_of ms (external_mention y)) (tables_of es).externals
    unfolding tables_of declarations_in
    numbers_are = has.externals ∙ numbers_in ms es

    pub as_many_externals : length m.externals.items ≡ length (tables_of es).externals
    as_many_externals = ap length numbers_are ∙ length-map (tables_of es).externals (λ y. number_of ms (external_mention y))

    -- an external, with its symbol
    record IsExternal (j k : ℕ) : Type 0 where
      external : External
      there : slice_get (tables_of es).externals j ≡ Some external
      number : number_of ms (external_mention external) ≡ k
      stands : slice_get ms k ≡ Some (external_mention external)

    external_is : (j k : ℕ) → slice_get m.externals.items j ≡ Some k → IsExternal j k
    external_is j k here =
        let y = of_map (λ y. number_of ms (external_mention y)) (tables_of es).externals j k (ap (λ (ns : List ℕ). slice_get ns j) (sym numbers_are) ∙ here) in
        record {
          external = y.0;
          there = y.1;
          number = y.2;
          stands = ap (slice_get ms) (sym y.2) ∙ symbol_at ms (external_mention y.0) (mentioned j y.0 y.1);
        }

    pub number_there : (j k : ℕ) → slice_get m.externals.items j ≡ Some k → k < length m.symbols.items
    number_there j k here =
        let x = external_is j k here in
        let low = slice_get_within ms k (external_mention x.external) x.stands in
        let many : length m.symbols.items ≡ length ms = sym (length-map m.symbols.items seen_of) ∙ ap length has.symbols ∙ length-map ms (seen_in (declarations_in es)) in
        omega (arith, low, many)

    pub external_named : (j k : ℕ) (s : Mentioned) → slice_get m.externals.items j ≡ Some k → slice_get m.symbols.items k ≡ Some s → external_aim (meaning_of es) (j + 1) ≡ Some (target.Symbol k, symbol_named (seen_of s) k)
    unfolding meaning_of
    external_named j k s here stands =
        let x = external_is j k here in
        let y : Mention = external_mention x.external in
        let found : external_at (meaning_of es) (j + 1) ≡ Some (made k y) =
        ap (option_and_then (λ z. numbered ss (number_of (mentions_in es) (external_mention z)))) (indexed_is (tables_of es).externals j ∙ x.there)
        ∙ ap (λ (xs : List Mention). numbered ss (number_of xs y)) (mentions_are es) ∙ ap (numbered ss) x.number ∙ symbol_found k y x.stands in
        let place : position_of ss k ≡ k = sym (symbol_number es (position_of ss k) (made k y) (number_stands ss k (made k y) (symbol_found k y x.stands)).1) in
        let seen : seen_in (declarations_in es) y ≡ seen_of s =
        same_Some (seen_in (declarations_in es) y) (seen_of s)
        (sym (member_map (seen_in (declarations_in es)) ms k y x.stands) ∙ ap (λ (xs : List ModuleSymbol). slice_get xs k) (sym has.symbols) ∙ member_map seen_of m.symbols.items k s stands) in
        ap (option_and_then (λ (y : parts.Symbol). option_map (λ (u : file.Target). (target.Symbol (position_of ss y.number), u.named)) (symbol_target y))) found
        ∙ ap (λ (o : Option rules.Named). option_map (λ (u : file.Target). (target.Symbol (position_of ss k), u.named)) (option_map (λ named. record { named = named; worth = λ p v. v k }) o))
        (ap (named_by k) (binding_is es y) ∙ named_seen k (seen_in (declarations_in es) y))
        ∙ ap (λ (z : ModuleSymbol). Some (target.Symbol (position_of ss k), symbol_named z k)) seen
        ∙ ap (λ (n : ℕ). Some (target.Symbol n, symbol_named (seen_of s) k)) place

    pub external_none : (index : ℕ) → indexed (tables_of es).externals index ≡ None → external_aim (meaning_of es) index ≡ None
    unfolding meaning_of
    external_none index none =
        ap (λ (o : Option External). option_and_then (λ (y : parts.Symbol). option_map (λ (u : file.Target). (target.Symbol (position_of ss y.number), u.named)) (symbol_target y))
        (option_and_then (λ z. numbered ss (number_of (mentions_in es) (external_mention z))) o)) none

-- ... indexes

-- none has an index of 0, or past the last
pub not_indexed : {X : Type 0} (xs : List X) (index : ℕ) → length xs < index → indexed xs index ≡ None
not_indexed xs index past = by (nat_eq index 0)
  where
    by : (b : Bool) → cond b None (slice_get xs (index - 1)) ≡ None
    by true = refl
    by false = slice_get_past xs (index - 1) (omega (arith, past))

pub zero_indexed : {X : Type 0} (xs : List X) (index : ℕ) → index ≡ 0 → indexed xs index ≡ None
zero_indexed xs index none = ap (λ b. cond b None (slice_get xs (index - 1))) (eq-eqb index 0 none)

pub some_indexed : {X : Type 0} (xs : List X) (index : ℕ) → (index ≡ 0 → ⊥) → indexed xs index ≡ slice_get xs (index - 1)
some_indexed xs index some = ap (λ b. cond b None (slice_get xs (index - 1))) (ne_eqb index 0 some)

-- ... groups and segments

module _ (t : all.Tables) (known : Defined) (knows : IsDefined t known) where
  -- the name of a group
  pub group_is : (j name : ℕ) → slice_get known.groups.items j ≡ Some name → (g : Group) × (slice_get t.groups j ≡ Some g) × (g.name ≡ name)
  group_is j name here = of_map (λ (g : Group). g.name) t.groups j name (ap (λ (ns : List ℕ). slice_get ns j) (sym knows.groups_are) ∙ here)

  pub as_many_groups : length known.groups.items ≡ length t.groups
  as_many_groups = ap length knows.groups_are ∙ length-map t.groups (λ (g : Group). g.name)

  -- whether a segment is kept, by its kind
  pub kept_is : (keep : Keep) (j : ℕ) (kind : Kind) → j < length known.segments.items → kind_in known j ≡ Some kind → is_kept t keep (j + 1) ≡ keeps keep kind
  kept_is keep j kind low is = by (slice_get t.segments j) refl
    where
      by : (o : Option Segment) → slice_get t.segments j ≡ o → is_kept t keep (j + 1) ≡ keeps keep kind
      by None e = absurd (let past = ap (λ (xs : List Segment). slice_get xs j) knows.segments_are ∙ e in none_past known.segments.items j low past)
        where
          none_past : (xs : List Segment) (k : ℕ) → k < length xs → slice_get xs k ≡ None → ⊥
          none_past [] k low none = omega (arith, low)
          none_past (x ∷ xs) zero low none = none-some x (sym none)
          none_past (x ∷ xs) (suc k) low none = none_past xs k (omega (arith, low)) none
      by (Some s) e =
          ap (λ (o : Option Segment). option_map_or (λ (s : Segment). keeps keep (segment_kind t (j + 1) s)) o false) (indexed_is t.segments j ∙ e)
          ∙ ap (keeps keep) (same_Some (segment_kind t (j + 1) s) kind (sym (known_kind t known knows j s e) ∙ is))

-- ... by what indexes mean

module _ (es : List Entry) where
  pub flat_none : (frame : Method) → indexed (tables_of es).groups frame.index ≡ None → is_flat (meaning_of es) frame ≡ false
  unfolding meaning_of
  flat_none frame none =
      ap (λ (o : Option Group). nat_eq frame.number 1 && option_map_or (λ (g : Group). bytes_eq (name_at (tables_of es) g.name) (codes "FLAT")) o false) none ∙ and_false (nat_eq frame.number 1)
    where
      and_false : (a : Bool) → (a && false) ≡ false
      and_false a = grind arith

  pub flat_by : (frame : Method) (g : Group) → nat_eq frame.number 1 ≡ true → indexed (tables_of es).groups frame.index ≡ Some g
      → is_flat (meaning_of es) frame ≡ bytes_eq (name_at (tables_of es) g.name) (codes "FLAT")
  unfolding meaning_of
  flat_by frame g one there =
      ap (λ (o : Option Group). nat_eq frame.number 1 && option_map_or (λ (g : Group). bytes_eq (name_at (tables_of es) g.name) (codes "FLAT")) o false) there
      ∙ ap (λ b. b && bytes_eq (name_at (tables_of es) g.name) (codes "FLAT")) one

  pub kept_none : (keep : Keep) (segment : ℕ) → indexed (tables_of es).segments segment ≡ None → is_kept (meaning_of es).tables keep segment ≡ false
  unfolding meaning_of
  kept_none keep segment none = ap (λ (o : Option Segment). option_map_or (λ (s : Segment). keeps keep (segment_kind (tables_of es) segment s)) o false) none

  pub kept_seen : (known : Defined) → IsDefined (tables_of es) known → (keep : Keep) (j : ℕ) (kind : Kind) → j < length known.segments.items → kind_in known j ≡ Some kind
      → is_kept (meaning_of es).tables keep (j + 1) ≡ keeps keep kind
  unfolding meaning_of
  kept_seen known knows keep j kind low is = kept_is (tables_of es) known knows keep j kind low is
