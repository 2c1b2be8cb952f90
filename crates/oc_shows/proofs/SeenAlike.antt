-- The sections and the symbols that are seen of an object that was written are those of the object, in another order and with other numbers.
use Rattle.std.proofs.Common.{◌≡◌, ℕ, zero, suc, ◌+◌, ◌<◌, Bool, true, false, cond, List, [], ◌∷◌, map, replicate, Option, Some, None, refl, sym, ◌∙◌, ap, arith}
use Rattle.std.specs.{Prelude.{slice_get, nat_eq, filter_map}, List.{enumerate_from, cons_option}}
use Rattle.std.specs.Option.{option_map, option_map_or, option_and_then, unwrap_or}
use Rattle.std.proofs.lemmas.{Bool.{eq-eqb, ne_eqb, true≢false}, Option.{none-some, same_Some}}
use Rattle.oc_base.specs.{declared.format.Word.{Word}, Formats.{word_for}}
use Rattle.oc_linking.specs.{declared.terms.Fallback.{Fallback}, declared.terms.Binding.{Binding}}
use Rattle.oc_linking.specs.{declared.terms.Binding.TheVariants.{Local, Global, Undefined, Common, Weak}, Parts.{is_local}}
use Rattle.oc_linking.specs.Placing.{Placement, Outside, Site, DiscardsGroups, nowhere, is_fallback_gone}
use Rattle.oc_linking.specs.{Values.{Valued, numbered, strong_site, fallback_site, place_site, site_of}, Linking.{Address, export_at}}
use Rattle.oc_linking.specs.Faithful.{sort_of, shape_of}
use Rattle.oc_linking.specs.declared.terms.Fallback.TheVariants as fallback
use Rattle.oc_linking.specs.declared.terms.Value.TheVariants as value
use Rattle.oc_linking.specs.Parts as parts
use Rattle.oc_linking.proofs.Worth.{numbered-first}
use Rattle.oc_chains.specs.{declared.field.Field.{Field}, Lists.{list_of}}
use Rattle.oc_neutral.specs.{declared.section.Section.{Section}, declared.symbol.Symbol.{Symbol}, declared.reloc.Reloc.{Reloc}, Objects.{Object, reloc_among}}
use Rattle.oc_neutral.specs.{Building.{is_zero}, Normal.{Place}, Invariants.{IsOriginal}}
use Rattle.oc_neutral.specs.Faces.{number_of, key_of, shown_section, shown_sections, contents_of, shown_fallback, shown_binding, shown_symbol, shown_symbols}
use Rattle.oc_neutral.specs.KeySymbols.{global_place}
use Rattle.oc_shows.specs.{Shows.{AreNumbered}, Manners.{Manner}}
use Rattle.oc_shows.specs.Seen.{place_at, seen_with, seen_symbol, seen_symbols, seen_section, seen_binding, seen_reloc, seen_field, new_position}
use Rattle.oc_shows.specs.Reordered.{AreAlike}
use Rattle.oc_shows.proofs.{SeenLines.{IsShown}, Reordered.{member_map, of_map, original_found}}
use Rattle.oc_shelf.proofs.WritingLaws.MemberLemmas.{position_first}

-- a filter that leaves all
pub filter_all : {X Y : Type 0} (f : X → Option Y) (xs : List X) → ((i : ℕ) (x : X) → slice_get xs i ≡ Some x → (y : Y) × (f x ≡ Some y))
    → (i : ℕ) (x : X) (y : Y) → slice_get xs i ≡ Some x → f x ≡ Some y → slice_get (filter_map f xs) i ≡ Some y
filter_all f [] all i x y here is = absurd (none-some x here)
filter_all f (z ∷ xs) all zero x y here is = ap (λ o. slice_get (cons_option o (filter_map f xs)) 0) (ap f (same_Some z x here) ∙ is)
filter_all f (z ∷ xs) all (suc i) x y here is =
    let m = all 0 z refl in
    ap (λ o. slice_get (cons_option o (filter_map f xs)) (suc i)) m.1 ∙ filter_all f xs (λ j u h. all (suc j) u h) i x y here is

filter_back : {X Y : Type 0} (f : X → Option Y) (xs : List X) → ((i : ℕ) (x : X) → slice_get xs i ≡ Some x → (y : Y) × (f x ≡ Some y))
    → (i : ℕ) (y : Y) → slice_get (filter_map f xs) i ≡ Some y → (x : X) × (slice_get xs i ≡ Some x) × (f x ≡ Some y)
filter_back f [] all i y here = absurd (none-some y here)
filter_back f (z ∷ xs) all zero y here =
    let m = all 0 z refl in
    (z, refl, m.1 ∙ ap Some (same_Some m.0 y (sym (ap (λ o. slice_get (cons_option o (filter_map f xs)) 0) m.1) ∙ here)))
filter_back f (z ∷ xs) all (suc i) y here =
    let m = all 0 z refl in
    filter_back f xs (λ j u h. all (suc j) u h) i y (sym (ap (λ o. slice_get (cons_option o (filter_map f xs)) (suc i)) m.1) ∙ here)

module _ (m : Manner) (n : Object) (shown : List (ℕ × ℕ)) (is : IsShown n shown) where
  abbrev again : Object
  again = seen_with m n shown

  each_symbol : (i : ℕ) (x : ℕ × ℕ) → slice_get shown i ≡ Some x → (t : Symbol) × (option_map (seen_symbol m n shown x.1) (slice_get n.symbols x.0) ≡ Some t)
  each_symbol i x here = let s = is.valid i x here in (seen_symbol m n shown x.1 s.0, ap (option_map (seen_symbol m n shown x.1)) s.1)

  -- where a symbol is seen
  symbol_at : (i : ℕ) (x : ℕ × ℕ) (s : Symbol) → slice_get shown i ≡ Some x → slice_get n.symbols x.0 ≡ Some s → slice_get (seen_symbols m n shown) i ≡ Some (seen_symbol m n shown x.1 s)
  unfolding seen_symbols
  symbol_at i x s here there = filter_all (λ (y : ℕ × ℕ). option_map (seen_symbol m n shown y.1) (slice_get n.symbols y.0)) shown each_symbol i x (seen_symbol m n shown x.1 s) here (ap (option_map (seen_symbol m n shown x.1)) there)

  -- and of which it is seen
  pub symbol_from : (i : ℕ) (t : Symbol) → slice_get (seen_symbols m n shown) i ≡ Some t → (x : ℕ × ℕ) × (s : Symbol) × (slice_get shown i ≡ Some x) × (slice_get n.symbols x.0 ≡ Some s) × (seen_symbol m n shown x.1 s ≡ t)
  unfolding seen_symbols
  symbol_from i t here =
      let x = filter_back (λ (y : ℕ × ℕ). option_map (seen_symbol m n shown y.1) (slice_get n.symbols y.0)) shown each_symbol i t here in
      let s = is.valid i x.0 x.1 in
      (x.0, s.0, x.1, s.1, same_Some (seen_symbol m n shown x.0.1 s.0) t (sym (ap (option_map (seen_symbol m n shown x.0.1)) s.1) ∙ x.2))

  -- its new position
  position_is : (i : ℕ) (x : ℕ × ℕ) (k : ℕ) → slice_get shown i ≡ Some x → x.0 ≡ k → new_position shown k ≡ i
  position_is i x k here own =
      position_first (λ (y : ℕ × ℕ). nat_eq y.0 k) shown i x here (eq-eqb x.0 k own) (λ j y before there. ne_eqb y.0 k (λ same. is.once j i y x before there here (same ∙ sym own)))

  -- numbers differ
  pub numbers_differ : AreNumbered (shown_symbols again)
  numbers_differ i j s t before here there same =
      let a = of_map (shown_symbol again.symbols) again.symbols i s here in
      let b = of_map (shown_symbol again.symbols) again.symbols j t there in
      let x = symbol_from i a.0 a.1 in
      let y = symbol_from j b.0 b.1 in
      is.numbers i j x.0 y.0 before x.2 y.2
      (ap (λ (u : Symbol). u.number) x.4 ∙ ap (λ (u : parts.Symbol). u.number) a.2 ∙ same ∙ sym (ap (λ (u : Symbol). u.number) y.4 ∙ ap (λ (u : parts.Symbol). u.number) b.2))

  -- every nonlocal is there
  pub stands : (k : ℕ) (s : Symbol) → slice_get n.symbols k ≡ Some s → is_local s.binding ≡ false → (number : ℕ) × (slice_get again.symbols (new_position shown k) ≡ Some (seen_symbol m n shown number s))
  stands k s here outer =
      let i = is.there k s here outer in
      (i.1.1, ap (slice_get again.symbols) (position_is i.0 i.1 k i.2 i.3) ∙ symbol_at i.0 i.1 s i.2 (ap (slice_get n.symbols) i.3 ∙ here))

  pub seen_local : (b : Binding) → is_local (seen_binding m n shown b) ≡ is_local b
  seen_local b = grind arith

  -- and there are no others
  pub comes_from : (i : ℕ) (t : Symbol) → slice_get again.symbols i ≡ Some t → is_local t.binding ≡ false
      → (k : ℕ) × (s : Symbol) × (slice_get n.symbols k ≡ Some s) × (is_local s.binding ≡ false) × (new_position shown k ≡ i)
  comes_from i t here outer =
      let x = symbol_from i t here in
      (x.0.0, x.1, x.3, sym (seen_local x.1.binding) ∙ ap (λ (u : Symbol). is_local u.binding) x.4 ∙ outer, position_is i x.0 x.0.0 x.2 refl)

  -- the sections have their shapes
  pub shapes_same : (i : ℕ) (sections : List Section) → map (shape_of (λ align. align) (λ key. key)) (map (shown_section n.groups) (map (seen_section m n) (enumerate_from i sections)))
      ≡ map (shape_of (λ align. align) (λ key. key)) (map (shown_section n.groups) sections)
  shapes_same i [] = refl
  shapes_same i (s ∷ sections) = ap (λ xs. shape_of (λ align. align) (λ key. key) (shown_section n.groups s) ∷ xs) (shapes_same (i + 1) sections)

  -- and their contents, where those are Zero that were
  pub contents_same : (i : ℕ) (sections : List Section) → ((k : ℕ) (s : Section) → slice_get sections k ≡ Some s → is_zero (m.kind s) ≡ is_zero s.kind)
      → map contents_of (map (seen_section m n) (enumerate_from i sections)) ≡ map contents_of sections
  contents_same i [] kinds = refl
  contents_same i (s ∷ sections) kinds =
      ap (λ b. cond b (replicate s.size 0) s.bytes ∷ map contents_of (map (seen_section m n) (enumerate_from (i + 1) sections))) (kinds 0 s refl)
      ∙ ap (λ xs. contents_of s ∷ xs) (contents_same (i + 1) sections (λ k t here. kinds (suc k) t here))

  -- the relocations are where they were
  among : (xs : List (Field Reloc)) (at : ℕ) → reloc_among (map (seen_field m n shown) xs) at ≡ option_map (seen_reloc m n shown) (reloc_among xs at)
  among [] at = refl
  among (x ∷ xs) at = by (nat_eq x.at at) (among xs at)
    where
      by : (b : Bool) → reloc_among (map (seen_field m n shown) xs) at ≡ option_map (seen_reloc m n shown) (reloc_among xs at) → cond b (Some (seen_reloc m n shown x.item)) (reloc_among (map (seen_field m n shown) xs) at) ≡ option_map (seen_reloc m n shown) (cond b (Some x.item) (reloc_among xs at))
      by b later = grind arith

  pub relocs_same : (lists : List (List (Field Reloc))) (s at : ℕ) → reloc_among (list_of (map (map (seen_field m n shown)) lists) s) at ≡ option_map (seen_reloc m n shown) (reloc_among (list_of lists s) at)
  relocs_same [] s at = refl
  relocs_same (xs ∷ lists) zero at = among xs at
  relocs_same (xs ∷ lists) (suc s) at = relocs_same lists s at

-- what has the place of a Global is one
pub global_is : (b : Binding) (place : Place) → global_place b ≡ Some place → b ≡ Global (value.Place place.0 place.1)
global_is b place h = grind arith

-- what a fallback Name of a fitted object names: no Local, no Weak and no alias; where places are said, one whose place is in no group
pub record IsNameable (m : Manner) (n : Object) (j : ℕ) : Type 0 where
  pub symbol : Symbol
  pub there : slice_get n.symbols j ≡ Some symbol
  pub outer : is_local symbol.binding ≡ false
  pub strong : (f : Fallback) → symbol.binding ≡ Weak f → ⊥
  pub original : IsOriginal n.symbols j
  pub alone : m.places ≡ true → (s offset : ℕ) → symbol.binding ≡ Global (value.Place s offset) → (x : Section) × (slice_get n.sections s ≡ Some x) × (x.group ≡ None)

module _ (m : Manner) (n : Object) (shown : List (ℕ × ℕ)) (is : IsShown n shown)
    (names : (k j : ℕ) (s : Symbol) → slice_get n.symbols k ≡ Some s → s.binding ≡ Weak (fallback.Name j) → IsNameable m n j) where
  -- what is seen
  abbrev seen_one : Object
  seen_one = seen_with m n shown

  module _ (p : Placement) (e : Outside) (groups : DiscardsGroups (shown_sections n) p) where
    abbrev w : Word
    w = word_for n.format

    -- what a symbol that is found by its number is worth as a fallback
    abbrev found_site : Option parts.Symbol → Site
    found_site o = unwrap_or (option_map (λ (s : parts.Symbol). strong_site w p (e.site s.name) s.binding) o) nowhere

    -- a symbol that is not Weak has its binding
    strong_binding : (b : Binding) → ((f : Fallback) → b ≡ Weak f → ⊥) → shown_binding seen_one.symbols (seen_binding m n shown b) ≡ shown_binding n.symbols b
    strong_binding b strong = grind arith

    -- the number of a symbol at a position finds it
    own_number : (j : ℕ) (has : IsNameable m n j) → found_site (numbered (shown_symbols n) (number_of n.symbols j)) ≡ strong_site w p (e.site has.symbol.name) (shown_binding n.symbols has.symbol.binding)
    own_number j has =
        let own : number_of n.symbols j ≡ has.symbol.number = ap (λ o. option_map_or (λ (y : Symbol). y.number) o 0) has.there in
        let found : numbered (shown_symbols n) has.symbol.number ≡ Some (shown_symbol n.symbols has.symbol) = original_found n j has.symbol has.there has.original in
        ap found_site (ap (numbered (shown_symbols n)) own ∙ found)

    -- and so the number that is seen
    new_number : (j : ℕ) (has : IsNameable m n j) → found_site (numbered (shown_symbols seen_one) (number_of seen_one.symbols (new_position shown j)))
        ≡ strong_site w p (e.site has.symbol.name) (shown_binding n.symbols has.symbol.binding)
    new_number j has =
        let t = stands m n shown is j has.symbol has.there has.outer in
        let x : Symbol = seen_symbol m n shown t.0 has.symbol in
        let number : number_of seen_one.symbols (new_position shown j) ≡ t.0 = ap (λ o. option_map_or (λ (y : Symbol). y.number) o 0) t.1 in
        let displayed : slice_get (shown_symbols seen_one) (new_position shown j) ≡ Some (shown_symbol seen_one.symbols x) = member_map (shown_symbol seen_one.symbols) seen_one.symbols (new_position shown j) x t.1 in
        let found : numbered (shown_symbols seen_one) t.0 ≡ Some (shown_symbol seen_one.symbols x)
        = numbered-first (shown_symbols seen_one) (new_position shown j) (shown_symbol seen_one.symbols x) displayed (λ i u before h same.
        numbers_differ m n shown is i (new_position shown j) u (shown_symbol seen_one.symbols x) before h displayed same) in
        ap found_site (ap (numbered (shown_symbols seen_one)) number ∙ found) ∙ ap (strong_site w p (e.site has.symbol.name)) (strong_binding has.symbol.binding has.strong)

    -- a place that stands for a Global is not discarded, and is its site
    abbrev placed : Option Place → ℕ → Fallback
    placed o j = option_map_or (λ (place : Place). fallback.Place place.0 place.1) o (fallback.Name (new_position shown j))

    kept : (s : ℕ) → ((x : Section) × (slice_get n.sections s ≡ Some x) × (x.group ≡ None)) → p.discarded s ≡ false
    kept s x = groups.alone s (shown_section n.groups x.0) (member_map (shown_section n.groups) n.sections s x.0 x.1) (ap (option_and_then (key_of n.groups)) x.2)

    -- where a place is said, places are, and it is that of the Global
    abbrev IsPlaced : (j : ℕ) → IsNameable m n j → Option Place → Type 0
    IsPlaced j has o = (place : Place) → o ≡ Some place → (m.places ≡ true) × (has.symbol.binding ≡ Global (value.Place place.0 place.1))

    -- and it is not discarded
    stays_placed : (j : ℕ) (has : IsNameable m n j) (o : Option Place) → IsPlaced j has o → (place : Place) → o ≡ Some place → p.discarded place.0 ≡ false
    stays_placed j has o from place h = let is = from place h in kept place.0 (has.alone is.0 place.0 place.1 is.1)

    -- a fallback Name is lost no more than before, and has its site
    gone_same : (j : ℕ) (has : IsNameable m n j) (o : Option Place) → IsPlaced j has o
        → is_fallback_gone p (shown_fallback seen_one.symbols (placed o j)) ≡ false
    gone_same j has None from = refl
    gone_same j has (Some place) from = stays_placed j has (Some place) from place refl

    site_same : (j : ℕ) (has : IsNameable m n j) (o : Option Place) → IsPlaced j has o
        → fallback_site w p e (shown_symbols seen_one) (shown_fallback seen_one.symbols (placed o j)) ≡ fallback_site w p e (shown_symbols n) (fallback.Name (number_of n.symbols j))
    site_same j has None from = new_number j has ∙ sym (own_number j has)
    site_same j has (Some place) from =
        ap (λ b. cond b (unwrap_or (e.site has.symbol.name) nowhere) (place_site w p place.0 place.1)) (sym (stays_placed j has (Some place) from place refl))
        ∙ ap (λ b. strong_site w p (e.site has.symbol.name) (shown_binding n.symbols b)) (sym (from place refl).1)
        ∙ sym (own_number j has)

    -- where places are said, they are those of Globals
    place_from : (j : ℕ) (has : IsNameable m n j) (c : Bool) → m.places ≡ c → IsPlaced j has (cond c (place_at n j) None)
    place_from j has c e place h = grind arith

    -- a symbol that is not Local is worth what it was, and exports what it did
    value_same : (k number : ℕ) (s : Symbol) (b : Binding) → slice_get n.symbols k ≡ Some s → s.binding ≡ b → is_local b ≡ false
        → site_of w p e (shown_symbols seen_one) s.name (shown_binding seen_one.symbols (seen_binding m n shown b)) ≡ site_of w p e (shown_symbols n) s.name (shown_binding n.symbols b)
    value_same k number s (Local v) here own outer = absurd (true≢false outer)
    value_same k number s (Global v) here own outer = refl
    value_same k number s Undefined here own outer = refl
    value_same k number s (Common size align) here own outer = refl
    value_same k number s (Weak (fallback.Place t offset)) here own outer = refl
    value_same k number s (Weak fallback.Zero) here own outer = refl
    value_same k number s (Weak (fallback.Name j)) here own outer =
        let has : IsNameable m n j = names k j s here own in
        ap (unwrap_or (e.site s.name)) (site_same j has (cond m.places (place_at n j) None) (place_from j has m.places refl))

    export_same : (k : ℕ) (s : Symbol) (b : Binding) → slice_get n.symbols k ≡ Some s → s.binding ≡ b → is_local b ≡ false
        → export_at w p e (shown_symbols seen_one) s.name (shown_binding seen_one.symbols (seen_binding m n shown b)) ≡ export_at w p e (shown_symbols n) s.name (shown_binding n.symbols b)
    export_same k s (Local v) here own outer = absurd (true≢false outer)
    export_same k s (Global v) here own outer = refl
    export_same k s Undefined here own outer = refl
    export_same k s (Common size align) here own outer = refl
    export_same k s (Weak (fallback.Place t offset)) here own outer = refl
    export_same k s (Weak fallback.Zero) here own outer = refl
    export_same k s (Weak (fallback.Name j)) here own outer =
        let has : IsNameable m n j = names k j s here own in
        let o : Option Place = cond m.places (place_at n j) None in
        ap (λ gone. cond gone None (Some (Address (site_of w p e (shown_symbols seen_one) s.name (Weak (shown_fallback seen_one.symbols (placed o j)))).address))) (gone_same j has o (place_from j has m.places refl))
        ∙ ap (λ (x : Site). Some (Address (unwrap_or (e.site s.name) x).address)) (site_same j has o (place_from j has m.places refl))

  sort_same : (b : Binding) → sort_of (λ size align. align) (shown_binding seen_one.symbols (seen_binding m n shown b)) ≡ sort_of (λ size align. align) (shown_binding n.symbols b)
  sort_same b = grind arith

  local_same : (b : Binding) → is_local (shown_binding seen_one.symbols (seen_binding m n shown b)) ≡ is_local (shown_binding n.symbols b)
  local_same b = grind arith

  -- each is alike
  pub alike : (k number : ℕ) (s : Symbol) → slice_get n.symbols k ≡ Some s → is_local s.binding ≡ false → AreAlike seen_one n (seen_symbol m n shown number s) s
  alike k number s here outer = record {
    name = refl;
    sort = sort_same s.binding;
    value = λ p e groups.
        ap (λ (site : Site). worth e (is_local (shown_binding seen_one.symbols (seen_binding m n shown s.binding))) site) (value_same p e groups k number s s.binding here refl outer)
        ∙ ap (λ b. worth e b (site_of (word_for n.format) p e (shown_symbols n) s.name (shown_binding n.symbols s.binding))) (local_same s.binding);
    exported = λ p e groups. export_same p e groups k s s.binding here refl outer;
  }
    where
      worth : Outside → Bool → Site → Valued
      worth e local site = record { site = site; slot = cond local 0 (e.slot s.name) }
