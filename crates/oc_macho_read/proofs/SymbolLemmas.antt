-- The symbols of a file without faults.
use Rattle.std.proofs.Common.{Bool, List, None, Option, Some, [], ap, arith, bytes_eq, cond, false, length, nat_eq, nat_lt, not, refl, slice_get, sym, true, true≢false, ℕ, ◌%◌, ◌&&◌, ◌++◌, ◌+◌, ◌-◌, ◌/◌, ◌<◌, ◌^◌, ◌||◌, ◌∙◌, ◌≡◌, ◌≤◌}
use Rattle.std.proofs.lemmas.Option.{none-some, slice_get_within}
use Rattle.std.specs.{Option.{option_and_then, option_map, option_map_or}, Prelude.{is_none, is_some}}
use Rattle.oc_linking.specs.{FirstFault.{fault_of, first_broken, stage_fault}, declared.terms.Binding.TheVariants.{Common, Global, Local, Undefined, Weak}}
use Rattle.oc_linking.specs.{declared.terms.Binding.{Binding}, declared.terms.Keep.{Keep}, declared.terms.Mark.TheVariants.{NoType}}
use Rattle.oc_linking.specs.declared.terms.Visibility.TheVariants.{Default, Hidden}
use Rattle.oc_macho.specs.{Entries.{is_pinned}, Rules.{symbols_in}, Sections.{address_of, header_numbered}}
use Rattle.oc_macho.specs.Symbols.{binding_of, external_binding, is_carried, is_external, is_own, is_stab, is_type, name_at, name_of, offset_of, outer_binding, symbol_of, value_of}
use Rattle.oc_macho.specs.{Tables.{SectionTable, Tables}, declared.constants.TheConstants.{N_ABS, N_PEXT, N_SECT, N_UNDF, N_WEAK_DEF, N_WEAK_REF}}
use Rattle.oc_macho.specs.{declared.nlist.Nlist.{Nlist}, declared.section_header.SectionHeader.{SectionHeader}}
use Rattle.oc_shelf.proofs.ReadingLaws.NumberedLemmas.{one_position, stands_numbered}
use Rattle.oc_shelf.proofs.ReadingLaws.CollectedLemmas.{IsFrom, collected-at, collected-from, collected-ordered, collected-same, numbered}
use Rattle.oc_shelf.proofs.ReadingLaws.StageLemmas.{all_hold, clean_at, clean_both}
use Rattle.oc_macho_read.proofs.SectionedLemmas.{sound_section}
use Rattle.oc_macho_read.specs.Built.{IsSound, symbol_as, symbol_at}
use Rattle.oc_shows.specs.{Computed.{computed_symbol, placed_binding, position_of}, Shows.{AreNumbered}}
use Rattle.oc_neutral.specs.KindRules.{has}
use Rattle.oc_shelf.specs.Reading.Collected.{collected}
use Rattle.oc_linking.specs.Parts as parts
use Rattle.oc_linking.specs.declared.terms.Fallback.TheVariants as fallback
use Rattle.oc_strings.specs.Repeats as repeats
use Rattle.oc_macho.specs.SymbolFaults as rules
use Rattle.oc_macho.specs.SectionFaults as sections
use Rattle.oc_macho.specs.Symbols as own

-- ... carried symbols

abbrev pub as_part : Tables → Bool → ℕ → Nlist → parts.Symbol
as_part t pinned j s = record {
  name = name_of t s;
  binding = binding_of t s;
  mark = NoType;
  vis = cond (is_external s && has s.n_type N_PEXT) Hidden Default;
  size = 0;
  pinned = pinned;
  number = j;
}

-- symbol number k of the table, which is carried
pub record IsAt (t : Tables) (keep : Keep) (k : ℕ) (s : parts.Symbol) : Type 0 where
  pub nlist : Nlist
  pub there : slice_get t.symbols k ≡ Some nlist
  pub carried : is_carried t nlist ≡ true
  pub is : as_part t (is_pinned t keep k) k nlist ≡ s

pub stands_at : (t : Tables) (keep : Keep) (k : ℕ) (s : parts.Symbol) → symbol_at t keep k ≡ Some s → IsAt t keep k s
unfolding symbol_at symbol_of
stands_at t keep k s is = by (slice_get t.symbols k) refl is
  where
    by : (o : Option Nlist) → slice_get t.symbols k ≡ o → option_and_then (λ (y : Nlist). cond (is_carried t y) (Some (as_part t (is_pinned t keep k) k y)) None) o ≡ Some s → IsAt t keep k s
    by None g h = absurd (none-some s h)
    by (Some y) g h = of (is_carried t y) refl h
      where
        of : (b : Bool) → is_carried t y ≡ b → cond b (Some (as_part t (is_pinned t keep k) k y)) None ≡ Some s → IsAt t keep k s
        of b e i = grind arith

pub carried_at : (t : Tables) (keep : Keep) (k : ℕ) (y : Nlist) → slice_get t.symbols k ≡ Some y → is_carried t y ≡ true → symbol_at t keep k ≡ Some (as_part t (is_pinned t keep k) k y)
unfolding symbol_at symbol_of
carried_at t keep k y here is = ap (option_and_then (symbol_of t (is_pinned t keep k) k)) here ∙ ap (λ b. cond b (Some (as_part t (is_pinned t keep k) k y)) None) is

pub left_at : (t : Tables) (keep : Keep) (k : ℕ) (y : Nlist) → slice_get t.symbols k ≡ Some y → is_carried t y ≡ false → symbol_at t keep k ≡ None
unfolding symbol_at symbol_of
left_at t keep k y here is = ap (option_and_then (symbol_of t (is_pinned t keep k) k)) here ∙ ap (λ b. cond b (Some (as_part t (is_pinned t keep k) k y)) None) is

pub symbols_are : (t : Tables) (keep : Keep) → symbols_in t keep ≡ collected (symbol_at t keep) (length t.symbols)
unfolding symbols_in own.symbols_by symbol_at
symbols_are t keep =
    numbered (λ (x : ℕ × Nlist). symbol_of t (is_pinned t keep x.0) x.0 x.1) 0 t.symbols
    ∙ collected-same (λ i. option_and_then (λ x. symbol_of t (is_pinned t keep (i + 0)) (i + 0) x) (slice_get t.symbols i)) (symbol_at t keep) (length t.symbols)
    (λ i low. let none : i + 0 ≡ i = omega arith in ap (λ (k : ℕ). option_and_then (λ x. symbol_of t (is_pinned t keep k) k x) (slice_get t.symbols i)) none)

module _ (t : Tables) (keep : Keep) where
  pub from_number : (i : ℕ) (s : parts.Symbol) → slice_get (symbols_in t keep) i ≡ Some s → IsFrom (symbol_at t keep) (length t.symbols) i s
  from_number i s at = collected-from (symbol_at t keep) (length t.symbols) i s (sym (ap (λ (xs : List parts.Symbol). slice_get xs i) (symbols_are t keep)) ∙ at)

  number_is : (k : ℕ) (s : parts.Symbol) → symbol_at t keep k ≡ Some s → s.number ≡ k
  number_is k s is = sym (ap (λ (x : parts.Symbol). x.number) (stands_at t keep k s is).is)

  pub symbols_numbered : AreNumbered (symbols_in t keep)
  symbols_numbered i j s u less at_i at_j same =
      let a = from_number i s at_i in
      let b = from_number j u at_j in
      let before = collected-ordered (symbol_at t keep) (length t.symbols) i j s u a b less in
      let first = number_is a.k s a.is in
      let second = number_is b.k u b.is in
      omega (arith, before, first, second, same)

  -- a carried symbol stands at the position of its number
  pub symbol_stands : (k : ℕ) (x : parts.Symbol) → k < length t.symbols → symbol_at t keep k ≡ Some x → slice_get (symbols_in t keep) (position_of (symbols_in t keep) x.number) ≡ Some x
  symbol_stands k x low is =
      stands_numbered (symbols_in t keep) symbols_numbered (length (collected (symbol_at t keep) k)) x
      (ap (λ (xs : List parts.Symbol). slice_get xs (length (collected (symbol_at t keep) k))) (symbols_are t keep) ∙ collected-at (symbol_at t keep) k (length t.symbols) x is low)

  -- and behind those before it
  pub standing_at : (k : ℕ) (x : parts.Symbol) → k < length t.symbols → symbol_at t keep k ≡ Some x → position_of (symbols_in t keep) x.number ≡ length (collected (symbol_at t keep) k)
  standing_at k x low is =
      one_position (symbols_in t keep) symbols_numbered (position_of (symbols_in t keep) x.number) (length (collected (symbol_at t keep) k)) x (symbol_stands k x low is)
      (ap (λ (xs : List parts.Symbol). slice_get xs (length (collected (symbol_at t keep) k))) (symbols_are t keep) ∙ collected-at (symbol_at t keep) k (length t.symbols) x is low)

-- ... bindings

pub each_binding : (t : Tables) (s : Nlist) (P : Binding → Type 0)
    → (is_external s ≡ false → P (Local (value_of t s)))
    → (is_external s ≡ true → is_type N_UNDF s ≡ true → P (outer_binding s))
    → (is_external s ≡ true → is_type N_SECT s ≡ true → P (Weak (fallback.Place (s.n_sect - 1) (offset_of t s))))
    → (is_external s ≡ true → is_type N_UNDF s ≡ false → P (Global (value_of t s)))
    → P (binding_of t s)
unfolding binding_of
each_binding t s P local outer weak global = by (is_external s) refl
  where
    by : (b : Bool) → is_external s ≡ b → P (cond b (external_binding t s) (Local (value_of t s)))
    by false e = local e
    by true e = of (is_type N_UNDF s) refl
      where
        of : (b : Bool) → is_type N_UNDF s ≡ b → P (cond b (outer_binding s) (cond (is_type N_SECT s && has s.n_desc N_WEAK_DEF) (Weak (fallback.Place (s.n_sect - 1) (offset_of t s))) (Global (value_of t s))))
        of true g = outer e g
        of false g = last (is_type N_SECT s) (has s.n_desc N_WEAK_DEF) refl
          where
            last : (a b : Bool) → is_type N_SECT s ≡ a → P (cond (a && b) (Weak (fallback.Place (s.n_sect - 1) (offset_of t s))) (Global (value_of t s)))
            last true true h = weak e h
            last true false h = global e g
            last false b h = global e g

pub each_outer : (s : Nlist) (P : Binding → Type 0) → P Undefined → P (Weak fallback.Zero) → P (Common s.n_value (2 ^ (s.n_desc / 2 ^ 8 % 16))) → P (outer_binding s)
each_outer s P undefined weak common = by (nat_eq s.n_value 0) (has s.n_desc N_WEAK_REF)
  where
    by : (a b : Bool) → P (cond (not a) (Common s.n_value (2 ^ (s.n_desc / 2 ^ 8 % 16))) (cond b (Weak fallback.Zero) Undefined))
    by true true = weak
    by true false = undefined
    by false b = common

-- no binding names a symbol
pub plain_binding : (all : List parts.Symbol) (t : Tables) (s : Nlist) → placed_binding all (binding_of t s) ≡ binding_of t s
plain_binding all t s =
    each_binding t s (λ b. placed_binding all b ≡ b) (λ e. refl) (λ e g. each_outer s (λ b. placed_binding all b ≡ b) refl refl refl) (λ e g. refl) (λ e g. refl)

pub as_computed : (all : List parts.Symbol) (t : Tables) (pinned : Bool) (j : ℕ) (s : Nlist) → computed_symbol all (as_part t pinned j s) ≡ symbol_as t pinned j s
as_computed all t pinned j s =
    ap (λ (b : Binding). record { name = name_of t s; binding = b; mark = NoType; vis = cond (is_external s && has s.n_type N_PEXT) Hidden Default; size = 0; pinned = pinned; number = j }) (plain_binding all t s)

-- ... what a symbol has that has no fault

pub record IsSoundSymbol (t : Tables) (j : ℕ) (s : Nlist) : Type 0 where
  pub named : is_none (name_at t s) ≡ false
  pub known : rules.is_odd s ≡ false
  pub home : (is_type N_SECT s && is_none (header_numbered t s.n_sect)) ≡ false
  pub inside : (is_type N_SECT s && option_map_or (rules.is_outside s) (header_numbered t s.n_sect) false) ≡ false
  pub full : (is_external s && bytes_eq (name_of t s) []) ≡ false
  pub once : is_some (repeats.repeat_at (rules.public_names t) j) ≡ false

sound_by : (t : Tables) (j : ℕ) (s : Nlist) (again : Bool) → is_stab s ≡ false → first_broken (rules.symbol_conditions t j s again) ≡ None → again ≡ is_some (repeats.repeat_at (rules.public_names t) j) → IsSoundSymbol t j s
unfolding rules.symbol_conditions
sound_by t j s again stab clean same =
    let listed : first_broken (rules.kind_conditions t j s ++ (rules.home_conditions t j s ++ rules.name_conditions t j s again)) ≡ None
    = sym (ap (λ b. first_broken (cond b [] (rules.kind_conditions t j s ++ (rules.home_conditions t j s ++ rules.name_conditions t j s again)))) stab) ∙ clean in
    let first = clean_both (rules.kind_conditions t j s) (rules.home_conditions t j s ++ rules.name_conditions t j s again) listed in
    let second = clean_both (rules.home_conditions t j s) (rules.name_conditions t j s again) first.1 in
    let kinds = all_hold (rules.kind_conditions t j s) first.0 in
    let homes = all_hold (rules.home_conditions t j s) second.0 in
    let names = all_hold (rules.name_conditions t j s again) second.1 in
    record { named = kinds.0; known = kinds.1.0; home = homes.0; inside = homes.1.0; full = names.0; once = sym same ∙ names.1.0 }

pub not_stab : (t : Tables) (s : Nlist) → is_carried t s ≡ true → is_stab s ≡ false
not_stab t s e = by (is_stab s) (is_own t s) (is_external s || not (bytes_eq (name_of t s) [])) e
  where
    by : (a b c : Bool) → (not a && not b && c) ≡ true → a ≡ false
    by a b c e = grind arith

module _ (t : Tables) (clean : stage_fault (rules.symbol_stage t) ≡ None) where
  pub sound_symbol : (j : ℕ) (s : Nlist) → slice_get t.symbols j ≡ Some s → is_stab s ≡ false → IsSoundSymbol t j s
  sound_symbol j s here stab =
      sound_by t j s (is_some (repeats.repeat_at (rules.public_names t) j)) stab
      (sym (ap (λ (o : Option Nlist). first_broken (option_map_or (λ s. rules.symbol_conditions t j s (is_some (repeats.repeat_at (rules.public_names t) j))) o [])) here)
      ∙ clean_at (fault_of (rules.symbol_stage t)) (length t.symbols) j clean (slice_get_within t.symbols j s here)) refl

-- the section of a symbol that has one
pub record HasHome (t : Tables) (s : Nlist) : Type 0 where
  pub table : SectionTable
  pub there : slice_get t.sections (s.n_sect - 1) ≡ Some table
  pub address : address_of t s.n_sect ≡ table.header.addr
  pub low : table.header.addr ≤ s.n_value
  pub high : s.n_value ≤ table.header.addr + table.header.size

not_outside : (v a z : ℕ) → (nat_lt v a || nat_lt (a + z) v) ≡ false → (a ≤ v) × (v ≤ a + z)
not_outside v a z e = by (nat_lt v a) (nat_lt (a + z) v) refl refl e
  where
    by : (b c : Bool) → nat_lt v a ≡ b → nat_lt (a + z) v ≡ c → (b || c) ≡ false → (a ≤ v) × (v ≤ a + z)
    by b c g h e = grind arith

-- the header of a section, unless its number is 0
abbrev pub number : Option SectionTable → Bool → Option SectionHeader
number o b = cond b None (option_map (λ (x : SectionTable). x.header) o)

pub has_home : (t : Tables) (j : ℕ) (s : Nlist) → IsSoundSymbol t j s → is_type N_SECT s ≡ true → HasHome t s
has_home t j s sound sect = by (nat_eq s.n_sect 0) refl (slice_get t.sections (s.n_sect - 1)) refl
  where
    is_home : (o : Option SectionHeader) → header_numbered t s.n_sect ≡ o → (is_none o ≡ false) × (option_map_or (rules.is_outside s) o false ≡ false)
    is_home o e = (
      second (is_none o) (ap (λ b. b && is_none o) (sym sect) ∙ sym (ap (λ (o : Option SectionHeader). is_type N_SECT s && is_none o) e) ∙ sound.home),
      second (option_map_or (rules.is_outside s) o false) (ap (λ b. b && option_map_or (rules.is_outside s) o false) (sym sect) ∙ sym (ap (λ (o : Option SectionHeader). is_type N_SECT s && option_map_or (rules.is_outside s) o false) e) ∙ sound.inside),
    )
      where
        second : (b : Bool) → (true && b) ≡ false → b ≡ false
        second b e = grind arith

    by : (b : Bool) → nat_eq s.n_sect 0 ≡ b → (o : Option SectionTable) → slice_get t.sections (s.n_sect - 1) ≡ o → HasHome t s
    by true e o g = absurd (true≢false (is_home None (ap (number (slice_get t.sections (s.n_sect - 1))) e)).0)
    by false e None g = absurd (true≢false (is_home None (ap (number (slice_get t.sections (s.n_sect - 1))) e ∙ ap (λ (o : Option SectionTable). number o false) g)).0)
    by false e (Some x) g =
        let header : header_numbered t s.n_sect ≡ Some x.header = ap (number (slice_get t.sections (s.n_sect - 1))) e ∙ ap (λ (o : Option SectionTable). number o false) g in
        let inside = not_outside s.n_value x.header.addr x.header.size (is_home (Some x.header) header).1 in
        record { table = x; there = g; address = ap (λ (o : Option SectionHeader). option_map_or (λ (h : SectionHeader). h.addr) o 0) header; low = inside.0; high = inside.1 }

-- its offset is one in its section
pub offset_low : (t : Tables) (s : Nlist) (m : HasHome t s) → offset_of t s ≤ m.table.header.size
offset_low t s m = let address = m.address in let low = m.low in let high = m.high in omega (arith, address, low, high)

pub is_sound : (t : Tables) → stage_fault (sections.section_stage t) ≡ None → (j : ℕ) (s : Nlist) → IsSoundSymbol t j s → IsSound t s
is_sound t clean j s sound = record {
  known = sound.known;
  low = λ sect.
      let m = has_home t j s sound sect in
      let small = (sound_section t clean (s.n_sect - 1) m.table m.there).size in
      let inside = offset_low t s m in
      omega (arith, small, inside);
}

-- a symbol that is defined and is no number has a section
pub known_section : (s : Nlist) → rules.is_odd s ≡ false → is_type N_UNDF s ≡ false → is_type N_ABS s ≡ false → is_type N_SECT s ≡ true
known_section s odd undefined absolute =
    by (is_type N_UNDF s) (is_type N_ABS s) (is_type N_SECT s) (is_type N_UNDF s && not (is_external s)) (is_type N_ABS s && is_external s && has s.n_desc N_WEAK_DEF) undefined absolute odd
  where
    by : (a b c d e : Bool) → a ≡ false → b ≡ false → (not (a || b || c) || d || e) ≡ false → c ≡ true
    by a b c d e f g h = grind arith

-- a Local is defined
pub local_defined : (s : Nlist) → rules.is_odd s ≡ false → is_external s ≡ false → is_type N_UNDF s ≡ false
local_defined s odd local =
    by (is_type N_UNDF s) (is_external s) (not (is_type N_UNDF s || is_type N_ABS s || is_type N_SECT s)) (is_type N_ABS s && is_external s && has s.n_desc N_WEAK_DEF) local odd
  where
    by : (a b c d : Bool) → b ≡ false → (c || (a && not b) || d) ≡ false → a ≡ false
    by a b c d e f = grind arith
