-- The symbols of a file without faults, added one after the other.
use Rattle.std.proofs.Common.{List, None, Ok, Option, Some, [], ap, arith, bytes_eq, cond, false, length, map, not, refl, slice_get, suc, sym, true, true≢false, zero, ℕ, ◌&&◌, ◌+◌, ◌<◌, ◌∙◌, ◌∷◌, ◌≡◌, ◌≢◌, ◌≤◌, ◌⊎◌}
use Rattle.std.proofs.lemmas.{Bool.{cases_eq}, List.{length-map, map-append}, Option.{slice_get-map, slice_get_within}, Slice.Eq.{bytes_eq-Decides}}
use Rattle.std.specs.{Option.{option_and_then, option_flatten, option_map, option_map_or}, Prelude.{is_some}}
use Rattle.oc_linking.specs.{FirstFault.{stage_fault}, Numbers.{first_upto, or_else}, Parts.{is_local}, declared.terms.Keep.{Keep}}
use Rattle.oc_macho.specs.{Entries.{is_pinned}, MachHeader.{mach_format}, Rules.{symbols_in}, Sections.{sections_in}}
use Rattle.oc_macho.specs.{Symbols.{binding_of, is_carried, is_external, is_stab, name_of}, Tables.{Tables}, declared.nlist.Nlist.{Nlist}}
use Rattle.oc_macho_read.proofs.SectionedLemmas.{sections_whole}
use Rattle.oc_macho_read.proofs.SymbolLemmas.{as_computed, as_part, carried_at, each_binding, each_outer, is_sound, left_at, not_stab, sound_symbol, standing_at, stands_at}
use Rattle.oc_macho_read.specs.Built.{IsSound, sectioned, symbol_as, symbol_at, symbol_position, symboled}
use Rattle.oc_shows.proofs.{BuiltSteps.{name_is_new}, StartedLaws.{symbol_more}}
use Rattle.oc_neutral.specs.{Building.{Draft, symbol_added}, Keeping.{is_again}, declared.symbol.Symbol.{Symbol}}
use Rattle.oc_shows.specs.{Computed.{computed_symbol, position_of}, Started.{plain_draft, stored_section}}
use Rattle.oc_strings.specs.declared.repeats.Repeat.{Repeat}
use Rattle.oc_shelf.proofs.ReadingLaws.CollectedLemmas.{collected-from, collected-none, collected-some, length-collected}
use Rattle.oc_shelf.specs.Reading.Collected.{collected}
use Rattle.oc_linking.specs.Parts as parts
use Rattle.oc_strings.specs.Repeats as repeats
use Rattle.oc_macho.specs.SymbolFaults as rules
use Rattle.oc_macho.specs.SectionFaults as sections

-- ... names that other files see

first_some : {X : Type 0} (item : ℕ → Option X) (n j : ℕ) (x : X) → j < n → item j ≡ Some x → is_some (first_upto item n) ≡ true
first_some item zero j x low is = absurd (omega (arith, low))
first_some {X} item (suc n) j x low is = by (first_upto item n) refl (cases_eq j n) (λ below. first_some item n j x below is)
  where
    by : (o : Option X) → first_upto item n ≡ o → (j ≡ n) ⊎ (j ≢ n) → (j < n → is_some (first_upto item n) ≡ true) → is_some (or_else o (item n)) ≡ true
    by o e c rest = grind arith

repeats_there : (names : repeats.NameList) (j k : ℕ) (name : List ℕ) → j < k → repeats.name_at names j ≡ Some name → repeats.name_at names k ≡ Some name → is_some (repeats.repeat_at names k) ≡ true
repeats_there names j k name less at_j at_k =
    ap (λ (o : Option (List ℕ)). is_some (option_map {U = Repeat} (λ place. record { earlier = place; later = k }) (option_and_then (repeats.place_of names k) o))) at_k
    ∙ mapped (repeats.place_of names k name)
    ∙ first_some (λ i. cond (option_map_or (bytes_eq name) (repeats.name_at names i) false) (Some i) None) k j j less
    (ap (λ (o : Option (List ℕ)). cond (option_map_or (bytes_eq name) o false) (Some j) None) at_j ∙ ap (λ b. cond b (Some j) None) ((bytes_eq-Decides name name).1 refl))
  where
    mapped : (o : Option ℕ) → is_some (option_map {U = Repeat} (λ place. record { earlier = place; later = k }) o) ≡ is_some o
    mapped o = grind arith

public_at : (t : Tables) (k : ℕ) (s : Nlist) → slice_get t.symbols k ≡ Some s → is_stab s ≡ false → is_external s ≡ true → repeats.name_at (rules.public_names t) k ≡ Some (name_of t s)
public_at t k s here stab external =
    ap option_flatten (slice_get-map (rules.public_name t) t.symbols k ∙ ap (option_map (rules.public_name t)) here)
    ∙ ap (λ b. cond (not b && is_external s) (Some (name_of t s)) None) stab ∙ ap (λ b. cond b (Some (name_of t s)) None) external

-- a symbol that is not Local is external
external_by : (t : Tables) (s : Nlist) → is_local (binding_of t s) ≡ false → is_external s ≡ true
external_by t s = each_binding t s (λ b. is_local b ≡ false → is_external s ≡ true) (λ e f. absurd (true≢false f)) (λ e g. each_outer s (λ b. is_local b ≡ false → is_external s ≡ true) (λ f. e) (λ f. e) (λ f. e)) (λ e g f. e) (λ e g f. e)

module _ (t : Tables) (keep : Keep) (clean : stage_fault (rules.symbol_stage t) ≡ None) (j : ℕ) (y : Nlist) (here : slice_get t.symbols j ≡ Some y) (is : is_carried t y ≡ true) where
  abbrev x : parts.Symbol
  x = as_part t (is_pinned t keep j) j y

  -- a name that no nonlocal symbol before has
  is_new : is_again (map (computed_symbol (symbols_in t keep)) (collected (symbol_at t keep) j)) (computed_symbol (symbols_in t keep) x) ≡ false
  is_new = name_is_new (symbols_in t keep) (collected (symbol_at t keep) j) x each
    where
      each : (k : ℕ) (z : parts.Symbol) → slice_get (collected (symbol_at t keep) j) k ≡ Some z → is_local z.binding ≡ false → is_local x.binding ≡ false → z.name ≡ x.name → ⊥
      each k z at other own same =
          let m = collected-from (symbol_at t keep) j k z at in
          let n = stands_at t keep m.k z m.is in
          let first = external_by t n.nlist (ap (λ (s : parts.Symbol). is_local s.binding) n.is ∙ other) in
          let names : name_of t n.nlist ≡ name_of t y = ap (λ (s : parts.Symbol). s.name) n.is ∙ same in
          true≢false (sym (repeats_there (rules.public_names t) m.k j (name_of t y) m.below
          (public_at t m.k n.nlist n.there (not_stab t n.nlist n.carried) first ∙ ap (λ (l : List ℕ). Some l) names)
          (public_at t j y here (not_stab t y is) (external_by t y own))) ∙ (sound_symbol t clean j y here (not_stab t y is)).once)

  -- it is added
  pub symbol_taken : symbol_added (symboled t keep j) (symbol_as t (is_pinned t keep j) j y) ≡ Ok (symboled t keep (j + 1))
  symbol_taken =
      let sections = map (stored_section []) (sections_in t) in
      ap (symbol_added (symboled t keep j)) (sym (as_computed (symbols_in t keep) t (is_pinned t keep j) j y))
      ∙ symbol_more (mach_format t.word) [] sections (map (computed_symbol (symbols_in t keep)) (collected (symbol_at t keep) j)) (computed_symbol (symbols_in t keep) x) is_new
      ∙ ap (λ (ys : List Symbol). Ok (plain_draft (mach_format t.word) [] sections ys))
      (sym (map-append (computed_symbol (symbols_in t keep)) (collected (symbol_at t keep) j) (x ∷ []))
      ∙ ap (map (computed_symbol (symbols_in t keep))) (sym (collected-some (symbol_at t keep) j x (carried_at t keep j y here is))))

  -- and its position is the next
  pub next_position : symbol_position t keep j ≡ Some (length (symboled t keep j).object.symbols)
  next_position =
      ap (option_map (λ (s : parts.Symbol). position_of (symbols_in t keep) s.number)) (carried_at t keep j y here is)
      ∙ ap (λ (n : ℕ). Some n) (standing_at t keep j x (slice_get_within t.symbols j y here) (carried_at t keep j y here is)
      ∙ sym (length-map (collected (symbol_at t keep) j) (computed_symbol (symbols_in t keep))))

module _ (t : Tables) (keep : Keep) (j : ℕ) (y : Nlist) (here : slice_get t.symbols j ≡ Some y) (is : is_carried t y ≡ false) where
  -- one that is not carried leaves the draft
  pub symbol_left : symboled t keep j ≡ symboled t keep (j + 1)
  symbol_left =
      ap (λ (xs : List parts.Symbol). plain_draft (mach_format t.word) [] (map (stored_section []) (sections_in t)) (map (computed_symbol (symbols_in t keep)) xs))
      (sym (collected-none (symbol_at t keep) j (left_at t keep j y here is)))

  pub no_position : symbol_position t keep j ≡ None
  no_position = ap (option_map (λ (s : parts.Symbol). position_of (symbols_in t keep) s.number)) (left_at t keep j y here is)

-- there are few
pub symbols_few : (t : Tables) (keep : Keep) (j : ℕ) → j < length t.symbols → length t.symbols ≤ 67108864 → length (symboled t keep j).object.symbols < 2147483647
symbols_few t keep j low few =
    let long = length-map (collected (symbol_at t keep) j) (computed_symbol (symbols_in t keep)) in
    let most = length-collected (symbol_at t keep) j in
    omega (arith, long, most, low, few)

-- a carried symbol is sound
pub carried_sound : (t : Tables) → stage_fault (sections.section_stage t) ≡ None → stage_fault (rules.symbol_stage t) ≡ None → (j : ℕ) (y : Nlist) → slice_get t.symbols j ≡ Some y → is_carried t y ≡ true → IsSound t y
carried_sound t a b j y here is = is_sound t a j y (sound_symbol t b j y here (not_stab t y is))

-- before the first symbol there are the sections
pub symboled_none : (t : Tables) (keep : Keep) (d : Draft) → d ≡ sectioned t (length t.sections) → d ≡ symboled t keep 0
symboled_none t keep d is = is ∙ sections_whole t (length t.sections) refl
