-- The sections that lead groups: each has a key of its own.
use Rattle.std.proofs.Common.{◌≡◌, ℕ, zero, suc, ◌-◌, ◌≤◌, Bool, true, false, cond, eqb, List, length, Option, None, Some, refl, sym, ◌∙◌, ap, arith}
use Rattle.std.specs.{Prelude.{not, ◌&&◌, ◌||◌, nat_eq, nat_le, slice_get}, Option.{option_map, option_map_or, option_and_then}}
use Rattle.std.proofs.lemmas.{Bool.{eqb-true, ne_eqb, and_parts}, Bool.Decides.{nat_tests}, Option.{none-some, same_Some, slice_get_within}}
use Rattle.oc_linking.specs.FirstFault.{stage_fault}
use Rattle.oc_coff.specs.declared.constants.TheConstants.{IMAGE_SYM_SECTION_MAX_EX, IMAGE_COMDAT_SELECT_ANY, IMAGE_COMDAT_SELECT_ASSOCIATIVE, IMAGE_SYM_DEBUG, IMAGE_SYM_CLASS_EXTERNAL}
use Rattle.oc_coff.specs.{declared.section_aux.SectionAux.{SectionAux}, Tables.{SectionTable, Tables}}
use Rattle.oc_coff.specs.Entries.{Entry, entries_in, is_class, is_in, has_section, name_of}
use Rattle.oc_coff.specs.Comdat.{definition_in, definition_of, is_comdat, key_by, key_in, key_symbol, led_key, section_numbered, selects, symbols_of}
use Rattle.oc_coff.specs.SymbolFaults.{symbol_stage}
use Rattle.oc_coff_judge.specs.Led.{leader_by, leader_of}
use Rattle.oc_coff_judge.proofs.{EntryLemmas.{filter_from}, SoundSymbols.{is_seen, seen_once}}

-- the key of a section is that of the section that leads its group
pub key_led : (t : Tables) (k : ℕ) → key_in t k ≡ option_and_then (led_key t) (leader_of t k)
unfolding key_in
key_led t k = by (definition_in t k)
  where
    one : (d : SectionAux) (b : Bool) → cond b (led_key t d.Number) (led_key t k) ≡ led_key t (cond b d.Number k)
    one d true = refl
    one d false = refl

    by : (o : Option SectionAux) → option_and_then (key_by t k) o ≡ option_and_then (led_key t) (option_map (leader_by k) o)
    by None = refl
    by (Some d) = one d (nat_eq d.Selection IMAGE_COMDAT_SELECT_ASSOCIATIVE)

-- a section of which something is said is there
pub defined_low : (t : Tables) (k : ℕ) (d : SectionAux) → definition_in t k ≡ Some d → (1 ≤ k) × (k ≤ length t.sections)
unfolding definition_in
defined_low t k d is = by (section_numbered t k) refl is
  where
    there : (k : ℕ) (x : SectionTable) → cond (eqb k 0) None (slice_get t.sections (k - 1)) ≡ Some x → (1 ≤ k) × (k ≤ length t.sections)
    there zero x e = absurd (none-some x e)
    there (suc k) x e =
        let one : suc k - 1 ≡ k = omega arith in
        let some : eqb (suc k) 0 ≡ false = ne_eqb (suc k) 0 (λ z. absurd (omega (arith, z))) in
        let low = slice_get_within t.sections k x (sym (ap (slice_get t.sections) one) ∙ sym (ap (λ b. cond b None (slice_get t.sections (suc k - 1))) some) ∙ e) in
        (omega arith, omega (arith, low))

    by : (o : Option SectionTable) → section_numbered t k ≡ o → cond (option_map_or (λ (x : SectionTable). is_comdat x.header) o false) (definition_of (entries_in t) k) None ≡ Some d → (1 ≤ k) × (k ≤ length t.sections)
    by None e h = absurd (none-some d h)
    by (Some x) e h = there k x e

-- what is known of a section that leads a group
pub record IsLeading (t : Tables) (k : ℕ) (key : List ℕ) : Type 0 where
  pub some : 1 ≤ k
  pub low : k ≤ length t.sections
  pub place : ℕ
  pub symbol : Entry
  pub there : slice_get (entries_in t) place ≡ Some symbol
  pub in_it : is_in k symbol.symbol ≡ true
  pub external : is_class IMAGE_SYM_CLASS_EXTERNAL symbol.symbol ≡ true
  pub named : name_of t.strings symbol ≡ key

pub leading : (t : Tables) (k : ℕ) (key : List ℕ) → led_key t k ≡ Some key → IsLeading t k key
unfolding led_key
leading t k key is = by (definition_in t k) refl is
  where
    from : (1 ≤ k) × (k ≤ length t.sections) → (o : Option Entry) → slice_get (symbols_of (entries_in t) k) 1 ≡ o
        → option_map (name_of t.strings) (option_and_then (λ (e : Entry). cond (is_class IMAGE_SYM_CLASS_EXTERNAL e.symbol) (Some e) None) o) ≡ Some key → IsLeading t k key
    from low None e h = absurd (none-some key h)
    from low (Some y) e h = external (is_class IMAGE_SYM_CLASS_EXTERNAL y.symbol) refl h
      where
        external : (b : Bool) → is_class IMAGE_SYM_CLASS_EXTERNAL y.symbol ≡ b → option_map (name_of t.strings) (cond b (Some y) None) ≡ Some key → IsLeading t k key
        external true g h =
            let p = filter_from (λ (e : Entry). is_in k e.symbol) (entries_in t) 1 y e in
            record { some = low.0; low = low.1; place = p.place; symbol = y; there = p.there; in_it = p.passes; external = g; named = same_Some (name_of t.strings y) key h }
        external false g h = absurd (none-some key h)

    by : (o : Option SectionAux) → definition_in t k ≡ o → cond (selects IMAGE_COMDAT_SELECT_ANY o) (option_map (name_of t.strings) (key_symbol (entries_in t) k)) None ≡ Some key → IsLeading t k key
    by None e h = absurd (none-some key h)
    by (Some d) e h = any (nat_eq d.Selection IMAGE_COMDAT_SELECT_ANY) h
      where
        any : (b : Bool) → cond b (option_map (name_of t.strings) (key_symbol (entries_in t) k)) None ≡ Some key → IsLeading t k key
        any true h = from (defined_low t k d e) (slice_get (symbols_of (entries_in t) k) 1) refl h
        any false h = absurd (none-some key h)

-- its symbol is seen by other files
leading_seen : (t : Tables) (clean : stage_fault (symbol_stage t) ≡ None) (k : ℕ) (key : List ℕ) (l : IsLeading t k key) → is_seen t clean l.symbol ≡ true
leading_seen t clean k key l =
    let both = and_parts (has_section l.symbol.symbol) (nat_eq l.symbol.symbol.SectionNumber k) l.in_it in
    let most = (and_parts (nat_le 1 l.symbol.symbol.SectionNumber) (nat_le l.symbol.symbol.SectionNumber IMAGE_SYM_SECTION_MAX_EX) both.0).1 in
    let other : nat_eq l.symbol.symbol.SectionNumber IMAGE_SYM_DEBUG ≡ false = grind (arith, nat_tests, most) in
    ap (λ b. (b || is_class 105 l.symbol.symbol) && not (nat_eq l.symbol.symbol.SectionNumber IMAGE_SYM_DEBUG)) l.external ∙ ap not other

-- two sections that lead groups of one key are one
pub one_leader : (t : Tables) → stage_fault (symbol_stage t) ≡ None → (g h : ℕ) (key other : List ℕ) → led_key t g ≡ Some key → led_key t h ≡ Some other → key ≡ other → g ≡ h
one_leader t clean g h key other at_g at_h same =
    let l = leading t g key at_g in
    let m = leading t h other at_h in
    let one : l.place ≡ m.place = seen_once t clean l.place m.place l.symbol m.symbol l.there m.there (leading_seen t clean g key l) (leading_seen t clean h other m) (l.named ∙ same ∙ sym m.named) in
    let entry : l.symbol ≡ m.symbol = same_Some l.symbol m.symbol (sym l.there ∙ ap (slice_get (entries_in t)) one ∙ m.there) in
    let in_g = eqb-true l.symbol.symbol.SectionNumber g (and_parts (has_section l.symbol.symbol) (nat_eq l.symbol.symbol.SectionNumber g) l.in_it).1 in
    let in_h = eqb-true m.symbol.symbol.SectionNumber h (and_parts (has_section m.symbol.symbol) (nat_eq m.symbol.symbol.SectionNumber h) m.in_it).1 in
    sym in_g ∙ ap (λ (e : Entry). e.symbol.SectionNumber) entry ∙ in_h
