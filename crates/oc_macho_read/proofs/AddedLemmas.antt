-- The relocations of a file without faults, added one after the other.
use Rattle.std.proofs.Common.{Bool, List, None, Option, Some, [], ap, arith, cond, false, length, map, nat_lt, refl, slice_get, subst, sym, true, true≢false, ℕ, ◌+◌, ◌-◌, ◌<◌, ◌^◌, ◌||◌, ◌∙◌, ◌≡◌, ◌≤◌}
use Rattle.std.proofs.lemmas.{List.{length-map}, Option.{none-some, same_Some, slice_get-map, slice_get_within}}
use Rattle.std.specs.Option.{option_and_then, option_map, option_map_or, unwrap_or}
use Rattle.oc_base.specs.declared.format.Word.{Word}
use Rattle.oc_linking.specs.{FirstFault.{stage_fault}, Fits.{bytes_of}, declared.terms.Binding.{Binding}, declared.terms.Keep.{Keep}}
use Rattle.oc_macho.specs.{Aims.{aim_in, fixed_place, target_in}, Entries.{is_pinned, taken_entry, target_entry}, Fields.{taken_section}}
use Rattle.oc_macho.specs.{Rules.{mach_dialect, symbols_in}, Sections.{is_zerofill, kind_of, section_of, sections_in}, SymbolFaults.{symbol_stage}}
use Rattle.oc_macho.specs.{Symbols.{binding_of, is_carried, is_type, offset_of}, Tables.{SectionTable, Tables, tables_of}}
use Rattle.oc_macho.specs.{declared.constants.TheConstants.{N_ABS, N_UNDF}, declared.entries.Item.{Item}, declared.nlist.Nlist.{Nlist}}
use Rattle.oc_macho.specs.{declared.relocation_info.Reference.{Reference}, declared.section_header.SectionHeader.{SectionHeader}}
use Rattle.oc_macho_read.proofs.{AimLemmas.{Carried, IsAim, IsNamed, IsSectional, Own, ToAddress, ToSection, ToSymbol, aim_is}, FitLemmas.{differences_fit}}
use Rattle.oc_macho_read.proofs.ItemLemmas.{IsGoodItem, IsTaken, Nothing, Something, found_as, row_width, taken_is}
use Rattle.oc_macho_read.proofs.{SectionedLemmas.{length-sections_in, section_there}, ShownLemmas.{zero_kind}}
use Rattle.oc_macho_read.proofs.StandingLemmas.{IsStanding, are_apart, are_of_file, given_same, given_standing}
use Rattle.oc_macho_read.proofs.SymbolLemmas.{IsSoundSymbol, as_computed, as_part, carried_at, each_binding, each_outer, has_home, known_section, left_at, local_defined, not_stab, sound_symbol, symbol_stands, symbols_are}
use Rattle.oc_macho_read.specs.{Adding.{IsClean}, Built.{started, symbol_as}, Given.{IsTakeable, given_at, target_for}}
use Rattle.oc_neutral.specs.{Building.{Draft, is_zero}, Invariants.{CanAdd, IsLessThere, IsTargetThere}, Normal.{Place, local_place, place_among, place_of}}
use Rattle.oc_neutral.specs.{Rows.{Taken}, declared.reloc.Reloc.{Reloc}, declared.symbol.Symbol.{Symbol}}
use Rattle.oc_shows.specs.{Built.{IsStarted}, Computed.{computed_symbol, position_of}, Started.{stored_section}}
use Rattle.oc_linking.specs.Parts as parts
use Rattle.oc_linking.specs.declared.terms.Value.TheVariants as value
use Rattle.oc_neutral.specs.declared.reloc.Target.TheVariants as target
use Rattle.oc_neutral.specs.Rows as rows
use Rattle.oc_macho.specs.Aims as aims
use Rattle.oc_macho.specs.RelocationFaults as faults
use Rattle.oc_macho.specs.declared.relocation_info.Reference.TheVariants as reference
use Rattle.oc_macho_read.specs.Given as given
use Rattle.oc_shows.proofs.AddedLaws.{AreAddable}

-- ... places of symbols

-- the section of a place in a binding is there
binding_low : (t : Tables) (j : ℕ) (s : Nlist) → IsSoundSymbol t j s → (place : Place) → fixed_place (binding_of t s) ≡ Some place → place.0 < length t.sections
binding_low t j s sound place =
    each_binding t s (λ b. fixed_place b ≡ Some place → place.0 < length t.sections)
    (λ local e. of (local_defined s sound.known local) (is_type N_ABS s) refl e)
    (λ a c. each_outer s (λ b. fixed_place b ≡ Some place → place.0 < length t.sections) (λ e. absurd (none-some place e)) (λ e. absurd (none-some place e)) (λ e. absurd (none-some place e)))
    (λ a c e. absurd (none-some place e))
    (λ a defined e. of defined (is_type N_ABS s) refl e)
  where
    of : is_type N_UNDF s ≡ false → (b : Bool) → is_type N_ABS s ≡ b → place_of (cond b (value.Absolute s.n_value) (value.Place (s.n_sect - 1) (offset_of t s))) ≡ Some place → place.0 < length t.sections
    of defined true g e = absurd (none-some place e)
    of defined false g e =
        let home = has_home t j s sound (known_section s sound.known defined g) in
        let low = slice_get_within t.sections (s.n_sect - 1) home.table home.there in
        subst (λ (q : Place). q.0 < length t.sections) (same_Some (s.n_sect - 1, offset_of t s) place e) low

local_fixed : (b : Binding) (place : Place) → local_place b ≡ Some place → fixed_place b ≡ Some place
local_fixed b place e = grind arith

module _ (t : Tables) (symbols : stage_fault (symbol_stage t) ≡ None) where
  sectional_low : (j : ℕ) (a : aims.Aim) → IsSectional t j a → (place : Place) → a.place ≡ Some place → place.0 < length t.sections
  sectional_low j a m place at =
      let same : Some (j, 0) ≡ Some place = ap (λ (x : aims.Aim). x.place) m.is ∙ at in
      subst (λ (q : Place). q.0 < length t.sections) (same_Some (j, 0) place same) (slice_get_within t.sections j m.table m.there)

  -- what is taken lies in a section
  pub taken_low : (r : Reference) (m : IsTakeable t r) → m.place.0 < length t.sections
  taken_low r m = by (aim_is t r m.aim m.is)
    where
      by : IsAim t r m.aim → m.place.0 < length t.sections
      by (ToSymbol j is (Own s here left offset n counted)) = sectional_low (s.n_sect - 1) m.aim n m.place m.placed
      by (ToSymbol j is (Carried n)) = binding_low t j n.nlist (sound_symbol t symbols j n.nlist n.there (not_stab t n.nlist n.carried)) m.place (sym n.place ∙ m.placed)
      by (ToSection k is n counted) = sectional_low (k - 1) m.aim n m.place m.placed
      by (ToAddress u k is held n counted) = sectional_low (k - 1) m.aim n m.place m.placed

module _ (w : Word) (file : List ℕ) (keep : Keep) (clean : IsClean (tables_of w file) keep) where
  abbrev t : Tables
  t = tables_of w file

  abbrev pub base : Draft
  base = started t keep

  pub symbols_same : base.object.symbols ≡ map (computed_symbol (symbols_in t keep)) (symbols_in t keep)
  symbols_same = ap (map (computed_symbol (symbols_in t keep))) (sym (symbols_are t keep))

  sections_long : length base.object.sections ≡ length t.sections
  sections_long = length-map (sections_in t) (stored_section []) ∙ length-sections_in t

  section_low : (k : ℕ) → k < length t.sections → k < length base.object.sections
  section_low k low = let long = sections_long in omega (arith, long, low)

  -- the symbol of a number stands in the object
  pub symbol_there : (j : ℕ) (s : Nlist) → slice_get t.symbols j ≡ Some s → is_carried t s ≡ true → slice_get base.object.symbols (position_of (symbols_in t keep) j) ≡ Some (symbol_as t (is_pinned t keep j) j s)
  symbol_there j s here carried =
      let x = as_part t (is_pinned t keep j) j s in
      ap (λ (ss : List Symbol). slice_get ss (position_of (symbols_in t keep) j)) symbols_same
      ∙ slice_get-map (computed_symbol (symbols_in t keep)) (symbols_in t keep) (position_of (symbols_in t keep) j)
      ∙ ap (option_map (computed_symbol (symbols_in t keep))) (symbol_stands t keep j x (slice_get_within t.symbols j s here) (carried_at t keep j s here carried))
      ∙ ap (λ (y : Symbol). Some y) (as_computed (symbols_in t keep) t (is_pinned t keep j) j s)

  sectional_there : (k : ℕ) → k < length t.sections → IsTargetThere base.object (target.Section k)
  unfolding place_among
  sectional_there k low = record { itself = section_low k low; section = λ place e. absurd (none-some place e) }

  symbolic_there : (j : ℕ) (s : Nlist) → slice_get t.symbols j ≡ Some s → is_carried t s ≡ true → IsTargetThere base.object (target.Symbol (position_of (symbols_in t keep) j))
  unfolding place_among
  symbolic_there j s here carried =
      let stands = symbol_there j s here carried in
      record {
        itself = slice_get_within base.object.symbols (position_of (symbols_in t keep) j) (symbol_as t (is_pinned t keep j) j s) stands;
        section = λ place e.
            section_low place.0 (binding_low t j s (sound_symbol t clean.symbols j s here (not_stab t s carried)) place
            (local_fixed (binding_of t s) place (sym (ap (option_and_then (λ (z : Symbol). local_place z.binding)) stands) ∙ e)));
      }

  -- a target is there
  pub target_there : (r : Reference) (a : aims.Aim) → aim_in t r ≡ Some (Some a) → IsTargetThere base.object (target_for t keep r)
  target_there r a aimed = by (aim_is t r a aimed)
    where
      sectional : (j : ℕ) → IsSectional t j a → IsTargetThere base.object (target.Section j)
      sectional j m = sectional_there j (slice_get_within t.sections j m.table m.there)

      named : (j : ℕ) → IsNamed t j a → IsTargetThere base.object (target_for t keep (reference.Symbol j))
      named j (Carried m) =
          subst (IsTargetThere base.object)
          (sym (ap (given.target_by (option_map_or (λ (s : Nlist). s.n_sect - 1) (slice_get t.symbols j) 0))
          (ap (option_map (λ (x : parts.Symbol). position_of (symbols_in t keep) x.number)) (carried_at t keep j m.nlist m.there m.carried)))) (symbolic_there j m.nlist m.there m.carried)
      named j (Own s here left offset m counted) =
          subst (IsTargetThere base.object)
          (sym (ap (given.target_by (option_map_or (λ (s : Nlist). s.n_sect - 1) (slice_get t.symbols j) 0))
          (ap (option_map (λ (x : parts.Symbol). position_of (symbols_in t keep) x.number)) (left_at t keep j s here left))
          ∙ ap (λ (o : Option Nlist). target.Section (option_map_or (λ (s : Nlist). s.n_sect - 1) o 0)) here)) (sectional (s.n_sect - 1) m)

      by : IsAim t r a → IsTargetThere base.object (target_for t keep r)
      by (ToSymbol j is m) = subst (λ (x : Reference). IsTargetThere base.object (target_for t keep x)) (sym is) (named j m)
      by (ToSection k is m counted) = subst (λ (x : Reference). IsTargetThere base.object (target_for t keep x)) (sym is) (sectional (k - 1) m)
      by (ToAddress u k is held m counted) =
          subst (λ (x : Reference). IsTargetThere base.object (target_for t keep x)) (sym is)
          (subst (λ (o : Option ℕ). IsTargetThere base.object (target.Section (unwrap_or o 0 - 1))) (sym held) (sectional (k - 1) m))

  less_low : (l : Taken) (k : ℕ) → k < length base.object.sections → IsLessThere base.object (rows.less_of l k)
  less_low l k low = grind arith

  module _ (start : IsStarted (mach_dialect w) file keep base) where
    abbrev pub Standing : ℕ → ℕ → Type 0
    Standing s at = IsStanding w file keep base.object start.symbols clean.relocs s at

    -- the section of what a pair takes
    taken_section_low : (s : ℕ) (c : SectionTable) (k : ℕ) (item : Item) (good : IsGoodItem t s c k item) → s < length t.sections → taken_section (found_as t s c k item good) < length t.sections
    taken_section_low s c k item good low = by (taken_is t s c k item good)
      where
        by : IsTaken t item (option_and_then (target_in t) (taken_entry t.word item))
            → option_map_or (λ (a : aims.Aim). option_map_or (λ (place : Place). place.0) a.place 0) (option_and_then (target_in t) (taken_entry t.word item)) 0 < length t.sections
        by (Nothing none left) =
            subst (λ (o : Option aims.Aim). option_map_or (λ (a : aims.Aim). option_map_or (λ (place : Place). place.0) a.place 0) o 0 < length t.sections) (sym none) (omega (arith, low))
        by (Something r taken m some) =
            subst (λ (o : Option aims.Aim). option_map_or (λ (a : aims.Aim). option_map_or (λ (place : Place). place.0) a.place 0) o 0 < length t.sections) (sym some)
            (subst (λ (o : Option Place). option_map_or (λ (place : Place). place.0) o 0 < length t.sections) (sym m.placed) (taken_low t clean.symbols r m))

    -- the bytes of a field are the section's
    pub inside_by : (h : SectionHeader) (item : Item) → faults.is_outside h item ≡ false → (is_zerofill h ≡ false) × (item.first.r_address + 2 ^ item.first.r_length ≤ h.size)
    inside_by h item e = of (is_zerofill h) (nat_lt h.size (item.first.r_address + 2 ^ item.first.r_length)) refl refl e
      where
        of : (a c : Bool) → is_zerofill h ≡ a → nat_lt h.size (item.first.r_address + 2 ^ item.first.r_length) ≡ c → (a || c) ≡ false → (is_zerofill h ≡ false) × (item.first.r_address + 2 ^ item.first.r_length ≤ h.size)
        of a c f g x = grind arith

    -- a relocation can be added before any other
    can_base : (s at : ℕ) (r : Reloc) → given_at t keep s at ≡ Some r → CanAdd base.object s at r
    unfolding section_of
    can_base s at r e =
        subst (CanAdd base.object s at) (given_same w file keep base.object start.symbols clean.relocs s at r e m) (record {
          section = stored_section [] (section_of (s + 1, m.c));
          there = slice_get-map (stored_section []) (sections_in t) s ∙ ap (option_map (stored_section [])) (section_there t s m.c m.there);
          inside = subst (λ (z : Bool). at + bytes_of m.good.row.row.width ≤ cond z 0 m.c.header.size) (sym kind)
              (let inside = bytes.1 in let width = row_width t.word m.item.first m.good.row m.good.listed in let offset = m.begun.offset in omega (arith, inside, width, offset));
          target = target_there (target_entry t.word m.item).refers m.good.aim m.good.aimed;
          less = less_low m.good.row.row.taken (taken_section (found_as t s m.c m.begun.k m.item m.good))
              (section_low (taken_section (found_as t s m.c m.begun.k m.item m.good)) (taken_section_low s m.c m.begun.k m.item m.good (slice_get_within t.sections s m.c m.there)));
        })
      where
        m : Standing s at
        m = given_standing w file keep base.object start.symbols clean.relocs s at r e

        bytes : (is_zerofill m.c.header ≡ false) × (m.item.first.r_address + 2 ^ m.item.first.r_length ≤ m.c.header.size)
        bytes = inside_by m.c.header m.item m.good.outside

        kind : is_zero (kind_of m.c.header) ≡ false
        kind = of (is_zero (kind_of m.c.header)) refl
          where
            of : (z : Bool) → is_zero (kind_of m.c.header) ≡ z → z ≡ false
            of false g = refl
            of true g = absurd (true≢false (sym (zero_kind m.c.header g) ∙ bytes.0))

    -- so each that is given can
    pub addable : AreAddable base (given_at t keep)
    addable = record {
      dialect = mach_dialect w;
      file = file;
      keep = keep;
      start = start;
      apart = are_apart w file keep base.object start.symbols clean.relocs;
      fit = differences_fit w file keep base.object start.symbols clean.relocs;
      of_file = are_of_file w file keep base.object start.symbols clean.relocs;
      can = can_base;
    }
