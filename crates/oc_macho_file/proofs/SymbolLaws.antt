-- The symbols of a canonical file are those that are seen of the object.
use Rattle.std.proofs.Common.{◌≡◌, ℕ, suc, ◌+◌, ◌-◌, ◌*◌, ◌/◌, ◌%◌, ◌^◌, ◌<◌, ◌≤◌, ◌⊎◌, inl, inr, Bool, true, false, not, ◌&&◌, ◌||◌, cond, eqb, List, [], ◌∷◌, length, map, Option, Some, None, refl, sym, ◌∙◌, ap, subst, arith}
use Rattle.std.specs.{Prelude.{slice_get, nat_lt, nat_eq, bytes_eq, is_none, filter_map}, List.{cons_option, enumerate_from}}
use Rattle.std.specs.Option.{option_map, option_map_or, unwrap_or}
use Rattle.std.proofs.lemmas.{Bool.{true≢false, ne_eqb, and_right}, Bool.Decides.{nat_tests}}
use Rattle.oc_base.specs.{declared.format.Word.{Word}, declared.format.Word.TheVariants.{W32, W64}}
use Rattle.oc_linking.specs.{declared.terms.Mark.TheVariants.{NoType}, declared.terms.Visibility.{Visibility}}
use Rattle.oc_linking.specs.{declared.terms.Visibility.TheVariants.{Default, Internal, Hidden, Protected}, declared.terms.Value.{Value}}
use Rattle.oc_linking.specs.{declared.terms.Fallback.{Fallback}, declared.terms.Binding.{Binding}}
use Rattle.oc_linking.specs.{declared.terms.Binding.TheVariants.{Local, Global, Undefined, Common, Weak}, Keeping.{all}}
use Rattle.oc_linking.specs.declared.terms.Value.TheVariants as value
use Rattle.oc_linking.specs.declared.terms.Fallback.TheVariants as fallback
use Rattle.oc_linking.specs.Parts as parts
use Rattle.oc_neutral.specs.{declared.symbol.Symbol.{Symbol}, Faces.{shown_fallback, shown_binding, shown_symbol}, Invariants.{HasOffset, IsValue, IsBinding}}
use Rattle.oc_neutral.specs.{KindRules.{has}, Mach.SectionSymbols.{is_start_named, section_symbol_name}, Objects.{Object}}
use Rattle.oc_neutral.specs.WrittenSymbols.{is_written, is_written_as}
use Rattle.oc_shows.specs.{Manners.{mach_manner, mach_vis, hidden}, Seen.{seen_fallback, seen_binding, seen_symbol}}
use Rattle.oc_target.specs.Meets.{IsPower}
use Rattle.oc_neutral.proofs.Positions.{there_at}
use Rattle.oc_shelf.specs.Writing.Parts.{laid, behind}
use Rattle.oc_shelf.proofs.WritingLaws.MemberLemmas.{filter_map-results}
use Rattle.oc_macho.specs.{declared.constants.TheConstants.{N_SECT, N_PEXT}, declared.section_header.SectionHeader.{SectionHeader}}
use Rattle.oc_macho.specs.{declared.nlist.Nlist.{Nlist}, MachHeader.{mach_format}, Tables.{Tables}, Sections.{header_numbered}}
use Rattle.oc_macho.specs.Symbols.{name_of, is_stab, is_type, is_external, offset_of, is_at_start, is_own_in, is_own, is_carried, value_of, binding_of, symbol_of, symbols_by}
use Rattle.oc_macho.specs.{Entries.{is_pinned}, SymbolFaults.{is_odd, is_outside}, Rules.{symbols_in}}
use Rattle.oc_macho_file.specs.{Addresses.{address_of}, Lines.{Line, OwnLine, LocalLine, OuterLine, lines_of, line_size, numbered_lines}}
use Rattle.oc_macho_file.specs.Layout.{line_names, offset_in}
use Rattle.oc_macho_file.specs.Symbols.{exponent_of, ValueFields, value_fields_by, value_fields_of, external_flag, private_flag, desc_by, line_entry}
use Rattle.oc_macho_file.specs.Canonical.{section_header}
use Rattle.oc_macho_file.proofs.{TableLaws.{made_tables}, CodedLaws.{IsForMach, IsPlaced, symbol_is, named, fallback_is, exponent_low, power_back}}
use Rattle.oc_macho_file.proofs.{LineLaws.{IsLine, line_at}, NameLaws.{line_named, needed_low}, SectionLaws.{header_made, address_made}}
use Rattle.oc_macho_file.proofs.{SeenLaws.{shown, syms, seen_line, symbols_seen}, PinLaws.{IsOfObject, unpinned}, AimLaws.{own_is}}

-- a name with bytes is not the empty one
pub some_name : (name : List ℕ) → 1 ≤ length name → bytes_eq name [] ≡ false
some_name [] some = absurd (omega (arith, some))
some_name (c ∷ name) some = refl

-- an entry
abbrev raw : ℕ → ℕ → ℕ → ℕ → ℕ → Nlist
raw strx type sect desc value = record { n_strx = strx; n_type = type; n_sect = sect; n_desc = desc; n_value = value }

-- the entry of a symbol with a binding
abbrev pub entry_with : Word → Object → Symbol → Binding → Nlist
entry_with w n s b = record {
  n_strx = offset_in (line_names w n) s.name;
  n_type = (value_fields_of n b).type + external_flag b + private_flag (mach_vis b s.vis);
  n_sect = (value_fields_of n b).n_sect;
  n_desc = desc_by b;
  n_value = (value_fields_of n b).n_value;
}

-- the visibility that is read
abbrev vis_in : Nlist → Visibility
vis_in y = cond (is_external y && has y.n_type N_PEXT) Hidden Default

inside_tests : (a offset size : ℕ) → offset ≤ size → (nat_lt (a + offset) a || nat_lt (a + size) (a + offset)) ≡ false
inside_tests a offset size low = grind (arith, nat_tests, low)

module _ (w : Word) (n : Object) (is : IsForMach w n) where
  abbrev t : Tables
  t = made_tables w n

  -- a binding, as it is seen
  abbrev again_binding : Binding → Binding
  again_binding b = seen_binding (mach_manner w) n (shown w n) b

  -- what is read of the entry of a symbol of that visibility, with that binding
  pub record IsRead (vis : Visibility) (b : Binding) (y : Nlist) : Type 0 where
    pub plain : is_stab y ≡ false
    pub external : is_external y ≡ not (parts.is_local b)
    pub binding : binding_of t y ≡ again_binding b
    pub visible : vis_in y ≡ mach_vis b vis
    pub known : is_odd y ≡ false
    pub home : (is_type N_SECT y && is_none (header_numbered t y.n_sect)) ≡ false
    pub within : (is_type N_SECT y && option_map_or (is_outside y) (header_numbered t y.n_sect) false) ≡ false

  -- ... an entry in a section

  module _ (strx type desc k offset : ℕ) (there : HasOffset n.sections k offset) where
    abbrev y : Nlist
    y = raw strx type (k + 1) desc (address_of n k + offset)

    pub offset_read : offset_of t y ≡ offset
    offset_read = ap (λ a. address_of n k + offset - a) (address_made w n k there.0 there.1) ∙ back (address_of n k) offset
      where
        back : (a b : ℕ) → a + b - a ≡ b
        back a b = omega arith

    one : k + 1 - 1 ≡ k
    one = omega arith

    value_read : is_type 2 y ≡ false → value_of t y ≡ value.Place k offset
    value_read other =
        ap (λ b. cond b (value.Absolute (address_of n k + offset)) (value.Place (k + 1 - 1) (offset_of t y))) other
        ∙ ap (λ j. value.Place j (offset_of t y)) one ∙ ap (value.Place k) offset_read

    weak_read : Weak (fallback.Place (k + 1 - 1) (offset_of t y)) ≡ Weak (fallback.Place k offset)
    weak_read = ap (λ j. Weak (fallback.Place j (offset_of t y))) one ∙ ap (λ o. Weak (fallback.Place k o)) offset_read

    home_read : (is_type N_SECT y && is_none (header_numbered t (k + 1))) ≡ false
    home_read = and_right (is_type N_SECT y) _ (ap (λ o. is_none o) (header_made w n k there.0 there.1))

    within_read : (is_type N_SECT y && option_map_or (is_outside y) (header_numbered t (k + 1)) false) ≡ false
    unfolding section_header
    within_read = and_right (is_type N_SECT y) _ (ap (λ o. option_map_or (is_outside y) o false) (header_made w n k there.0 there.1) ∙ inside_tests (address_of n k) offset there.0.size there.2)

    -- by its bits
    placed : (vis : Visibility) (b : Binding) → is_stab y ≡ false → is_external y ≡ not (parts.is_local b) → binding_of t y ≡ again_binding b → vis_in y ≡ mach_vis b vis → is_odd y ≡ false → IsRead vis b y
    placed vis b plain external binding visible known = record { plain = plain; external = external; binding = binding; visible = visible; known = known; home = home_read; within = within_read }

  -- ... values

  local_read : (strx : ℕ) (vis : Visibility) (v : Value) → IsValue n v → IsRead vis (Local v) (raw strx ((value_fields_by n v).type + 0 + 0) (value_fields_by n v).n_sect 0 (value_fields_by n v).n_value)
  unfolding binding_of
  local_read strx vis (value.Place k offset) there = placed strx 14 0 k offset there vis (Local (value.Place k offset)) refl refl (ap Local (value_read strx 14 0 k offset there refl)) refl refl
  local_read strx vis (value.Absolute a) there = record { plain = refl; external = refl; binding = refl; visible = refl; known = refl; home = refl; within = refl }

  global_read : (strx : ℕ) (vis : Visibility) (v : Value) → IsValue n v → IsRead vis (Global v) (raw strx ((value_fields_by n v).type + 1 + private_flag (hidden vis)) (value_fields_by n v).n_sect 0 (value_fields_by n v).n_value)
  unfolding binding_of
  global_read strx Default (value.Place k offset) there = placed strx 15 0 k offset there Default (Global (value.Place k offset)) refl refl (ap Global (value_read strx 15 0 k offset there refl)) refl refl
  global_read strx Internal (value.Place k offset) there = placed strx 31 0 k offset there Internal (Global (value.Place k offset)) refl refl (ap Global (value_read strx 31 0 k offset there refl)) refl refl
  global_read strx Hidden (value.Place k offset) there = placed strx 31 0 k offset there Hidden (Global (value.Place k offset)) refl refl (ap Global (value_read strx 31 0 k offset there refl)) refl refl
  global_read strx Protected (value.Place k offset) there = placed strx 15 0 k offset there Protected (Global (value.Place k offset)) refl refl (ap Global (value_read strx 15 0 k offset there refl)) refl refl
  global_read strx Default (value.Absolute a) there = record { plain = refl; external = refl; binding = refl; visible = refl; known = refl; home = refl; within = refl }
  global_read strx Internal (value.Absolute a) there = record { plain = refl; external = refl; binding = refl; visible = refl; known = refl; home = refl; within = refl }
  global_read strx Hidden (value.Absolute a) there = record { plain = refl; external = refl; binding = refl; visible = refl; known = refl; home = refl; within = refl }
  global_read strx Protected (value.Absolute a) there = record { plain = refl; external = refl; binding = refl; visible = refl; known = refl; home = refl; within = refl }

  -- a Weak that is written at a place
  weak_at : (strx : ℕ) (vis : Visibility) (f : Fallback) (k offset : ℕ) → HasOffset n.sections k offset → seen_fallback (mach_manner w) n (shown w n) f ≡ fallback.Place k offset
      → mach_vis (Weak f) vis ≡ hidden vis → IsRead vis (Weak f) (raw strx (14 + 1 + private_flag (hidden vis)) (k + 1) 128 (address_of n k + offset))
  unfolding binding_of
  weak_at strx Default f k offset there seen own = placed strx 15 128 k offset there Default (Weak f) refl refl (weak_read strx 15 128 k offset there ∙ ap Weak (sym seen)) (sym own) refl
  weak_at strx Internal f k offset there seen own = placed strx 31 128 k offset there Internal (Weak f) refl refl (weak_read strx 31 128 k offset there ∙ ap Weak (sym seen)) (sym own) refl
  weak_at strx Hidden f k offset there seen own = placed strx 31 128 k offset there Hidden (Weak f) refl refl (weak_read strx 31 128 k offset there ∙ ap Weak (sym seen)) (sym own) refl
  weak_at strx Protected f k offset there seen own = placed strx 15 128 k offset there Protected (Weak f) refl refl (weak_read strx 15 128 k offset there ∙ ap Weak (sym seen)) (sym own) refl

  common_read : (strx : ℕ) (vis : Visibility) (size align : ℕ) → 0 < size → IsPower 15 align → IsRead vis (Common size align) (raw strx 1 0 (exponent_of align * 2 ^ 8) size)
  unfolding binding_of
  common_read strx vis size align some power =
      let none : eqb size 0 ≡ false = ne_eqb size 0 (λ e. omega (arith, e, some)) in
      let low = exponent_low align power in
      let back : exponent_of align * 2 ^ 8 / 2 ^ 8 % 16 ≡ exponent_of align = omega (arith, low) in
      record {
        plain = refl;
        external = refl;
        binding =
            ap (λ b. cond (not b) (Common size (2 ^ (exponent_of align * 2 ^ 8 / 2 ^ 8 % 16))) (cond (has (exponent_of align * 2 ^ 8) 64) (Weak fallback.Zero) Undefined)) none
            ∙ ap (λ e. Common size (2 ^ e)) back ∙ ap (Common size) (power_back align power);
        visible = refl;
        known = refl;
        home = refl;
        within = refl;
      }

  -- ... all bindings

  pub entry_read : (k : ℕ) (s : Symbol) → slice_get n.symbols k ≡ Some s → (b : Binding) → s.binding ≡ b → IsRead s.vis b (entry_with w n s b)
  unfolding binding_of
  entry_read k s here b own = by b own (subst (IsBinding n) own (symbol_is w n is k s here).binding)
    where
      strx : ℕ
      strx = offset_in (line_names w n) s.name

      weak : (f : Fallback) → (f ≡ fallback.Zero) ⊎ IsPlaced w n f → IsRead s.vis (Weak f) (entry_with w n s (Weak f))
      weak f (inl e) = subst (λ g. IsRead s.vis (Weak g) (entry_with w n s (Weak g))) (sym e) (record { plain = refl; external = refl; binding = refl; visible = refl; known = refl; home = refl; within = refl })
      weak f (inr p) =
          let vis : mach_vis (Weak f) s.vis ≡ hidden s.vis = ap (λ b. cond (not b) (hidden s.vis) Default) p.strong in
          let desc : desc_by (Weak f) ≡ 128 = ap (λ b. cond b 64 128) p.strong in
          subst (λ (at : ValueFields). IsRead s.vis (Weak f) (raw strx (at.type + 1 + private_flag (mach_vis (Weak f) s.vis)) at.n_sect (desc_by (Weak f)) at.n_value)) (sym p.stood)
          (subst (λ v. IsRead s.vis (Weak f) (raw strx (14 + 1 + private_flag v) (p.place.0 + 1) (desc_by (Weak f)) (address_of n p.place.0 + p.place.1))) (sym vis)
          (subst (λ d. IsRead s.vis (Weak f) (raw strx (14 + 1 + private_flag (hidden s.vis)) (p.place.0 + 1) d (address_of n p.place.0 + p.place.1))) (sym desc)
          (weak_at strx s.vis f p.place.0 p.place.1 p.there (p.seen (shown w n)) vis)))

      by : (b : Binding) → s.binding ≡ b → IsBinding n b → IsRead s.vis b (entry_with w n s b)
      by (Local v) e there = local_read strx s.vis v there
      by (Global v) e there = global_read strx s.vis v there
      by Undefined e there = record { plain = refl; external = refl; binding = refl; visible = refl; known = refl; home = refl; within = refl }
      by (Common size align) e there = let c = (is.meets.symbols k s here).common size align e in common_read strx s.vis size align c.0 c.1
      by (Weak f) e there = weak f (fallback_is w n is k s here f e)

  -- ... symbols

  -- a fallback that is seen names nothing
  fallback_shown : (k : ℕ) (s : Symbol) → slice_get n.symbols k ≡ Some s → (g : Fallback) → s.binding ≡ Weak g
      → shown_fallback (syms w n) (seen_fallback (mach_manner w) n (shown w n) g) ≡ seen_fallback (mach_manner w) n (shown w n) g
  fallback_shown k s here g own = by (fallback_is w n is k s here g own)
    where
      by : (g ≡ fallback.Zero) ⊎ IsPlaced w n g → shown_fallback (syms w n) (seen_fallback (mach_manner w) n (shown w n) g) ≡ seen_fallback (mach_manner w) n (shown w n) g
      by x = grind arith

  binding_shown : (k : ℕ) (s : Symbol) → slice_get n.symbols k ≡ Some s → (b : Binding) → s.binding ≡ b → shown_binding (syms w n) (again_binding b) ≡ again_binding b
  binding_shown k s here (Local v) own = refl
  binding_shown k s here (Global v) own = refl
  binding_shown k s here Undefined own = refl
  binding_shown k s here (Common size align) own = refl
  binding_shown k s here (Weak g) own = ap Weak (fallback_shown k s here g own)

  -- the symbol of a line, as reading shows it
  unfoldable pub made_symbol : ℕ → Symbol → parts.Symbol
  made_symbol i s = shown_symbol (syms w n) (seen_symbol (mach_manner w) n (shown w n) i s)

  -- a Local that is written stands for no section
  written_not : (v : Word) → w ≡ v → (s : Symbol) (a : Value) → s.binding ≡ Local a → is_written n.format s ≡ true → v ≡ W64 → is_start_named s.name a ≡ false
  written_not v e s a b written long =
      not_true (is_start_named s.name a)
      (ap (λ u. is_written_as (mach_format u) s.name (Local a)) (sym (e ∙ long)) ∙ ap (λ f. is_written_as f s.name (Local a)) (sym is.format) ∙ ap (is_written_as n.format s.name) (sym b) ∙ written)
    where
      not_true : (b : Bool) → not b ≡ true → b ≡ false
      not_true b e = grind arith

  start_test : (a offset : ℕ) → eqb (a + offset) a ≡ eqb offset 0
  start_test a offset = grind arith

  local_not_own : (s : Symbol) (y : Nlist) (v : Value) → IsValue n v → name_of t y ≡ s.name → is_start_named s.name v ≡ false
      → y ≡ raw y.n_strx ((value_fields_by n v).type + 0 + 0) (value_fields_by n v).n_sect 0 (value_fields_by n v).n_value → is_own_in W64 t y ≡ false
  unfolding section_header
  local_not_own s y (value.Place k offset) there name start same =
      let z : Nlist = raw y.n_strx 14 (k + 1) 0 (address_of n k + offset) in
      ap (is_own_in W64 t) same
      ∙ ap (λ o. option_map_or (λ (h : SectionHeader). nat_eq (address_of n k + offset) h.addr) o false && bytes_eq (name_of t z) (section_symbol_name (k + 1))) (header_made w n k there.0 there.1)
      ∙ ap (λ b. b && bytes_eq (name_of t z) (section_symbol_name (k + 1))) (start_test (address_of n k) offset)
      ∙ ap (λ m. nat_eq offset 0 && bytes_eq m (section_symbol_name (k + 1))) (sym (ap (name_of t) same) ∙ name)
      ∙ start
  local_not_own s y (value.Absolute a) there name start same = ap (is_own_in W64 t) same

  pub not_own : (k : ℕ) (s : Symbol) → slice_get n.symbols k ≡ Some s → name_of t (entry_with w n s s.binding) ≡ s.name → (parts.is_local s.binding ≡ true → is_written n.format s ≡ true)
      → is_own t (entry_with w n s s.binding) ≡ false
  unfolding is_own made_tables
  not_own k s here name written = by w refl
    where
      outer : (b : Bool) → is_external (entry_with w n s s.binding) ≡ b → b ≡ true → is_own_in W64 t (entry_with w n s s.binding) ≡ false
      outer true e u = ap (λ x. not (is_stab (entry_with w n s s.binding)) && not x && is_type N_SECT (entry_with w n s s.binding) && is_at_start t (entry_with w n s s.binding)
          && bytes_eq (name_of t (entry_with w n s s.binding)) (section_symbol_name (entry_with w n s s.binding).n_sect)) e ∙ ap (λ x. not x && false && is_type N_SECT (entry_with w n s s.binding) && is_at_start t (entry_with w n s s.binding)
          && bytes_eq (name_of t (entry_with w n s s.binding)) (section_symbol_name (entry_with w n s s.binding).n_sect)) (entry_read k s here s.binding refl).plain
      outer false e u = absurd (true≢false (sym u))

      external : parts.is_local s.binding ≡ false → is_own_in W64 t (entry_with w n s s.binding) ≡ false
      external o = outer (is_external (entry_with w n s s.binding)) refl ((entry_read k s here s.binding refl).external ∙ ap not o)

      long : w ≡ W64 → (b : Binding) → s.binding ≡ b → is_own_in W64 t (entry_with w n s s.binding) ≡ false
      long e (Local v) own =
          local_not_own s (entry_with w n s s.binding) v (subst (IsBinding n) own (symbol_is w n is k s here).binding) name
          (written_not w refl s v own (written (ap parts.is_local own)) e)
          (ap (λ b. raw (offset_in (line_names w n) s.name) ((value_fields_of n b).type + external_flag b + private_flag (mach_vis b s.vis)) (value_fields_of n b).n_sect (desc_by b) (value_fields_of n b).n_value) own)
      long e (Global v) own = external (ap parts.is_local own)
      long e Undefined own = external (ap parts.is_local own)
      long e (Common size align) own = external (ap parts.is_local own)
      long e (Weak f) own = external (ap parts.is_local own)

      by : (v : Word) → w ≡ v → is_own_in w t (entry_with w n s s.binding) ≡ false
      by W32 e = ap (λ u. is_own_in u t (entry_with w n s s.binding)) e
      by W64 e = ap (λ u. is_own_in u t (entry_with w n s s.binding)) e ∙ long e s.binding refl

  pub symbol_made : (i k : ℕ) (s : Symbol) (x : Line) → slice_get (lines_of w n) i ≡ Some x → slice_get n.symbols k ≡ Some s → IsOfObject w n is x → line_entry w n x ≡ entry_with w n s s.binding
      → name_of t (entry_with w n s s.binding) ≡ s.name → (parts.is_local s.binding ≡ true → is_written n.format s ≡ true)
      → (p : Bool) → p ≡ false → symbol_of t p i (entry_with w n s s.binding) ≡ Some (made_symbol i s)
  unfolding symbol_of made_symbol
  symbol_made i k s x here there of entry name written p free =
      let y : Nlist = entry_with w n s s.binding in
      let r = entry_read k s there s.binding refl in
      let own : is_own t y ≡ false = not_own k s there name written in
      let empty : bytes_eq (name_of t y) [] ≡ false = ap (λ m. bytes_eq m []) name ∙ some_name s.name (named w n is k s there) in
      let carried : is_carried t y ≡ true
      = ap (λ b. not b && not (is_own t y) && (is_external y || not (bytes_eq (name_of t y) []))) r.plain
      ∙ ap (λ b. not b && (is_external y || not (bytes_eq (name_of t y) []))) own
      ∙ ap (λ b. is_external y || not b) empty ∙ or_true (is_external y) in
      let made : Bool → List ℕ → Binding → Visibility → Bool → Option parts.Symbol
      = λ c m b v p. cond c (Some (record { name = m; binding = b; mark = NoType; vis = v; size = 0; pinned = p; number = i })) None in
      ap (λ c. made c (name_of t y) (binding_of t y) (vis_in y) p) carried
      ∙ ap (λ m. made true m (binding_of t y) (vis_in y) p) name
      ∙ ap (λ b. made true s.name b (vis_in y) p) (r.binding ∙ sym (binding_shown k s there s.binding refl))
      ∙ ap (λ v. made true s.name (shown_binding (syms w n) (again_binding s.binding)) v p) r.visible
      ∙ ap (λ q. made true s.name (shown_binding (syms w n) (again_binding s.binding)) (mach_vis s.binding s.vis) q) free
    where
      or_true : (b : Bool) → (b || true) ≡ true
      or_true b = grind arith

  -- the symbol of a section is not carried
  own_none : (i k : ℕ) → slice_get (lines_of w n) i ≡ Some (OwnLine k) → IsLine w n (OwnLine k) → (p : Bool) → symbol_of t p i (line_entry w n (OwnLine k)) ≡ None
  unfolding symbol_of
  own_none i k here own p =
      let s = there_at n.sections k (needed_low n own.1 k own.2) in
      let y : Nlist = line_entry w n (OwnLine k) in
      by (is_stab y) (is_own t y) (own_is w n is own.0 k i s.0 here s.1) (is_external y || not (bytes_eq (name_of t y) [])) _
    where
      by : (a b : Bool) → b ≡ true → (c : Bool) (o : Option parts.Symbol) → cond (not a && not b && c) o None ≡ None
      by a b e c o = grind arith

  -- what is read of a line
  abbrev pub read_line : ℕ → Line → Option (parts.Symbol)
  read_line i (OwnLine k) = None
  read_line i (LocalLine k s) = Some (made_symbol i s)
  read_line i (OuterLine k s) = Some (made_symbol i s)

  pub line_read : (i : ℕ) (x : Line) → slice_get (lines_of w n) i ≡ Some x → symbol_of t (is_pinned t all i) i (line_entry w n x) ≡ read_line i x
  unfolding line_entry
  line_read i x here = by x here (line_at w n i x here)
    where
      by : (x : Line) → slice_get (lines_of w n) i ≡ Some x → IsLine w n x → symbol_of t (is_pinned t all i) i (line_entry w n x) ≡ read_line i x
      by (OwnLine k) here own = own_none i k here own (is_pinned t all i)
      by (LocalLine k s) here own = symbol_made i k s (LocalLine k s) here own.0 tt refl (ap (λ o. unwrap_or o []) (line_named w n is i (LocalLine k s) here)) (λ e. own.2) (is_pinned t all i) (unpinned w n is i (LocalLine k s) here tt)
      by (OuterLine k s) here own =
          symbol_made i k s (OuterLine k s) here own.0 tt refl (ap (λ o. unwrap_or o []) (line_named w n is i (OuterLine k s) here)) (λ e. absurd (true≢false (sym e ∙ own.1)))
          (is_pinned t all i) (unpinned w n is i (OuterLine k s) here tt)

  laid_read : (i : ℕ) (ls : List Line) → ((k : ℕ) (x : Line) → slice_get ls k ≡ Some x → symbol_of t (is_pinned t all (i + k)) (i + k) (line_entry w n x) ≡ read_line (i + k) x)
      → filter_map (λ (x : ℕ × Nlist). symbol_of t (is_pinned t all x.0) x.0 x.1) (enumerate_from i (map (line_entry w n) ls))
      ≡ filter_map (λ l. option_map (shown_symbol (syms w n)) (seen_line w n l)) (laid behind line_size i ls)
  unfolding made_symbol
  laid_read i [] each = refl
  laid_read i (x ∷ ls) each =
      let z : i + 0 ≡ i = omega arith in
      ap (λ o. cons_option o (filter_map (λ (x : ℕ × Nlist). symbol_of t (is_pinned t all x.0) x.0 x.1) (enumerate_from (i + 1) (map (line_entry w n) ls))))
      (subst (λ j. symbol_of t (is_pinned t all j) j (line_entry w n x) ≡ read_line j x) z (each 0 x refl) ∙ same x)
      ∙ ap (cons_option (option_map (shown_symbol (syms w n)) (seen_line w n (record { at = i; part = x }))))
      (laid_read (i + 1) ls (λ k y h. let e : i + suc k ≡ i + 1 + k = omega arith in subst (λ j. symbol_of t (is_pinned t all j) j (line_entry w n y) ≡ read_line j y) e (each (suc k) y h)))
    where
      same : (x : Line) → read_line i x ≡ option_map (shown_symbol (syms w n)) (seen_line w n (record { at = i; part = x }))
      same x = grind arith

  -- the symbols
  pub symbols_are : symbols_in t all ≡ map (shown_symbol (syms w n)) (syms w n)
  unfolding symbols_in symbols_by made_tables
  symbols_are =
      laid_read 0 (lines_of w n) (λ k x h. let e : k ≡ 0 + k = omega arith in subst (λ j. symbol_of t (is_pinned t all j) j (line_entry w n x) ≡ read_line j x) e (line_read k x h))
      ∙ filter_map-results (λ l. option_map (shown_symbol (syms w n)) (seen_line w n l)) (seen_line w n) (shown_symbol (syms w n)) (numbered_lines w n) (λ k l h. refl)
      ∙ ap (map (shown_symbol (syms w n))) (symbols_seen w n)
