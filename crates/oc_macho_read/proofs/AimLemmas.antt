-- What a relocation is against is what the entry refers to.
use Rattle.std.proofs.Common.{Bool, List, None, Option, Some, [], ap, arith, bytes_eq, cond, false, nat_eq, not, pos, refl, slice_get, subst, sym, true, true≢false, ℕ, ℤ, ◌&&◌, ◌-ℤ◌, ◌-◌, ◌||◌, ◌∙◌, ◌≡◌}
use Rattle.std.proofs.Math.IntN.{+ℤ_idr}
use Rattle.std.proofs.lemmas.{Bool.{eqb-true}, Option.{none-some, same_Some, slice_get_within}}
use Rattle.std.specs.Option.{option_and_then, option_map, option_map_or, unwrap_or}
use Rattle.oc_base.specs.{declared.format.Word.TheVariants.{W32, W64}, declared.format.Word.{Word}}
use Rattle.oc_linking.specs.{Targets.{symbol_target}, declared.terms.Base.{Base}, declared.terms.Keep.{Keep}}
use Rattle.oc_macho.specs.{Aims.{aim_in, fixed_place}, Entries.{is_pinned}, Rules.{mach_dialect, symbols_in}, Sections.{address_of, holder_of}}
use Rattle.oc_macho.specs.Symbols.{binding_of, is_at_start, is_carried, is_external, is_own, is_own_in, is_stab, is_type, name_of, offset_of, symbol_of}
use Rattle.oc_macho.specs.{Tables.{SectionTable, Tables, tables_of}, declared.constants.TheConstants.{N_SECT}, declared.nlist.Nlist.{Nlist}}
use Rattle.oc_macho.specs.{declared.relocation_info.Reference.{Reference}, declared.section_header.SectionHeader.{SectionHeader}}
use Rattle.oc_macho_read.proofs.SymbolLemmas.{as_part, carried_at, left_at, number, symbol_stands}
use Rattle.oc_macho_read.specs.{Built.{symbol_position}, Given.{target_by, target_for}}
use Rattle.oc_shows.proofs.RowFieldLaws.{rows_are_fields, section_rows_are_fields, symbol_is_target}
use Rattle.oc_shows.specs.{Built.{IsField}, Computed.{position_of}, RowFields.{place_target, row_field}, RowValues.{row_reloc}}
use Rattle.oc_neutral.specs.{Faces.{shown_symbols}, Mach.SectionSymbols.{section_symbol_name}, Normal.{moved_addend}, Objects.{Object}, Rows.{Row}}
use Rattle.oc_neutral.specs.declared.reloc.Target.{Target}
use Rattle.oc_linking.specs.Parts as parts
use Rattle.oc_linking.specs.Targets as file
use Rattle.oc_linking.specs.declared.terms.Base.TheVariants as base
use Rattle.oc_neutral.specs.declared.reloc.Target.TheVariants as target
use Rattle.oc_macho.specs.declared.relocation_info.Reference.TheVariants as reference
use Rattle.oc_macho.specs.Aims as aims

pub zero_moved : (b : Base) (a : ℤ) → moved_addend b a 0 ≡ a
zero_moved b a = grind arith

pub zero_less : (a : ℤ) → a -ℤ pos 0 ≡ a
zero_less a = +ℤ_idr a

-- a symbol that stands for its section is not carried
own_left : (t : Tables) (s : Nlist) → is_own t s ≡ true → is_carried t s ≡ false
own_left t s own = by (is_stab s) (is_own t s) (is_external s || not (bytes_eq (name_of t s) [])) own
  where
    by : (a b c : Bool) → b ≡ true → (not a && not b && c) ≡ false
    by a b c e = grind arith

-- what a reference to a carried symbol is
pub record IsSymbolic (t : Tables) (j : ℕ) (a : aims.Aim) : Type 0 where
  pub nlist : Nlist
  pub there : slice_get t.symbols j ≡ Some nlist
  pub carried : is_carried t nlist ≡ true
  pub target : symbol_target (as_part t false j nlist) ≡ Some a.target
  pub counted : a.counted ≡ None
  pub place : a.place ≡ fixed_place (binding_of t nlist)

-- and of one to a section, by its number or by a symbol that stands for it
pub record IsSectional (t : Tables) (s : ℕ) (a : aims.Aim) : Type 0 where
  pub table : SectionTable
  pub there : slice_get t.sections s ≡ Some table
  pub counted : Option ℕ
  pub is : aims.section_aim t s counted ≡ a

-- the section number k
numbered_is : (t : Tables) (k : ℕ) (a : aims.Aim) → aims.numbered_aim t k ≡ Some (Some a) → IsSectional t (k - 1) a × (a.counted ≡ Some (address_of t k))
numbered_is t k a e = by (nat_eq k 0) refl (slice_get t.sections (k - 1)) refl e
  where
    by : (b : Bool) → nat_eq k 0 ≡ b → (o : Option SectionTable) → slice_get t.sections (k - 1) ≡ o
        → cond b (Some None) (option_map (λ h. Some (aims.section_aim t (k - 1) (Some (address_of t k)))) (number o b)) ≡ Some (Some a) → IsSectional t (k - 1) a × (a.counted ≡ Some (address_of t k))
    by true f o g h = absurd (none-some a (same_Some None (Some a) h))
    by false f None g h = absurd (none-some (Some a) h)
    by false f (Some x) g h =
        let same = same_Some (aims.section_aim t (k - 1) (Some (address_of t k))) a (same_Some (Some (aims.section_aim t (k - 1) (Some (address_of t k)))) (Some a) h) in
        (record { table = x; there = g; counted = Some (address_of t k); is = same }, sym (ap (λ (y : aims.Aim). y.counted) same))

-- a symbol that stands for its section has one
own_home : (t : Tables) (s : Nlist) → is_own t s ≡ true → (x : SectionTable) × (slice_get t.sections (s.n_sect - 1) ≡ Some x) × (offset_of t s ≡ 0)
unfolding is_own
own_home t s own = by_word t.word own
  where
    fourth : (a b c d e : Bool) → (a && b && c && d && e) ≡ true → d ≡ true
    fourth a b c d e f = grind arith

    by : (b : Bool) (o : Option SectionTable) → slice_get t.sections (s.n_sect - 1) ≡ o → nat_eq s.n_sect 0 ≡ b
        → option_map_or (λ (h : SectionHeader). nat_eq s.n_value h.addr) (cond b None (option_map (λ (x : SectionTable). x.header) o)) false ≡ true
        → (x : SectionTable) × (slice_get t.sections (s.n_sect - 1) ≡ Some x) × (offset_of t s ≡ 0)
    by true o g f h = absurd (true≢false (sym h))
    by false None g f h = absurd (true≢false (sym h))
    by false (Some x) g f h =
        let address : address_of t s.n_sect ≡ x.header.addr
        = ap (λ b. option_map_or (λ (h : SectionHeader). h.addr) (cond b None (option_map (λ (x : SectionTable). x.header) (slice_get t.sections (s.n_sect - 1)))) 0) f
        ∙ ap (λ (o : Option SectionTable). option_map_or (λ (h : SectionHeader). h.addr) (option_map (λ (x : SectionTable). x.header) o) 0) g in
        let same = eqb-true s.n_value x.header.addr h in
        (x, g, omega (arith, address, same))

    by_word : (w : Word) → is_own_in w t s ≡ true → (x : SectionTable) × (slice_get t.sections (s.n_sect - 1) ≡ Some x) × (offset_of t s ≡ 0)
    by_word W32 e = absurd (true≢false (sym e))
    by_word W64 e =
        by (nat_eq s.n_sect 0) (slice_get t.sections (s.n_sect - 1)) refl refl
        (fourth (not (is_stab s)) (not (is_external s)) (is_type N_SECT s) (is_at_start t s) (bytes_eq (name_of t s) (section_symbol_name s.n_sect)) e)

-- what symbol number j is
pub data IsNamed (t : Tables) (j : ℕ) (a : aims.Aim) : Type 0 where
  Carried : IsSymbolic t j a → IsNamed t j a
  Own : (s : Nlist) → slice_get t.symbols j ≡ Some s → is_carried t s ≡ false → offset_of t s ≡ 0 → IsSectional t (s.n_sect - 1) a → a.counted ≡ None → IsNamed t j a

pub named_is : (t : Tables) (j : ℕ) (a : aims.Aim) → aim_in t (reference.Symbol j) ≡ Some (Some a) → IsNamed t j a
unfolding aim_in symbol_of
named_is t j a e = by (slice_get t.symbols j) refl e
  where
    by : (o : Option Nlist) → slice_get t.symbols j ≡ o → option_and_then (aims.aim_of t j) o ≡ Some (Some a) → IsNamed t j a
    by None g h = absurd (none-some (Some a) h)
    by (Some s) g h = of (is_own t s) refl h
      where
        carried : (b : Bool) → is_carried t s ≡ b → option_map aims.symbol_aim (cond b (Some (as_part t false j s)) None) ≡ Some (Some a) → IsNamed t j a
        carried false f i = absurd (none-some (Some a) i)
        carried true f i = targeted (symbol_target (as_part t false j s)) refl (same_Some (aims.symbol_aim (as_part t false j s)) (Some a) i)
          where
            targeted : (u : Option file.Target) → symbol_target (as_part t false j s) ≡ u
                → option_map (λ (target : file.Target). record { target = target; counted = None; place = fixed_place (binding_of t s) }) u ≡ Some a → IsNamed t j a
            targeted None k l = absurd (none-some a l)
            targeted (Some u) k l =
                let made : aims.Aim = record { target = u; counted = None; place = fixed_place (binding_of t s) } in
                let same : made ≡ a = same_Some made a l in
                Carried (record {
                  nlist = s;
                  there = g;
                  carried = f;
                  target = k ∙ ap (λ (x : aims.Aim). Some x.target) same;
                  counted = sym (ap (λ (x : aims.Aim). x.counted) same);
                  place = sym (ap (λ (x : aims.Aim). x.place) same);
                })

        of : (b : Bool) → is_own t s ≡ b
            → cond b (Some (Some (aims.section_aim t (s.n_sect - 1) None))) (option_map aims.symbol_aim (cond (is_carried t s) (Some (as_part t false j s)) None)) ≡ Some (Some a) → IsNamed t j a
        of true f i =
            let home = own_home t s f in
            let same = same_Some (aims.section_aim t (s.n_sect - 1) None) a (same_Some (Some (aims.section_aim t (s.n_sect - 1) None)) (Some a) i) in
            Own s g (own_left t s f) home.2 (record { table = home.0; there = home.1; counted = None; is = same }) (sym (ap (λ (x : aims.Aim). x.counted) same))
        of false f i = carried (is_carried t s) refl i

-- what any reference is to
pub data IsAim (t : Tables) (r : Reference) (a : aims.Aim) : Type 0 where
  ToSymbol : (j : ℕ) → r ≡ reference.Symbol j → IsNamed t j a → IsAim t r a
  ToSection : (k : ℕ) → r ≡ reference.Section k → IsSectional t (k - 1) a → a.counted ≡ Some (address_of t k) → IsAim t r a
  ToAddress : (v k : ℕ) → r ≡ reference.Address v → holder_of t v ≡ Some k → IsSectional t (k - 1) a → a.counted ≡ Some (address_of t k) → IsAim t r a

pub aim_is : (t : Tables) (r : Reference) (a : aims.Aim) → aim_in t r ≡ Some (Some a) → IsAim t r a
unfolding aim_in
aim_is t (reference.Symbol j) a e = ToSymbol j refl (named_is t j a e)
aim_is t (reference.Section k) a e = let n = numbered_is t k a e in ToSection k refl n.0 n.1
aim_is t (reference.Address v) a e = by (holder_of t v) refl e
  where
    by : (o : Option ℕ) → holder_of t v ≡ o → option_and_then (aims.numbered_aim t) o ≡ Some (Some a) → IsAim t (reference.Address v) a
    by None g h = absurd (none-some (Some a) h)
    by (Some k) g h = let n = numbered_is t k a h in ToAddress v k refl g n.0 n.1

-- ... targets

module _ (w : Word) (b : List ℕ) (keep : Keep) (n : Object) (shown : shown_symbols n ≡ (mach_dialect w).rules.symbols b keep) where
  abbrev t : Tables
  t = tables_of w b

  position_carried : (j : ℕ) (s : Nlist) → slice_get t.symbols j ≡ Some s → is_carried t s ≡ true → symbol_position t keep j ≡ Some (position_of (symbols_in t keep) j)
  position_carried j s here is = ap (option_map (λ (x : parts.Symbol). position_of (symbols_in t keep) x.number)) (carried_at t keep j s here is)

  position_left : (j : ℕ) (s : Nlist) → slice_get t.symbols j ≡ Some s → is_carried t s ≡ false → symbol_position t keep j ≡ None
  position_left j s here is = ap (option_map (λ (x : parts.Symbol). position_of (symbols_in t keep) x.number)) (left_at t keep j s here is)

  -- against the start of a section
  section_field : (s at : ℕ) (row : Row) (k : ℕ) (c : ℤ) (j : ℕ) → IsField (mach_dialect w) b keep n s at (row_reloc w row k c (target.Section j)) (row_field w row k c s at (place_target w j 0))
  section_field s at row k c j =
      subst (λ (d : ℤ). IsField (mach_dialect w) b keep n s at (row_reloc w row k d (target.Section j)) (row_field w row k c s at (place_target w j 0))) (zero_moved row.base c)
      (section_rows_are_fields (mach_dialect w) b keep n s at row k c j 0)

  sectional_field : (s at : ℕ) (row : Row) (k : ℕ) (c : ℤ) (j : ℕ) (a : aims.Aim) → IsSectional t j a → IsField (mach_dialect w) b keep n s at (row_reloc w row k c (target.Section j)) (row_field w row k c s at a.target)
  unfolding tables_of
  sectional_field s at row k c j a m =
      subst (λ (x : aims.Aim). IsField (mach_dialect w) b keep n s at (row_reloc w row k c (target.Section j)) (row_field w row k c s at x.target)) m.is (section_field s at row k c j)

  symbol_field : (s at : ℕ) (row : Row) (k : ℕ) (c : ℤ) (j : ℕ) (a : aims.Aim) → IsNamed t j a → IsField (mach_dialect w) b keep n s at (row_reloc w row k c (target_for t keep (reference.Symbol j))) (row_field w row k c s at a.target)
  symbol_field s at row k c j a (Carried m) =
      let low = slice_get_within t.symbols j m.nlist m.there in
      let is = carried_at t keep j m.nlist m.there m.carried in
      let p = position_of (symbols_in t keep) j in
      subst (λ (u : Target). IsField (mach_dialect w) b keep n s at (row_reloc w row k c u) (row_field w row k c s at a.target))
      (sym (ap (target_by (option_map_or (λ (s : Nlist). s.n_sect - 1) (slice_get t.symbols j) 0)) (position_carried j m.nlist m.there m.carried)))
      (rows_are_fields (mach_dialect w) b keep n s at row k c (target.Symbol p) a.target
      (symbol_is_target (mach_dialect w) b keep n p (as_part t (is_pinned t keep j) j m.nlist) a.target shown (symbol_stands t keep j (as_part t (is_pinned t keep j) j m.nlist) low is) m.target))
  symbol_field s at row k c j a (Own y here left offset m counted) =
      subst (λ (u : Target). IsField (mach_dialect w) b keep n s at (row_reloc w row k c u) (row_field w row k c s at a.target))
      (sym (ap (target_by (option_map_or (λ (s : Nlist). s.n_sect - 1) (slice_get t.symbols j) 0)) (position_left j y here left)
      ∙ ap (λ (o : Option Nlist). target.Section (option_map_or (λ (s : Nlist). s.n_sect - 1) o 0)) here))
      (sectional_field s at row k c (y.n_sect - 1) a m)

  -- the relocation of a row against what an entry refers to is the field of the row
  pub against : (s at : ℕ) (row : Row) (k : ℕ) (c : ℤ) (r : Reference) (a : aims.Aim) → aim_in t r ≡ Some (Some a) → IsField (mach_dialect w) b keep n s at (row_reloc w row k c (target_for t keep r)) (row_field w row k c s at a.target)
  against s at row k c r a e = by (aim_is t r a e)
    where
      by : IsAim t r a → IsField (mach_dialect w) b keep n s at (row_reloc w row k c (target_for t keep r)) (row_field w row k c s at a.target)
      by (ToSymbol j is m) = subst (λ (x : Reference). IsField (mach_dialect w) b keep n s at (row_reloc w row k c (target_for t keep x)) (row_field w row k c s at a.target)) (sym is) (symbol_field s at row k c j a m)
      by (ToSection j is m counted) =
          subst (λ (x : Reference). IsField (mach_dialect w) b keep n s at (row_reloc w row k c (target_for t keep x)) (row_field w row k c s at a.target)) (sym is) (sectional_field s at row k c (j - 1) a m)
      by (ToAddress v j is held m counted) =
          subst (λ (x : Reference). IsField (mach_dialect w) b keep n s at (row_reloc w row k c (target_for t keep x)) (row_field w row k c s at a.target)) (sym is)
          (subst (λ (o : Option ℕ). IsField (mach_dialect w) b keep n s at (row_reloc w row k c (target.Section (unwrap_or o 0 - 1))) (row_field w row k c s at a.target)) (sym held)
          (sectional_field s at row k c (j - 1) a m))
