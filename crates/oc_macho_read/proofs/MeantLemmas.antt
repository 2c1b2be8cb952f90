-- What the meaning of a type makes of a field is what its row makes of it.
use Rattle.std.proofs.Common.{Bool, List, None, Option, Some, ap, arith, cond, false, length, nat_lt, neg_ℤ, pos, refl, replicate, slice_get, subst, sym, true≢false, ℕ, ℤ, ◌+◌, ◌-ℤ◌, ◌-◌, ◌<◌, ◌^◌, ◌||◌, ◌∙◌, ◌≡◌, ◌≤◌}
use Rattle.std.proofs.lemmas.{Bool.{ne_eqb}, Option.{none-some, same_Some, slice_get_within}}
use Rattle.std.specs.{Option.{option_and_then, option_map, option_map_or, unwrap_or}, Prelude.{IsSome, is_some, ◌+ℤ◌}}
use Rattle.oc_algebra.proofs.Laws.{reduced_same, residue_less}
use Rattle.oc_algebra.specs.{Fields.{extended}, Residues.{reduced_number, residue_of}}
use Rattle.oc_base.specs.{Numbers.{number_at}, declared.format.Word.TheVariants.{W32, W64}, declared.format.Word.{Word}}
use Rattle.oc_linking.specs.{Fits.{bytes_of}, Numbers.{minus}, declared.terms.Keep.{Keep}, declared.terms.Less.{Less}}
use Rattle.oc_macho_judge.proofs.SectionLemmas.{there}
use Rattle.oc_macho.specs.{Aims.{aim_in, fixed_place, numbered_aim, target_in}, Entries.{row_for, taken_entry, taken_reference, target_entry}}
use Rattle.oc_macho.specs.{Fields.{FieldParts, added_by, counted_of, field_parts_by, given_back, taken_section, number_of}, Framed.{IsTable, table_at}}
use Rattle.oc_macho.specs.{Meanings.{meaning_of, meant_by}, Sections.{address_of, contents_of, holder_of, is_zerofill}}
use Rattle.oc_macho.specs.{Symbols.{binding_of, is_type, offset_of}, Tables.{SectionTable, Tables}, declared.constants.TheConstants.{N_ABS}}
use Rattle.oc_macho.specs.{declared.entries.Item.{Item}, declared.meaning.Meaning.{Meaning}, declared.nlist.Nlist.{Nlist}}
use Rattle.oc_macho.specs.{declared.relocation_info.Reference.{Reference}, declared.relocation_info.RelocationInfo.{RelocationInfo}}
use Rattle.oc_macho.specs.declared.section_header.SectionHeader.{SectionHeader}
use Rattle.oc_macho_read.proofs.AimLemmas.{Carried, IsAim, IsNamed, IsSectional, Own, ToAddress, ToSection, ToSymbol, aim_is, named_is}
use Rattle.oc_macho_read.proofs.{ItemLemmas.{row_width}, SymbolLemmas.{each_binding, each_outer}, TableLemmas.{raw_long}}
use Rattle.oc_macho_read.specs.Built.{AreRead, symbol_position}
use Rattle.oc_macho_read.specs.Given.{AreAimed, IsAimed, IsTakeable, addend_meant, aim_for, counted_by, given_meant, less_meant, reloc_as, reloc_by, reloc_meant, reloc_of_item, taken_aim, taken_offset, target_for}
use Rattle.oc_neutral.specs.{Mach.Relocs.{MachRow}, Normal.{Place, place_of}}
use Rattle.oc_neutral.specs.{Rows.{Taken, TakesGotBase, TakesHome, TakesImageBase, TakesPlace, TakesSection, TakesZero}, declared.reloc.Reloc.{Reloc}}
use Rattle.oc_neutral.specs.declared.reloc.Target.{Target}
use Rattle.oc_shows.specs.RowValues.{row_reloc}
use Rattle.oc_linking.specs.declared.terms.Value.TheVariants as value
use Rattle.oc_linking.specs.declared.terms.Less.TheVariants as less
use Rattle.oc_neutral.specs.Rows as rows
use Rattle.oc_macho.specs.declared.relocation_info.Reference.TheVariants as reference
use Rattle.oc_macho.specs.Aims as aims
use Rattle.oc_macho.specs.RelocationFaults as faults
use Rattle.oc_macho_read.specs.Given as given
use Rattle.oc_macho_read.specs.declared.aims.Aim as ours

-- ... what references are to

module _ (t : Tables) (keep : Keep) where
  symbol_is : (j : ℕ) (s : Nlist) → slice_get t.symbols j ≡ Some s → aim_for t keep (reference.Symbol j) ≡ given.symbol_aim t keep j s
  symbol_is j s here = ap (λ (o : Option Nlist). option_map_or (given.symbol_aim t keep j) o given.no_aim) here

  -- what it is against
  pub target_is : (r : Reference) (a : aims.Aim) → aim_in t r ≡ Some (Some a) → (aim_for t keep r).target ≡ target_for t keep r
  target_is r a aimed = by (aim_is t r a aimed)
    where
      symbol : (j : ℕ) (s : Nlist) → slice_get t.symbols j ≡ Some s → (aim_for t keep (reference.Symbol j)).target ≡ target_for t keep (reference.Symbol j)
      symbol j s here =
          ap (λ (x : ours.Aim). x.target) (symbol_is j s here)
          ∙ sym (ap (λ (o : Option Nlist). given.target_by (option_map_or (λ (s : Nlist). s.n_sect - 1) o 0) (symbol_position t keep j)) here)

      by : IsAim t r a → (aim_for t keep r).target ≡ target_for t keep r
      by x = grind arith

  -- the address that it is counted in
  pub counted_is : (r : Reference) (a : aims.Aim) → aim_in t r ≡ Some (Some a) → (aim_for t keep r).counted ≡ a.counted
  counted_is r a aimed = by (aim_is t r a aimed)
    where
      by : IsAim t r a → (aim_for t keep r).counted ≡ a.counted
      by (ToSymbol j is (Carried m)) = subst (λ (x : Reference). (aim_for t keep x).counted ≡ a.counted) (sym is) (ap (λ (x : ours.Aim). x.counted) (symbol_is j m.nlist m.there) ∙ sym m.counted)
      by (ToSymbol j is (Own s here left offset m counted)) = subst (λ (x : Reference). (aim_for t keep x).counted ≡ a.counted) (sym is) (ap (λ (x : ours.Aim). x.counted) (symbol_is j s here) ∙ sym counted)
      by (ToSection k is m counted) = subst (λ (x : Reference). (aim_for t keep x).counted ≡ a.counted) (sym is) (sym counted)
      by (ToAddress v k is held m counted) =
          subst (λ (x : Reference). (aim_for t keep x).counted ≡ a.counted) (sym is) (ap (λ (o : Option ℕ). Some (address_of t (unwrap_or o 0))) held ∙ sym counted)

  -- where it lies
  pub place_is : (r : Reference) (m : IsTakeable t r) → ((aim_for t keep r).section ≡ m.place.0) × ((aim_for t keep r).beyond ≡ m.place.1)
  place_is r m = by (aim_is t r m.aim m.is)
    where
      abbrev_same : (x : ours.Aim) (q : Place) → (x.section, x.beyond) ≡ q → (x.section ≡ q.0) × (x.beyond ≡ q.1)
      abbrev_same x q e = (ap (λ (p : Place). p.0) e, ap (λ (p : Place). p.1) e)

      sectional : (j : ℕ) → IsSectional t j m.aim → (j, 0) ≡ m.place
      sectional j n = same_Some (j, 0) m.place (ap (λ (x : aims.Aim). x.place) n.is ∙ m.placed)

      carried : (s : Nlist) → fixed_place (binding_of t s) ≡ Some m.place → (s.n_sect - 1, offset_of t s) ≡ m.place
      carried s =
          each_binding t s (λ b. fixed_place b ≡ Some m.place → (s.n_sect - 1, offset_of t s) ≡ m.place)
          (λ local e. of (is_type N_ABS s) e)
          (λ a c. each_outer s (λ b. fixed_place b ≡ Some m.place → (s.n_sect - 1, offset_of t s) ≡ m.place) (λ e. absurd (none-some m.place e)) (λ e. absurd (none-some m.place e)) (λ e. absurd (none-some m.place e)))
          (λ a c e. absurd (none-some m.place e))
          (λ a c e. of (is_type N_ABS s) e)
        where
          of : (b : Bool) → place_of (cond b (value.Absolute s.n_value) (value.Place (s.n_sect - 1) (offset_of t s))) ≡ Some m.place → (s.n_sect - 1, offset_of t s) ≡ m.place
          of b e = grind arith

      named : (j : ℕ) → IsNamed t j m.aim → ((aim_for t keep (reference.Symbol j)).section ≡ m.place.0) × ((aim_for t keep (reference.Symbol j)).beyond ≡ m.place.1)
      named j (Carried n) =
          abbrev_same (aim_for t keep (reference.Symbol j)) m.place (ap (λ (x : ours.Aim). (x.section, x.beyond)) (symbol_is j n.nlist n.there) ∙ carried n.nlist (sym n.place ∙ m.placed))
      named j (Own s here left offset n counted) =
          abbrev_same (aim_for t keep (reference.Symbol j)) m.place
          (ap (λ (x : ours.Aim). (x.section, x.beyond)) (symbol_is j s here) ∙ ap (λ (o : ℕ). (s.n_sect - 1, o)) offset ∙ sectional (s.n_sect - 1) n)

      by : IsAim t r m.aim → ((aim_for t keep r).section ≡ m.place.0) × ((aim_for t keep r).beyond ≡ m.place.1)
      by (ToSymbol j is n) = subst (λ (x : Reference). ((aim_for t keep x).section ≡ m.place.0) × ((aim_for t keep x).beyond ≡ m.place.1)) (sym is) (named j n)
      by (ToSection k is n counted) =
          subst (λ (x : Reference). ((aim_for t keep x).section ≡ m.place.0) × ((aim_for t keep x).beyond ≡ m.place.1)) (sym is)
          (abbrev_same (aim_for t keep (reference.Section k)) m.place (sectional (k - 1) n))
      by (ToAddress v k is held n counted) =
          subst (λ (x : Reference). ((aim_for t keep x).section ≡ m.place.0) × ((aim_for t keep x).beyond ≡ m.place.1)) (sym is)
          (abbrev_same (aim_for t keep (reference.Address v)) m.place (ap (λ (o : Option ℕ). (unwrap_or o 0 - 1, 0)) held ∙ sectional (k - 1) n))

-- the symbol of a reference to which a field can refer is in the table
pub aimed_low : (t : Tables) (j : ℕ) → IsAimed t (reference.Symbol j) → j < length t.symbols
aimed_low t j aimed = by (named_is t j aimed.aim aimed.is)
  where
    by : IsNamed t j aimed.aim → j < length t.symbols
    by (Carried m) = slice_get_within t.symbols j m.nlist m.there
    by (Own s here left offset m counted) = slice_get_within t.symbols j s here

-- a section holds the address of one
pub aimed_held : (t : Tables) (v : ℕ) → IsAimed t (reference.Address v) → IsSome (holder_of t v)
unfolding aim_in
aimed_held t v aimed = by (holder_of t v) aimed.is
  where
    by : (o : Option ℕ) → option_and_then (numbered_aim t) o ≡ Some (Some aimed.aim) → IsSome o
    by o is = grind arith

pub taken_aimed : (t : Tables) (item : Item) (r : Reference) → AreAimed t item → taken_reference t.word item ≡ Some r → IsAimed t r
taken_aimed t item r aimed is = let m = aimed.taken r is in record { aim = m.aim; is = m.is }

-- ... meanings

minus_twice : (w : Word) (R o h : ℕ) → minus w R (o + h) ≡ minus w (minus w R o) h
minus_twice W32 R o h = omega arith
minus_twice W64 R o h = omega arith

-- taking two numbers at once
less_both : (w : Word) (G : ℤ) (o h : ℕ) → reduced_number w (G -ℤ pos (o + h)) ≡ reduced_number w ((G -ℤ pos o) +ℤ neg_ℤ (pos h))
less_both w G o h =
    reduced_same w (G -ℤ pos (o + h)) ((G -ℤ pos o) -ℤ pos h)
    (residue_less w G (o + h) ∙ minus_twice w (residue_of w G) o h ∙ ap (λ (r : ℕ). minus w r h) (sym (residue_less w G o)) ∙ sym (residue_less w (G -ℤ pos o) h))

-- what is given back, where that is m of a place, and n of a section
abbrev pub back_by : ℕ → ℕ → Less → ℕ
back_by m n less.Zero = 0
back_by m n less.Place = m
back_by m n less.GotBase = 0
back_by m n less.ImageBase = 0
back_by m n less.Home = 0
back_by m n (less.Section k) = n

abbrev pub back_of : ℕ → ℕ → Taken → ℕ
back_of m n TakesZero = 0
back_of m n TakesPlace = m
back_of m n TakesGotBase = 0
back_of m n TakesImageBase = 0
back_of m n TakesHome = 0
back_of m n TakesSection = n

-- what a pair takes, by the entries and as building asks for it
pub record AreSame (o : Option aims.Aim) (p : Option ours.Aim) : Type 0 where
  pub section : option_map_or (λ (x : ours.Aim). x.section) p 0 ≡ option_map_or (λ (a : aims.Aim). option_map_or (λ (place : Place). place.0) a.place 0) o 0
  pub beyond : option_map_or (λ (x : ours.Aim). x.beyond) p 0 ≡ option_map_or faults.beyond o 0
  pub counted : option_map_or counted_by p 0 ≡ option_map_or counted_of o 0

module _ (t : Tables) (keep : Keep) (s : ℕ) (c : SectionTable) (here : slice_get t.sections s ≡ Some c) where
  address_is : address_of t (s + 1) ≡ c.header.addr
  address_is =
      let back : s + 1 - 1 ≡ s = omega arith in
      ap (λ b. option_map_or (λ (h : SectionHeader). h.addr) (cond b None (option_map (λ (x : SectionTable). x.header) (slice_get t.sections (s + 1 - 1)))) 0) (ne_eqb (s + 1) 0 (λ e. absurd (omega (arith, e))))
      ∙ ap (λ (k : ℕ). option_map_or (λ (h : SectionHeader). h.addr) (option_map (λ (x : SectionTable). x.header) (slice_get t.sections k)) 0) back
      ∙ ap (λ (o : Option SectionTable). option_map_or (λ (h : SectionHeader). h.addr) (option_map (λ (x : SectionTable). x.header) o) 0) here

  module _ (at : ℕ) (row : MachRow) (a : aims.Aim) (b : ours.Aim) (o : Option aims.Aim) (p : Option ours.Aim) (counted : b.counted ≡ a.counted) (same : AreSame o p) where
    abbrev x : FieldParts
    x = record { row = row; target = a; taken = o }

    less_same : less_meant (rows.less_of row.row.taken 0) p ≡ rows.less_of row.row.taken (taken_section x)
    less_same = by row.row.taken
      where
        by : (l : Taken) → less_meant (rows.less_of l 0) p ≡ rows.less_of l (taken_section x)
        by l = grind arith

    given_same : given_meant c.header.addr at (meant_by row) b p ≡ given_back t s at x
    given_same = by row.row.taken
      where
        by : (l : Taken)
            → back_by (cond (row.by_move || is_some b.counted) (c.header.addr + at + row.row.behind) 0) (option_map_or counted_by p 0) (rows.less_of l 0)
            ≡ back_of (cond (row.by_move || is_some a.counted) (address_of t (s + 1) + at + row.row.behind) 0) (option_map_or counted_of o 0) l
        by TakesZero = refl
        by TakesPlace =
            ap (λ (z : Option ℕ). cond (row.by_move || is_some z) (c.header.addr + at + row.row.behind) 0) counted
            ∙ ap (λ (z : ℕ). cond (row.by_move || is_some a.counted) (z + at + row.row.behind) 0) (sym address_is)
        by TakesGotBase = refl
        by TakesImageBase = refl
        by TakesHome = refl
        by TakesSection = same.counted

    -- the addend
    addend_same : (F : ℤ) → addend_meant t.word c.header.addr at F (meant_by row) b p ≡ reduced_number t.word ((added_by t s at F x -ℤ pos (taken_offset x)) +ℤ rows.shift_of row.row)
    unfolding added_by
    addend_same F =
        ap (λ (z : Option ℕ). reduced_number t.word (F -ℤ pos (unwrap_or z 0) +ℤ pos (given_meant c.header.addr at (meant_by row) b p) -ℤ pos (option_map_or (λ (y : ours.Aim). y.beyond) p 0 + row.row.behind))) counted
        ∙ ap (λ (z : ℕ). reduced_number t.word (F -ℤ pos (counted_of a) +ℤ pos z -ℤ pos (option_map_or (λ (y : ours.Aim). y.beyond) p 0 + row.row.behind))) given_same
        ∙ ap (λ (z : ℕ). reduced_number t.word (F -ℤ pos (counted_of a) +ℤ pos (given_back t s at x) -ℤ pos (z + row.row.behind))) same.beyond
        ∙ less_both t.word (F -ℤ pos (counted_of a) +ℤ pos (given_back t s at x)) (taken_offset x) row.row.behind

    -- the relocation
    pub reloc_same : (F : ℤ) (u : Target) → b.target ≡ u
        → reloc_meant t.word c.header.addr at F (meant_by row) b p ≡ row_reloc t.word row.row (taken_section x) (added_by t s at F x -ℤ pos (taken_offset x)) u
    reloc_same F u is =
        ap (λ (z : Target). record { target = z; form = record { base = row.row.base; less = less_meant (rows.less_of row.row.taken 0) p; width = row.row.width; check = row.row.check }; addend = addend_meant t.word c.header.addr at F (meant_by row) b p; hint = row.row.hint }) is
        ∙ ap (λ (z : Less). record { target = u; form = record { base = row.row.base; less = z; width = row.row.width; check = row.row.check }; addend = addend_meant t.word c.header.addr at F (meant_by row) b p; hint = row.row.hint }) less_same
        ∙ ap (λ (z : ℤ). record { target = u; form = record { base = row.row.base; less = rows.less_of row.row.taken (taken_section x); width = row.row.width; check = row.row.check }; addend = z; hint = row.row.hint }) (addend_same F)

-- ... fields

module _ (t : Tables) (keep : Keep) (s : ℕ) (c : SectionTable) (here : slice_get t.sections s ≡ Some c) (item : Item) (aimed : AreAimed t item) where
  abbrev taken : Option aims.Aim
  taken = option_and_then (target_in t) (taken_entry t.word item)

  taken_same : AreSame taken (taken_aim t keep item)
  taken_same = by (taken_entry t.word item) refl
    where
      by : (o : Option RelocationInfo) → taken_entry t.word item ≡ o → AreSame taken (taken_aim t keep item)
      by None e =
          subst (λ (o : Option RelocationInfo). AreSame (option_and_then (target_in t) o) (option_map (aim_for t keep) (option_map (λ (e : RelocationInfo). e.refers) o))) (sym e)
          (record { section = refl; beyond = refl; counted = refl })
      by (Some y) e =
          let m = aimed.taken y.refers (ap (option_map (λ (e : RelocationInfo). e.refers)) e) in
          let lies = place_is t keep y.refers m in
          subst (λ (o : Option RelocationInfo). AreSame (option_and_then (target_in t) o) (option_map (aim_for t keep) (option_map (λ (e : RelocationInfo). e.refers) o))) (sym e)
          (subst (λ (o : Option aims.Aim). AreSame o (Some (aim_for t keep y.refers))) (sym (ap (option_and_then (λ aim. aim)) m.is)) (record {
            section = lies.0 ∙ sym (ap (λ (o : Option Place). option_map_or (λ (place : Place). place.0) o 0) m.placed);
            beyond = lies.1 ∙ sym (ap (λ (o : Option Place). option_map_or (λ (place : Place). place.1) o 0) m.placed);
            counted = ap (λ (o : Option ℕ). unwrap_or o 0) (counted_is t keep y.refers m.aim m.is);
          }))

  made_with : (row : MachRow) → row_for t.word item.first ≡ Some row → Some (reloc_of_item t keep s c item (meant_by row)) ≡ reloc_by t keep s c item
  unfolding reloc_by field_parts_by
  made_with row listed =
      let r = (target_entry t.word item).refers in
      let a = aimed.target.aim in
      let found : FieldParts = record { row = row; target = a; taken = taken } in
      ap (λ (q : Reloc). Some q)
      (reloc_same t keep s c here item.first.r_address row a (aim_for t keep r) taken (taken_aim t keep item) (counted_is t keep r a aimed.target.is) taken_same (number_of c item.first.r_address found) (target_for t keep r)
      (target_is t keep r a aimed.target.is))
      ∙ sym (ap (λ (o : Option MachRow). option_map (λ (x : FieldParts). reloc_as t keep s item.first.r_address (number_of c item.first.r_address x) item x)
      (option_and_then (λ m. option_map (λ target. record { row = m; target = target; taken = taken }) (target_in t (target_entry t.word item))) o)) listed
      ∙ ap (λ (o : Option (Option aims.Aim)). option_map (λ (x : FieldParts). reloc_as t keep s item.first.r_address (number_of c item.first.r_address x) item x)
      (option_map (λ target. record { row = row; target = target; taken = taken }) (option_and_then (λ aim. aim) o))) aimed.target.is)

  -- in the words of what makes it
  pub made_some : (m : Meaning) → meaning_of t.word item.first ≡ Some m → Some (reloc_of_item t keep s c item m) ≡ reloc_by t keep s c item
  made_some m e = by (row_for t.word item.first) refl e
    where
      by : (o : Option MachRow) → row_for t.word item.first ≡ o → option_map meant_by o ≡ Some m → Some (reloc_of_item t keep s c item m) ≡ reloc_by t keep s c item
      by None g h = absurd (none-some m h)
      by (Some row) g h = ap (λ (z : Meaning). Some (reloc_of_item t keep s c item z)) (sym (same_Some (meant_by row) m h)) ∙ made_with row g

  pub made_none : meaning_of t.word item.first ≡ None → None ≡ reloc_by t keep s c item
  unfolding reloc_by field_parts_by
  made_none e = by (row_for t.word item.first) refl e
    where
      by : (o : Option MachRow) → row_for t.word item.first ≡ o → option_map meant_by o ≡ None
          → None ≡ option_map (λ (x : FieldParts). reloc_as t keep s item.first.r_address (number_of c item.first.r_address x) item x)
          (option_and_then (λ m. option_map (λ target. record { row = m; target = target; taken = taken }) (target_in t (target_entry t.word item))) (row_for t.word item.first))
      by None g h =
          sym (ap (λ (o : Option MachRow). option_map (λ (x : FieldParts). reloc_as t keep s item.first.r_address (number_of c item.first.r_address x) item x)
          (option_and_then (λ m. option_map (λ target. record { row = m; target = target; taken = taken }) (target_in t (target_entry t.word item))) o)) g)
      by (Some row) g h = absurd (none-some (meant_by row) (sym h))

-- a meaning has as many bytes as the entry says
pub meant_width : (w : Word) (e : RelocationInfo) (m : Meaning) → meaning_of w e ≡ Some m → bytes_of m.form.width ≡ 2 ^ e.r_length
meant_width w e m is = by (row_for w e) refl is
  where
    by : (o : Option MachRow) → row_for w e ≡ o → option_map meant_by o ≡ Some m → bytes_of m.form.width ≡ 2 ^ e.r_length
    by None g h = absurd (none-some m h)
    by (Some row) g h = sym (ap (λ (z : Meaning). bytes_of z.form.width) (same_Some (meant_by row) m h)) ∙ row_width w e row g

-- the bytes of a field lie in its section
pub stored_inside : (h : SectionHeader) (item : Item) (n : ℕ) → faults.is_outside h item ≡ false → n ≡ 2 ^ item.first.r_length → (is_zerofill h ≡ false) × (item.first.r_address + n ≤ h.size)
stored_inside h item n e same = of (is_zerofill h) (nat_lt h.size (item.first.r_address + 2 ^ item.first.r_length)) refl refl e
  where
    of : (a c : Bool) → is_zerofill h ≡ a → nat_lt h.size (item.first.r_address + 2 ^ item.first.r_length) ≡ c → (a || c) ≡ false → (is_zerofill h ≡ false) × (item.first.r_address + n ≤ h.size)
    of a c f g x = grind arith

-- the relocation of a field, by what is read of it
pub item_made_of : (t : Tables) (keep : Keep) (i : ℕ) (h : SectionHeader) (item : Item) (m : Meaning) (w : Word) (n : ℤ) (raw : List ℕ) (a : ours.Aim) (b : Option ours.Aim) → IsTable t i h → is_zerofill h ≡ false → w ≡ t.word
    → raw ≡ (table_at t i).raw → n ≡ extended m.form.width (number_at raw item.first.r_address (bytes_of m.form.width)) → a ≡ aim_for t keep (target_entry t.word item).refers → b ≡ taken_aim t keep item
    → reloc_meant w h.addr item.first.r_address n m a b ≡ reloc_of_item t keep i (table_at t i) item m
unfolding contents_of
item_made_of t keep i h item m w n raw a b table stored word raw_is number_is target_is taken_is =
    let at = item.first.r_address in
    let c = table_at t i in
    ap (λ (z : Word). reloc_meant z h.addr at n m a b) word
    ∙ ap (λ (z : SectionHeader). reloc_meant t.word z.addr at n m a b) table.is
    ∙ ap (λ (z : ℤ). reloc_meant t.word c.header.addr at z m a b) number_is
    ∙ ap (λ (z : List ℕ). reloc_meant t.word c.header.addr at (extended m.form.width (number_at z at (bytes_of m.form.width))) m a b) (raw_is ∙ sym (ap (λ b. cond b (replicate c.header.size 0) c.raw) (ap is_zerofill (sym table.is) ∙ stored)))
    ∙ ap (λ (z : ours.Aim). reloc_meant t.word c.header.addr at (extended m.form.width (number_at (contents_of c) at (bytes_of m.form.width))) m z b) target_is
    ∙ ap (λ (z : Option ours.Aim). reloc_meant t.word c.header.addr at (extended m.form.width (number_at (contents_of c) at (bytes_of m.form.width))) m (aim_for t keep (target_entry t.word item).refers) z) taken_is

-- the bytes of a section are as many as its header says
pub header_long : (t : Tables) → AreRead t → (i : ℕ) (h : SectionHeader) → IsTable t i h → is_zerofill h ≡ false → length (table_at t i).raw ≡ h.size
header_long t read i h table stored =
    raw_long t read i (table_at t i) (there t i table.there) (ap is_zerofill (sym table.is) ∙ stored) (subst (λ (g : SectionHeader). g.offset + g.size ≤ t.file_size) table.is (table.bytes_lie stored))
    ∙ sym (ap (λ (g : SectionHeader). g.size) table.is)
