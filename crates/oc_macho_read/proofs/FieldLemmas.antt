-- The relocation that is given for a field is the field.
use Rattle.std.proofs.Common.{Bool, List, None, Option, Some, ap, arith, cond, false, inl, inr, pos, refl, slice_get, subst, sym, true, true≢false, ℕ, ℤ, ◌+◌, ◌-ℤ◌, ◌-◌, ◌∙◌, ◌≡◌, ◌⊎◌}
use Rattle.std.proofs.lemmas.Option.{none-some, same_Some, slice_get_within}
use Rattle.std.specs.Option.{option_and_then, option_map, option_map_or}
use Rattle.oc_algebra.proofs.Laws.{residue_less}
use Rattle.oc_algebra.specs.Residues.{residue_of}
use Rattle.oc_base.specs.{declared.format.Word.TheVariants.{W32, W64}, declared.format.Word.{Word}}
use Rattle.oc_linking.specs.{Numbers.{minus, reduced}, Parts.{is_local}, Placing.{Placement, Site}, Rules.{Field, Named, Sectional, Symbolic}}
use Rattle.oc_linking.specs.{Values.{Valuation, Valued, fixed_site, place_site}, declared.terms.Binding.TheVariants.{Common, Global, Local, Undefined, Weak}}
use Rattle.oc_linking.specs.{declared.terms.Binding.{Binding}, declared.terms.Keep.{Keep}}
use Rattle.oc_macho.specs.{Aims.{aim_in, fixed_place, target_in}, Entries.{is_pinned, item_at, taken_entry, taken_reference, target_entry}}
use Rattle.oc_macho.specs.{Fields.{FieldParts, added_by, field_with, taken_address, taken_section}, RelocationFaults.{beyond}, Rules.{mach_dialect, symbols_in}}
use Rattle.oc_macho.specs.{Symbols.{binding_of, is_carried}, Tables.{SectionTable, Tables, tables_of}, declared.entries.Item.{Item}}
use Rattle.oc_macho.specs.{declared.nlist.Nlist.{Nlist}, declared.relocation_info.Reference.{Reference}}
use Rattle.oc_macho_read.proofs.AimLemmas.{Carried, IsAim, IsNamed, IsSectional, IsSymbolic, Own, ToAddress, ToSection, ToSymbol, against, aim_is, zero_less}
use Rattle.oc_macho_read.proofs.ItemLemmas.{IsGoodItem, IsTaken, Nothing, Something, first_takes, found_as, reference_second, second_first, taken_is}
use Rattle.oc_macho_read.proofs.SymbolLemmas.{as_part, carried_at, symbol_stands}
use Rattle.oc_macho_read.specs.Given.{IsTakeable, reloc_as, taken_offset, target_for}
use Rattle.oc_shows.specs.{Built.{IsField}, Computed.{position_of}, RowFields.{row_field}, RowValues.{row_reloc}, Shows.{IsTrueToFixed}}
use Rattle.oc_neutral.specs.{Faces.{shown_symbols}, Mach.Relocs.{MachRow}, Normal.{Place}, Objects.{Object}, Rows.{Taken, TakesSection}}
use Rattle.oc_linking.specs.Parts as parts
use Rattle.oc_linking.specs.Targets as file
use Rattle.oc_linking.specs.declared.terms.Value.TheVariants as value
use Rattle.oc_neutral.specs.Rows as rows
use Rattle.oc_neutral.specs.Worth as worth
use Rattle.oc_macho.specs.declared.relocation_info.Reference.TheVariants as reference
use Rattle.oc_macho.specs.Aims as aims

-- what is taken of an offset in a section, as taken of the section
taken_moved : (w : Word) (B R S o h : ℕ) → minus w (B + minus w R o) (S + h) ≡ minus w (B + R) (reduced w (S + o) + h)
taken_moved W32 B R S o h = omega arith
taken_moved W64 B R S o h = omega arith

-- ... what is fixed

module _ (w : Word) (b : List ℕ) (keep : Keep) where
  abbrev t : Tables
  t = tables_of w b

  abbrev pub Fixed : Placement → Valuation → Type 0
  Fixed p v = IsTrueToFixed w (symbols_in t keep) p v

  -- what a carried symbol is worth
  symbol_worth : (j : ℕ) (a : aims.Aim) (m : IsSymbolic t j a) (p : Placement) (v : Valuation) → a.target.worth p v ≡ v j
  symbol_worth j a m p v = by (file.named_by j (binding_of t m.nlist)) m.target
    where
      by : (o : Option Named) → option_map (λ named. record { named = named; worth = λ p v. v j }) o ≡ Some a.target → a.target.worth p v ≡ v j
      by None e = absurd (none-some a.target e)
      by (Some named) e =
          let made : file.Target = record { named = named; worth = λ p v. v j } in
          ap (λ (u : file.Target). u.worth p v) (sym (same_Some made a.target e))

  -- a symbol that has a place, and is a Local or pinned, lies there
  symbol_lies : (j : ℕ) (s : Nlist) → slice_get t.symbols j ≡ Some s → is_carried t s ≡ true → (p : Placement) (v : Valuation) → Fixed p v → (bd : Binding) → binding_of t s ≡ bd
      → (is_local bd ≡ false → is_pinned t keep j ≡ true) → (place : Place) → fixed_place bd ≡ Some place → p.discarded place.0 ≡ false ⊎ (is_local bd ≡ true)
      → (v j).site.address ≡ reduced w ((p.site place.0).address + place.1)
  symbol_lies j s here carried p v fixed bd is pinned place at unlost = by bd is pinned at unlost
    where
      x : parts.Symbol
      x = as_part t (is_pinned t keep j) j s

      stands : slice_get (symbols_in t keep) (position_of (symbols_in t keep) j) ≡ Some x
      stands = symbol_stands t keep j x (slice_get_within t.symbols j s here) (carried_at t keep j s here carried)

      lies : (bd : Binding) → binding_of t s ≡ bd → cond (is_local bd) true (is_pinned t keep j) ≡ true → (y : Site) → fixed_site w p bd ≡ Some y → (v j).site ≡ y
      lies bd is held y site =
          fixed.sites (position_of (symbols_in t keep) j) x y stands (ap (λ (d : Binding). cond (is_local d) true (is_pinned t keep j)) is ∙ held) (ap (fixed_site w p) is ∙ site)

      by : (bd : Binding) → binding_of t s ≡ bd → (is_local bd ≡ false → is_pinned t keep j ≡ true) → fixed_place bd ≡ Some place → p.discarded place.0 ≡ false ⊎ (is_local bd ≡ true)
          → (v j).site.address ≡ reduced w ((p.site place.0).address + place.1)
      by (Local (value.Place k o)) is pinned at unlost =
          let same = same_Some (k, o) place at in
          ap (λ (y : Site). y.address) (lies (Local (value.Place k o)) is refl (place_site w p k o) refl) ∙ ap (λ (q : Place). reduced w ((p.site q.0).address + q.1)) same
      by (Local (value.Absolute n)) is pinned at unlost = absurd (none-some place at)
      by (Global (value.Place k o)) is pinned at (inl held_there) =
          let same = same_Some (k, o) place at in
          let held : p.discarded k ≡ false = ap (λ (q : Place). p.discarded q.0) same ∙ held_there in
          ap (λ (y : Site). y.address) (lies (Global (value.Place k o)) is (pinned refl) (place_site w p k o) (ap (λ b. cond b None (Some (place_site w p k o))) held))
          ∙ ap (λ (q : Place). reduced w ((p.site q.0).address + q.1)) same
      by (Global (value.Place k o)) is pinned at (inr local) = absurd (true≢false (sym local))
      by (Global (value.Absolute n)) is pinned at unlost = absurd (none-some place at)
      by Undefined is pinned at unlost = absurd (none-some place at)
      by (Common size align) is pinned at unlost = absurd (none-some place at)
      by (Weak f) is pinned at unlost = absurd (none-some place at)

  -- the section of a reference
  sectional_taken : (j : ℕ) (a : aims.Aim) → IsSectional t j a → (place : Place) → a.place ≡ Some place → (p : Placement) (v : Valuation)
      → taken_address w p v a ≡ reduced w ((p.site place.0).address + place.1)
  unfolding tables_of
  sectional_taken j a m place at p v =
      let same : Some (j, 0) ≡ Some place = ap (λ (x : aims.Aim). x.place) m.is ∙ at in
      sym (ap (taken_address w p v) m.is) ∙ by (p.discarded j) ∙ ap (λ (q : Place). reduced w ((p.site q.0).address + q.1)) (same_Some (j, 0) place same)
    where
      by : (c : Bool) → cond c (place_site w p j 0).address (place_site w p j 0).address ≡ reduced w ((p.site j).address + 0)
      by c = grind arith

  -- what is taken lies where the file places it
  pub taken_lies : (r : Reference) (m : IsTakeable t r) → ((j : ℕ) → r ≡ reference.Symbol j → is_pinned t keep j ≡ true) → (p : Placement) (v : Valuation) → Fixed p v
      → taken_address w p v m.aim ≡ reduced w ((p.site m.place.0).address + m.place.1)
  taken_lies r m pinned p v fixed = by (aim_is t r m.aim m.is)
    where
      symbol : (j : ℕ) → r ≡ reference.Symbol j → IsNamed t j m.aim → taken_address w p v m.aim ≡ reduced w ((p.site m.place.0).address + m.place.1)
      symbol j is (Own s here left offset n counted) = sectional_taken (s.n_sect - 1) m.aim n m.place m.placed p v
      symbol j is (Carried n) =
          ap (λ (o : Option Place). option_map_or (λ (place : Place). cond (p.discarded place.0) (place_site w p place.0 place.1).address (m.aim.target.worth p v).site.address) o (m.aim.target.worth p v).site.address) m.placed
          ∙ of (p.discarded m.place.0) refl
        where
          of : (c : Bool) → p.discarded m.place.0 ≡ c → cond c (place_site w p m.place.0 m.place.1).address (m.aim.target.worth p v).site.address ≡ reduced w ((p.site m.place.0).address + m.place.1)
          of true e = refl
          of false e =
              ap (λ (x : Valued). x.site.address) (symbol_worth j m.aim n p v)
              ∙ symbol_lies j n.nlist n.there n.carried p v fixed (binding_of t n.nlist) refl (λ other. pinned j is) m.place (sym n.place ∙ m.placed) (inl e)

      by : IsAim t r m.aim → taken_address w p v m.aim ≡ reduced w ((p.site m.place.0).address + m.place.1)
      by (ToSymbol j is n) = symbol j is n
      by (ToSection k is n counted) = sectional_taken (k - 1) m.aim n m.place m.placed p v
      by (ToAddress u k is held n counted) = sectional_taken (k - 1) m.aim n m.place m.placed p v

  -- and so does a target that a field names by its section
  pub target_lies : (r : Reference) (a : aims.Aim) → aim_in t r ≡ Some (Some a) → (k : ℕ) → a.target.named ≡ Sectional k → (p : Placement) (v : Valuation) → Fixed p v
      → (a.target.worth p v).site.address ≡ reduced w ((p.site k).address + beyond a)
  unfolding tables_of
  target_lies r a aimed k named p v fixed = by (aim_is t r a aimed)
    where
      same_section : (j k : ℕ) → Sectional j ≡ Sectional k → j ≡ k
      same_section j k e = cc

      not_section : (j k : ℕ) → Symbolic j ≡ Sectional k → ⊥
      not_section j k e = cc

      sectional : (j : ℕ) → IsSectional t j a → (a.target.worth p v).site.address ≡ reduced w ((p.site k).address + beyond a)
      sectional j m =
          let section : j ≡ k = same_section j k (ap (λ (x : aims.Aim). x.target.named) m.is ∙ named) in
          sym (ap (λ (x : aims.Aim). (x.target.worth p v).site.address) m.is) ∙ ap (λ (i : ℕ). reduced w ((p.site i).address + 0)) section
          ∙ ap (λ (x : aims.Aim). reduced w ((p.site k).address + beyond x)) m.is

      symbolic : (j : ℕ) (m : IsSymbolic t j a) → (a.target.worth p v).site.address ≡ reduced w ((p.site k).address + beyond a)
      symbolic j m = of (binding_of t m.nlist) refl
        where
          -- a symbol that is named by its section is a Local there
          of : (bd : Binding) → binding_of t m.nlist ≡ bd → (a.target.worth p v).site.address ≡ reduced w ((p.site k).address + beyond a)
          of bd is = local bd is (ap (λ (d : Binding). option_map (λ named. record { named = named; worth = λ p v. v j }) (file.named_by j d)) (sym is) ∙ m.target)
            where
              named_so : (l : Named) → Some (record { named = l; worth = λ p v. v j }) ≡ Some a.target → l ≡ Sectional k
              named_so l e = let made : file.Target = record { named = l; worth = λ p v. v j } in ap (λ (u : file.Target). u.named) (same_Some made a.target e) ∙ named

              local : (bd : Binding) → binding_of t m.nlist ≡ bd → option_map (λ named. record { named = named; worth = λ p v. v j }) (file.named_by j bd) ≡ Some a.target
                  → (a.target.worth p v).site.address ≡ reduced w ((p.site k).address + beyond a)
              local (Local (value.Place i o)) is e =
                  let section : i ≡ k = same_section i k (named_so (Sectional i) e) in
                  let place : a.place ≡ Some (i, o) = m.place ∙ ap fixed_place is in
                  ap (λ (x : Valued). x.site.address) (symbol_worth j a m p v)
                  ∙ symbol_lies j m.nlist m.there m.carried p v fixed (Local (value.Place i o)) is (λ other. absurd (true≢false other)) (i, o) refl (inr refl)
                  ∙ ap (λ (l : ℕ). reduced w ((p.site l).address + o)) section
                  ∙ ap (λ (x : Option Place). reduced w ((p.site k).address + option_map_or (λ (place : Place). place.1) x 0)) (sym place)
              local (Local (value.Absolute n)) is e = absurd (none-some a.target e)
              local (Global d) is e = absurd (not_section j k (named_so (Symbolic j) e))
              local Undefined is e = absurd (not_section j k (named_so (Symbolic j) e))
              local (Common size align) is e = absurd (not_section j k (named_so (Symbolic j) e))
              local (Weak f) is e = absurd (not_section j k (named_so (Symbolic j) e))

      by : IsAim t r a → (a.target.worth p v).site.address ≡ reduced w ((p.site k).address + beyond a)
      by (ToSymbol j is (Carried m)) = symbolic j m
      by (ToSymbol j is (Own s here left offset m counted)) = sectional (s.n_sect - 1) m
      by (ToSection j is m counted) = sectional (j - 1) m
      by (ToAddress u j is held m counted) = sectional (j - 1) m

-- ... fields

module _ (w : Word) (b : List ℕ) (keep : Keep) (n : Object) (shown : shown_symbols n ≡ (mach_dialect w).rules.symbols b keep) where
  abbrev u : Tables
  u = tables_of w b

  -- a field with these, and what a pair takes
  abbrev found_with : MachRow → aims.Aim → Option aims.Aim → FieldParts
  found_with row a taken = record { row = row; target = a; taken = taken }

  abbrev IsGiven : ℕ → ℕ → MachRow → aims.Aim → Reference → ℤ → Option aims.Aim → Type 0
  IsGiven s at row a r A taken =
      IsField (mach_dialect w) b keep n s at
      (row_reloc w row.row (taken_section (found_with row a taken)) (A -ℤ pos (taken_offset (found_with row a taken))) (target_for u keep r))
      (field_with u s at A (found_with row a taken))

  alone : (s at : ℕ) (row : MachRow) (a : aims.Aim) (r : Reference) → aim_in u r ≡ Some (Some a) → (A : ℤ) → IsGiven s at row a r A None
  unfolding tables_of
  alone s at row a r aimed A =
      subst (λ (d : ℤ). IsField (mach_dialect w) b keep n s at (row_reloc w row.row 0 d (target_for u keep r)) (row_field w row.row 0 A s at a.target)) (sym (zero_less A))
      (against w b keep n shown s at row.row 0 A r a aimed)

  paired : (s at : ℕ) (row : MachRow) (a : aims.Aim) (r : Reference) → aim_in u r ≡ Some (Some a) → (A : ℤ) → row.row.taken ≡ TakesSection
      → (x : Reference) (m : IsTakeable u x) → ((j : ℕ) → x ≡ reference.Symbol j → is_pinned u keep j ≡ true) → IsGiven s at row a r A (Some m.aim)
  unfolding tables_of
  paired s at row a r aimed A takes x m pinned =
      subst (λ (k : ℕ). IsField (mach_dialect w) b keep n s at (row_reloc w row.row k (A -ℤ pos (beyond m.aim)) (target_for u keep r)) (whole k)) (sym section)
      (subst (λ (o : ℕ). IsField (mach_dialect w) b keep n s at (row_reloc w row.row m.place.0 (A -ℤ pos o) (target_for u keep r)) (whole m.place.0)) (sym offset) made)
    where
      section : option_map_or (λ (place : Place). place.0) m.aim.place 0 ≡ m.place.0
      section = ap (λ (o : Option Place). option_map_or (λ (place : Place). place.0) o 0) m.placed

      offset : beyond m.aim ≡ m.place.1
      offset = ap (λ (o : Option Place). option_map_or (λ (place : Place). place.1) o 0) m.placed

      whole : ℕ → Field
      whole k = record {
        width = row.row.width;
        check = row.row.check;
        base = row.row.base;
        less = rows.less_of row.row.taken k;
        residue = λ p v. minus w (worth.base_of p (a.target.worth p v) row.row.base + residue_of w A) (taken_address w p v m.aim + row.row.behind);
        target = a.target.named;
        hint = row.row.hint;
      }

      q : IsField (mach_dialect w) b keep n s at (row_reloc w row.row m.place.0 (A -ℤ pos m.place.1) (target_for u keep r)) (row_field w row.row m.place.0 (A -ℤ pos m.place.1) s at a.target)
      q = against w b keep n shown s at row.row m.place.0 (A -ℤ pos m.place.1) r a aimed

      same : (p : Placement) (v : Valuation) → IsTrueToFixed w (symbols_in u keep) p v
          → (row_field w row.row m.place.0 (A -ℤ pos m.place.1) s at a.target).residue p v
          ≡ minus w (worth.base_of p (a.target.worth p v) row.row.base + residue_of w A) (taken_address w p v m.aim + row.row.behind)
      same p v fixed =
          let B = worth.base_of p (a.target.worth p v) row.row.base in
          ap (λ (l : Taken). minus w (B + residue_of w (A -ℤ pos m.place.1)) (worth.less_of p s at (a.target.worth p v) (rows.less_of l m.place.0) + row.row.behind)) takes
          ∙ ap (λ (c : ℕ). minus w (B + c) ((p.site m.place.0).address + row.row.behind)) (residue_less w A m.place.1)
          ∙ taken_moved w B (residue_of w A) (p.site m.place.0).address m.place.1 row.row.behind
          ∙ ap (λ (c : ℕ). minus w (B + residue_of w A) (c + row.row.behind)) (sym (taken_lies w b keep x m pinned p v fixed))

      made : IsField (mach_dialect w) b keep n s at (row_reloc w row.row m.place.0 (A -ℤ pos m.place.1) (target_for u keep r)) (whole m.place.0)
      made = record {
        width = q.width;
        check = q.check;
        base = q.base;
        less = q.less;
        hint = q.hint;
        target = q.target;
        residue = λ p v fixed. q.residue p v fixed ∙ same p v fixed;
      }

  -- of an item without a fault, whose subtrahend is pinned
  pub item_field : (s : ℕ) (c : SectionTable) (k : ℕ) (item : Item) (good : IsGoodItem u s c k item) → item_at u.word c.relocs k ≡ Some item
      → ((j : ℕ) → taken_reference u.word item ≡ Some (reference.Symbol j) → is_pinned u keep j ≡ true) → (at : ℕ) (F : ℤ)
      → IsField (mach_dialect w) b keep n s at (reloc_as u keep s at F item (found_as u s c k item good)) (field_with u s at (added_by u s at F (found_as u s c k item good)) (found_as u s c k item good))
  unfolding tables_of
  item_field s c k item good is pinned at F = by (taken_is u s c k item good)
    where
      r : Reference
      r = (target_entry u.word item).refers

      A : ℤ
      A = added_by u s at F (found_as u s c k item good)

      by : IsTaken u item (option_and_then (target_in u) (taken_entry u.word item)) → IsGiven s at good.row good.aim r A (option_and_then (target_in u) (taken_entry u.word item))
      by (Nothing none left) = subst (IsGiven s at good.row good.aim r A) (sym none) (alone s at good.row good.aim r good.aimed A)
      by (Something x taken m some) =
          let second = reference_second u.word item x taken in
          let first = second_first u.word c.relocs k item second.0 is second.1 in
          let takes = first_takes u.word item.first good.row good.listed first in
          subst (IsGiven s at good.row good.aim r A) (sym some)
          (paired s at good.row good.aim r good.aimed A takes x m (λ j same. pinned j (taken ∙ ap (λ (y : Reference). Some y) same)))
