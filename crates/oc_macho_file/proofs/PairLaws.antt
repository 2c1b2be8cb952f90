-- The pairs of a canonical file are the differences of the object that is seen.
use Rattle.std.proofs.Common.{◌≡◌, ℕ, ◌+◌, ◌%◌, ◌<◌, Bool, true, false, ◌&&◌, ◌||◌, cond, eqb, ℤ, List, Option, Some, None, refl, sym, ◌∙◌, ap, subst, inr, arith, neg_ℤ}
use Rattle.std.specs.{Prelude.{◌+ℤ◌, ◌-ℤ◌, slice_get, pos, is_some}, Option.{option_map_or, option_and_then, unwrap_or}}
use Rattle.std.proofs.lemmas.{Bool.{true≢false, eq-eqb, ne_eqb}, Int.{ints}, Option.{none-some, same_Some}}
use Rattle.oc_base.specs.{declared.format.Word.{Word}, declared.format.Word.TheVariants.{W32, W64}}
use Rattle.oc_linking.specs.declared.terms.Base.TheVariants as base
use Rattle.oc_linking.specs.{declared.terms.Binding.{Binding}, declared.terms.Binding.TheVariants.{Local, Global, Undefined, Common, Weak}}
use Rattle.oc_linking.specs.{declared.terms.Less.{Less}, Keeping.{all}, Numbers.{modulus, minus, reduced}, Placing.{Placement}, Values.{Valuation}}
use Rattle.oc_linking.specs.declared.terms.Value.TheVariants as value
use Rattle.oc_linking.specs.declared.terms.Less.TheVariants as less
use Rattle.oc_algebra.specs.Residues.{residue_of, reduced_number}
use Rattle.oc_algebra.proofs.Laws.{residue_add, residue_nat, residue_reduced}
use Rattle.oc_neutral.specs.{declared.section.Section.{Section}, declared.symbol.Symbol.{Symbol}, declared.reloc.Reloc.{Reloc}, declared.reloc.Target.{Target}}
use Rattle.oc_neutral.specs.{Dialects.{Dialect, target_by, less_in}, Mach.Relocs.{MachRow}, Faces.{shown_symbols}}
use Rattle.oc_neutral.specs.{Normal.{Place, cancels, takes_section, at_section, moved_addend}, Objects.{Object, reloc_at}}
use Rattle.oc_neutral.specs.Rows.{Taken, TakesZero, TakesPlace, TakesGotBase, TakesImageBase, TakesHome, TakesSection, same_taken, taken_of, shift_of}
use Rattle.oc_neutral.specs.{Worth.{base_of, target_worth}, Invariants.{IsThere, IsLessThere}, KeySymbols.{global_place}}
use Rattle.oc_neutral.specs.{Mach.SelfReferences.{is_section, is_long_distance}, Stored.{is_stored}, TargetRelocations.{fixed_end, global_section, is_symbol}}
use Rattle.oc_neutral.specs.declared.reloc.Target.TheVariants as target
use Rattle.oc_shows.specs.{Manners.{mach_manner, mach_hint, is_of_section, mach_by_section}, Seen.{place_at, target_place, section_place, seen_target}}
use Rattle.oc_neutral.specs.Rows as rows
use Rattle.oc_neutral.specs.Worth as worth
use Rattle.oc_macho.specs.{MachHeader.{mach_format}, Tables.{SectionTable, Tables}, Aims.{Aim, section_aim, aim_in}}
use Rattle.oc_macho.specs.{Fields.{FieldParts, added_by, number_of, field_with, field_of}, Rules.{mach_dialect}}
use Rattle.oc_macho.specs.Sections as read
use Rattle.oc_macho_file.specs.{Addresses.{address_of}, Lines.{numbered_lines, own_number}}
use Rattle.oc_macho_file.specs.{Bodies.{WrittenReloc, taken_section, alone_shift, pair_shift, field_shift, reference_to}, Canonical.{mach_file}}
use Rattle.oc_macho_file.specs.Bodies.{end_address, end_section_address}
use Rattle.oc_macho_file.proofs.{TableLaws.{made_table, made_tables}, CodedLaws.{IsForMach, placed_there}, RowLaws.{counted_behind}}
use Rattle.oc_macho_file.proofs.{EntryLaws.{mach_reloc, meets, entry, row_is, known, standing}, SeenLaws.{shown, again}, TargetLaws.{IsAimedAt}}
use Rattle.oc_macho_file.proofs.{FieldLaws.{number, found_long, found_short}, AgainLaws.{placed_dialect}, NameLaws.{needed_low}}
use Rattle.oc_macho_file.proofs.{RowLaws.{IsPairRow, IsDifferenceRow}, EntryLaws.{pair_second}, PinLaws.{IsTakenSection, Another, Own, taken_is, taken_needed}}
use Rattle.oc_macho_file.proofs.{AimLaws.{own_aimed, address_aimed}, TargetLaws.{section_target}}
use Rattle.oc_macho_file.proofs.GivenLaws.{pair_value, own_value, one_of_two, q, IsGivenField, residue_held, number_is, seen_as, seen_at, conclude}
use Rattle.oc_neutral.proofs.Positions.{there_at}
use Rattle.oc_macho.specs.declared.relocation_info.Reference.TheVariants as reference

less_more : (N : ℤ) → N +ℤ neg_ℤ (pos 0) ≡ N -ℤ pos 0 +ℤ pos 0
less_more N = omega (arith, ints)

own_more : (N : ℤ) (at : ℕ) → N +ℤ pos at ≡ N -ℤ pos 0 +ℤ pos 0 +ℤ pos at
own_more N at = omega (arith, ints)

symbol_more : (N : ℤ) (i j offset : ℕ) → N +ℤ (pos j -ℤ pos (i + offset)) +ℤ pos offset ≡ N -ℤ pos i +ℤ pos j
symbol_more N i j offset = omega (arith, ints)

nothing_more : (a : ℤ) → a ≡ a +ℤ pos 0
nothing_more a = omega (arith, ints)

eqb-sym : (i j : ℕ) → eqb i j ≡ false → eqb j i ≡ false
eqb-sym i j e = ne_eqb j i (λ same. true≢false (sym (eq-eqb i j (sym same)) ∙ e))

-- the place of a Global in a section
pub end_placed : (b : Binding) (end : ℕ) → global_section b ≡ Some end → (place : Place) × (global_place b ≡ Some place) × (place.0 ≡ end)
end_placed (Local v) end h = absurd (none-some end h)
end_placed (Global (value.Place k offset)) end h = ((k, offset), refl, same_Some k end h)
end_placed (Global (value.Absolute a)) end h = absurd (none-some end h)
end_placed Undefined end h = absurd (none-some end h)
end_placed (Common size align) end h = absurd (none-some end h)
end_placed (Weak f) end h = absurd (none-some end h)

module _ (w : Word) (n : Object) (is : IsForMach w n) (symbols : (mach_dialect w).rules.symbols (mach_file w n) all ≡ shown_symbols (again w n)) where
  abbrev t : Tables
  t = made_tables w n

  abbrev h : Dialect
  h = placed_dialect (mach_dialect w)

  module _ (k : ℕ) (s : Section) (here : slice_get n.sections k ≡ Some s) (at : ℕ) (r : Reloc) (there : reloc_at n k at ≡ Some r) where
    abbrev rel : WrittenReloc
    rel = standing w n is k at r there

    abbrev m : MachRow
    m = entry w n is k at r there

    abbrev num : ℤ
    num = number w n is k s here at r there

    abbrev table : SectionTable
    table = made_table w n (k, s)

    abbrev again_symbols : List Symbol
    again_symbols = (again w n).symbols

    module _ (pair : IsPairRow w m) (takes : m.row.taken ≡ TakesSection) (difference : IsDifferenceRow w m) where
      second : rel.row.second ≡ Some (pair_second w m pair).0
      second = sym (row_is w n is k at r there (λ y. y.second)) ∙ (pair_second w m pair).1

      address : m.row.base ≡ base.Address
      address = by w difference
        where
          by : (v : Word) → IsDifferenceRow v m → m.row.base ≡ base.Address
          by v d = grind arith

      base_is : r.form.base ≡ base.Address
      base_is = sym (meets w n is k at r there).is.base ∙ sym (row_is w n is k at r there (λ y. y.base)) ∙ address

      none_behind : m.row.behind ≡ 0
      none_behind = by w (known w n is k at r there).behind
        where
          by : (v : Word) → counted_behind v m ≡ 0 → m.row.behind ≡ 0
          by v h = grind arith

      -- ... what is found

      module _ (aim : Aim) (j : ℕ) (counted : Option ℕ) where
        abbrev pub found_pair : FieldParts
        found_pair = record { row = m; target = aim; taken = Some (section_aim t j counted) }

        added_is : added_by t k at (number_of table at found_pair) found_pair ≡ num -ℤ pos (unwrap_or aim.counted 0) +ℤ pos (unwrap_or counted 0)
        unfolding added_by
        added_is =
            ap (λ y. number_of table at found_pair -ℤ pos (unwrap_or aim.counted 0) +ℤ pos (back y)) takes
            ∙ ap (λ i. i -ℤ pos (unwrap_or aim.counted 0) +ℤ pos (unwrap_or counted 0)) (number_is w n is symbols k s here at r there)
          where
            back : Taken → ℕ
            back y = elim y [
              | TakesZero ↦ 0
              | TakesPlace ↦ cond (m.by_move || is_some aim.counted) (read.address_of t (k + 1) + at + m.row.behind) 0
              | TakesGotBase ↦ 0
              | TakesImageBase ↦ 0
              | TakesHome ↦ 0
              | TakesSection ↦ unwrap_or counted 0
            ]

        residue_is : (a : ℤ) (p : Placement) (v : Valuation) → (field_with t k at a found_pair).residue p v
            ≡ minus w (base_of p (aim.target.worth p v) m.row.base + residue_of w a) (reduced w ((p.site j).address + 0) + 0)
        unfolding made_tables
        residue_is a p v = simp (none_behind, one_of_two)

        less_is : (field_with t k at num found_pair).less ≡ less.Section j
        less_is = ap (λ y. rows.less_of y j) takes

      -- ... x86-64

      module _ (long : w ≡ W64) (aim : Aim) (aimed : aim_in t (reference_to W64 (numbered_lines w n) r.target) ≡ Some (Some aim)) (none : aim.counted ≡ None)
          (is_aim : IsAimedAt w h (mach_file w n) (again w n) (seen_target (shown w n) r.target) aim.target)
          (varied : (i : ℕ) → target_by aim.target.named ≡ target.Section i → r.target ≡ target.Section i) where
        none_seen : section_place (mach_manner w) n r ≡ None
        none_seen = ap (λ u. cond (mach_by_section u r.form.less) (target_place n r.form.less r.target) None) long

        -- no placement changes it only where a section is taken from itself
        varies_by : (j : ℕ) → ((i : ℕ) → r.target ≡ target.Section i → eqb i j ≡ false) → cancels m.row.base (target_by aim.target.named) (less.Section j) ≡ false
        varies_by j apart = by (target_by aim.target.named) refl
          where
            by : (y : Target) → target_by aim.target.named ≡ y → cancels m.row.base y (less.Section j) ≡ false
            by y e = grind arith

        with_taken : (j : ℕ) → taken_section rel ≡ j → IsTakenSection w n is k at r there
            → r.form.less ≡ less_in k (less.Section j)
            → ((p : Placement) (v : Valuation) (Bt Bu : ℕ) → Bu % modulus w ≡ Bt % modulus w
            → minus w (Bt + residue_of w (reduced_number w r.addend)) (worth.less_of p k at (target_worth again_symbols p v (seen_target (shown w n) r.target)) r.form.less)
            ≡ minus w (Bu + residue_of w (num -ℤ pos 0 +ℤ pos 0)) (reduced w ((p.site j).address + 0) + 0))
            → ((i : ℕ) → r.target ≡ target.Section i → eqb i j ≡ false) → IsGivenField w n is symbols k s here at r there
        unfolding field_of
        with_taken j at_section taken is_less values apart =
            let needed = taken_needed w n is k at r there long taken in
            let y = there_at n.sections (taken_section rel) (needed_low n needed.0 (taken_section rel) needed.1) in
            let owns : aim_in t (reference.Symbol (own_number (numbered_lines w n) (taken_section rel))) ≡ Some (Some (section_aim t j None))
            = own_aimed w n is long (taken_section rel) y.0 y.1 needed ∙ ap (λ i. Some (Some (section_aim t i None))) at_section in
            let f : FieldParts = found_pair aim j None in
            let a : added_by t k at (number_of table at f) f ≡ num -ℤ pos 0 +ℤ pos 0 = added_is aim j None ∙ ap (λ o. num -ℤ pos (unwrap_or o 0) +ℤ pos 0) none in
            conclude w n is symbols k s here at r there f
            (found_long w n is k s here at r there long (pair_second w m pair).0 second aim (section_aim t j None) aimed owns) refl
            (seen_target (shown w n) r.target) (reduced_number w r.addend) (seen_as w n is symbols k s here at r there none_seen) is_aim
            (is_less ∙ ap (less_in k) (sym (ap (λ y. rows.less_of y j) takes)))
            (λ p v Bt same.
            values p v Bt (base_of p (aim.target.worth p v) m.row.base) same
            ∙ ap (λ z. minus w (base_of p (aim.target.worth p v) m.row.base + residue_of w z) (reduced w ((p.site j).address + 0) + 0)) (sym a)
            ∙ sym (residue_is aim j None (added_by t k at (number_of table at f) f) p v))
            (ap (cancels m.row.base (target_by aim.target.named)) (ap (λ y. rows.less_of y j) takes) ∙ varies_by j apart)
            (inr (j, None, refl))

        pub given_long : IsGivenField w n is symbols k s here at r there
        given_long = by (taken_is w n is k at r there takes difference)
          where
            lost : (l : Less) → Placement → Valuation → ℕ
            lost l p v = worth.less_of p k at (target_worth again_symbols p v (seen_target (shown w n) r.target)) l

            shift_is : field_shift w n rel ≡ cond (same_taken (taken_of r.form.less) TakesPlace) (pos at) (neg_ℤ (pos 0))
            shift_is =
                ap (λ u. field_shift u n rel) long
                ∙ ap (λ y. cond (same_taken y TakesSection && same_taken (taken_of r.form.less) TakesPlace) (pos at) (shift_of rel.row)) (sym (row_is w n is k at r there (λ y. y.taken)) ∙ takes)
                ∙ ap (λ b. cond (same_taken (taken_of r.form.less) TakesPlace) (pos at) (neg_ℤ (pos b))) (sym (row_is w n is k at r there (λ y. y.behind)) ∙ none_behind)

            held_as : (i : ℤ) → field_shift w n rel ≡ i → residue_of w (reduced_number w r.addend) ≡ residue_of w (num +ℤ i)
            held_as i e = residue_reduced w r.addend ∙ sym (residue_held w n is symbols k s here at r there) ∙ ap (λ z. residue_of w (num +ℤ z)) e

            placed : takes_section k r.form.less ≡ false
            placed = (meets w n is k at r there).normal.placed

            by : IsTakenSection w n is k at r there → IsGivenField w n is symbols k s here at r there
            by (Another j l at_section) =
                let shift : field_shift w n rel ≡ neg_ℤ (pos 0) = shift_is ∙ ap (λ z. cond (same_taken (taken_of z) TakesPlace) (pos at) (neg_ℤ (pos 0))) l in
                let residue : residue_of w (reduced_number w r.addend) ≡ residue_of w (num -ℤ pos 0 +ℤ pos 0) = held_as (neg_ℤ (pos 0)) shift ∙ ap (residue_of w) (less_more num) in
                with_taken j at_section (Another j l at_section)
                (l ∙ sym (ap (λ b. cond b less.Place (less.Section j)) (ap (takes_section k) (sym l) ∙ placed)))
                (λ p v Bt Bu same.
                ap (λ z. minus w (Bt + residue_of w (reduced_number w r.addend)) (lost z p v)) l
                ∙ pair_value w Bt Bu (residue_of w (num -ℤ pos 0 +ℤ pos 0)) (residue_of w (reduced_number w r.addend)) (p.site j).address same residue)
                (λ i to. sym (ap (λ y. cancels r.form.base y r.form.less) to ∙ ap (λ z. cancels r.form.base (target.Section i) z) l ∙ ap (λ b. cancels b (target.Section i) (less.Section j)) base_is)
                ∙ (meets w n is k at r there).normal.varies)
            by (Own e l far at_section) =
                let shift : field_shift w n rel ≡ pos at = shift_is ∙ ap (λ z. cond (same_taken (taken_of z) TakesPlace) (pos at) (neg_ℤ (pos 0))) l in
                let ra : ℕ = residue_of w (num -ℤ pos 0 +ℤ pos 0) in
                let residue : residue_of w (reduced_number w r.addend) ≡ (ra + at % modulus w) % modulus w
                = held_as (pos at) shift ∙ ap (residue_of w) (own_more num at) ∙ residue_add w (num -ℤ pos 0 +ℤ pos 0) (pos at) ∙ ap (λ z. (ra + z) % modulus w) (residue_nat w at) in
                with_taken k at_section (Own e l far at_section)
                (l ∙ sym (ap (λ b. cond b less.Place (less.Section k)) (eq-eqb k k refl)))
                (λ p v Bt Bu same.
                ap (λ z. minus w (Bt + residue_of w (reduced_number w r.addend)) (lost z p v)) l
                ∙ own_value w Bt Bu ra (residue_of w (reduced_number w r.addend)) (p.site k).address at same residue)
                (λ i to. sym (ap (λ b. b && is_section k r.target) far ∙ ap (is_section k) to) ∙ stays)
              where
                stays : (is_long_distance r.form && is_section k r.target) ≡ false
                stays = sym (ap (λ u. is_stored (mach_format u) k r) long) ∙ (meets w n is k at r there).stays

      -- ... i386

      module _ (short : w ≡ W32) where
        with_end : (j : ℕ) → r.form.less ≡ less.Section j → taken_section rel ≡ j → (z : Section) → slice_get n.sections j ≡ Some z → 0 < z.size
            → (end : ℕ) (y : Section) → slice_get n.sections end ≡ Some y → 0 < y.size → end_section_address n r.target ≡ address_of n end → (A : ℤ)
            → q w n is symbols k s here at r there ≡ record { target = target.Section end; form = r.form; addend = A; hint = mach_hint w r.hint }
            → residue_of w A ≡ residue_of w (num -ℤ pos (address_of n end) +ℤ pos (address_of n j)) → eqb end j ≡ false → IsGivenField w n is symbols k s here at r there
        unfolding field_of made_tables
        with_end j l at_section z starts some end y ends more place A seen residue apart =
            let aim : Aim = section_aim t end (Some (address_of n end)) in
            let taken : Aim = section_aim t j (Some (address_of n j)) in
            let f : FieldParts = found_pair aim j (Some (address_of n j)) in
            let a = added_is aim j (Some (address_of n j)) in
            conclude w n is symbols k s here at r there f
            (found_short w n is k s here at r there short (pair_second w m pair).0 second aim taken
            (ap (λ v. aim_in t (reference.Address v)) place ∙ address_aimed w n is end y ends more)
            (ap (λ i. aim_in t (reference.Address (address_of n i))) at_section ∙ address_aimed w n is j z starts some)) refl
            (target.Section end) A seen (section_target w h (mach_file w n) (again w n) end)
            (l ∙ sym (ap (λ b. cond b less.Place (less.Section j)) (ap (takes_section k) (sym l) ∙ (meets w n is k at r there).normal.placed)) ∙ ap (less_in k) (sym (ap (λ y. rows.less_of y j) takes)))
            (λ p v Bt same.
            let Bu = base_of p (aim.target.worth p v) m.row.base in
            let ra = residue_of w (num -ℤ pos (address_of n end) +ℤ pos (address_of n j)) in
            ap (λ x. minus w (Bt + residue_of w A) (worth.less_of p k at (target_worth again_symbols p v (target.Section end)) x)) l
            ∙ pair_value w Bt Bu ra (residue_of w A) (p.site j).address same residue
            ∙ ap (λ x. minus w (Bu + residue_of w x) (reduced w ((p.site j).address + 0) + 0)) (sym a)
            ∙ sym (residue_is aim j (Some (address_of n j)) (added_by t k at (number_of table at f) f) p v))
            (ap (cancels m.row.base (target.Section end)) (ap (λ y. rows.less_of y j) takes) ∙ ap (λ b. cancels b (target.Section end) (less.Section j)) address ∙ apart)
            (inr (j, Some (address_of n j), refl))

        -- how far the addend is beyond the number in the field
        shift_is : (j : ℕ) → taken_section rel ≡ j → field_shift w n rel ≡ pos (address_of n j) -ℤ pos (end_address n r.target)
        shift_is j at_section =
            ap (λ u. field_shift u n rel) short ∙ ap (λ o. option_map_or (λ second. pair_shift n rel) o (alone_shift n rel)) second
            ∙ ap (λ i. pos (address_of n i) -ℤ pos (end_address n r.target)) at_section

        -- the addend, by the place of the target
        held_from : (j offset end : ℕ) → taken_section rel ≡ j → end_address n r.target ≡ address_of n end + offset
            → residue_of w (r.addend +ℤ pos offset) ≡ residue_of w (num -ℤ pos (address_of n end) +ℤ pos (address_of n j))
        held_from j offset end at_section place =
            let i : ℤ = pos (address_of n j) -ℤ pos (address_of n end + offset) in
            let own : residue_of w r.addend ≡ residue_of w (num +ℤ i)
            = sym (residue_held w n is symbols k s here at r there) ∙ ap (λ y. residue_of w (num +ℤ y)) (shift_is j at_section ∙ ap (λ y. pos (address_of n j) -ℤ pos y) place) in
            residue_add w r.addend (pos offset) ∙ ap (λ y. (y + residue_of w (pos offset)) % modulus w) own ∙ sym (residue_add w (num +ℤ i) (pos offset))
            ∙ ap (residue_of w) (symbol_more num (address_of n end) (address_of n j) offset)

        none_by : (j i : ℕ) → r.form.less ≡ less.Section j → r.target ≡ target.Section i → section_place (mach_manner w) n r ≡ None
        none_by j i l to =
            ap (λ y. cond (mach_by_section w r.form.less) (target_place n r.form.less y) None) to ∙ by (mach_by_section w r.form.less)
          where
            by : (b : Bool) → cond {A = Option Place} b None None ≡ None
            by b = grind arith

        some_by : (j i : ℕ) (place : Place) → r.form.less ≡ less.Section j → r.target ≡ target.Symbol i → place_at n i ≡ Some place → takes_section place.0 r.form.less ≡ false
            → section_place (mach_manner w) n r ≡ Some place
        some_by j i place l to at_place apart =
            ap (λ u. cond (mach_by_section u r.form.less) (target_place n r.form.less r.target) None) short
            ∙ ap (λ y. cond (is_of_section y) (target_place n r.form.less r.target) None) l
            ∙ ap (target_place n r.form.less) to
            ∙ ap (option_and_then (λ (place : Place). cond (takes_section place.0 r.form.less) None (Some place))) at_place
            ∙ ap (λ b. cond b None (Some place)) apart

        pub given_short : IsGivenField w n is symbols k s here at r there
        given_short = by (taken_is w n is k at r there takes difference)
          where
            is_short : Word → Bool
            is_short W32 = true
            is_short W64 = false

            to_target : (j : ℕ) → r.form.less ≡ less.Section j → taken_section rel ≡ j → (z : Section) → slice_get n.sections j ≡ Some z → 0 < z.size → (end : ℕ) → fixed_end n r.target ≡ Some end
                → ((y : Section) → slice_get n.sections end ≡ Some y → 0 < y.size) → (is_symbol r.target ≡ true → eqb end j ≡ false) → (v : Target) → r.target ≡ v → IsGivenField w n is symbols k s here at r there
            to_target j l at_section z starts some end fixed more differ (target.Section i) to =
                let same : i ≡ end = same_Some i end (sym (ap (fixed_end n) to) ∙ fixed) in
                let y = there_at n.sections i (subst (IsThere n) to (meets w n is k at r there).normal.target) in
                let place : end_address n r.target ≡ address_of n i + 0 = ap (end_address n) to in
                with_end j l at_section z starts some i y.0 y.1 (more y.0 (ap (slice_get n.sections) (sym same) ∙ y.1)) (ap (end_section_address n) to) (reduced_number w r.addend)
                (seen_as w n is symbols k s here at r there (none_by j i l to) ∙ ap (λ v. record { target = seen_target (shown w n) v; form = r.form; addend = reduced_number w r.addend; hint = mach_hint w r.hint }) to)
                (residue_reduced w r.addend ∙ ap (residue_of w) (nothing_more r.addend) ∙ held_from j 0 i at_section place)
                (sym (ap (λ v. cancels r.form.base v r.form.less) to ∙ ap (λ z. cancels r.form.base (target.Section i) z) l ∙ ap (λ b. cancels b (target.Section i) (less.Section j)) base_is)
                ∙ (meets w n is k at r there).normal.varies)
            to_target j l at_section z starts some end fixed more differ (target.Symbol i) to = with_symbol (slice_get n.symbols i) refl (sym (ap (fixed_end n) to) ∙ fixed)
              where
                with_symbol : (o : Option Symbol) → slice_get n.symbols i ≡ o → option_and_then (λ (s : Symbol). global_section s.binding) (slice_get n.symbols i) ≡ Some end → IsGivenField w n is symbols k s here at r there
                with_symbol None h e = absurd (none-some end (sym (ap (option_and_then (λ (s : Symbol). global_section s.binding)) h) ∙ e))
                with_symbol (Some u) h e =
                    let p = end_placed u.binding end (sym (ap (option_and_then (λ (s : Symbol). global_section s.binding)) h) ∙ e) in
                    let at_place : place_at n i ≡ Some p.0 = ap (option_and_then (λ (s : Symbol). global_place s.binding)) h ∙ p.1 in
                    let other : eqb p.0.0 j ≡ false = ap (λ e. eqb e j) p.2 ∙ differ (ap is_symbol to) in
                    let apart : takes_section p.0.0 r.form.less ≡ false = ap (takes_section p.0.0) l ∙ eqb-sym p.0.0 j other in
                    let y = placed_there w n is i p.0 at_place in
                    let place : end_address n r.target ≡ address_of n p.0.0 + p.0.1
                    = ap (end_address n) to ∙ ap (λ o. option_map_or (λ (place : Place). address_of n place.0 + place.1) o 0) at_place in
                    with_end j l at_section z starts some p.0.0 y.0 y.1 (more y.0 (ap (slice_get n.sections) (sym p.2) ∙ y.1))
                    (ap (end_section_address n) to ∙ ap (λ o. option_map_or (λ (place : Place). address_of n place.0) o 0) at_place)
                    (reduced_number w (moved_addend r.form.base r.addend p.0.1))
                    (seen_at w n is symbols k s here at r there p.0 (some_by j i p.0 l to at_place apart))
                    (residue_reduced w (moved_addend r.form.base r.addend p.0.1) ∙ ap (λ b. residue_of w (moved_addend b r.addend p.0.1)) base_is ∙ held_from j p.0.1 p.0.0 at_section place)
                    other

            by : IsTakenSection w n is k at r there → IsGivenField w n is symbols k s here at r there
            by (Own long l far at_section) = absurd (true≢false (ap is_short (sym short ∙ long)))
            by (Another j l at_section) =
                let d = (mach_reloc w n is k at r there).difference j (ap mach_format short) l in
                let z = there_at n.sections j (subst (IsLessThere n) l (meets w n is k at r there).normal.less) in
                to_target j l at_section z.0 z.1 (d.starts z.0 z.1) d.end d.fixed d.ends d.apart r.target refl
