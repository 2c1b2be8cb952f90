-- The fields of a canonical file are the relocations of the object that is seen: alone and in pairs, of both words.
use Rattle.std.proofs.Common.{◌≡◌, ℕ, ◌+◌, ◌%◌, Bool, true, false, ◌&&◌, ◌||◌, cond, ℤ, Option, Some, None, refl, sym, ◌∙◌, ap, subst, inl, arith, neg_ℤ}
use Rattle.std.specs.{Prelude.{◌⊎◌, ◌+ℤ◌, ◌-ℤ◌, slice_get, pos, is_some}, Option.{option_map_or, unwrap_or}}
use Rattle.std.proofs.lemmas.{Bool.{true≢false}, Int.{ints}}
use Rattle.oc_base.specs.{declared.format.Word.{Word}, declared.format.Word.TheVariants.{W32, W64}, Formats.{word_for}}
use Rattle.oc_linking.specs.{declared.terms.Base.{Base}, declared.terms.Less.{Less}, Keeping.{all}, Numbers.{modulus, minus, reduced}, Placing.{Placement}}
use Rattle.oc_linking.specs.{Rules.{Field}, Values.{Valuation}}
use Rattle.oc_linking.specs.declared.terms.Base.TheVariants as base
use Rattle.oc_linking.specs.declared.terms.Less.TheVariants as less
use Rattle.oc_algebra.specs.Residues.{residue_of, reduced_number}
use Rattle.oc_algebra.proofs.Laws.{residue_less, residue_reduced}
use Rattle.oc_neutral.specs.{declared.section.Section.{Section}, declared.reloc.Reloc.{Reloc}, declared.reloc.Target.{Target}}
use Rattle.oc_neutral.specs.{Dialects.{Dialect, is_difference, less_in}, Mach.Relocs.{MachRow}, Faces.{shown_symbols}}
use Rattle.oc_neutral.specs.{Normal.{Place, cancels, at_section, moved_addend}, Objects.{Object, reloc_at}}
use Rattle.oc_neutral.specs.Rows.{Taken, TakesZero, TakesPlace, TakesGotBase, TakesImageBase, TakesHome, TakesSection, same_taken, taken_of, shift_of}
use Rattle.oc_neutral.specs.{Shifts.{entry_target_shift}, Worth.{base_of, target_worth, residue_at}}
use Rattle.oc_neutral.specs.declared.reloc.Target.TheVariants as target
use Rattle.oc_shows.specs.{Built.{IsField}, Manners.{mach_manner, mach_hint, mach_by_section}, RowFields.{number_in}}
use Rattle.oc_shows.specs.Seen.{target_place, section_place, seen_target, seen_reloc}
use Rattle.oc_target.specs.Meets.{IsTakenBy}
use Rattle.oc_neutral.specs.Rows as rows
use Rattle.oc_neutral.specs.Worth as worth
use Rattle.oc_macho.specs.{MachHeader.{mach_format}, Tables.{SectionTable, Tables}, Entries.{taken_entry}, Aims.{Aim, section_aim, aim_in}}
use Rattle.oc_macho.specs.{Fields.{FieldParts, field_parts_by, added_by, number_of, field_with, field_of, fields_in}, Rules.{mach_dialect}}
use Rattle.oc_macho.specs.Sections as read
use Rattle.oc_macho_file.specs.{Addresses.{address_of}, Lines.{numbered_lines}}
use Rattle.oc_macho_file.specs.{Bodies.{WrittenReloc, entry_target_of, alone_shift, pair_shift, field_shift, reference_to}, Canonical.{mach_file}}
use Rattle.oc_macho_file.proofs.{TableLaws.{made_table, made_tables}, CodedLaws.{IsForMach, word_is}, RowLaws.{IsPlain, moves_own, counted_behind}}
use Rattle.oc_macho_file.proofs.{EntryLaws.{meets, row, entry, row_is, known, standing}, SectionLaws.{address_made, contents_made}, SeenLaws.{shown, again}}
use Rattle.oc_macho_file.proofs.{TargetLaws.{IsAimedAt}, FieldLaws.{own_item, field_there, number, held, found_alone, taken_alone}}
use Rattle.oc_macho_file.proofs.AgainLaws.{placed_field, placed_dialect}

-- ... numbers, by word

lone_value : (w : Word) (Bt Bu ra rA L b : ℕ) → Bu % modulus w ≡ Bt % modulus w → rA ≡ minus w ra b → minus w (Bt + rA) L ≡ minus w (Bu + ra) (L + b)
lone_value W32 Bt Bu ra rA L b e h = omega (arith, e, h)
lone_value W64 Bt Bu ra rA L b e h = omega (arith, e, h)

pub pair_value : (w : Word) (Bt Bu ra rA L : ℕ) → Bu % modulus w ≡ Bt % modulus w → rA ≡ ra → minus w (Bt + rA) L ≡ minus w (Bu + ra) (reduced w (L + 0) + 0)
pair_value W32 Bt Bu ra rA L e h = omega (arith, e, h)
pair_value W64 Bt Bu ra rA L e h = omega (arith, e, h)

pub own_value : (w : Word) (Bt Bu ra rA L at : ℕ) → Bu % modulus w ≡ Bt % modulus w → rA ≡ (ra + at % modulus w) % modulus w → minus w (Bt + rA) (L + at) ≡ minus w (Bu + ra) (reduced w (L + 0) + 0)
own_value W32 Bt Bu ra rA L at e h = omega (arith, e, h)
own_value W64 Bt Bu ra rA L at e h = omega (arith, e, h)

plain_shift : (N : ℤ) (b : ℕ) → N +ℤ neg_ℤ (pos b) ≡ N -ℤ pos 0 +ℤ pos 0 -ℤ pos b
plain_shift N b = omega (arith, ints)

counted_shift : (N : ℤ) (from : ℕ) → N +ℤ (pos 0 +ℤ neg_ℤ (pos from)) ≡ N -ℤ pos from +ℤ pos 0 -ℤ pos 0
counted_shift N from = omega (arith, ints)

placed_shift : (N : ℤ) (o from : ℕ) → N +ℤ (pos o +ℤ neg_ℤ (pos from)) ≡ N -ℤ pos from +ℤ pos (o + 0) -ℤ pos 0
placed_shift N o from = omega (arith, ints)

pub one_of_two : (b : Bool) (x : ℕ) → cond b x x ≡ x
one_of_two b x = grind arith

no_zero : (b : Base) (t : Target) → cancels b t less.Zero ≡ false
no_zero b t = grind arith

-- what is taken where no section is: nothing, or the place
pub data IsLone (t : Taken) (l : Less) : Type 0 where
  Nothing : t ≡ TakesZero → l ≡ less.Zero → IsLone t l
  ThePlace : t ≡ TakesPlace → l ≡ less.Place → IsLone t l

less_zero : (l : Less) → TakesZero ≡ taken_of l → l ≡ less.Zero
less_zero l e = grind arith

less_place : (l : Less) → TakesPlace ≡ taken_of l → l ≡ less.Place
less_place l e = grind arith

module _ (w : Word) (n : Object) (is : IsForMach w n) (symbols : (mach_dialect w).rules.symbols (mach_file w n) all ≡ shown_symbols (again w n)) where
  abbrev t : Tables
  t = made_tables w n

  -- Mach-O, with what is taken as its place
  abbrev pub g : Dialect
  g = placed_dialect (mach_dialect w)

  module _ (k : ℕ) (s : Section) (here : slice_get n.sections k ≡ Some s) (at : ℕ) (r : Reloc) (there : reloc_at n k at ≡ Some r) where
    abbrev pub x : WrittenReloc
    x = standing w n is k at r there

    abbrev pub e : MachRow
    e = entry w n is k at r there

    abbrev pub c : SectionTable
    c = made_table w n (k, s)

    abbrev pub N : ℤ
    N = number w n is k s here at r there

    -- the relocation that is seen
    abbrev pub q : Reloc
    q = seen_reloc (mach_manner w) n (shown w n) r

    -- what a field takes is the address of a section, or it is no pair
    abbrev pub IsTaking : FieldParts → Type 0
    IsTaking f = (taken_entry w (own_item w n is k s here at r there) ≡ None) ⊎ ((j : ℕ) × (counted : Option ℕ) × (f.taken ≡ Some (section_aim t j counted)))

    -- the field of the relocation is the one that is seen
    pub record IsGivenField : Type 0 where
      pub field : Field
      pub field_here : fields_in t k at ≡ Some field
      pub field_is : IsField g (mach_file w n) all (again w n) k at q (placed_field k field)
      pub varies : is_difference field ≡ false
      -- how it is found, and that what it takes is a section, or nothing
      pub how : FieldParts
      pub how_is : field_parts_by t (own_item w n is k s here at r there) ≡ Some how
      pub is_how : field ≡ field_of t k at c how
      pub takes : IsTaking how

    -- ... addends

    pub residue_held : residue_of w (N +ℤ field_shift w n x) ≡ residue_of w r.addend
    residue_held = sym (residue_reduced w (N +ℤ field_shift w n x)) ∙ ap (residue_of w) (held w n is k s here at r there) ∙ residue_reduced w r.addend

    pub number_is : number_of c at (record { row = e; target = section_aim t 0 None; taken = None }) ≡ N
    number_is = ap (λ cs. number_in e.row cs at) (contents_made w n is k s)

    -- ... what is seen

    pub seen_as : section_place (mach_manner w) n r ≡ None → q ≡ record { target = seen_target (shown w n) r.target; form = r.form; addend = reduced_number w r.addend; hint = mach_hint w r.hint }
    seen_as none =
        ap (λ o. shown_as (at_section (word_for n.format) r o)) none
        ∙ ap (λ v. record { target = seen_target (shown w n) r.target; form = r.form; addend = reduced_number v r.addend; hint = mach_hint w r.hint }) (word_is w n is)
      where
        shown_as : Reloc → Reloc
        shown_as y = record { target = seen_target (shown w n) y.target; form = y.form; addend = y.addend; hint = mach_hint w y.hint }

    pub seen_at : (place : Place) → section_place (mach_manner w) n r ≡ Some place
        → q ≡ record { target = target.Section place.0; form = r.form; addend = reduced_number w (moved_addend r.form.base r.addend place.1); hint = mach_hint w r.hint }
    seen_at place some =
        ap (λ o. shown_as (at_section (word_for n.format) r o)) some
        ∙ ap (λ v. record { target = target.Section place.0; form = r.form; addend = reduced_number v (moved_addend r.form.base r.addend place.1); hint = mach_hint w r.hint }) (word_is w n is)
      where
        shown_as : Reloc → Reloc
        shown_as y = record { target = seen_target (shown w n) y.target; form = y.form; addend = y.addend; hint = mach_hint w y.hint }

    hint_is : mach_hint w r.hint ≡ e.row.hint
    hint_is = by w refl
      where
        moved : e.row.hint ≡ (row w n is k at r there).hint
        moved = row_is w n is k at r there (λ y. y.hint)

        by : (v : Word) → w ≡ v → mach_hint w r.hint ≡ e.row.hint
        by x v = grind arith

    -- what is found, with its residue
    pub conclude : (f : FieldParts) → field_parts_by t (own_item w n is k s here at r there) ≡ Some f → f.row ≡ e → (u : Target) (A : ℤ)
        → q ≡ record { target = u; form = r.form; addend = A; hint = mach_hint w r.hint }
        → IsAimedAt w g (mach_file w n) (again w n) u f.target.target
        → r.form.less ≡ less_in k (field_of t k at c f).less
        → ((p : Placement) (v : Valuation) (Bt : ℕ) → base_of p (f.target.target.worth p v) e.row.base % modulus w ≡ Bt % modulus w
        → minus w (Bt + residue_of w A) (worth.less_of p k at (target_worth (again w n).symbols p v u) r.form.less) ≡ (field_of t k at c f).residue p v)
        → is_difference (field_of t k at c f) ≡ false → IsTaking f → IsGivenField
    unfolding field_of residue_at
    conclude f found own u A seen aimed taken values varies takes =
        let m = meets w n is k at r there in
        record {
          field = field_of t k at c f;
          field_here = field_there w n is k s here at r there f found;
          field_is = subst (λ z. IsField g (mach_file w n) all (again w n) k at z (placed_field k (field_of t k at c f))) (sym seen) (record {
            width = sym m.is.width ∙ sym (row_is w n is k at r there (λ y. y.width)) ∙ ap (λ (y : MachRow). y.row.width) (sym own);
            check = sym m.is.check ∙ sym (row_is w n is k at r there (λ y. y.check)) ∙ ap (λ (y : MachRow). y.row.check) (sym own);
            base = sym m.is.base ∙ sym (row_is w n is k at r there (λ y. y.base)) ∙ ap (λ (y : MachRow). y.row.base) (sym own);
            less = taken;
            hint = hint_is ∙ ap (λ (y : MachRow). y.row.hint) (sym own);
            target = aimed.named;
            residue = λ p v fixed.
                ap (λ b. minus w (base_of p (target_worth (again w n).symbols p v u) b + residue_of w A) (worth.less_of p k at (target_worth (again w n).symbols p v u) r.form.less))
                (sym m.is.base ∙ sym (row_is w n is k at r there (λ y. y.base)))
                ∙ values p v (base_of p (target_worth (again w n).symbols p v u) e.row.base) (aimed.bases p v fixed e.row.base);
          });
          varies = varies;
          how = f;
          how_is = found;
          is_how = refl;
          takes = takes;
        }

    -- ... an entry that stands alone

    pub lone_is : IsPlain e.row.taken → same_taken e.row.taken TakesSection ≡ false → IsLone e.row.taken r.form.less
    lone_is plain lacks = by (meets w n is k at r there).is.taken plain
      where
        moved : e.row.taken ≡ (row w n is k at r there).taken
        moved = row_is w n is k at r there (λ y. y.taken)

        by : IsTakenBy (mach_format w) r.form.less (row w n is k at r there).taken → IsPlain e.row.taken → IsLone e.row.taken r.form.less
        by x plain = grind arith

    none_lone : IsLone e.row.taken r.form.less → section_place (mach_manner w) n r ≡ None
    none_lone lone = by lone
      where
        at_less : Less → Option Place
        at_less l = cond (mach_by_section w l) (target_place n l r.target) None

        zero_not : (v : Word) → mach_by_section v less.Zero ≡ false
        zero_not v = grind arith

        place_not : (v : Word) → mach_by_section v less.Place ≡ false
        place_not v = grind arith

        by : IsLone e.row.taken r.form.less → section_place (mach_manner w) n r ≡ None
        by x = grind arith

    -- how the entry counts: in x86-64 from nothing, in i386 from the address of a section
    pub data IsCounting (aim : Aim) : Type 0 where
      Long : w ≡ W64 → aim.counted ≡ None → IsCounting aim
      Short : w ≡ W32 → (from : ℕ) → unwrap_or aim.counted 0 ≡ from → entry_target_shift (entry_target_of n r.target) ≡ neg_ℤ (pos from) → IsCounting aim

    module _ (aim : Aim) where
      abbrev alone : FieldParts
      alone = record { row = e; target = aim; taken = None }

      -- the number that is added
      abbrev a : ℤ
      a = added_by t k at N alone

      added_zero : e.row.taken ≡ TakesZero → a ≡ N -ℤ pos (unwrap_or aim.counted 0) +ℤ pos 0
      unfolding added_by
      added_zero z = ap (λ y. N -ℤ pos (unwrap_or aim.counted 0) +ℤ pos (back y)) z
        where
          back : Taken → ℕ
          back y = elim y [
            | TakesZero ↦ 0
            | TakesPlace ↦ cond (e.by_move || is_some aim.counted) (read.address_of t (k + 1) + at + e.row.behind) 0
            | TakesGotBase ↦ 0
            | TakesImageBase ↦ 0
            | TakesHome ↦ 0
            | TakesSection ↦ 0
          ]

      added_place : e.row.taken ≡ TakesPlace → a ≡ N -ℤ pos (unwrap_or aim.counted 0) +ℤ pos (cond (e.by_move || is_some aim.counted) (address_of n k + at + e.row.behind) 0)
      unfolding added_by
      added_place z =
          ap (λ y. N -ℤ pos (unwrap_or aim.counted 0) +ℤ pos (back y)) z
          ∙ ap (λ o. N -ℤ pos (unwrap_or aim.counted 0) +ℤ pos (cond (e.by_move || is_some aim.counted) (o + at + e.row.behind) 0)) (address_made w n k s here)
        where
          back : Taken → ℕ
          back y = elim y [
            | TakesZero ↦ 0
            | TakesPlace ↦ cond (e.by_move || is_some aim.counted) (read.address_of t (k + 1) + at + e.row.behind) 0
            | TakesGotBase ↦ 0
            | TakesImageBase ↦ 0
            | TakesHome ↦ 0
            | TakesSection ↦ 0
          ]

      -- the shift is what the number that is added has beyond the field's, less the bytes from behind which it is counted
      shift_is : IsLone e.row.taken r.form.less → x.row.second ≡ None → IsCounting aim → N +ℤ field_shift w n x ≡ a -ℤ pos e.row.behind
      shift_is lone second (Long v none) = ap (λ i. N +ℤ i) shifted ∙ by lone
        where
          lacks : same_taken x.row.taken TakesSection ≡ false
          lacks = lack lone
            where
              lack : IsLone e.row.taken r.form.less → same_taken x.row.taken TakesSection ≡ false
              lack x = grind arith

          shifted : field_shift w n x ≡ neg_ℤ (pos e.row.behind)
          shifted =
              ap (λ u. field_shift u n x) v
              ∙ ap (λ b. cond (b && same_taken (taken_of r.form.less) TakesPlace) (pos at) (shift_of x.row)) lacks
              ∙ ap (λ b. neg_ℤ (pos b)) (sym (row_is w n is k at r there (λ y. y.behind)))

          by : IsLone e.row.taken r.form.less → N +ℤ neg_ℤ (pos e.row.behind) ≡ a -ℤ pos e.row.behind
          by (Nothing z l) =
              let own : a ≡ N -ℤ pos 0 +ℤ pos 0 = added_zero z ∙ ap (λ o. N -ℤ pos (unwrap_or o 0) +ℤ pos 0) none in
              plain_shift N e.row.behind ∙ ap (λ i. i -ℤ pos e.row.behind) (sym own)
          by (ThePlace z l) =
              let still : e.by_move ≡ false = (known w n is k at r there).moves ∙ ap (λ u. moves_own u e) v in
              let own : a ≡ N -ℤ pos 0 +ℤ pos 0
              = added_place z ∙ ap (λ o. N -ℤ pos (unwrap_or o 0) +ℤ pos (cond (e.by_move || is_some o) (address_of n k + at + e.row.behind) 0)) none
              ∙ ap (λ b. N -ℤ pos 0 +ℤ pos (cond (b || false) (address_of n k + at + e.row.behind) 0)) still in
              plain_shift N e.row.behind ∙ ap (λ i. i -ℤ pos e.row.behind) (sym own)
      shift_is lone second (Short v from counted said) = ap (λ i. N +ℤ i) shifted ∙ by lone
        where
          none : e.row.behind ≡ 0
          none = sym (ap (λ u. counted_behind u e) v) ∙ (known w n is k at r there).behind

          own_part : Taken → ℤ
          own_part y = cond (same_taken y TakesPlace) (pos (address_of n k + at)) (pos 0)

          shifted : field_shift w n x ≡ own_part e.row.taken +ℤ neg_ℤ (pos from)
          shifted =
              ap (λ u. field_shift u n x) v
              ∙ ap (λ o. option_map_or (λ second. pair_shift n x) o (alone_shift n x)) second
              ∙ ap (λ y. own_part y +ℤ entry_target_shift (entry_target_of n r.target)) (sym (row_is w n is k at r there (λ y. y.taken)))
              ∙ ap (λ i. own_part e.row.taken +ℤ i) said

          by : IsLone e.row.taken r.form.less → N +ℤ (own_part e.row.taken +ℤ neg_ℤ (pos from)) ≡ a -ℤ pos e.row.behind
          by (Nothing z l) =
              let own : a ≡ N -ℤ pos from +ℤ pos 0 = added_zero z ∙ ap (λ m. N -ℤ pos m +ℤ pos 0) counted in
              ap (λ y. N +ℤ (own_part y +ℤ neg_ℤ (pos from))) z ∙ counted_shift N from ∙ ap (λ i. i -ℤ pos 0) (sym own) ∙ ap (λ b. a -ℤ pos b) (sym none)
          by (ThePlace z l) =
              let moves : e.by_move ≡ true = (known w n is k at r there).moves ∙ ap (λ u. moves_own u e) v ∙ ap (λ y. same_taken y TakesPlace) z in
              let own : a ≡ N -ℤ pos from +ℤ pos (address_of n k + at + 0)
              = added_place z ∙ ap (λ m. N -ℤ pos m +ℤ pos (cond (e.by_move || is_some aim.counted) (address_of n k + at + e.row.behind) 0)) counted
              ∙ ap (λ b. N -ℤ pos from +ℤ pos (cond (b || is_some aim.counted) (address_of n k + at + e.row.behind) 0)) moves
              ∙ ap (λ b. N -ℤ pos from +ℤ pos (address_of n k + at + b)) none in
              ap (λ y. N +ℤ (own_part y +ℤ neg_ℤ (pos from))) z ∙ placed_shift N (address_of n k + at) from ∙ ap (λ i. i -ℤ pos 0) (sym own) ∙ ap (λ b. a -ℤ pos b) (sym none)

      pub given_alone : IsLone e.row.taken r.form.less → x.row.second ≡ None → IsCounting aim → aim_in t (reference_to w (numbered_lines w n) r.target) ≡ Some (Some aim)
          → IsAimedAt w g (mach_file w n) (again w n) (seen_target (shown w n) r.target) aim.target → IsGivenField
      unfolding field_of made_tables
      given_alone lone second counting aimed is_aim =
          conclude alone (found_alone w n is k s here at r there second aim aimed) refl (seen_target (shown w n) r.target) (reduced_number w r.addend) (seen_as (none_lone lone)) is_aim (less_is lone)
          (λ p v Bt e. value lone p v Bt e) (varied lone) (inl (taken_alone w n is k s here at r there second))
        where
          less_is : IsLone e.row.taken r.form.less → r.form.less ≡ less_in k (rows.less_of e.row.taken 0)
          less_is x = grind arith

          residue_is : residue_of w (reduced_number w r.addend) ≡ minus w (residue_of w (added_by t k at (number_of c at alone) alone)) e.row.behind
          residue_is =
              residue_reduced w r.addend ∙ sym residue_held ∙ ap (residue_of w) (shift_is lone second counting) ∙ residue_less w a e.row.behind
              ∙ ap (λ m. minus w (residue_of w (added_by t k at m alone)) e.row.behind) (sym number_is)

          value : IsLone e.row.taken r.form.less → (p : Placement) (v : Valuation) (Bt : ℕ) → base_of p (aim.target.worth p v) e.row.base % modulus w ≡ Bt % modulus w
              → minus w (Bt + residue_of w (reduced_number w r.addend)) (worth.less_of p k at (target_worth (again w n).symbols p v (seen_target (shown w n) r.target)) r.form.less)
              ≡ (field_with t k at (added_by t k at (number_of c at alone) alone) alone).residue p v
          value (Nothing z l) p v Bt same =
              let T = target_worth (again w n).symbols p v (seen_target (shown w n) r.target) in
              let Bu = base_of p (aim.target.worth p v) e.row.base in
              let ra = residue_of w (added_by t k at (number_of c at alone) alone) in
              ap (λ y. minus w (Bt + residue_of w (reduced_number w r.addend)) (worth.less_of p k at T y)) l
              ∙ lone_value w Bt Bu ra (residue_of w (reduced_number w r.addend)) 0 e.row.behind same residue_is
              ∙ ap (λ y. minus w (Bu + ra) (worth.less_of p k at (aim.target.worth p v) (rows.less_of y 0) + e.row.behind)) (sym z)
          value (ThePlace z l) p v Bt same =
              let T = target_worth (again w n).symbols p v (seen_target (shown w n) r.target) in
              let Bu = base_of p (aim.target.worth p v) e.row.base in
              let ra = residue_of w (added_by t k at (number_of c at alone) alone) in
              ap (λ y. minus w (Bt + residue_of w (reduced_number w r.addend)) (worth.less_of p k at T y)) l
              ∙ lone_value w Bt Bu ra (residue_of w (reduced_number w r.addend)) ((p.site k).address + at) e.row.behind same residue_is
              ∙ ap (λ y. minus w (Bu + ra) (worth.less_of p k at (aim.target.worth p v) (rows.less_of y 0) + e.row.behind)) (sym z)

          varied : IsLone e.row.taken r.form.less → is_difference (field_with t k at (added_by t k at (number_of c at alone) alone) alone) ≡ false
          varied x = grind arith
