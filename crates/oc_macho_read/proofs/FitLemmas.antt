-- The differences of a file without faults fit.
use Rattle.std.proofs.Common.{Bool, List, None, Option, Some, ap, arith, false, not, pos, refl, subst, sym, true, true≢false, ℕ, ℤ, ◌%◌, ◌&&◌, ◌+◌, ◌-ℤ◌, ◌∙◌, ◌≡◌}
use Rattle.std.proofs.lemmas.{Bool.{not-false}, Option.{same_Some}}
use Rattle.std.specs.{Option.{option_and_then, option_map_or}, Prelude.{is_some, ◌+ℤ◌}}
use Rattle.oc_algebra.proofs.Laws.{residue_add, residue_less, residue_nat}
use Rattle.oc_algebra.specs.Residues.{residue_of}
use Rattle.oc_base.specs.declared.format.Word.{Word}
use Rattle.oc_linking.specs.{FirstFault.{first_fault}, Fits.{fits}, Numbers.{minus, modulus, reduced}, Placing.{zeros}, Rules.{Field, Named, Sectional}}
use Rattle.oc_linking.specs.{Values.{Valuation}, declared.terms.Base.{Base}, declared.terms.Keep.{Keep}, declared.terms.Less.{Less}}
use Rattle.oc_macho.specs.{Aims.{target_in}, Entries.{is_first, taken_entry, target_entry}}
use Rattle.oc_macho.specs.{Fields.{FieldParts, added_by, field_of, number_of, taken_address, taken_at, taken_section}, RelocationFaults.{beyond}}
use Rattle.oc_macho.specs.{Rules.{mach_dialect, symbols_in}, Tables.{SectionTable, Tables, tables_of}, declared.relocation_info.Reference.{Reference}}
use Rattle.oc_macho_read.proofs.FieldLemmas.{taken_lies, target_lies}
use Rattle.oc_macho_read.proofs.ItemLemmas.{IsTaken, Nothing, Something, found_as, found_is, pair_row, second_reference, taken_is, takes_first}
use Rattle.oc_macho_read.proofs.{StandingLemmas.{IsStanding, field_standing, pinned_by}, SymbolLemmas.{symbols_numbered}}
use Rattle.oc_shows.proofs.Truth.{values_fixed}
use Rattle.oc_shows.specs.{Built.{DifferencesFit}, Computed.{zero_values, zeros_outside}, Shows.{IsTrueToFixed}}
use Rattle.oc_neutral.specs.{Dialects.{is_difference, target_by}, Faces.{shown_symbols}, Normal.{Place, cancels}, Objects.{Object}}
use Rattle.oc_neutral.specs.Rows.{Taken, TakesGotBase, TakesHome, TakesImageBase, TakesPlace, TakesSection, TakesZero}
use Rattle.oc_linking.specs.declared.terms.Base.TheVariants as base
use Rattle.oc_linking.specs.declared.terms.Less.TheVariants as less
use Rattle.oc_neutral.specs.Rows as rows
use Rattle.oc_neutral.specs.Worth as worth
use Rattle.oc_macho.specs.RelocationFaults as faults
use Rattle.oc_macho.specs.Aims as aims

-- a difference is the address of a section less that of the same
pub record IsCancelled (b : Base) (l : Named) (m : Less) : Type 0 where
  pub section : ℕ
  pub base_is : b ≡ base.Address
  pub named_is : l ≡ Sectional section
  pub less_is : m ≡ less.Section section

cancelled : (b : Base) (l : Named) (m : Less) → cancels b (target_by l) m ≡ true → IsCancelled b l m
cancelled b l m e = grind arith

-- a row that takes a section
less_section : (x : Taken) (k j : ℕ) → rows.less_of x k ≡ less.Section j → (x ≡ TakesSection) × (k ≡ j)
less_section TakesSection k j e = (refl, same e)
  where
    same : less.Section k ≡ less.Section j → k ≡ j
    same e = cc
less_section TakesZero k j e = absurd (cc)
less_section TakesPlace k j e = absurd (cc)
less_section TakesGotBase k j e = absurd (cc)
less_section TakesImageBase k j e = absurd (cc)
less_section TakesHome k j e = absurd (cc)

-- with all sections at 0, a difference is its constant
constant_by : (w : Word) (R o q : ℕ) → minus w (reduced w (0 + o) + R) (reduced w (0 + q) + 0) ≡ (R + minus w (o % modulus w) q) % modulus w
constant_by w R o q = grind arith

constant_residue : (w : Word) (A : ℤ) (o q : ℕ) → minus w (reduced w (0 + o) + residue_of w A) (reduced w (0 + q) + 0) ≡ residue_of w (A +ℤ (pos o -ℤ pos q))
constant_residue w A o q =
    constant_by w (residue_of w A) o q
    ∙ ap (λ (d : ℕ). (residue_of w A + minus w d q) % modulus w) (sym (residue_nat w o))
    ∙ ap (λ (d : ℕ). (residue_of w A + d) % modulus w) (sym (residue_less w (pos o) q))
    ∙ sym (residue_add w A (pos o -ℤ pos q))

module _ (w : Word) (b : List ℕ) (keep : Keep) (n : Object) (shown : shown_symbols n ≡ (mach_dialect w).rules.symbols b keep) (clean : first_fault (faults.relocation_stages (tables_of w b) keep) ≡ None) where
  abbrev t : Tables
  t = tables_of w b

  abbrev v : Valuation
  v = zero_values (mach_dialect w) b keep

  fixed_zero : IsTrueToFixed w (symbols_in t keep) zeros v
  fixed_zero = values_fixed w (symbols_in t keep) (symbols_numbered t keep) zeros zeros_outside

  -- the fault that is not there
  fits_by : (s at : ℕ) (c : SectionTable) (x : FieldParts) (a : aims.Aim) → faults.folds_too_wide t s c at x ≡ false → is_difference (field_of t s at c x) ≡ true → x.taken ≡ Some a
      → fits t.word x.row.row.width x.row.row.check (residue_of t.word (faults.constant_of t s c at x a)) ≡ true
  fits_by s at c x a none is taken =
      not-false (fits t.word x.row.row.width x.row.row.check (residue_of t.word (faults.constant_of t s c at x a)))
      (sym (ap (λ b. b && option_map_or (λ a. not (fits t.word x.row.row.width x.row.row.check (residue_of t.word (faults.constant_of t s c at x a)))) x.taken false) is
      ∙ last (option_map_or (λ a. not (fits t.word x.row.row.width x.row.row.check (residue_of t.word (faults.constant_of t s c at x a)))) x.taken false)
      ∙ ap (λ (o : Option aims.Aim). option_map_or (λ a. not (fits t.word x.row.row.width x.row.row.check (residue_of t.word (faults.constant_of t s c at x a)))) o false) taken) ∙ none)
    where
      last : (b : Bool) → (true && b) ≡ b
      last b = grind arith

  not_wide : (s at : ℕ) (m : IsStanding w b keep n shown clean s at) → faults.folds_too_wide t s m.c at (found_as t s m.c m.begun.k m.item m.good) ≡ false
  unfolding faults.is_too_wide
  not_wide s at m =
      sym (ap (λ (q : ℕ). faults.folds_too_wide t s m.c q (found_as t s m.c m.begun.k m.item m.good)) m.begun.offset)
      ∙ sym (ap (λ (o : Option FieldParts). option_map_or (faults.folds_too_wide t s m.c m.item.first.r_address) o false) (found_is t s m.c m.begun.k m.item m.good)) ∙ m.good.wide

  -- the residue of a difference is that of its constant
  residue_is : (s at : ℕ) (m : IsStanding w b keep n shown clean s at) → is_difference (field_of t s at m.c (found_as t s m.c m.begun.k m.item m.good)) ≡ true
      → fits w (field_of t s at m.c (found_as t s m.c m.begun.k m.item m.good)).width (field_of t s at m.c (found_as t s m.c m.begun.k m.item m.good)).check
      ((field_of t s at m.c (found_as t s m.c m.begun.k m.item m.good)).residue zeros v) ≡ true
  unfolding field_of tables_of
  residue_is s at m is = by (taken_is t s m.c m.begun.k m.item m.good)
    where
      x : FieldParts
      x = found_as t s m.c m.begun.k m.item m.good

      A : ℤ
      A = added_by t s at (number_of m.c at x) x

      d : IsCancelled m.good.row.row.base m.good.aim.target.named (rows.less_of m.good.row.row.taken (taken_section x))
      d = cancelled m.good.row.row.base m.good.aim.target.named (rows.less_of m.good.row.row.taken (taken_section x)) is

      takes : (m.good.row.row.taken ≡ TakesSection) × (taken_section x ≡ d.section)
      takes = less_section m.good.row.row.taken (taken_section x) d.section d.less_is

      first : is_first t.word m.item.first ≡ true
      first = takes_first t.word m.item.first m.good.row m.good.listed takes.0

      behind : m.good.row.row.behind ≡ 0
      behind = pair_row t.word m.item.first m.good.row m.good.listed takes.0

      by : IsTaken t m.item (option_and_then (target_in t) (taken_entry t.word m.item))
          → fits w m.good.row.row.width m.good.row.row.check (minus w (worth.base_of zeros (m.good.aim.target.worth zeros v) m.good.row.row.base + residue_of w A) (taken_at w s at x zeros v + m.good.row.row.behind)) ≡ true
      by (Nothing none left) = absurd (true≢false (sym (second_reference t.word m.item (m.good.paired first)) ∙ ap is_some left))
      by (Something r taken q some) =
          let o = beyond m.good.aim in
          let section : q.place.0 ≡ d.section
          = sym (ap (λ (z : Option aims.Aim). option_map_or (λ (a : aims.Aim). option_map_or (λ (place : Place). place.0) a.place 0) z 0) some ∙ ap (λ (z : Option Place). option_map_or (λ (place : Place). place.0) z 0) q.placed) ∙ takes.1 in
          let offset : beyond q.aim ≡ q.place.1 = ap (λ (z : Option Place). option_map_or (λ (place : Place). place.1) z 0) q.placed in
          let base : worth.base_of zeros (m.good.aim.target.worth zeros v) m.good.row.row.base ≡ reduced w (0 + o)
          = ap (worth.base_of zeros (m.good.aim.target.worth zeros v)) d.base_is ∙ target_lies w b keep (target_entry t.word m.item).refers m.good.aim m.good.aimed d.section d.named_is zeros v fixed_zero in
          let held : taken_at w s at x zeros v ≡ reduced w (0 + q.place.1)
          = ap (λ (z : Option aims.Aim). option_map_or (taken_address w zeros v) z (worth.less_of zeros s at (m.good.aim.target.worth zeros v) (rows.less_of m.good.row.row.taken (taken_section x)))) some
          ∙ taken_lies w b keep r q (λ j same. pinned_by t keep s m.c m.begun.k m.item m.there m.kept m.begun.low m.begun.is j (taken ∙ ap (λ (y : Reference). Some y) same)) zeros v fixed_zero in
          let value : minus w (worth.base_of zeros (m.good.aim.target.worth zeros v) m.good.row.row.base + residue_of w A) (taken_at w s at x zeros v + m.good.row.row.behind)
          ≡ residue_of w (A +ℤ (pos o -ℤ pos (beyond q.aim)))
          = ap (λ (z : ℕ). minus w (z + residue_of w A) (taken_at w s at x zeros v + m.good.row.row.behind)) base
          ∙ ap (λ (z : ℕ). minus w (reduced w (0 + o) + residue_of w A) (z + m.good.row.row.behind)) held
          ∙ ap (λ (z : ℕ). minus w (reduced w (0 + o) + residue_of w A) (reduced w (0 + q.place.1) + z)) behind
          ∙ constant_residue w A o q.place.1 ∙ ap (λ (z : ℕ). residue_of w (A +ℤ (pos o -ℤ pos z))) (sym offset) in
          ap (fits w m.good.row.row.width m.good.row.row.check) value ∙ fits_by s at m.c x q.aim (not_wide s at m) is some

  pub differences_fit : DifferencesFit (mach_dialect w) b keep
  differences_fit s at x e difference =
      let m = field_standing w b keep n shown clean s at x e in
      let same = same_Some (field_of t s at m.c (found_as t s m.c m.begun.k m.item m.good)) x (sym m.field_is ∙ e) in
      subst (λ (f : Field). fits w f.width f.check (f.residue zeros v) ≡ true) same (residue_is s at m (ap is_difference same ∙ difference))
