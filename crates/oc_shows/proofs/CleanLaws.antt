-- A Builder refuses nothing of a clean file.
use Rattle.std.proofs.Common.{◌≡◌, ℕ, ◌+◌, ◌<◌, ◌≤◌, inl, inr, Bool, true, false, List, Some, None, Ok, refl, sym, ◌∙◌, ap, subst, arith}
use Rattle.std.specs.Prelude.{ℤ}
use Rattle.std.proofs.lemmas.{Bool.{cases_eq, cases_lt, true≢false}, Bool.Decides.{nat_tests}, Option.{none-some}}
use Rattle.oc_base.specs.{declared.format.Format.{Format}, declared.format.Word.{Word}, Formats.{word_for}}
use Rattle.oc_linking.specs.{declared.terms.Keep.{Keep}, Fits.{bytes_of, fits}, Placing.{zeros}, Rules.{Field}}
use Rattle.oc_algebra.specs.{Residues.{residue_of}, Folds.{fold_of, low_of}}
use Rattle.oc_neutral.specs.{declared.reloc.Reloc.{Reloc}, declared.normal.Normal.{Normal}}
use Rattle.oc_neutral.specs.{Building.{Draft, is_met, with_constant, with_reloc, normal_added, reloc_added}, Dialects.{Dialect, is_difference, kept_fields}}
use Rattle.oc_neutral.specs.Worth.{residue_at}
use Rattle.oc_neutral.specs.declared.normal.Normal.TheVariants as normal
use Rattle.oc_shows.specs.{Computed.{zero_values, zeros_outside}, Shows.{IsTrueToFixed}}
use Rattle.oc_shows.specs.Built.{RelocMap, IsField, IsStarted, AreApart, AreOfFile, DifferencesFit, CleanIsAdded}
use Rattle.oc_neutral.proofs.{Adding.{have_common, wide_enough}, HeldLemmas.{reloc_unmet}, NormalLemmas.{constant_is, is_constant}}
use Rattle.oc_shows.proofs.{BuiltSeen.{folds-field, locals-fixed, word-started}, BuiltLaws.{base_of_start}}
use Rattle.oc_shows.proofs.{Holding.{IsHolding, IsMetBy, holds_all, normal-base}, Showing.{normal_in}, NormalValues.{constant_value}, Truth.{values_fixed}}

-- fields of which none begins in one before it have no byte in common
disjoint : (i m j n : ℕ) → 1 ≤ m → 1 ≤ n → (i < j → i + m ≤ j) → (j < i → j + n ≤ i) → (i ≡ j → ⊥) → have_common i m j n ≡ false
disjoint i m j n wide long before behind differ = elim (cases_lt i j) [
  | inl low ↦ let le = before low in grind (arith, nat_tests)
  | inr high ↦ elim (cases_eq i j) [
    | inl same ↦ absurd (differ same)
    | inr other ↦ let le = behind (omega arith) in grind (arith, nat_tests)
  ]
]

module _ (f : Dialect) (b : List ℕ) (keep : Keep) (base d : Draft) (given : RelocMap) (start : IsStarted f b keep base) (apart : AreApart f b keep) (fit : DifferencesFit f b keep)
    (has : IsHolding base d given) (part : AreOfFile f b keep base.object given)
    (s at : ℕ) (r : Reloc) (x : Field) (here : kept_fields f b keep s at ≡ Some x) (is : IsField f b keep base.object s at r x) (new : given s at ≡ None) where
  -- it meets no field that was given
  unmet : is_met d s at (bytes_of r.form.width) ≡ false
  unmet = by (is_met d s at (bytes_of r.form.width)) refl
    where
      by : (c : Bool) → is_met d s at (bytes_of r.form.width) ≡ c → c ≡ false
      by false met = refl
      by true met =
          let m : IsMetBy given s at (bytes_of r.form.width) = has.met s at (bytes_of r.form.width) met in
          let other = part s m.from m.reloc m.here in
          let width : bytes_of r.form.width ≡ bytes_of x.width = ap bytes_of is.width in
          let wide : bytes_of m.reloc.form.width ≡ bytes_of other.0.width = ap bytes_of other.2.width in
          absurd (true≢false (sym m.common ∙ disjoint m.from (bytes_of m.reloc.form.width) at (bytes_of r.form.width) (wide_enough m.reloc.form.width) (wide_enough r.form.width)
          (λ low. let le = apart s m.from at other.0 x other.1 here low in omega (arith, le, wide))
          (λ low. let le = apart s at m.from x other.0 here other.1 low in omega (arith, le, width))
          (λ same. none-some m.reloc (sym (ap (given s) same ∙ new) ∙ m.here))))

  -- a constant fits
  constant-fits : (c : ℤ) → normal_in base.object s at r ≡ normal.Constant c → fits (word_for base.object.format) r.form.width r.form.check (residue_of (word_for base.object.format) c) ≡ true
  constant-fits c constant =
      let fixed : IsTrueToFixed f.rules.word (f.rules.symbols b keep) zeros (zero_values f b keep) = values_fixed f.rules.word (f.rules.symbols b keep) start.numbered zeros zeros_outside in
      let folded : is_difference x ≡ true = sym (folds-field f b keep base.object s at r x is) ∙ sym (constant_is (word_for base.object.format) base.object.symbols s at r) ∙ ap is_constant constant in
      let value : residue_of (word_for base.object.format) c ≡ residue_at (word_for base.object.format) base.object.symbols zeros (zero_values f b keep) s at r
      = constant_value (word_for base.object.format) base.object.symbols zeros (zero_values f b keep) (locals-fixed f b keep base.object (base_of_start f b keep base start) zeros (zero_values f b keep) fixed) s at r c constant in
      let field : residue_at (word_for base.object.format) base.object.symbols zeros (zero_values f b keep) s at r ≡ x.residue zeros (zero_values f b keep)
      = subst (λ (w : Word). residue_at w base.object.symbols zeros (zero_values f b keep) s at r ≡ x.residue zeros (zero_values f b keep)) (word-started f b keep base.object (base_of_start f b keep base start)) (is.residue zeros (zero_values f b keep) fixed) in
      ap (fits (word_for base.object.format) r.form.width r.form.check) (value ∙ field)
      ∙ ap (λ (w : Word). fits w r.form.width r.form.check (x.residue zeros (zero_values f b keep))) (sym (word-started f b keep base.object (base_of_start f b keep base start)))
      ∙ rw (is.width, is.check) (fit s at x here folded)

  normal-taken : (n : Normal) → normal_in base.object s at r ≡ n → (e : Draft) × (normal_added d s at r n ≡ Ok e)
  unfolding fold_of
  normal-taken (normal.Kept q) kept = (with_reloc d s at q, refl)
  normal-taken (normal.Constant c) constant =
      let fits_now : fits (word_for d.object.format) r.form.width r.form.check (residue_of (word_for d.object.format) c) ≡ true
      = subst (λ (g : Format). fits (word_for g) r.form.width r.form.check (residue_of (word_for g) c) ≡ true) (sym has.showing.format) (constant-fits c constant) in
      (with_constant d s at (bytes_of r.form.width) (low_of r.form.width (residue_of (word_for d.object.format) c)), rw fits_now refl)

  pub reloc-taken : (e : Draft) × (reloc_added d s at r ≡ Ok e)
  reloc-taken =
      let taken = normal-taken (normal_in base.object s at r) refl in
      (taken.0, reloc_unmet d s at r unmet ∙ ap (normal_added d s at r) (normal-base base d given has s at r) ∙ taken.1)

pub clean_is_added : CleanIsAdded
clean_is_added f b keep base d given start apart fit has part s at r x here is new =
    reloc-taken f b keep base d given start apart fit (holds_all base d given start.draft start.relocs start.folded has) part s at r x here is new
