-- A relocation is computed from its look and its residue where all numbers of a placement are 0.
use Rattle.std.proofs.Common.{◌≡◌, ℕ, ◌+◌, ◌<◌, refl, sym, ◌∙◌, ap, arith}
use Rattle.std.specs.{Prelude.{ℤ}, Option.{option_map, option_map_or, unwrap_or}}
use Rattle.oc_base.specs.{declared.format.Word.{Word}, Formats.{word_for}}
use Rattle.oc_linking.specs.{Numbers.{modulus, minus}, Placing.{zeros}, Values.{Valued, Valuation, worthless}}
use Rattle.oc_algebra.specs.Residues.{residue_of, reduced_number, signed_of}
use Rattle.oc_algebra.proofs.Laws.{residue_small}
use Rattle.oc_neutral.specs.{declared.symbol.Symbol.{Symbol}, declared.reloc.Target.{Target}, declared.reloc.Reloc.{Reloc}, Objects.{Object}}
use Rattle.oc_neutral.specs.{Invariants.{IsThere, IsNormal, NamesOriginal}, Worth.{base_of, less_of, target_worth, residue_at}, Faces.{named_of, shown_symbols}}
use Rattle.oc_neutral.specs.declared.reloc.Target.TheVariants as target
use Rattle.oc_shows.specs.{Shows.{reloc_look}, Computed.{addend_for, reloc_for, zero_worth}}
use Rattle.oc_neutral.proofs.Positions.{there_at}
use Rattle.oc_shows.proofs.PlacedSymbols.{target-placed}

-- what is taken and what the value begins with lead back from the value
value_back : (w : Word) (b l r : ℕ) → r < modulus w → minus w (minus w (b + r) l + l) b ≡ r
value_back w b l r small = grind arith

-- so does a reduced addend
addend_back : (w : Word) (b l : ℕ) (a : ℤ) → reduced_number w a ≡ a → signed_of w (minus w (minus w (b + residue_of w a) l + l) b) ≡ a
unfolding reduced_number
addend_back w b l a reduced = ap (signed_of w) (value_back w b l (residue_of w a) (residue_small w a)) ∙ reduced

module _ (n : Object) where
  -- what a target is worth there
  worth-named : (v : Valuation) (t : Target) → IsThere n t → target_worth n.symbols zeros v t ≡ zero_worth v (named_of n.symbols t)
  worth-named v (target.Section k) there = refl
  worth-named v (target.Symbol k) there =
      let x = there_at n.symbols k there in
      ap (λ o. unwrap_or (option_map (λ (s : Symbol). v s.number) o) worthless) x.1 ∙ sym (ap (λ o. v (option_map_or (λ (s : Symbol). s.number) o 0)) x.1)

  -- a relocation with that target and that addend
  abbrev aimed : Reloc → Target → ℤ → Reloc
  aimed r t addend = record { target = t; form = r.form; addend = addend; hint = r.hint }

  -- a relocation in normal form that names no alias
  pub reloc-computed : (v : Valuation) (s at : ℕ) (r : Reloc) → IsNormal n s r → NamesOriginal n.symbols r.target
      → reloc_for (word_for n.format) (shown_symbols n) v s at (reloc_look n r) (residue_at (word_for n.format) n.symbols zeros v s at r) ≡ r
  unfolding residue_at
  reloc-computed v s at r normal original =
      let w : Word = word_for n.format in
      let t : Valued = target_worth n.symbols zeros v r.target in
      ap (λ x. aimed r x (addend_for w (zero_worth v (named_of n.symbols r.target)) s at (reloc_look n r) (minus w (base_of zeros t r.form.base + residue_of w r.addend) (less_of zeros s at t r.form.less))))
      (target-placed n r.target normal.target original)
      ∙ ap (λ u. aimed r r.target (addend_for w u s at (reloc_look n r) (minus w (base_of zeros t r.form.base + residue_of w r.addend) (less_of zeros s at t r.form.less)))) (sym (worth-named v r.target normal.target))
      ∙ ap (aimed r r.target) (addend_back w (base_of zeros t r.form.base) (less_of zeros s at t r.form.less) r.addend normal.reduced)
