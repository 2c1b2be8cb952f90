-- The relocation that a row makes of an entry is the entry's field.
use Rattle.std.proofs.Common.{◌≡◌, ℕ, ◌+◌, ◌%◌, List, Option, Some, None, refl, sym, ◌∙◌, ap, subst, arith}
use Rattle.std.specs.{Prelude.{ℤ, slice_get}, Option.{option_map, option_map_or, option_and_then, unwrap_or}}
use Rattle.std.proofs.lemmas.Option.{none-some, same_Some, slice_get-map}
use Rattle.oc_base.specs.declared.format.Word.{Word}
use Rattle.oc_linking.specs.{declared.terms.Base.{Base}, declared.terms.Less.{Less}, declared.terms.Binding.{Binding}}
use Rattle.oc_linking.specs.{declared.terms.Binding.TheVariants.{Local, Global, Undefined, Common, Weak}, declared.terms.Keep.{Keep}}
use Rattle.oc_linking.specs.{Numbers.{minus, modulus, reduced}, Placing.{Placement}, Values.{Valued, place_site, worthless}, Rules.{Named, Symbolic, Sectional}}
use Rattle.oc_linking.specs.Targets.{named_by, symbol_target}
use Rattle.oc_linking.specs.declared.terms.Base.TheVariants as base
use Rattle.oc_linking.specs.declared.terms.Less.TheVariants as less
use Rattle.oc_linking.specs.declared.terms.Value.TheVariants as value
use Rattle.oc_linking.specs.Parts as parts
use Rattle.oc_linking.specs.Targets as file
use Rattle.oc_algebra.specs.Residues.{residue_of}
use Rattle.oc_algebra.proofs.Laws.{residue_reduced, residue_moved, minus-place}
use Rattle.oc_neutral.specs.{declared.symbol.Symbol.{Symbol}, Objects.{Object}, Normal.{local_place, place_among, moved_addend}}
use Rattle.oc_neutral.specs.{Faces.{named_of, shown_binding, shown_symbol, shown_symbols}, Rows.{Row}, Worth.{base_of, less_of}, Dialects.{Dialect}}
use Rattle.oc_neutral.specs.declared.reloc.Target.TheVariants as target
use Rattle.oc_neutral.specs.Rows as rows
use Rattle.oc_shows.specs.{RowValues.{row_value}, Built.{named_in}, RowFields.{IsTarget, RowsAreFields, SectionRowsAreFields}}
use Rattle.oc_shows.proofs.RowValueLaws.{rows_have_values}

pub rows_are_fields : RowsAreFields
rows_are_fields f b keep n s at row k a t u is = record {
  width = refl;
  check = refl;
  base = refl;
  less = refl;
  hint = refl;
  target = is.named;
  residue = λ p v fixed. rows_have_values f.rules.word row k a t n.symbols p v s at ∙ ap (row_value f.rules.word row k a p s at) (is.worth p v fixed);
}

-- what a place in a section is worth is what the section is worth, with the offset added
module _ (w : Word) (p : Placement) (s at j offset : ℕ) where
  abbrev section : Valued
  section = record { site = p.site j; slot = 0 }

  abbrev place : Valued
  place = record { site = place_site w p j offset; slot = 0 }

  reduced_twice : (w : Word) (n : ℕ) → reduced w n % modulus w ≡ n % modulus w
  reduced_twice w n = grind arith

  less-placed : (l : Less) → less_of p s at section l ≡ less_of p s at place l
  less-placed l = grind arith

  base-placed : (b : Base) (a : ℤ) (l : ℕ) → minus w (base_of p section b + residue_of w (moved_addend b a offset)) l ≡ minus w (base_of p place b + residue_of w a) l
  base-placed base.Address a l =
      rw (← residue_reduced w (moved_addend base.Address a offset), residue_moved w a offset)
      (minus-place w (p.site j).address (reduced w ((p.site j).address + offset)) offset (residue_of w a) l (reduced_twice w ((p.site j).address + offset)))
  base-placed base.Slot a l = refl
  base-placed base.GotBase a l = refl
  base-placed base.HomeNumber a l = refl

  pub row-placed : (row : Row) (k : ℕ) (a : ℤ) → row_value w row k (moved_addend row.base a offset) p s at section ≡ row_value w row k a p s at place
  row-placed row k a =
      ap (λ (l : ℕ). minus w (base_of p section row.base + residue_of w (moved_addend row.base a offset)) (l + row.behind)) (less-placed (rows.less_of row.taken k))
      ∙ base-placed row.base a (less_of p s at place (rows.less_of row.taken k) + row.behind)

pub section_rows_are_fields : SectionRowsAreFields
unfolding place_among
section_rows_are_fields f b keep n s at row k a j offset = record {
  width = refl;
  check = refl;
  base = refl;
  less = refl;
  hint = refl;
  target = refl;
  residue = λ p v fixed. rows_have_values f.rules.word row k (moved_addend row.base a offset) (target.Section j) n.symbols p v s at ∙ row-placed f.rules.word p s at j offset row k a;
}

-- what an entry names by a symbol, whether the symbol is the object's or is shown
named-shown : (symbols : List Symbol) (number : ℕ) (b : Binding) → named_by number (shown_binding symbols b) ≡ named_by number b
named-shown symbols number b = grind arith

-- the symbol at a position of the object is the file's target for the symbol there
module _ (f : Dialect) (b : List ℕ) (keep : Keep) (n : Object) (j : ℕ) (y : parts.Symbol) (u : file.Target) (symbols : shown_symbols n ≡ f.rules.symbols b keep)
    (here : slice_get (f.rules.symbols b keep) j ≡ Some y) (is : symbol_target y ≡ Some u) where
  shown-at : option_map (shown_symbol n.symbols) (slice_get n.symbols j) ≡ Some y
  shown-at = sym (slice_get-map (shown_symbol n.symbols) n.symbols j) ∙ ap (λ (ys : List parts.Symbol). slice_get ys j) symbols ∙ here

  own : (x : Symbol) × (slice_get n.symbols j ≡ Some x) × (shown_symbol n.symbols x ≡ y)
  own = by (slice_get n.symbols j) refl shown-at
    where
      by : (o : Option Symbol) → slice_get n.symbols j ≡ o → option_map (shown_symbol n.symbols) o ≡ Some y → (x : Symbol) × (slice_get n.symbols j ≡ Some x) × (shown_symbol n.symbols x ≡ y)
      by o there e = grind arith

  number_is : own.0.number ≡ y.number
  number_is = ap (λ (z : parts.Symbol). z.number) own.2

  names : (named : Named) → named_by y.number y.binding ≡ Some named → named_in n.symbols (target.Symbol j) ≡ named
  unfolding place_among
  names named e =
      ap (λ (o : Option Symbol). option_map_or (λ place. Sectional place.0) (option_and_then (λ (z : Symbol). local_place z.binding) o) (named_of n.symbols (target.Symbol j))) own.1
      ∙ by own.0.binding (sym (named-shown n.symbols y.number own.0.binding) ∙ ap (λ (z : parts.Symbol). named_by y.number z.binding) own.2 ∙ e)
    where
      number : named_of n.symbols (target.Symbol j) ≡ Symbolic y.number
      number = ap (λ (o : Option Symbol). Symbolic (option_map_or (λ (z : Symbol). z.number) o 0)) own.1 ∙ ap Symbolic number_is

      by : (c : Binding) → named_by y.number c ≡ Some named → option_map_or (λ place. Sectional place.0) (local_place c) (named_of n.symbols (target.Symbol j)) ≡ named
      by (Local (value.Place s offset)) e = same_Some (Sectional s) named e
      by (Local (value.Absolute m)) e = absurd (none-some named e)
      by (Global v) e = number ∙ same_Some (Symbolic y.number) named e
      by Undefined e = number ∙ same_Some (Symbolic y.number) named e
      by (Common size align) e = number ∙ same_Some (Symbolic y.number) named e
      by (Weak g) e = number ∙ same_Some (Symbolic y.number) named e

  pub symbol_is_target : IsTarget f b keep n (target.Symbol j) u
  symbol_is_target = by (named_by y.number y.binding) refl is
    where
      by : (o : Option Named) → named_by y.number y.binding ≡ o → option_map (λ named. record { named = named; worth = λ p v. v y.number }) o ≡ Some u → IsTarget f b keep n (target.Symbol j) u
      by None h e = absurd (none-some u e)
      by (Some named) h e = subst (IsTarget f b keep n (target.Symbol j)) (same_Some (record { named = named; worth = λ p v. v y.number }) u e) (record {
        named = names named h;
        worth = λ p v fixed. ap (λ (o : Option Symbol). unwrap_or (option_map (λ (z : Symbol). v z.number) o) worthless) own.1 ∙ ap (λ (i : ℕ). v i) number_is;
      })
