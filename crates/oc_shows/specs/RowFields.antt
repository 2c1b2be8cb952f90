-- The field that a row of a relocation table makes of an entry, and the relocation that is that field (our profile).
use Rattle.std.specs.Prelude.{◌≡◌, ℕ, ℤ, List}
use Rattle.oc_base.specs.{declared.format.Word.{Word}, Numbers.{number_at}}
use Rattle.oc_linking.specs.{declared.terms.Keep.{Keep}, Fits.{bytes_of}, Placing.{Placement}, Values.{Valuation, place_site}, Rules.{Field, Sectional}}
use Rattle.oc_linking.specs.Targets as file
use Rattle.oc_algebra.specs.Fields.{extended}
use Rattle.oc_neutral.specs.{declared.reloc.Target.{Target}, Objects.{Object}, Normal.{moved_addend}, Rows.{Row}, Worth.{target_worth}, Dialects.{Dialect}}
use Rattle.oc_neutral.specs.declared.reloc.Target.TheVariants as target
use Rattle.oc_neutral.specs.Rows as rows
use Rattle.oc_shows.specs.{RowValues.{row_value, row_reloc}, Shows.{IsTrueToFixed}, Built.{IsField, named_in}}

-- the field of an entry at an offset of section s: its row, the section k that it takes, the number a that is added, and its target
abbrev pub row_field : Word → Row → ℕ → ℤ → ℕ → ℕ → file.Target → Field
row_field w row k a s at t = record {
  width = row.width;
  check = row.check;
  base = row.base;
  less = rows.less_of row.taken k;
  residue = λ p v. row_value w row k a p s at (t.worth p v);
  target = t.named;
  hint = row.hint;
}

-- the number that a row adds where the field holds it, at an offset of these contents: the field's bytes, sign-extended
abbrev pub number_in : Row → List ℕ → ℕ → ℤ
number_in row contents at = extended row.width (number_at contents at (bytes_of row.width))

-- the field of an entry at an offset of section s with these contents, where the field holds the number that is added;
-- a section that is taken is the field's own
abbrev pub field_in_place : Word → Row → List ℕ → ℕ → ℕ → file.Target → Field
field_in_place w row contents s at t = row_field w row s (number_in row contents at) s at t

-- a target of the object is one of the file
pub record IsTarget (f : Dialect) (b : List ℕ) (keep : Keep) (n : Object) (t : Target) (u : file.Target) : Type 0 where
  pub named : named_in n.symbols t ≡ u.named
  pub worth : (p : Placement) (v : Valuation) → IsTrueToFixed f.rules.word (f.rules.symbols b keep) p v → target_worth n.symbols p v t ≡ u.worth p v

-- the relocation of a row is its field, where their targets are one
abbrev pub RowsAreFields : Type 0
RowsAreFields = (f : Dialect) (b : List ℕ) (keep : Keep) (n : Object) (s at : ℕ) (row : Row) (k : ℕ) (a : ℤ) (t : Target) (u : file.Target)
    → IsTarget f b keep n t u → IsField f b keep n s at (row_reloc f.rules.word row k a t) (row_field f.rules.word row k a s at u)

-- an offset in a section, as the file's symbol for it gives it; it has no slot
abbrev pub place_target : Word → ℕ → ℕ → file.Target
place_target w s offset = record { named = Sectional s; worth = λ p v. record { site = place_site w p s offset; slot = 0 } }

-- against an offset in section j, the relocation is one against the section, with the offset added
abbrev pub SectionRowsAreFields : Type 0
SectionRowsAreFields = (f : Dialect) (b : List ℕ) (keep : Keep) (n : Object) (s at : ℕ) (row : Row) (k : ℕ) (a : ℤ) (j offset : ℕ)
    → IsField f b keep n s at (row_reloc f.rules.word row k (moved_addend row.base a offset) (target.Section j)) (row_field f.rules.word row k a s at (place_target f.rules.word j offset))
