-- The rows of COFF: none takes a section, and none has a hint.
use Rattle.std.proofs.Common.{◌≡◌, ℕ, Bool, true, false, ◌≤◌, Option, None, Some, refl, sym, ◌∙◌, ap, arith}
use Rattle.std.specs.{Prelude.{not, ◌&&◌, nat_eq}, Option.{option_map}}
use Rattle.std.proofs.lemmas.Bool.{true≢false}
use Rattle.oc_base.specs.declared.format.Word.{Word}
use Rattle.oc_linking.specs.{declared.terms.Hint.{Hint}, declared.terms.Hint.TheVariants.{Plain, Call}}
use Rattle.oc_linking.specs.declared.terms.Less.TheVariants as less
use Rattle.oc_neutral.specs.{Rows.{Row, Taken, TakesSection, less_of, same_hint, same_taken}, RelocTables.{row_of, rows_of}}
use Rattle.oc_coff.specs.{Forms.{coff_format}, declared.meaning.Meaning.{Meaning}, Meanings.{meaning_of, meant_by}}
use Rattle.oc_shelf.proofs.ReadingLaws.PassLemmas.{all_pass, found_passes}

-- ... what holds of each row

abbrev is_plain : Row → Bool
is_plain row = not (same_taken row.taken TakesSection) && same_hint row.hint Plain

all_plain : (w : Word) → all_pass is_plain (rows_of (coff_format w)) ≡ true
all_plain w = grind arith

-- a row of COFF
pub record IsRow (row : Row) : Type 0 where
  pub alone : same_taken row.taken TakesSection ≡ false
  pub plain : same_hint row.hint Plain ≡ true

pub is_row : (w : Word) (type : ℕ) (row : Row) → row_of (coff_format w) type ≡ Some row → IsRow row
is_row w type row e = by (same_taken row.taken TakesSection) (same_hint row.hint Plain) refl refl (found_passes is_plain (λ (x : Row). nat_eq x.number type) (rows_of (coff_format w)) row (all_plain w) e)
  where
    by : (a b : Bool) → same_taken row.taken TakesSection ≡ a → same_hint row.hint Plain ≡ b → (not a && b) ≡ true → IsRow row
    by a b g h p = grind arith

-- it takes no section
pub takes_none : (row : Row) (s k : ℕ) → IsRow row → (less_of row.taken s ≡ less.Section k → ⊥)
takes_none row s k is e = by row.taken is.alone e
  where
    by : (t : Taken) → same_taken t TakesSection ≡ false → less_of t s ≡ less.Section k → ⊥
    by t n e = grind arith

-- so what it takes does not hang on one
pub takes_same : (row : Row) (s : ℕ) → IsRow row → less_of row.taken 0 ≡ less_of row.taken s
takes_same row s is = by row.taken is.alone
  where
    by : (t : Taken) → same_taken t TakesSection ≡ false → less_of t 0 ≡ less_of t s
    by t n = grind arith

-- it has no hint
pub no_call : (row : Row) → IsRow row → (row.hint ≡ Call → ⊥)
no_call row is e = true≢false (sym is.plain ∙ ap (λ (h : Hint). same_hint h Plain) e)

-- ... meanings

-- the row of a meaning
pub record IsMeant (w : Word) (type : ℕ) (m : Meaning) : Type 0 where
  pub row : Row
  pub listed : row_of (coff_format w) type ≡ Some row
  pub is : meant_by row ≡ m

pub meant_some : (w : Word) (type : ℕ) (m : Meaning) → meaning_of w type ≡ Some m → IsMeant w type m
meant_some w type m e = by (row_of (coff_format w) type) refl e
  where
    by : (o : Option Row) → row_of (coff_format w) type ≡ o → option_map meant_by o ≡ Some m → IsMeant w type m
    by o h e = grind arith

pub meant_none : (w : Word) (type : ℕ) → meaning_of w type ≡ None → row_of (coff_format w) type ≡ None
meant_none w type e = by (row_of (coff_format w) type) e
  where
    by : (o : Option Row) → option_map meant_by o ≡ None → o ≡ None
    by o e = grind arith
