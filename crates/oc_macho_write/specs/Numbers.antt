-- The numbers of the symbols in the symbol table (Mach-O reference, "nlist").
use Rattle.std.specs.Prelude.{◌≡◌, ℕ, ◌^◌, ◌<◌, ◌+◌, Bool, List, length, slice_index_or, Some}
use Rattle.oc_base.specs.declared.format.Word.{Word}
use Rattle.oc_neutral.specs.{declared.reloc.Target.{Target}, Objects.{Object}}
use Rattle.oc_neutral.specs.declared.reloc.Target.TheVariants as target
use Rattle.oc_plans.specs.Slots.{IsSetWhere}
use Rattle.oc_macho_file.specs.Lines as lines
use Rattle.oc_macho_file.specs.Lines.{numbered_lines, own_number, symbol_number}
use Rattle.oc_macho_write.specs.{declared.lines.Line.{Line}, Lines.{line_in}, declared.numbers.Numbers.{Numbers}}
use Rattle.oc_macho_write.specs.declared.lines.Line.TheVariants as line

-- as many numbers as the object has sections and symbols
pub record AreSized (n : Object) (x : Numbers) : Type 0 where
  pub owns : length x.owns.items ≡ length n.sections
  pub outers : length x.outers.items ≡ length n.symbols

-- nothing has a number yet
pub record IsBlank (x : Numbers) : Type 0 where
  pub owns : (k : ℕ) → k < length x.owns.items → slice_index_or x.owns.items k 0 ≡ 0
  pub outers : (k : ℕ) → k < length x.outers.items → slice_index_or x.outers.items k 0 ≡ 0

-- there is a place for the number of a line
abbrev pub CanGive : Numbers → Line → Type 0
CanGive x (line.Own k) = k < length x.owns.items
CanGive x (line.Local k) = Unit {0}
CanGive x (line.Outer k) = k < length x.outers.items

-- the numbers have this one where the test holds of the line, and elsewhere what they had
abbrev pub IsGiven : (ℕ → lines.Line → Bool) → Line → ℕ → List ℕ → List ℕ → Type 0
IsGiven test this number old new =
    (n : Object) (is : lines.Line) → line_in n this ≡ Some is → IsSetWhere (λ k. test k is) number 0 old new

-- these are the numbers that the object's lines have
pub record IsNumbered (w : Word) (n : Object) (x : Numbers) : Type 0 where
  pub sized : AreSized n x
  pub owns : (k : ℕ) → k < length n.sections → slice_index_or x.owns.items k 0 ≡ own_number (numbered_lines w n) k
  pub outers : (k : ℕ) → k < length n.symbols → slice_index_or x.outers.items k 0 ≡ symbol_number (numbered_lines w n) k

-- there is a number for the target
abbrev pub HasNumber : Numbers → Target → Type 0
HasNumber x (target.Section k) = (k < length x.owns.items) × (k + 1 < 2 ^ 32)
HasNumber x (target.Symbol k) = k < length x.outers.items
