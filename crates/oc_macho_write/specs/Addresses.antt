-- The addresses of an object's sections, as they are made (our profile).
use Rattle.std.specs.{Prelude.{◌≡◌, ℕ, Bool, true, false, not, List, find}, List.{enumerate_from, filter}, Option.{option_map_or}}
use Rattle.oc_neutral.specs.Objects.{Object}
use Rattle.oc_shelf.specs.Writing.Parts.{Laid, laid, laid_end}
use Rattle.oc_macho_file.specs.Addresses.{Numbered, is_blank, section_begin, size_of, stored_end, memory_end}
use Rattle.oc_macho_write.specs.{declared.addresses.Addresses.{Addresses}, Values.{AreAddresses}}

-- the section is one of those without bytes, or one of those with
abbrev pub is_of : Bool → Numbered → Bool
is_of true x = is_blank x
is_of false x = not (is_blank x)

-- the sections without bytes, or those with
abbrev pub those : Bool → Object → List Numbered
those blank n = filter (is_of blank) (enumerate_from 0 n.sections)

-- they with their addresses, from one on; and where they end
abbrev pub those_laid : Bool → Object → ℕ → List (Laid Numbered)
those_laid blank n at = laid section_begin size_of at (those blank n)

abbrev pub those_end : Bool → Object → ℕ → ℕ
those_end blank n at = laid_end section_begin size_of at (those blank n)

-- where the part begins that passes a test, and else another place
abbrev pub place_or : {X : Type 0} → (X → Bool) → List (Laid X) → ℕ → ℕ
place_or {X} test parts other = option_map_or (λ (l : Laid X). l.at) (find (λ (l : Laid X). test l.part) parts) other

-- these are the addresses of the object's sections
pub record AreAllAddresses (n : Object) (x : Addresses) : Type 0 where
  pub sections : AreAddresses n x.sections.items
  pub stored_end : x.stored_end ≡ stored_end n
  pub memory_end : x.memory_end ≡ memory_end n
