-- The addresses that an output gives to its sections (our profile): from 0 on, those with bytes in the file, and after them those without.
use Rattle.std.specs.{Prelude.{ℕ, Bool, not, nat_eq, List, ◌++◌}, List.{enumerate_from, filter}}
use Rattle.oc_neutral.specs.{declared.section.Section.{Section}, Building.{is_zero}, Objects.{Object}}
use Rattle.oc_shelf.specs.Writing.Parts.{Laid, laid, laid_end, aligned, place_where}

-- a section with its position
abbrev pub Numbered : Type 0
Numbered = ℕ × Section

-- its kind is Zero, so it has no bytes in the file
abbrev pub is_blank : Numbered → Bool
is_blank x = is_zero x.1.kind

-- the sections with bytes, and those without
abbrev pub stored_sections : Object → List Numbered
stored_sections n = filter (λ x. not (is_blank x)) (enumerate_from 0 n.sections)

abbrev pub blank_sections : Object → List Numbered
blank_sections n = filter is_blank (enumerate_from 0 n.sections)

-- each lies at the next multiple of its alignment, an empty one too
abbrev pub section_begin : ℕ → Numbered → ℕ
section_begin at x = aligned x.1.align at

abbrev pub size_of : Numbered → ℕ
size_of x = x.1.size

-- the sections with their addresses
abbrev pub mapped : Object → List (Laid Numbered)
mapped n = laid section_begin size_of 0 (stored_sections n ++ blank_sections n)

-- the section is the one at position k
abbrev pub is_at : ℕ → Numbered → Bool
is_at k x = nat_eq x.0 k

-- the address of the section at a position
unfoldable pub address_of : Object → ℕ → ℕ
address_of n k = place_where (is_at k) (mapped n)

-- where all sections end, and where those with bytes do
abbrev pub memory_end : Object → ℕ
memory_end n = laid_end section_begin size_of 0 (stored_sections n ++ blank_sections n)

abbrev pub stored_end : Object → ℕ
stored_end n = laid_end section_begin size_of 0 (stored_sections n)
