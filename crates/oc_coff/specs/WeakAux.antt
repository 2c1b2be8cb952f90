-- The auxiliary entry after a weak external (PE/COFF, "Auxiliary Format 3: Weak Externals"; winnt.h, "IMAGE_AUX_SYMBOL_EX").
use Rattle.std.specs.Prelude.{ℕ, ◌+◌, List, [], ◌∷◌}
use Rattle.oc_base.specs.Numbers.{number_at}
use Rattle.oc_shelf.specs.Writing.Packed.{packed}
use Rattle.oc_coff.specs.{declared.form.Shape.{Shape}, declared.form.Shape.TheVariants.{Usual, Big}, declared.weak_aux.WeakAux.{WeakAux}}

-- the auxiliary entry at a place of the file
unfoldable pub weak_aux_at : List ℕ → ℕ → WeakAux
weak_aux_at file at = record {
  TagIndex = number_at file at 4;
  Characteristics = number_at file (at + 4) 4;
}

-- its numbers, each after its width; what is left is unused
abbrev pub weak_aux_numbers : Shape → WeakAux → List (ℕ × ℕ)
weak_aux_numbers Usual a = (4, a.TagIndex) ∷ (4, a.Characteristics) ∷ (10, 0) ∷ []
weak_aux_numbers Big a = (4, a.TagIndex) ∷ (4, a.Characteristics) ∷ (12, 0) ∷ []

-- its bytes
unfoldable pub weak_aux_bytes : Shape → WeakAux → List ℕ
weak_aux_bytes shape a = packed (weak_aux_numbers shape a)
