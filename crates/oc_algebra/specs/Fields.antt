-- Addends and the fields that hold them (our profile, addends in place).
use Rattle.std.specs.Prelude.{ℕ, ◌%◌, if◌then◌else◌, ℤ, ◌+ℤ◌, ◌-ℤ◌, Result, Ok, Err}
use Rattle.oc_base.specs.declared.format.Word.{Word}
use Rattle.oc_linking.specs.{declared.terms.Width.{Width}, Fits.{span, half}}
use Rattle.oc_algebra.specs.{declared.fields.AddendTooWide.{AddendTooWide}, Residues.{modulo, centred, is_signed_in, reduced_number}}

-- the only refusal
abbrev pub too_wide : AddendTooWide
too_wide = record {}

-- the sign-extended low bytes of a field
unfoldable pub extended : Width → ℕ → ℤ
extended k f = centred (half k) (span k) (f % span k)

-- the field that holds a number, where that is a signed number of its width
unfoldable pub field_for : Width → ℤ → Result ℕ AddendTooWide
field_for k n = if is_signed_in (half k) n then Ok (modulo (span k) n) else Err too_wide

-- the addend that a field holds: its sign-extended number and the shift
unfoldable pub from_field_of : Word → Width → ℤ → ℕ → ℤ
from_field_of w k shift f = reduced_number w (extended k f +ℤ shift)

-- the field that holds an addend: the shift is taken again
unfoldable pub to_field_of : Word → Width → ℤ → ℤ → Result ℕ AddendTooWide
to_field_of w k shift a = field_for k (reduced_number w (a -ℤ shift))
