-- Constants in fields (our profile, linking).
use Rattle.std.specs.Prelude.{ℕ, ◌%◌, if◌then◌else◌, ℤ, Result, Ok, Err}
use Rattle.oc_base.specs.declared.format.Word.{Word}
use Rattle.oc_linking.specs.{declared.terms.Width.{Width}, declared.terms.Check.{Check}, Fits.{span, fits}}
use Rattle.oc_algebra.specs.{declared.fields.AddendTooWide.{AddendTooWide}, Fields.{too_wide}, Residues.{residue_of}}

-- what a field stores of a residue: the number of its low bytes
abbrev pub low_of : Width → ℕ → ℕ
low_of k r = r % span k

-- the field that a constant leaves, where its residue fits the check
unfoldable pub fold_of : Word → Width → Check → ℤ → Result ℕ AddendTooWide
fold_of w k check value = if fits w k check (residue_of w value) then Ok (low_of k (residue_of w value)) else Err too_wide
