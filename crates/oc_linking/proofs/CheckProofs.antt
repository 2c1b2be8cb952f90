-- The checks at their borders, and as integer types have them.
use Rattle.std.proofs.Common.{refl, arith}
use Rattle.std.proofs.lemmas.Int.{ints}
use Rattle.oc_base.specs.declared.format.Word.TheVariants.{W32, W64}
use Rattle.oc_linking.specs.{declared.terms.Width.TheVariants.{One, Two, Four, Eight}, Borders.{ChecksAtBorders, SignedFitsItsType}}

pub checks_at_borders : ChecksAtBorders
checks_at_borders = record { words_of_32 = refl; words_of_64 = refl }

pub signed_fits_its_type : SignedFitsItsType
signed_fits_its_type W32 One r l = grind (arith, ints)
signed_fits_its_type W32 Two r l = grind (arith, ints)
signed_fits_its_type W32 Four r l = grind (arith, ints)
signed_fits_its_type W32 Eight r l = grind (arith, ints)
signed_fits_its_type W64 One r l = grind (arith, ints)
signed_fits_its_type W64 Two r l = grind (arith, ints)
signed_fits_its_type W64 Four r l = grind (arith, ints)
signed_fits_its_type W64 Eight r l = grind (arith, ints)
