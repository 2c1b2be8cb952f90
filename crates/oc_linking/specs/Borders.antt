-- The borders of the checks, in both words (our profile).
use Rattle.std.specs.Prelude.{◌≡◌, ℕ, ◌-◌, ◌^◌, ◌<◌, ◌↔◌, Bool, true, false, List, [], ◌∷◌, map, FitsSigned}
use Rattle.std.specs.Int.{Width as IntWidth, w8, w16, w32, w64, cast_signed}
use Rattle.oc_base.specs.{declared.format.Word.{Word}, declared.format.Word.TheVariants.{W32, W64}}
use Rattle.oc_linking.specs.{declared.terms.Width.{Width}, declared.terms.Width.TheVariants.{One, Two, Four, Eight}, declared.terms.Check.{Check}}
use Rattle.oc_linking.specs.{declared.terms.Check.TheVariants.{Wrap, Signed, Unsigned, Either}, Numbers.{modulus}, Fits.{fits, fits_signed}}

-- a residue, and whether it fits
pub record Border : Type 0 where
  pub width : Width
  pub check : Check
  pub residue : ℕ
  pub fits : Bool

-- a line of the table
abbrev pub at : Width → Check → ℕ → Bool → Border
at width check residue fits = record { width = width; check = check; residue = residue; fits = fits }

-- in words of 32 bits, where a field of four bytes or more takes every residue
abbrev pub borders_32 : List Border
borders_32 =
    at One Signed 127 true ∷ at One Signed 128 false ∷ at One Signed (2 ^ 32 - 128) true ∷ at One Signed (2 ^ 32 - 129) false
    ∷ at Two Signed 32767 true ∷ at Two Signed 32768 false ∷ at Two Signed (2 ^ 32 - 32768) true ∷ at Two Signed (2 ^ 32 - 32769) false
    ∷ at Four Signed (2 ^ 31 - 1) true ∷ at Four Signed (2 ^ 31) true ∷ at Eight Signed (2 ^ 31) true
    ∷ at One Unsigned 255 true ∷ at One Unsigned 256 false ∷ at Two Unsigned 65535 true ∷ at Two Unsigned 65536 false
    ∷ at Four Unsigned (2 ^ 32 - 1) true ∷ at Eight Unsigned (2 ^ 32 - 1) true
    ∷ at One Either 255 true ∷ at One Either 256 false ∷ at One Either (2 ^ 32 - 128) true ∷ at One Either (2 ^ 32 - 129) false
    ∷ at Two Either 65535 true ∷ at Two Either 65536 false ∷ at Two Either (2 ^ 32 - 32768) true ∷ at Two Either (2 ^ 32 - 32769) false
    ∷ at One Wrap 256 true ∷ at Two Wrap (2 ^ 31) true ∷ at Four Wrap (2 ^ 32 - 1) true
    ∷ []

-- in words of 64 bits
abbrev pub borders_64 : List Border
borders_64 =
    at One Signed 127 true ∷ at One Signed 128 false ∷ at One Signed (2 ^ 64 - 128) true ∷ at One Signed (2 ^ 64 - 129) false
    ∷ at Two Signed 32767 true ∷ at Two Signed 32768 false ∷ at Two Signed (2 ^ 64 - 32768) true ∷ at Two Signed (2 ^ 64 - 32769) false
    ∷ at Four Signed (2 ^ 31 - 1) true ∷ at Four Signed (2 ^ 31) false ∷ at Four Signed (2 ^ 64 - 2 ^ 31) true ∷ at Four Signed (2 ^ 64 - 2 ^ 31 - 1) false
    ∷ at Eight Signed (2 ^ 63) true
    ∷ at One Unsigned 255 true ∷ at One Unsigned 256 false ∷ at Two Unsigned 65535 true ∷ at Two Unsigned 65536 false
    ∷ at Four Unsigned (2 ^ 32 - 1) true ∷ at Four Unsigned (2 ^ 32) false ∷ at Four Unsigned (2 ^ 64 - 1) false ∷ at Eight Unsigned (2 ^ 64 - 1) true
    ∷ at One Either 255 true ∷ at One Either 256 false ∷ at One Either (2 ^ 64 - 128) true ∷ at One Either (2 ^ 64 - 129) false
    ∷ at Four Either (2 ^ 32 - 1) true ∷ at Four Either (2 ^ 32) false ∷ at Four Either (2 ^ 64 - 2 ^ 31) true ∷ at Four Either (2 ^ 64 - 2 ^ 31 - 1) false
    ∷ at One Wrap 256 true ∷ at Four Wrap (2 ^ 32) true ∷ at Eight Wrap (2 ^ 64 - 1) true
    ∷ []

-- each line of a table agrees with the check
abbrev pub Holds : Word → List Border → Type 0
Holds w borders = map (λ b. fits w b.width b.check b.residue) borders ≡ map (λ b. b.fits) borders

-- the checks at their borders
pub record ChecksAtBorders : Type 0 where
  pub words_of_32 : Holds W32 borders_32
  pub words_of_64 : Holds W64 borders_64

-- the integer type that is as wide as a field
abbrev pub type_of : Width → IntWidth
type_of One = w8
type_of Two = w16
type_of Four = w32
type_of Eight = w64

-- the integer type that is as wide as a word
abbrev pub word_type : Word → IntWidth
word_type W32 = w32
word_type W64 = w64

-- a residue fits as signed where, taken as a signed number of its word, it is one of the field's signed type
abbrev pub SignedFitsItsType : Type 0
SignedFitsItsType = (w : Word) (width : Width) (r : ℕ) → r < modulus w → (fits_signed w width r ≡ true) ↔ FitsSigned (type_of width) (cast_signed (word_type w) r)
