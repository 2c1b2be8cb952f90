-- What a call leaves in the rooms of its caller (our profile).
use Rattle.std.specs.Prelude.{◌≡◌, ℕ, ℤ, pos, Bool, ◌&&◌, nat_le, if◌then◌else◌, List, ◌++◌, length, drop}
use Rattle.oc_embed.specs.{declared.room.Left.{Left}, Said.{Said}}

-- the bytes in the start of a room, of which the rest stays
abbrev pub laid : List ℕ → List ℕ → List ℕ
laid bytes room = bytes ++ drop (length bytes) room

module _ (said : Said) (output text : List ℕ) where
  -- the output and the text have room
  abbrev pub fits : Bool
  fits = nat_le (length said.output) (length output) && nat_le (length said.text) (length text)

  -- where they have, both are laid into the rooms, and the status is the one that is said; else the rooms stay, and it is 11. The sizes are told in any case
  pub record IsLeft (left : Left) (output_now text_now : List ℕ) : Type 0 where
    pub status : left.status ≡ (if fits then said.status else 11)
    pub output_size : left.output ≡ length said.output
    pub text_size : left.text ≡ length said.text
    pub output_laid : output_now ≡ (if fits then laid said.output output else output)
    pub text_laid : text_now ≡ (if fits then laid said.text text else text)

-- a call says something of which this holds
pub record Answers (Says : Said → Type 0) (output text : List ℕ) (left : Left) (output_now text_now : List ℕ) : Type 0 where
  pub said : Said
  pub says : Says said
  pub leaves : IsLeft said output text left output_now text_now

-- the same, where the status is an `int` of C
abbrev pub Returns : (Said → Type 0) → List ℕ → List ℕ → ℤ → ℕ → ℕ → List ℕ → List ℕ → Type 0
Returns Says output text result output_size text_size output_now text_now =
    (status : ℕ) × (result ≡ pos status) × Answers Says output text (record { status = status; output = output_size; text = text_size }) output_now text_now
