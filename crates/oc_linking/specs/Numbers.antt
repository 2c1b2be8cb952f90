-- Residues of a word (our profile: addresses, addends and values are taken modulo 2^W), and the first of several.
use Rattle.std.specs.Prelude.{ℕ, zero, suc, ◌+◌, ◌-◌, ◌%◌, ◌^◌, Bool, if◌then◌else◌, Option, Some, None}
use Rattle.oc_base.specs.{declared.format.Word.{Word}, declared.format.Word.TheVariants.{W32, W64}}

-- 2^W, where addresses have W bits
abbrev pub modulus : Word → ℕ
modulus W32 = 2 ^ 32
modulus W64 = 2 ^ 64

-- a number modulo 2^W
abbrev pub reduced : Word → ℕ → ℕ
reduced w a = a % modulus w

-- a less b, modulo 2^W
abbrev pub minus : Word → ℕ → ℕ → ℕ
minus w a b = (a + (modulus w - b % modulus w)) % modulus w

-- the first of two that exists
abbrev pub or_else : {X : Type 0} → Option X → Option X → Option X
or_else None y = y
or_else (Some x) y = Some x

-- the first that exists, of the first n
abbrev pub first_upto : {X : Type 0} → (ℕ → Option X) → ℕ → Option X
first_upto item zero = None
first_upto item (suc n) = or_else (first_upto item n) (item n)

-- the first number that passes the test, of the n from a start on
abbrev pub first_from : (ℕ → Bool) → ℕ → ℕ → Option ℕ
first_from test start zero = None
first_from test start (suc n) = if test start then Some start else first_from test (start + 1) n
