-- How many bytes section headers take; what is counted by a flag.
use Rattle.std.proofs.Common.{◌≡◌, ℕ, ◌*◌, ◌≤◌, Bool, true, false, arith}
use mir.Val.{bool_byte}
use Rattle.oc_elf.specs.Shdr.{shdr_size}
use Rattle.oc_base.specs.{declared.format.Word.{Word}, declared.format.Word.TheVariants.{W32, W64}}

-- at least 40 for each
pub size_least : (word : Word) (n : ℕ) → 40 * n ≤ shdr_size word * n
size_least W32 n = omega arith
size_least W64 n = omega arith

-- and at most 64 for each
pub size_most : (word : Word) (n : ℕ) → shdr_size word * n ≤ 64 * n
size_most W32 n = omega arith
size_most W64 n = omega arith

-- a flag counts for one at most
pub bit_small : (b : Bool) (n : ℕ) → n ≡ bool_byte b → n ≤ 1
bit_small true n e = omega (arith, e)
bit_small false n e = omega (arith, e)
