-- The alignments of a target are alignments, none is above its greatest, and each is its own.
use Rattle.std.proofs.Common.{◌≡◌, ℕ, zero, suc, ◌+◌, ◌^◌, ◌<◌, ◌≤◌, inl, inr, Bool, true, false, cond, nat_le, Some, None, refl, ◌∙◌, ap, arith}
use Rattle.std.specs.{Prelude.{find}, Option.{unwrap_or}}
use Rattle.std.proofs.Math.Pow.{pow_mono, pow-lt}
use Rattle.std.proofs.lemmas.{Bool.{cases_eq}, Bool.Decides.{nat_tests}}
use Rattle.oc_base.specs.declared.format.Format.{Format}
use Rattle.oc_base.specs.declared.format.Format.TheVariants.{Elf32, Elf64, Coff32, Coff64, Mac32, Mac64, Omf, BigElf32, BigElf64, BigCoff32, BigCoff64}
use Rattle.oc_linking.specs.{Numbers.{first_from}, declared.terms.Binding.{Binding}}
use Rattle.oc_linking.specs.declared.terms.Binding.TheVariants.{Local, Global, Undefined, Common, Weak}
use Rattle.oc_neutral.specs.{Alignments.{most_align, output_align, common_align}, Invariants.{IsAlign}, Omf.Family.{omf_aligns}, Powers.{power_upto}}
use Rattle.oc_target.specs.Fitted.{fitted_binding}
use Rattle.oc_neutral.specs.declared.coff.TheConstants as coff
use Rattle.oc_neutral.specs.declared.elf.TheConstants as elf

-- the number that a search finds is not above its end, which stands for none
found_low : (test : ℕ → Bool) (start n end : ℕ) → start + n ≤ end → unwrap_or (first_from test start n) end ≤ end
found_low test start zero end l = omega arith
found_low test start (suc n) end l = by (test start) (found_low test (start + 1) n end (omega arith))
  where
    by : (b : Bool) → unwrap_or (first_from test (start + 1) n) end ≤ end → unwrap_or (cond b (Some start) (first_from test (start + 1) n)) end ≤ end
    by true rest = omega arith
    by false rest = rest

-- a number is found, where it is the first that passes, or the end
found_there : (test : ℕ → Bool) (start n end e : ℕ) → start + n ≡ end → start ≤ e → e ≤ end → ((k : ℕ) → k < e → test k ≡ false) → test e ≡ true → unwrap_or (first_from test start n) end ≡ e
found_there test start zero end e all low high before here = omega arith
found_there test start (suc n) end e all low high before here = elim (cases_eq start e) [
  | inl same ↦ ap (λ b. unwrap_or (cond b (Some start) (first_from test (start + 1) n)) end) (ap test same ∙ here) ∙ same
  | inr other ↦ ap (λ b. unwrap_or (cond b (Some start) (first_from test (start + 1) n)) end) (before start (omega arith)) ∙ found_there test (start + 1) n end e (omega arith) (omega arith) high before here
]

-- a power is one
pub power_is : (n a : ℕ) → n ≤ 20 → IsAlign (power_upto n a)
power_is n a few =
    let e : ℕ = unwrap_or (first_from (λ k. nat_le a (2 ^ k)) 0 n) n in
    let low : e ≤ n = found_low (λ k. nat_le a (2 ^ k)) 0 n n (omega arith) in
    (e, omega (arith, low, few), refl)

power_low : (n a : ℕ) → power_upto n a ≤ 2 ^ n
power_low n a = pow_mono (found_low (λ k. nat_le a (2 ^ k)) 0 n n (omega arith))

-- a power that is not above the greatest is its own
power_own : (n e : ℕ) → e ≤ n → power_upto n (2 ^ e) ≡ 2 ^ e
power_own n e low = ap (λ k. 2 ^ k) (found_there (λ k. nat_le (2 ^ e) (2 ^ k)) 0 n n e (omega arith) (omega arith) low
    (λ k l. let up : 2 ^ k < 2 ^ e = pow-lt l in grind (arith, nat_tests, up))
    (grind (arith, nat_tests)))

power_twice : (n a : ℕ) → power_upto n (power_upto n a) ≡ power_upto n a
power_twice n a = power_own n (unwrap_or (first_from (λ k. nat_le a (2 ^ k)) 0 n) n) (found_low (λ k. nat_le a (2 ^ k)) 0 n n (omega arith))

-- an alignment of OMF: the first of its five that is not below
abbrev omf_of : ℕ → ℕ
omf_of align = unwrap_or (find (nat_le align) omf_aligns) 256

omf_picked : (P : ℕ → Type 0) → P 1 → P 2 → P 4 → P 16 → P 256 → (a b c d e : Bool) → P (unwrap_or (cond a (Some 1) (cond b (Some 2) (cond c (Some 4) (cond d (Some 16) (cond e (Some 256) None))))) 256)
omf_picked P one two four sixteen most true b c d e = one
omf_picked P one two four sixteen most false true c d e = two
omf_picked P one two four sixteen most false false true d e = four
omf_picked P one two four sixteen most false false false true e = sixteen
omf_picked P one two four sixteen most false false false false true = most
omf_picked P one two four sixteen most false false false false false = most

-- what holds of each of the five holds of the alignment
omf_each : (P : ℕ → Type 0) → P 1 → P 2 → P 4 → P 16 → P 256 → (align : ℕ) → P (omf_of align)
omf_each P one two four sixteen most align = omf_picked P one two four sixteen most (nat_le align 1) (nat_le align 2) (nat_le align 4) (nat_le align 16) (nat_le align 256)

-- the alignment of a section in a target
pub align_is : (target : Format) (align : ℕ) → IsAlign (output_align target align)
unfolding output_align
align_is Elf32 align = power_is elf.ALIGN_BITS align (omega arith)
align_is BigElf32 align = power_is elf.ALIGN_BITS align (omega arith)
align_is Elf64 align = power_is elf.ALIGN_BITS align (omega arith)
align_is BigElf64 align = power_is elf.ALIGN_BITS align (omega arith)
align_is Coff32 align = power_is coff.ALIGN_BITS align (omega arith)
align_is BigCoff32 align = power_is coff.ALIGN_BITS align (omega arith)
align_is Coff64 align = power_is coff.ALIGN_BITS align (omega arith)
align_is BigCoff64 align = power_is coff.ALIGN_BITS align (omega arith)
align_is Mac32 align = power_is 15 align (omega arith)
align_is Mac64 align = power_is 15 align (omega arith)
align_is Omf align = omf_each IsAlign (0, omega arith, refl) (1, omega arith, refl) (2, omega arith, refl) (4, omega arith, refl) (8, omega arith, refl) align

pub align_low : (target : Format) (align : ℕ) → output_align target align ≤ most_align target
unfolding output_align
align_low target align = grind arith

pub align_twice : (target : Format) (align : ℕ) → output_align target (output_align target align) ≡ output_align target align
unfolding output_align
align_twice target align = grind arith

-- the alignment of a common in a target
pub common_is : (target : Format) (size align : ℕ) → IsAlign align → IsAlign (common_align target size align)
unfolding common_align
common_is Elf32 size align is = is
common_is BigElf32 size align is = is
common_is Elf64 size align is = is
common_is BigElf64 size align is = is
common_is Mac32 size align is = is
common_is Mac64 size align is = is
common_is Coff32 size align is = power_is 5 size (omega arith)
common_is BigCoff32 size align is = power_is 5 size (omega arith)
common_is Coff64 size align is = power_is 5 size (omega arith)
common_is BigCoff64 size align is = power_is 5 size (omega arith)
common_is Omf size align is = power_is 5 size (omega arith)

common_twice : (target : Format) (size align : ℕ) → common_align target size (common_align target size align) ≡ common_align target size align
unfolding common_align
common_twice target size align = grind arith

-- a binding in a target is its own there
pub binding_twice : (target : Format) (b : Binding) → fitted_binding target (fitted_binding target b) ≡ fitted_binding target b
binding_twice target (Local v) = refl
binding_twice target (Global v) = refl
binding_twice target Undefined = refl
binding_twice target (Common size align) = ap (Common size) (common_twice target size align)
binding_twice target (Weak f) = refl
