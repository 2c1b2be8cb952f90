-- Each structure that is read has a byte, and ends in the contents.
use Rattle.std.proofs.Common.{◌≡◌, ℕ, ◌+◌, ◌*◌, ◌<◌, ◌≤◌, Bool, true, false, List, length, Ok, Err, refl, sym, ◌∙◌, ap, arith}
use Rattle.std.specs.Prelude.{nat_le, cond}
use Rattle.std.proofs.lemmas.{Bool.{true≢false}, Bool.Decides.{nat_tests}}
use Rattle.oc_omf.specs.{Cursor.{Reading, index_read, next, number_read}, declared.structures.Datum.{Datum}, declared.structures.Method.{Method}}
use Rattle.oc_omf.specs.{declared.structures.Subrecord.{Subrecord}, declared.structures.Thread.{Thread}}
use Rattle.oc_omf.specs.Structures.{bits, communal_width, displacement_read, fixup_read, frame_read, long_size, method_read, subrecord_read, target_read, thread_read}
use Rattle.oc_neutral.specs.KindRules.{has}
use Rattle.oc_omf.specs.declared.structures.Datum.TheVariants as datum
use Rattle.oc_omf.specs.declared.structures.Subrecord.TheVariants as subrecord
use Rattle.oc_omf.proofs.EachLemmas.{index_goes, next_goes}

-- what is read at a place has a byte
abbrev Strict : {X : Type 0} → List ℕ → ℕ → Reading X → Type 0
Strict {X} b at r = (x : X) (q : ℕ) → r ≡ Ok (x, q) → (at < q) × (q ≤ length b)

-- what is read next may have none
abbrev Weak : {X : Type 0} → List ℕ → ℕ → Reading X → Type 0
Weak {X} b at r = (x : X) (q : ℕ) → r ≡ Ok (x, q) → at ≤ length b → (at ≤ q) × (q ≤ length b)

no_ok : {X Y : Type 0} (c : Y) (x : X) → Err c ≡ Ok x → ⊥
no_ok c x e = cc

weak_next : {X Y : Type 0} (b : List ℕ) (at : ℕ) (r : Reading X) (read : X → ℕ → Reading Y) → Weak b at r → ((x : X) (p : ℕ) → Weak b p (read x p)) → Weak b at (next r read)
weak_next b at (Ok r) read first rest y q e low = let a = first r.0 r.1 refl low in let c = rest r.0 r.1 y q e a.1 in (omega (arith, a.0, c.0), c.1)
weak_next b at (Err c) read first rest y q e low = absurd (no_ok c (y, q) e)

ends_at : {X : Type 0} (x y : X) (p q : ℕ) → (let a : Reading X = Ok (x, p) in let b : Reading X = Ok (y, q) in a ≡ b) → p ≡ q
ends_at {X} x y p q e = ap (λ (r : Reading X). elim r as (λ _. ℕ) [ Ok s ↦ s.1 | Err _ ↦ 0 ]) e

weak_last : {X : Type 0} (b : List ℕ) (x : X) (p : ℕ) → Weak {X = X} b p (Ok (x, p))
weak_last b x p y q e low = let same = ends_at x y p q e in (omega (arith, same), omega (arith, same, low))

weak_by : {X : Type 0} (b : List ℕ) (at : ℕ) (r : Reading X) → Strict b at r → Weak b at r
weak_by b at r first y q e low = let a = first y q e in (omega (arith, a.0), a.1)

weak_number : (k : ℕ) (b : List ℕ) (at : ℕ) → Weak b at (number_read k b at)
unfolding number_read
weak_number k b at x q e low = grind (arith, nat_tests)

-- ... symbols

length_by : (b : List ℕ) (form p : ℕ) (a : Bool) → Weak {X = ℕ × ℕ} b p (cond a (Ok ((form, form), p)) (next (number_read (communal_width form) b p) (λ size at. Ok ((form, size), at))))
length_by b form p true = weak_last b (form, form) p
length_by b form p false = weak_next b p (number_read (communal_width form) b p) (λ size at. Ok ((form, size), at)) (weak_number (communal_width form) b p) (λ size p. weak_last b (form, size) p)

-- ... threads and fixups

weak_method : (number : ℕ) (b : List ℕ) (at : ℕ) → Weak b at (method_read number b at)
unfolding method_read
weak_method number b at = by (nat_le number 2)
  where
    by : (c : Bool) → Weak {X = Method} b at (cond c (next (index_read b at) (λ index at. Ok (record { number = number; index = index }, at))) (Ok (record { number = number; index = 0 }, at)))
    by true = weak_next b at (index_read b at) (λ index at. Ok (record { number = number; index = index }, at)) (weak_by b at (index_read b at) (index_goes b at)) (λ index p. weak_last b (record { number = number; index = index }) p)
    by false = weak_last b (record { number = number; index = 0 }) at

weak_frame : (fix : ℕ) (b : List ℕ) (at : ℕ) → Weak b at (frame_read fix b at)
unfolding frame_read
weak_frame fix b at = by (has fix 0x80)
  where
    by : (c : Bool) → Weak {X = Datum} b at (cond c (Ok (datum.Thread (bits 4 3 fix), at)) (next (method_read (bits 4 3 fix) b at) (λ method at. Ok (datum.Explicit method, at))))
    by true = weak_last b (datum.Thread (bits 4 3 fix)) at
    by false = weak_next b at (method_read (bits 4 3 fix) b at) (λ method at. Ok (datum.Explicit method, at)) (weak_method (bits 4 3 fix) b at) (λ method p. weak_last b (datum.Explicit method) p)

weak_target : (fix : ℕ) (b : List ℕ) (at : ℕ) → Weak b at (target_read fix b at)
unfolding target_read
weak_target fix b at = by (has fix 8)
  where
    by : (c : Bool) → Weak {X = Datum} b at (cond c (Ok (datum.Thread (bits 0 2 fix), at)) (next (index_read b at) (λ index at. Ok (datum.Explicit (record { number = bits 0 2 fix; index = index }), at))))
    by true = weak_last b (datum.Thread (bits 0 2 fix)) at
    by false = weak_next b at (index_read b at) (λ index at. Ok (datum.Explicit (record { number = bits 0 2 fix; index = index }), at)) (weak_by b at (index_read b at) (index_goes b at))
        (λ index p. weak_last b (datum.Explicit (record { number = bits 0 2 fix; index = index })) p)

weak_displacement : (wide : Bool) (fix : ℕ) (b : List ℕ) (at : ℕ) → Weak b at (displacement_read wide fix b at)
unfolding displacement_read
weak_displacement wide fix b at = by (has fix 4)
  where
    by : (c : Bool) → Weak {X = ℕ} b at (cond c (Ok (0, at)) (number_read (long_size wide) b at))
    by true = weak_last b 0 at
    by false = weak_number (long_size wide) b at

-- a thread has one of four numbers
few_bits : (byte : ℕ) → bits 0 2 byte < 4
few_bits byte = omega arith

thread_few : (first : ℕ) (b : List ℕ) (at : ℕ) (x : Subrecord) (q : ℕ) → thread_read first b at ≡ Ok (x, q) → (t : Thread) → x ≡ subrecord.Thread t → t.number < 4
unfolding thread_read
thread_few first b at x q e t is =
    let number : ℕ = cond (has first 0x40) (bits 2 3 first) (bits 2 2 first) in
    by (method_read number b at) e
  where
    number_of : Subrecord → ℕ
    number_of (subrecord.Thread t) = t.number
    number_of (subrecord.Fixup f) = 0

    by : (r : Reading Method) → next r (λ method at. Ok (subrecord.Thread (record { frame = has first 0x40; number = bits 0 2 first; method = method }), at)) ≡ Ok (x, q) → t.number < 4
    by (Ok r) e =
        let same : bits 0 2 first ≡ t.number = ap (λ (r : Reading Subrecord). elim r as (λ _. ℕ) [ Ok s ↦ number_of s.0 | Err _ ↦ 0 ]) e ∙ ap number_of is in
        let few = few_bits first in omega (arith, same, few)
    by (Err c) e = absurd (no_ok c (x, q) e)

fixup_no_thread : (wide : Bool) (first : ℕ) (b : List ℕ) (at : ℕ) (t : Thread) (q : ℕ) → fixup_read wide first b at ≡ Ok (subrecord.Thread t, q) → ⊥
unfolding fixup_read
fixup_no_thread wide first b at t q e =
    let a = next_goes (number_read 1 b at) _ (subrecord.Thread t) q e in
    let c = next_goes (number_read 1 b a.1) _ (subrecord.Thread t) q a.3 in
    let d = next_goes (frame_read c.0 b c.1) _ (subrecord.Thread t) q c.3 in
    let f = next_goes (target_read c.0 b d.1) _ (subrecord.Thread t) q d.3 in
    let g = next_goes (displacement_read wide c.0 b f.1) _ (subrecord.Thread t) q f.3 in
    true≢false (sym (ap is_thread g.3))
  where
    is_thread : Reading Subrecord → Bool
    is_thread (Ok r) = of r.0
      where
        of : Subrecord → Bool
        of (subrecord.Thread t) = true
        of (subrecord.Fixup f) = false
    is_thread (Err c) = false

pub thread_low : (wide : Bool) (b : List ℕ) (at : ℕ) (t : Thread) (q : ℕ) → subrecord_read wide b at ≡ Ok (subrecord.Thread t, q) → t.number < 4
unfolding subrecord_read
thread_low wide b at t q e =
    let a = next_goes (number_read 1 b at) (λ first at. cond (has first 0x80) (fixup_read wide first b at) (thread_read first b at)) (subrecord.Thread t) q e in
    by a.0 a.1 (has a.0 0x80) a.3
  where
    by : (first p : ℕ) (c : Bool) → cond c (fixup_read wide first b p) (thread_read first b p) ≡ Ok (subrecord.Thread t, q) → t.number < 4
    by first p true e = absurd (fixup_no_thread wide first b p t q e)
    by first p false e = thread_few first b p (subrecord.Thread t) q e t refl
