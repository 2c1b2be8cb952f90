-- Threads and fixups go forward, and end in the contents.
use Rattle.std.specs.Prelude.{if◌then◌else◌, nat_le}
use Rattle.std.proofs.Common.{◌≡◌, ℕ, ◌<◌, ◌≤◌, Bool, true, false, List, length, Ok, Err, ap, subst, arith}
use Rattle.oc_neutral.specs.KindRules.{has}
use Rattle.oc_omf.specs.declared.structures.Datum.TheVariants as datum
use Rattle.oc_omf.specs.{declared.structures.Method.{Method}, declared.structures.Subrecord.{Subrecord}, Cursor.{Reading, index_read, next, number_read}}
use Rattle.oc_omf.specs.Structures.{bits, displacement_read, fixup_read, frame_read, long_size, method_read, subrecord_read, target_read, thread_read}
use Rattle.oc_omf.specs.declared.structures.Subrecord.TheVariants as subrecord
use Rattle.oc_omf.proofs.EachLemmas.{Goes, byte_goes, index_goes, next_goes, number_goes}
use Rattle.oc_omf_judge.proofs.GoesLemmas.{after_of}
use Rattle.oc_omf_judge.specs.Threads.{HasNumber}

-- what is read stands at a place and ends in the contents
abbrev pub Stays : {X : Type 0} → Reading X → List ℕ → ℕ → Type 0
Stays {X} r b at = (x : X) (q : ℕ) → r ≡ Ok (x, q) → (at ≤ q) × (q ≤ length b)

here_stays : {X : Type 0} (x : X) (b : List ℕ) (at : ℕ) → at ≤ length b → Stays (Ok (x, at)) b at
here_stays {X} x b at low y q e = let last : at ≡ q = ap (after_of {X = X}) e in (omega (arith, last), omega (arith, low, last))

index_stays : {X : Type 0} (f : ℕ → X) (b : List ℕ) (at : ℕ) → Stays (next (index_read b at) (λ index at. Ok (f index, at))) b at
index_stays {X} f b at x q e =
    let first = next_goes (index_read b at) (λ index at. Ok (f index, at)) x q e in
    let last : first.1 ≡ q = ap (after_of {X = X}) first.3 in
    let a = index_goes b at first.0 first.1 first.2 in
    (omega (arith, a.0, last), omega (arith, a.1, last))

method_stays : (number : ℕ) (b : List ℕ) (at : ℕ) → at ≤ length b → Stays (method_read number b at) b at
unfolding method_read
method_stays number b at low = by (nat_le number 2)
  where
    by : (t : Bool) → Stays {X = Method} (if t then next (index_read b at) (λ index at. Ok (record { number = number; index = index }, at)) else Ok (record { number = number; index = 0 }, at)) b at
    by true = index_stays {X = Method} (λ (index : ℕ). record { number = number; index = index }) b at
    by false = here_stays {X = Method} (record { number = number; index = 0 }) b at low

-- two that are read one behind the other
next_stays : {X Y : Type 0} (r : Reading X) (read : X → ℕ → Reading Y) (b : List ℕ) (at : ℕ) → Stays r b at → ((x : X) (p : ℕ) → p ≤ length b → Stays (read x p) b p) → Stays (next r read) b at
next_stays r read b at first second y q e =
    let one = next_goes r read y q e in
    let a = first one.0 one.1 one.2 in
    let c = second one.0 one.1 a.1 y q one.3 in
    (omega (arith, a.0, c.0), c.1)

frame_stays : (fix : ℕ) (b : List ℕ) (at : ℕ) → at ≤ length b → Stays (frame_read fix b at) b at
unfolding frame_read
frame_stays fix b at low = by (has fix 0x80)
  where
    by : (t : Bool) → Stays (if t then Ok (datum.Thread (bits 4 3 fix), at) else next (method_read (bits 4 3 fix) b at) (λ method at. Ok (datum.Explicit method, at))) b at
    by true = here_stays (datum.Thread (bits 4 3 fix)) b at low
    by false = next_stays (method_read (bits 4 3 fix) b at) (λ method at. Ok (datum.Explicit method, at)) b at (method_stays (bits 4 3 fix) b at low) (λ m p l. here_stays (datum.Explicit m) b p l)

target_stays : (fix : ℕ) (b : List ℕ) (at : ℕ) → at ≤ length b → Stays (target_read fix b at) b at
unfolding target_read
target_stays fix b at low = by (has fix 8)
  where
    by : (t : Bool) → Stays (if t then Ok (datum.Thread (bits 0 2 fix), at) else next (index_read b at) (λ index at. Ok (datum.Explicit (record { number = bits 0 2 fix; index = index }), at))) b at
    by true = here_stays (datum.Thread (bits 0 2 fix)) b at low
    by false = index_stays (λ (index : ℕ). datum.Explicit (record { number = bits 0 2 fix; index = index })) b at

displacement_stays : (wide : Bool) (fix : ℕ) (b : List ℕ) (at : ℕ) → at ≤ length b → Stays (displacement_read wide fix b at) b at
unfolding displacement_read
displacement_stays wide fix b at low = by (has fix 4)
  where
    by : (t : Bool) → Stays (if t then Ok (0, at) else number_read (long_size wide) b at) b at
    by true = here_stays 0 b at low
    by false = number_goes (long_size wide) b at

byte_stays : (b : List ℕ) (at : ℕ) → Stays (number_read 1 b at) b at
byte_stays b at = number_goes 1 b at

fixup_stays : (wide : Bool) (first : ℕ) (b : List ℕ) (at : ℕ) → at ≤ length b → Stays (fixup_read wide first b at) b at
unfolding fixup_read
fixup_stays wide first b at low =
    next_stays (number_read 1 b at) _ b at (byte_stays b at) (λ low p l.
    next_stays (number_read 1 b p) _ b p (byte_stays b p) (λ fix p l.
    next_stays (frame_read fix b p) _ b p (frame_stays fix b p l) (λ frame p l.
    next_stays (target_read fix b p) _ b p (target_stays fix b p l) (λ target p l.
    next_stays (displacement_read wide fix b p) _ b p (displacement_stays wide fix b p l) (λ displacement p l. here_stays _ b p l)))))

thread_stays : (first : ℕ) (b : List ℕ) (at : ℕ) → at ≤ length b → Stays (thread_read first b at) b at
unfolding thread_read
thread_stays first b at low = next_stays (method_read (if has first 0x40 then bits 2 3 first else bits 2 2 first) b at) _ b at (method_stays (if has first 0x40 then bits 2 3 first else bits 2 2 first) b at low) (λ m p l. here_stays _ b p l)

pub subrecord_goes : (wide : Bool) (b : List ℕ) → Goes (subrecord_read wide) b
unfolding subrecord_read
subrecord_goes wide b at x q e =
    let first = next_goes (number_read 1 b at) (λ first at. if has first 0x80 then fixup_read wide first b at else thread_read first b at) x q e in
    let a = byte_goes b at first.0 first.1 first.2 in
    let c = by first.0 first.1 a.1 (has first.0 0x80) x q first.3 in
    (omega (arith, a.0, c.0), c.1)
  where
    by : (first p : ℕ) → p ≤ length b → (t : Bool) → Stays (if t then fixup_read wide first b p else thread_read first b p) b p
    by first p low true = fixup_stays wide first b p low
    by first p low false = thread_stays first b p low

-- ... numbers of threads

abbrev IsNumbered : Reading Subrecord → Type 0
IsNumbered r = (x : Subrecord) (q : ℕ) → r ≡ Ok (x, q) → HasNumber x

abbrev part_in : Reading Subrecord → Subrecord → Subrecord
part_in (Ok r) x = r.0
part_in (Err c) x = x

numbered_here : (x : Subrecord) (at : ℕ) → HasNumber x → IsNumbered (Ok (x, at))
numbered_here x at is y q e = let same : x ≡ y = ap (λ r. part_in r x) e in subst HasNumber same is

numbered_next : {X : Type 0} (r : Reading X) (read : X → ℕ → Reading Subrecord) → ((x : X) (p : ℕ) → IsNumbered (read x p)) → IsNumbered (next r read)
numbered_next r read each y q e = let one = next_goes r read y q e in each one.0 one.1 y q one.3

fixup_numbered : (wide : Bool) (first : ℕ) (b : List ℕ) (at : ℕ) → IsNumbered (fixup_read wide first b at)
unfolding fixup_read
fixup_numbered wide first b at =
    numbered_next (number_read 1 b at) _ (λ low p. numbered_next (number_read 1 b p) _ (λ fix p. numbered_next (frame_read fix b p) _ (λ frame p.
    numbered_next (target_read fix b p) _ (λ target p. numbered_next (displacement_read wide fix b p) _ (λ displacement p. numbered_here _ p tt)))))

thread_numbered : (first : ℕ) (b : List ℕ) (at : ℕ) → IsNumbered (thread_read first b at)
unfolding thread_read
thread_numbered first b at =
    numbered_next (method_read (if has first 0x40 then bits 2 3 first else bits 2 2 first) b at) _ (λ m p. numbered_here (subrecord.Thread (record { frame = has first 0x40; number = bits 0 2 first; method = m })) p (small first))
  where
    small : (byte : ℕ) → bits 0 2 byte < 4
    small byte = omega arith

pub subrecord_numbered : (wide : Bool) (b : List ℕ) (at q : ℕ) (x : Subrecord) → subrecord_read wide b at ≡ Ok (x, q) → HasNumber x
unfolding subrecord_read
subrecord_numbered wide b at q x e =
    numbered_next (number_read 1 b at) (λ first at. if has first 0x80 then fixup_read wide first b at else thread_read first b at) (λ first p. by first p (has first 0x80)) x q e
  where
    by : (first p : ℕ) (t : Bool) → IsNumbered (if t then fixup_read wide first b p else thread_read first b p)
    by first p true = fixup_numbered wide first b p
    by first p false = thread_numbered first b p
