-- Structures with names go forward, and end in the contents.
use Rattle.std.specs.Prelude.{if◌then◌else◌, nat_eq}
use Rattle.std.proofs.Common.{◌≡◌, ℕ, ◌≤◌, Bool, true, false, List, length, Some, None, Ok, Err, ap, arith}
use Rattle.oc_omf.specs.Cursor.{Reading, index_read, name_read, next, number_read}
use Rattle.oc_omf.specs.Structures.{communal_length, communal_read, communal_width, external_read, long_size, public_read}
use Rattle.oc_omf.proofs.EachLemmas.{Goes, index_goes, name_goes, next_goes, number_goes}

-- the place after what is read
abbrev pub after_of : {X : Type 0} → Reading X → ℕ
after_of r = elim r as (λ _. ℕ) [ Ok s ↦ s.1 | Err _ ↦ 0 ]

pub public_goes : (wide local : Bool) (segment : ℕ) (b : List ℕ) → Goes (public_read wide local segment) b
unfolding public_read
public_goes wide local segment b at x q e =
    let first = next_goes (name_read b at) (λ name at. next (number_read (long_size wide) b at) (λ offset at. next (index_read b at) (λ _ at.
    Ok (record { local = local; name = name; segment = segment; offset = offset }, at)))) x q e in
    let second = next_goes (number_read (long_size wide) b first.1) (λ offset at. next (index_read b at) (λ _ at. Ok (record { local = local; name = first.0; segment = segment; offset = offset }, at))) x q first.3 in
    let third = next_goes (index_read b second.1) (λ _ at. Ok (record { local = local; name = first.0; segment = segment; offset = second.0 }, at)) x q second.3 in
    let last : third.1 ≡ q = ap after_of third.3 in
    let a = name_goes b at first.0 first.1 first.2 in
    let c = number_goes (long_size wide) b first.1 second.0 second.1 second.2 in
    let d = index_goes b second.1 third.0 third.1 third.2 in
    (omega (arith, a.0, c.0, d.0, last), omega (arith, d.1, last))

pub external_goes : (local : Bool) (b : List ℕ) → Goes (external_read local) b
unfolding external_read
external_goes local b at x q e =
    let first = next_goes (name_read b at) (λ name at. next (index_read b at) (λ _ at. Ok (record { local = local; name = name; communal = None }, at))) x q e in
    let second = next_goes (index_read b first.1) (λ _ at. Ok (record { local = local; name = first.0; communal = None }, at)) x q first.3 in
    let last : second.1 ≡ q = ap after_of second.3 in
    let a = name_goes b at first.0 first.1 first.2 in
    let d = index_goes b first.1 second.0 second.1 second.2 in
    (omega (arith, a.0, d.0, last), omega (arith, d.1, last))

-- the length of a communal
length_goes : (b : List ℕ) (at : ℕ) (x : ℕ × ℕ) (q : ℕ) → communal_length b at ≡ Ok (x, q) → (at ≤ q) × (q ≤ length b)
unfolding communal_length
length_goes b at x q e =
    let first = next_goes (number_read 1 b at) (λ form at. if nat_eq (communal_width form) 0 then Ok ((form, form), at) else next (number_read (communal_width form) b at) (λ size at. Ok ((form, size), at))) x q e in
    let a = number_goes 1 b at first.0 first.1 first.2 in
    by first.0 first.1 a (nat_eq (communal_width first.0) 0) first.3
  where
    by : (form p : ℕ) → (at ≤ p) × (p ≤ length b) → (t : Bool) → (if t then Ok ((form, form), p) else next (number_read (communal_width form) b p) (λ size at. Ok ((form, size), at))) ≡ Ok (x, q) → (at ≤ q) × (q ≤ length b)
    by form p a true f = let last : p ≡ q = ap (after_of {X = ℕ × ℕ}) f in (omega (arith, a.0, last), omega (arith, a.1, last))
    by form p a false f =
        let second = next_goes (number_read (communal_width form) b p) (λ size at. Ok ((form, size), at)) x q f in
        let c = number_goes (communal_width form) b p second.0 second.1 second.2 in
        let last : second.1 ≡ q = ap (after_of {X = ℕ × ℕ}) second.3 in
        (omega (arith, a.0, c.0, last), omega (arith, c.1, last))

pub communal_goes : (b : List ℕ) → Goes communal_read b
unfolding communal_read
communal_goes b at x q e =
    let first = next_goes (name_read b at) (λ name at. next (index_read b at) (λ _ at. next (number_read 1 b at) (λ kind at. next (communal_length b at) (λ size at.
    Ok (record { local = false; name = name; communal = Some (record { kind = kind; form = size.0; length = size.1 }) }, at))))) x q e in
    let second = next_goes (index_read b first.1) (λ _ at. next (number_read 1 b at) (λ kind at. next (communal_length b at) (λ size at.
    Ok (record { local = false; name = first.0; communal = Some (record { kind = kind; form = size.0; length = size.1 }) }, at)))) x q first.3 in
    let third = next_goes (number_read 1 b second.1) (λ kind at. next (communal_length b at) (λ size at.
    Ok (record { local = false; name = first.0; communal = Some (record { kind = kind; form = size.0; length = size.1 }) }, at))) x q second.3 in
    let fourth = next_goes (communal_length b third.1) (λ size at. Ok (record { local = false; name = first.0; communal = Some (record { kind = third.0; form = size.0; length = size.1 }) }, at)) x q third.3 in
    let last : fourth.1 ≡ q = ap after_of fourth.3 in
    let a = name_goes b at first.0 first.1 first.2 in
    let d = index_goes b first.1 second.0 second.1 second.2 in
    let f = number_goes 1 b second.1 third.0 third.1 third.2 in
    let g = length_goes b third.1 fourth.0 fourth.1 fourth.2 in
    (omega (arith, a.0, d.0, f.0, g.0, last), omega (arith, g.1, last))
