-- Laws of texts that grow.
use Rattle.std.proofs.Common.{◌≡◌, refl, sym, ap, ◌∙◌, ℕ, ◌+◌, ◌-◌, ◌≤◌, List, [], ◌++◌, length, take, drop, append_assoc, append-nil, length-take, take-take, arith, Option, None, Some}
use Rattle.std.proofs.Math.Seq.{take-add}
use Rattle.oc_outside.specs.Texts.{grown}

pub grown_nothing : (text : Option (List ℕ)) → grown [] text ≡ text
unfolding grown
grown_nothing None = refl
grown_nothing (Some b) = ap Some (append-nil b)

pub grown_told : (piece bytes : List ℕ) → grown piece (Some bytes) ≡ Some (bytes ++ piece)
unfolding grown
grown_told piece bytes = refl

pub grown_untold : (piece : List ℕ) → grown piece None ≡ None
unfolding grown
grown_untold piece = refl

-- one part after the other
pub grown_twice : (p q : List ℕ) (text : Option (List ℕ)) → grown q (grown p text) ≡ grown (p ++ q) text
unfolding grown
grown_twice p q None = refl
grown_twice p q (Some b) = ap Some (append_assoc b p q)

-- the text has `at` bytes of these, and takes n more of a piece that begins there
pub grown_more :
    (text : Option (List ℕ)) (bytes : List ℕ) (at len n : ℕ)
    → n ≤ len
    → grown (take n (take len (drop at bytes))) (grown (take at bytes) text) ≡ grown (take (at + n) bytes) text
grown_more text bytes at len n h =
    grown_twice (take at bytes) (take n (take len (drop at bytes))) text
    ∙ ap (λ p. grown (take at bytes ++ p) text) (take-take n len (drop at bytes) h)
    ∙ ap (λ p. grown p text) (sym (take-add at n bytes))

-- a turn of a loop over pieces: the sink has `at` bytes, was given the piece up to `end` and took n of it
pub turn :
    (text between now : Option (List ℕ)) (bytes : List ℕ) (at end n : ℕ)
    → n ≤ length (take (end - at) (drop at bytes))
    → between ≡ grown (take at bytes) text
    → now ≡ grown (take n (take (end - at) (drop at bytes))) between
    → now ≡ grown (take (at + n) bytes) text
turn text between now bytes at end n within had took =
    took
    ∙ ap (grown (take n (take (end - at) (drop at bytes)))) had
    ∙ grown_more text bytes at (end - at) n (omega (arith, within, length-take (end - at) (drop at bytes)))
