-- Copies of a fixup lie in its data, and apart.
use Rattle.std.proofs.Common.{◌≡◌, ℕ, ◌+◌, ◌-◌, ◌*◌, ◌<◌, ◌≤◌, Bool, true, false, cond, List, [], ◌∷◌, drop, get_or, length, None, Some, Result, Ok, Err, refl, sym, subst, arith}
use Rattle.std.specs.{Prelude.{◌&&◌, nat_le}, List.{All, AllByRecursion}, Option.{option_map}}
use Rattle.std.proofs.lemmas.{Bool.Decides.{nat_tests}, List.Elements.{All-weaker}, Option.{none-some, same_Some}}
use Rattle.oc_omf_records.specs.{declared.faults.BlockFault.{BlockFault}, declared.records.Entry.{Entry as Record}}
use Rattle.oc_omf_records.specs.{Blocks.{Blocks, content, copies_of, denotation, in_each, none, size_of, found}, BlockReading.{blocks_of}}
use Rattle.oc_omf_records.specs.Copies.{AreApart, IsCopy}
use Rattle.oc_omf_records.proofs.CopyLaws.{copies_are_copies_lem, length-denotation}
use Rattle.oc_omf.specs.{Cursor.{Reading, index_read, next, number_read}, Entries.{all_read, is_wide}, Sections.{blocks_in}}
use Rattle.oc_omf.specs.Structures.{Piece, blocks_by, long_size, piece_read}
use Rattle.oc_omf_read.specs.{declared.class.EntryClass.{EntryClass}, Classes.{class_of}, Defined.{read_in, said}}
use Rattle.oc_omf_read.specs.declared.class.EntryClass.TheVariants as class
use Rattle.oc_omf_read.proofs.{ClassLemmas.{has_no_data}, PieceLemmas.{iterated_pieces, no_pieces, plain_pieces}}

-- places of four bytes that lie in so many, and apart
pub record AreWell (size : ℕ) (places : List ℕ) : Type 0 where
  pub inside : All (λ p. p + 4 ≤ size) places
  pub apart : AreApart places

-- the copies of any four bytes of some blocks
abbrev pub HaveCopies : Blocks → Type 0
HaveCopies row = (at : ℕ) (places : List ℕ) → copies_of row at ≡ Some places → AreWell (size_of row) places

none_copied : HaveCopies none
none_copied at places e = absurd (none-some places e)

one_well : (size p : ℕ) → p + 4 ≤ size → AreWell size (p ∷ [])
one_well size p low = record { inside = λ k d l. first k d l; apart = λ i j d a b. absurd (omega (arith, a, b)) }
  where
    first : (k d : ℕ) → k < 1 → get_or (p ∷ []) k d + 4 ≤ size
    first k d l = grind arith

plain_copied : (b : List ℕ) → HaveCopies (content 1 0 b none)
plain_copied b at places e = by (nat_le 0 at && nat_le (at + 4) (0 + length b)) refl e
  where
    by : (t : Bool) → (nat_le 0 at && nat_le (at + 4) (0 + length b)) ≡ t
        → found (option_map (in_each 1 (length b)) (cond t (Some ((at - 0) ∷ [])) None)) (1 * length b) None ≡ Some places → AreWell (1 * length b + 0) places
    by false f e = absurd (none-some places e)
    by true f e =
        let high : at + 4 ≤ length b = grind (arith, nat_tests) in
        subst (AreWell (1 * length b + 0)) (same_Some ((0 * length b + (at - 0)) ∷ []) places e) (one_well (1 * length b + 0) (0 * length b + (at - 0)) (omega (arith, high)))

read_copied : (wide : Bool) (b : List ℕ) (row : Blocks) → blocks_of wide b ≡ Ok row → HaveCopies row
read_copied wide b row is at places e =
    let m = copies_are_copies_lem wide b row at places is e in
    record { inside = All-weaker (IsCopy b at (denotation row)) (λ p. p + 4 ≤ size_of row) (λ p copy. let inside = copy.inside in let long = length-denotation row in omega (arith, inside, long)) places m.0; apart = m.1 }

by_copied : (wide iterated : Bool) (b : List ℕ) → HaveCopies (blocks_in (blocks_by wide iterated b))
by_copied wide false b = plain_copied b
by_copied wide true b = by (blocks_of wide b) refl
  where
    by : (r : Result Blocks BlockFault) → blocks_of wide b ≡ r → HaveCopies (blocks_in r)
    by (Ok row) e = read_copied wide b row e
    by (Err f) e = none_copied

-- data whose copies are so
abbrev pub IsCopied : Piece → Type 0
IsCopied d = HaveCopies (blocks_in d.blocks)

piece_copied : (wide iterated : Bool) (b : List ℕ) → AllByRecursion IsCopied (read_in (piece_read wide iterated b 0))
unfolding piece_read
piece_copied wide iterated b = by_index (index_read b 0)
  where
    by_number : (segment : ℕ) (r : Reading ℕ)
        → AllByRecursion IsCopied (read_in (next r (λ offset at. Ok (record { segment = segment; offset = offset; blocks = blocks_by wide iterated (drop at b) }, length b))))
    by_number segment (Ok r) = (by_copied wide iterated (drop r.1 b), tt)
    by_number segment (Err c) = tt

    by_index : (r : Reading ℕ)
        → AllByRecursion IsCopied (read_in (next r (λ segment at. next (number_read (long_size wide) b at) (λ offset at. Ok (record { segment = segment; offset = offset; blocks = blocks_by wide iterated (drop at b) }, length b)))))
    by_index (Ok r) = by_number r.0 (number_read (long_size wide) b r.1)
    by_index (Err c) = tt

-- those of an entry
pub pieces_copied : (r : Record) → AllByRecursion IsCopied (all_read (said r).pieces)
pieces_copied r = by (class_of r.kind) refl
  where
    nothing : (k : EntryClass) → class_of r.kind ≡ k → has_no_data k ≡ true → AllByRecursion IsCopied (all_read (said r).pieces)
    nothing k is e = subst (AllByRecursion IsCopied) (sym (no_pieces r k is e)) tt

    by : (k : EntryClass) → class_of r.kind ≡ k → AllByRecursion IsCopied (all_read (said r).pieces)
    by class.Plain is = subst (AllByRecursion IsCopied) (sym (plain_pieces r is)) (piece_copied (is_wide r.kind) false r.contents)
    by class.Iterated is = subst (AllByRecursion IsCopied) (sym (iterated_pieces r is)) (piece_copied (is_wide r.kind) true r.contents)
    by class.Names is = nothing class.Names is refl
    by class.Segment is = nothing class.Segment is refl
    by class.Group is = nothing class.Group is refl
    by class.Publics is = nothing class.Publics is refl
    by class.LocalPublics is = nothing class.LocalPublics is refl
    by class.Externals is = nothing class.Externals is refl
    by class.LocalExternals is = nothing class.LocalExternals is refl
    by class.Communals is = nothing class.Communals is refl
    by class.Fixups is = nothing class.Fixups is refl
    by class.Nothing is = nothing class.Nothing is refl
