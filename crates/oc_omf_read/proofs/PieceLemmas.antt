-- Data of entries, and what they cover.
use Rattle.std.proofs.Common.{◌≡◌, ℕ, ◌≤◌, Bool, true, false, List, [], length, drop, Some, Ok, Err, sym, ◌∙◌, ap, arith}
use Rattle.std.proofs.lemmas.{Bool.{true≢false}, Bool.Decides.{nat_tests}}
use Rattle.oc_omf_records.specs.declared.records.Entry.{Entry as Record}
use Rattle.oc_omf.specs.{declared.cut.Cut.{Cut}, Cursor.{Reading, index_read, next, number_read}, Structures.{blocks_by, long_size, piece_read}}
use Rattle.oc_omf.specs.{Entries.{Entry, all_read, is_wide}, Sections.{blocks_in}}
use Rattle.oc_omf_read.specs.{declared.class.EntryClass.{EntryClass}, declared.pieces.FoundPiece.{FoundPiece}, Classes.{class_of}, Defined.{read_in, said}}
use Rattle.oc_omf_read.specs.Pieces.{ArePieces, row_in}
use Rattle.oc_omf_read.specs.declared.class.EntryClass.TheVariants as class
use Rattle.oc_omf_read.proofs.{ClassLemmas.{has_no_data, read_whole}, DefinedLemmas.{said_by_class}}

-- ... one structure

module _ (wide iterated : Bool) (b : List ℕ) where
  pub piece_made : (segment at offset behind : ℕ) (p : FoundPiece) → Ok (segment, at) ≡ index_read b 0 → Ok (offset, behind) ≡ number_read (long_size wide) b at → p.segment ≡ segment → p.offset ≡ offset
      → row_in p.data ≡ blocks_in (blocks_by wide iterated (drop behind b)) → ArePieces (Some p) (read_in (piece_read wide iterated b 0))
  unfolding piece_read
  piece_made segment at offset behind p first second segment_is offset_is row = (
    record { segment = segment; offset = offset; blocks = blocks_by wide iterated (drop behind b) },
    ap (λ (r : Reading ℕ). read_in (next r (λ segment at. next (number_read (long_size wide) b at) (λ offset at. Ok (record { segment = segment; offset = offset; blocks = blocks_by wide iterated (drop at b) }, length b))))) (sym first)
        ∙ ap (λ (r : Reading ℕ). read_in (next r (λ offset at. Ok (record { segment = segment; offset = offset; blocks = blocks_by wide iterated (drop at b) }, length b)))) (sym second),
    record { segment = sym segment_is; offset = sym offset_is; row = sym row },
  )

  pub piece_cut : (c : Cut) → Err c ≡ index_read b 0 → read_in (piece_read wide iterated b 0) ≡ []
  unfolding piece_read
  piece_cut c first =
      ap (λ (r : Reading ℕ). read_in (next r (λ segment at. next (number_read (long_size wide) b at) (λ offset at. Ok (record { segment = segment; offset = offset; blocks = blocks_by wide iterated (drop at b) }, length b))))) (sym first)

  pub piece_cut_later : (segment at : ℕ) (c : Cut) → Ok (segment, at) ≡ index_read b 0 → Err c ≡ number_read (long_size wide) b at → read_in (piece_read wide iterated b 0) ≡ []
  unfolding piece_read
  piece_cut_later segment at c first second =
      ap (λ (r : Reading ℕ). read_in (next r (λ segment at. next (number_read (long_size wide) b at) (λ offset at. Ok (record { segment = segment; offset = offset; blocks = blocks_by wide iterated (drop at b) }, length b))))) (sym first)
      ∙ ap (λ (r : Reading ℕ). read_in (next r (λ offset at. Ok (record { segment = segment; offset = offset; blocks = blocks_by wide iterated (drop at b) }, length b)))) (sym second)

-- ... an entry

pub plain_pieces : (r : Record) → class_of r.kind ≡ class.Plain → all_read (said r).pieces ≡ read_in (piece_read (is_wide r.kind) false r.contents 0)
plain_pieces r is = ap (λ (e : Entry). all_read e.pieces) (said_by_class r class.Plain is) ∙ read_whole r.place (piece_read (is_wide r.kind) false r.contents 0)

pub iterated_pieces : (r : Record) → class_of r.kind ≡ class.Iterated → all_read (said r).pieces ≡ read_in (piece_read (is_wide r.kind) true r.contents 0)
iterated_pieces r is = ap (λ (e : Entry). all_read e.pieces) (said_by_class r class.Iterated is) ∙ read_whole r.place (piece_read (is_wide r.kind) true r.contents 0)

pub no_pieces : (r : Record) (k : EntryClass) → class_of r.kind ≡ k → has_no_data k ≡ true → all_read (said r).pieces ≡ []
no_pieces r class.Names is e = ap (λ (e : Entry). all_read e.pieces) (said_by_class r class.Names is)
no_pieces r class.Segment is e = ap (λ (e : Entry). all_read e.pieces) (said_by_class r class.Segment is)
no_pieces r class.Group is e = ap (λ (e : Entry). all_read e.pieces) (said_by_class r class.Group is)
no_pieces r class.Publics is e = ap (λ (e : Entry). all_read e.pieces) (said_by_class r class.Publics is)
no_pieces r class.LocalPublics is e = ap (λ (e : Entry). all_read e.pieces) (said_by_class r class.LocalPublics is)
no_pieces r class.Externals is e = ap (λ (e : Entry). all_read e.pieces) (said_by_class r class.Externals is)
no_pieces r class.LocalExternals is e = ap (λ (e : Entry). all_read e.pieces) (said_by_class r class.LocalExternals is)
no_pieces r class.Communals is e = ap (λ (e : Entry). all_read e.pieces) (said_by_class r class.Communals is)
no_pieces r class.Plain is e = absurd (true≢false (sym e))
no_pieces r class.Iterated is e = absurd (true≢false (sym e))
no_pieces r class.Fixups is e = ap (λ (e : Entry). all_read e.pieces) (said_by_class r class.Fixups is)
no_pieces r class.Nothing is e = ap (λ (e : Entry). all_read e.pieces) (said_by_class r class.Nothing is)

-- a number that is read ends in the contents
pub number_inside : (k : ℕ) (b : List ℕ) (at n q : ℕ) → Ok (n, q) ≡ number_read k b at → q ≤ length b
unfolding number_read
number_inside k b at n q e = grind (arith, nat_tests)
