-- What is read of an entry is what it says.
use Rattle.std.proofs.Common.{sym, subst}
use Rattle.std.specs.Prelude.{IfOk}
use Rattle.oc_omf_read.specs.Pieces.{ArePieces}
use Rattle.oc_omf_read.proofs.{ClassLemmas.{no_data}, PieceLemmas.{iterated_pieces, no_pieces, plain_pieces}}
use Rattle.oc_omf_read.proofs.pieces.piece_of.Goals as goal

pub returns-in-Plain : goal.returns-in-Plain
returns-in-Plain c = subst (λ ds. IfOk c.read_piece.result (λ p. ArePieces p ds)) (sym (plain_pieces c.args.entry.now (sym c.in-Plain.ensures))) c.read_piece.ensures

pub returns-in-Iterated : goal.returns-in-Iterated
returns-in-Iterated c = subst (λ ds. IfOk c.read_piece-in-Iterated.result (λ p. ArePieces p ds)) (sym (iterated_pieces c.args.entry.now (sym c.in-Iterated.ensures))) c.read_piece-in-Iterated.ensures

pub returns-in-Names : goal.returns-in-Names
returns-in-Names c = no_pieces c.args.entry.now c.class_of.result (sym c.class_of.ensures) (no_data c.class_of.result c.in-Names.is)
