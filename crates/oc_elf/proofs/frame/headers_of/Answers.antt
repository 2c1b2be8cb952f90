-- One header more.
use Rattle.std.proofs.Common.{sym, arith}
use Rattle.std.proofs.lemmas.List.FromFn.{map-range_with_len_more}
use Rattle.oc_elf.specs.Frames.{header_of}
use Rattle.oc_elf.proofs.frame.headers_of.Goals as goal

pub loop-k-preserved : goal.loop-k-preserved
loop-k-preserved c =
    rw (c.in_ok-push.ensures.items, c.loop-k.invariant, c.header_of.ensures)
    (sym (map-range_with_len_more (header_of c.args.word c.args.file.now) 0 c.loop-k.k c.loop-k.k (omega arith)))
