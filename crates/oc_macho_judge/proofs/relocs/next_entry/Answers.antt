-- There is none behind the last.
use Rattle.std.proofs.Common.{◌+◌, sym, arith}
use Rattle.std.proofs.lemmas.Option.{slice_get_past}
use Rattle.oc_macho.specs.Framed.{table_at}
use Rattle.oc_macho_judge.proofs.relocs.next_entry.Goals as goal

pub returns-then-count-k-lt2 : goal.returns-then-count-k-lt2
returns-then-count-k-lt2 c =
    let long = c.requires.table.long in
    sym (slice_get_past (table_at c.args.frame.now c.args.i).relocs (c.args.k + 1) (omega (arith, long, c.if-count-k-lt2.true, c.requires.there)))
