-- As many bytes as the entries have, each.
use Rattle.std.proofs.Common.{◌≡◌, ◌*◌, length, sym, ◌∙◌, ap, arith}
use Rattle.oc_shelf.proofs.WritingLaws.TableLemmas.{table_long}
use Rattle.oc_elf_write.specs.Tables.{rows_by}
use Rattle.oc_elf_write.proofs.tables.TableRows.byte_count.Goals as goal

pub overflow_mul-result : goal.overflow_mul-result
overflow_mul-result c =
    let long = table_long c.size.result (rows_by c.args.self.now) c.size.ensures.same in
    let same : c.size.result * c.count.result ≡ c.size.result * length (rows_by c.args.self.now) = ap (λ n. c.size.result * n) c.count.ensures in
    let small = c.requires in
    omega (arith, long, same, small)

pub returns : goal.returns
returns c = ap (λ n. c.size.result * n) c.count.ensures ∙ sym (table_long c.size.result (rows_by c.args.self.now) c.size.ensures.same)
