use Rattle.std.proofs.Common.{◌≡◌, ◌*◌, ◌^◌, ◌<◌, length, arith, sym, ◌∙◌}
use Rattle.std.proofs.lemmas.Bool.Decides.{nat_tests}
use Rattle.oc_omf_records.proofs.SeekingLemmas.{in_each-empty}
use Rattle.oc_omf_records.proofs.seeking.in_each.Goals as goal

pub returns-then-is_empty : goal.returns-then-is_empty
returns-then-is_empty c =
    let empty : length c.args.places.now ≡ 0 = grind (arith, nat_tests) in
    c.new-all.ensures.items ∙ sym (in_each-empty c.args.count c.args.size _ empty)

pub overflow_mul-from : goal.overflow_mul-from
overflow_mul-from c =
    let some : 0 < length c.args.places.now = grind (arith, nat_tests) in
    let all : c.args.count * c.args.size < 2 ^ 31 = (c.requires 0 0 some).1 in
    grind arith
