-- There is a key, or none, for each header.
use Rattle.std.proofs.Common.{◌≡◌, ◌∙◌, length, ap, arith}
use Rattle.std.proofs.lemmas.{List.{length-map}, List.FromFn.{length-map-range_with_len}}
use Rattle.std.specs.Option.{option_copied}
use Rattle.oc_strings.specs.Repeats.{names_of}
use Rattle.oc_elf.specs.Groups.{comdat_key}
use Rattle.oc_elf_judge.proofs.signatures.bad_signatures.Goals as goal

pub is_repeated-requires-clause-there : goal.is_repeated-requires-clause-there
is_repeated-requires-clause-there c =
    let long : length (names_of c.in_ok-keys.keys.items) ≡ length c.args.frame.now.headers = ap length c.in_ok-keys.ensures ∙ length-map-range_with_len (comdat_key c.args.frame.now) 0 (length c.args.frame.now.headers) in
    let same : length c.as_slice-in-loop-g.result.now ≡ length c.in_ok-keys.keys.items = ap length c.as_slice-in-loop-g.ensures.value in
    omega (arith, long, same, length-map c.in_ok-keys.keys.items option_copied, c.loop-g-test.true, c.count-g-end.ensures.count)
