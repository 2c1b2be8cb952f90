-- One entry more.
use Rattle.oc_coff.specs.Files.{tables_in}
use Rattle.std.proofs.Common.{◌≡◌, ℕ, length, map, ◌∙◌, ap, arith}
use Rattle.std.specs.List.{range_with_len}
use Rattle.oc_coff_judge.specs.Aimed.{aim_numbered}
use Rattle.oc_coff_judge.proofs.AimLemmas.{aims_more}
use Rattle.oc_coff_judge.proofs.aims.aims_of.Goals as goal

pub loop-j-preserved : goal.loop-j-preserved
loop-j-preserved c =
    aims_more (tables_in c.args.coff.now) c.loop-j.aims.items c.push.new.self.items c.numbered_aim.result c.loop-j.j c.loop-j.invariant c.numbered_aim.ensures c.in_ok-push.ensures.items

pub returns : goal.returns
returns c =
    let end : c.loop-j.j ≡ length (tables_in c.args.coff.now).entries = omega (arith, c.loop-j-test.false, c.entry_count-count.ensures, c.loop-j.auto.j-end) in
    c.loop-j.invariant ∙ ap (λ (n : ℕ). map (aim_numbered (tables_in c.args.coff.now)) (range_with_len 0 n)) end
