-- The bytes fill what is left of the buffer.
use Rattle.std.proofs.Common.{◌≡◌, ◌+◌, ◌-◌, length, arith}
use Rattle.oc_shelf.proofs.WritingLaws.WindowLemmas.{filled_rest}
use Rattle.oc_omf_write.proofs.windows.fill.Goals as goal

pub returns : goal.returns
returns c = λ xs old long filled.
    let at : c.saturating_sub-at.result ≡ c.args.from + c.args.done - length xs = omega (arith, long, c.saturating_sub-at.ensures) in
    filled_rest xs c.args.bytes.now old c.args.out.now c.copy_window.new.out c.args.from c.saturating_sub-at.result c.args.done c.copy_window.result filled at c.requires.room c.copy_window.ensures
