-- The header fills what is left of the buffer.
use Rattle.std.proofs.Common.{◌≡◌, ℕ, ◌+◌, ◌-◌, List, length, arith}
use Rattle.oc_macho.specs.Structures.{section_bytes}
use Rattle.oc_shelf.proofs.WritingLaws.WindowLemmas.{filled_rest}
use Rattle.oc_macho_write.proofs.tables.fill_header.Goals as goal

pub returns : goal.returns
returns c = λ xs old long filled.
    let row : List ℕ = section_bytes c.args.word c.args.header.now in
    let at : c.saturating_sub-at.result ≡ c.args.from + c.args.done - length xs = omega (arith, long, c.saturating_sub-at.ensures) in
    filled_rest xs row old c.args.out.now c.header_window.new.out c.args.from c.saturating_sub-at.result c.args.done c.header_window.result filled at c.requires.room c.header_window.ensures
