-- The slot of the section that leads a group has the position of its key.
use Rattle.oc_coff.specs.Files.{tables_in}
use Rattle.std.proofs.Common.{ℕ, sym, ◌∙◌, ap, List}
use Rattle.std.specs.{Prelude.{bytes_eq}, List.{position_or_len}, Option.{option_map}}
use Rattle.oc_coff_read.specs.Built.{keys_of}
use Rattle.oc_coff_read.proofs.BegunLemmas.{begun_at}
use Rattle.oc_coff_read.proofs.built_sections.group_of.Goals as goal

pub returns-in-Some : goal.returns-in-Some
returns-in-Some c =
    let t = tables_in c.args.coff.now in
    c.get.ensures
    ∙ begun_at t c.args.begun.now c.requires.begun c.args.i c.in-Some.g _ c.requires.there c.requires.carried c.in-Some.ensures.held c.in-Some.ensures.led.is

pub returns-in-None : goal.returns-in-None
returns-in-None c =
    let t = tables_in c.args.coff.now in
    sym (ap (option_map (λ (key : List ℕ). position_or_len (bytes_eq key) (keys_of t))) c.in-None.ensures)
