-- The key of a section is that of the section that leads its group.
use Rattle.oc_coff.specs.{Files.{tables_in}, Comdat.{led_key}}
use Rattle.std.proofs.Common.{◌+◌, ◌∙◌, sym, ap}
use Rattle.std.specs.Option.{option_and_then}
use Rattle.oc_coff_judge.proofs.LedLemmas.{key_led}
use Rattle.oc_coff_read.proofs.built_groups.held_by.Goals as goal

pub returns-in-Some-led_symbol : goal.returns-in-Some-led_symbol
returns-in-Some-led_symbol c = record { held = sym c.leader_of.ensures ∙ c.in-Some.is; led = c.in-Some-led_symbol.ensures }

pub returns-in-None-led_symbol : goal.returns-in-None-led_symbol
returns-in-None-led_symbol c =
    let t = tables_in c.args.coff.now in
    key_led t (c.args.i + 1) ∙ ap (option_and_then (led_key t)) (sym c.leader_of.ensures ∙ c.in-Some.is) ∙ c.in-None-led_symbol.ensures

pub returns-in-None : goal.returns-in-None
returns-in-None c =
    let t = tables_in c.args.coff.now in
    key_led t (c.args.i + 1) ∙ ap (option_and_then (led_key t)) (sym c.leader_of.ensures ∙ c.in-None.is)
