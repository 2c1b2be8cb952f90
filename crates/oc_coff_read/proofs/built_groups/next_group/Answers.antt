-- A group begins with a carried section whose group is not begun, and with no other.
use Rattle.oc_coff.specs.{Files.{tables_in}, Entries.{name_of}}
use Rattle.std.proofs.Common.{◌≡◌, ℕ, ◌∙◌, List, false, sym}
use Rattle.oc_base.specs.Strings.{is_given}
use Rattle.oc_coff_read.specs.Built.{keys_upto}
use Rattle.oc_coff_judge.specs.Numbered.{entry_by}
use Rattle.oc_coff_read.proofs.BegunLemmas.{keys_alone, keys_passed, none_new, one_new}
use Rattle.oc_coff_read.proofs.built_groups.next_group.Goals as goal
use Rattle.oc_shows.proofs.BegunLaws.{placed_given}

pub returns-then-not-is_carried : goal.returns-then-not-is_carried
returns-then-not-is_carried c = keys_passed (tables_in c.args.coff.now) c.args.i (sym c.is_carried.ensures ∙ c.if-not-is_carried.true)

pub returns-in-None : goal.returns-in-None
returns-in-None c = keys_alone (tables_in c.args.coff.now) c.args.i (sym c.is_carried.ensures ∙ c.if-not-is_carried.false) c.in-None.ensures

pub returns-then-is_some : goal.returns-then-is_some
returns-then-is_some c =
    let t = tables_in c.args.coff.now in
    let held = c.in-Some.ensures in
    let key : List ℕ = name_of t.strings (entry_by c.args.coff.now c.in-Some.j) in
    none_new t c.args.i (sym c.is_carried.ensures ∙ c.if-not-is_carried.false) c.in-Some.g held.held key held.led.is
    (sym (placed_given (keys_upto t c.args.i) key c.get.result
    (c.get.ensures ∙ c.requires.begun.each c.in-Some.g key held.led.is))
    ∙ sym c.is_some.ensures ∙ c.if-is_some.true)

pub returns-else-is_some : goal.returns-else-is_some
returns-else-is_some c =
    let t = tables_in c.args.coff.now in
    let held = c.in-Some.ensures in
    let key : List ℕ = name_of t.strings (entry_by c.args.coff.now c.in-Some.j) in
    let new : is_given (keys_upto t c.args.i) key ≡ false
    = sym (placed_given (keys_upto t c.args.i) key c.get.result
    (c.get.ensures ∙ c.requires.begun.each c.in-Some.g key held.led.is))
    ∙ sym c.is_some.ensures ∙ c.if-is_some.false in
    record { led = held.led; new = new; next = one_new t c.args.i (sym c.is_carried.ensures ∙ c.if-not-is_carried.false) c.in-Some.g held.held key held.led.is new }
