-- The fault of the header is one of the commands, or of what they place.
use Rattle.std.proofs.Common.{[], Option, length, sym, ◌∙◌, ap}
use Rattle.std.specs.Option.{option_map, option_map_or}
use Rattle.oc_base.specs.declared.fault.Fault.{Fault}
use Rattle.oc_linking.specs.{FirstFault.{first_broken}, Numbers.{or_else}}
use Rattle.oc_macho.specs.{declared.symtab_command.SymtabCommand.{SymtabCommand}, SymtabCommand.{symtab_command_at}, Tables.{symtab_of}}
use Rattle.oc_macho.specs.HeaderFaults.{symtab_conditions}
use Rattle.oc_macho.proofs.HeaderLemmas.{header_broken, symtab_lies, symtab_there}
use Rattle.oc_macho.proofs.headers.read_frame.Goals as goal

pub returns-in-Err-clause-fault : goal.returns-in-Err-clause-fault
returns-in-Err-clause-fault c =
    header_broken c.args.word c.args.file.now
    ∙ ap (λ (o : Option Fault). or_else o (first_broken (option_map_or (symtab_conditions c.args.word (length c.args.file.now)) (symtab_of c.args.word c.args.file.now) []))) c.in-Err.ensures.fault

pub symtab_at-requires : goal.symtab_at-requires
symtab_at-requires c at is = symtab_lies c.args.word c.args.file.now at c.in-Ok.ensures.clean (sym c.in-Ok.ensures.found.symtab ∙ is)

pub returns-in-None-clause-fault : goal.returns-in-None-clause-fault
returns-in-None-clause-fault c =
    absurd (symtab_there c.args.word c.args.file.now c.in-Ok.ensures.clean (ap (option_map (symtab_command_at c.args.file.now)) (sym c.in-Ok.ensures.found.symtab) ∙ sym c.in-None.ensures))

pub returns-in-Some-symtab_fault-clause-fault : goal.returns-in-Some-symtab_fault-clause-fault
returns-in-Some-symtab_fault-clause-fault c =
    header_broken c.args.word c.args.file.now
    ∙ ap (λ (o : Option Fault). or_else o (first_broken (option_map_or (symtab_conditions c.args.word (length c.args.file.now)) (symtab_of c.args.word c.args.file.now) []))) c.in-Ok.ensures.clean
    ∙ ap (λ (o : Option SymtabCommand). first_broken (option_map_or (symtab_conditions c.args.word (length c.args.file.now)) o []))
    (ap (option_map (symtab_command_at c.args.file.now)) (sym c.in-Ok.ensures.found.symtab) ∙ sym c.in-Some.ensures)
    ∙ sym c.in-Some-symtab_fault.ensures

pub placed-requires-clause-symtab : goal.placed-requires-clause-symtab
placed-requires-clause-symtab c = ap (option_map (symtab_command_at c.args.file.now)) (sym c.in-Ok.ensures.found.symtab) ∙ sym c.in-Some.ensures

pub placed-requires-clause-symbols : goal.placed-requires-clause-symbols
placed-requires-clause-symbols c = sym c.in-None-symtab_fault.ensures

pub returns-in-None-symtab_fault-clause-clean : goal.returns-in-None-symtab_fault-clause-clean
returns-in-None-symtab_fault-clause-clean c =
    header_broken c.args.word c.args.file.now
    ∙ ap (λ (o : Option Fault). or_else o (first_broken (option_map_or (symtab_conditions c.args.word (length c.args.file.now)) (symtab_of c.args.word c.args.file.now) []))) c.in-Ok.ensures.clean
    ∙ ap (λ (o : Option SymtabCommand). first_broken (option_map_or (symtab_conditions c.args.word (length c.args.file.now)) o []))
    (ap (option_map (symtab_command_at c.args.file.now)) (sym c.in-Ok.ensures.found.symtab) ∙ sym c.in-Some.ensures)
    ∙ sym c.in-None-symtab_fault.ensures
