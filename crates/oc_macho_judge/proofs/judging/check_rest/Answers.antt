-- The fault of the rest is that of the first stage that has one.
use Rattle.std.proofs.Common.{◌∷◌, Option, ◌∙◌, ap}
use Rattle.oc_base.specs.declared.fault.Fault.{Fault}
use Rattle.oc_linking.specs.{FirstFault.{first_fault}, Numbers.{or_else}}
use Rattle.oc_shelf.proofs.ReadingLaws.StageLemmas.{clean_first, stops_first, stops_later}
use Rattle.oc_macho.specs.{SectionFaults.{section_stage}, SymbolFaults.{symbol_stage}, RelocationFaults.{relocation_stages}}
use Rattle.oc_macho_judge.proofs.judging.check_rest.Goals as goal

pub returns-in-Err-clause-stop : goal.returns-in-Err-clause-stop
returns-in-Err-clause-stop c =
    ap (λ (o : Option Fault). or_else o (first_fault (symbol_stage c.args.frame.now ∷ relocation_stages c.args.frame.now c.args.keep.now))) c.in-Err.ensures.fault

pub returns-in-Err-check_symbols-clause-stop : goal.returns-in-Err-check_symbols-clause-stop
returns-in-Err-check_symbols-clause-stop c =
    let t = c.args.frame.now in
    stops_later (section_stage t) (symbol_stage t ∷ relocation_stages t c.args.keep.now) c.in-Err-check_symbols.stop c.in-Ok.ensures.clean
    (stops_first (symbol_stage t) (relocation_stages t c.args.keep.now) c.in-Err-check_symbols.stop c.in-Err-check_symbols.ensures.stop)

pub returns-in-Err-check_relocs-clause-stop : goal.returns-in-Err-check_relocs-clause-stop
returns-in-Err-check_relocs-clause-stop c =
    let t = c.args.frame.now in
    stops_later (section_stage t) (symbol_stage t ∷ relocation_stages t c.args.keep.now) c.in-Err-check_relocs.stop c.in-Ok.ensures.clean
    (stops_later (symbol_stage t) (relocation_stages t c.args.keep.now) c.in-Err-check_relocs.stop c.in-Ok-check_symbols.ensures.clean c.in-Err-check_relocs.ensures.stop)

pub returns-in-Ok-check_relocs-clause-clean : goal.returns-in-Ok-check_relocs-clause-clean
returns-in-Ok-check_relocs-clause-clean c =
    let t = c.args.frame.now in
    clean_first (section_stage t) (symbol_stage t ∷ relocation_stages t c.args.keep.now) c.in-Ok.ensures.clean
    ∙ clean_first (symbol_stage t) (relocation_stages t c.args.keep.now) c.in-Ok-check_symbols.ensures.clean ∙ c.in-Ok-check_relocs.ensures.clean
