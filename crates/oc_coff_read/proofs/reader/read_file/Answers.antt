-- The fault of a file is that of its header, or of the rest, and what is read without one shows the file.
use Rattle.oc_coff.specs.Files.{CoffFile}
use Rattle.std.proofs.Common.{Option, ◌∙◌, sym, ap, subst}
use Rattle.oc_base.specs.{declared.fault.Fault.{Fault}, Stops.{IsStop}}
use Rattle.oc_linking.specs.FirstFault.{first_fault}
use Rattle.oc_coff_judge.specs.Relocs.{rest_stages}
use Rattle.oc_coff_read.proofs.JudgedFiles.{header_clean, header_stops}
use Rattle.oc_coff_read.proofs.reader.read_file.Goals as goal

pub returns-in-Err-clause-stop : goal.returns-in-Err-clause-stop
returns-in-Err-clause-stop c = header_stops c.args.word (record { shape = c.args.shape; bytes = c.args.file.now }) c.args.keep.now c.in-Err.fault c.in-Err.ensures.fault

pub returns-in-Err-check_rest-clause-stop : goal.returns-in-Err-check_rest-clause-stop
returns-in-Err-check_rest-clause-stop c =
    subst (λ (o : Option Fault). IsStop o c.in-Err-check_rest.stop)
    (sym (header_clean c.args.word (record { shape = c.args.shape; bytes = c.args.file.now }) c.args.keep.now c.in-Ok.ensures.clean ∙ ap (λ (f : CoffFile). first_fault (rest_stages c.args.word f c.args.keep.now)) (sym c.in-Ok.ensures.file)))
    c.in-Err-check_rest.ensures.stop

pub returns-clause-clean : goal.returns-clause-clean
returns-clause-clean c =
    header_clean c.args.word (record { shape = c.args.shape; bytes = c.args.file.now }) c.args.keep.now c.in-Ok.ensures.clean ∙ ap (λ (f : CoffFile). first_fault (rest_stages c.args.word f c.args.keep.now)) (sym c.in-Ok.ensures.file) ∙ c.in-Ok-check_rest.ensures.clean
