-- The fault of a file is that of its header, or of the rest, and what is read without one shows the file.
use Rattle.std.proofs.Common.{Option, sym, ◌∙◌, ap, subst}
use Rattle.oc_base.specs.{declared.fault.Fault.{Fault}, Stops.{IsStop}}
use Rattle.oc_linking.specs.FirstFault.{first_fault}
use Rattle.oc_elf.specs.{Elf.{rest_stages}, Frames.{FileFrame}}
use Rattle.oc_elf_judge.proofs.JudgingLemmas.{header_clean, header_stops}
use Rattle.oc_elf_read.proofs.ReaderLemmas.{framed_shows}
use Rattle.oc_elf_read.proofs.reader.read_elf.Goals as goal

pub returns-in-Err-clause-fault : goal.returns-in-Err-clause-fault
returns-in-Err-clause-fault c = header_stops c.args.class c.args.bytes.now c.args.keep.now c.in-Err.stop c.in-Err.ensures.stop

pub returns-in-Err-check_rest-clause-fault : goal.returns-in-Err-check_rest-clause-fault
returns-in-Err-check_rest-clause-fault c =
    subst (λ (o : Option Fault). IsStop o c.in-Err-check_rest.stop)
    (sym (header_clean c.args.class c.args.bytes.now c.args.keep.now c.in-Ok.ensures.clean ∙ ap (λ (f : FileFrame). first_fault (rest_stages f c.args.keep.now)) (sym c.in-Ok.ensures.frame)))
    c.in-Err-check_rest.ensures.stop

pub returns-clause-well_formed : goal.returns-clause-well_formed
returns-clause-well_formed c =
    header_clean c.args.class c.args.bytes.now c.args.keep.now c.in-Ok.ensures.clean ∙ ap (λ (f : FileFrame). first_fault (rest_stages f c.args.keep.now)) (sym c.in-Ok.ensures.frame) ∙ c.in-Ok-check_rest.ensures.clean

pub returns-clause-shows : goal.returns-clause-shows
returns-clause-shows c = framed_shows c.args.class c.args.bytes.now c.args.keep.now c.in-Ok.frame c.in-Ok-object_of.object c.in-Ok.ensures.frame c.in-Ok-object_of.ensures.shows
