-- What is planned, and what is refused first, by the reader of the format.
use Rattle.std.proofs.Common.{ap}
use Rattle.std.proofs.lemmas.Result.{IfOk-weaker}
use Rattle.oc_base.specs.declared.format.Word.TheVariants.{W32, W64}
use Rattle.oc_coff.specs.Rules.{coff_dialect}
use Rattle.oc_elf.specs.{declared.class.ElfClass.TheVariants.{Class32, Class64, Big32, Big64}, Elf.{elf_dialect}}
use Rattle.oc_coff.specs.declared.form.CoffForm.TheVariants as form
use Rattle.oc_macho.specs.Rules.{mach_dialect}
use Rattle.oc_omf.specs.Rules.{omf_dialect}
use Rattle.oc_built.specs.Built.{built, reader_of}
use Rattle.oc_dispatch.proofs.DispatchLemmas.{reader_accepted, reader_planned, reader_refused}
use Rattle.oc_dispatch.proofs.dispatching.dispatch_identified.Goals as goal

pub returns-in-Elf32-clause-accepted : goal.returns-in-Elf32-clause-accepted
unfolding built
returns-in-Elf32-clause-accepted c =
    reader_accepted c.args.edits.now c.args.to c.args.bytes.now c.args.from c.requires.identified c.requires.word (elf_dialect Class32) (ap reader_of c.in-Elf32.is) c.dispatch_from.result c.dispatch_from.ensures.accepted

pub returns-in-Elf32-clause-refused : goal.returns-in-Elf32-clause-refused
unfolding built
returns-in-Elf32-clause-refused c =
    reader_refused c.args.edits.now c.args.to c.args.bytes.now c.args.from c.requires.identified c.requires.word (elf_dialect Class32) (ap reader_of c.in-Elf32.is) c.dispatch_from.result c.dispatch_from.ensures.refused

pub returns-in-Elf32-clause-dispatched : goal.returns-in-Elf32-clause-dispatched
unfolding built
returns-in-Elf32-clause-dispatched c =
    IfOk-weaker c.dispatch_from.result _ _
    (λ plan planned. reader_planned c.args.edits.now c.args.to c.args.bytes.now c.args.from c.requires.identified (elf_dialect Class32) (ap reader_of c.in-Elf32.is) _ planned)
    c.dispatch_from.ensures.planned

pub returns-in-Elf64-clause-accepted : goal.returns-in-Elf64-clause-accepted
unfolding built
returns-in-Elf64-clause-accepted c =
    reader_accepted c.args.edits.now c.args.to c.args.bytes.now c.args.from c.requires.identified c.requires.word (elf_dialect Class64) (ap reader_of c.in-Elf64.is) c.dispatch_from-in-Elf64.result c.dispatch_from-in-Elf64.ensures.accepted

pub returns-in-Elf64-clause-refused : goal.returns-in-Elf64-clause-refused
unfolding built
returns-in-Elf64-clause-refused c =
    reader_refused c.args.edits.now c.args.to c.args.bytes.now c.args.from c.requires.identified c.requires.word (elf_dialect Class64) (ap reader_of c.in-Elf64.is) c.dispatch_from-in-Elf64.result c.dispatch_from-in-Elf64.ensures.refused

pub returns-in-Elf64-clause-dispatched : goal.returns-in-Elf64-clause-dispatched
unfolding built
returns-in-Elf64-clause-dispatched c =
    IfOk-weaker c.dispatch_from-in-Elf64.result _ _
    (λ plan planned. reader_planned c.args.edits.now c.args.to c.args.bytes.now c.args.from c.requires.identified (elf_dialect Class64) (ap reader_of c.in-Elf64.is) _ planned)
    c.dispatch_from-in-Elf64.ensures.planned

pub returns-in-Coff32-clause-accepted : goal.returns-in-Coff32-clause-accepted
unfolding built
returns-in-Coff32-clause-accepted c =
    reader_accepted c.args.edits.now c.args.to c.args.bytes.now c.args.from c.requires.identified c.requires.word (coff_dialect form.Usual32) (ap reader_of c.in-Coff32.is) c.dispatch_from-in-Coff32.result c.dispatch_from-in-Coff32.ensures.accepted

pub returns-in-Coff32-clause-refused : goal.returns-in-Coff32-clause-refused
unfolding built
returns-in-Coff32-clause-refused c =
    reader_refused c.args.edits.now c.args.to c.args.bytes.now c.args.from c.requires.identified c.requires.word (coff_dialect form.Usual32) (ap reader_of c.in-Coff32.is) c.dispatch_from-in-Coff32.result c.dispatch_from-in-Coff32.ensures.refused

pub returns-in-Coff32-clause-dispatched : goal.returns-in-Coff32-clause-dispatched
unfolding built
returns-in-Coff32-clause-dispatched c =
    IfOk-weaker c.dispatch_from-in-Coff32.result _ _
    (λ plan planned. reader_planned c.args.edits.now c.args.to c.args.bytes.now c.args.from c.requires.identified (coff_dialect form.Usual32) (ap reader_of c.in-Coff32.is) _ planned)
    c.dispatch_from-in-Coff32.ensures.planned

pub returns-in-Coff64-clause-accepted : goal.returns-in-Coff64-clause-accepted
unfolding built
returns-in-Coff64-clause-accepted c =
    reader_accepted c.args.edits.now c.args.to c.args.bytes.now c.args.from c.requires.identified c.requires.word (coff_dialect form.Usual64) (ap reader_of c.in-Coff64.is) c.dispatch_from-in-Coff64.result c.dispatch_from-in-Coff64.ensures.accepted

pub returns-in-Coff64-clause-refused : goal.returns-in-Coff64-clause-refused
unfolding built
returns-in-Coff64-clause-refused c =
    reader_refused c.args.edits.now c.args.to c.args.bytes.now c.args.from c.requires.identified c.requires.word (coff_dialect form.Usual64) (ap reader_of c.in-Coff64.is) c.dispatch_from-in-Coff64.result c.dispatch_from-in-Coff64.ensures.refused

pub returns-in-Coff64-clause-dispatched : goal.returns-in-Coff64-clause-dispatched
unfolding built
returns-in-Coff64-clause-dispatched c =
    IfOk-weaker c.dispatch_from-in-Coff64.result _ _
    (λ plan planned. reader_planned c.args.edits.now c.args.to c.args.bytes.now c.args.from c.requires.identified (coff_dialect form.Usual64) (ap reader_of c.in-Coff64.is) _ planned)
    c.dispatch_from-in-Coff64.ensures.planned

pub returns-in-Mac32-clause-accepted : goal.returns-in-Mac32-clause-accepted
unfolding built
returns-in-Mac32-clause-accepted c =
    reader_accepted c.args.edits.now c.args.to c.args.bytes.now c.args.from c.requires.identified c.requires.word (mach_dialect W32) (ap reader_of c.in-Mac32.is) c.dispatch_from-in-Mac32.result c.dispatch_from-in-Mac32.ensures.accepted

pub returns-in-Mac32-clause-refused : goal.returns-in-Mac32-clause-refused
unfolding built
returns-in-Mac32-clause-refused c =
    reader_refused c.args.edits.now c.args.to c.args.bytes.now c.args.from c.requires.identified c.requires.word (mach_dialect W32) (ap reader_of c.in-Mac32.is) c.dispatch_from-in-Mac32.result c.dispatch_from-in-Mac32.ensures.refused

pub returns-in-Mac32-clause-dispatched : goal.returns-in-Mac32-clause-dispatched
unfolding built
returns-in-Mac32-clause-dispatched c =
    IfOk-weaker c.dispatch_from-in-Mac32.result _ _
    (λ plan planned. reader_planned c.args.edits.now c.args.to c.args.bytes.now c.args.from c.requires.identified (mach_dialect W32) (ap reader_of c.in-Mac32.is) _ planned)
    c.dispatch_from-in-Mac32.ensures.planned

pub returns-in-Mac64-clause-accepted : goal.returns-in-Mac64-clause-accepted
unfolding built
returns-in-Mac64-clause-accepted c =
    reader_accepted c.args.edits.now c.args.to c.args.bytes.now c.args.from c.requires.identified c.requires.word (mach_dialect W64) (ap reader_of c.in-Mac64.is) c.dispatch_from-in-Mac64.result c.dispatch_from-in-Mac64.ensures.accepted

pub returns-in-Mac64-clause-refused : goal.returns-in-Mac64-clause-refused
unfolding built
returns-in-Mac64-clause-refused c =
    reader_refused c.args.edits.now c.args.to c.args.bytes.now c.args.from c.requires.identified c.requires.word (mach_dialect W64) (ap reader_of c.in-Mac64.is) c.dispatch_from-in-Mac64.result c.dispatch_from-in-Mac64.ensures.refused

pub returns-in-Mac64-clause-dispatched : goal.returns-in-Mac64-clause-dispatched
unfolding built
returns-in-Mac64-clause-dispatched c =
    IfOk-weaker c.dispatch_from-in-Mac64.result _ _
    (λ plan planned. reader_planned c.args.edits.now c.args.to c.args.bytes.now c.args.from c.requires.identified (mach_dialect W64) (ap reader_of c.in-Mac64.is) _ planned)
    c.dispatch_from-in-Mac64.ensures.planned

pub returns-in-Omf-clause-accepted : goal.returns-in-Omf-clause-accepted
unfolding built
returns-in-Omf-clause-accepted c =
    reader_accepted c.args.edits.now c.args.to c.args.bytes.now c.args.from c.requires.identified c.requires.word omf_dialect (ap reader_of c.in-Omf.is) c.dispatch_from-in-Omf.result c.dispatch_from-in-Omf.ensures.accepted

pub returns-in-Omf-clause-refused : goal.returns-in-Omf-clause-refused
unfolding built
returns-in-Omf-clause-refused c =
    reader_refused c.args.edits.now c.args.to c.args.bytes.now c.args.from c.requires.identified c.requires.word omf_dialect (ap reader_of c.in-Omf.is) c.dispatch_from-in-Omf.result c.dispatch_from-in-Omf.ensures.refused

pub returns-in-Omf-clause-dispatched : goal.returns-in-Omf-clause-dispatched
unfolding built
returns-in-Omf-clause-dispatched c =
    IfOk-weaker c.dispatch_from-in-Omf.result _ _
    (λ plan planned. reader_planned c.args.edits.now c.args.to c.args.bytes.now c.args.from c.requires.identified omf_dialect (ap reader_of c.in-Omf.is) _ planned)
    c.dispatch_from-in-Omf.ensures.planned

pub returns-in-BigElf32-clause-accepted : goal.returns-in-BigElf32-clause-accepted
unfolding built
returns-in-BigElf32-clause-accepted c =
    reader_accepted c.args.edits.now c.args.to c.args.bytes.now c.args.from c.requires.identified c.requires.word (elf_dialect Big32) (ap reader_of c.in-BigElf32.is) c.dispatch_from-in-BigElf32.result c.dispatch_from-in-BigElf32.ensures.accepted

pub returns-in-BigElf32-clause-refused : goal.returns-in-BigElf32-clause-refused
unfolding built
returns-in-BigElf32-clause-refused c =
    reader_refused c.args.edits.now c.args.to c.args.bytes.now c.args.from c.requires.identified c.requires.word (elf_dialect Big32) (ap reader_of c.in-BigElf32.is) c.dispatch_from-in-BigElf32.result c.dispatch_from-in-BigElf32.ensures.refused

pub returns-in-BigElf32-clause-dispatched : goal.returns-in-BigElf32-clause-dispatched
unfolding built
returns-in-BigElf32-clause-dispatched c =
    IfOk-weaker c.dispatch_from-in-BigElf32.result _ _
    (λ plan planned. reader_planned c.args.edits.now c.args.to c.args.bytes.now c.args.from c.requires.identified (elf_dialect Big32) (ap reader_of c.in-BigElf32.is) _ planned)
    c.dispatch_from-in-BigElf32.ensures.planned

pub returns-in-BigElf64-clause-accepted : goal.returns-in-BigElf64-clause-accepted
unfolding built
returns-in-BigElf64-clause-accepted c =
    reader_accepted c.args.edits.now c.args.to c.args.bytes.now c.args.from c.requires.identified c.requires.word (elf_dialect Big64) (ap reader_of c.in-BigElf64.is) c.dispatch_from-in-BigElf64.result c.dispatch_from-in-BigElf64.ensures.accepted

pub returns-in-BigElf64-clause-refused : goal.returns-in-BigElf64-clause-refused
unfolding built
returns-in-BigElf64-clause-refused c =
    reader_refused c.args.edits.now c.args.to c.args.bytes.now c.args.from c.requires.identified c.requires.word (elf_dialect Big64) (ap reader_of c.in-BigElf64.is) c.dispatch_from-in-BigElf64.result c.dispatch_from-in-BigElf64.ensures.refused

pub returns-in-BigElf64-clause-dispatched : goal.returns-in-BigElf64-clause-dispatched
unfolding built
returns-in-BigElf64-clause-dispatched c =
    IfOk-weaker c.dispatch_from-in-BigElf64.result _ _
    (λ plan planned. reader_planned c.args.edits.now c.args.to c.args.bytes.now c.args.from c.requires.identified (elf_dialect Big64) (ap reader_of c.in-BigElf64.is) _ planned)
    c.dispatch_from-in-BigElf64.ensures.planned

pub returns-in-BigCoff32-clause-accepted : goal.returns-in-BigCoff32-clause-accepted
unfolding built
returns-in-BigCoff32-clause-accepted c =
    reader_accepted c.args.edits.now c.args.to c.args.bytes.now c.args.from c.requires.identified c.requires.word (coff_dialect form.Big32) (ap reader_of c.in-BigCoff32.is) c.dispatch_from-in-BigCoff32.result c.dispatch_from-in-BigCoff32.ensures.accepted

pub returns-in-BigCoff32-clause-refused : goal.returns-in-BigCoff32-clause-refused
unfolding built
returns-in-BigCoff32-clause-refused c =
    reader_refused c.args.edits.now c.args.to c.args.bytes.now c.args.from c.requires.identified c.requires.word (coff_dialect form.Big32) (ap reader_of c.in-BigCoff32.is) c.dispatch_from-in-BigCoff32.result c.dispatch_from-in-BigCoff32.ensures.refused

pub returns-in-BigCoff32-clause-dispatched : goal.returns-in-BigCoff32-clause-dispatched
unfolding built
returns-in-BigCoff32-clause-dispatched c =
    IfOk-weaker c.dispatch_from-in-BigCoff32.result _ _
    (λ plan planned. reader_planned c.args.edits.now c.args.to c.args.bytes.now c.args.from c.requires.identified (coff_dialect form.Big32) (ap reader_of c.in-BigCoff32.is) _ planned)
    c.dispatch_from-in-BigCoff32.ensures.planned

pub returns-in-BigCoff64-clause-accepted : goal.returns-in-BigCoff64-clause-accepted
unfolding built
returns-in-BigCoff64-clause-accepted c =
    reader_accepted c.args.edits.now c.args.to c.args.bytes.now c.args.from c.requires.identified c.requires.word (coff_dialect form.Big64) (ap reader_of c.in-BigCoff64.is) c.dispatch_from-in-BigCoff64.result c.dispatch_from-in-BigCoff64.ensures.accepted

pub returns-in-BigCoff64-clause-refused : goal.returns-in-BigCoff64-clause-refused
unfolding built
returns-in-BigCoff64-clause-refused c =
    reader_refused c.args.edits.now c.args.to c.args.bytes.now c.args.from c.requires.identified c.requires.word (coff_dialect form.Big64) (ap reader_of c.in-BigCoff64.is) c.dispatch_from-in-BigCoff64.result c.dispatch_from-in-BigCoff64.ensures.refused

pub returns-in-BigCoff64-clause-dispatched : goal.returns-in-BigCoff64-clause-dispatched
unfolding built
returns-in-BigCoff64-clause-dispatched c =
    IfOk-weaker c.dispatch_from-in-BigCoff64.result _ _
    (λ plan planned. reader_planned c.args.edits.now c.args.to c.args.bytes.now c.args.from c.requires.identified (coff_dialect form.Big64) (ap reader_of c.in-BigCoff64.is) _ planned)
    c.dispatch_from-in-BigCoff64.ensures.planned
