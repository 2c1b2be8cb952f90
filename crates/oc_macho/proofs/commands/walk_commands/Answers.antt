-- One command more.
use Rattle.std.proofs.Common.{◌≡◌, ℕ, ◌+◌, ◌≤◌, sym, ◌∙◌, ap, subst, arith}
use Rattle.oc_macho.specs.{declared.commands.Commands.{Commands}, declared.load_command.LoadCommand.{LoadCommand}, declared.mach_header.MachHeader.{MachHeader}}
use Rattle.oc_macho.specs.{HeaderFaults.{commands_end}, MachHeader.{mach_header_size}, Walked.{AreCommands, IsWalking, no_commands}}
use Rattle.oc_macho.proofs.CommandLemmas.{any_worse, walking_more, walking_none}
use Rattle.oc_macho.proofs.commands.walk_commands.Goals as goal

pub loop-i-init : goal.loop-i-init
loop-i-init c =
    subst (λ (found : Commands). IsWalking c.args.word c.args.file.now 0 c.mach_header_size-at.result found) (sym c.none-found.ensures)
    (subst (λ (at : ℕ). IsWalking c.args.word c.args.file.now 0 at no_commands) (sym c.mach_header_size-at.ensures) (walking_none c.args.word c.args.file.now))

pub returns-in-None : goal.returns-in-None
returns-in-None c = any_worse c.args.word c.args.file.now c.loop-i._i c.args.h.ncmds c.loop-i.at c.loop-i.found c.loop-i.invariant c.loop-i-test.true c.in-None.ensures

pub with-found-requires-clause-segments : goal.with-found-requires-clause-segments
with-found-requires-clause-segments c = let few = c.loop-i.invariant.segments_few in omega (arith, few, c.loop-i-test.true)

pub with-found-requires-clause-symtabs : goal.with-found-requires-clause-symtabs
with-found-requires-clause-symtabs c = let few = c.loop-i.invariant.symtabs_few in omega (arith, few, c.loop-i-test.true)

pub loop-i-preserved : goal.loop-i-preserved
loop-i-preserved c =
    let end : c.mach_header_size.result + c.from.result ≡ commands_end c.args.word c.args.file.now
    = ap (λ (n : ℕ). n + c.from.result) c.mach_header_size.ensures ∙ ap (λ (n : ℕ). mach_header_size c.args.word + n) c.from.ensures
    ∙ ap (λ (h : MachHeader). mach_header_size c.args.word + h.sizeofcmds) c.requires.header in
    let inside = c.in-Some.ensures.2 in
    let lies : c.loop-i.at + c.from-at.result ≤ commands_end c.args.word c.args.file.now = omega (arith, inside, end, c.from-at.ensures) in
    subst (λ (found : Commands). IsWalking c.args.word c.args.file.now (c.loop-i._i + 1) (c.loop-i.at + c.from-at.result) found) (sym c.with-found.ensures)
    (walking_more c.args.word c.args.file.now c.loop-i._i c.loop-i.at c.in-Some.c.cmd c.from-at.result c.loop-i.found c.loop-i.invariant c.in-Some.ensures.0
    (ap (λ (x : LoadCommand). x.cmd) c.in-Some.ensures.1) (c.from-at.ensures ∙ ap (λ (x : LoadCommand). x.cmdsize) c.in-Some.ensures.1) lies)

pub returns : goal.returns
returns c =
    let end : c.loop-i._i ≡ c.args.h.ncmds = omega (arith, c.loop-i-test.false, c.loop-i.auto._i-end) in
    subst (λ (n : ℕ). AreCommands c.args.word c.args.file.now n c.loop-i.found) end c.loop-i.invariant.are
