-- Each entry mentions what it says.
use Rattle.std.proofs.Common.{◌≡◌, ◌++◌, length, List, sym, ◌∙◌, ap, arith}
use Rattle.oc_omf.specs.Entries.{places_in}
use Rattle.oc_omf_read.specs.{declared.declarations.DeclarationRef.{DeclarationRef}, Defined.{said}}
use Rattle.oc_omf_read.specs.Declarations.{Declaration, all_declarations, declarations_by}
use Rattle.oc_omf_read.proofs.{DefinedLemmas.{entry_here}, DeclarationLemmas.{declarations_end, declarations_none, declarations_step}}
use Rattle.oc_omf_read.proofs.declarations.declared_in.Goals as goal

pub loop-i-init : goal.loop-i-init
loop-i-init c = ap (λ (hs : List DeclarationRef). all_declarations hs) c.new-declarations.ensures.items ∙ declarations_none c.args.omf.now

pub loop-i-preserved : goal.loop-i-preserved
loop-i-preserved c =
    let r = c.entry-entry.result in
    c.in_ok-declare_entry.ensures ∙ ap (λ (ts : List Declaration). ts ++ declarations_by (said r)) c.loop-i.invariant
    ∙ sym (declarations_step c.args.omf.now c.loop-i.i (said r) (entry_here c.args.omf.now c.loop-i.i r.place r c.entry-entry.ensures.place c.entry-entry.ensures.entry))

pub returns : goal.returns
returns c =
    let all : c.loop-i.i ≡ length (places_in c.args.omf.now) = omega (arith, c.count-i-end.ensures) in
    c.loop-i.invariant ∙ declarations_end c.args.omf.now c.loop-i.i all
