-- Each entry lays its data over what is there.
use Rattle.std.proofs.Common.{◌≡◌, length, sym, ◌∙◌, ap, subst, arith}
use Rattle.oc_omf.specs.{Entries.{entries_in, places_in}, Tables.{tables_of}}
use Rattle.oc_omf_read.specs.{Contents.{AreStored}, Defined.{said}}
use Rattle.oc_omf_read.proofs.{ContentLemmas.{stored_more, stored_none}, DefinedLemmas.{entry_here, tables_end}}
use Rattle.oc_omf_read.proofs.contents.contents_in.Goals as goal

pub zeros_for-requires : goal.zeros_for-requires
zeros_for-requires c = c.requires.known.covered_long ∙ ap length (sym c.requires.known.segments_are)

pub loop-i-init : goal.loop-i-init
loop-i-init c = stored_none (tables_of (entries_in c.args.omf.now)) c.args.known.now c.requires.known c.in_ok-bytes.bytes.items c.in_ok-bytes.ensures.long c.in_ok-bytes.ensures.each

pub loop-i-preserved : goal.loop-i-preserved
loop-i-preserved c =
    let r = c.entry-entry.result in
    stored_more c.args.omf.now c.requires.clean c.loop-i.i (said r) (entry_here c.args.omf.now c.loop-i.i r.place r c.entry-entry.ensures.place c.entry-entry.ensures.entry) c.loop-i.bytes.items c.lay_entry.new.bytes.items
    c.loop-i.invariant c.in_ok-lay_entry.ensures.long c.in_ok-lay_entry.ensures.each

pub returns : goal.returns
returns c =
    let all : c.loop-i.i ≡ length (places_in c.args.omf.now) = omega (arith, c.count-i-end.ensures) in
    subst (λ t. AreStored (tables_of (entries_in c.args.omf.now)) t c.loop-i.bytes.items) (tables_end c.args.omf.now c.loop-i.i all) c.loop-i.invariant
