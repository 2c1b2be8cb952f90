-- Each turn lays an entry as long as it is.
use Rattle.std.proofs.Common.{◌+◌, length, take, get_or, sym, ◌∙◌, ap, subst, arith}
use Rattle.std.proofs.lemmas.{List.{take_all}, Option.{slice_get-get_or}}
use Rattle.oc_neutral.proofs.{Positions.{each_at}, FieldLists.{take_here}}
use Rattle.oc_shelf.specs.Writing.Parts.{aligned, behind}
use Rattle.oc_plans.proofs.PlacedLemmas.{aligned_one, laid_more, none_laid}
use Rattle.oc_omf.specs.Bytes.{entry_bytes}
use Rattle.oc_omf_write.specs.{declared.entries.Entry.{Entry}, Entries.{type_of}, Plans.{AreLaid}, Tables.{CanPut, bytes_by}}
use Rattle.oc_omf_write.specs.declared.entries.Entry.TheVariants as entry
use Rattle.oc_omf_write.proofs.layout.layout_of.Goals as goal

pub loop-entry-init : goal.loop-entry-init
loop-entry-init c = (
  none_laid behind (λ e. length (bytes_by c.args.tables.now e)) c.new-layout.result c.new-layout.ensures.places c.new-layout.ensures.end,
  let e = c.new-layout.ensures.end in omega (arith, e),
)

pub contents-requires-clause-fits : goal.contents-requires-clause-fits
contents-requires-clause-fits c =
    let i = c.loop-entry.entry-index in
    each_at (CanPut c.args.tables.now) c.args.entries.now i _ c.requires.fits (slice_get-get_or c.args.entries.now i entry.Header c.loop-entry-test.true)

pub lay-requires-clause-near : goal.lay-requires-clause-near
lay-requires-clause-near c =
    let low = c.loop-entry.invariant.1 in
    let more = c.loop-entry-test.true in
    let few = c.requires.few in
    let size = c.entry_size-size.ensures.few in
    omega (arith, low, more, few, size)

pub loop-entry-preserved : goal.loop-entry-preserved
loop-entry-preserved c =
    let t = c.args.tables.now in
    let xs = c.args.entries.now in
    let i = c.loop-entry.entry-index in
    let e : Entry = get_or xs i entry.Header in
    let here = slice_get-get_or xs i entry.Header c.loop-entry-test.true in
    let low = c.loop-entry.invariant.1 in
    let end = c.in_ok-lay.ensures.end in
    let few = c.entry_size-size.ensures.few in
    let at = c.loop-entry.layout.end in
    let size = c.entry_size-size.ensures.long (type_of e) ∙ ap (λ b. length (entry_bytes (type_of e) b)) c.contents.ensures in (
      subst (AreLaid t c.lay.new.self) (sym (take_here xs i e here))
          (laid_more behind (λ x. length (bytes_by t x)) (take i xs) e c.loop-entry.layout c.lay.new.self (aligned 1 at) c.loop-entry.invariant.0 (aligned_one at) c.in_ok-lay.ensures.places
          (end ∙ ap (λ m. aligned 1 at + m) size)),
      let one = aligned_one at in omega (arith, low, end, few, one),
    )

pub returns : goal.returns
returns c =
    let xs = c.args.entries.now in
    let i = c.loop-entry.entry-index in
    let past = c.loop-entry-test.false in
    subst (AreLaid c.args.tables.now c.loop-entry.layout) (take_all i xs (omega (arith, past))) c.loop-entry.invariant.0
