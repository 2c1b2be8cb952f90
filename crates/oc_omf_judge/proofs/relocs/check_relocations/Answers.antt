-- An entry with a fault stops the stages.
use Rattle.std.proofs.Common.{◌≡◌, ◌+◌, ◌++◌, length, List, refl, arith, sym, ◌∙◌, ap, subst}
use Rattle.std.proofs.lemmas.Option.{slice_get_within}
use Rattle.oc_base.specs.Stops.{IsStop}
use Rattle.oc_linking.specs.Numbers.{first_upto}
use Rattle.oc_shelf.proofs.ReadingLaws.StageLemmas.{clean_more, stops_at}
use Rattle.oc_omf.specs.{Entries.{Entry}, Fixups.{PlacedSubrecord, subrecords_upto}, Tables.{Tables}, Topics.{said_on}}
use Rattle.oc_omf_judge.specs.{Defined.{before_in}, Reached.{IsReached, placed_in}, Whole.{entries}}
use Rattle.oc_omf_judge.proofs.{StageLaws.{defined_behind, entry_count, entry_here}, EntryLemmas.{entry_small}}
use Rattle.oc_omf_judge.proofs.PartLemmas.{placed_more, relocations_at, relocations_first, relocations_here}
use Rattle.oc_omf_judge.proofs.relocs.check_relocations.Goals as goal

pub loop-i-init : goal.loop-i-init
unfolding subrecords_upto
loop-i-init c = record { clean = refl; reached = c.new-reached.ensures c.args.whole.now }

pub returns-in-Err-clause-stop : goal.returns-in-Err-clause-stop
returns-in-Err-clause-stop c =
    let w = c.args.whole.now in
    let file = w.front.omf in
    let i = c.loop-i.i in
    let r = c.entry-entry.result in
    let e : Entry = said_on c.topic_of-topic.result r.place c.is_wide-wide.result r.contents in
    let there = entry_here file i r c.topic_of-topic.result c.is_wide-wide.result c.entry-entry.ensures.place c.entry-entry.ensures.entry c.topic_of-topic.ensures c.is_wide-wide.ensures in
    subst (λ o. IsStop o c.in-Err.stop) (sym (relocations_first w))
    (stops_at (relocations_at w) i (length (entries w)) c.in-Err.stop c.loop-i.invariant.clean (slice_get_within (entries w) i e there)
    (subst (λ o. IsStop o c.in-Err.stop) (sym (relocations_here w i e there)) (c.in-Err.ensures.stop (before_in file i) (subrecords_upto (entries w) i) c.loop-i.invariant.reached)))

pub loop-i-preserved : goal.loop-i-preserved
loop-i-preserved c =
    let w = c.args.whole.now in
    let file = w.front.omf in
    let i = c.loop-i.i in
    let r = c.entry-entry.result in
    let e : Entry = said_on c.topic_of-topic.result r.place c.is_wide-wide.result r.contents in
    let there = entry_here file i r c.topic_of-topic.result c.is_wide-wide.result c.entry-entry.ensures.place c.entry-entry.ensures.entry c.topic_of-topic.ensures c.is_wide-wide.ensures in
    let taken = c.in-Ok.ensures.taken (before_in file i) (subrecords_upto (entries w) i) (entry_small w c.requires i e there) c.loop-i.invariant.reached in
    record {
      clean = clean_more (relocations_at w) i c.loop-i.invariant.clean (relocations_here w i e there ∙ taken.0);
      reached = subst (λ (ps : List PlacedSubrecord). IsReached w (before_in file (i + 1)) ps c.take_entry.new.reached) (sym (placed_more w i e there))
          (subst (λ (t : Tables). IsReached w t (subrecords_upto (entries w) i ++ placed_in i (before_in file i) e.subrecords) c.take_entry.new.reached) (sym (defined_behind file i e there)) taken.1);
    }

pub returns-clause-clean : goal.returns-clause-clean
returns-clause-clean c =
    let w = c.args.whole.now in
    let many = entry_count w.front.omf in
    let last : length (entries w) ≡ c.loop-i.i = omega (arith, many, c.count-i-end.ensures) in
    relocations_first w ∙ ap (first_upto (relocations_at w)) last ∙ c.loop-i.invariant.clean
