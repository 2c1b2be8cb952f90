-- An entry with a fault stops the stage.
use Rattle.std.proofs.Common.{◌≡◌, ◌≤◌, length, arith, sym, ◌∙◌, ap, subst}
use Rattle.std.proofs.lemmas.Option.{slice_get_within}
use Rattle.oc_base.specs.Stops.{IsStop}
use Rattle.oc_linking.specs.{Numbers.{first_upto}, FirstFault.{fault_of}}
use Rattle.oc_shelf.proofs.ReadingLaws.StageLemmas.{clean_more, stops_at}
use Rattle.oc_omf.specs.{Entries.{Entry, entries_in}, SectionFaults.{section_stage}, Topics.{said_on}}
use Rattle.oc_omf_judge.specs.Defined.{IsDefined, before_in}
use Rattle.oc_omf_judge.proofs.{StageLaws.{all_behind, defined_behind, entry_count, entry_here, section_here}, TopicLemmas.{said_place}}
use Rattle.oc_omf_judge.proofs.sections.check_sections.Goals as goal

pub take_entry-requires-clause-long : goal.take_entry-requires-clause-long
take_entry-requires-clause-long c =
    let is = c.loop-i.invariant.defined in
    let long = is.covered_long in
    let same = ap length is.segments_are in
    omega (arith, long, same)

pub returns-in-Err-clause-stop : goal.returns-in-Err-clause-stop
returns-in-Err-clause-stop c =
    let file = c.args.omf.now in
    let r = c.entry-entry.result in
    let e : Entry = said_on c.topic_of-topic.result r.place c.is_wide-wide.result r.contents in
    let there = entry_here file c.loop-i.i r c.topic_of-topic.result c.is_wide-wide.result c.entry-entry.ensures.place c.entry-entry.ensures.entry c.topic_of-topic.ensures c.is_wide-wide.ensures in
    let here = section_here file c.loop-i.i r.place e there (said_place c.topic_of-topic.result r.place c.is_wide-wide.result r.contents) in
    stops_at (fault_of (section_stage (entries_in file))) c.loop-i.i (length (entries_in file)) c.in-Err.stop c.loop-i.invariant.clean (slice_get_within (entries_in file) c.loop-i.i e there)
    (subst (λ o. IsStop o c.in-Err.stop) (sym here) (c.in-Err.ensures.stop (before_in file c.loop-i.i) c.loop-i.invariant.defined))

pub loop-i-preserved : goal.loop-i-preserved
loop-i-preserved c =
    let file = c.args.omf.now in
    let r = c.entry-entry.result in
    let e : Entry = said_on c.topic_of-topic.result r.place c.is_wide-wide.result r.contents in
    let there = entry_here file c.loop-i.i r c.topic_of-topic.result c.is_wide-wide.result c.entry-entry.ensures.place c.entry-entry.ensures.entry c.topic_of-topic.ensures c.is_wide-wide.ensures in
    let here = section_here file c.loop-i.i r.place e there (said_place c.topic_of-topic.result r.place c.is_wide-wide.result r.contents) in
    let taken = c.in-Ok.ensures.taken (before_in file c.loop-i.i) c.loop-i.invariant.defined in
    record {
      clean = clean_more (fault_of (section_stage (entries_in file))) c.loop-i.i c.loop-i.invariant.clean (here ∙ taken.0);
      defined = subst (λ t. IsDefined t c.take_entry.new.defined) (sym (defined_behind file c.loop-i.i e there)) taken.1;
    }

pub returns-clause-clean : goal.returns-clause-clean
returns-clause-clean c =
    let file = c.args.omf.now in
    let many = entry_count file in
    let last : length (entries_in file) ≡ c.loop-i.i = omega (arith, many, c.count-i-end.ensures) in
    ap (first_upto (fault_of (section_stage (entries_in file)))) last ∙ c.loop-i.invariant.clean

pub returns-clause-defined : goal.returns-clause-defined
returns-clause-defined c =
    let file = c.args.omf.now in
    let many = entry_count file in
    let last : length (entries_in file) ≤ c.loop-i.i = omega (arith, many, c.count-i-end.ensures) in
    subst (λ t. IsDefined t c.loop-i.defined) (all_behind file c.loop-i.i last) c.loop-i.invariant.defined
