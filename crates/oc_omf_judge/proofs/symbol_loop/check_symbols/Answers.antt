-- An entry with a fault stops the stages.
use Rattle.std.proofs.Common.{◌≡◌, ◌≤◌, length, arith, sym, ◌∙◌, ap, subst}
use Rattle.std.proofs.lemmas.Option.{slice_get_within}
use Rattle.oc_base.specs.Stops.{IsStop}
use Rattle.oc_linking.specs.Numbers.{first_upto}
use Rattle.oc_shelf.proofs.ReadingLaws.StageLemmas.{clean_more, stops_at}
use Rattle.oc_omf.specs.{Entries.{Entry, entries_in}, Tables.{tables_of}, Topics.{said_on}}
use Rattle.oc_omf_judge.specs.{Defined.{before_in}, EarlierSymbols.{AreEarlierSymbols}}
use Rattle.oc_omf_judge.proofs.{LocalLemmas.{named_locals}, StageLaws.{all_behind, defined_behind, entry_count, entry_here}}
use Rattle.oc_omf_judge.proofs.SymbolStages.{symbols_at, symbols_first, symbols_here}
use Rattle.oc_omf_judge.proofs.symbol_loop.check_symbols.Goals as goal

pub returns-in-Err-clause-stop : goal.returns-in-Err-clause-stop
returns-in-Err-clause-stop c =
    let file = c.args.omf.now in
    let r = c.entry-entry.result in
    let e : Entry = said_on c.topic_of-topic.result r.place c.is_wide-wide.result r.contents in
    let there = entry_here file c.loop-i.i r c.topic_of-topic.result c.is_wide-wide.result c.entry-entry.ensures.place c.entry-entry.ensures.entry c.topic_of-topic.ensures c.is_wide-wide.ensures in
    subst (λ o. IsStop o c.in-Err.stop) (sym (symbols_first file))
    (stops_at (symbols_at file) c.loop-i.i (length (entries_in file)) c.in-Err.stop c.loop-i.invariant.clean (slice_get_within (entries_in file) c.loop-i.i e there)
    (subst (λ o. IsStop o c.in-Err.stop) (sym (symbols_here file c.loop-i.i e there)) (c.in-Err.ensures.stop (tables_of (entries_in file)) (before_in file c.loop-i.i) (named_locals (tables_of (entries_in file)).publics c.in_ok-known.known c.in_ok-known.ensures) c.loop-i.invariant.seen)))

pub loop-i-preserved : goal.loop-i-preserved
loop-i-preserved c =
    let file = c.args.omf.now in
    let r = c.entry-entry.result in
    let e : Entry = said_on c.topic_of-topic.result r.place c.is_wide-wide.result r.contents in
    let there = entry_here file c.loop-i.i r c.topic_of-topic.result c.is_wide-wide.result c.entry-entry.ensures.place c.entry-entry.ensures.entry c.topic_of-topic.ensures c.is_wide-wide.ensures in
    let taken = c.in-Ok.ensures.taken (tables_of (entries_in file)) (before_in file c.loop-i.i) (named_locals (tables_of (entries_in file)).publics c.in_ok-known.known c.in_ok-known.ensures) c.loop-i.invariant.seen in
    record {
      clean = clean_more (symbols_at file) c.loop-i.i c.loop-i.invariant.clean (symbols_here file c.loop-i.i e there ∙ taken.0);
      seen = subst (λ t. AreEarlierSymbols t c.see_entry.new.seen) (sym (defined_behind file c.loop-i.i e there)) taken.1;
    }

pub returns-clause-clean : goal.returns-clause-clean
returns-clause-clean c =
    let file = c.args.omf.now in
    let many = entry_count file in
    let last : length (entries_in file) ≡ c.loop-i.i = omega (arith, many, c.count-i-end.ensures) in
    symbols_first file ∙ ap (first_upto (symbols_at file)) last ∙ c.loop-i.invariant.clean

pub returns-clause-seen : goal.returns-clause-seen
returns-clause-seen c =
    let file = c.args.omf.now in
    let many = entry_count file in
    let last : length (entries_in file) ≤ c.loop-i.i = omega (arith, many, c.count-i-end.ensures) in
    subst (λ t. AreEarlierSymbols t c.loop-i.seen) (all_behind file c.loop-i.i last) c.loop-i.invariant.seen
