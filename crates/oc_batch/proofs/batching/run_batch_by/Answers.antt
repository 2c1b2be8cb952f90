-- What was done of the words.
use Rattle.std.proofs.Common.{rules, ◌≡◌, ℕ, ◌<◌, ◌≤◌, List, length, refl, sym, subst, ◌∙◌, arith}
use Rattle.oc_runs.specs.States.{State, state_of}
use Rattle.oc_batch.specs.{Batches.{HasJobs}, Runs.{AreRun}}
use Rattle.oc_batch.proofs.{BatchLaws.{named, refused_list, run_list, wordless}, RunLaws.{same_state}}
use Rattle.oc_batch.proofs.batching.run_batch_by.Goals as goal

pub returns-then-count-ne1 : goal.returns-then-count-ne1
returns-then-count-ne1 g c =
    wordless c.args.words.now _ c.tell.result _ (λ one. c.if-count-ne1.true (c.count.ensures ∙ one)) (record {
      named = c.tell.ensures.status;
      told = search rules;
      held = refl;
      shown = c.tell.ensures.other.text;
      reads = refl;
      writes = refl;
      outs = c.tell.ensures.other.count;
      errs = c.tell.ensures.counts;
    })

pub returns-in-Ok : goal.returns-in-Ok
returns-in-Ok g c =
    let before : State = state_of g.F.Files.held g.F.Files.read_faults g.F.Files.write_faults g.C.Console.shown g.C.Console.told g.C.Console.out_faults g.C.Console.err_faults c.args.files.now c.args.console.now in
    let between : State = state_of g.F.Files.held g.F.Files.read_faults g.F.Files.write_faults g.C.Console.shown g.C.Console.told g.C.Console.out_faults g.C.Console.err_faults c.read_list.new.files c.args.console.now in
    let after : State = state_of g.F.Files.held g.F.Files.read_faults g.F.Files.write_faults g.C.Console.shown g.C.Console.told g.C.Console.out_faults g.C.Console.err_faults c.run_jobs.new.files c.run_jobs.new.console in
    let one : length c.args.words.now ≡ 1 = omega (arith, c.count.ensures, c.if-count-ne1.false) in
    let later : before.read_faults ≤ between.read_faults = c.in-Ok.ensures.counts.later in
    let quiet : before.read_faults < between.read_faults → ⊥ = λ l. cc (c.in-Ok.ensures.failed l) in
    let reads : between.read_faults ≡ before.read_faults = omega (arith, later, quiet) in
    let same : between ≡ before = same_state between before c.in-Ok.ensures.same refl refl reads c.in-Ok.ensures.counts.other refl refl in
    let run : AreRun c.as_slice.result.now before c.run_jobs.result after = subst (λ x. AreRun c.as_slice.result.now x c.run_jobs.result after) same c.run_jobs.ensures in
    named c.args.words.now c.word.result.now before c.run_jobs.result after one c.word.ensures
    (run_list c.word.result.now before after c.as_slice.result.now c.run_jobs.result
    (subst (λ (js : List (List (List ℕ))). HasJobs c.word.result.now before.held js) (sym c.as_slice.ensures.value) c.in-Ok.ensures.jobs) run)

pub returns-in-Err : goal.returns-in-Err
returns-in-Err g c =
    let before : State = state_of g.F.Files.held g.F.Files.read_faults g.F.Files.write_faults g.C.Console.shown g.C.Console.told g.C.Console.out_faults g.C.Console.err_faults c.args.files.now c.args.console.now in
    let after : State = state_of g.F.Files.held g.F.Files.read_faults g.F.Files.write_faults g.C.Console.shown g.C.Console.told g.C.Console.out_faults g.C.Console.err_faults c.read_list.new.files c.report_list.new.console in
    let one : length c.args.words.now ≡ 1 = omega (arith, c.count.ensures, c.if-count-ne1.false) in
    named c.args.words.now c.word.result.now before c.report_list.result after one c.word.ensures
    (refused_list c.word.result.now before after c.in-Err.fault c.report_list.result c.in-Err.ensures.fault c.report_list.ensures.told
    c.in-Err.ensures.same c.report_list.ensures.other.text c.in-Err.ensures.counts.other c.report_list.ensures.other.count
    (λ rose. cc (c.in-Err.ensures.failed rose))
    (record {
      reads = c.in-Err.ensures.counts.later;
      writes = omega (arith, c.in-Err.ensures.counts.other);
      outs = omega (arith, c.report_list.ensures.other.count);
      errs = c.report_list.ensures.counts;
    }))
