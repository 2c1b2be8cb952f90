-- The job of the words is done.
use Rattle.std.proofs.Common.{rules, ◌≡◌, Result, Ok}
use Rattle.oc_words.specs.{declared.job.Job.{Job}, declared.job.Job.TheVariants.{Convert, Symbols, Make}, Faults.{BadWord, bad}, Jobs.{job_of}}
use Rattle.objconv.proofs.{Counted.{low_job}, Did.{does_same, memory_does}}
use Rattle.objconv.proofs.command.run.Goals as goal

pub returns-in-Ok-Convert : goal.returns-in-Ok-Convert
returns-in-Ok-Convert g c =
    let job : Result Job BadWord = Ok (Convert c.in-Ok-Convert.to c.in-Ok-Convert.edits c.as_str.result.now c.as_str-in-Ok-Convert.result.now) in
    let asked : job_of c.args.words.now ≡ job = search rules in
    record { job = does_same _ _ c.convert_file.result (job_of c.args.words.now) job asked c.convert_file.ensures.job; end = c.convert_file.ensures.end }

pub returns-in-Ok-Symbols : goal.returns-in-Ok-Symbols
returns-in-Ok-Symbols g c =
    let asked : job_of c.args.words.now ≡ Ok (Symbols c.as_str-in-Ok-Symbols.result.now) = search rules in
    record { job = does_same _ _ c.list_file.result (job_of c.args.words.now) (Ok (Symbols c.as_str-in-Ok-Symbols.result.now)) asked c.list_file.ensures.job; end = c.list_file.ensures.end }

pub make_file-requires-clause-few : goal.make_file-requires-clause-few
make_file-requires-clause-few g c =
    let asked : job_of c.args.words.now ≡ Ok (Make c.in-Ok-Make.count c.in-Ok-Make.to c.as_str-in-Ok-Make.result.now) = search rules in
    (low_job c.args.words.now c.in-Ok-Make.count c.in-Ok-Make.to c.as_str-in-Ok-Make.result.now asked).0

pub make_file-requires-clause-plain : goal.make_file-requires-clause-plain
make_file-requires-clause-plain g c =
    let asked : job_of c.args.words.now ≡ Ok (Make c.in-Ok-Make.count c.in-Ok-Make.to c.as_str-in-Ok-Make.result.now) = search rules in
    (low_job c.args.words.now c.in-Ok-Make.count c.in-Ok-Make.to c.as_str-in-Ok-Make.result.now asked).1

pub returns-in-Ok-Make : goal.returns-in-Ok-Make
returns-in-Ok-Make g c =
    let asked : job_of c.args.words.now ≡ Ok (Make c.in-Ok-Make.count c.in-Ok-Make.to c.as_str-in-Ok-Make.result.now) = search rules in
    record {
      job = does_same _ _ c.make_file.result (job_of c.args.words.now) (Ok (Make c.in-Ok-Make.count c.in-Ok-Make.to c.as_str-in-Ok-Make.result.now)) asked c.make_file.ensures.job;
      end = c.make_file.ensures.end;
    }

pub returns-in-Err-Bad : goal.returns-in-Err-Bad
returns-in-Err-Bad g c =
    let asked : job_of c.args.words.now ≡ bad c.in-Err-Bad.index c.in-Err-Bad.code = rw c.in-Err-Bad.field-0-is at c.in-Err-Bad.ensures.fault in
    record {
      job = does_same _ _ c.report_word.result (job_of c.args.words.now) (bad c.in-Err-Bad.index c.in-Err-Bad.code) asked (record {
        named = search rules;
        told = search rules;
        held = search rules;
        reads = search rules;
        writes = search rules;
        shown = search rules;
        outs = search rules;
      });
      end = search rules;
    }

pub returns-in-Err-NoMemory : goal.returns-in-Err-NoMemory
returns-in-Err-NoMemory g c = record {
  job = memory_does _ _ c.report_memory.result c.report_memory.ensures.status (search rules) (search rules) (search rules) (search rules) (search rules) (job_of c.args.words.now);
  end = search rules;
}
