-- A field with a fault stops the table.
use Rattle.std.proofs.Common.{◌≡◌, ℕ, ◌<◌, ◌≤◌, ◌∙◌, ap, length, None, refl, subst, arith}
use Rattle.oc_shelf.specs.Reading.Bitmaps.{room}
use Rattle.oc_macho.specs.{RelocationFaults.{stored_size}, Framed.{table_at}}
use Rattle.oc_linking.specs.Numbers.{first_upto}
use Rattle.oc_shelf.proofs.ReadingLaws.StageLemmas.{clean_more, stops_at}
use Rattle.oc_macho_judge.specs.Judged.{entry_fault}
use Rattle.oc_macho_judge.proofs.RelocLemmas.{taken_none}
use Rattle.oc_macho_judge.proofs.relocs.check_table.Goals as goal

pub loop-k-init : goal.loop-k-init
loop-k-init c = record { clean = refl; taken = taken_none c.args.frame.now (table_at c.args.frame.now c.args.i) c.in_ok-bytes.bytes c.in_ok-bytes.ensures.none (subst (λ (n : ℕ). n ≤ room c.in_ok-bytes.bytes) (c.stored_size.ensures ∙ ap stored_size c.requires.table.is) c.in_ok-bytes.ensures.room); is = refl }

pub judge_entry-requires-clause-begins : goal.judge_entry-requires-clause-begins
judge_entry-requires-clause-begins c = c.loop-k.invariant.is

pub judge_entry-requires-clause-taken : goal.judge_entry-requires-clause-taken
judge_entry-requires-clause-taken c = c.loop-k.invariant.taken

pub returns-in-Err-clause-stop : goal.returns-in-Err-clause-stop
returns-in-Err-clause-stop c =
    let long = c.requires.table.long in
    let low : c.loop-k.k < length (table_at c.args.frame.now c.args.i).relocs = omega (arith, c.loop-k-test.true, long) in
    stops_at (entry_fault c.args.frame.now c.args.i (table_at c.args.frame.now c.args.i)) c.loop-k.k (length (table_at c.args.frame.now c.args.i).relocs) c.in-Err.stop c.loop-k.invariant.clean low
    c.in-Err.ensures.stop

pub begins_behind-begins-requires-clause-begins : goal.begins_behind-begins-requires-clause-begins
begins_behind-begins-requires-clause-begins c = c.loop-k.invariant.is

pub loop-k-preserved : goal.loop-k-preserved
loop-k-preserved c = record {
  clean = clean_more (entry_fault c.args.frame.now c.args.i (table_at c.args.frame.now c.args.i)) c.loop-k.k c.loop-k.invariant.clean c.in-Ok.ensures.clean;
  taken = c.in-Ok.ensures.taken;
  is = c.begins_behind-begins.ensures;
}

pub returns-clause-clean : goal.returns-clause-clean
returns-clause-clean c =
    let long = c.requires.table.long in
    let end : c.loop-k.k ≡ length (table_at c.args.frame.now c.args.i).relocs = omega (arith, c.loop-k-test.false, c.loop-k.auto.k-end, long) in
    subst (λ (n : ℕ). first_upto (entry_fault c.args.frame.now c.args.i (table_at c.args.frame.now c.args.i)) n ≡ None) end c.loop-k.invariant.clean
