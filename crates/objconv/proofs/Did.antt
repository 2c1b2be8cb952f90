-- What is done of a job where memory ran out.
use Rattle.std.proofs.Common.{◌≡◌, ℕ, inl, inr, List, Option, Result, Ok, Err, sym, subst, arith}
use Rattle.oc_base.specs.{declared.format.Format.{Format}, declared.fault.Fault.{Fault}}
use Rattle.oc_names.specs.Wishes.{Wishes}
use Rattle.oc_words.specs.{declared.job.Job.{Job}, declared.job.Job.TheVariants.{Convert, Symbols, Make}, Faults.{BadWord}, Messages.{word_message_of}}
use Rattle.oc_runs.specs.{States.{State}, Refusals.{IsJudged}}
use Rattle.objconv.specs.{Refusals.{conversion_refusal, listing_refusal}, Conversions.{IsConversion}, Listings.{IsSymbols}, Making.{IsMaking}}
use Rattle.objconv.specs.Runs.{IsUndone, DoesJob}

module _ (before after : State) (status : ℕ) where
  -- the job is that of the words
  pub does_same : (asked job : Result Job BadWord) → asked ≡ job → DoesJob job before status after → DoesJob asked before status after
  does_same asked job same does = subst (λ j. DoesJob j before status after) (sym same) does

  -- nothing but standard error was changed, and memory ran out
  module _ (seven : status ≡ 7) (held : after.held ≡ before.held) (reads : after.read_faults ≡ before.read_faults) (writes : after.write_faults ≡ before.write_faults)
      (shown : after.shown ≡ before.shown) (outs : after.out_faults ≡ before.out_faults) where
    judged_memory : (first : List ℕ → Option Fault) (input : List ℕ) → IsJudged first input before status after
    judged_memory first input = record {
      words = λ three. omega (arith, seven, three);
      unread = λ four. absurd (omega (arith, seven, four));
      absent = λ absent. inr seven;
      refused = λ is. absurd (elim is [ inl e ↦ omega (arith, seven, e) | inr (inl e) ↦ omega (arith, seven, e) | inr (inr e) ↦ omega (arith, seven, e) ]);
    }

    undone_memory : (text : List ℕ) → IsUndone text before status after
    undone_memory text = record {
      named = inr seven;
      told = λ three. absurd (omega (arith, seven, three));
      held = held;
      reads = reads;
      writes = writes;
      shown = shown;
      outs = outs;
    }

    converted_memory : (to : Format) (wishes : Wishes) (input output : List ℕ) → IsConversion to wishes input output before status after
    converted_memory to wishes input output = record {
      judged = judged_memory (conversion_refusal wishes to) input;
      exact = λ reads writes m told b holds. inl seven;
      written = λ e. absurd (omega (arith, seven, e));
      partly = λ e. absurd (omega (arith, seven, e));
      listing = λ e. omega (arith, seven, e);
      shown = shown;
      outs = outs;
    }

    listed_memory : (input : List ℕ) → IsSymbols input before status after
    listed_memory input = record {
      judged = judged_memory listing_refusal input;
      exact = λ reads outs m told b holds. inl seven;
      listed = λ e. absurd (omega (arith, seven, e));
      partly = λ e. absurd (omega (arith, seven, e));
      output = λ e. omega (arith, seven, e);
      held = held;
      writes = writes;
    }

    made_memory : (count : ℕ) (to : Format) (output : List ℕ) → IsMaking count to output before status after
    made_memory count to output = record {
      words = λ three. omega (arith, seven, three);
      unread = λ four. omega (arith, seven, four);
      accepted = λ is. (elim is [ inl e ↦ omega (arith, seven, e) | inr (inl e) ↦ omega (arith, seven, e) | inr (inr e) ↦ omega (arith, seven, e) ]);
      exact = λ writes outs. inl seven;
      made = λ e. absurd (omega (arith, seven, e));
      partly = λ e. absurd (omega (arith, seven, e));
      listing = λ e. absurd (omega (arith, seven, e));
      reads = reads;
    }

    -- whatever the words ask for
    pub memory_does : (asked : Result Job BadWord) → DoesJob asked before status after
    memory_does (Err bad) = undone_memory (word_message_of bad.index bad.code)
    memory_does (Ok (Convert to wishes input output)) = converted_memory to wishes input output
    memory_does (Ok (Symbols input)) = listed_memory input
    memory_does (Ok (Make count to output)) = made_memory count to output
