-- What is asked for is done.
use Rattle.std.proofs.Common.{◌≡◌, ℕ, List, Option, Some, None, rules, refl, sym, subst}
use Rattle.oc_runs.specs.States.{State, state_of}
use Rattle.oc_listings.specs.declared.listing.Listing.{Listing}
use Rattle.oc_lister.specs.{Runs.{DoesAsked}, Words.{asked_by}}
use Rattle.oc_lister.proofs.lister.run_list_by.Goals as goal

pub returns-in-Some : goal.returns-in-Some
returns-in-Some g c =
    let before : State = state_of g.F.Files.held g.F.Files.read_faults g.F.Files.write_faults g.C.Console.shown g.C.Console.told g.C.Console.out_faults g.C.Console.err_faults c.args.files.now c.args.console.now in
    let after : State = state_of g.F.Files.held g.F.Files.read_faults g.F.Files.write_faults g.C.Console.shown g.C.Console.told g.C.Console.out_faults g.C.Console.err_faults c.list_input.new.files c.list_input.new.console in
    let what : asked_by c.args.words.now ≡ Some (c.in-Some.listing, c.in-Some.input.now) = search rules in
    record {
      asked = subst (λ (o : Option (Listing × List ℕ)). DoesAsked o before c.list_input.result after) (sym what) c.list_input.ensures.listing;
      end = c.list_input.ensures.end;
    }

pub returns-in-None : goal.returns-in-None
returns-in-None g c =
    let before : State = state_of g.F.Files.held g.F.Files.read_faults g.F.Files.write_faults g.C.Console.shown g.C.Console.told g.C.Console.out_faults g.C.Console.err_faults c.args.files.now c.args.console.now in
    let after : State = state_of g.F.Files.held g.F.Files.read_faults g.F.Files.write_faults g.C.Console.shown g.C.Console.told g.C.Console.out_faults g.C.Console.err_faults c.args.files.now c.tell.new.console in
    let what : asked_by c.args.words.now ≡ None = search rules in
    record {
      asked = subst (λ (o : Option (Listing × List ℕ)). DoesAsked o before c.tell.result after) (sym what) (record {
        named = c.tell.ensures.status;
        told = search rules;
        held = refl;
        shown = c.tell.ensures.other.text;
        reads = refl;
        writes = refl;
        outs = c.tell.ensures.other.count;
        errs = c.tell.ensures.counts;
      });
      end = search rules;
    }
