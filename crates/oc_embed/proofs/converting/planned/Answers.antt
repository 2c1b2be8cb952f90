-- The bytes decide.
use Rattle.std.proofs.Common.{◌≡◌, ℕ, ◌<◌, ◌≤◌, List, length, Option, Some, rules, sym, ap, ◌∙◌}
use Rattle.oc_base.specs.declared.fault.Fault.{Fault}
use Rattle.oc_convert.specs.Dispatched.{dispatch_refusal}
use Rattle.oc_built.specs.Built.{built}
use Rattle.oc_runs.proofs.Refused.{rest_next}
use Rattle.oc_embed.proofs.CallLaws.{long_first}
use Rattle.oc_embed.proofs.converting.planned.Goals as goal

pub returns-then-input-gt-MOST_INPUT-clause-refused : goal.returns-then-input-gt-MOST_INPUT-clause-refused
returns-then-input-gt-MOST_INPUT-clause-refused g c =
    let long : 67108864 < length c.args.input.now = search rules in
    record {
      to = c.in_ok-wanted.wanted.to;
      wishes = c.in_ok-wanted.wanted.edits;
      asked = c.in_ok-wanted.ensures.asked;
      refused = long_first (dispatch_refusal built c.in_ok-wanted.wanted.edits c.in_ok-wanted.wanted.to) c.args.input.now long ∙ ap Some (sym c.too_long.ensures);
    }

pub returns-in-Ok-clause-planned : goal.returns-in-Ok-clause-planned
returns-in-Ok-clause-planned g c =
    let short : length c.args.input.now ≤ 67108864 = search rules in
    record {
      to = c.in_ok-wanted.wanted.to;
      wishes = c.in_ok-wanted.wanted.edits;
      asked = c.in_ok-wanted.ensures.asked;
      accepted = rest_next (dispatch_refusal built c.in_ok-wanted.wanted.edits c.in_ok-wanted.wanted.to) c.args.input.now short ∙ c.in-Ok.ensures.accepted;
      dispatched = c.in-Ok.ensures.dispatched;
    }

pub returns-in-Err-Refused-clause-refused : goal.returns-in-Err-Refused-clause-refused
returns-in-Err-Refused-clause-refused g c =
    let short : length c.args.input.now ≤ 67108864 = search rules in
    let refusal : List ℕ → Option Fault = dispatch_refusal built c.in_ok-wanted.wanted.edits c.in_ok-wanted.wanted.to in
    let judged : refusal c.args.input.now ≡ Some c.in-Err-Refused.fault = rw c.in-Err-Refused.field-0-is at c.in-Err-Refused.ensures.refused in
    record {
      to = c.in_ok-wanted.wanted.to;
      wishes = c.in_ok-wanted.wanted.edits;
      asked = c.in_ok-wanted.ensures.asked;
      refused = rest_next refusal c.args.input.now short ∙ judged;
    }
