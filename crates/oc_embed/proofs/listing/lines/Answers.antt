-- The bytes decide.
use Rattle.std.proofs.Common.{◌≡◌, ◌<◌, ◌≤◌, length, Some, rules, sym, subst, ap, ◌∙◌}
use Rattle.oc_base.specs.declared.fault.Fault.{Fault}
use Rattle.oc_convert.specs.Dispatched.{reading_refusal}
use Rattle.oc_built.specs.Built.{built}
use Rattle.oc_runs.proofs.Refused.{rest_next}
use Rattle.oc_embed.specs.Listings.{listing_refusal, none}
use Rattle.oc_embed.proofs.CallLaws.{long_first}
use Rattle.oc_embed.proofs.listing.lines.Goals as goal

pub returns-then-input-gt-MOST_INPUT-clause-refused : goal.returns-then-input-gt-MOST_INPUT-clause-refused
returns-then-input-gt-MOST_INPUT-clause-refused g c =
    let long : 67108864 < length c.args.input.now = search rules in
    long_first (reading_refusal built none) c.args.input.now long ∙ ap Some (sym c.too_long.ensures)

pub returns-in-Err-Refused-clause-refused : goal.returns-in-Err-Refused-clause-refused
returns-in-Err-Refused-clause-refused g c =
    let short : length c.args.input.now ≤ 67108864 = search rules in
    let judged : reading_refusal built none c.args.input.now ≡ Some c.in-Err-Refused.fault = rw c.in-Err-Refused.field-0-is at c.in-Err-Refused.ensures.refused in
    subst (λ (f : Fault). listing_refusal c.args.input.now ≡ Some f) (sym c.in-Err-Refused.fault-is) (rest_next (reading_refusal built none) c.args.input.now short ∙ judged)

pub returns-in-Ok-symbol_lines-clause-listed : goal.returns-in-Ok-symbol_lines-clause-listed
returns-in-Ok-symbol_lines-clause-listed g c =
    let short : length c.args.input.now ≤ 67108864 = search rules in
    record {
      accepted = rest_next (reading_refusal built none) c.args.input.now short ∙ c.in-Ok.ensures.well_formed;
      object = c.in-Ok.neutral;
      read = c.in-Ok.ensures.read;
      lines = c.in-Ok-symbol_lines.ensures;
    }
