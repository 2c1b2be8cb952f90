use Rattle.std.proofs.Common.{◌≡◌, ◌≤◌, sym, ◌∙◌, arith, length}
use Rattle.std.proofs.lemmas.Bool.{eqb-false, false_from_ne_true}
use Rattle.oc_base.specs.Strings.{ends}
use Rattle.oc_strings.proofs.{EndLemmas.{ends_shares}, KeyLemmas.{shares_to}, order.ends_other.Goals.{then-entry-lt-WORD, else-entry-lt-WORD}}
use Rattle.oc_strings.proofs.order.ends_other.Goals as goal

-- a name of eight bytes and more ends none whose number is another one
pub returns-else-entry-other : goal.returns-else-entry-other
returns-else-entry-other c =
    let entry = c.args.entry.now in
    let other = c.args.other.now in
    c.if-entry-other.false
    ∙ sym (false_from_ne_true (ends entry.name.now other.name.now) (λ e.
    elim c.if-entry-lt-WORD.branch [
      | then-entry-lt-WORD w ↦ absurd (omega (arith, w.if-entry-lt-WORD.true, w.value-is, c.if-entry-other.false))
      | else-entry-lt-WORD w ↦
          let long : 8 ≤ length entry.name.now = omega (arith, w.if-entry-lt-WORD.false) in
          let same : entry.back ≡ other.back
          = c.requires.keyed.back ∙ shares_to entry.name.now other.name.now (ends_shares 8 entry.name.now other.name.now e long) ∙ sym c.requires.other_keyed.back
          in
          absurd (eqb-false entry.back other.back (sym w.value-is ∙ c.if-entry-other.false) same)
    ]))
