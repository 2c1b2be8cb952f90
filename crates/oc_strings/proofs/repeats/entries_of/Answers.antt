-- One position more.
use Rattle.std.proofs.Common.{ℕ, ◌∷◌, ◌++◌, [], Some, None, sym, ◌∙◌, ap}
use Rattle.std.specs.Option.{option_copied}
use Rattle.std.proofs.lemmas.List.{append-nil}
use Rattle.oc_strings.specs.Repeats.{names_of}
use Rattle.oc_strings.proofs.{RepeatSorting.{entries_more, named_by, unnamed_by}, repeats.entries_of.Goals.{in-Some+in_ok-push, in_default}}
use Rattle.oc_strings.proofs.repeats.entries_of.Goals as goal

pub loop-at-preserved : goal.loop-at-preserved
loop-at-preserved c =
    let names = names_of c.args.names.now in
    let at = c.loop-at.at in
    let es = c.loop-at.entries.items in
    elim c.match-names-at.branch [
      | in-Some+in_ok-push w ↦
          let name = w.in-Some.name in
          ap (λ v. v.items) w.entries-is
          ∙ w.in_ok-push.ensures.items
          ∙ ap (λ (n : ℕ). es ++ record { number = n; at = at } ∷ []) w.number_of.ensures
          ∙ entries_more names at es (Some name.now) (named_by c.args.names.now at c.loop-at-test.true ∙ ap option_copied w.in-Some.is) c.loop-at.invariant
      | in_default w ↦
          ap (λ v. v.items) w.entries-is
          ∙ sym (append-nil es)
          ∙ entries_more names at es None (unnamed_by c.args.names.now at c.loop-at-test.true w.in_default.not-Some) c.loop-at.invariant
    ]
