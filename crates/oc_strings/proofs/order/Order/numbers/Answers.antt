use Rattle.std.proofs.Common.{◌≡◌, ◌<◌, ◌+◌, ◌++◌, ◌∷◌, [], ℕ, true, false, length, sym, ◌∙◌, ap, subst, arith}
use Rattle.oc_strings.specs.{declared.order.Entry.{Entry}, Order.{names_of, is_repeat, number_at}}
use Rattle.oc_strings.proofs.EntryLemmas.{IsSearched, number_is, searched_old, searched_new, searched_all}
use Rattle.oc_strings.proofs.order.Order.numbers.Goals.{then-not-is_repeat+in_ok-push, else-not-is_repeat}
use Rattle.oc_strings.proofs.order.Order.numbers.Goals as goal

pub loop-k-preserved : goal.loop-k-preserved
loop-k-preserved c = λ names o.
    let entries = c.args.self.now.entries.items in
    let k : ℕ = c.loop-k.k in
    elim c.if-not-is_repeat.branch [
      | then-not-is_repeat+in_ok-push w ↦
          let low : k < length entries = omega (arith, c.loop-k-test.true, c.len-k-end.ensures) in
          let fresh : is_repeat (names_of entries) k ≡ false = sym c.is_repeat.ensures ∙ w.if-not-is_repeat.true in
          let more : c.if-not-is_repeat.numbers.items ≡ c.loop-k.numbers.items ++ number_at entries k ∷ []
          = ap (λ v. v.items) w.numbers-is ∙ w.in_ok-push.ensures.items
          ∙ ap (λ n. c.loop-k.numbers.items ++ n ∷ []) (ap (λ (e : Entry). e.number) w.index.ensures ∙ sym (number_is entries k w.index.result.now low))
          in
          subst (IsSearched names entries (k + 1)) (sym more) (searched_new names entries c.args.self.now.tails.items o k low c.loop-k.numbers.items (c.loop-k.invariant names o) fresh)
      | else-not-is_repeat w ↦
          let low : k < length entries = omega (arith, c.loop-k-test.true, c.len-k-end.ensures) in
          let old : is_repeat (names_of entries) k ≡ true = sym c.is_repeat.ensures ∙ w.if-not-is_repeat.false in
          subst (λ v. IsSearched names entries (k + 1) v.items) (sym w.numbers-is) (searched_old names entries c.args.self.now.tails.items o k low c.loop-k.numbers.items (c.loop-k.invariant names o) old)
    ]

pub returns : goal.returns
returns c = λ names o. searched_all names c.args.self.now.entries.items c.args.self.now.tails.items o c.loop-k.k (omega (arith, c.loop-k-test.false)) c.loop-k.numbers.items (c.loop-k.invariant names o)
