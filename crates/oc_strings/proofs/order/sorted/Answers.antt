use Rattle.std.proofs.Common.{rules, arith}
use Rattle.std.proofs.lemmas.List.Sorted.{ranks_by, answers_always}
use Rattle.std.specs.Ordering.{is_lt}
use Rattle.oc_strings.specs.{declared.order.Entry.{Entry}, Keys.{full_order}}
use Rattle.oc_strings.proofs.{KeyLemmas.{full_order_total}, EntryLemmas.{apart_moved, ascending, keyed_moved, numbered, sooner_first}}
use Rattle.oc_strings.proofs.order.sorted.Goals as goal

pub returns-clause-keyed : goal.returns-clause-keyed
returns-clause-keyed c =
    keyed_moved c.args.names.now c.loop-number.entries.items c.sort_by.new.self.items c.in_ok-sort_by.ensures.permutation
    (λ k d e l. (c.loop-number.invariant.each k d e (omega arith), c.loop-number.invariant.bytes k e (omega arith)))

pub returns-clause-ascends : goal.returns-clause-ascends
returns-clause-ascends c =
    ascending c.sort_by.new.self.items
    (keyed_moved c.args.names.now c.loop-number.entries.items c.sort_by.new.self.items c.in_ok-sort_by.ensures.permutation
    (λ k d e l. (c.loop-number.invariant.each k d e (omega arith), c.loop-number.invariant.bytes k e (omega arith))))
    (c.in_ok-sort_by.ensures.sorted (λ a b. is_lt (full_order a b)) (ranks_by full_order_total (λ (e : Entry). e)) (answers_always _ _ _ (λ f a r g called. search rules)))

pub returns-clause-numbered : goal.returns-clause-numbered
returns-clause-numbered c =
    numbered c.args.names.now c.loop-number.entries.items c.sort_by.new.self.items c.in_ok-sort_by.ensures.permutation (omega arith) (λ k d e l. c.loop-number.invariant.each k d e (omega arith))

pub returns-clause-apart : goal.returns-clause-apart
returns-clause-apart c =
    apart_moved c.args.names.now c.loop-number.entries.items c.sort_by.new.self.items c.in_ok-sort_by.ensures.permutation (λ k d e l. c.loop-number.invariant.each k d e (omega arith))

pub returns-clause-sooner : goal.returns-clause-sooner
returns-clause-sooner c =
    sooner_first c.sort_by.new.self.items
    (keyed_moved c.args.names.now c.loop-number.entries.items c.sort_by.new.self.items c.in_ok-sort_by.ensures.permutation
    (λ k d e l. (c.loop-number.invariant.each k d e (omega arith), c.loop-number.invariant.bytes k e (omega arith))))
    (apart_moved c.args.names.now c.loop-number.entries.items c.sort_by.new.self.items c.in_ok-sort_by.ensures.permutation (λ k d e l. c.loop-number.invariant.each k d e (omega arith)))
    (c.in_ok-sort_by.ensures.sorted (λ a b. is_lt (full_order a b)) (ranks_by full_order_total (λ (e : Entry). e)) (answers_always _ _ _ (λ f a r g called. search rules)))
