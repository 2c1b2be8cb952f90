use Rattle.std.proofs.Common.{◌≡◌, ℕ, ◌+◌, ◌*◌, ◌%◌, ◌<◌, ◌++◌, ◌∷◌, [], List, sym, ◌∙◌, ap, subst, arith}
use Rattle.oc_chains.specs.{declared.field.Field.{Field}, Fields.{field, FollowFrom}, Lists.{held_in, list_of, Lists}}
use Rattle.oc_neutral.specs.declared.reloc.Reloc.{Reloc}
use Rattle.oc_made.specs.Functions.{call, calls_of}
use Rattle.oc_made.proofs.CallLemmas.{calls_from, calls_more, few_before, few_with_first, first_call, first_follows, second_follows}
use Rattle.oc_made.proofs.calls.calls_of.Goals as goal

-- a call that is put behind fields, where these and the call are known
put : (before now : Lists Reloc) (xs : List (Field Reloc)) (at : ℕ) (r q : Reloc) → before ≡ xs ∷ [] → r ≡ q → now ≡ (list_of before 0 ++ field at 4 r ∷ []) ∷ [] → now ≡ (xs ++ field at 4 q ∷ []) ∷ []
put before now xs at r q b e h = h ∙ ap (λ (ls : Lists Reloc). (list_of ls 0 ++ field at 4 r ∷ []) ∷ []) b ∙ ap (λ p. (xs ++ field at 4 p ∷ []) ∷ []) e

-- and that it follows them
behind : (before : Lists Reloc) (xs : List (Field Reloc)) (at : ℕ) (r q : Reloc) → before ≡ xs ∷ [] → r ≡ q → FollowFrom 0 (xs ++ field at 4 q ∷ []) → FollowFrom 0 (list_of before 0 ++ field at 4 r ∷ [])
behind before xs at r q b e h =
    subst (λ (ls : Lists Reloc). FollowFrom 0 (list_of ls 0 ++ field at 4 r ∷ [])) (sym b) (subst (λ p. FollowFrom 0 (xs ++ field at 4 p ∷ [])) (sym e) h)

pub put_behind-requires-clause-behind : goal.put_behind-requires-clause-behind
put_behind-requires-clause-behind c =
    let low : c.loop-i.i < 100000 = omega arith in
    behind c.loop-i.calls.lists (calls_from c.args.word c.args.count 0 c.loop-i.i) (16 * c.loop-i.i + 1) c.call.result (call c.args.word ((5 * c.loop-i.i + 1) % c.args.count))
    c.loop-i.invariant c.call.ensures (first_follows c.args.word c.args.count c.loop-i.i low)

pub put_behind-requires-clause-room : goal.put_behind-requires-clause-room
put_behind-requires-clause-room c =
    let held = ap held_in c.loop-i.invariant in
    let few = few_before c.args.word c.args.count c.loop-i.i in
    omega (arith, held, few)

pub put_behind-requires-in-loop-i-clause-behind : goal.put_behind-requires-in-loop-i-clause-behind
put_behind-requires-in-loop-i-clause-behind c =
    let low : c.loop-i.i < 100000 = omega arith in
    let first = put c.loop-i.calls.lists c.put_behind.new.calls.lists (calls_from c.args.word c.args.count 0 c.loop-i.i) (16 * c.loop-i.i + 1) c.call.result
    (call c.args.word ((5 * c.loop-i.i + 1) % c.args.count)) c.loop-i.invariant c.call.ensures c.in_ok-put_behind.ensures in
    behind c.put_behind.new.calls.lists (calls_from c.args.word c.args.count 0 c.loop-i.i ++ first_call c.args.word c.args.count c.loop-i.i ∷ []) (16 * c.loop-i.i + 6) c.call-in-loop-i.result
    (call c.args.word (c.args.count + c.loop-i.i % 10)) first c.call-in-loop-i.ensures (second_follows c.args.word c.args.count c.loop-i.i low)

pub put_behind-requires-in-loop-i-clause-room : goal.put_behind-requires-in-loop-i-clause-room
put_behind-requires-in-loop-i-clause-room c =
    let first = put c.loop-i.calls.lists c.put_behind.new.calls.lists (calls_from c.args.word c.args.count 0 c.loop-i.i) (16 * c.loop-i.i + 1) c.call.result
    (call c.args.word ((5 * c.loop-i.i + 1) % c.args.count)) c.loop-i.invariant c.call.ensures c.in_ok-put_behind.ensures in
    let held = ap held_in first in
    let few = few_with_first c.args.word c.args.count c.loop-i.i in
    omega (arith, held, few)

pub loop-i-preserved : goal.loop-i-preserved
loop-i-preserved c =
    let first = put c.loop-i.calls.lists c.put_behind.new.calls.lists (calls_from c.args.word c.args.count 0 c.loop-i.i) (16 * c.loop-i.i + 1) c.call.result
    (call c.args.word ((5 * c.loop-i.i + 1) % c.args.count)) c.loop-i.invariant c.call.ensures c.in_ok-put_behind.ensures in
    put c.put_behind.new.calls.lists c.put_behind-in-loop-i.new.calls.lists (calls_from c.args.word c.args.count 0 c.loop-i.i ++ first_call c.args.word c.args.count c.loop-i.i ∷ [])
    (16 * c.loop-i.i + 6) c.call-in-loop-i.result (call c.args.word (c.args.count + c.loop-i.i % 10)) first c.call-in-loop-i.ensures c.in_ok-put_behind-2.ensures
    ∙ ap (λ (xs : List (Field Reloc)). xs ∷ []) (calls_more c.args.word c.args.count c.loop-i.i)

pub returns : goal.returns
unfolding calls_of
returns c =
    let all : c.loop-i.i ≡ c.args.count = omega arith in
    c.loop-i.invariant ∙ ap (λ n. calls_from c.args.word c.args.count 0 n ∷ []) all
