-- Symbol by symbol.
use Rattle.oc_coff.specs.Files.{tables_in}
use Rattle.std.proofs.Common.{◌≡◌, ℕ, ◌<◌, ◌++◌, [], ◌∷◌, List, length, take, sym, ◌∙◌, ap, subst, arith}
use Rattle.std.proofs.Math.Seq.{take-length}
use Rattle.std.proofs.lemmas.List.{take_more}
use Rattle.oc_coff_judge.proofs.{NumberLemmas.{all_at}, OwnerLemmas.{IsOwning, owning_none, owning_more, owning_end}}
use Rattle.oc_coff_judge.proofs.owners.owners_of.Goals as goal

pub loop-i-init : goal.loop-i-init
loop-i-init c =
    owning_none c.args.coff.now c.slot_count-count.result c.in_ok-firsts.firsts c.in_ok-seconds.seconds c.slot_count-count.ensures c.in_ok-firsts.ensures c.in_ok-seconds.ensures

pub take_symbol-requires-clause-there : goal.take_symbol-requires-clause-there
take_symbol-requires-clause-there c =
    let low : c.loop-i.i < length c.args.numbers.now = omega (arith, c.loop-i-test.true) in
    subst (λ (n : ℕ). n < length (tables_in c.args.coff.now).entries) (sym c.number_at-j.ensures)
    (all_at (length (tables_in c.args.coff.now).entries) c.args.numbers.now c.loop-i.i 0 c.requires.there low)

pub take_symbol-requires-clause-first : goal.take_symbol-requires-clause-first
take_symbol-requires-clause-first c = c.loop-i.invariant.firsts_are.long

pub take_symbol-requires-clause-second : goal.take_symbol-requires-clause-second
take_symbol-requires-clause-second c = c.loop-i.invariant.seconds_are.long

pub loop-i-preserved : goal.loop-i-preserved
loop-i-preserved c =
    let low : c.loop-i.i < length c.args.numbers.now = omega (arith, c.loop-i-test.true) in
    subst (λ (ns : List ℕ). IsOwning c.args.coff.now ns c.take_symbol.new.firsts c.take_symbol.new.seconds)
    (sym (take_more c.args.numbers.now c.loop-i.i 0 low ∙ ap (λ (n : ℕ). take c.loop-i.i c.args.numbers.now ++ n ∷ []) (sym c.number_at-j.ensures)))
    (owning_more c.args.coff.now (take c.loop-i.i c.args.numbers.now) c.loop-i.firsts c.loop-i.seconds c.take_symbol.new.firsts c.take_symbol.new.seconds c.number_at-j.result c.loop-i.invariant
    c.take_symbol.ensures.firsts c.take_symbol.ensures.seconds)

pub returns : goal.returns
returns c =
    let end : c.loop-i.i ≡ length c.args.numbers.now = omega (arith, c.loop-i-test.false, c.loop-i.auto.i-end) in
    owning_end c.args.coff.now (take c.loop-i.i c.args.numbers.now) c.args.numbers.now c.loop-i.firsts c.loop-i.seconds c.loop-i.invariant c.requires
    (ap (λ (n : ℕ). take n c.args.numbers.now) end ∙ take-length c.args.numbers.now)
