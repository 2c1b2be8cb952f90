-- Symbol by symbol.
use Rattle.oc_coff.specs.Files.{tables_in}
use Rattle.std.proofs.Common.{◌≡◌, ℕ, ◌<◌, ◌++◌, [], ◌∷◌, List, length, take, sym, ◌∙◌, ap, subst, arith}
use Rattle.std.proofs.Math.Seq.{take-length}
use Rattle.std.proofs.lemmas.List.{take_more}
use Rattle.oc_shelf.specs.Reading.Slots.{AreSlots}
use Rattle.oc_coff_judge.proofs.{NumberLemmas.{all_at}, StartLemmas.{start_among, starts_end, starts_more, starts_none}}
use Rattle.oc_coff_judge.proofs.found.starts_of.Goals as goal

pub loop-i-init : goal.loop-i-init
loop-i-init c = starts_none c.args.coff.now c.entry_count-count.result c.in_ok-starts.starts c.entry_count-count.ensures c.in_ok-starts.ensures

pub fill-requires : goal.fill-requires
fill-requires c =
    let low : c.loop-i.i < length c.args.numbers.now = omega (arith, c.loop-i-test.true) in
    let there : c.number_at-j.result < length (tables_in c.args.coff.now).entries
    = subst (λ (n : ℕ). n < length (tables_in c.args.coff.now).entries) (sym c.number_at-j.ensures) (all_at (length (tables_in c.args.coff.now).entries) c.args.numbers.now c.loop-i.i 0 c.requires.there low) in
    let long = c.loop-i.invariant.long in
    omega (arith, there, long)

pub loop-i-preserved : goal.loop-i-preserved
loop-i-preserved c =
    let low : c.loop-i.i < length c.args.numbers.now = omega (arith, c.loop-i-test.true) in
    let there : c.number_at-j.result < length (tables_in c.args.coff.now).entries
    = subst (λ (n : ℕ). n < length (tables_in c.args.coff.now).entries) (sym c.number_at-j.ensures) (all_at (length (tables_in c.args.coff.now).entries) c.args.numbers.now c.loop-i.i 0 c.requires.there low) in
    subst (λ (ns : List ℕ). AreSlots (start_among c.args.coff.now ns) (length (tables_in c.args.coff.now).entries) c.fill.new.self)
    (sym (take_more c.args.numbers.now c.loop-i.i 0 low ∙ ap (λ (n : ℕ). take c.loop-i.i c.args.numbers.now ++ n ∷ []) (sym c.number_at-j.ensures)))
    (starts_more c.args.coff.now (take c.loop-i.i c.args.numbers.now) c.number_at-j.result c.loop-i.starts c.fill.new.self c.loop-i.invariant there c.fill.ensures)

pub returns : goal.returns
returns c =
    let end : c.loop-i.i ≡ length c.args.numbers.now = omega (arith, c.loop-i-test.false, c.loop-i.auto.i-end) in
    starts_end c.args.coff.now (take c.loop-i.i c.args.numbers.now) c.args.numbers.now c.loop-i.starts c.loop-i.invariant c.requires
    (ap (λ (n : ℕ). take n c.args.numbers.now) end ∙ take-length c.args.numbers.now)
