-- One name more.
use Rattle.oc_coff.specs.Files.{tables_in}
use Rattle.std.proofs.Common.{◌≡◌, ℕ, ◌<◌, length, map, take, sym, ◌∙◌, ap, subst, arith}
use Rattle.std.proofs.Math.Seq.{take-length}
use Rattle.oc_strings.specs.Repeats.{names_of}
use Rattle.oc_coff_judge.specs.{Classed.{public_name}, Numbered.{entry_by}}
use Rattle.oc_coff_judge.proofs.{JudgedSymbols.{copied, names_end, names_more}, NumberLemmas.{all_at}}
use Rattle.oc_coff_judge.proofs.symbol_stage.public_names.Goals as goal

pub public_name-requires : goal.public_name-requires
public_name-requires c =
    let low : c.loop-i.i < length c.args.numbers.now = omega (arith, c.loop-i-test.true) in
    subst (λ (n : ℕ). n < length (tables_in c.args.coff.now).entries) (sym c.number_at-j.ensures) (all_at (length (tables_in c.args.coff.now).entries) c.args.numbers.now c.loop-i.i 0 c.requires.there low)

pub loop-i-preserved : goal.loop-i-preserved
loop-i-preserved c =
    let low : c.loop-i.i < length c.args.numbers.now = omega (arith, c.loop-i-test.true) in
    ap names_of c.in_ok-push.ensures.items
    ∙ names_more c.loop-i.names.items c.public_name.result (λ j. public_name (tables_in c.args.coff.now).strings (entry_by c.args.coff.now j)) c.args.numbers.now c.loop-i.i low c.loop-i.invariant
    (copied c.public_name.result (public_name (tables_in c.args.coff.now).strings (entry_by c.args.coff.now c.number_at-j.result)) c.public_name.ensures
    ∙ ap (λ (j : ℕ). public_name (tables_in c.args.coff.now).strings (entry_by c.args.coff.now j)) c.number_at-j.ensures)

pub returns : goal.returns
returns c =
    let end : c.loop-i.i ≡ length c.args.numbers.now = omega (arith, c.loop-i-test.false, c.loop-i.auto.i-end) in
    c.loop-i.invariant
    ∙ ap (map (λ j. public_name (tables_in c.args.coff.now).strings (entry_by c.args.coff.now j))) (ap (λ (n : ℕ). take n c.args.numbers.now) end ∙ take-length c.args.numbers.now)
    ∙ names_end c.args.coff.now c.args.numbers.now c.requires
