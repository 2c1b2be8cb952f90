-- Each turn gives an entry's symbol its place, which is lower than those before.
use Rattle.std.proofs.Common.{◌≡◌, ◌+◌, ◌-◌, drop, get_or, ap, subst, sym, ◌∙◌, arith}
use Rattle.std.specs.List.{position_or_len}
use Rattle.std.proofs.lemmas.Option.{slice_get-get_or}
use Rattle.oc_neutral.proofs.Positions.{each_at}
use Rattle.oc_omf_write.specs.declared.entries.Entry.TheVariants as entry
use Rattle.oc_omf_write.specs.Numbers.{HasPlace, is_of_symbol}
use Rattle.oc_omf_write.proofs.NumberLemmas.{number_more, number_last}
use Rattle.oc_omf_write.proofs.numbers.numbers_of.Goals as goal

pub entries-init : goal.entries-init
entries-init c = (
  c.in_ok-numbers.ensures.counted,
  omega arith,
  λ k low. c.in_ok-numbers.ensures.each k low ∙ number_last (is_of_symbol k) c.args.entries.now,
)

pub set-requires : goal.set-requires
set-requires c =
    let i = c.entries.left - 1 in
    let some = c.entries-test.true in
    let within = c.entries.invariant.1 in
    subst (λ m. HasPlace m (get_or c.args.entries.now i entry.Header)) (sym c.entries.invariant.0)
    (each_at (HasPlace c.args.symbols) c.args.entries.now i (get_or c.args.entries.now i entry.Header) c.requires.places (slice_get-get_or c.args.entries.now i entry.Header (omega (arith, some, within))))

pub entries-preserved : goal.entries-preserved
entries-preserved c =
    let i = c.entries.left - 1 in
    let some = c.entries-test.true in
    let within = c.entries.invariant.1 in
    let counted = c.entries.invariant.0 in
    let back : i + 1 ≡ c.entries.left = omega (arith, some) in
    let here = slice_get-get_or c.args.entries.now i entry.Header (omega (arith, some, within)) in (
      c.set.ensures.counted ∙ counted,
      omega (arith, some, within),
      λ k low.
          number_more (is_of_symbol k) c.args.entries.now i _ _ _ here
          (c.entries.invariant.2 k low ∙ ap (λ m. m + position_or_len (is_of_symbol k) (drop m c.args.entries.now)) (sym back))
          (c.set.ensures.set k (omega (arith, low, counted))),
    )

pub returns-clause-each : goal.returns-clause-each
returns-clause-each c = λ k low.
    let none : c.entries.left ≡ 0 = (let done = c.entries-test.false in omega (arith, done)) in
    let last = c.entries.invariant.2 k low ∙ ap (λ m. m + position_or_len (is_of_symbol k) (drop m c.args.entries.now)) none in
    omega (arith, last)
