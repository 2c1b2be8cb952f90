-- A value is taken from the end of its field, and a difference from the start of the section.
use Rattle.std.proofs.Common.{◌≡◌, to_z, of_z, w64, true, cond, refl, rules, sym, ◌∙◌, ap}
use Rattle.std.specs.Prelude.{pos, neg_ℤ, ◌-ℤ◌}
use Rattle.oc_base.specs.declared.format.Word.TheVariants.{W64}
use Rattle.oc_neutral.specs.Rows.{TakesPlace, same_taken, taken_of}
use Rattle.oc_macho_write.proofs.FormLemmas.{alone_64, none_64, pair_64, spelled_one, spelled_pair}
use Rattle.oc_macho_write.proofs.forms.shift64.Goals as goal

pub returns-then-not-takes_place : goal.returns-then-not-takes_place
returns-then-not-takes_place c = λ n is written. none_64 n c.args.standing.now is written (sym c.takes_place.ensures ∙ c.if-not-takes_place.true)

pub returns-in-One : goal.returns-in-One
returns-in-One c = λ n is written.
    let y = c.args.standing.now in
    let one = (spelled_one W64 y is written c.in-One.field-0 c.in-One.is).0 in
    let takes : same_taken (taken_of y.reloc.form.less) TakesPlace ≡ true = sym c.takes_place.ensures ∙ c.if-not-takes_place.false in
    let four : to_z w64 (of_z w64 (pos 0 -ℤ to_z w64 (of_z w64 c.from.result))) ≡ neg_ℤ (pos 4) = rw c.from.ensures refl in
    four ∙ ap (λ b. neg_ℤ (pos (cond b 4 0))) (sym takes) ∙ alone_64 n y is written one

pub returns-in-Pair : goal.returns-in-Pair
returns-in-Pair c = λ n is written.
    let y = c.args.standing.now in
    let some = (spelled_pair W64 y is written c.in-Pair.field-0 c.in-Pair.field-1 c.in-Pair.is).0 in
    let takes : same_taken (taken_of y.reloc.form.less) TakesPlace ≡ true = sym c.takes_place.ensures ∙ c.if-not-takes_place.false in
    let same : to_z w64 (of_z w64 c.from-in-Pair.result) ≡ c.from-in-Pair.result = search rules in
    same ∙ c.from-in-Pair.ensures ∙ ap (λ b. cond b (pos y.at) (pos 0)) (sym takes) ∙ pair_64 n y is written c.in-Pair.field-1 some
