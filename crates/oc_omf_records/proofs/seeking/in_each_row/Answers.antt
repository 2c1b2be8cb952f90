use Rattle.std.proofs.Common.{◌≡◌, ◌∙◌, ℕ, List, [], ◌∷◌, length, arith, sym, ap, refl}
use Rattle.std.proofs.lemmas.Bool.Decides.{nat_tests}
use Rattle.oc_omf_records.specs.Blocks.{in_each}
use Rattle.oc_omf_records.proofs.SeekingLemmas.{in_each-empty, in_each-one}
use Rattle.oc_omf_records.proofs.seeking.in_each_row.Goals.{then-is_empty-via-then-is_empty, then-is_empty-via-else-is_empty+then-count-eq1}
use Rattle.oc_omf_records.proofs.seeking.in_each_row.Goals as goal

pub returns-then-is_empty : goal.returns-then-is_empty
returns-then-is_empty c = elim c.then-is_empty.branch [
  | then-is_empty-via-then-is_empty w ↦
      let empty : length c.args.places.items ≡ 0 = grind (arith, nat_tests, c.args.places.ok.0) in
      nothing c.args.places.items empty ∙ sym (in_each-empty c.args.count c.args.size c.args.places.items empty)
  | then-is_empty-via-else-is_empty+then-count-eq1 w ↦
      let one : c.args.count ≡ 1 = grind (arith, nat_tests) in
      sym (in_each-one c.args.size c.args.places.items) ∙ ap (λ n. in_each n c.args.size c.args.places.items) (sym one)
]
  where
    nothing : (xs : List ℕ) → length xs ≡ 0 → xs ≡ []
    nothing [] e = refl
    nothing (x ∷ xs) e = absurd (omega arith)
