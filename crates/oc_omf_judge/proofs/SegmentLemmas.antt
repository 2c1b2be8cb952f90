-- What the conditions on a segment are, and what holds where none is broken.
use Rattle.std.proofs.Common.{◌≡◌, ℕ, ◌+◌, ◌≤◌, List, length, Some, None, Ok, Err, sym, ◌∙◌, ap, subst, arith}
use Rattle.std.specs.List.{sum_by}
use Rattle.std.proofs.lemmas.{Bool.Decides.{nat_tests}, List.{length-map}, Option.{none-some, same_Some}}
use denote.Ref.{Bor}
use Rattle.oc_base.specs.declared.code.Code.TheVariants.{BadTable}
use Rattle.oc_linking.specs.FirstFault.{first_broken}
use Rattle.oc_shelf.proofs.ReadingLaws.StageLemmas.{all_hold, clean_both}
use Rattle.oc_omf_judge.specs.{declared.defined.Defined.{Defined}, Defined.{IsDefined, part_of}}
use Rattle.oc_omf.specs.{declared.structures.Segment.{Segment}, Cursor.{Reading}, Tables.{Tables}, Sections.{segment_size}}
use Rattle.oc_omf.specs.SectionFaults.{conditions_by, form_conditions, own_fault, segment_conditions, segment_conditions_by, size_conditions}

-- how many names are kept
pub name_count : (t : Tables) (d : Defined) → IsDefined t d → length d.names.items ≡ length t.names
name_count t d is = sym (length-map d.names.items (λ (name : Bor (List ℕ)). name.now)) ∙ ap length is.names_are

-- the conditions by what is kept
pub judged_by : (t : Tables) (d : Defined) (names : ℕ) (x : ℕ × ℕ) (r : Reading Segment) → IsDefined t d → names ≡ length d.names.items
    → first_broken (conditions_by (own_fault x BadTable) (segment_conditions t x) r) ≡ first_broken (conditions_by (own_fault x BadTable) (segment_conditions_by names d.sizes x) r)
judged_by t d names x r is many =
    ap (λ (n : ℕ). first_broken (conditions_by (own_fault x BadTable) (segment_conditions_by n (sum_by segment_size t.segments) x) r)) (sym (many ∙ name_count t d is))
    ∙ ap (λ (n : ℕ). first_broken (conditions_by (own_fault x BadTable) (segment_conditions_by names n x) r)) (sym is.sizes_are)

sizes_hold : (sizes : ℕ) (x : ℕ × ℕ) (s : Segment) → first_broken (size_conditions sizes x s) ≡ None → (segment_size s ≤ 2147483647) × (sizes + segment_size s ≤ 2147483648)
unfolding size_conditions
sizes_hold sizes x s clean =
    let holds = all_hold (size_conditions sizes x s) clean in
    let first = holds.0 in
    let second = holds.1.0 in
    (grind (arith, nat_tests), grind (arith, nat_tests))

-- a segment without a fault is small
pub small_segment : (names sizes : ℕ) (x : ℕ × ℕ) (r : Reading Segment) (s : Segment) → part_of r ≡ Some s
    → first_broken (conditions_by (own_fault x BadTable) (segment_conditions_by names sizes x) r) ≡ None → (segment_size s ≤ 2147483647) × (sizes + segment_size s ≤ 2147483648)
small_segment names sizes x (Ok r) s e clean =
    sizes_hold sizes x s (subst (λ y. first_broken (size_conditions sizes x y) ≡ None) (same_Some r.0 s e) (clean_both (form_conditions names x r.0) (size_conditions sizes x r.0) clean).1)
small_segment names sizes x (Err c) s e clean = absurd (none-some s e)
