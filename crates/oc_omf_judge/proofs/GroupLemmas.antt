-- A group by its name.
use Rattle.std.proofs.Common.{◌≡◌, ℕ, List, length, None, Some, Ok, Err, sym, ◌∙◌, ap}
use Rattle.oc_base.specs.{declared.code.Code.TheVariants.{BadTable}, declared.fault.Fault.{Fault}}
use Rattle.oc_linking.specs.FirstFault.{Condition, first_broken}
use Rattle.oc_omf.specs.{declared.cut.Cut.{Cut}, Cursor.{Reading, each_read, index_read, next}, Structures.{Group, group_read, member_read}, Tables.{Tables}}
use Rattle.oc_omf.specs.SectionFaults.{conditions_by, group_conditions, own_fault}
use Rattle.oc_omf_judge.specs.{declared.defined.Defined.{Defined}, Defined.{IsDefined, part_of}}
use Rattle.oc_omf_judge.proofs.SegmentLemmas.{name_count}

-- a group of that name
abbrev pub group_with : List ℕ → ℕ → ℕ → Group
group_with b name at = record { name = name; members = each_read member_read b at }

pub group_named : (b : List ℕ) (name at : ℕ) → index_read b 0 ≡ Ok (name, at) → part_of (group_read b 0) ≡ Some (group_with b name at)
unfolding group_read
group_named b name at e = ap (λ (r : Reading ℕ). part_of (next r (λ name at. Ok (record { name = name; members = each_read member_read b at }, length b)))) e

-- where its name is cut
pub group_cut : (b : List ℕ) (c : Cut) (fault : Fault) (conditions : Group → List Condition) → index_read b 0 ≡ Err c → first_broken (conditions_by fault conditions (group_read b 0)) ≡ Some fault
unfolding group_read
group_cut b c fault conditions e =
    ap (λ (r : Reading ℕ). first_broken (conditions_by fault conditions (next r (λ name at. Ok (record { name = name; members = each_read member_read b at }, length b))))) e

-- the conditions by what is kept
pub group_by : (t : Tables) (d : Defined) (names segments : ℕ) (x : ℕ × ℕ) (r : Reading Group) → IsDefined t d → names ≡ length d.names.items → segments ≡ length d.segments.items
    → first_broken (conditions_by (own_fault x BadTable) (group_conditions (length t.names) (length t.segments) x) r)
    ≡ first_broken (conditions_by (own_fault x BadTable) (group_conditions names segments x) r)
group_by t d names segments x r is many more =
    ap (λ (n : ℕ). first_broken (conditions_by (own_fault x BadTable) (group_conditions n (length t.segments) x) r)) (sym (many ∙ name_count t d is))
    ∙ ap (λ (n : ℕ). first_broken (conditions_by (own_fault x BadTable) (group_conditions names n x) r)) (sym (more ∙ ap length is.segments_are))

pub none_of : (b : List ℕ) (c : Cut) → index_read b 0 ≡ Err c → part_of (group_read b 0) ≡ None
unfolding group_read
none_of b c e = ap (λ (r : Reading ℕ). part_of (next r (λ name at. Ok (record { name = name; members = each_read member_read b at }, length b)))) e
