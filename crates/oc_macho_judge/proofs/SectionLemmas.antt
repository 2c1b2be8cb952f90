-- Sections, judged one after the other, with the sums that they are worth.
use Rattle.std.proofs.Common.{◌≡◌, ℕ, ◌+◌, ◌<◌, ◌≤◌, [], length, Option, None, Some, refl, sym, ◌∙◌, ap, arith}
use Rattle.std.specs.{Prelude.{slice_get}, Option.{option_map_or}}
use Rattle.std.proofs.lemmas.Option.{slice_get-get_or}
use Rattle.oc_linking.specs.{FirstFault.{first_broken, fault_of}, Numbers.{first_upto, or_else}}
use Rattle.oc_shelf.specs.Reading.Sums.{sum_upto}
use Rattle.oc_shelf.proofs.ReadingLaws.StageLemmas.{first_broken-append, sum_more}
use Rattle.oc_macho.specs.{declared.section_header.SectionHeader.{SectionHeader}, Tables.{SectionTable, Tables}, Framed.{no_header, table_at}}
use Rattle.oc_macho.specs.SectionFaults.{own_conditions, limit_conditions, section_conditions, section_stage, stored_of, worth_by}
use Rattle.oc_macho_judge.specs.Judged.{AreSums}

-- section i, where it is there
pub there : (t : Tables) (i : ℕ) → i < length t.sections → slice_get t.sections i ≡ Some (table_at t i)
there t i low = slice_get-get_or t.sections i (record { header = no_header; raw = []; relocs = [] }) low

-- its fault is one of its own, or of the limits
pub section_broken : (t : Tables) (i : ℕ) → i < length t.sections
    → fault_of (section_stage t) i ≡ or_else (first_broken (own_conditions t i (table_at t i).header)) (first_broken (limit_conditions t i (table_at t i).header))
unfolding section_conditions
section_broken t i low =
    ap (λ (o : Option SectionTable). first_broken (option_map_or (section_conditions t i) o [])) (there t i low)
    ∙ first_broken-append (own_conditions t i (table_at t i).header) (limit_conditions t i (table_at t i).header)

-- what it is worth
worth_is : (worth : SectionHeader → ℕ) (t : Tables) (i : ℕ) → i < length t.sections → worth_by worth t i ≡ worth (table_at t i).header
worth_is worth t i low = ap (λ (o : Option SectionTable). option_map_or (λ (x : SectionTable). worth x.header) o 0) (there t i low)

more : (worth : SectionHeader → ℕ) (t : Tables) (i sum part : ℕ) → i < length t.sections → sum ≡ sum_upto (worth_by worth t) i → part ≡ worth (table_at t i).header
    → sum + part ≡ sum_upto (worth_by worth t) (i + 1)
more worth t i sum part low is part_is =
    let own = part_is ∙ sym (worth_is worth t i low) in
    let next = sum_more (worth_by worth t) i in
    omega (arith, is, own, next)

-- no sections
pub sums_none : (t : Tables) → AreSums t 0 0 0
sums_none t = record { sizes_are = refl; bytes_are = refl; sizes_few = omega arith; bytes_few = omega arith }

-- one section more
pub sums_more : (t : Tables) (i sizes bytes size stored : ℕ) → i < length t.sections → AreSums t i sizes bytes → size ≡ (table_at t i).header.size → stored ≡ stored_of (table_at t i).header
    → sizes + size ≤ 2147483648 → bytes + stored ≤ 67108864 → AreSums t (i + 1) (sizes + size) (bytes + stored)
sums_more t i sizes bytes size stored low sums size_is stored_is few small = record {
  sizes_are = more (λ h. h.size) t i sizes size low sums.sizes_are size_is;
  bytes_are = more stored_of t i bytes stored low sums.bytes_are stored_is;
  sizes_few = few;
  bytes_few = small;
}

-- the sections so far have no fault, and the sums are theirs
pub record IsChecking (t : Tables) (i sizes bytes : ℕ) : Type 0 where
  pub clean : first_upto (fault_of (section_stage t)) i ≡ None
  pub sums : AreSums t i sizes bytes
