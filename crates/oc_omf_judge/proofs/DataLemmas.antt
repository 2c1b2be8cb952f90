-- Data in the contents of an entry, by their head.
use Rattle.std.proofs.Common.{◌≡◌, ℕ, ◌≤◌, Bool, List, [], ◌∷◌, ◌++◌, length, Some, Result, Ok, Err, refl, sym, ◌∙◌, ap, subst, arith, append-nil}
use Rattle.std.specs.Prelude.{drop}
use Rattle.oc_base.specs.{declared.code.Code.TheVariants.{BadTable}, declared.stop.Stop.{Stop}, Stops.{IsStop}}
use Rattle.oc_linking.specs.FirstFault.{first_broken}
use Rattle.oc_omf_records.specs.{declared.faults.BlockFault.{BlockFault}, Blocks.{Blocks}}
use Rattle.oc_omf_records.specs.declared.faults.BlockFault.TheVariants as block
use Rattle.oc_omf.specs.{declared.cut.Cut.{Cut}, declared.structures.DataHead.{DataHead}, Cursor.{Reading, index_read, next, number_read}}
use Rattle.oc_omf.specs.{Structures.{Piece, blocks_by, head_read, long_size, piece_read}, Tables.{Tables}}
use Rattle.oc_omf.specs.{SectionFaults.{conditions_by, conditions_on, own_fault, piece_conditions}, Topics.{said_on}}
use Rattle.oc_omf_judge.specs.declared.defined.Defined.{Defined}
use Rattle.oc_omf_judge.specs.Defined.{IsPieceStopped, IsPieceTaken, IsStoppedAt, IsTakenUp, and_entry, part_of, piece_with}
use Rattle.oc_omf.specs.declared.topics.Topic.TheVariants as topic
use Rattle.oc_omf_judge.proofs.{DefinedLemmas.{same_defined}, PieceLemmas.{headed, piece_headed}, StageLaws.{data_judged, whole_read}}
use Rattle.oc_omf.proofs.EachLemmas.{next_goes, number_goes}

-- what is read behind the head lies in the contents
pub head_inside : (wide : Bool) (b : List ℕ) (h : DataHead) (at : ℕ) → head_read wide b 0 ≡ Ok (h, at) → at ≤ length b
unfolding head_read
head_inside wide b h at e =
    let first = next_goes (index_read b 0) (λ segment at. next (number_read (long_size wide) b at) (λ offset at. Ok (record { segment = segment; offset = offset }, at))) h at e in
    let second = next_goes (number_read (long_size wide) b first.1) (λ offset at. Ok (record { segment = first.0; offset = offset }, at)) h at first.3 in
    let last : second.1 ≡ at = ap (λ (r : Reading DataHead). elim r as (λ _. ℕ) [ Ok s ↦ s.1 | Err _ ↦ 0 ]) second.3 in
    let inside = number_goes (long_size wide) b first.1 second.0 second.1 second.2 in
    omega (arith, inside.1, last)

-- the piece that is read
pub piece_is : (wide iterated : Bool) (b : List ℕ) (h : DataHead) (at : ℕ) (r : Result Blocks BlockFault) → head_read wide b 0 ≡ Ok (h, at) → blocks_by wide iterated (drop at b) ≡ r
    → piece_read wide iterated b 0 ≡ Ok (piece_with h r, length b)
piece_is wide iterated b h at r e blocks = piece_headed wide iterated b ∙ ap (headed wide iterated b) e ∙ ap (λ x. Ok (piece_with h x, length b)) blocks

pub data_taken : (old new : Defined) (x : ℕ × ℕ) (place : ℕ) (wide iterated : Bool) (b : List ℕ) (h : DataHead) (at : ℕ) (row : Blocks) → head_read wide b 0 ≡ Ok (h, at)
    → blocks_by wide iterated (drop at b) ≡ Ok row → IsPieceTaken old x (piece_with h (Ok row)) new → IsTakenUp old x (said_on (topic.Data iterated) place wide b) new
data_taken old new x place wide iterated b h at row e blocks taken t is =
    let d = piece_with h (Ok row) in
    let reads = piece_is wide iterated b h at (Ok row) e blocks in
    let p = taken t is in (
      data_judged t x iterated place wide b ∙ ap (λ (r : Reading Piece). first_broken (conditions_by (own_fault x BadTable) (piece_conditions t x) r)) reads ∙ p.0,
      same_defined (record t { pieces = t.pieces ++ d ∷ [] }) (and_entry t (said_on (topic.Data iterated) place wide b)) new p.1
          (append-nil t.names) (append-nil t.segments) (append-nil t.groups)
          (ap (λ xs. t.pieces ++ xs) (whole_read place (piece_read wide iterated b 0) d (ap (λ (r : Reading Piece). part_of r) reads))),
    )

pub data_stopped : (old : Defined) (x : ℕ × ℕ) (place : ℕ) (wide iterated : Bool) (b : List ℕ) (h : DataHead) (at : ℕ) (r : Result Blocks BlockFault) (s : Stop) → head_read wide b 0 ≡ Ok (h, at)
    → blocks_by wide iterated (drop at b) ≡ r → IsPieceStopped old x (piece_with h r) s → IsStoppedAt old x (said_on (topic.Data iterated) place wide b) s
data_stopped old x place wide iterated b h at r s e blocks stopped t is =
    subst (λ o. IsStop o s) (sym (data_judged t x iterated place wide b ∙ ap (λ (r : Reading Piece). first_broken (conditions_by (own_fault x BadTable) (piece_conditions t x) r)) (piece_is wide iterated b h at r e blocks)))
    (stopped t is)

pub data_cut : (t : Tables) (x : ℕ × ℕ) (place : ℕ) (wide iterated : Bool) (b : List ℕ) (c : Cut) → head_read wide b 0 ≡ Err c
    → first_broken (conditions_on t x (said_on (topic.Data iterated) place wide b)) ≡ Some (own_fault x BadTable)
data_cut t x place wide iterated b c e =
    data_judged t x iterated place wide b
    ∙ ap (λ (r : Reading Piece). first_broken (conditions_by (own_fault x BadTable) (piece_conditions t x) r)) (piece_headed wide iterated b ∙ ap (headed wide iterated b) e)

pub data_bad : (t : Tables) (x : ℕ × ℕ) (h : DataHead) → first_broken (piece_conditions t x (piece_with h (Err block.BadBlock))) ≡ Some (own_fault x BadTable)
unfolding piece_conditions
data_bad t x h = refl
