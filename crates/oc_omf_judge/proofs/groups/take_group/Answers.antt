-- A group without a fault is taken up.
use Rattle.std.proofs.Common.{ℕ, ◌++◌, ◌∷◌, [], length, Some, refl, sym, ◌∙◌, ap, append-nil}
use Rattle.oc_base.specs.declared.code.Code.TheVariants.{BadTable}
use Rattle.oc_omf.specs.{Structures.{group_read}, SectionFaults.{group_conditions, own_fault}, Topics.{said_on}}
use Rattle.oc_omf_judge.specs.Defined.{and_entry}
use Rattle.oc_omf.specs.declared.topics.Topic.TheVariants as topic
use Rattle.oc_omf_judge.proofs.{DefinedLemmas.{group_taken, same_defined}, GroupLemmas.{group_by, group_cut, group_named, group_with}}
use Rattle.oc_omf_judge.proofs.StageLaws.{group_judged, whole_read}
use Rattle.oc_omf_judge.proofs.groups.take_group.Goals as goal

pub returns-in-Some-clause-stop : goal.returns-in-Some-clause-stop
returns-in-Some-clause-stop c = λ wide t is.
    let x : ℕ × ℕ = (c.args.spot.index, c.args.spot.place) in
    let b = c.args.contents.now in
    group_judged t x c.args.spot.place wide b ∙ group_by t c.args.defined.now c.len-names.result c.len-segments.result x (group_read b 0) is (c.len-names.ensures ∙ c.args.defined.now.names.ok.0) (c.len-segments.ensures ∙ c.args.defined.now.segments.ok.0) ∙ sym c.group_fault.ensures ∙ c.in-Some.is

pub returns-in_default-clause-stop : goal.returns-in_default-clause-stop
returns-in_default-clause-stop c = λ wide t is.
    let x : ℕ × ℕ = (c.args.spot.index, c.args.spot.place) in
    let b = c.args.contents.now in
    group_judged t x c.args.spot.place wide b
    ∙ group_cut b c.in_default.field-0 (own_fault x BadTable) (group_conditions (length t.names) (length t.segments) x) (sym c.read_index.ensures ∙ c.in_default.is)
    ∙ ap (λ f. Some f) (sym c.own_fault.ensures)

pub returns-clause-taken : goal.returns-clause-taken
returns-clause-taken c = λ wide t is.
    let x : ℕ × ℕ = (c.args.spot.index, c.args.spot.place) in
    let b = c.args.contents.now in
    let g = group_with b c.in-Ok.name c.in-Ok._at in (
      group_judged t x c.args.spot.place wide b ∙ group_by t c.args.defined.now c.len-names.result c.len-segments.result x (group_read b 0) is (c.len-names.ensures ∙ c.args.defined.now.names.ok.0) (c.len-segments.ensures ∙ c.args.defined.now.segments.ok.0) ∙ sym c.group_fault.ensures ∙ c.in-None.is,
      same_defined (record t { groups = t.groups ++ g ∷ [] }) (and_entry t (said_on topic.Group c.args.spot.place wide b)) _
          (group_taken t c.args.defined.now _ g is refl refl c.in_ok-push.ensures.items refl refl refl)
          (append-nil t.names) (append-nil t.segments)
          (ap (λ xs. t.groups ++ xs) (whole_read c.args.spot.place (group_read b 0) g (group_named b c.in-Ok.name c.in-Ok._at (sym c.read_index.ensures ∙ c.in-Ok.is)))) (append-nil t.pieces),
    )
