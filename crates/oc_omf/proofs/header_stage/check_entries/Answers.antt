use Rattle.std.proofs.Common.{◌≡◌, ◌||◌, ℕ, length, slice_get, get_or, Some, sym, ◌∙◌, ap, arith}
use Rattle.std.proofs.lemmas.Option.{slice_get-get_or}
use Rattle.oc_base.specs.declared.fault.Phase.TheVariants.{Header}
use Rattle.oc_base.specs.declared.stop.Stop.TheVariants as stop
use Rattle.oc_linking.specs.FirstFault.{fault_of}
use Rattle.oc_shelf.proofs.ReadingLaws.StageLemmas.{clean_more, stops_at}
use Rattle.oc_omf_records.specs.NextEntry.{entry_of}
use Rattle.oc_omf.specs.{declared.constants.TheConstants.{THEADR}, Entries.{is_kind, places_in}, HeaderFaults.{header_stage}}
use Rattle.oc_omf.proofs.{EntryLemmas.{any_with}, PlaceLemmas.{few_entries, fault_here}}
use Rattle.oc_omf.proofs.header_stage.check_entries.Goals as goal

pub overflow_cast-result : goal.overflow_cast-result
overflow_cast-result c =
    let few = few_entries c.args.file.now in
    let same : length c.args.places.now ≡ length (places_in c.args.file.now) = ap length c.requires.places in
    omega (arith, few, same, c.requires.small)

pub returns-in-Err-clause-stop : goal.returns-in-Err-clause-stop
returns-in-Err-clause-stop c =
    let file = c.args.file.now in
    let same : length c.args.places.now ≡ length (places_in file) = ap length c.requires.places in
    let here = sym (ap (λ xs. slice_get xs c.loop-i.i) c.requires.places) ∙ slice_get-get_or c.args.places.now c.loop-i.i 0 (omega arith) in
    stops_at (fault_of (header_stage file)) c.loop-i.i (length (places_in file)) (stop.Refused (record { phase = Header; index = c.loop-i.i; code = c.in-Err.code; place = c.from.result })) c.loop-i.invariant.clean (omega (arith, same))
    (fault_here file c.loop-i.i _ c.loop-i.begun here c.loop-i.invariant.begun ∙ c.in-Err.ensures.fault c.loop-i.i
    ∙ ap (λ (p : ℕ). Some (record { phase = Header; index = c.loop-i.i; code = c.in-Err.code; place = p })) (sym c.from.ensures))

pub loop-i-preserved : goal.loop-i-preserved
loop-i-preserved c =
    let file = c.args.file.now in
    let here = sym (ap (λ xs. slice_get xs c.loop-i.i) c.requires.places) ∙ slice_get-get_or c.args.places.now c.loop-i.i 0 (omega arith) in
    record {
      clean = clean_more (fault_of (header_stage file)) c.loop-i.i c.loop-i.invariant.clean (fault_here file c.loop-i.i _ c.loop-i.begun here c.loop-i.invariant.begun ∙ c.in-Ok.ensures.clean c.loop-i.i);
      begun = c.is_begun-begun.ensures ∙ ap (λ k. c.loop-i.begun || is_kind THEADR k) c.in-Ok.ensures.kind
          ∙ ap (λ b. b || is_kind THEADR (entry_of file (get_or c.args.places.now c.loop-i.i 0)).kind) c.loop-i.invariant.begun
          ∙ sym (any_with (λ at. is_kind THEADR (entry_of file at).kind) (places_in file) c.loop-i.i _ here);
    }
