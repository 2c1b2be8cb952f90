-- No entry of the canonical file has a fault of the first stage.
use Rattle.std.proofs.Common.{◌≡◌, ℕ, suc, ◌+◌, Bool, false, not, List, [], ◌∷◌, length, take, Some, refl, sym, ◌∙◌, ap, subst, arith}
use Rattle.std.specs.{Prelude.{slice_get}, List.{enumerate_from}, Option.{option_map_or}}
use Rattle.oc_neutral.specs.Objects.{Object}
use Rattle.oc_neutral.proofs.Positions.{there_at}
use Rattle.oc_omf_records.specs.declared.records.Entry.{Entry as Record}
use Rattle.oc_shelf.proofs.{ReadingLaws.StageLemmas.{Unbroken, IsUnbroken}, WritingLaws.MemberLemmas.{member_enumerated, of_map}}
use Rattle.oc_omf.specs.{Entries.{places_in}, HeaderFaults.{is_begun, record_conditions, entry_conditions, header_stage}}
use Rattle.oc_omf_file.specs.{Outputs.{Output, outputs_of}, Canonical.{output_type, output_contents, omf_file}}
use Rattle.oc_omf_file.specs.Outputs as output
use Rattle.oc_omf_file.proofs.{EntryLaws.{IsEntry}, ModuleLaw.{Written, written_bytes, places_from, entry_there}}
use Rattle.oc_omf_file.proofs.{MadeLaw.{written_of, all_written, are_entries, places_are}, BehindLaws.{Behind}, CodedLaws.{IsForOmf}}
use Rattle.oc_omf_file.proofs.SmallLaws.{behind, all_small}

-- what is asked of a record
record_clean : (n : Object) (x : ℕ × ℕ) (o : Output) (begun : Bool) (place : ℕ) → (o ≡ output.Header → begun ≡ false)
    → Unbroken (record_conditions begun x (record { kind = output_type o; place = place; contents = output_contents n o }))
unfolding output_contents
record_clean n x output.Header begun place first = (refl, (refl, (first refl, (refl, (refl, tt)))))
record_clean n x (output.Names names) begun place first = (refl, (refl, (refl, (refl, (refl, tt)))))
record_clean n x (output.Segment k s) begun place first = (refl, (refl, (refl, (refl, (refl, tt)))))
record_clean n x output.Group begun place first = (refl, (refl, (refl, (refl, (refl, tt)))))
record_clean n x (output.External k s) begun place first = (refl, (refl, (refl, (refl, (refl, tt)))))
record_clean n x (output.Communal k s) begun place first = (refl, (refl, (refl, (refl, (refl, tt)))))
record_clean n x (output.Public k s) begun place first = (refl, (refl, (refl, (refl, (refl, tt)))))
record_clean n x (output.Data k s from to) begun place first = (refl, (refl, (refl, (refl, (refl, tt)))))
record_clean n x (output.Fixups k s from to) begun place first = (refl, (refl, (refl, (refl, (refl, tt)))))
record_clean n x output.End begun place first = (refl, (refl, (refl, (refl, (refl, tt)))))

-- of an element with none before it
first_place : {X : Type 0} (xs : List X) (i : ℕ) (x : X) → slice_get xs i ≡ Some x → take i xs ≡ [] → i ≡ 0
first_place xs i x h none = grind arith

length-places : (at : ℕ) (xs : List Written) → length (places_from at xs) ≡ length xs
length-places at [] = refl
length-places at (x ∷ xs) = ap suc (length-places (at + length (written_bytes x)) xs)

module _ (n : Object) (is : IsForOmf n) where
  abbrev file : List ℕ
  file = omf_file n

  abbrev written : List Written
  written = all_written n (all_small n is)

  places : places_in file ≡ places_from 0 written
  places = places_are n (all_small n is)

  conditions_clean : (i p : ℕ) (o : Output) → slice_get (places_in file) i ≡ Some p → slice_get (outputs_of n) i ≡ Some o → IsEntry file p (output_type o) (output_contents n o)
      → Unbroken (entry_conditions file (is_begun file (take i (places_in file))) (i, p))
  unfolding entry_conditions
  conditions_clean i p o here there e = (
    ap not e.whole,
    (
      ap not e.summed,
      subst (λ (r : Record). Unbroken (record_conditions (is_begun file (take i (places_in file))) (i, p) r)) (sym e.is)
          (record_clean n (i, p) o (is_begun file (take i (places_in file))) p (λ header.
          let front : take i (outputs_of n) ≡ [] = subst (λ q. Behind n (take i (outputs_of n)) q) header (behind n is i o there) in
          let zero_place : i ≡ 0 = first_place (outputs_of n) i o there front in
          ap (λ j. is_begun file (take j (places_in file))) zero_place)),
    ),
  )

  pub header_clean : IsUnbroken (header_stage file)
  header_clean i low =
      let long = length-places 0 written in
      let same : length (places_in file) ≡ length (places_from 0 written) = ap length places in
      let w = there_at written i (omega (arith, low, long, same)) in
      let o = of_map (written_of n) (outputs_of n) i w.0 w.1 in
      let e = entry_there file 0 i written w.0 (are_entries n (all_small n is)) w.1 in
      let here : slice_get (places_in file) i ≡ Some e.0 = ap (λ xs. slice_get xs i) places ∙ e.1 in
      let z : 0 + i ≡ i = omega arith in
      let found : slice_get (enumerate_from 0 (places_in file)) i ≡ Some (i, e.0) = member_enumerated 0 (places_in file) i e.0 here ∙ ap (λ j. Some (j, e.0)) z in
      subst Unbroken (sym (ap (λ x. option_map_or (entry_conditions file (is_begun file (take i (places_in file)))) x []) found))
      (conditions_clean i e.0 o.0 here o.1 (subst (λ (v : Written). IsEntry file e.0 v.0 v.1) (sym o.2) e.2))
