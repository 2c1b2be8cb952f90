-- Each turn leaves the name where it has room, or begins another entry with it.
use Rattle.std.proofs.Common.{◌≡◌, ◌+◌, ◌<◌, ◌++◌, [], ◌∷◌, List, ℕ, length, map, Some, get_or, sym, ◌∙◌, ap, subst, arith, Vec, Global}
use Rattle.std.specs.Prelude.{slice_get}
use Rattle.std.proofs.lemmas.{List.{length-map}, Option.{slice_get-get_or}}
use Rattle.oc_shelf.proofs.WritingLaws.MemberLemmas.{member_map}
use Rattle.oc_omf_write.specs.{declared.entries.Entry.{Entry}, Names.{text_by, names_entry}}
use Rattle.oc_omf_write.specs.declared.names.Name.TheVariants as name
use Rattle.oc_omf_write.proofs.FillLemmas.{IsFilling, filling_fits, filling_breaks, filling_done}
use Rattle.oc_omf_write.proofs.names.add_names.Goals.{then-size-long-gt-MOST_ENTRY_BYTES+in_ok-push, else-size-long-gt-MOST_ENTRY_BYTES}
use Rattle.oc_omf_write.proofs.names.add_names.Goals as goal

pub loop-k-preserved : goal.loop-k-preserved
loop-k-preserved c =
    let names = c.args.names.now in
    let texts : List (List ℕ) = map (text_by c.args.sections.now) names in
    let k = c.loop-k.k in
    let here : slice_get texts k ≡ Some c.text_of.result.now
    = member_map (text_by c.args.sections.now) names k (get_or names k name.Empty) (slice_get-get_or names k name.Empty c.loop-k-test.true) ∙ ap Some (sym c.text_of.ensures) in
    elim c.if-size-long-gt-MOST_ENTRY_BYTES.branch [
      | then-size-long-gt-MOST_ENTRY_BYTES+in_ok-push w ↦
          let long = w.size-is in
          let start = w.from-is in
          let full : 1024 < c.loop-k.size + (1 + length c.text_of.result.now) = omega (arith, w.if-size-long-gt-MOST_ENTRY_BYTES.true) in
          subst (λ (es : Vec Entry Global). IsFilling texts c.args.entries.now.items es.items c.if-size-long-gt-MOST_ENTRY_BYTES.from (k + 1) (c.if-size-long-gt-MOST_ENTRY_BYTES.size + (1 + length c.text_of.result.now))) (sym w.entries-is)
          (subst (λ m. IsFilling texts c.args.entries.now.items w.push.new.self.items m (k + 1) (c.if-size-long-gt-MOST_ENTRY_BYTES.size + (1 + length c.text_of.result.now))) (sym start)
          (subst (λ m. IsFilling texts c.args.entries.now.items w.push.new.self.items k (k + 1) (m + (1 + length c.text_of.result.now))) (sym long)
          (filling_breaks texts c.requires.short c.args.entries.now.items c.loop-k.entries.items c.loop-k.from k c.loop-k.size c.loop-k.invariant c.text_of.result.now here full w.push.new.self.items w.in_ok-push.ensures.items)))
      | else-size-long-gt-MOST_ENTRY_BYTES w ↦
          subst (λ (es : Vec Entry Global). IsFilling texts c.args.entries.now.items es.items c.if-size-long-gt-MOST_ENTRY_BYTES.from (k + 1) (c.if-size-long-gt-MOST_ENTRY_BYTES.size + (1 + length c.text_of.result.now))) (sym w.entries-is)
          (subst (λ m. IsFilling texts c.args.entries.now.items c.loop-k.entries.items m (k + 1) (c.if-size-long-gt-MOST_ENTRY_BYTES.size + (1 + length c.text_of.result.now))) (sym w.from-is)
          (subst (λ m. IsFilling texts c.args.entries.now.items c.loop-k.entries.items c.loop-k.from (k + 1) (m + (1 + length c.text_of.result.now))) (sym w.size-is)
          (filling_fits texts c.requires.short c.args.entries.now.items c.loop-k.entries.items c.loop-k.from k c.loop-k.size c.loop-k.invariant c.text_of.result.now here w.if-size-long-gt-MOST_ENTRY_BYTES.false)))
    ]

pub returns : goal.returns
returns c =
    let texts : List (List ℕ) = map (text_by c.args.sections.now) c.args.names.now in
    let mapped = length-map c.args.names.now (text_by c.args.sections.now) in
    let past = c.loop-k-test.false in
    let end = c.loop-k.auto.k-end in
    let all : c.loop-k.k ≡ length c.args.names.now = omega (arith, past, end) in
    filling_done texts c.args.entries.now.items c.loop-k.entries.items c.loop-k.from c.loop-k.k c.loop-k.size c.loop-k.invariant (omega (arith, all, mapped)) c.push-2.new.self.items
    (c.in_ok-push-2.ensures.items ∙ ap (λ m. c.loop-k.entries.items ++ names_entry (c.loop-k.from, m) ∷ []) (sym all))
