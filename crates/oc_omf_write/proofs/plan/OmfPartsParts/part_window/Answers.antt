-- Each part is an entry.
use Rattle.std.proofs.Common.{◌≡◌, List, [], length, map, Some, sym, ◌∙◌, ap, subst, arith}
use Rattle.std.specs.Prelude.{slice_get}
use Rattle.std.proofs.lemmas.{List.{length-map}, Option.{get_or_from_slice_get}}
use Rattle.oc_neutral.proofs.Positions.{each_at}
use Rattle.oc_outside.specs.Windows.{IsFilled}
use Rattle.oc_shelf.proofs.WritingLaws.MemberLemmas.{member_map}
use Rattle.oc_omf.specs.Bytes.{entry_bytes}
use Rattle.oc_omf_write.specs.{declared.entries.Entry.{Entry}, Entries.{type_of}, Tables.{CanPut, bytes_by}}
use Rattle.oc_omf_write.proofs.plan.OmfPartsParts.part_window.Goals as goal

pub entry_at-entry-requires : goal.entry_at-entry-requires
entry_at-entry-requires c =
    let low = c.requires.there in
    let long = length-map c.args.self.now.entries.items (bytes_by c.args.self.now.tables) in
    let same = ap length c.deref.ensures.value in
    omega (arith, low, long, same)

pub contents-requires-clause-sound : goal.contents-requires-clause-sound
contents-requires-clause-sound c = c.requires.sound.sound

pub contents-requires-clause-fits : goal.contents-requires-clause-fits
contents-requires-clause-fits c =
    each_at (CanPut c.args.self.now.tables) c.args.self.now.entries.items c.args.k _ c.requires.sound.fits
    (subst (λ (es : List Entry). slice_get es c.args.k ≡ Some c.entry_at-entry.result) c.deref.ensures.value c.entry_at-entry.ensures)

pub returns : goal.returns
returns c =
    let t = c.args.self.now.tables in
    let es = c.args.self.now.entries.items in
    let e = c.entry_at-entry.result in
    let k = c.args.k in
    let here : slice_get es k ≡ Some e = subst (λ (xs : List Entry). slice_get xs k ≡ Some e) c.deref.ensures.value c.entry_at-entry.ensures in
    let part = get_or_from_slice_get (map (bytes_by t) es) k (bytes_by t e) [] (member_map (bytes_by t) es k e here) in
    subst (λ xs. IsFilled xs c.args.from c.args.out.now c.entry_window.new.out c.entry_window.result)
    (ap (λ type. entry_bytes type c.contents.result) c.record_type.ensures ∙ ap (entry_bytes (type_of e)) c.contents.ensures ∙ sym part)
    c.entry_window.ensures
