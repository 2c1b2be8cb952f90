-- A carried section without a fault passes no limit, so it is added; any other is left out.
use Rattle.oc_coff.specs.{Files.{tables_in}, Sections.{section_of}, Tables.{section_table}}
use Rattle.std.proofs.Common.{ℕ, ◌+◌, ◌∙◌, List, length, None, sym, ap, subst, arith, IsOk, refl}
use Rattle.std.specs.Prelude.{is_some}
use Rattle.std.proofs.lemmas.List.{length-map}
use Rattle.oc_neutral.specs.{declared.group.Group.{Group}, declared.section.Section.{Section}, Building.{Draft, section_added}}
use Rattle.oc_neutral.specs.Invariants.{HasItsBytes, IsMember}
use Rattle.oc_shows.proofs.BuiltSteps.{added_is}
use Rattle.oc_coff_read.specs.Built.{keys_of, sectioned}
use Rattle.oc_coff_judge.proofs.CarriedLemmas.{section_is}
use Rattle.oc_coff_read.proofs.BuildLemmas.{bytes_long, header_added, header_kind, header_lies, header_section, member_stored, passed_over, room}
use Rattle.oc_coff_read.proofs.built_sections.add_section.Goals as goal

pub section_of-requires-clause-carried : goal.section_of-requires-clause-carried
section_of-requires-clause-carried c =
    ap is_some (header_section c.args.coff.now c.section-h.result (tables_in c.args.coff.now) c.requires.clean c.args.i c.section-h.ensures c.in-Some.kind (sym c.kind_in.ensures ∙ c.in-Some.is))

pub section_of-requires-clause-lies : goal.section_of-requires-clause-lies
section_of-requires-clause-lies c =
    header_lies c.args.coff.now c.section-h.result (tables_in c.args.coff.now) c.requires.clean c.args.i c.section-h.ensures c.in-Some.kind (sym c.kind_in.ensures ∙ c.in-Some.is)

pub add_clean_section-requires-clause-room : goal.add_clean_section-requires-clause-room
add_clean_section-requires-clause-room c =
    let long = ap (λ (d : Draft). length d.object.sections) c.requires.before in
    let few = room (tables_in c.args.coff.now) c.args.i c.requires.there c.has_few.ensures in
    omega (arith, long, few)

pub add_clean_section-requires-clause-bytes : goal.add_clean_section-requires-clause-bytes
add_clean_section-requires-clause-bytes c =
    subst HasItsBytes (sym c.in_ok-section-in-Some.ensures)
    (bytes_long c.args.coff.now c.section-h.result (tables_in c.args.coff.now) (c.args.i + 1) c.in-Some.kind
    (header_lies c.args.coff.now c.section-h.result (tables_in c.args.coff.now) c.requires.clean c.args.i c.section-h.ensures c.in-Some.kind (sym c.kind_in.ensures ∙ c.in-Some.is)))

pub add_clean_section-requires-clause-group : goal.add_clean_section-requires-clause-group
add_clean_section-requires-clause-group c =
    let file = c.args.coff.now in
    let t = tables_in file in
    let made : List ℕ → Group = λ key. record { key = key } in
    let long = ap (λ (d : Draft). length d.object.groups) c.requires.before ∙ length-map (keys_of t) made in
    subst (λ (n : ℕ). IsMember n c.in_ok-section-in-Some.section.group) (sym long)
    (subst (λ (x : Section). IsMember (length (keys_of t)) x.group) (sym c.in_ok-section-in-Some.ensures)
    (member_stored t c.args.i (section_of t (c.args.i + 1) (section_table file.bytes c.section-h.result) c.in-Some.kind) c.requires.there
    (header_section file c.section-h.result t c.requires.clean c.args.i c.section-h.ensures c.in-Some.kind (sym c.kind_in.ensures ∙ c.in-Some.is))))

pub add_clean_section-requires-clause-clean : goal.add_clean_section-requires-clause-clean
add_clean_section-requires-clause-clean c =
    let t = tables_in c.args.coff.now in
    subst (λ r. IsOk r)
    (sym (ap (λ (d : Draft). section_added d c.in_ok-section-in-Some.section) c.requires.before
    ∙ ap (section_added (sectioned c.args.word t c.args.i)) c.in_ok-section-in-Some.ensures
    ∙ header_added c.args.coff.now c.section-h.result t c.requires.clean c.args.i c.section-h.ensures c.in-Some.kind (sym c.kind_in.ensures ∙ c.in-Some.is) c.args.word))
    refl

pub returns-in_ok-add_clean_section-in-Some : goal.returns-in_ok-add_clean_section-in-Some
returns-in_ok-add_clean_section-in-Some c =
    let t = tables_in c.args.coff.now in
    added_is _ (sectioned c.args.word t (c.args.i + 1)) _
    (ap (λ (d : Draft). section_added d c.in_ok-section-in-Some.section) c.requires.before
    ∙ ap (section_added (sectioned c.args.word t c.args.i)) c.in_ok-section-in-Some.ensures
    ∙ header_added c.args.coff.now c.section-h.result t c.requires.clean c.args.i c.section-h.ensures c.in-Some.kind (sym c.kind_in.ensures ∙ c.in-Some.is) c.args.word)
    c.in_ok-add_clean_section-in-Some.ensures.added

pub returns-in-None : goal.returns-in-None
returns-in-None c =
    let t = tables_in c.args.coff.now in
    c.requires.before
    ∙ passed_over t c.args.word c.args.i
    (section_is t c.args.i (section_table c.args.coff.now.bytes c.section-h.result) None c.section-h.ensures
    (header_kind c.args.coff.now c.section-h.result t.strings None (sym c.kind_in.ensures ∙ c.in-None.is)))
