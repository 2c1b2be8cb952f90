-- A carried section without a fault passes no limit, so it is added; any other is left out.
use Rattle.std.proofs.Common.{ℕ, ◌+◌, ◌∙◌, List, length, sym, ap, subst, arith, IsOk, refl}
use Rattle.oc_neutral.specs.{Building.{Draft, section_added}, declared.group.Group.{Group}, declared.section.Section.{Section}}
use Rattle.oc_neutral.specs.Invariants.{HasItsBytes, IsMember}
use Rattle.std.proofs.lemmas.List.{length-map}
use Rattle.oc_elf_read.proofs.{StoredLemmas.{member_stored}, BuildLemmas.{bytes_long, carried_added, passed_over, placed_at, room}}
use Rattle.oc_shows.specs.Started.{stored_section}
use Rattle.oc_shows.proofs.BuiltSteps.{added_is}
use Rattle.oc_elf.specs.{declared.shdr.Shdr.{Shdr}, CarriedSections.{section_with}, Sections.{is_carried}}
use Rattle.oc_elf_read.specs.Built.{IsPlaced, keys_of, sectioned}
use Rattle.oc_elf_judge.proofs.SectionLemmas.{here}
use Rattle.oc_elf_read.proofs.built_sections.add_section.Goals as goal

pub returns-then-not-is_carried_type : goal.returns-then-not-is_carried_type
returns-then-not-is_carried_type c =
    c.requires.before
    ∙ passed_over c.args.frame.now c.is_frame.ensures c.requires.sections c.args.k c.requires.there (ap is_carried (sym c.header-s.ensures) ∙ sym c.is_carried_type.ensures ∙ c.if-not-is_carried_type.true)

pub section_of-requires-clause-placed : goal.section_of-requires-clause-placed
section_of-requires-clause-placed c =
    subst (IsPlaced c.args.frame.now) (sym c.header-s.ensures)
    (placed_at c.args.frame.now c.is_frame.ensures c.requires.sections c.args.k c.requires.there (ap is_carried (sym c.header-s.ensures) ∙ sym c.is_carried_type.ensures ∙ c.if-not-is_carried_type.false))

pub add_clean_section-requires-clause-room : goal.add_clean_section-requires-clause-room
add_clean_section-requires-clause-room c =
    let long = ap (λ (d : Draft). length d.object.sections) c.requires.before in
    let few = room c.args.frame.now c.is_frame.ensures c.requires.sections c.args.k c.requires.there in
    omega (arith, long, few)

pub add_clean_section-requires-clause-bytes : goal.add_clean_section-requires-clause-bytes
add_clean_section-requires-clause-bytes c =
    let f = c.args.frame.now in
    let k = c.args.k in
    let carried = ap is_carried (sym c.header-s.ensures) ∙ sym c.is_carried_type.ensures ∙ c.if-not-is_carried_type.false in
    subst HasItsBytes (sym (c.in_ok-section.ensures ∙ ap (λ (s : Shdr). stored_section (keys_of f) (section_with f k s)) c.header-s.ensures))
    (bytes_long f k (here f k) (placed_at f c.is_frame.ensures c.requires.sections k c.requires.there carried))

pub add_clean_section-requires-clause-clean : goal.add_clean_section-requires-clause-clean
add_clean_section-requires-clause-clean c =
    let f = c.args.frame.now in
    let k = c.args.k in
    let carried = ap is_carried (sym c.header-s.ensures) ∙ sym c.is_carried_type.ensures ∙ c.if-not-is_carried_type.false in
    subst (λ r. IsOk r)
    (sym (ap (λ (d : Draft). section_added d c.in_ok-section.section) c.requires.before
    ∙ ap (section_added (sectioned f k)) (c.in_ok-section.ensures ∙ ap (λ (s : Shdr). stored_section (keys_of f) (section_with f k s)) c.header-s.ensures)
    ∙ carried_added f c.is_frame.ensures c.requires.sections k c.requires.there carried))
    refl

pub returns : goal.returns
returns c =
    let f = c.args.frame.now in
    let k = c.args.k in
    let carried = ap is_carried (sym c.header-s.ensures) ∙ sym c.is_carried_type.ensures ∙ c.if-not-is_carried_type.false in
    added_is _ (sectioned f (k + 1)) _
    (ap (λ (d : Draft). section_added d c.in_ok-section.section) c.requires.before
    ∙ ap (section_added (sectioned f k)) (c.in_ok-section.ensures ∙ ap (λ (s : Shdr). stored_section (keys_of f) (section_with f k s)) c.header-s.ensures)
    ∙ carried_added f c.is_frame.ensures c.requires.sections k c.requires.there carried)
    c.in_ok-add_clean_section.ensures.added

pub add_clean_section-requires-clause-group : goal.add_clean_section-requires-clause-group
add_clean_section-requires-clause-group c =
    let f = c.args.frame.now in
    let k = c.args.k in
    let carried = ap is_carried (sym c.header-s.ensures) ∙ sym c.is_carried_type.ensures ∙ c.if-not-is_carried_type.false in
    let made : List ℕ → Group = λ key. record { key = key } in
    let long = ap (λ (d : Draft). length d.object.groups) c.requires.before ∙ length-map (keys_of f) made in
    subst (λ (n : ℕ). IsMember n c.in_ok-section.section.group) (sym long)
    (subst (λ (x : Section). IsMember (length (keys_of f)) x.group)
    (sym (c.in_ok-section.ensures ∙ ap (λ (s : Shdr). stored_section (keys_of f) (section_with f k s)) c.header-s.ensures)) (member_stored f k (here f k) c.requires.there carried))
