-- A section without a fault passes no limit, so it is added.
use Rattle.std.proofs.Common.{◌+◌, length, sym, ◌∙◌, ap, subst, arith, IsOk, refl}
use Rattle.oc_neutral.specs.{Building.{Draft, section_added}, Invariants.{HasItsBytes, IsMember}, declared.section.Section.{Section}}
use Rattle.oc_shows.proofs.BuiltSteps.{added_is}
use Rattle.oc_macho.specs.{declared.section_header.SectionHeader.{SectionHeader}, Framed.{IsTable, table_at}}
use Rattle.oc_macho_judge.proofs.SectionLemmas.{there}
use Rattle.oc_macho_read.specs.Built.{sectioned}
use Rattle.oc_macho_read.proofs.{SectionedLemmas.{no_group, section_room, section_taken, sound_section}, TableLemmas.{bytes_long, table_of}}
use Rattle.oc_macho_read.proofs.built_sections.add_section.Goals as goal

pub section_of-requires-clause-table : goal.section_of-requires-clause-table
section_of-requires-clause-table c = table_of c.args.frame.now c.args.i c.section-h.result c.requires.there c.requires.clean c.section-h.ensures c.has_entries.ensures

pub section_of-requires-clause-align : goal.section_of-requires-clause-align
section_of-requires-clause-align c =
    let sound = (sound_section c.args.frame.now c.requires.clean c.args.i (table_at c.args.frame.now c.args.i) (there c.args.frame.now c.args.i c.requires.there)).align in
    let same = ap (λ (h : SectionHeader). h.align) c.section-h.ensures in
    omega (arith, sound, same)

pub add_clean_section-requires-clause-room : goal.add_clean_section-requires-clause-room
add_clean_section-requires-clause-room c =
    let long = ap (λ (d : Draft). length d.object.sections) c.requires.before in
    let room = section_room c.args.frame.now c.requires.clean c.args.i c.requires.there c.requires.few in
    omega (arith, long, room)

pub add_clean_section-requires-clause-bytes : goal.add_clean_section-requires-clause-bytes
add_clean_section-requires-clause-bytes c =
    let t = c.args.frame.now in
    let table : IsTable t c.args.i (table_at t c.args.i).header
    = subst (IsTable t c.args.i) c.section-h.ensures (table_of t c.args.i c.section-h.result c.requires.there c.requires.clean c.section-h.ensures c.has_entries.ensures) in
    subst HasItsBytes (sym c.in_ok-section.ensures) (bytes_long t c.requires.tables c.args.i c.requires.there table)

pub add_clean_section-requires-clause-clean : goal.add_clean_section-requires-clause-clean
add_clean_section-requires-clause-clean c =
    let t = c.args.frame.now in
    subst (λ r. IsOk r)
    (sym (ap (λ (d : Draft). section_added d c.in_ok-section.section) c.requires.before ∙ ap (section_added (sectioned t c.args.i)) c.in_ok-section.ensures
    ∙ section_taken t c.requires.clean c.args.i c.requires.there))
    refl

pub returns : goal.returns
returns c =
    let t = c.args.frame.now in
    added_is _ (sectioned t (c.args.i + 1)) _
    (ap (λ (d : Draft). section_added d c.in_ok-section.section) c.requires.before ∙ ap (section_added (sectioned t c.args.i)) c.in_ok-section.ensures
    ∙ section_taken t c.requires.clean c.args.i c.requires.there)
    c.in_ok-add_clean_section.ensures.added

-- a section is in no group
pub add_clean_section-requires-clause-group : goal.add_clean_section-requires-clause-group
add_clean_section-requires-clause-group c =
    subst (λ (x : Section). IsMember (length c.args.builder.now.object.groups) x.group) (sym c.in_ok-section.ensures) (no_group c.args.frame.now c.args.i (length c.args.builder.now.object.groups))
