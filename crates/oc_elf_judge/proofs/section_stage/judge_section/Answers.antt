-- The conditions are those of four lists.
use Rattle.std.proofs.Common.{◌≡◌, ℕ, ◌∙◌, sym, ap}
use Rattle.std.proofs.lemmas.Bool.{ne_eqb}
use Rattle.oc_linking.specs.FirstFault.{first_broken}
use Rattle.oc_elf.specs.{declared.constants.TheConstants.{SHT_GROUP}, declared.shdr.Shdr.{Shdr}, Frames.{header_at, header_place}, Sections.{is_type}}
use Rattle.oc_elf.specs.{SectionRules.{form_conditions, group_conditions}, Classes.{word_of}}
use Rattle.oc_elf_judge.proofs.{GroupLemmas.{taking_passed}, SectionLemmas.{form_broken, group_broken, null_first, rest_broken, section_broken}}
use Rattle.oc_elf_judge.proofs.section_stage.judge_section.Goals as goal

pub returns-then-k-eq0-clause-taken : goal.returns-then-k-eq0-clause-taken
returns-then-k-eq0-clause-taken c =
    let f = c.args.frame.now in
    let first : header_at f.headers c.args.k ≡ header_at f.headers 0 = ap (λ (k : ℕ). header_at f.headers k) c.if-k-eq0.true in
    taking_passed f c.args.k c.args.owners.now (ap (is_type SHT_GROUP) (first ∙ null_first f c.is_frame.ensures)) c.requires.owners

pub returns-in-Some-clause-verdict : goal.returns-in-Some-clause-verdict
returns-in-Some-clause-verdict c =
    let f = c.args.frame.now in
    sym (section_broken f c.args.k (ne_eqb c.args.k 0 c.if-k-eq0.false)
    ∙ form_broken f c.args.k (header_place (word_of f.class) f.file c.args.k) (header_at f.headers c.args.k) c.in-Some.fault
    (ap (λ (p : ℕ). first_broken (form_conditions f c.args.k p (header_at f.headers c.args.k))) (sym c.place-place.ensures)
    ∙ ap (λ (s : Shdr). first_broken (form_conditions f c.args.k c.place-place.result s)) (sym c.header-s.ensures) ∙ sym c.form_fault.ensures ∙ c.in-Some.is))

pub returns-in-Some-group_fault-clause-verdict : goal.returns-in-Some-group_fault-clause-verdict
returns-in-Some-group_fault-clause-verdict c =
    let f = c.args.frame.now in
    sym (section_broken f c.args.k (ne_eqb c.args.k 0 c.if-k-eq0.false)
    ∙ group_broken f c.args.k (header_place (word_of f.class) f.file c.args.k) (header_at f.headers c.args.k) c.in-Some-group_fault.fault
    (ap (λ (p : ℕ). first_broken (form_conditions f c.args.k p (header_at f.headers c.args.k))) (sym c.place-place.ensures)
    ∙ ap (λ (s : Shdr). first_broken (form_conditions f c.args.k c.place-place.result s)) (sym c.header-s.ensures) ∙ sym c.form_fault.ensures ∙ c.in-None.is)
    (ap (λ (p : ℕ). first_broken (group_conditions f c.args.k p (header_at f.headers c.args.k))) (sym c.place-place.ensures)
    ∙ ap (λ (s : Shdr). first_broken (group_conditions f c.args.k c.place-place.result s)) (sym c.header-s.ensures) ∙ sym c.group_fault.ensures.verdict ∙ c.in-Some-group_fault.is))

pub returns-clause-verdict : goal.returns-clause-verdict
returns-clause-verdict c =
    let f = c.args.frame.now in
    rw (c.earlier.ensures, c.table_fault-table.ensures, c.carried_fault-carried.ensures, c.header-s.ensures, c.place-place.ensures)
    (sym (section_broken f c.args.k (ne_eqb c.args.k 0 c.if-k-eq0.false)
    ∙ rest_broken f c.args.k (header_place (word_of f.class) f.file c.args.k) (header_at f.headers c.args.k)
    (ap (λ (p : ℕ). first_broken (form_conditions f c.args.k p (header_at f.headers c.args.k))) (sym c.place-place.ensures)
    ∙ ap (λ (s : Shdr). first_broken (form_conditions f c.args.k c.place-place.result s)) (sym c.header-s.ensures) ∙ sym c.form_fault.ensures ∙ c.in-None.is)
    (ap (λ (p : ℕ). first_broken (group_conditions f c.args.k p (header_at f.headers c.args.k))) (sym c.place-place.ensures)
    ∙ ap (λ (s : Shdr). first_broken (group_conditions f c.args.k c.place-place.result s)) (sym c.header-s.ensures) ∙ sym c.group_fault.ensures.verdict ∙ c.in-None-group_fault.is)))
