-- A group lies in the file.
use Rattle.std.proofs.Common.{◌≡◌, ◌+◌, ◌≤◌, true, length, sym, ap, subst, ◌∙◌}
use Rattle.std.proofs.lemmas.Bool.{eq-eqb}
use Rattle.oc_elf.specs.{declared.shdr.Shdr.{Shdr}, declared.constants.TheConstants.{SHT_GROUP}, Sections.{is_type}}
use Rattle.oc_elf_judge.proofs.{SectionLemmas.{here}, TableLemmas.{group_at}}
use Rattle.oc_elf_judge.proofs.signatures.is_comdat.Goals as goal

pub group_word-requires-clause-lies : goal.group_word-requires-clause-lies
group_word-requires-clause-lies c =
    let is : is_type SHT_GROUP (here c.args.frame.now c.args.g) ≡ true = ap (is_type SHT_GROUP) (sym c.header-s.ensures) ∙ eq-eqb c.header-s.result.sh_type SHT_GROUP c.if-s-ne-SHT_GROUP.false in
    subst (λ (s : Shdr). s.sh_offset + s.sh_size ≤ length c.args.frame.now.file) (sym c.header-s.ensures) (group_at c.args.frame.now c.is_frame.ensures c.requires.sections c.args.g is).lies

pub group_word-requires-clause-there : goal.group_word-requires-clause-there
group_word-requires-clause-there c =
    let is : is_type SHT_GROUP (here c.args.frame.now c.args.g) ≡ true = ap (is_type SHT_GROUP) (sym c.header-s.ensures) ∙ eq-eqb c.header-s.result.sh_type SHT_GROUP c.if-s-ne-SHT_GROUP.false in
    subst (λ (s : Shdr). 4 ≤ s.sh_size) (sym c.header-s.ensures) (group_at c.args.frame.now c.is_frame.ensures c.requires.sections c.args.g is).first
