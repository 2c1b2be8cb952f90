-- A group without a fault of its form lies in the file.
use Rattle.std.proofs.Common.{sym, ◌∙◌}
use Rattle.std.proofs.lemmas.Bool.{eq-eqb}
use Rattle.oc_elf.specs.declared.constants.TheConstants.{SHT_GROUP}
use Rattle.oc_elf_judge.proofs.{GroupLemmas.{good_first}, SectionLemmas.{form_lies}, TableLemmas.{group_bytes}}
use Rattle.oc_elf_judge.proofs.groups.group_fault.Goals as goal

pub take_members-requires-clause-lies : goal.take_members-requires-clause-lies
take_members-requires-clause-lies c =
    form_lies c.args.frame.now c.args.k c.args.place c.args.s.now c.requires.form (group_bytes c.args.s.now (eq-eqb c.args.s.now.sh_type SHT_GROUP c.if-s-ne-SHT_GROUP.false))

pub group_word-flags-requires-clause-lies : goal.group_word-flags-requires-clause-lies
group_word-flags-requires-clause-lies c =
    form_lies c.args.frame.now c.args.k c.args.place c.args.s.now c.requires.form (group_bytes c.args.s.now (eq-eqb c.args.s.now.sh_type SHT_GROUP c.if-s-ne-SHT_GROUP.false))

pub group_word-flags-requires-clause-there : goal.group_word-flags-requires-clause-there
group_word-flags-requires-clause-there c = good_first c.args.frame.now c.args.s.now (sym c.is_good_group.ensures ∙ c.if-not-is_good_group.false)
