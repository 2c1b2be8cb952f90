-- The key of the group is a name of the table.
use Rattle.std.proofs.Common.{sym, subst}
use Rattle.oc_elf_write.specs.Strings.{HasPlace}
use Rattle.oc_elf_write.proofs.StringLemmas.{signature_placed}
use Rattle.oc_elf_write.proofs.symbols.signature_sym.Goals as goal

pub offset_in-name-requires : goal.offset_in-name-requires
offset_in-name-requires c =
    subst (HasPlace c.args.names.now) (sym c.as_slice.ensures)
    (signature_placed c.args.neutral.now c.args.group c.requires.listed c.group.result.now c.group.ensures c.args.names.now c.requires.names)
