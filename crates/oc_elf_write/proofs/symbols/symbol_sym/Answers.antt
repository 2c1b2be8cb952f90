-- The name of the symbol is one of the table.
use Rattle.std.proofs.Common.{sym, subst}
use Rattle.oc_elf_write.specs.Strings.{HasPlace}
use Rattle.oc_elf_write.proofs.symbols.symbol_sym.Goals as goal

pub offset_in-requires : goal.offset_in-requires
offset_in-requires c = subst (HasPlace c.args.names.now) (sym c.as_slice.ensures) c.requires.named
