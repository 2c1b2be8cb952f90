-- The names of lines are in the table.
use Rattle.std.proofs.Common.{subst}
use Rattle.oc_elf_write.specs.Lines.{IsLine}
use Rattle.oc_elf_write.proofs.StringLemmas.{local_placed, outer_placed}
use Rattle.oc_elf_write.proofs.symbols.line_sym.Goals as goal

pub signature_sym-requires-clause-listed : goal.signature_sym-requires-clause-listed
signature_sym-requires-clause-listed c = subst (IsLine c.args.neutral.now) c.in-Signature.is c.requires.listed

pub symbol_sym-requires-clause-named : goal.symbol_sym-requires-clause-named
symbol_sym-requires-clause-named c =
    let n = c.args.neutral.now in
    local_placed n c.in-Local.k (subst (IsLine n) c.in-Local.is c.requires.listed) c.symbol.result.now c.symbol.ensures c.args.names.now c.requires.names

pub symbol_sym-requires-in-Outer-clause-named : goal.symbol_sym-requires-in-Outer-clause-named
symbol_sym-requires-in-Outer-clause-named c =
    let n = c.args.neutral.now in
    outer_placed n c.in-Outer.k (subst (IsLine n) c.in-Outer.is c.requires.listed) c.symbol-in-Outer.result.now c.symbol-in-Outer.ensures c.args.names.now c.requires.names
