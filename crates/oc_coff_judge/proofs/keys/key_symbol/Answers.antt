-- The second symbol is the entry that its slot says.
use Rattle.oc_coff.specs.{Files.{tables_in}, declared.constants.TheConstants.{IMAGE_SYM_CLASS_EXTERNAL}, Entries.{is_class}}
use Rattle.std.proofs.Common.{◌+◌, ◌<◌, true, false, length, sym, ◌∙◌, ap, arith, eq-eqb}
use Rattle.std.proofs.lemmas.Bool.{ne_eqb}
use Rattle.oc_coff_judge.proofs.OwnedLemmas.{IsOwner, owner_is, second_is}
use Rattle.oc_coff_judge.proofs.keys.key_symbol.Goals as goal

pub symbol-requires : goal.symbol-requires
symbol-requires c =
    let low : c.args.k < length (tables_in c.args.coff.now).sections + 1 = omega (arith, c.requires.low) in
    (owner_is c.args.coff.now c.is_headed.ensures 1 c.args.k c.in-Some.j
    (sym (c.requires.owners.seconds_are.each c.args.k low) ∙ sym c.get.ensures ∙ c.in-Some.is)).low

pub returns-then-symbol-ne-IMAGE_SYM_CLASS_EXTERNAL : goal.returns-then-symbol-ne-IMAGE_SYM_CLASS_EXTERNAL
returns-then-symbol-ne-IMAGE_SYM_CLASS_EXTERNAL c =
    let low : c.args.k < length (tables_in c.args.coff.now).sections + 1 = omega (arith, c.requires.low) in
    let owner : IsOwner c.args.coff.now 1 c.args.k c.in-Some.j
    = owner_is c.args.coff.now c.is_headed.ensures 1 c.args.k c.in-Some.j
    (sym (c.requires.owners.seconds_are.each c.args.k low) ∙ sym c.get.ensures ∙ c.in-Some.is) in
    second_is c.args.coff.now c.args.k c.in-Some.j false owner
    (ap (is_class IMAGE_SYM_CLASS_EXTERNAL) (sym c.symbol.ensures) ∙ ne_eqb c.symbol.result.StorageClass 2 c.if-symbol-ne-IMAGE_SYM_CLASS_EXTERNAL.true)

pub returns-else-symbol-ne-IMAGE_SYM_CLASS_EXTERNAL : goal.returns-else-symbol-ne-IMAGE_SYM_CLASS_EXTERNAL
returns-else-symbol-ne-IMAGE_SYM_CLASS_EXTERNAL c =
    let low : c.args.k < length (tables_in c.args.coff.now).sections + 1 = omega (arith, c.requires.low) in
    let owner : IsOwner c.args.coff.now 1 c.args.k c.in-Some.j
    = owner_is c.args.coff.now c.is_headed.ensures 1 c.args.k c.in-Some.j
    (sym (c.requires.owners.seconds_are.each c.args.k low) ∙ sym c.get.ensures ∙ c.in-Some.is) in
    record {
      low = owner.low;
      is = second_is c.args.coff.now c.args.k c.in-Some.j true owner
          (ap (is_class IMAGE_SYM_CLASS_EXTERNAL) (sym c.symbol.ensures) ∙ eq-eqb c.symbol.result.StorageClass 2 c.if-symbol-ne-IMAGE_SYM_CLASS_EXTERNAL.false);
    }
