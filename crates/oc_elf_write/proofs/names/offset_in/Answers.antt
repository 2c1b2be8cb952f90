-- A name that is not empty is given.
use Rattle.std.proofs.Common.{◌≡◌, false, [], sym, ◌∙◌, ap, subst}
use Rattle.std.specs.{Prelude.{not, is_some}, Option.{unwrap_or}}
use Rattle.oc_base.specs.Strings.{is_given, table_place}
use Rattle.oc_strings.specs.Tables.{StringTable}
use Rattle.oc_elf_write.proofs.StringLemmas.{empty_name, some_place}
use Rattle.oc_elf_write.proofs.names.offset_in.Goals as goal

pub returns-then-is_empty : goal.returns-then-is_empty
returns-then-is_empty c = λ given e.
    empty_name given c.args.name.now (sym c.is_empty.ensures ∙ c.if-is_empty.true) (subst (λ (t : StringTable). is_given t.names [] ≡ false) e c.requires.filled)

pub unwrap-requires : goal.unwrap-requires
unwrap-requires c =
    ap is_some c.offset_near.ensures.place
    ∙ some_place c.args.names.now.head c.args.names.now.names c.args.name.now (c.requires.given (ap not (sym c.is_empty.ensures ∙ c.if-is_empty.false)))

pub returns : goal.returns
returns c = λ given e.
    sym (ap (λ o. unwrap_or o 0) (sym (c.offset_near.ensures.place ∙ ap (λ (t : StringTable). table_place t.head t.names c.args.name.now) e) ∙ c.unwrap.ensures))
