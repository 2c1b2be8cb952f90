use Rattle.std.proofs.Common.{◌≡◌, ℕ, false, ◌&&◌, List, get_or, sym, ◌∙◌, ap}
use Rattle.std.specs.List.{list_any}
use Rattle.std.proofs.lemmas.List.Folds.{list_any_none}
use Rattle.oc_base.specs.declared.format.Format.{Format}
use Rattle.oc_chains.specs.{declared.field.Field.{Field}, Lists.{list_of}}
use Rattle.oc_neutral.specs.{declared.reloc.Reloc.{Reloc}, Families.{family_of}, Mach.SelfReferences.{is_self_reference}, Stored.{is_stored}}
use Rattle.oc_neutral.proofs.constants.has_stored.Goals as goal

-- no field is stored where the format stores none
none_stored : (target : Format) (section : ℕ) (fields : List (Field Reloc)) → (family_of target).stores_own_start ≡ false
    → list_any (λ x. is_stored target section x.item) fields ≡ false
none_stored target section fields none =
    list_any_none (λ x. is_stored target section x.item) fields
    (λ k d l. ap (λ some. some && is_self_reference section (get_or fields k d).item) none)

pub returns-then-not-stores_some : goal.returns-then-not-stores_some
returns-then-not-stores_some c =
    sym (none_stored c.args.target c.args.section (list_of c.args.relocs.now.lists c.args.section) (sym c.stores_some.ensures ∙ c.if-not-stores_some.true))
