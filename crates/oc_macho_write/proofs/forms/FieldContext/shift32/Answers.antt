-- Of a field that stands alone, and of a pair.
use Rattle.std.proofs.Common.{to_z, of_z, w64, ◌≡◌, rules, ◌∙◌, ap}
use Rattle.oc_base.specs.declared.format.Word.TheVariants.{W32}
use Rattle.oc_macho_file.specs.Addresses.{address_of}
use Rattle.oc_macho_write.proofs.FormLemmas.{alone_32, pair_32}
use Rattle.oc_macho_write.proofs.forms.FieldContext.shift32.Goals as goal

pub returns-in-One : goal.returns-in-One
returns-in-One c = λ n is context written.
    let same : to_z w64 (of_z w64 c.distance.result) ≡ c.distance.result = search rules in
    same ∙ c.distance.ensures
    ∙ alone_32 n c.args.standing.now is written c.in-One.field-0 c.taken_address.result c.entry_target_address.result c.in-One.is (c.taken_address.ensures.address W32 n context) (c.entry_target_address.ensures.address W32 n context)

pub end_address-requires-clause-place : goal.end_address-requires-clause-place
end_address-requires-clause-place c = c.requires.there.ends c.requires.word c.in-Pair.field-0 c.in-Pair.field-1 c.in-Pair.is

pub returns-in-Pair : goal.returns-in-Pair
returns-in-Pair c = λ n is context written.
    let same : to_z w64 (of_z w64 c.distance-in-Pair.result) ≡ c.distance-in-Pair.result = search rules in
    same ∙ c.distance-in-Pair.ensures
    ∙ pair_32 n c.args.standing.now is written c.in-Pair.field-0 c.in-Pair.field-1 c.address_of.result c.end_address.result c.in-Pair.is
    (c.address_of.ensures.address W32 n context ∙ ap (address_of n) (c.taken_section.ensures.section W32 is written)) (c.end_address.ensures.address W32 n context)
