-- The lines so far and those that are left stand after the text.
use Rattle.std.proofs.Common.{◌≡◌, ◌++◌, string_bytes}
use Rattle.std.specs.List.{AllByRecursion, flat_map}
use Rattle.oc_chains.specs.{Lists.{list_of}, declared.field.Field.{Field}}
use Rattle.oc_neutral.specs.{declared.reloc.Reloc.{Reloc}, Invariants.{IsThere}}
use Rattle.oc_listings.specs.ObjectListings.{reloc_line}
use Rattle.oc_listings.proofs.relocs.put_relocs_of.Given as goal

abbrev pub invariant-loop-field : goal.invariant-loop-field
invariant-loop-field l =
    (goal.iterator-loop-field).can_next l.field-iterator
    × (goal.iterator-loop-field).is_finite l.field-iterator
    × AllByRecursion (λ (x : Field Reloc). IsThere l.neutral x.item.target) l.field-iterator
    × (string_bytes l.out ++ flat_map (reloc_line l.neutral l.number) l.field-iterator
    ≡ string_bytes l.initial.out ++ flat_map (reloc_line l.neutral l.number) (list_of l.fn.neutral.relocs l.fn.section))
