-- The numbers stand behind the names.
use Rattle.std.proofs.Common.{ℕ, List, ◌++◌, ◌∙◌, ap, subst, append_assoc}
use Rattle.oc_outside.specs.Windows.{IsFilled}
use Rattle.oc_shelf.specs.Writing.Packed.{packed}
use Rattle.oc_macho.specs.Structures.{section_bytes, section_numbers}
use Rattle.oc_macho_write.proofs.tables.header_window.Goals as goal

pub returns : goal.returns
unfolding section_bytes
returns c =
    let h = c.args.header.now in
    let names = c.as_slice.ensures ∙ c.pack_section_names-names.ensures in
    let numbers = c.as_slice-2.ensures ∙ c.pack_section_numbers-numbers.ensures in
    subst (λ (xs : List ℕ). IsFilled xs c.args.from c.args.out.now c.pair_window.new.out c.pair_window.result)
    (ap (λ (xs : List ℕ). xs ++ c.as_slice-2.result.now) names ∙ ap (λ (xs : List ℕ). (h.sectname ++ h.segname) ++ xs) numbers
    ∙ append_assoc h.sectname h.segname (packed (section_numbers c.args.word h))) c.pair_window.ensures
