-- Field by field.
use Rattle.std.proofs.Common.{ℕ, List, length, sym, ◌∙◌, ap}
use Rattle.std.specs.Prelude.{min}
use Rattle.oc_coff_file.specs.Canonical.{section_field}
use Rattle.oc_coff.specs.Flags.{pointer_to}
use Rattle.oc_coff_write.proofs.HeaderLemmas.{section_header_is}
use Rattle.oc_coff_write.proofs.headers.section_header.Goals as goal

pub returns : goal.returns
returns c = λ w n entries named counted.
    section_header_is w n c.args.section.now entries c.args.raw_place c.args.relocs_place c.section_field.result c.pointer_to.result c.pointer_to-2.result c.header_count.result c.section_flags.result
    (c.section_field.ensures w n named ∙ ap (λ (xs : List ℕ). section_field w n xs) c.as_slice.ensures)
    (c.pointer_to.ensures ∙ ap (λ (xs : List ℕ). pointer_to c.args.raw_place (length xs)) c.as_slice-2.ensures)
    (c.pointer_to-2.ensures ∙ ap (λ m. pointer_to c.args.relocs_place m) (sym counted))
    (c.header_count.ensures ∙ ap (λ m. min m 65535) (sym counted))
    (c.section_flags.ensures entries counted)
