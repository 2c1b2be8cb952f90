-- The lines of one more section.
use Rattle.std.proofs.Common.{◌++◌, append_assoc, sym, ap, ◌∙◌, string_bytes}
use Rattle.std.specs.List.{flat_map, range_with_len}
use Rattle.oc_listings.specs.ObjectListings.{reloc_text_of}
use Rattle.oc_listings.proofs.Steps.{range-text}
use Rattle.oc_listings.proofs.relocs.put_relocs.Goals as goal

pub loop-section-preserved : goal.loop-section-preserved
loop-section-preserved c =
    let n = c.args.neutral.now in
    let k = c.loop-section.section in
    c.in_ok-put_relocs_of.ensures ∙ ap (λ text. text ++ reloc_text_of n k) c.loop-section.invariant
    ∙ append_assoc (string_bytes c.reserve.new.self) (flat_map (reloc_text_of n) (range_with_len 0 k)) (reloc_text_of n k)
    ∙ ap (λ text. string_bytes c.reserve.new.self ++ text) (sym (range-text (reloc_text_of n) k))
