use Rattle.std.proofs.Common.{◌≡◌, ◌++◌, string_bytes, take}
use Rattle.std.specs.List.{enumerate_from, flat_map}
use Rattle.oc_base.specs.Formats.{word_for}
use Rattle.oc_link.specs.{Texts.{section_text}, Pieces.{frames, images}, Values.{laid}}
use Rattle.oc_link.proofs.sections.put_sections.Given as goal

-- the sections so far
abbrev pub invariant-loop-section : goal.invariant-loop-section
invariant-loop-section l = string_bytes l.out
    ≡ string_bytes l.fn.out ++ flat_map (section_text (word_for l.object.format) (laid l.object l.placed) (images l.object l.placed)) (take l.section (enumerate_from 0 (frames l.object)))
