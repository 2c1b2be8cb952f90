use Rattle.std.proofs.Common.{◌≡◌, ℕ, ◌++◌, map, drop}
use Rattle.std.specs.List.{enumerate_from}
use Rattle.oc_neutral.specs.declared.section.Section.{Section}
use Rattle.oc_macho_file.specs.Layout.{relocs_of}
use Rattle.oc_macho_write.specs.{Relocations.{all_entries}, Words.{items_of}}
use Rattle.oc_macho_write.proofs.relocations.all_entries.Given as goal

-- the entries of the sections so far, and those that are left
abbrev pub invariant-loop-k : goal.invariant-loop-k
invariant-loop-k l =
    items_of l.entries.items ++ map (λ (x : ℕ × Section). relocs_of l.fn.context.word l.fn.neutral x.0) (enumerate_from l.k (drop l.k l.fn.neutral.sections)) ≡ all_entries l.fn.context.word l.fn.neutral
