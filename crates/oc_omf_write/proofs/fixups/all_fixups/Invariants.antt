use Rattle.std.proofs.Common.{◌≡◌, ℕ, ◌++◌, map, drop, Vec, Global}
use Rattle.std.specs.List.{enumerate_from}
use Rattle.oc_neutral.specs.declared.section.Section.{Section}
use Rattle.oc_omf_write.specs.{declared.fixups.Fixup.{Fixup}, Written.{fixups_in, fixups_of}}
use Rattle.oc_omf_write.proofs.fixups.all_fixups.Given as goal

-- the fixups of the sections so far, and those that are left
abbrev pub invariant-loop-k : goal.invariant-loop-k
invariant-loop-k l =
    map (λ (v : Vec Fixup Global). v.items) l.fixups.items ++ map (λ (x : ℕ × Section). fixups_of l.fn.numbers l.fn.neutral x.0) (enumerate_from l.k (drop l.k l.fn.neutral.sections))
    ≡ fixups_in l.fn.numbers l.fn.neutral
