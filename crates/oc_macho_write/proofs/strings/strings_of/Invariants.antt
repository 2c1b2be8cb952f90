use Rattle.std.proofs.Common.{◌≡◌, ◌++◌, map, drop}
use Rattle.oc_base.specs.declared.format.Word.{Word}
use Rattle.oc_macho_file.specs.{Layout.{line_names}, Lines.{line_name, lines_of}}
use Rattle.oc_macho_write.specs.Lines.{AreLines}
use Rattle.oc_macho_write.proofs.strings.strings_of.Given as goal

-- the names so far, and those that are left
abbrev pub invariant-loop-line : goal.invariant-loop-line
invariant-loop-line l = (w : Word) → AreLines w l.neutral l.lines → l.names.items ++ map line_name (drop l.line-index (lines_of w l.neutral)) ≡ line_names w l.neutral
