use Rattle.std.proofs.Common.{◌≡◌, ◌++◌, map, drop}
use Rattle.oc_base.specs.declared.format.Word.{Word}
use Rattle.oc_macho_file.specs.{Layout.{line_names}, Lines.{lines_of}, Symbols.{line_entry}}
use Rattle.oc_macho_write.specs.{Lines.{AreLines}, Strings.{table_with}}
use Rattle.oc_macho_write.proofs.symbols.nlists_of.Given as goal

-- the entries so far, and those that are left
abbrev pub invariant-loop-k : goal.invariant-loop-k
invariant-loop-k l =
    (w : Word) → l.names ≡ table_with (line_names w l.neutral) → AreLines w l.neutral l.lines
    → l.nlists.items ++ map (line_entry w l.neutral) (drop l.k (lines_of w l.neutral)) ≡ map (line_entry w l.neutral) (lines_of w l.neutral)
