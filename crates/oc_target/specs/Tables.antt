-- The tables of the program, as the definitions have them (our profile).
use Rattle.std.specs.Prelude.{true, List, filter}
use Rattle.oc_base.specs.declared.format.Format.{Format}
use Rattle.oc_neutral.specs.Rows as rows
use Rattle.oc_neutral.specs.RelocTables.{rows_of}
use Rattle.oc_target.specs.{declared.rows.Taken.{Taken}, declared.rows.Taken.TheVariants.{Zero, Place, GotBase, ImageBase, Home, Section}}
use Rattle.oc_target.specs.declared.rows.Row.{Row}

-- what is taken
abbrev pub meant_taken : Taken → rows.Taken
meant_taken Zero = rows.TakesZero
meant_taken Place = rows.TakesPlace
meant_taken GotBase = rows.TakesGotBase
meant_taken ImageBase = rows.TakesImageBase
meant_taken Home = rows.TakesHome
meant_taken Section = rows.TakesSection

-- a type, which is written
abbrev pub meant : Row → rows.Row
meant r = record {
  number = r.number;
  second = r.second;
  width = r.width;
  check = r.check;
  base = r.base;
  taken = meant_taken r.taken;
  hint = r.hint;
  behind = r.behind;
  canonical = true;
}

-- the types that a format writes
abbrev pub written_rows : Format → List rows.Row
written_rows target = filter (λ (r : rows.Row). r.canonical) (rows_of target)
