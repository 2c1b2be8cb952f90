-- What becomes of sections and symbols in a target, each in its place (our profile).
use Rattle.std.specs.{Prelude.{ℕ, List, [], get_or, map}, List.{enumerate_from}}
use Rattle.oc_base.specs.declared.format.Format.{Format}
use Rattle.oc_neutral.specs.{declared.section.Section.{Section}, Alignments.{output_align}, Dressing.{dressed_section}, HomeNames.{output_tag}}
use Rattle.oc_neutral.specs.Objects.{Object}
use Rattle.oc_target.specs.Fitted.{fitted_symbol}

-- the section at a position of an object of the format `from`, in a target where its sections have these names
abbrev pub dressed_at : Format → Format → List (List ℕ) → ℕ × Section → Section
dressed_at target from names x = dressed_section (get_or names x.0 []) (output_tag target from x.1) (output_align target x.1.align) x.1

-- the object whose sections are dressed so
abbrev pub with_dress : Format → List (List ℕ) → Object → Object
with_dress target names n = record {
  format = n.format;
  groups = n.groups;
  sections = map (dressed_at target n.format names) (enumerate_from 0 n.sections);
  symbols = n.symbols;
  relocs = n.relocs;
}

-- the object whose commons have the target's alignments
abbrev pub with_commons : Format → Object → Object
with_commons target n = record { format = n.format; groups = n.groups; sections = n.sections; symbols = map (fitted_symbol target) n.symbols; relocs = n.relocs }
