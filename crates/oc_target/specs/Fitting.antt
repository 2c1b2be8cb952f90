-- What fitting makes of an object (our profile): it has the target's names, tags and alignments, and constants in place of the
-- relocations that the target stores as such.
use Rattle.std.specs.{Prelude.{ℕ, map, get_or}, List.{enumerate_from}}
use Rattle.oc_base.specs.{declared.format.Format.{Format}, Formats.{word_for}}
use Rattle.oc_linking.specs.Images.{Patches, overlay}
use Rattle.oc_chains.specs.Lists.{list_of}
use Rattle.oc_neutral.specs.{declared.section.Section.{Section}, Objects.{Object}, Alignments.{output_align}, HomeNames.{output_names, output_tag}}
use Rattle.oc_neutral.specs.Constants.{constants_among, staying}
use Rattle.oc_target.specs.Fitted.{fitted_symbol}

-- the fields of an object that the target stores as constants
abbrev pub constants : Format → Object → Patches
constants target n s = constants_among target (word_for n.format) s (list_of n.relocs s)

-- the section at a position, in a target
abbrev pub fitted_section : Format → Object → ℕ × Section → Section
fitted_section target n x = record {
  name = get_or (output_names target n) x.0 x.1.name;
  kind = x.1.kind;
  align = output_align target x.1.align;
  size = x.1.size;
  bytes = overlay (constants target n x.0) 0 x.1.bytes;
  tag = output_tag target n.format x.1;
  number = x.1.number;
  group = x.1.group;
}

-- what an object becomes in a target
abbrev pub fit_of : Format → Object → Object
fit_of target n = record {
  format = target;
  groups = n.groups;
  sections = map (fitted_section target n) (enumerate_from 0 n.sections);
  symbols = map (fitted_symbol target) n.symbols;
  relocs = map (staying target) (enumerate_from 0 n.relocs);
}
