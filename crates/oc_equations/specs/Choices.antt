-- Which kinds of sections a conversion keeps (our profile, the options `--strip-..` and `--keep-..`).
use Rattle.std.specs.Prelude.{Bool, true, false, not, ◌&&◌}
use Rattle.oc_base.specs.declared.format.Format.{Format}
use Rattle.oc_linking.specs.declared.terms.Keep.{Keep}
use Rattle.oc_neutral.specs.{Family.{IsOmf, same_container}, Families.{container_of, same_format}}
use Rattle.oc_names.specs.{declared.edit.Choice.{Choice}, Wishes.{Wishes}}
use Rattle.oc_names.specs.declared.edit.Choice.TheVariants as choice

-- an option decides; where none is given, the formats do
abbrev pub decided : Choice → Bool → Bool
decided choice.Auto by_formats = by_formats
decided choice.Strip by_formats = false
decided choice.Keep by_formats = true

-- without options, Exception sections are kept within one format, and Debug sections too, but not in OMF. Notes are kept within one format
abbrev pub kept_kinds : Wishes → Format → Format → Keep
kept_kinds wishes from to = record {
  debug = decided wishes.debug (same_format from to && not (same_container (container_of to) IsOmf));
  exceptions = decided wishes.exceptions (same_format from to);
  notes = same_format from to;
}
