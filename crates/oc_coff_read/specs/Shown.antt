-- What a file shows that has no fault (our profile).
use Rattle.oc_coff.specs.{Files.{CoffFile, tables_in}, declared.form.Shape.TheVariants.{Usual, Big}, Entries.{entries_in}}
use Rattle.oc_coff.specs.Rules.{CoffIsDialect, dialect_by, fault_by}
use Rattle.std.specs.Prelude.{◌≡◌, ◌≤◌, length, None, refl}
use Rattle.oc_base.specs.{declared.format.Word.{Word}, declared.format.Word.TheVariants.{W32, W64}}
use Rattle.oc_linking.specs.declared.terms.Keep.{Keep}
use Rattle.oc_neutral.specs.Building.{Draft}
use Rattle.oc_shows.specs.{Built.{HasAdded, IsStarted}, Shows.{Shows}}
use Rattle.oc_coff_read.specs.{Built.{symboled}, Given.{given_at}}

-- a file without a fault shows what is built of its sections and symbols, with the relocations of its entries
abbrev pub CleanIsShown : Type 0
CleanIsShown = (w : Word) (file : CoffFile) (keep : Keep) (d : Draft) → length file.bytes ≤ 67108864 → fault_by w file.shape file.bytes keep ≡ None
    → IsStarted (dialect_by w file.shape) file.bytes keep (symboled w (tables_in file) (length (entries_in (tables_in file))))
    → HasAdded (symboled w (tables_in file) (length (entries_in (tables_in file)))) d (given_at w (tables_in file) keep)
    → Shows (dialect_by w file.shape) file.bytes keep d.object

-- the rules of COFF have the word and the alignments that are given for its format
pub coff_is_dialect : CoffIsDialect
coff_is_dialect W32 Usual = record { word = refl; output_align = λ align. refl; common_align = λ size align. refl }
coff_is_dialect W32 Big = record { word = refl; output_align = λ align. refl; common_align = λ size align. refl }
coff_is_dialect W64 Usual = record { word = refl; output_align = λ align. refl; common_align = λ size align. refl }
coff_is_dialect W64 Big = record { word = refl; output_align = λ align. refl; common_align = λ size align. refl }
