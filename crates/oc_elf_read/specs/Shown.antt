-- What a file shows that has no fault (our profile).
use Rattle.std.specs.Prelude.{◌≡◌, None}
use Rattle.oc_linking.specs.{declared.terms.Keep.{Keep}, FirstFault.{first_fault}}
use Rattle.oc_neutral.specs.Building.{Draft}
use Rattle.oc_shows.specs.{Built.{HasAdded, IsStarted}, Shows.{Shows}}
use Rattle.oc_elf_read.specs.{Built.{symboled}, Given.{given_at}}
use Rattle.oc_elf.specs.{Elf.{elf_dialect, rest_stages}, Frames.{FileFrame}, Laid.{IsFrame}, Tables.{symbol_count}}

-- a file without a fault shows what is built of its sections and symbols, with the relocations of its entries
abbrev pub CleanIsShown : Type 0
CleanIsShown = (f : FileFrame) (keep : Keep) (d : Draft) → IsFrame f → first_fault (rest_stages f keep) ≡ None
    → IsStarted (elf_dialect f.class) f.file keep (symboled f (symbol_count f)) → HasAdded (symboled f (symbol_count f)) d (given_at f keep)
    → Shows (elf_dialect f.class) f.file keep d.object
