-- What a file shows that has no fault (Mach-O reference; our profile).
use Rattle.std.specs.Prelude.{◌≡◌, ℕ, List, None, refl}
use Rattle.oc_base.specs.{declared.format.Word.{Word}, declared.format.Word.TheVariants.{W32, W64}}
use Rattle.oc_linking.specs.declared.terms.Keep.{Keep}
use Rattle.oc_neutral.specs.{Building.{Draft}, Dialects.{IsDialect}}
use Rattle.oc_shows.specs.{Built.{HasAdded, IsStarted}, Shows.{Shows}}
use Rattle.oc_macho.specs.{Tables.{tables_of}, Rules.{fault_of, mach_dialect}}
use Rattle.oc_macho_read.specs.{Built.{started}, Given.{given_at}}

-- a file without a fault shows what is built of its sections and symbols, with the relocations of its entries
abbrev pub CleanIsShown : Type 0
CleanIsShown = (w : Word) (file : List ℕ) (keep : Keep) (d : Draft) → fault_of w file keep ≡ None
    → IsStarted (mach_dialect w) file keep (started (tables_of w file) keep)
    → HasAdded (started (tables_of w file) keep) d (given_at (tables_of w file) keep)
    → Shows (mach_dialect w) file keep d.object

-- the rules of Mach-O have the word and the alignments that are given for its format
pub mach_is_dialect : (w : Word) → IsDialect (mach_dialect w)
mach_is_dialect W32 = record { word = refl; output_align = λ align. refl; common_align = λ size align. refl }
mach_is_dialect W64 = record { word = refl; output_align = λ align. refl; common_align = λ size align. refl }
