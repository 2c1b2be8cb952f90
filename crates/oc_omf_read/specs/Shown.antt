-- What a module shows (our profile).
use Rattle.std.specs.Prelude.{ℕ, List, refl}
use Rattle.oc_linking.specs.declared.terms.Keep.{Keep}
use Rattle.oc_neutral.specs.{Building.{Draft}, Invariants.{IsDraft}, Dialects.{IsDialect}}
use Rattle.oc_shows.specs.{Built.{HasAdded, IsStarted}, Readable.{IsReadable}, Shows.{Shows}}
use Rattle.oc_omf.specs.{Entries.{entries_in}, Rules.{omf_dialect}}
use Rattle.oc_omf_read.specs.{Built.{started}, Given.{given_at}}

-- a module shows what is built of its sections and symbols, with the relocations of its fixups
abbrev pub CleanIsShown : Type 0
CleanIsShown = (file : List ℕ) (keep : Keep) (d : Draft) → IsDraft (started file) → HasAdded (started file) d (given_at (entries_in file) keep) → Shows omf_dialect file keep d.object

-- what is built before the relocations is what the module starts with, and can be read
pub record StartsWell (file : List ℕ) (keep : Keep) : Type 0 where
  pub started_is : IsDraft (started file) → IsStarted omf_dialect file keep (started file)
  pub readable : IsReadable (started file).object

abbrev pub StartsAreWell : Type 0
StartsAreWell = (file : List ℕ) (keep : Keep) → StartsWell file keep

-- the rules of OMF have the word and the alignments that are given for its format
pub omf_is_dialect : IsDialect omf_dialect
omf_is_dialect = record { word = refl; output_align = λ align. refl; common_align = λ size align. refl }
