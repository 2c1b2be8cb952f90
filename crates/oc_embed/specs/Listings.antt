-- What a listing in memory says (our profile).
use Rattle.std.specs.Prelude.{◌≡◌, ℕ, false, ◌⊎◌, List, Option, Some, None}
use Rattle.oc_base.specs.declared.fault.Fault.{Fault}
use Rattle.oc_linking.specs.{declared.terms.Keep.{Keep}, Numbers.{or_else}}
use Rattle.oc_neutral.specs.Objects.{Object}
use Rattle.oc_convert.specs.Dispatched.{reading_refusal}
use Rattle.oc_built.specs.Built.{IsRead, built}
use Rattle.oc_dump.specs.Lines.{symbol_lines_of}
use Rattle.oc_runs.specs.Refusals.{length_refusal}
use Rattle.oc_embed.specs.{declared.refusal.Refusal.{Refusal}, Refusals.{IsTold}, Said.{Said, given}}
use Rattle.oc_embed.specs.declared.refusal.Refusal.TheVariants as refusal

-- nothing is kept that may be left out
abbrev pub none : Keep
none = record { debug = false; exceptions = false; notes = false }

-- the first refusal of an input that is listed, or none
abbrev pub listing_refusal : List ℕ → Option Fault
listing_refusal b = or_else (length_refusal b) (reading_refusal built none b)

-- the input has no refusal, and the text is the lines of the symbols of its object
pub record IsListed (input text : List ℕ) : Type 0 where
  pub accepted : listing_refusal input ≡ None
  pub object : Object
  pub read : IsRead none input object
  pub lines : text ≡ symbol_lines_of object

-- why there is no listing
abbrev pub IsUnlisted : List ℕ → Refusal → Type 0
IsUnlisted input refusal.NotText = ⊥
IsUnlisted input (refusal.Word index code) = ⊥
IsUnlisted input (refusal.Input fault) = listing_refusal input ≡ Some fault
IsUnlisted input refusal.NoMemory = Unit {0}

-- a listing says its text, or why there is none
abbrev pub SaysListing : List ℕ → Said → Type 0
SaysListing input said = ((text : List ℕ) × IsListed input text × (said ≡ given text)) ⊎ ((cause : Refusal) × IsUnlisted input cause × IsTold cause said)
