-- What a conversion in memory says (our profile).
use Rattle.std.specs.{Prelude.{◌≡◌, ℕ, ◌⊎◌, List, Option, Some, None, Ok}, Str.{IsUtf8}}
use Rattle.oc_base.specs.{declared.fault.Fault.{Fault}, declared.format.Format.{Format}}
use Rattle.oc_linking.specs.Numbers.{or_else}
use Rattle.oc_names.specs.Wishes.{Wishes}
use Rattle.oc_convert.specs.Dispatched.{IsDispatched, dispatch_refusal}
use Rattle.oc_built.specs.Built.{built}
use Rattle.oc_words.specs.{declared.job.Job.TheVariants.{Convert}, Faults.{bad}, Jobs.{job_of}}
use Rattle.oc_runs.specs.Refusals.{length_refusal}
use Rattle.oc_embed.specs.{declared.refusal.Refusal.{Refusal}, Refusals.{IsTold}, Said.{Said, given}, Words.{command, unended}}
use Rattle.oc_embed.specs.declared.refusal.Refusal.TheVariants as refusal

-- ... what the words ask for

-- the words are those of a conversion to this target, of an input to an output
abbrev pub IsConversion : List (List ℕ) → Format → Wishes → Type 0
IsConversion words to wishes = (input : List ℕ) × (output : List ℕ) × (job_of words ≡ Ok (Convert to wishes input output))

-- why they are not: a word is at fault; lack of memory needs no cause
abbrev pub IsNoConversion : List (List ℕ) → Refusal → Type 0
IsNoConversion words refusal.NotText = ⊥
IsNoConversion words (refusal.Word index code) = job_of words ≡ bad index code
IsNoConversion words (refusal.Input fault) = ⊥
IsNoConversion words refusal.NoMemory = Unit {0}

-- the words are UTF-8, and with the names of an input and of an output after them they are those of a conversion
pub record Asks (block : List ℕ) (to : Format) (wishes : Wishes) : Type 0 where
  pub text : IsUtf8 (unended block)
  pub job : IsConversion (command block) to wishes

-- why they are not: they are not UTF-8, or one is at fault; lack of memory needs no cause
abbrev pub IsMisasked : List ℕ → Refusal → Type 0
IsMisasked block refusal.NotText = ¬ (IsUtf8 (unended block))
IsMisasked block (refusal.Word index code) = IsUtf8 (unended block) × (job_of (command block) ≡ bad index code)
IsMisasked block (refusal.Input fault) = ⊥
IsMisasked block refusal.NoMemory = Unit {0}

-- ... what comes of the input

-- the first refusal of an input that is converted, or none
abbrev pub conversion_refusal : Wishes → Format → List ℕ → Option Fault
conversion_refusal wishes to b = or_else (length_refusal b) (dispatch_refusal built wishes to b)

-- the words ask for a conversion and the input has no refusal; c is the file that the writer of the target has for it, links as the edited input does, and is
-- its own conversion
pub record IsConverted (block input c : List ℕ) : Type 0 where
  pub to : Format
  pub wishes : Wishes
  pub asked : Asks block to wishes
  pub accepted : conversion_refusal wishes to input ≡ None
  pub dispatched : IsDispatched built wishes to input c

-- the words ask for a conversion, and this is the first refusal of the input
pub record IsRefused (block input : List ℕ) (fault : Fault) : Type 0 where
  pub to : Format
  pub wishes : Wishes
  pub asked : Asks block to wishes
  pub refused : conversion_refusal wishes to input ≡ Some fault

-- why there is no output
abbrev pub IsUnconverted : List ℕ → List ℕ → Refusal → Type 0
IsUnconverted block input refusal.NotText = IsMisasked block refusal.NotText
IsUnconverted block input (refusal.Word index code) = IsMisasked block (refusal.Word index code)
IsUnconverted block input (refusal.Input fault) = IsRefused block input fault
IsUnconverted block input refusal.NoMemory = Unit {0}

-- a conversion says its output, or why there is none
abbrev pub SaysConversion : List ℕ → List ℕ → Said → Type 0
SaysConversion block input said =
    ((c : List ℕ) × IsConverted block input c × (said ≡ given c)) ⊎ ((cause : Refusal) × IsUnconverted block input cause × IsTold cause said)
