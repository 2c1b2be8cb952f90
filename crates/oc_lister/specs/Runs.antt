-- What a run of the command does, by its status (our profile).
use Rattle.std.specs.{Prelude.{◌≡◌, ℕ, ◌⊎◌, List, codes, Option, Some, None}, Option.{IsSomeAnd}}
use Rattle.oc_base.specs.{declared.fault.Fault.{Fault}, declared.format.Format.{Format}}
use Rattle.oc_linking.specs.{Keeping.{all}, Numbers.{or_else}}
use Rattle.oc_outside.specs.{Causes.{IsSteady}, Held.{Held, file_of}, Texts.{grown, TakesPrefix}}
use Rattle.oc_convert.specs.{Dispatched.{reading_refusal}, Identified.{identified}}
use Rattle.oc_built.specs.Built.{built}
use Rattle.oc_listings.specs.{declared.listing.Listing.{Listing}, Listings.{listing_of}}
use Rattle.oc_runs.specs.Ends as ends
use Rattle.oc_runs.specs.{Refusals.{HasRefusal, IsExact, IsJudged, length_refusal}, States.{State}}
use Rattle.oc_lister.specs.Words.{asked_by}

-- the text for words that ask for no listing
unfoldable pub words_text : List ℕ
words_text = codes "objlist: words: BadWords\n"

-- the first refusal of an input that is listed, or none: all is kept
abbrev pub list_refusal : List ℕ → Option Fault
list_refusal b = or_else (length_refusal b) (reading_refusal built all b)

module _ (listing : Listing) where
  -- the text is the listing of the file, by the rules of its format
  pub record IsListed (b : List ℕ) (text : List ℕ) : Type 0 where
    pub from : Format
    pub identified : identified b ≡ Some from
    pub lines : text ≡ listing_of (built.reader from) b listing

  module _ (input : List ℕ) where
    -- the text is the listing of the input: where contracts see the files, the input is held and is not refused, and the text is its listing
    pub record IsListing (files : Option Held) (text : List ℕ) : Type 0 where
      pub accepted : HasRefusal list_refusal input files None
      pub listed : (m : Held) → files ≡ Some m → IsSomeAnd (file_of input m) (λ b. IsListed b text)

    -- the listing was shown
    pub record ShowsListing (files : Option Held) (before now : Option (List ℕ)) : Type 0 where
      pub text : List ℕ
      pub lists : IsListing files text
      pub shown : now ≡ grown text before

    -- a prefix of it was shown
    pub record IsPartlyShown (files : Option Held) (before now : Option (List ℕ)) : Type 0 where
      pub text : List ℕ
      pub lists : IsListing files text
      pub shown : TakesPrefix text before now

    -- the input is listed
    pub record ListsInput (before : State) (status : ℕ) (after : State) : Type 0 where
      pub judged : IsJudged list_refusal input before status after
      pub exact : IsSteady before.read_faults after.read_faults → IsSteady before.out_faults after.out_faults → IsExact list_refusal input before.held status
      pub listed : status ≡ 0 → ShowsListing before.held before.shown after.shown
      pub partly : status ≡ 6 → IsPartlyShown before.held before.shown after.shown
      -- no file is changed, and none is written
      pub held : after.held ≡ before.held
      pub writes : after.write_faults ≡ before.write_faults

-- what is asked for is done
abbrev pub DoesAsked : Option (Listing × List ℕ) → State → ℕ → State → Type 0
DoesAsked None = ends.IsWordless words_text
DoesAsked (Some asked) = ListsInput asked.0 asked.1

-- the status is one that a run answers
abbrev pub IsStatus : ℕ → Type 0
IsStatus status = (status ≡ 0) ⊎ (status ≡ 1) ⊎ (status ≡ 2) ⊎ (status ≡ 3) ⊎ (status ≡ 4) ⊎ (status ≡ 6) ⊎ (status ≡ 7) ⊎ (status ≡ 8)

-- a run that ends with the status
abbrev pub IsEnd : State → ℕ → State → Type 0
IsEnd = ends.IsEnd IsStatus

-- a run of these words that ends with the status
pub record IsList (words : List (List ℕ)) (before : State) (status : ℕ) (after : State) : Type 0 where
  pub asked : DoesAsked (asked_by words) before status after
  pub end : IsEnd before status after
