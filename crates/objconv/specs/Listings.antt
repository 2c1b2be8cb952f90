-- What a listing of symbols does, by its status (our profile).
use Rattle.std.specs.{Prelude.{◌≡◌, ℕ, List, Option, Some, None}, Option.{IsSomeAnd}}
use Rattle.oc_dump.specs.Lines.{symbol_lines_of}
use Rattle.oc_neutral.specs.Objects.{Object}
use Rattle.oc_outside.specs.{Causes.{IsSteady}, Held.{Held, file_of}, Texts.{grown, TakesPrefix}}
use Rattle.oc_built.specs.Built.{IsRead}
use Rattle.oc_runs.specs.{States.{State}, Refusals.{HasRefusal, IsExact, IsJudged}}
use Rattle.objconv.specs.Refusals.{listing_refusal, none}

-- the text is the lines of the symbols of the file's object, read with nothing kept that may be left out
pub record ListsSymbols (b : List ℕ) (text : List ℕ) : Type 0 where
  pub object : Object
  pub read : IsRead none b object
  pub lines : text ≡ symbol_lines_of object

module _ (input : List ℕ) where
  -- the text is the listing of the input: where contracts see the files, the input is held and is not refused, and the text is the lines of its symbols
  pub record IsListing (files : Option Held) (text : List ℕ) : Type 0 where
    pub accepted : HasRefusal listing_refusal input files None
    pub listed : (m : Held) → files ≡ Some m → IsSomeAnd (file_of input m) (λ b. ListsSymbols b text)

  -- the listing was shown
  pub record ShowsListing (files : Option Held) (before now : Option (List ℕ)) : Type 0 where
    pub text : List ℕ
    pub listing : IsListing files text
    pub shown : now ≡ grown text before

  -- a prefix of it was shown
  pub record IsPartlyShown (files : Option Held) (before now : Option (List ℕ)) : Type 0 where
    pub text : List ℕ
    pub listing : IsListing files text
    pub shown : TakesPrefix text before now

  -- a listing of the input's symbols
  pub record IsSymbols (before : State) (status : ℕ) (after : State) : Type 0 where
    pub judged : IsJudged listing_refusal input before status after
    pub exact : IsSteady before.read_faults after.read_faults → IsSteady before.out_faults after.out_faults → IsExact listing_refusal input before.held status
    pub listed : status ≡ 0 → ShowsListing before.held before.shown after.shown
    pub partly : status ≡ 6 → IsPartlyShown before.held before.shown after.shown
    pub output : status ≡ 5 → ⊥
    pub held : after.held ≡ before.held
    pub writes : after.write_faults ≡ before.write_faults
