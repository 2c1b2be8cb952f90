-- What a run does, by its status (our profile).
use Rattle.std.specs.{Prelude.{◌≡◌, ℕ, ◌⊎◌, List, [], ◌∷◌, Option}, Option.{ForSome, IsSomeAnd}}
use Rattle.oc_outside.specs.{Causes.{IsSteady, Rose}, Held.{Held, file_of}, Texts.{grown, TakesPrefix}}
use Rattle.oc_runs.specs.{Ends.{IsEnd, IsWordless}, Refusals.{TellsRefusal}, States.{State, IsRefusal}, Texts.{Tells}}
use Rattle.oc_linker.specs.{Outcomes.{Outcome, Absent, Misplacement, LinkText, link_refusal, outcome_of, status_for}, Texts.{words_text}}

-- ... of two names

module _ (object placement : List ℕ) where
  -- that comes of the files of the two names
  abbrev pub ComesOf : Outcome → Held → Type 0
  ComesOf x m = outcome_of (file_of object m) (file_of placement m) ≡ x

  -- the files are known, and one of the two is not held where it is to be read
  abbrev pub IsAbsence : Option Held → Type 0
  IsAbsence files = IsSomeAnd files (ComesOf Absent)

  -- it was reported why the placement gives nothing: where contracts see the files, that is so
  pub record TellsMisplacement (before after : State) : Type 0 where
    pub text : List ℕ
    pub misplaced : ForSome before.held (ComesOf (Misplacement text))
    pub told : Tells text before.told after.told before.err_faults after.err_faults

  -- a text was shown, which is that of linking where contracts see the files
  pub record ShowsText (before after : State) : Type 0 where
    pub text : List ℕ
    pub linked : ForSome before.held (ComesOf (LinkText text))
    pub shown : after.shown ≡ grown text before.shown

  -- a prefix of it was shown
  pub record ShowsPrefix (before after : State) : Type 0 where
    pub text : List ℕ
    pub linked : ForSome before.held (ComesOf (LinkText text))
    pub shown : TakesPrefix text before.shown after.shown

  -- where contracts see the files, the status is that of what comes of the two, or 7
  abbrev pub IsExactLink : Option Held → ℕ → Type 0
  IsExactLink files status = ForSome files (λ m. (status ≡ 7) ⊎ (status ≡ status_for (outcome_of (file_of object m) (file_of placement m))))

  -- the object is linked at the placement
  pub record IsLinking (before : State) (status : ℕ) (after : State) : Type 0 where
    pub words : status ≡ 3 → ⊥
    pub refused : IsRefusal status → TellsRefusal link_refusal object before status after
    pub unread : status ≡ 4 → Rose before.read_faults after.read_faults ⊎ IsAbsence before.held
    pub absent : IsAbsence before.held → (status ≡ 4) ⊎ (status ≡ 7)
    pub misplaced : status ≡ 9 → TellsMisplacement before after
    pub linked : status ≡ 0 → ShowsText before after
    pub partly : status ≡ 6 → ShowsPrefix before after
    pub exact : IsSteady before.read_faults after.read_faults → IsSteady before.out_faults after.out_faults → IsExactLink before.held status

-- ... of any words

-- two words are the names of an object and a placement
abbrev pub DoesLink : List (List ℕ) → State → ℕ → State → Type 0
DoesLink [] = IsWordless words_text
DoesLink (object ∷ []) = IsWordless words_text
DoesLink (object ∷ (placement ∷ [])) = IsLinking object placement
DoesLink (object ∷ (placement ∷ (extra ∷ words))) = IsWordless words_text

-- the status is one that a run answers
abbrev pub IsStatus : ℕ → Type 0
IsStatus status =
    (status ≡ 0) ⊎ (status ≡ 1) ⊎ (status ≡ 2) ⊎ (status ≡ 3) ⊎ (status ≡ 4) ⊎ (status ≡ 6) ⊎ (status ≡ 7) ⊎ (status ≡ 8) ⊎ (status ≡ 9)

-- a run of these words that ends with the status; it changes no file
pub record IsLinkRun (words : List (List ℕ)) (before : State) (status : ℕ) (after : State) : Type 0 where
  pub link : DoesLink words before status after
  pub end : IsEnd IsStatus before status after
  pub held : after.held ≡ before.held
  pub writes : after.write_faults ≡ before.write_faults
