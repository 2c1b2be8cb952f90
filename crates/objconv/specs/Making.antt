-- What making an object does, by its status (our profile).
use Rattle.std.specs.{Prelude.{◌≡◌, ℕ, ◌*◌, ◌⊎◌, List, ◌++◌, codes, length, Option, Some, None}, Fmt.{decimal}, Option.{option_map}}
use Rattle.oc_base.specs.{declared.fault.Fault.{Fault}, declared.format.Format.{Format}, Formats.{word_for}}
use Rattle.oc_names.specs.Wishes.{no_wishes}
use Rattle.oc_outside.specs.{Causes.{IsSteady}, Held.{with_file, HasPart}, Texts.{grown, TakesPrefix}}
use Rattle.oc_made.specs.Files.{made_bytes}
use Rattle.oc_convert.specs.Dispatched.{IsDispatched}
use Rattle.oc_built.specs.Built.{built}
use Rattle.oc_runs.specs.States.{State, IsRefusal}
use Rattle.objconv.specs.Refusals.{conversion_refusal}

-- `made N functions, R relocations, B bytes` and a newline: two relocations for each function, and the length of the output
unfoldable pub summary_of : ℕ → ℕ → List ℕ
summary_of count size = codes "made " ++ decimal count ++ codes " functions, " ++ decimal (2 * count) ++ codes " relocations, " ++ decimal size ++ codes " bytes\n"

module _ (count : ℕ) (to : Format) where
  -- the file that is converted: the canonical ELF file of so many functions, of the target's word
  abbrev pub made : List ℕ
  made = made_bytes count (word_for to)

  -- its first refusal on its way to the target, with no edits, or none; there is none
  abbrev pub making_refusal : Option Fault
  making_refusal = conversion_refusal no_wishes to made

  -- c is the output for it: it is not refused, c is the file that the writer of the target has for its object, fitted, and c links as it does
  pub record IsMadeOutput (c : List ℕ) : Type 0 where
    pub accepted : making_refusal ≡ None
    pub dispatched : IsDispatched built no_wishes to made c

  module _ (output : List ℕ) where
    -- the output holds the file, and all other files stay; the summary was shown
    pub record IsMade (before after : State) : Type 0 where
      pub file : List ℕ
      pub planned : IsMadeOutput file
      pub files : after.held ≡ option_map (with_file output file) before.held
      pub shown : after.shown ≡ grown (summary_of count (length file)) before.shown

    -- the files are as they were, or the output holds a prefix of the file and all others stay; nothing was shown
    pub record IsPartlyMade (before after : State) : Type 0 where
      pub file : List ℕ
      pub planned : IsMadeOutput file
      pub files : HasPart output file before.held after.held
      pub shown : after.shown ≡ before.shown

    -- the output holds the file, and all other files stay; a prefix of the summary was shown
    pub record IsPartlyTold (before after : State) : Type 0 where
      pub file : List ℕ
      pub planned : IsMadeOutput file
      pub files : after.held ≡ option_map (with_file output file) before.held
      pub shown : TakesPrefix (summary_of count (length file)) before.shown after.shown

    -- an object of so many functions is made in the output: the words are at no fault, nothing is read, and nothing is refused
    pub record IsMaking (before : State) (status : ℕ) (after : State) : Type 0 where
      pub words : status ≡ 3 → ⊥
      pub unread : status ≡ 4 → ⊥
      pub accepted : IsRefusal status → ⊥
      pub exact : IsSteady before.write_faults after.write_faults → IsSteady before.out_faults after.out_faults → (status ≡ 7) ⊎ (status ≡ 0)
      pub made : status ≡ 0 → IsMade before after
      pub partly : status ≡ 5 → IsPartlyMade before after
      pub listing : status ≡ 6 → IsPartlyTold before after
      pub reads : after.read_faults ≡ before.read_faults
