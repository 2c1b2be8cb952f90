-- What a conversion does, by its status (our profile).
use Rattle.std.specs.{Prelude.{◌≡◌, ℕ, List, Option, Some, None}, Option.{option_map, IsSomeAnd}}
use Rattle.oc_base.specs.declared.format.Format.{Format}
use Rattle.oc_names.specs.Wishes.{Wishes}
use Rattle.oc_outside.specs.{Causes.{IsSteady}, Held.{Held, file_of, with_file, HasPart}}
use Rattle.oc_convert.specs.Dispatched.{IsDispatched}
use Rattle.oc_built.specs.Built.{built}
use Rattle.oc_runs.specs.{States.{State}, Refusals.{HasRefusal, IsExact, IsJudged}}
use Rattle.objconv.specs.Refusals.{conversion_refusal}

module _ (to : Format) (wishes : Wishes) (input : List ℕ) where
  -- c is the output for the input: where contracts see the files, the input is held and is not refused, c is the file that the writer of the target has for
  -- its object, edited and fitted, and c links as the edited input does
  pub record IsOutput (files : Option Held) (c : List ℕ) : Type 0 where
    pub accepted : HasRefusal (conversion_refusal wishes to) input files None
    pub dispatched : (m : Held) → files ≡ Some m → IsSomeAnd (file_of input m) (λ b. IsDispatched built wishes to b c)

  module _ (output : List ℕ) where
    -- the output holds the output for the input, and all other files stay
    pub record IsWritten (before now : Option Held) : Type 0 where
      pub file : List ℕ
      pub planned : IsOutput before file
      pub files : now ≡ option_map (with_file output file) before

    -- the files are as they were, or the output holds a prefix of the output for the input and all others stay
    pub record IsPartlyWritten (before now : Option Held) : Type 0 where
      pub file : List ℕ
      pub planned : IsOutput before file
      pub files : HasPart output file before now

    -- a conversion of the input to the output
    pub record IsConversion (before : State) (status : ℕ) (after : State) : Type 0 where
      pub judged : IsJudged (conversion_refusal wishes to) input before status after
      pub exact : IsSteady before.read_faults after.read_faults → IsSteady before.write_faults after.write_faults → IsExact (conversion_refusal wishes to) input before.held status
      pub written : status ≡ 0 → IsWritten before.held after.held
      pub partly : status ≡ 5 → IsPartlyWritten before.held after.held
      pub listing : status ≡ 6 → ⊥
      pub shown : after.shown ≡ before.shown
      pub outs : after.out_faults ≡ before.out_faults
