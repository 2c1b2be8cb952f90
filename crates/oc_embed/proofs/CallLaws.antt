-- The first refusal of an input by its length, and what a call says by its cause.
use Rattle.std.proofs.Common.{◌≡◌, ℕ, ◌<◌, inl, List, length, Option, Some, refl, ap}
use Rattle.oc_base.specs.declared.fault.Fault.{Fault}
use Rattle.oc_linking.specs.Numbers.{or_else}
use Rattle.oc_runs.specs.Refusals.{length_refusal, too_long}
use Rattle.oc_runs.proofs.Refused.{long_refused}
use Rattle.oc_embed.specs.{declared.refusal.Refusal.{Refusal}, declared.room.Left.{Left}, Refusals.{IsTold, said_of}, Rooms.{Answers, IsLeft}, Said.{Said, told}}

-- an input that is too long is refused for that, whatever else is asked of it
pub long_first : (rest : List ℕ → Option Fault) (b : List ℕ) → 67108864 < length b → or_else (length_refusal b) (rest b) ≡ Some too_long
long_first rest b long = ap (λ o. or_else o (rest b)) (long_refused b long)

-- what is left of a line is left of the text that it is
pub left_as : (status status' : ℕ) (line line' output text : List ℕ) (left : Left) (output_now text_now : List ℕ) → status ≡ status' → line ≡ line'
    → IsLeft (told status line) output text left output_now text_now → IsLeft (told status' line') output text left output_now text_now
left_as status status' line line' output text left output_now text_now at same is = rw (← at, ← same) is

-- a cause is told
pub tells : (cause : Refusal) (output text : List ℕ) (left : Left) (output_now text_now : List ℕ) → IsLeft (said_of cause) output text left output_now text_now
    → Answers (IsTold cause) output text left output_now text_now
tells cause output text left output_now text_now is = record { said = said_of cause; says = inl refl; leaves = is }

-- what a call says is said in other words
pub answers_weaker : (P Q : Said → Type 0) (output text : List ℕ) (left : Left) (output_now text_now : List ℕ) → ((said : Said) → P said → Q said)
    → Answers P output text left output_now text_now → Answers Q output text left output_now text_now
answers_weaker P Q output text left output_now text_now weaker is = record { said = is.said; says = weaker is.said is.says; leaves = is.leaves }
