-- What is reported of words that are no job (our profile).
use Rattle.std.specs.Prelude.{◌≡◌, ℕ, ◌⊎◌, List, Option}
use Rattle.oc_runs.specs.Texts.{Tells, memory_text}

-- the status and the text for words that are no job; where the text finds no memory, they are those of lack of memory
abbrev pub IsWordReported : List ℕ → Option (List ℕ) → Option (List ℕ) → ℕ → ℕ → ℕ → Type 0
IsWordReported text before now faults_before faults_now status =
    ((status ≡ 3) × Tells text before now faults_before faults_now) ⊎ ((status ≡ 7) × Tells memory_text before now faults_before faults_now)
