-- The definitions of a list and of a line, at texts that the command's description speaks of.
use Rattle.std.proofs.Common.{◌≡◌, [], ◌∷◌, refl}
use Rattle.std.specs.{Prelude.{codes}, Fmt.{digits}}
use Rattle.oc_batch.specs.{Lists.{jobs_in}, Runs.{batch_status}, Texts.{job_line}}

jobs_in-none : jobs_in [] ≡ []
unfolding jobs_in
jobs_in-none = refl

jobs_in-empty_lines : jobs_in (codes "\n \n   \n") ≡ []
unfolding jobs_in
jobs_in-empty_lines = refl

jobs_in-blanks : jobs_in (codes "-ds\n\n  -ds   a  ") ≡ (codes "-ds" ∷ []) ∷ (codes "-ds" ∷ codes "a" ∷ []) ∷ []
unfolding jobs_in
jobs_in-blanks = refl

-- a tab and a carriage return part nothing
jobs_in-tab : jobs_in (codes "-ds\ta\r\n") ≡ (codes "-ds\ta\r" ∷ []) ∷ []
unfolding jobs_in
jobs_in-tab = refl

job_line-12 : job_line 12 0 ≡ codes "job 12: 0\n"
unfolding job_line digits
job_line-12 = refl

batch_status-bad_job : batch_status (0 ∷ 3 ∷ 0 ∷ []) ≡ 10
batch_status-bad_job = refl

batch_status-good_jobs : batch_status (0 ∷ 0 ∷ []) ≡ 0
batch_status-good_jobs = refl
