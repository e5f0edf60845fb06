-- What the writer asks of a slice.
-- Inner functions and laws alone cite it. Assumes nothing.
use Rattle.std.specs.Prelude.{ℕ, ◌≤◌, ◌≡◌}
use Rattle.job.specs.declared.Job as held
use Rattle.job.specs.Job.{job_in}
use Rattle.jobfile.specs.declared.Layout.{Layout}
use Rattle.jobfile.specs.declared.Places.{Places}
use Rattle.jobfile.specs.File.{bodies, layout_of, places_of}

-- the lengths and places of the bodies of the job's file, for which n bytes are enough
pub record Room (job : held.Job) (l : Layout) (at : Places) (n : ℕ) : Type 0 where
  pub lengths : l ≡ layout_of job.form (bodies (job_in job))
  pub places : at ≡ places_of l
  pub inside : at.end ≤ n
