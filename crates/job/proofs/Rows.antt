-- The table of a job value, with its counts for the lengths of lists.
-- Assumes nothing.
use mathlib.Core.Path.{◌≡◌, ap, sym, ◌∙◌}
use mathlib.Core.Bool.{false, ◌||◌}
use mathlib.Core.List.{List, ◌∷◌}
use Rattle.lists.specs.Lists.{any}
use Rattle.lists.proofs.Tabulate.{length_tabulate}
use Rattle.lists.proofs.Any.{any_append}
use Rattle.lists.proofs.Bools.{or_left, or_right}
use borrow.Author.Tests.{ltb-false}
use Rattle.facts.specs.FactSet.{foreign}
use Rattle.job.specs.declared.Job as held
use Rattle.job.specs.declared.refusal.Refusal.TheVariants.{BodySizes, FactCount, Deadline, ForeignFact}
use Rattle.job.specs.declared.refusal.Refusal.TheVariants.{Availability, HandoverOver, ReserveOver}
use Rattle.job.specs.declared.Counts.{Counts}
use Rattle.job.specs.Job.{Job, job_in, Fits}
use Rattle.job.specs.Refusal.{pass}
use Rattle.job.specs.Refusal.{Row, ◌when◌, first}
use Rattle.job.proofs.Table.{first_pass, pass_of_append}
use Rattle.job.specs.Valid.{over, action_rows, limit_rows, job_rows}

abbrev pub value_rows : held.Job → List Row
value_rows j =
    BodySizes when (over 4 j.counts.pools || over 4 j.counts.stores || over 64 j.counts.actions)
    ∷ FactCount when over 64 j.facts
    ∷ Deadline when over 1440 j.deadline
    ∷ ReserveOver when over 50 (job_in j).reserve
    ∷ ForeignFact when (foreign j.facts j.start || foreign j.facts j.goal)
    ∷ Availability when (any (over 1000000) (job_in j).pools || any (over 1000000) (job_in j).stores)
    ∷ HandoverOver when any (over 30) (job_in j).handovers
    ∷ action_rows (job_in j)

pub rows_of_value : (j : held.Job) → limit_rows (job_in j) ≡ value_rows j
unfolding limit_rows
rows_of_value j = simp (length_tabulate, any_append)

-- what test 3 says of the counts
pub fits_of_counts : (n : Counts) → (over 4 n.pools || over 4 n.stores || over 64 n.actions) ≡ false → Fits n
fits_of_counts n h =
    let a = or_left (over 4 n.pools || over 4 n.stores) (over 64 n.actions) h in (
      ltb-false 4 n.pools (or_left (over 4 n.pools) (over 4 n.stores) a),
      ltb-false 4 n.stores (or_right (over 4 n.pools) (over 4 n.stores) a),
      ltb-false 64 n.actions (or_right (over 4 n.pools || over 4 n.stores) (over 64 n.actions) h),
    )

pub fits_of_limits : (j : held.Job) → first (limit_rows (job_in j)) ≡ pass → Fits j.counts
fits_of_limits j h = fits_of_counts j.counts (first_pass BodySizes _ _ (sym (ap first (rows_of_value j)) ∙ h)).0

-- a job that passes all its tests is within its limits
pub limits_of_pass : (J : Job) → first (job_rows J) ≡ pass → first (limit_rows J) ≡ pass
unfolding job_rows
limits_of_pass J h = (pass_of_append (limit_rows J) _ h).0

pub fits_of_pass : (j : held.Job) → first (job_rows (job_in j)) ≡ pass → Fits j.counts
fits_of_pass j h = fits_of_limits j (limits_of_pass (job_in j) h)
