-- `fill` meets its contract: the sets and numbers of the actions below i are in the tables.
use Rattle.std.proofs.Common.{◌≡◌, ℕ, ◌<◌, length}
use Rattle.job.specs.Job.{job_in}
use Rattle.tables.specs.Filled.{SetsFilled, NumbersFilled}
use Rattle.tables.proofs.fill.fill.Given as goal

abbrev pub invariant-loop-i : goal.invariant-loop-i
invariant-loop-i l =
    (length l.sets ≡ 384) × (length l.numbers ≡ 1220) × ((k : ℕ) → k < l.i → SetsFilled (job_in l.job) l.sets k)
    × ((k : ℕ) → k < l.i → NumbersFilled (job_in l.job) l.numbers k)
