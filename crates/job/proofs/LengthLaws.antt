-- How long the actions of a value last is what its job says.
-- Assumes nothing.
use Prim.Native.Nat.{ℕ, ◌<◌}
use mathlib.Core.Path.{◌≡◌, ap, sym}
use lib.ListN.{get_or}
use Rattle.lists.specs.Lists.{tabulate, firsts}
use Rattle.lists.proofs.Tabulate.{get_d_tabulate}
use Rattle.job.specs.declared.Form.{Form}
use Rattle.job.specs.declared.Form.TheVariants.{Four, Five, Six}
use Rattle.job.specs.declared.Job as held
use Rattle.job.specs.Job.{Action, no_action, shortest_count, beyond, action_at, job_in}
use Rattle.job.specs.Lengths.{longest_of, shortest_of, shortest_by}

module _ (job : held.Job) (i : ℕ) (known : i < job.counts.actions) where
  pub longest_is : (get_or job.actions i beyond).duration ≡ longest_of (job_in job) i
  longest_is = sym (ap (λ (a : Action). a.duration) (get_d_tabulate job.counts.actions (action_at job) i no_action known))

  by_form : (form : Form) → shortest_by form (get_or job.shortest i 0) (get_or job.actions i beyond).duration
      ≡ get_or (firsts (shortest_count form job.counts.actions) 0 job.shortest) i (longest_of (job_in job) i)
  unfolding tabulate
  by_form Four = longest_is
  by_form Five = longest_is
  by_form Six = sym (get_d_tabulate job.counts.actions (λ k. get_or job.shortest k 0) i _ known)

  pub shortest_is : shortest_by job.form (get_or job.shortest i 0) (get_or job.actions i beyond).duration
      ≡ shortest_of (job_in job) i
  unfolding shortest_of
  shortest_is = by_form job.form
