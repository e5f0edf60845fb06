-- The filled tables of a job within its limits, and its frame, describe it.
-- Assumes nothing.
use Prim.Native.Nat.{ℕ, ◌<◌, ◌≤◌}
use mathlib.Core.Path.{◌≡◌, refl, sym, ap}
use mathlib.Core.List.{List}
use native.Mathlib.Omega.{arith}
use native.Mathlib.Decide.{dec_lt}
use lib.ListN.{length, get_or, get_or-eq_default}
use Rattle.lists.proofs.Tabulate.{length_tabulate, get_d_tabulate, each_at}
use Rattle.job.proofs.ResourceLaws.{small_charge, allowed_is}
use Rattle.job.proofs.Rows.{fits_of_limits}
use Rattle.times.specs.Earliest.{action_of}
use Rattle.job.specs.declared.Job as held
use Rattle.job.specs.Refusal.{pass}
use Rattle.job.specs.Job.{Action, job_in, action_at, beyond, no_action}
use Rattle.job.specs.Resources.{store_amount, HandoversOf}
use Rattle.job.specs.Refusal.{first}
use Rattle.job.specs.Valid.{limit_rows}
use Rattle.job.specs.Passed.{Amounts, PassedAction}
use Rattle.job.proofs.Passed.{within_limits}
use Rattle.tables.specs.Tables.{Describes, DescribesAction}
use Rattle.tables.specs.declared.Steps.{Steps}
use Rattle.tables.specs.Filled.{Filled, frame_of}
use Rattle.tables.proofs.FillLaws.{action_of_value}

-- the durations within the counts are bytes
abbrev pub ByteDurations : held.Job → Type 0
ByteDurations j = (i : ℕ) → i < j.counts.actions → (get_or j.actions i beyond).duration < 256

module _ (job : held.Job) (sets numbers : List ℕ) (filled : Filled job sets numbers) where
  pub byte_durations : ByteDurations job
  byte_durations i l =
      let byte = (filled.each_numbers i l).byte in
      let same = ap (λ (x : Action). x.duration) (action_of_value job i l) in
      omega arith

  module _ (passes : first (limit_rows (job_in job)) ≡ pass) where
    -- what an action that passes its tests uses up of a store
    small_amount : (store : ℕ) (a : Action) → a.duration ≤ 255 → PassedAction job.facts a
        → store_amount (job_in job) store a < 4294967296
    unfolding store_amount
    small_amount store a byte tested =
        let amount = small_at a.stores tested.stores store in
        let small = small_charge job.rule a.duration (get_or a.stores store 0) byte amount in
        omega arith
      where
        small_at : (xs : List ℕ) → Amounts xs → (k : ℕ) → get_or xs k 0 ≤ 1000000
        small_at xs each k =
            elim (dec_lt k (length xs)) [
              | yes l ↦ each_at (λ x. x ≤ 1000000) xs 0 each k l
              | no l ↦ let none : get_or xs k 0 ≡ 0 = get_or-eq_default xs 0 (omega arith) in omega arith
            ]

    describes_action : (i : ℕ) → i < job.counts.actions → DescribesAction (job_in job) sets numbers i
    describes_action i l =
        let s = filled.each_sets i l in
        let n = filled.each_numbers i l in
        let known = length_tabulate job.counts.actions (action_at job) in
        let all = (within_limits (job_in job) passes).actions in
        let tested = each_at (PassedAction job.facts) (job_in job).actions no_action all i (omega arith) in
        record {
          needs = s.needs;
          adds = s.adds;
          deletes = s.deletes;
          clash = s.clash;
          duration = n.duration;
          positive = tested.duration;
          byte = n.byte;
          pools = n.pools;
          stores = λ store known.
              n.stores store known (small_amount store (action_of (job_in job) i) n.byte tested);
        }

    pub describes : (goal from : ℕ) (kept : Steps) (handovers : List ℕ) → HandoversOf (job_in job) handovers
        → Describes (job_in job) sets numbers (frame_of job goal from kept handovers)
    describes goal from kept handovers same =
        record {
          facts = refl;
          actions = length_tabulate job.counts.actions (action_at job);
          pools = length_tabulate job.counts.pools (λ k. get_or job.pools k 0);
          stores = length_tabulate job.counts.stores (λ k. get_or job.stores k 0);
          available = λ k l. sym (get_d_tabulate job.counts.pools (λ m. get_or job.pools m 0) k 0 l);
          stocks = λ k l. let few = (fits_of_limits job passes).1 in allowed_is job k l (omega arith);
          handovers = same;
          in_time = omega arith;
          each = describes_action;
        }
