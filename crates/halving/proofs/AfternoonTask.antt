-- The afternoon as a task of the search: the job without its reserve passes its tests, and the task fits it.
-- Assumes nothing.
use Prim.Native.Nat.{ℕ, ◌<◌}
use mathlib.Core.Path.{◌≡◌, refl, sym, ap, subst, ◌∙◌}
use mathlib.Core.Bool.{false}
use mathlib.Core.List.{List, []}
use native.Mathlib.Omega.{arith}
use lib.ListN.{length, get_or}
use borrow.Author.Tests.{ltb-false, le-ltb}
use Rattle.lists.specs.Lists.{any_below, tabulate}
use Rattle.lists.proofs.Any.{any_none, none_any}
use Rattle.lists.proofs.Below.{below_none, none_below}
use Rattle.lists.proofs.Bools.{or_left, or_right}
use Rattle.lists.proofs.Tabulate.{each_map, length_tabulate, get_d_tabulate, tabulate_same}
use Rattle.job.specs.declared.Job as held
use Rattle.job.specs.declared.refusal.Refusal.TheVariants.{UseBeyond}
use Rattle.job.specs.Refusal.{pass}
use Rattle.job.specs.Job.{Action, Job, job_in}
use Rattle.job.specs.Lengths.{shortest_of}
use Rattle.job.specs.Refusal.{first}
use Rattle.job.specs.Resources.{store_amount, store_cap}
use Rattle.job.specs.Resumed.{resumed, without_reserve, unreserved_value}
use Rattle.job.specs.Valid.{over, action_rows, limit_rows, uses_beyond, job_rows}
use Rattle.job.proofs.Passed.{within_limits}
use Rattle.job.proofs.Resuming.{job_in_unreserved}
use Rattle.job.proofs.Rows.{limits_of_pass}
use Rattle.job.proofs.Table.{first_next, first_pass, first_none, first_append_pass, pass_of_append}
use Rattle.timeline.specs.declared.Plan.{Plan}
use Rattle.timeline.specs.Timeline.{end, held}
use Rattle.timeline.specs.Places.{EachStep}
use Rattle.timeline.specs.Keeps.{OfJob}
use Rattle.timeline.specs.Value.{steps_of}
use Rattle.timeline.proofs.Tests.{or_neither}
use Rattle.solver.specs.declared.Task.{Task}
use Rattle.solver.specs.Task.{day_of, TaskFits}
use Rattle.halving.specs.Afternoon.{left_of, afternoon}
use Rattle.halving.specs.Inner.{LeftInStores, whole_from, LeavesTask}
use Rattle.halving.proofs.Afternoons.{allowed_part, allowed_whole, afternoon_limits}

-- ---- a job without its reserve
-- an action that fits the allowed totals fits what the stores have
fits_still : (J : Job) (a : Action) → uses_beyond J a ≡ false → uses_beyond (without_reserve J) a ≡ false
unfolding uses_beyond store_cap store_amount
fits_still J a h =
    let pools = any_below (length J.pools) (λ pool. over (get_or J.pools pool 0) (get_or a.pools pool 0)) in
    or_neither (or_left pools _ h)
    (none_below (length J.stores) _
    (λ store l.
    let fits = ltb-false (store_cap J store) (store_amount J store a)
    (below_none (length J.stores) _ (or_right pools _ h) store l) in
    let part = allowed_part J.rule J.reserve (get_or J.stores store 0) in
    let whole = allowed_whole J.rule (get_or J.stores store 0) in
    le-ltb (store_cap (without_reserve J) store) (store_amount J store a) (omega arith)))

limits_still : (J : Job) → first (limit_rows J) ≡ pass → first (limit_rows (without_reserve J)) ≡ pass
unfolding limit_rows action_rows shortest_of
limits_still J h =
    let t3 = first_pass _ _ _ h in
    let t4 = first_pass _ _ _ t3.1 in
    let t5 = first_pass _ _ _ t4.1 in
    let t31 = first_pass _ _ _ t5.1 in
    first_next _ _ _ t3.0
    ∙ first_next _ _ _ t4.0
    ∙ first_next _ _ _ t5.0
    ∙ first_next _ _ _ refl ∙ t31.1

passes_without_reserve : (J : Job) → first (job_rows J) ≡ pass → first (job_rows (without_reserve J)) ≡ pass
unfolding job_rows
passes_without_reserve J h =
    let rows = pass_of_append (limit_rows J) _ h in
    let all = (first_pass UseBeyond _ [] rows.1).0 in
    first_append_pass (limit_rows (without_reserve J)) _ (limits_still J rows.0)
    ∙ first_next UseBeyond _ []
    (none_any (uses_beyond (without_reserve J)) J.actions
    (each_map (λ a e. fits_still J a e) J.actions (any_none (uses_beyond J) J.actions all)))
    ∙ first_none

pub valid_without_reserve : (job : held.Job) → first (job_rows (job_in job)) ≡ pass
    → first (job_rows (job_in (unreserved_value job))) ≡ pass
valid_without_reserve job h =
    subst (λ (J : Job). first (job_rows J) ≡ pass) (sym (job_in_unreserved job)) (passes_without_reserve (job_in job) h)

-- ---- the day of the task
-- the job of the afternoon, with these stores
abbrev with_stores : Job → ℕ → List ℕ → Job
with_stores J start stores =
    record {
      facts = J.facts;
      deadline = J.deadline;
      start = start;
      goal = J.goal;
      form = J.form;
      rule = J.rule;
      reserve = 0;
      pools = J.pools;
      handovers = J.handovers;
      stores = stores;
      shortest = J.shortest;
      actions = J.actions;
    }

pub day_of_afternoon : (job : held.Job) (plan : Plan) (task : Task)
    → task.start ≡ held job.start (steps_of plan) (end (steps_of plan))
    → LeftInStores job plan job.counts.stores task.stocks
    → day_of (unreserved_value job) task ≡ afternoon (job_in job) (steps_of plan)
day_of_afternoon job plan task start left =
    let J = job_in job in
    let P = steps_of plan in
    let n = length J.stores in
    let count : n ≡ job.counts.stores = length_tabulate job.counts.stores _ in
    ap (λ (K : Job). resumed K task.start task.stocks) (job_in_unreserved job)
    ∙ ap (λ (s : ℕ). with_stores J s (tabulate n (λ k. get_or task.stocks k 0))) start
    ∙ ap (with_stores J (held job.start P (end P)))
    (tabulate_same n _ _
    (λ k l. left k (omega arith) ∙ sym (get_d_tabulate n (left_of J P) k 0 l)))

-- ---- the task fits
pub afternoon_fits : (job : held.Job) (plan : Plan) (task : Task) → LeavesTask job plan task
    → first (job_rows (job_in job)) ≡ pass → EachStep (OfJob (job_in job)) (steps_of plan)
    → EachStep (λ x. x.number < length (job_in job).actions) (steps_of plan)
    → TaskFits (day_of (unreserved_value job) task) task
unfolding tabulate
afternoon_fits job plan task leaves valid own known =
    let J = job_in job in
    let K = afternoon J (steps_of plan) in
    let fits : TaskFits K (whole_from task.start task.stocks job.goal)
    = record {
      passes = afternoon_limits J (steps_of plan) (limits_of_pass J valid) own known;
      goal = (within_limits J (limits_of_pass J valid)).goal.within;
      known = record { few = omega arith; numbers = refl; starts = refl; known = λ k l. absurd (omega arith) };
      early = λ k l. absurd (omega arith);
      rising = refl;
      minute = omega arith;
    } in
    subst (λ (D : Job). TaskFits D task) (sym leaves.day)
    (subst (λ (t : Task). TaskFits K t) (sym leaves.whole) fits)
