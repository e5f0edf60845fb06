-- Dead ends by landmarks: what must hold at a minute takes more than is left of the stores, of the number of steps, or
-- of the pools' minutes.
-- Assumes nothing.
use Prim.Native.Nat.{ℕ, zero, suc, ◌+◌, ◌*◌, ◌-◌, ◌<◌, ◌≤◌}
use mathlib.Core.Path.{◌≡◌, ap}
use mathlib.Core.Bool.{true, false}
use mathlib.Core.Logic.{⊎_elim}
use mathlib.Core.List.{List, ◌++◌, append_assoc}
use native.Mathlib.Nat.{mul-add, mul-le-mul_left, zero-mul}
use native.Mathlib.Omega.{arith}
use lib.ListN.{length, get_or}
use Rattle.facts.specs.FactSet.{has, difference, Subset}
use Rattle.facts.proofs.SetLaws.{in_difference_parts}
use Rattle.job.specs.Resources.{store_amount, store_cap}
use Rattle.job.specs.Job.{Action, Job}
use Rattle.timeline.specs.Step.{Step, total}
use Rattle.timeline.specs.From.{From, IsNew}
use Rattle.timeline.specs.Timeline.{held, store_use, used_up}
use Rattle.timeline.specs.Places.{EachStep}
use Rattle.timeline.specs.Keeps.{PlanOf}
use Rattle.timeline.proofs.Places.{append_cases, place_append, total_append, total_mono}
use Rattle.timeline.proofs.NewSteps.{new_both_from_minute}
use Rattle.times.proofs.PlanSteps.{own_action, own_stop}
use Rattle.regression.specs.Tests.{must_hold}
use Rattle.regression.specs.DeadEnd.{NormalPlan, Until, Dead}
use Rattle.regression.proofs.TailTests.{must_hold_holds}
use Rattle.landmarks.specs.Landmarks.{marks_of, sum_over, Shares, minutes_in}
use Rattle.landmarks.specs.Bounds.{AddedByNew}
use Rattle.landmarks.specs.Openings.{OpensAt}
use Rattle.landmarks.proofs.AddedOnTheWay.{AddedIn}
use Rattle.landmarks.proofs.PoolMinutes.{minutes_within}
use Rattle.landmarks.proofs.Sums.{shares_of_added, total_times, total_of_ones}

-- what is added by a new step that stops by t is added by a step of E, where the chosen steps C stop later
pub added_in_rest : (J : Job) (b : From) (goal T t : ℕ) (C K : List Step) → EachStep (λ x. t < x.stop) C
    → EachStep (IsNew b) C → (given hand n : ℕ) (marks : ℕ → ℕ) → AddedByNew J b.minute K given hand n marks
    → (E : List Step) → EachStep (Until b t) E → PlanOf J T goal (E ++ (C ++ K)) → (set : ℕ) → b.minute ≤ t
    → Subset set (held J.start (E ++ (C ++ K)) t) → (p : ℕ)
    → has (difference (marks_of marks n set) given) p ≡ true → AddedIn E t p × (has hand p ≡ false)
added_in_rest J b goal T t C K later new given hand n marks added E until plan set after holds p h =
    let parts = in_difference_parts (marks_of marks n set) given p h in
    let a = added T goal (E ++ C) (new_both_from_minute b E C (λ x Q i. (until x Q i).0) new) (rw append_assoc plan)
    set t after (rw append_assoc holds) p parts.0 parts.1 in
    let stops = a.0.3 in (
      ⊎_elim
          (λ r. record { by = a.0.0; rest = r.0; place = r.1; stops = a.0.3; adds = a.0.4 })
          (λ r. let l = later a.0.0 r.0 r.1 in absurd (omega arith))
          (append_cases E C a.0.2),
      a.1,
    )

module _ (J : Job) (b : From) (goal T t : ℕ) (after : b.minute ≤ t) (in_time : t ≤ T) (C K : List Step)
    (later : EachStep (λ x. t < x.stop) C) (new : EachStep (IsNew b) C) (given hand n : ℕ)
    (marks : ℕ → ℕ) (added : AddedByNew J b.minute K given hand n marks) (share : ℕ → ℕ) where
  abbrev L : List Step
  L = C ++ K

  -- what is still to be added
  abbrev pub missing : ℕ
  missing = difference (marks_of marks n (must_hold goal T L t)) given

  -- the steps still to be chosen weigh at least the shares of what is missing
  shares_within : (weight : Action → ℕ) → Shares J hand share n weight → (E : List Step) → EachStep (Until b t) E
      → NormalPlan J b goal T (E ++ L) → sum_over share n missing ≤ total (λ x. weight x.action) E
  shares_within weight shares E until normal =
      shares_of_added share J hand n weight shares E t
      (λ x Q i.
      let in_plan = place_append L i in
      (normal.plan.known x _ in_plan, own_action J T goal (E ++ L) normal.plan in_plan))
      missing
      (added_in_rest J b goal T t C K later new given hand n marks added E until normal.plan _ after
      (must_hold_holds J goal T E L normal.plan.keeps t (λ x Q i. (until x Q i).2) t (omega arith) in_time))

  -- weights of a scale, beside what the chosen steps have
  exceeded : (scale cap used : ℕ) (weight : Action → ℕ) → Shares J hand share n (λ a. scale * weight a)
      → scale * cap < sum_over share n missing + scale * used
      → ((E : List Step) → EachStep (Until b t) E → NormalPlan J b goal T (E ++ L)
      → total (λ x. weight x.action) E + used ≤ cap)
      → Dead J b goal T (Until b t) L
  exceeded scale cap used weight shares exceeds within E until normal =
      let least = shares_within (λ a. scale * weight a) shares E until normal in
      let scaled = total_times scale (λ x. weight x.action) E in
      let both = mul-add scale (total (λ x. weight x.action) E) used in
      let most = mul-le-mul_left scale (within E until normal) in
      omega arith

  pub dead_when_store_short : (store : ℕ) → store < length J.stores → (scale : ℕ)
      → Shares J hand share n (λ a. scale * store_amount J store a)
      → scale * store_cap J store < sum_over share n missing + scale * used_up J store L → Dead J b goal T (Until b t) L
  dead_when_store_short store inside scale shares exceeds =
      exceeded scale (store_cap J store) (used_up J store L) (store_amount J store) shares exceeds
      (λ E until normal.
      let sum = total_append (store_use J store) E L in
      let within = normal.plan.keeps.stores store inside in
      omega arith)

  pub dead_when_steps_short : (scale : ℕ) → Shares J hand share n (λ a. scale * 1)
      → scale * 32 < sum_over share n missing + scale * length L → Dead J b goal T (Until b t) L
  dead_when_steps_short scale shares exceeds =
      exceeded scale 32 (length L) (λ a. 1) shares exceeds
      (λ E until normal.
      let ones = total_of_ones E in
      let sum = total_append (λ x. 1) E L in
      let all = total_of_ones (E ++ L) in
      let rest = total_of_ones L in
      let few = normal.few_steps in
      omega arith)

  -- the pool opens at minute m
  pub dead_when_pool_short : (pool : ℕ) → pool < length J.pools → (scale m : ℕ)
      → Shares J hand share n (λ a. scale * (get_or a.pools pool 0 * a.duration)) → OpensAt J b.minute K pool m
      → scale * (get_or J.pools pool 0 * (t - m))
      < sum_over share n missing + scale * total (λ x. get_or x.action.pools pool 0 * minutes_in m t x) L
      → Dead J b goal T (Until b t) L
  dead_when_pool_short pool inside scale m shares opens exceeds =
      exceeded scale (get_or J.pools pool 0 * (t - m)) (total used L) (λ a. get_or a.pools pool 0 * a.duration)
      shares exceeds
      (λ E until normal.
      let sum = minutes_within J pool m t (get_or J.pools pool 0) (E ++ L)
      (λ k. normal.plan.keeps.pools pool k inside) in
      let parts = total_append used E L in
      let late = opens T goal (E ++ C) (new_both_from_minute b E C (λ x Q i. (until x Q i).0) new)
      (rw append_assoc normal.plan) in
      let whole = total_mono (λ x. get_or x.action.pools pool 0 * x.action.duration) used E
      (λ x Q i.
      let in_plan = place_append L i in
      let stop = own_stop J T goal (E ++ L) normal.plan in_plan in
      let own = ap (λ (a : Action). a.duration) (own_action J T goal (E ++ L) normal.plan in_plan) in
      let by = (until x Q i).2 in
      none_or_within (get_or x.action.pools pool 0) x.action.duration (minutes_in m t x)
      (λ uses. let from = late x (Q ++ C) (place_append C i) uses in omega arith)) in
      omega arith)
    where
      -- what a step uses from m on and before t
      used : Step → ℕ
      used x = get_or x.action.pools pool 0 * minutes_in m t x

      none_or_within : (u d e : ℕ) → (0 < u → d ≤ e) → u * d ≤ u * e
      none_or_within zero d e h = omega (arith, zero-mul d)
      none_or_within (suc u) d e h = mul-le-mul_left (suc u) (h (omega arith))
