-- The listed plans are the job's plans up to the least end, of at most 32 rising steps, each with a critical fact.
-- Assumes nothing.
use Prim.Native.Nat.{ℕ, ◌<◌, ◌≤◌}
use mathlib.Core.Path.{◌≡◌, sym, subst}
use mathlib.Core.Bool.{true}
use mathlib.Core.List.{List, []}
use native.Mathlib.Omega.{arith}
use lib.ListN.{length}
use Rattle.job.specs.Passed.{Passed}
use Rattle.timeline.specs.Places.{Place, here, there}
use Rattle.timeline.specs.Keeps.{Keeps, OfJob, PlanOf}
use Rattle.job.specs.Job.{Job}
use Rattle.timeline.specs.Step.{Step, before, strictly_rising, steps_in, plan_bytes}
use Rattle.timeline.specs.Timeline.{end}
use Rattle.timeline.specs.Accepted.{Accepted}
use Rattle.timeline.proofs.Places.{place_wider, each_wider, length_place}
use Rattle.timeline.proofs.Places.{largest_at_most}
use Rattle.timeline.proofs.AcceptedSteps.{accepted_steps}
use Rattle.timeline.proofs.Keeps.{accepted_of_keeps}
use Rattle.timeline.proofs.JobSteps.{steps_of_accepted, keeps_of_bytes}
use Rattle.timeline.proofs.PlanBytes.{bytes_of_steps, accepted_bytes_of_steps, few_steps_of_accepted}
use Rattle.timeline.proofs.Rising.{rising_rest, rising_before, rising_cons}
use Rattle.times.proofs.PlanSteps.{plan_of_accepted}
use Rattle.makespan.specs.Makespan.{LeastEnd}
use Rattle.makespan.proofs.LeastEnds.{ends_by_deadline, every_plan_counts}
use Rattle.listing.specs.Shortest.{ShortestEnd}
use Rattle.listing.specs.Listed.{Listed}
use Rattle.listing.proofs.CriticalExactly.{NoneSpare, AllCritical, critical_exactly}

-- a listed plan, by its steps: T is the least end
pub record ListedBy (J : Job) (goal T : ℕ) (P : List Step) : Type 0 where
  pub plan : PlanOf J T goal P
  pub all_critical : AllCritical J goal T P
  pub rising : strictly_rising P ≡ true
  pub few_steps : length P ≤ 32

-- with minute 0 every plan counts
pub shortest_of_least : (J : Job) (goal T : ℕ) → LeastEnd J goal 0 [] T → ShortestEnd J goal T
shortest_of_least J goal T l =
    let p = l.plan in
    record {
      plan = (p.0, p.1, p.3);
      least = λ bytes accepted. l.least bytes accepted (every_plan_counts J bytes);
    }

-- rising steps still rise without one of them
pub rising_without : {x : Step} {Q P : List Step} → Place x Q P → strictly_rising P ≡ true → strictly_rising Q ≡ true
rising_without {x} (here {Q}) h = rising_rest x Q h
rising_without (there {y} {Q} {P} i) h =
    rising_cons y Q (each_wider (λ z. before y z ≡ true) i (rising_before y P h))
    (rising_without i (rising_rest y P h))

module _ (J : Job) (goal T : ℕ) (passed : Passed J) (least : ShortestEnd J goal T) where
  pub least_by_deadline : T ≤ J.deadline
  least_by_deadline =
      let p = least.plan in let l = ends_by_deadline J goal p.0 p.1 in let e = p.2 in omega arith

  -- steps of the job that keep the rules up to T are an accepted plan
  accepted_plan : (P : List Step) → PlanOf J T goal P → strictly_rising P ≡ true → length P ≤ 32
      → Accepted J goal (plan_bytes P) × (steps_in J (plan_bytes P) ≡ P)
  accepted_plan P plan rising few =
      accepted_bytes_of_steps J goal P passed plan.own few
      (accepted_of_keeps J goal P T least_by_deadline plan.known rising plan.keeps).0

  pub listed_by_steps : (P : List Step) → Listed J goal P → ListedBy J goal T P
  listed_by_steps P listed =
      record {
        plan = plan;
        all_critical = (critical_exactly J goal T P plan.keeps).0 none_spare_lem;
        rising = rising;
        few_steps = few;
      }
    where
      by_least_end : end (steps_in J (plan_bytes P)) ≤ T
      by_least_end =
          let p = least.plan in
          let l = listed.least p.0 p.1 in
          let e = p.2 in
          subst (λ (Q : List Step). end Q ≤ T) (sym listed.in_bytes) (omega arith)

      plan : PlanOf J T goal P
      plan =
          subst (PlanOf J T goal) listed.in_bytes
          (plan_of_accepted J goal (plan_bytes P) T passed listed.accepted by_least_end)

      rising : strictly_rising P ≡ true
      rising =
          subst (λ (Q : List Step). strictly_rising Q ≡ true) listed.in_bytes
          (accepted_steps J goal _ (steps_of_accepted J goal (plan_bytes P) listed.accepted)).rising

      few : length P ≤ 32
      few =
          subst (λ (Q : List Step). length Q ≤ 32) listed.in_bytes
          (few_steps_of_accepted J goal (plan_bytes P) listed.accepted)

      none_spare_lem : NoneSpare J goal T P
      none_spare_lem x Q i keeps =
          let shorter = length_place i in
          listed.none_spare x Q i
          (accepted_plan Q
          (record {
            keeps = keeps;
            own = each_wider (OfJob J) i plan.own;
            known = each_wider (λ y. y.number < length J.actions) i plan.known;
          })
          (rising_without i rising) (omega (arith, few))).0

  -- steps of a plan of the job are read back from their bytes
  read_back : (P : List Step) → PlanOf J T goal P → {x : Step} {Q : List Step} → Place x Q P
      → steps_in J (plan_bytes Q) ≡ Q
  read_back P plan {x} {Q} i =
      let actions = passed.few_actions in
      let deadline = passed.deadline in
      let last = least_by_deadline in
      bytes_of_steps J Q (each_wider (OfJob J) i plan.own)
      (λ y R j.
      let w = place_wider i j in let a = plan.known y w.0 w.1 in omega arith)
      (λ y R j.
      let w = place_wider i j in
      let a = plan.keeps.lasting y w.0 w.1 in
      let b = plan.keeps.in_time y w.0 w.1 in
      omega arith)

  pub listed_of_steps : (P : List Step) → ListedBy J goal T P → Listed J goal P
  listed_of_steps P by =
      let plan = by.plan in
      let accepted = accepted_plan P plan by.rising by.few_steps in
      let in_time : end P ≤ T = largest_at_most (λ x. x.stop) T P plan.keeps.in_time in
      record {
        in_bytes = accepted.1;
        accepted = accepted.0;
        least = λ bytes other. let l = least.least bytes other in omega arith;
        none_spare = λ x Q i other.
            let same = read_back P plan i in
            let soon : end Q ≤ T
            = largest_at_most (λ y. y.stop) T Q (each_wider (λ y. y.stop ≤ T) i plan.keeps.in_time) in
            (critical_exactly J goal T P plan.keeps).1 by.all_critical x Q i
            (subst (Keeps J T goal) same
            (keeps_of_bytes J goal (plan_bytes Q) T passed other
            (subst (λ (R : List Step). end R ≤ T) (sym same) soon)));
      }
