-- The rest of a begun day is a day of its own: the same facts hold in it, and its plan keeps the rules.
-- Assumes nothing.
use Prim.Native.Nat.{ℕ, ◌+◌, ◌-◌, ◌<◌, ◌≤◌}
use mathlib.Core.Path.{◌≡◌, sym, ap, ◌∙◌}
use mathlib.Core.List.{List, ◌++◌}
use native.Mathlib.Nat.{le_refl}
use native.Mathlib.Omega.{arith}
use lib.ListN.{length}
use Rattle.facts.specs.FactSet.{Subset}
use Rattle.job.specs.Job.{Job}
use Rattle.timeline.specs.Step.{Step}
use Rattle.timeline.specs.Timeline.{held}
use Rattle.timeline.specs.Places.{EachStep}
use Rattle.timeline.specs.Keeps.{OfJob, Keeps, PlanOf}
use Rattle.timeline.proofs.Places.{place_append}
use Rattle.timeline.proofs.Persist.{keeps_needs_hold}
use Rattle.begun.specs.RestOfDay.{rest_of_job, rest_of_plan}
use Rattle.begun.proofs.Rests.{Rest, each_of_rest}
use Rattle.begun.proofs.WhatIsLeft.{number_before, rest_of_plan_lem}
use Rattle.begun.proofs.HeldInRest.{held_by_kept, held_in_rest}
use Rattle.begun.proofs.RulesInRest.{rest_no_clash, rest_in_use}

module _ (J : Job) (M T goal : ℕ) (N K : List Step) (plan : PlanOf J T goal (N ++ K))
    (new : EachStep (λ x. M ≤ x.start) N) (kept : EachStep (λ x. x.start < M) K) where
  rest : Rest (rest_of_job J M K) M (number_before J M K) (N ++ K) (rest_of_plan J M N K)
  rest = rest_of_plan_lem J M T goal N K plan new kept

  -- at minute t of the rest holds what holds at minute M + t of the begun day
  pub rest_holds_the_same : (t : ℕ)
      → held (rest_of_job J M K).start (rest_of_plan J M N K) t ≡ held J.start (N ++ K) (M + t)
  rest_holds_the_same t =
      ap (λ (s : ℕ). held s (rest_of_plan J M N K) t) (sym (held_by_kept J.start M K N runs M (le_refl M)))
      ∙ held_in_rest rest J.start t
    where
      runs : EachStep (λ x. M < x.stop) N
      runs x Q i =
          let after = new x Q i in
          let lasts = plan.keeps.lasting x _ (place_append K i) in
          omega arith

  rest_keeps : M ≤ T → Keeps (rest_of_job J M K) (T - M) goal (rest_of_plan J M N K)
  rest_keeps l =
      record {
        lasting = each_of_rest (λ x. x.start < x.stop) rest
            (λ x Q i n d k. let runs = k.runs in let lasts = plan.keeps.lasting x Q i in omega arith);
        in_time = each_of_rest (λ x. x.stop ≤ T - M) rest
            (λ x Q i n d k. let by = plan.keeps.in_time x Q i in omega arith);
        no_clash = rest_no_clash rest plan.keeps.no_clash;
        pools = λ pool t k.
            let less = rest_in_use J M K pool t rest in
            let within = plan.keeps.pools pool (M + t) k in
            omega arith;
        stores = λ store k. absurd (omega arith);
        needs_hold = each_of_rest
            (λ x. Subset x.action.needs (held (rest_of_job J M K).start (rest_of_plan J M N K) x.start)) rest
            (λ x Q i n d k f h.
            let runs = k.runs in
            let lasts = plan.keeps.lasting x Q i in
            rw (rest_holds_the_same (x.start - M))
            (keeps_needs_hold J T goal (N ++ K) plan.keeps x Q i (M + (x.start - M)) (omega arith) (omega arith) f
            h));
        goal_holds = λ f h.
            let end : M + (T - M) ≡ T = omega arith in
            rw (rest_holds_the_same (T - M), end) (plan.keeps.goal_holds f h);
      }

  pub rest_is_a_day : M ≤ T → PlanOf (rest_of_job J M K) (T - M) goal (rest_of_plan J M N K)
  rest_is_a_day l =
      record {
        keeps = rest_keeps l;
        own = each_of_rest (OfJob (rest_of_job J M K)) rest (λ x Q i n d k. k.own);
        known = each_of_rest (λ x. x.number < length (rest_of_job J M K).actions) rest (λ x Q i n d k. k.known);
      }
