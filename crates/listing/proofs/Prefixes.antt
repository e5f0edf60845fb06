-- The first steps of a plan in rising order keep the rules by themselves, for no goal.
-- Assumes nothing.
use Prim.Native.Nat.{ℕ, ◌<◌, ◌≤◌}
use mathlib.Core.Path.{◌≡◌, sym, ap, ◌∙◌}
use mathlib.Core.Bool.{true}
use mathlib.Core.List.{List, ◌++◌}
use native.Mathlib.Omega.{arith}
use lib.ListN.{length}
use Rattle.facts.specs.FactSet.{has}
use Rattle.facts.proofs.Membership.{has_zero}
use Rattle.job.specs.Job.{Job}
use Rattle.timeline.specs.Step.{Step, strictly_rising}
use Rattle.timeline.specs.Places.{Place, EachStep}
use Rattle.timeline.specs.Keeps.{Keeps, OfJob, PlanOf}
use Rattle.timeline.proofs.Tests.{not_both}
use Rattle.timeline.proofs.Places.{place_append, place_after}
use Rattle.timeline.proofs.Parts.{part_left, part_each, part_in_use, part_used_up, part_no_clash}
use Rattle.listing.proofs.RisingParts.{not_after_start, rising_after}
use Rattle.listing.proofs.NextStep.{held_by_first_steps}

module _ (J : Job) (T goal : ℕ) (k N : List Step) (plan : PlanOf J T goal (k ++ N))
    (rising : strictly_rising (k ++ N) ≡ true) where
  keeps : Keeps J T goal (k ++ N)
  keeps = plan.keeps

  -- the others stop after each of the first steps starts
  stop_later : (x : Step) (Q : List Step) → Place x Q k → EachStep (λ y. x.start < y.stop) N
  stop_later x Q i y R j =
      let after = not_after_start x y (rising_after k N rising y R j x Q i) in
      let lasts = keeps.lasting y (k ++ R) (place_after k j) in
      omega arith

  keeps_of_first_steps : Keeps J T 0 k
  keeps_of_first_steps =
      let part = part_left k N in
      record {
        lasting = part_each (λ x. x.start < x.stop) part keeps.lasting;
        in_time = part_each (λ x. x.stop ≤ T) part keeps.in_time;
        no_clash = part_no_clash part keeps.no_clash;
        pools = λ pool t l. let a = keeps.pools pool t l in let b = part_in_use J pool t part in omega arith;
        stores = λ store l. let a = keeps.stores store l in let b = part_used_up J store part in omega arith;
        needs_hold = λ x Q i n h.
            let same = held_by_first_steps J.start x.start k N (stop_later x Q i) in
            sym (ap (λ (set : ℕ). has set n) same) ∙ keeps.needs_hold x (Q ++ N) (place_append N i) n h;
        goal_holds = λ n g. not_both g (has_zero n);
      }

  pub plan_of_first_steps : PlanOf J T 0 k
  plan_of_first_steps =
      record {
        keeps = keeps_of_first_steps;
        own = part_each (OfJob J) (part_left k N) plan.own;
        known = part_each (λ x. x.number < length J.actions) (part_left k N) plan.known;
      }
