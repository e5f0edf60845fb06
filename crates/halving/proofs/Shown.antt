-- Small days in two halves, computed from the definitions.
-- Assumes nothing.
use Rattle.job.specs.declared.refusal.Refusal.{Refusal}
use Rattle.std.specs.Prelude.{Result, Ok, Err}
use Prim.Native.Nat.{ℕ, ◌<◌, ◌≤◌}
use mathlib.Core.Path.{◌≡◌, refl, ap, ◌∙◌}
use mathlib.Core.Bool.{Bool, true, false}
use mathlib.Core.Logic.{⊎_elim}
use mathlib.Core.List.{List, [], ◌∷◌}
use native.Mathlib.Omega.{arith}
use lib.ListN.{length, replicate}
use borrow.Author.Tests.{le-ltb}
use Rattle.lists.specs.Lists.{tabulate, any}
use Rattle.lists.proofs.Bools.{and_right}
use Rattle.facts.specs.FactSet.{has, union, difference, subset, meets, foreign}
use Rattle.encoding.specs.Bytes.{from_bytes, to_bytes, overwrite}
use Rattle.job.specs.Job.{Job}
use Rattle.job.specs.Lengths.{shortest_of}
use Rattle.job.specs.Refusal.{reply_of, first, refused}
use Rattle.job.specs.Resources.{handover, store_amount, store_cap}
use Rattle.job.specs.Valid.{action_rows, limit_rows, uses_beyond, job_rows}
use Rattle.job.specs.declared.Form.TheVariants.{Four, Five}
use Rattle.job.specs.declared.StoreRule.TheVariants.{PerStep, PerHour}
use Rattle.job.specs.declared.refusal.Refusal.TheVariants.{ForeignAskedFact, PlanSlice, JoinedTooLong}
use Rattle.job.specs.Refusal.{pass}
use Rattle.job.proofs.Passed.{passed}
use Rattle.job.proofs.Table.{first_next, first_append_pass, first_none}
use Rattle.timeline.specs.Places.{Place}
use Rattle.timeline.specs.Step.{Step, step_of, steps_in, plan_bytes, before}
use Rattle.timeline.specs.Timeline.{free, peak}
use Rattle.timeline.specs.Accepted.{Accepted, shape_rows, step_rows, plan_rows}
use Rattle.timeline.specs.declared.Day.{Day}
use Rattle.timeline.proofs.Tests.{not_both, or_cases}
use Rattle.timeline.proofs.Rising.{before_reads}
use Rattle.makespan.specs.Makespan.{ends_at, is_pass, makespan, makespan_from}
use Rattle.makespan.proofs.LeastEnds.{least_end_of_makespan, nothing_begun}
use Rattle.listing.specs.Shortest.{ShortestEnd}
use Rattle.listing.specs.Listed.{Listed, same_step, comes_first}
use Rattle.listing.proofs.Lists.{list_of_none}
use Rattle.listing.proofs.ListedPlans.{shortest_of_least}
use Rattle.listing.proofs.Exists.{drops_of_none, drops_with}
use Rattle.joining.specs.Join.{join_steps}
use Rattle.joining.specs.Answer.{join_answer, left_by_join}
use Rattle.joining.specs.Parts.{join_call}
use Rattle.halving.specs.Afternoon.{afternoon}
use Rattle.halving.specs.Halves.{halves_rows, FirstListed, Halves}
use Rattle.halving.proofs.Meaning.{no_afternoon_is_22}

-- ---- fact 0 in two minutes, then fact 1, which needs it, in three. Each uses one receiver of one, which stays in use
-- for five minutes more, and one battery of the two that the reserve leaves of four
abbrev small : ℕ → Job
small deadline =
    record {
      facts = 2;
      deadline = deadline;
      start = 0;
      goal = 2;
      form = Five;
      rule = PerHour;
      reserve = 50;
      pools = 1 ∷ [];
      handovers = 5 ∷ [];
      stores = 4 ∷ [];
      shortest = [];
      actions = record { duration = 2; needs = 0; adds = 1; deletes = 0; pools = 1 ∷ []; stores = 1 ∷ [] }
          ∷ record { duration = 3; needs = 1; adds = 2; deletes = 0; pools = 1 ∷ []; stores = 1 ∷ [] } ∷ [];
    }

-- one step at minute 0, of action 0 or 1
abbrev morning : List ℕ
morning = 0 ∷ 0 ∷ 0 ∷ []

abbrev later : List ℕ
later = 1 ∷ 0 ∷ 0 ∷ []

-- each half is accepted, the second from what the first leaves; with half of it kept back again it would be 18
pub halves_accepted : Accepted (small 10) 1 morning
    × Accepted (afternoon (small 10) (steps_in (small 10) morning)) 2 later
unfolding tabulate any has union difference subset meets foreign from_bytes to_bytes first steps_in free handover
    store_amount store_cap step_rows plan_rows
halves_accepted = (refl, refl)

-- the second starts at the end of the first, two, plus the handover, five
pub joined_small : join_call (small 10) morning later (replicate 96 7)
    ≡ record {
      answer = Ok (record { end = 10; steps = 2; peaks = 1 ∷ 0 ∷ 0 ∷ 0 ∷ [] });
      after = 0 ∷ 0 ∷ 0 ∷ 1 ∷ 7 ∷ 0 ∷ replicate 90 7;
    }
unfolding tabulate any has union difference subset meets foreign from_bytes to_bytes overwrite first handover store_amount
    store_cap shortest_of action_rows limit_rows uses_beyond job_rows steps_in plan_bytes free peak shape_rows join_steps
    join_answer left_by_join
joined_small = refl

-- a minute less until the deadline: 34, and the slice as it was
pub too_long_small : join_call (small 9) morning later (replicate 96 7)
    ≡ record { answer = Err JoinedTooLong; after = replicate 96 7 }
unfolding tabulate any has union difference subset meets foreign from_bytes to_bytes overwrite first handover store_amount
    store_cap shortest_of action_rows limit_rows uses_beyond job_rows steps_in plan_bytes free peak shape_rows join_steps
    join_answer left_by_join
too_long_small = refl

-- ---- one battery, and a deadline of two minutes: fact 0 in one minute, or both facts in two; each uses the battery
abbrev one_battery : Job
one_battery =
    record {
      facts = 2;
      deadline = 2;
      start = 0;
      goal = 3;
      form = Four;
      rule = PerStep;
      reserve = 0;
      pools = [];
      handovers = [];
      stores = 1 ∷ [];
      shortest = [];
      actions = record { duration = 1; needs = 0; adds = 1; deletes = 0; pools = []; stores = 1 ∷ [] }
          ∷ record { duration = 2; needs = 0; adds = 3; deletes = 0; pools = []; stores = 1 ∷ [] } ∷ [];
    }

-- the first plan for fact 0
abbrev quick : List Step
quick = step_of one_battery 0 0 ∷ []

passes : first (job_rows one_battery) ≡ pass
unfolding tabulate any has union difference subset meets foreign first action_rows limit_rows uses_beyond job_rows
    shortest_of store_amount store_cap handover
passes = refl

least_end : ShortestEnd one_battery 1 1
unfolding tabulate any has union difference subset meets first free handover store_amount store_cap step_rows makespan_from
least_end =
    shortest_of_least one_battery 1 1
    (least_end_of_makespan one_battery 1 0 [] (passed one_battery passes) (nothing_begun one_battery) 1 refl)

accepts : List Step → Bool
accepts P = is_pass (first (plan_rows one_battery 1 (plan_bytes P)))

spares_none : (x : Step) (Q : List Step) → Place x Q quick → accepts Q ≡ false
unfolding tabulate any has union difference subset meets from_bytes to_bytes first steps_in plan_bytes free handover
    store_amount store_cap step_rows plan_rows accepts
spares_none =
    drops_with accepts (step_of one_battery 0 0) [] refl (drops_of_none (λ Q. accepts (step_of one_battery 0 0 ∷ Q)))

-- no plan comes before it but the empty one, which is not listed
none_before : (P : List Step) → Listed one_battery 1 P → comes_first P quick ≡ true → ⊥
unfolding tabulate any has union difference subset meets from_bytes to_bytes first steps_in plan_bytes free handover
    store_amount store_cap step_rows plan_rows
none_before [] listed h = not_both (ap is_pass listed.accepted) refl
none_before (x ∷ P) listed h =
    ⊎_elim
    (λ b.
    ⊎_elim (λ l. let e : x.start < 0 = l in omega arith) (λ r. let e : x.number < 0 = r.1 in omega arith)
    (before_reads x (step_of one_battery 0 0) b))
    (λ r. not_both (and_right (same_step x (step_of one_battery 0 0)) _ r) (no_further P))
    (or_cases (before x (step_of one_battery 0 0)) _ h)
  where
    no_further : (P : List Step) → comes_first P [] ≡ false
    no_further [] = refl
    no_further (y ∷ P) = refl

quick_is_first : FirstListed one_battery 1 quick
unfolding tabulate any has union difference subset meets from_bytes to_bytes first steps_in plan_bytes free handover
    store_amount store_cap step_rows plan_rows accepts
quick_is_first =
    record {
      listed = record {
        in_bytes = refl;
        accepted = refl;
        least = least_end.least;
        none_spare = λ x Q i h. not_both (ap is_pass h) (spares_none x Q i);
      };
      earlier = [];
      those = list_of_none one_battery 1 (λ P. comes_first P quick ≡ true) none_before;
      count = refl;
    }

own : foreign 2 1 ≡ false
unfolding foreign
own = refl

tested : (slice : List ℕ) → 96 ≤ length slice → first (halves_rows one_battery 1 slice) ≡ pass
tested slice room =
    first_append_pass (job_rows one_battery) _ passes
    ∙ first_next ForeignAskedFact _ _ own
    ∙ first_next PlanSlice _ [] (le-ltb (length slice) 96 room) ∙ first_none

-- "Either half without a plan is 22, even where the whole day has one": the first plan for fact 0 uses up the battery,
-- while the whole day has a plan of two minutes
pub no_afternoon_though_a_day : (slice : List ℕ) → 96 ≤ length slice → (answer : Result Day Refusal) (after : List ℕ)
    → Halves FirstListed one_battery 1 slice answer after
    → (makespan one_battery 3 ≡ ends_at 2) × (reply_of answer ≡ refused 22) × (after ≡ slice)
unfolding tabulate any has union difference subset meets first free handover store_amount store_cap step_rows makespan_from
no_afternoon_though_a_day slice room answer after h =
    let none = no_afternoon_is_22 one_battery 1 slice answer after h (tested slice room) quick quick_is_first refl in
    (refl, none.0, none.1)
