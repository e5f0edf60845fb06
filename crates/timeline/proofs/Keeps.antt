-- An accepted plan keeps the rules up to any horizon from its end on; one that keeps them is accepted.
-- Assumes nothing.
use Prim.Native.Nat.{ℕ, ◌<◌, ◌≤◌}
use mathlib.Core.Path.{◌≡◌}
use mathlib.Core.Bool.{true}
use mathlib.Core.List.{List}
use native.Mathlib.Omega.{arith}
use lib.ListN.{length}
use Rattle.job.specs.Job.{Job}
use Rattle.job.specs.Refusal.{first}
use Rattle.job.specs.Refusal.{pass}
use Rattle.timeline.specs.Step.{Step, strictly_rising}
use Rattle.timeline.specs.Timeline.{end}
use Rattle.timeline.specs.Accepted.{step_rows}
use Rattle.timeline.specs.Places.{EachStep}
use Rattle.timeline.specs.Keeps.{Lasting, Keeps}
use Rattle.timeline.proofs.Places.{largest_at_least, largest_at_most}
use Rattle.timeline.proofs.HeldFacts.{held_after_end}
use Rattle.timeline.proofs.AcceptedSteps.{AcceptedSteps, accepted_steps, steps_accepted}

pub keeps_of_accepted : (J : Job) (goal : ℕ) (P : List Step) (T : ℕ) → Lasting P
    → first (step_rows J goal P) ≡ pass → end P ≤ T → Keeps J T goal P
keeps_of_accepted J goal P T lasting h l =
    let a = accepted_steps J goal P h in
    record {
      lasting = lasting;
      in_time = λ x Q i. let e = largest_at_least (λ y. y.stop) i in omega arith;
      no_clash = a.no_clash;
      pools = a.pools;
      stores = a.stores;
      needs_hold = a.needs_hold;
      goal_holds = λ n g. rw (held_after_end J.start P T l) (a.goal_holds n g);
    }

pub accepted_of_keeps : (J : Job) (goal : ℕ) (P : List Step) (T : ℕ) → T ≤ J.deadline
    → EachStep (λ x. x.number < length J.actions) P → strictly_rising P ≡ true → Keeps J T goal P
    → (first (step_rows J goal P) ≡ pass) × (end P ≤ T)
accepted_of_keeps J goal P T d known rising k =
    let l : end P ≤ T = largest_at_most (λ x. x.stop) T P k.in_time in
    let steps : AcceptedSteps J goal P
    = record {
      known = known;
      rising = rising;
      before_deadline = λ x Q i. let b = k.in_time x Q i in omega arith;
      no_clash = k.no_clash;
      pools = k.pools;
      stores = k.stores;
      needs_hold = k.needs_hold;
      goal_holds = λ n g. rw (held_after_end J.start P T l) at (k.goal_holds n g);
    } in
    (steps_accepted J goal P steps, l)
