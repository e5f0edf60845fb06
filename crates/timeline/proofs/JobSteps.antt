-- The steps of a job: each lasts at least a minute, and the plan in bytes is made of them.
-- Assumes nothing.
use Prim.Native.Nat.{ℕ, ◌*◌, ◌/◌, ◌<◌, ◌≤◌}
use mathlib.Core.Path.{◌≡◌, refl, sym, ap, ap₂, ◌∙◌}
use mathlib.Core.List.{List}
use native.Mathlib.Omega.{arith}
use lib.ListN.{length}
use Rattle.lists.proofs.Tabulate.{each_tabulate, each_at}
use Rattle.encoding.specs.Bytes.{part}
use Rattle.job.specs.Job.{Job, no_action}
use Rattle.job.specs.Refusal.{first}
use Rattle.job.specs.Passed.{Passed, PassedAction}
use Rattle.job.specs.Refusal.{pass}
use Rattle.job.proofs.Table.{first_pass}
use Rattle.timeline.specs.Step.{Step, step_of, step_in, steps_in}
use Rattle.timeline.specs.Timeline.{end}
use Rattle.timeline.specs.Accepted.{Accepted, plan_rows, step_rows}
use Rattle.timeline.specs.Places.{EachStep}
use Rattle.timeline.specs.Keeps.{Lasting, Keeps, OfJob}
use Rattle.timeline.proofs.Places.{each_step}
use Rattle.timeline.proofs.AcceptedSteps.{accepted_steps}
use Rattle.timeline.proofs.Keeps.{keeps_of_accepted}

pub same_step_lem : (J : Job) (x y : Step) → OfJob J x → OfJob J y → x.number ≡ y.number → x.start ≡ y.start → x ≡ y
same_step_lem J x y p q e f = p ∙ ap₂ (step_of J) e f ∙ sym q

pub steps_last : (J : Job) (number start : ℕ) → Passed J → number < length J.actions
    → start < (step_of J number start).stop
steps_last J number start passed l =
    let a = each_at (PassedAction J.facts) J.actions no_action passed.actions number l in
    let d = a.duration in
    omega arith

pub lasting_of_known : (J : Job) (P : List Step) → Passed J → EachStep (OfJob J) P
    → EachStep (λ x. x.number < length J.actions) P → Lasting P
lasting_of_known J P passed own known x Q i =
    let d = steps_last J x.number x.start passed (known x Q i) in
    let e : x.stop ≡ (step_of J x.number x.start).stop = ap (λ (y : Step). y.stop) (own x Q i) in
    omega arith

pub steps_in_bytes : (J : Job) (bytes : List ℕ) → EachStep (OfJob J) (steps_in J bytes)
unfolding steps_in
steps_in_bytes J bytes =
    each_step (OfJob J) _
    (each_tabulate (OfJob J) (length bytes / 3) (λ i. step_in J (part bytes (i * 3) 3)) (λ i l. refl))

-- the plan in bytes, accepted
pub steps_of_accepted : (J : Job) (goal : ℕ) (bytes : List ℕ) → Accepted J goal bytes
    → first (step_rows J goal (steps_in J bytes)) ≡ pass
unfolding plan_rows
steps_of_accepted J goal bytes h = (first_pass _ _ _ h).1

pub keeps_of_bytes : (J : Job) (goal : ℕ) (bytes : List ℕ) (T : ℕ) → Passed J → Accepted J goal bytes
    → end (steps_in J bytes) ≤ T → Keeps J T goal (steps_in J bytes)
keeps_of_bytes J goal bytes T passed h l =
    let pass = steps_of_accepted J goal bytes h in
    let known = (accepted_steps J goal (steps_in J bytes) pass).known in
    keeps_of_accepted J goal (steps_in J bytes) T
    (lasting_of_known J (steps_in J bytes) passed (steps_in_bytes J bytes) known)
    pass l
