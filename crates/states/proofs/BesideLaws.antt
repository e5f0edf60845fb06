-- Why an action that may not run beside a chosen step does not stop at the state's minute.
-- Assumes nothing.
use Prim.Native.Nat.{ℕ, suc, ◌+◌, ◌-◌, ◌≤◌, ◌<◌}
use mathlib.Core.Path.{◌≡◌, ap, ◌∙◌}
use mathlib.Core.Bool.{true}
use mathlib.Core.List.{List, ◌∷◌}
use native.Mathlib.Omega.{arith}
use lib.ListN.{length, get_or}
use Rattle.facts.specs.FactSet.{has}
use Rattle.job.specs.Resources.{handover}
use Rattle.job.specs.Job.{Job}
use Rattle.timeline.specs.Step.{Step}
use Rattle.timeline.specs.From.{FitsFrom}
use Rattle.timeline.specs.Places.{Member}
use Rattle.times.specs.Earliest.{action_of}
use Rattle.regression.specs.DeadEnd.{Until}
use Rattle.tables.specs.Tables.{Describes, Known, chosen, clashes_at, duration_at, from_of}
use Rattle.tables.specs.declared.Frame.{Frame}
use Rattle.states.specs.declared.state.State.{State}
use Rattle.states.specs.declared.amounts.Uses.{Uses}
use Rattle.states.specs.Amounts.{UsesOf, ExceededUntil}
use Rattle.states.specs.States.{Stands, DeadFor, next_step}
use Rattle.states.proofs.BarredActions.{barred_when_clashing_while_running}
use Rattle.states.proofs.BarredActions.{barred_when_pool_exceeded_while_shared}
use Rattle.states.proofs.Chosen.{step_at, chosen_at_place}

-- action i would stop at the state's minute; the chosen step at place k stops before that
module _ (J : Job) (sets numbers : List ℕ) (frame : Frame) (described : Describes J sets numbers frame) (st : State)
    (known_steps : Known frame.actions st.steps) (stands : Stands J frame st) (i : ℕ) (known : i < frame.actions)
    (fits : FitsFrom (from_of frame) i (action_of J i).duration st.minute) (k : ℕ)
    (chosen_step : k < st.steps.count) (stop : ℕ)
    (stops : stop ≡ get_or st.steps.starts k 0 + duration_at numbers (get_or st.steps.numbers k 0))
    (before : stop < st.minute) where
  abbrev L : List Step
  L = chosen J st.steps

  abbrev y : Step
  y = step_at J st.steps k

  abbrev Result : Type 0
  Result = DeadFor J frame (Until (from_of frame) st.minute) (next_step J st i ∷ L)

  known_step : y.number < frame.actions
  known_step = known_steps.known k chosen_step

  same_stop_lem : stop ≡ y.stop
  same_stop_lem = stops ∙ ap (λ (d : ℕ). y.start + d) (described.each y.number known_step).duration

  lasts : y.start < stop
  lasts = let s = same_stop_lem in let d = (described.each y.number known_step).positive in omega arith

  -- it runs in the last minute of the chosen step
  pub barred_beside_clashing : st.minute < stop + duration_at numbers i
      → has (clashes_at sets i) (get_or st.steps.numbers k 0) ≡ true → Result
  barred_beside_clashing after h =
      let member : Member y L = chosen_at_place J st.steps st.steps.count k chosen_step in
      let d = (described.each i known).duration in
      let s = same_stop_lem in
      let l = lasts in
      barred_when_clashing_while_running J sets numbers frame described st known_steps stands i known fits y
      member.0 member.1 (omega arith) (omega arith) h

  -- a pool in the last minute in which the chosen step has its share, where the action has its own
  pub barred_beside_exceeded : frame.pools ≤ 4 → (uses : Uses) → UsesOf J stop L uses
      → ExceededUntil numbers frame i uses.before (stop + duration_at numbers i) st.minute → Result
  barred_beside_exceeded few uses holds e =
      let l = lasts in
      let m : ℕ = stop - 1 in
      let next : suc m ≡ stop = omega arith in
      let pool : ℕ = e.pool in
      let inside = e.inside in
      let shared = e.shared in
      let over = e.over in
      let count = described.pools in
      let known_pool : pool < length J.pools = omega arith in
      let wait = described.handovers pool known_pool in
      let d = (described.each i known).duration in
      let available = described.available pool inside in
      let amount = (described.each i known).pools pool known_pool in
      let sum = holds.before m next pool (omega arith) known_pool in
      barred_when_pool_exceeded_while_shared J sets numbers frame described st known_steps stands i known fits pool
      (m + handover J pool) known_pool (omega arith) (omega arith) (omega arith)
