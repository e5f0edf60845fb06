-- Openings: how they are filled, and that no plan uses a pool before its opening.
-- Assumes nothing.
use Prim.Native.Nat.{ℕ, ◌+◌, ◌*◌, ◌≤◌, ◌<◌}
use mathlib.Core.Path.{◌≡◌, ap}
use mathlib.Core.List.{List, ◌++◌}
use native.Mathlib.Omega.{arith}
use lib.ListN.{length, get_or}
use Rattle.job.specs.Job.{Action, Job}
use Rattle.timeline.specs.Step.{Step}
use Rattle.timeline.proofs.Places.{place_append}
use Rattle.times.proofs.PlanSteps.{own_action, needs_at_lem}
use Rattle.earliest.specs.Numbers.{set_number}
use Rattle.times.specs.Earliest.{action_of}
use Rattle.tables.specs.declared.Frame.{Frame}
use Rattle.tables.specs.Tables.{needs_at, Describes}
use Rattle.landmarks.specs.Bounds.{TimesBound}
use Rattle.landmarks.specs.Tables.{KeptBefore}
use Rattle.landmarks.specs.Openings.{OpensAt, OpenTo, OpeningsTo}

-- what a user of the pool needs holds at its start, so the start is not before the time of that
pub opens_of_tables : (J : Job) (sets numbers times : List ℕ) (frame : Frame) → Describes J sets numbers frame
    → (b : ℕ) (K : List Step) (origin : ℕ) → TimesBound J b K origin times → (pool minute : ℕ)
    → pool < length J.pools → OpenTo sets numbers times frame frame.actions pool minute
    → OpensAt J b K pool (minute + origin)
opens_of_tables J sets numbers times frame described b K origin bounds pool minute inside opening T goal E new plan x
    Q i uses =
    let in_plan = place_append K i in
    let known : x.number < frame.actions = rw described.actions at (plan.known x _ in_plan) in
    let each = described.each x.number known in
    let lasts = plan.keeps.lasting x _ in_plan in
    let in_time = plan.keeps.in_time x _ in_plan in
    let after = new x Q i in
    let own = ap (λ (a : Action). get_or a.pools pool 0) (own_action J T goal (E ++ K) plan in_plan) in
    let use_of_pool = each.pools pool inside in
    let soonest = opening x.number known (omega arith) in
    let number = (bounds T goal (omega arith) E new plan (action_of J x.number).needs x.start after
    (needs_at_lem J T goal (E ++ K) plan in_plan x.start (omega arith) lasts)).0 in
    let same : set_number times (needs_at sets x.number) frame.facts
    ≡ set_number times (action_of J x.number).needs J.facts = rw (each.needs, described.facts) in
    omega arith

-- the openings stay while cliques are filled behind them
pub openings_kept : (sets sets' numbers numbers' times : List ℕ) (frame : Frame) → frame.actions ≤ 64
    → KeptBefore 320 384 sets sets' → KeptBefore 1156 1220 numbers numbers' → OpeningsTo sets numbers times frame 4
    → OpeningsTo sets' numbers' times frame 4
openings_kept sets sets' numbers numbers' times frame few kept kept_numbers openings pool inside i known uses =
    let needs = kept.same (i * 4) (omega arith) in
    let minute = kept_numbers.same (1152 + pool) (omega arith) in
    let amount = kept_numbers.same (i * 9 + 1 + pool) (omega arith) in
    rw (needs, minute) (openings pool inside i known (rw amount at uses))
