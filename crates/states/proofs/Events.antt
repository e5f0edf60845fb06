-- Between two event minutes no chosen step touches a minute.
-- Assumes nothing.
use Prim.Native.Nat.{ℕ, ◌<◌}
use mathlib.Core.Path.{refl, ap}
use mathlib.Core.Logic.{inl, ⊎_elim}
use native.Mathlib.Omega.{arith}
use Rattle.job.specs.Job.{Job}
use Rattle.timeline.specs.Step.{Step}
use Rattle.timeline.specs.Places.{EachStep}
use Rattle.regression.proofs.BlockedSteps.{Touches}
use Rattle.tables.specs.Tables.{Describes, chosen}
use Rattle.tables.specs.declared.Frame.{Frame}
use Rattle.tables.specs.declared.Steps.{Steps}
use Rattle.states.specs.Moves.{NoEventBetween}
use Rattle.states.proofs.Chosen.{place_of_chosen}
use mathlib.Core.List.{List}

module _ (J : Job) (sets numbers : List ℕ) (frame : Frame) (described : Describes J sets numbers frame) (steps : Steps)
    (s t : ℕ) (none : NoEventBetween frame.handovers frame.pools steps s t) where
  pub untouched_between : (m : ℕ) → s < m → m < t → EachStep (λ x. Touches J m x → ⊥) (chosen J steps)
  untouched_between m after before x Q p touches =
      let k = place_of_chosen J steps steps.count p in
      let same = ap (λ (y : Step). y.start) k.2 in
      ⊎_elim (λ e. none.starts k.0 k.1 m after before (omega arith))
      (λ r.
      let count = described.pools in
      let wait = described.handovers r.0 r.1 in
      let inside = r.1 in
      let e = r.2 in
      none.put_off r.0 (omega arith) k.0 k.1 m after before (omega arith))
      touches

  pub no_start_between : EachStep (λ x. s < x.start → x.start < t → ⊥) (chosen J steps)
  no_start_between x Q p after before = untouched_between x.start after before x Q p (inl refl)
