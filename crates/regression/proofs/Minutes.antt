-- Dead ends from minute to minute: a new step stops only at an event minute of the chosen steps.
-- Assumes nothing.
use Prim.Native.Nat.{ℕ, zero, suc, ◌+◌, ◌-◌, ◌<◌, ◌≤◌}
use mathlib.Core.Path.{◌≡◌, ap, ◌∙◌}
use mathlib.Core.Bool.{Bool, true, false}
use mathlib.Core.Logic.{⊎_elim}
use mathlib.Core.List.{List, ◌++◌}
use native.Mathlib.Nat.{eq-or-lt_of_le}
use native.Mathlib.Omega.{arith}
use lib.ListN.{length}
use borrow.Author.Tests.{ne_eqb}
use Rattle.job.specs.Job.{Job}
use Rattle.timeline.specs.Step.{Step}
use Rattle.timeline.specs.From.{From}
use Rattle.timeline.specs.Places.{EachStep}
use Rattle.timeline.proofs.Tests.{not_both, false_unless, or_neither}
use Rattle.timeline.proofs.Places.{place_append, any_of_none}
use Rattle.regression.specs.Normal.{touches_at, event_minute}
use Rattle.regression.specs.DeadEnd.{Until, Open, Dead}
use Rattle.regression.proofs.BlockedSteps.{Touches, touches_reads}
use Rattle.regression.proofs.TailTests.{blocked_stops_at_event}
use Rattle.regression.proofs.Decisions.{dead_when_all_decided}

pub no_event_lem : (J : Job) (T : ℕ) (L : List Step) (m : ℕ) → (m ≡ T → ⊥) → EachStep (λ x. Touches J m x → ⊥) L
    → event_minute J T L m ≡ false
no_event_lem J T L m before none =
    or_neither (ne_eqb m T before)
    (any_of_none (touches_at J m) L
    (λ x Q i. false_unless (touches_at J m x) (λ t. none x Q i (touches_reads J m x t))))

module _ (J : Job) (b : From) (goal T : ℕ) (L : List Step) where
  dead_before_no_event : (m : ℕ) → event_minute J T L (suc m) ≡ false → Dead J b goal T (Until b m) L
      → Dead J b goal T (Until b (suc m)) L
  dead_before_no_event m none dead E h p =
      dead E
      (λ x Q i.
      let u = h x Q i in
      let j = place_append L i in
      ⊎_elim
      (λ e.
      let event = blocked_stops_at_event J goal T E L p.plan.keeps (suc m) (λ y R k. (h y R k).2) j (omega arith)
      (p.blocked_steps x (Q ++ L) j u.0) in
      not_both event (ap (event_minute J T L) e ∙ none))
      (λ l. (u.0, u.1, omega arith))
      (eq-or-lt_of_le u.2))
      p

  -- no event after s and by t: go back to s
  pub dead_jump : (s t : ℕ) → s ≤ t → ((m : ℕ) → s < m → m ≤ t → event_minute J T L m ≡ false)
      → Dead J b goal T (Until b s) L → Dead J b goal T (Until b t) L
  dead_jump s t l none dead = go (t - s) t (omega arith) none
    where
      go : (k t : ℕ) → k + s ≡ t → ((m : ℕ) → s < m → m ≤ t → event_minute J T L m ≡ false)
          → Dead J b goal T (Until b t) L
      go zero t e none = let z : t ≡ s = omega arith in rw z dead
      go (suc k) t e none =
          let z : t ≡ suc (k + s) = omega arith in
          rw z
          (dead_before_no_event (k + s) (none (suc (k + s)) (omega arith) (omega arith))
          (go k (k + s) (omega arith) (λ m a c. none m a (omega arith))))

  -- every action is decided at t, and no event is after s and before t: go back to s
  pub dead_back_to_event : (s t : ℕ) → s < t → (done : ℕ → Bool)
      → ((a : ℕ) → a < length J.actions → done a ≡ true)
      → ((m : ℕ) → s < m → m < t → event_minute J T L m ≡ false) → Dead J b goal T (Until b s) L
      → Dead J b goal T (Open b t done) L
  dead_back_to_event s t l done all none dead =
      dead_when_all_decided J b goal T t (t - 1) (omega arith) done L all
      (dead_jump s (t - 1) (omega arith) (λ m a c. none m a (omega arith)) dead)
