-- The needs of a step hold while it runs.
-- Assumes nothing.
use Prim.Native.Nat.{ℕ, zero, suc, ◌<◌, ◌≤◌}
use mathlib.Core.Path.{◌≡◌, ap}
use mathlib.Core.Bool.{true}
use mathlib.Core.Logic.{⊎_elim}
use mathlib.Core.List.{List}
use native.Mathlib.Nat.{eq-or-lt_of_le}
use native.Mathlib.Omega.{arith}
use Rattle.facts.specs.FactSet.{has, Subset}
use Rattle.job.specs.Job.{Job}
use Rattle.timeline.specs.Step.{Step}
use Rattle.timeline.specs.Timeline.{held}
use Rattle.timeline.specs.Places.{Place}
use Rattle.timeline.specs.Keeps.{Lasting, NeedsHold, Keeps}
use Rattle.timeline.proofs.Places.{split_place}
use Rattle.timeline.proofs.HeldFacts.{NotDeleted, held_when_kept}
use Rattle.timeline.proofs.Clashes.{NoClash, no_clash_of_test}

module _ (S : ℕ) (P : List Step) (lasting : Lasting P) (no_clash : NoClash P) (needs_hold : NeedsHold S P) where
  -- no step that stops while x runs deletes what x needs
  pub needs_not_deleted : (x : Step) (Q : List Step) → Place x Q P → (t : ℕ) → x.start ≤ t → suc t < x.stop
      → (n : ℕ) → has x.action.needs n ≡ true → NotDeleted P (suc t) n
  needs_not_deleted x Q i t a b n h y R j e d =
      ⊎_elim (λ q. let z : y.stop ≡ x.stop = ap (λ (s : Step). s.stop) q in omega arith)
      (λ r. let l = lasting y R j in (no_clash x Q i y r.0 r.1 (omega arith) (omega arith)).spared.needs n d h)
      (split_place i j)

  pub needs_hold_while_running : (x : Step) (Q : List Step) → Place x Q P → (t : ℕ) → x.start ≤ t → t < x.stop
      → Subset x.action.needs (held S P t)
  needs_hold_while_running x Q i zero a b n h = let e : x.start ≡ 0 = omega arith in rw e at (needs_hold x Q i n h)
  needs_hold_while_running x Q i (suc t) a b n h =
      ⊎_elim (λ e. rw e at (needs_hold x Q i n h))
      (λ l.
      held_when_kept S P t n (needs_hold_while_running x Q i t (omega arith) (omega arith) n h)
      (needs_not_deleted x Q i t (omega arith) (omega arith) n h))
      (eq-or-lt_of_le a)

-- of a plan that keeps the rules
pub keeps_needs_hold : (J : Job) (T goal : ℕ) (P : List Step) → Keeps J T goal P → (x : Step) (Q : List Step)
    → Place x Q P → (t : ℕ) → x.start ≤ t → t < x.stop → Subset x.action.needs (held J.start P t)
keeps_needs_hold J T goal P keeps =
    needs_hold_while_running J.start P keeps.lasting (no_clash_of_test P keeps.no_clash) keeps.needs_hold
